use Rattle.std.proofs.Common.{rules, ap, ◌∙◌, ◌++◌, arith}
use Rattle.script_text.specs.Line.{kept_of}
use Rattle.console_run.proofs.Pieces.{slice_rest}
use Rattle.console_run.proofs.Outcomes.{passed-on, rose-later}
use Rattle.console_run.proofs.Advances.{line-fed, line-fed-cut, rest-fed}
use Rattle.console_run.proofs.console.Console.feed.Goals as goal

pub returns-in_err-end_line-clause-err : goal.returns-in_err-end_line-clause-err
returns-in_err-end_line-clause-err g c = λ held before taken p.
    passed-on _ c.from_residual.result c.in_err-end_line.field-0.0 c.from_residual.ensures.1
    (line-fed-cut _ _ held before taken c.args.piece.now c.loop-end.at c.in-Some.end _ _ _ _
    (c.loop-end.invariant.1 held before taken p) c.in-Some.ensures.found
    _ _ c.gather.ensures.session c.gather.ensures.kept _ _ _ c.in_err-end_line.ensures.err)

pub returns-in_err-end_line-clause-cause : goal.returns-in_err-end_line-clause-cause
returns-in_err-end_line-clause-cause g c =
    passed-on _ c.from_residual.result c.in_err-end_line.field-0.0 c.from_residual.ensures.1
    (λ failed. rose-later _ _ _ c.loop-end.invariant.3 (c.in_err-end_line.ensures.cause failed))

pub loop-end-preserved : goal.loop-end-preserved
loop-end-preserved g c = (
  omega (arith, c.in-Some.ensures.found.within),
  λ held before taken p. line-fed _ held before taken c.args.piece.now c.loop-end.at c.in-Some.end _
      _ _ _
      (c.loop-end.invariant.1 held before taken p) c.in-Some.ensures.found
      _ _ c.gather.ensures.session c.gather.ensures.kept _ _ _ _ c.in_ok-end_line.ensures.ok
      c.end_line.ensures.empty,
  search rules,
  search rules,
  search rules,
)

pub returns-clause-ok : goal.returns-clause-ok
returns-clause-ok g c = λ held before taken p. rest-fed _ held before taken c.args.piece.now
    c.loop-end.at _ _ _ _
    (c.loop-end.invariant.1 held before taken p) c.in_default.ensures.none
    _ _ c.gather-2.ensures.session
    (λ line h. c.gather-2.ensures.kept line h
    ∙ ap (λ bs. kept_of (line ++ bs)) (slice_rest c.args.piece.now c.loop-end.at))
