use Rattle.std.proofs.Common.{rules, arith, ℕ, sym, subst}
use Rattle.std.proofs.lemmas.List.{take-append-le, length-take}
use Rattle.console_run.proofs.Pumps.{pumped-start, pumped-more, cut-ends, too-long, fault-ends, ended-at-reply, stop-early}
use Rattle.console_run.proofs.Outcomes.{passed-on, rose-later}
use Rattle.console_run.specs.Strict.{IsStop}
use Rattle.console_run.proofs.top.read_script.Goals as goal

pub loop-taken-init : goal.loop-taken-init
loop-taken-init g c = (
  omega arith,
  pumped-start _ _ _ _ _ _ c.requires.session c.requires.line,
  search rules,
  search rules,
  search rules,
  search rules,
  search rules,
  search rules,
)

pub returns-in_err-feed-clause-ends : goal.returns-in_err-feed-clause-ends
returns-in_err-feed-clause-ends g c =
    let p = c.loop-taken.invariant.1 in
    let broken = c.in_err-feed.ensures.err _ _ p.taken p.progress in
    passed-on _ c.from_residual.result c.in_err-feed.field-0.0 c.from_residual.ensures.1
    (ended-at-reply _ _ _ _ broken.is_stop
    (cut-ends _ _ _ _ _ _ _ _ _ _ _ p _ _ _ c.in-Ok.count _ _ c.in-Ok.ensures.bytes.0
    (sym (take-append-le c.in-Ok.count c.read.new.buf _ c.in-Ok.ensures.bound.0))
    (sym c.in-Ok.ensures.bound.1)
    (omega (
      arith,
      c.in-Ok.ensures.bound.0,
      c.read.auto.buf,
      c.min-most.ensures,
      length-take
          {A = ℕ},
    ))
    broken))

pub returns-in_err-feed-clause-early : goal.returns-in_err-feed-clause-early
returns-in_err-feed-clause-early g c =
    let p = c.loop-taken.invariant.1 in
    let broken = c.in_err-feed.ensures.err _ _ p.taken p.progress in
    passed-on _ c.from_residual.result c.in_err-feed.field-0.0 c.from_residual.ensures.1
    (stop-early _ broken.is_stop)

pub returns-in_err-feed-clause-read : goal.returns-in_err-feed-clause-read
returns-in_err-feed-clause-read g c =
    let p = c.loop-taken.invariant.1 in
    let broken = c.in_err-feed.ensures.err _ _ p.taken p.progress in
    passed-on _ c.from_residual.result c.in_err-feed.field-0.0 c.from_residual.ensures.1
    (λ e. absurd (subst IsStop e broken.is_stop))

pub returns-in_err-feed-clause-write : goal.returns-in_err-feed-clause-write
returns-in_err-feed-clause-write g c =
    passed-on _ c.from_residual.result c.in_err-feed.field-0.0 c.from_residual.ensures.1
    (λ failed. rose-later _ _ _ c.loop-taken.invariant.5 (c.in_err-feed.ensures.cause failed))

pub loop-taken-preserved : goal.loop-taken-preserved
loop-taken-preserved g c =
    let p = c.loop-taken.invariant.1 in (
      omega (
        arith,
        c.in-Ok.ensures.bound.0,
        c.read.auto.buf,
        c.min-most.ensures,
        length-take
            {A = ℕ},
      ),
      pumped-more _ _ _ _ _ _ _ _ _ _ p _ _ _ _ _ c.in-Ok.count _ _ c.in-Ok.ensures.bytes.0
          (sym (take-append-le c.in-Ok.count c.read.new.buf _ c.in-Ok.ensures.bound.0))
          (sym c.in-Ok.ensures.bound.1)
          (c.in_ok-feed.ensures.ok _ _ p.taken p.progress),
      search rules,
      search rules,
      search rules,
      search rules,
      search rules,
      search rules,
    )

pub returns-in-Ok-read-clause-ends : goal.returns-in-Ok-read-clause-ends
returns-in-Ok-read-clause-ends g c =
    let p = c.loop-taken.invariant.1 in
    too-long _ _ _ _ _ _ _ _ _ _ p _ _ c.in-Ok-read.ensures.bytes.0
    (omega (arith, c.loop-taken.invariant.0))
    (omega (arith, c.in-Ok-read.ensures.bound.1, c.in-Ok-read.field-0-test.1))

pub returns-in_default-clause-ends : goal.returns-in_default-clause-ends
returns-in_default-clause-ends g c =
    fault-ends _ _ _ _ _ _ _ _ _ _ c.loop-taken.invariant.1 _ c.in_default.ensures.bytes
    c.loop-taken.invariant.0

pub returns-in-Err-clause-ends : goal.returns-in-Err-clause-ends
returns-in-Err-clause-ends g c =
    fault-ends _ _ _ _ _ _ _ _ _ _ c.loop-taken.invariant.1 _ c.in-Err.ensures.bytes
    c.loop-taken.invariant.0
