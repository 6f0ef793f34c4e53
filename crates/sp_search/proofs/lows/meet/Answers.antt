use Rattle.std.proofs.Common.{◌≡◌, ℕ, length, ◌∙◌, subst, arith}
use Rattle.sp_search.specs.Lows.{HasMet}
use Rattle.sp_search.proofs.Findings.{find_long}
use Rattle.sp_search.proofs.Reaches.{met_more}
use Rattle.sp_search.proofs.lows.meet.Goals as goal

pub loop-arc-preserved : goal.loop-arc-preserved
loop-arc-preserved c =
    let net = c.args.net.now in
    let queue = c.loop-arc.found.queue.items in
    let marks = c.loop-arc.found.marks.items in
    let j = c.loop-arc.arc-index in (
      find_long c.in_ok-find.field-0 queue marks c.find.new.self.queue.items c.find.new.self.marks.items _ c.in_ok-find.ensures ∙ c.loop-arc.invariant.0,
      λ opened is.
          met_more net opened c.args.number c.args.cycle.now j c.args.found.now.queue.items c.args.found.now.marks.items queue marks (c.loop-arc.invariant.1 opened is) c.loop-arc-test.true
          c.source_of.result c.source_of.ensures.is c.source_of.ensures.node c.in_ok-find.field-0 c.find.new.self.queue.items c.find.new.self.marks.items c.in_ok-find.ensures,
    )

pub returns : goal.returns
returns c = λ opened is.
    let e : c.loop-arc.arc-index ≡ length c.args.cycle.now = omega (arith, c.loop-arc.auto.arc-index-end) in
    let P : ℕ → Type 0 = λ j. HasMet c.args.net.now opened c.args.number c.args.cycle.now j c.args.found.now.queue.items c.args.found.now.marks.items c.loop-arc.found.queue.items c.loop-arc.found.marks.items in
    subst P e (c.loop-arc.invariant.1 opened is)
