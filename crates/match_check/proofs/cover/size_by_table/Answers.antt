use Rattle.std.proofs.Common.{◌≡◌, ◌+◌, List, ℕ, Bool, false, replicate, sym, subst, ◌∙◌, ap, rules, arith}
use Rattle.match_check.specs.Passes.{AreCounted}
use Rattle.match_check.proofs.Halves.{at_most, counted_none, counted_more}
use Rattle.match_check.proofs.cover.size_by_table.Goals as goal

pub loop-label-init : goal.loop-label-init
loop-label-init c =
    let P : List Bool → Type 0 = λ odd. AreCounted c.args.labels.now 0 0 odd in
    let e : c.in_ok-odd.odd.items ≡ replicate (c.args.top + 1) false = search rules in
    subst P (sym (e ∙ ap (λ (top : ℕ). replicate (top + 1) false) c.requires.top)) (counted_none c.args.labels.now)

pub count-size-requires : goal.count-size-requires
count-size-requires c =
    let m = at_most c.args.labels.now c.loop-label.label-index (search rules) in
    omega (arith, c.loop-label.invariant.long)

pub loop-label-preserved : goal.loop-label-preserved
loop-label-preserved c = counted_more c.args.labels.now c.loop-label.label-index c.loop-label.size c.count-size.result c.loop-label.odd.items c.count-size.new.odd.items
    c.loop-label.invariant (search rules) c.count-size.ensures.counted c.count-size.ensures.turned
