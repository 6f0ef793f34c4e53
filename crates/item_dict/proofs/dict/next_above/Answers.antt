-- What a range of the tree gives first.
use Rattle.std.proofs.Common.{subst, w64}
use Rattle.std.proofs.lemmas.Int.{to_z-of_z}
use Rattle.std.specs.Ordering.{int_cmp}
use Rattle.std.specs.BTreeMap.Range.{IsRangeOf}
use Rattle.std.specs.declared.ops.Bound.TheVariants.{Excluded, Unbounded}
use Rattle.item_dict.proofs.Trees.{next_after, last_up_to}
use Rattle.item_dict.proofs.dict.next_above.Goals as goal

pub returns-in-Some : goal.returns-in-Some
returns-in-Some c =
    let part = subst (λ z. IsRangeOf int_cmp (Excluded z) Unbounded c.args.tree.now c.range.result) (to_z-of_z w64 c.args.k c.ranges.k) (c.range.ensures.in_range tt) in
    let n = next_after c.args.tree.now c.args.k c.range.result part (c.in-Some.field-0-0.now, c.in-Some.serial.now) _ c.in-Some.ensures.steps in
    (c.in-Some.field-0-0.now, n)

pub returns-in-None : goal.returns-in-None
returns-in-None c =
    let part = subst (λ z. IsRangeOf int_cmp (Excluded z) Unbounded c.args.tree.now c.range.result) (to_z-of_z w64 c.args.k c.ranges.k) (c.range.ensures.in_range tt) in
    last_up_to c.args.tree.now c.args.k c.range.result part c.in-None.ensures.steps.0
