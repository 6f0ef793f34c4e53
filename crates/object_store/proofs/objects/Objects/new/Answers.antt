-- There are no places, and no items.
use Rattle.std.proofs.Common.{[], sym, subst}
use Rattle.item_pool.specs.Contents.{Contents}
use Rattle.object_store.specs.declared.objects.Place.{Place}
use Rattle.object_store.specs.Kept.{Places, IsKept}
use Rattle.object_store.proofs.Makes.{kept_empty}
use Rattle.object_store.proofs.objects.Objects.new.Goals as goal

pub invariant_of-result : goal.invariant_of-result
invariant_of-result c =
    subst (λ (ps : Places). IsKept ps c.new-2.result) (sym c.new.ensures.items)
    (subst (λ (cells : Contents Place). IsKept [] cells) (sym c.new-2.ensures) kept_empty)
