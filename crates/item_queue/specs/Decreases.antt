-- What a decrease of a priority and a removal of the least item are.
use Rattle.std.specs.Prelude.{ℕ, ℤ, ◌<ℤ◌, ◌≤ℤ◌}
use Rattle.item_queue.specs.declared.queue.DecreaseRefusal.{DecreaseRefusal}
use Rattle.item_queue.specs.declared.queue.DecreaseRefusal.TheVariants.{Gone, Larger}
use Rattle.item_queue.specs.Contents.{Queued, Lacks, HoldsPriority, IsLeast, Changes, Removes}

module _ {X : Type 0} where
  -- the item with the serial s gets the priority p, which is at most the one before
  abbrev pub Decreases : Queued X → Queued X → ℕ → ℤ → Type 0
  Decreases q r s p = (o : ℤ) × (x : X) × Changes q r s o x p x × (p ≤ℤ o)

  abbrev pub RefusesDecrease : Queued X → ℕ → ℤ → DecreaseRefusal → Type 0
  RefusesDecrease q s p (Gone why) = Lacks q s why
  RefusesDecrease q s p (Larger o) = HoldsPriority q s o × (o <ℤ p)

  -- the least item goes
  abbrev pub RemovesLeast : Queued X → Queued X → ℤ → X → Type 0
  RemovesLeast q r p x = (s : ℕ) × IsLeast q s p x × Removes q r s p x
