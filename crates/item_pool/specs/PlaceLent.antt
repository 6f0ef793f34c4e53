-- Private: what the places are once a `&mut` into one of them has ended.
use Rattle.std.specs.Prelude.{ℕ, List, slice_set, Option, Some}
use Rattle.std.specs.Borrow.{Fml, RattleType, MutBor, Lends}
use Rattle.item_pool.specs.declared.places.Places.{Places}
use Rattle.item_pool.specs.contracts.places.Places.{the_row}

abbrev pub with_row : {X : Type 0} → Places X → List (Option X) → Places X
with_row p row = record { mark = p.mark; at = p.at; row = row }

-- the place at the index holds the last value that was written through r
abbrev pub lends_place : (R : RattleType) → MutBor (Places R.Denot) → ℕ → MutBor R.Denot → Fml
lends_place R p i r = Lends (the_row R) R p r (λ w. with_row p.now (slice_set p.now.row i (Some w)))
