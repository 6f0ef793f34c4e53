-- Private: what is done, or is seen, towards the front or towards the rear, by the side.
use Rattle.std.specs.Prelude.{◌≡◌, ℕ, Bool, true, false, List, [], ◌∷◌, ◌++◌, Option, Some}
use Rattle.item_pool.specs.declared.pool.Item.{Item}
use Rattle.item_ring.specs.RingLists.{front, back, with_after, with_before}
use Rattle.item_list.specs.declared.side.Side.{Side}
use Rattle.item_list.specs.declared.side.Side.TheVariants.{Front, Rear}
use Rattle.item_list.specs.Items.{Items, items, serial_of, pairs_without, pairs_behind, pairs_before, Holds, HasItem, HasBetween}

abbrev pub opposite : Side → Side
opposite Front = Rear
opposite Rear = Front

-- the side of a chain that is this side of its list, which may be turned
abbrev pub toward : Bool → Side → Side
toward false side = side
toward true side = opposite side

-- the list with x at its end
abbrev pub with_at : {A : Type 0} → Side → A → List A → List A
with_at Front x xs = x ∷ xs
with_at Rear x xs = xs ++ x ∷ []

-- the list with m right beside `at`
abbrev pub with_beside : Side → ℕ → ℕ → List ℕ → List ℕ
with_beside Front at m xs = with_before at m xs
with_beside Rear at m xs = with_after at m xs

-- the entry at the end
abbrev pub end_of : Side → List ℕ → Option ℕ
end_of Front xs = front xs
end_of Rear xs = back xs

-- the entry right beside one that stands between the two lists
abbrev pub near : Side → List ℕ → List ℕ → Option ℕ
near Front before behind = back before
near Rear before behind = front behind

-- the same round the ends, where m stands between
abbrev pub near_round : Side → ℕ → List ℕ → List ℕ → Option ℕ
near_round Front m before behind = back (m ∷ behind ++ before)
near_round Rear m before behind = front (behind ++ before ++ m ∷ [])

module _ {X : Type 0} where
  abbrev pub pairs_beside : Side → ℕ → ℕ × X → List (ℕ × X) → List (ℕ × X)
  pairs_beside Front s q ps = pairs_before s q ps
  pairs_beside Rear s q ps = pairs_behind s q ps

  abbrev pub MovesTo : Side → Items X → Items X → ℕ → Type 0
  MovesTo side l t s =
      (x : X) × (Holds l s x × (t ≡ items (with_at side (s, x) (pairs_without s l.pairs)) l.made))

  abbrev pub IsBeside : Side → Items X → ℕ → Option Item → Type 0
  IsBeside side l s r =
      HasItem l s
      × ((before behind : List ℕ) → HasBetween l s before behind
      → serial_of r ≡ near side before behind)

  abbrev pub IsCyclicBeside : Side → Items X → ℕ → Item → Type 0
  IsCyclicBeside side l s it =
      HasItem l s
      × ((before behind : List ℕ) → HasBetween l s before behind
      → Some it.serial ≡ near_round side s before behind)
