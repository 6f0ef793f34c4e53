-- Private: how nodes that are tied to each other stand for rings.
use Rattle.std.specs.Prelude.{◌≡◌, ℕ, ◌+◌, ◌^◌, ◌<◌, ◌≤◌, Bool, true, false, cond, ◌⊎◌, List, [], ◌∷◌, ◌++◌, length, Some, None}
use Rattle.std.specs.FinMap as map
use Rattle.item_ring.specs.declared.rings.TheConstants.{MOST_NODES}
use Rattle.item_ring.specs.declared.block.State.{State}
use Rattle.item_ring.specs.declared.block.State.TheVariants.{Free, Loose, Linked, Head}
use Rattle.item_ring.specs.Nodes.{Slots, Edits, next_of, prev_of, ring_of, value_of, state_of}
use Rattle.item_ring.specs.RingLists.{IsIn, IsDistinct, list_in}
use Rattle.item_ring.specs.View.{View}

abbrev pub is_head : State → Bool
is_head Free = false
is_head Loose = false
is_head Linked = false
is_head Head = true

abbrev pub is_member : State → Bool
is_member Free = false
is_member Loose = true
is_member Linked = true
is_member Head = false

-- from p on, each is tied to the next in both directions
abbrev pub IsPath : (ℕ → ℕ) → (ℕ → ℕ) → ℕ → List ℕ → Type 0
IsPath next prev p [] = Unit {0}
IsPath next prev p (x ∷ xs) = (next p ≡ x) × (prev x ≡ p) × IsPath next prev x xs

-- the head and its members are one circle, and each member knows its head
pub record IsRing (v : Slots) (h : ℕ) (xs : List ℕ) : Type 0 where
  pub circle : IsPath (next_of v) (prev_of v) h (xs ++ h ∷ [])
  pub linked : (m : ℕ) → IsIn m xs → state_of v m ≡ Linked
  pub mine : (m : ℕ) → IsIn m xs → ring_of v m ≡ h
  pub distinct : IsDistinct xs
  pub counted : value_of v h ≡ length xs

-- a linked node stands in the ring that it names
pub record IsListed (v : Slots) (s : View) (m : ℕ) : Type 0 where
  pub head : state_of v (ring_of v m) ≡ Head
  pub member : IsIn m (list_in s.rings (ring_of v m))

pub record AreRings (v : Slots) (s : View) : Type 0 where
  pub heads : (h : ℕ) → map.contains_key s.rings h ≡ is_head (state_of v h)
  pub rings : (h : ℕ) → state_of v h ≡ Head → IsRing v h (list_in s.rings h)
  pub listed : (m : ℕ) → state_of v m ≡ Linked → IsListed v s m
  pub loose : (m : ℕ) → IsIn m s.loose → state_of v m ≡ Loose
  pub found : (m : ℕ) → state_of v m ≡ Loose → IsIn m s.loose
  pub used : (j : ℕ) → (state_of v j ≡ Free → ⊥) → j < v.len
  pub tags : (m : ℕ) → map.get s.tags m ≡ cond (is_member (state_of v m)) (Some (value_of v m)) None

-- the free slots in the order of their chain
abbrev pub IsChain : (ℕ → ℕ) → ℕ → List ℕ → Type 0
IsChain next first [] = Unit {0}
IsChain next first (j ∷ js) = (first ≡ j) × IsChain next (next j) js

pub record IsFree (v : Slots) (first count : ℕ) (js : List ℕ) : Type 0 where
  pub chain : IsChain (next_of v) first js
  pub free : (j : ℕ) → IsIn j js → state_of v j ≡ Free
  pub used : (j : ℕ) → IsIn j js → j < v.len
  pub distinct : IsDistinct js
  pub counted : count ≡ length js

-- how many slots there can be: those of the heads and the members, and of some blocks more
abbrev pub most_slots : ℕ
most_slots = 2 ^ 26

-- slots that are set aside are there, and no limit is passed
pub record IsStocked (v : Slots) (s : View) (count spare_heads spare_members : ℕ) : Type 0 where
  pub total : map.len s.rings + map.len s.tags + count ≡ v.len
  pub reserved : spare_heads + spare_members + v.len ≤ count + v.room
  pub within : v.len ≤ v.room
  pub small : v.room ≤ most_slots
  pub few_heads : map.len s.rings + spare_heads ≤ MOST_NODES
  pub few_members : map.len s.tags + spare_members ≤ MOST_NODES

abbrev pub tail : List ℕ → List ℕ
tail [] = []
tail (j ∷ js) = js

-- the slot comes from the chain js, or is the first that was never used, and holds a node that is
-- its own neighbour
pub record Claimed (v w : Slots) (first before free : ℕ) (js : List ℕ) (slot value : ℕ)
    (state : State) : Type 0 where
  pub from : IsIn slot js ⊎ (slot ≡ v.len)
  pub used : slot < w.len
  pub edit : Edits v w slot
      (record { next = slot; prev = slot; ring = slot; value = value; state = state })
  pub chain : IsFree w first free (tail js)
  pub total : w.len + before ≡ v.len + free + 1
  pub within : w.len ≤ w.room
