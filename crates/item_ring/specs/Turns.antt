-- Private: what is seen after a call.
use Rattle.std.specs.Prelude.{ℕ, cond, ◌==◌, List, [], ◌∷◌, Option, Some, None}
use Rattle.std.specs.FinMap as map
use Rattle.item_ring.specs.RingLists.{list_in, without, with_after}
use Rattle.item_ring.specs.AreRings.{tail}
use Rattle.item_ring.specs.View.{View}

abbrev pub linked_as : View → ℕ → ℕ → List ℕ → View
linked_as s h m xs = record s { rings = map.insert s.rings h xs; loose = without m s.loose }

-- the list with m right behind a member of it, and before all others where that is none
abbrev pub with_behind : Option ℕ → ℕ → List ℕ → List ℕ
with_behind None m xs = m ∷ xs
with_behind (Some at) m xs = with_after at m xs

-- m goes right behind the slot `here`, the head's or a member's
abbrev pub tied : View → ℕ → ℕ → ℕ → View
tied s h m here =
    let xs = list_in s.rings h in
    linked_as s h m (cond (here == h) (m ∷ xs) (with_after here m xs))

abbrev pub unlinked : View → ℕ → ℕ → View
unlinked s h m =
    record s { rings = map.insert s.rings h (without m (list_in s.rings h)); loose = m ∷ s.loose }

abbrev pub headed : View → ℕ → View
headed s h = record s { rings = map.insert s.rings h []; free = tail s.free }

abbrev pub membered : View → ℕ → ℕ → View
membered s m tag =
    record s { loose = m ∷ s.loose; tags = map.insert s.tags m tag; free = tail s.free }

abbrev pub member_gone : View → ℕ → View
member_gone s m =
    record s { loose = without m s.loose; tags = map.remove s.tags m; free = m ∷ s.free }

abbrev pub head_gone : View → ℕ → View
head_gone s h = record s { rings = map.remove s.rings h; free = h ∷ s.free }
