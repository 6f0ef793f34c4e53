-- What a look starts from, and what it finds.
use Rattle.std.specs.Prelude.{◌≡◌, ℕ, Bool, Option, Some, None}
use Rattle.graph_state.specs.declared.name.ListName.{ListName}
use Rattle.graph_state.specs.declared.name.Element.{Element}
use Rattle.graph_state.specs.Names.{Has}
use Rattle.graph_lists.specs.declared.token.ListHead.{ListHead}
use Rattle.graph_lists.specs.declared.token.Hook.{Hook}
use Rattle.graph_lists.specs.Named.{Named, head_at, hook_at, seen_list, pick_head, pick_member}

-- g is the head of the ring of the list: of all elements, or of those that show
abbrev pub IsHeadOf : Named → Bool → ListName → ℕ → Type 0
IsHeadOf v b l g = (h : ListHead) × ((head_at v l ≡ Some h) × (pick_head b h ≡ g))

-- m is the member of the element in one of the two rings
abbrev pub IsMemberOf : Named → Bool → Element → ℕ → Type 0
IsMemberOf v b x m = (w : Hook) × ((hook_at v x ≡ Some w) × (pick_member b w ≡ m))

-- the member of what may be there
abbrev pub Finds : Named → Bool → Option ℕ → Option Element → Type 0
Finds v b None None = Unit {0}
Finds v b None (Some x) = ⊥
Finds v b (Some m) None = ⊥
Finds v b (Some m) (Some x) = IsMemberOf v b x m

-- the member is linked into one of the rings
abbrev pub IsLinked : Named → ℕ → Type 0
IsLinked v m = (b : Bool)
    × ((l : ListName) × ((x : Element) × (Has x (seen_list v b l) × IsMemberOf v b x m)))
