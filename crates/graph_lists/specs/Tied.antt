-- Private: how rings stand for the lists.
use Rattle.std.specs.Prelude.{◌≡◌, ℕ, Bool, true, false, ◌==◌, ◌⊎◌, List, [], map, Option, Some, None}
use Rattle.std.specs.FinMap as map
use Rattle.item_ring.specs.RingLists.{RingLists, IsLoose, AreApart}
use Rattle.graph_state.specs.declared.name.ListName.{ListName}
use Rattle.graph_state.specs.declared.name.Element.{Element}
use Rattle.graph_state.specs.Names.{Has, number, same_element}
use Rattle.graph_lists.specs.declared.lists.Lists.TheInside.{Inside}
use Rattle.graph_lists.specs.declared.token.ListHead.{ListHead}
use Rattle.graph_lists.specs.declared.token.Hook.{Hook}
use Rattle.graph_lists.specs.Named.{Named, Lists, head_at, hook_at, list_at, shows_at, seen_list, pick_head, pick_member}
use Rattle.graph_lists.specs.Table.{look}

abbrev pub owner_of : Named → ℕ → Option (Bool × ListName)
owner_of v h = look ◌==◌ None v.owner h

abbrev pub who_is : Named → ℕ → Option (Bool × Element)
who_is v m = look ◌==◌ None v.who m

abbrev pub member_in : Bool → Option Hook → ℕ
member_in b None = 0
member_in b (Some w) = pick_member b w

-- the number of the member of an element
abbrev pub member : Named → Bool → Element → ℕ
member v b x = member_in b (hook_at v x)

-- the ring of the head has the members of these elements, and the head is that of this list
pub record HasMembers (hooks : List (Element × Option Hook))
    (owner : List (ℕ × Option (Bool × ListName)))
    (r : RingLists) (b : Bool) (l : ListName) (xs : List Element) (h : ℕ) : Type 0 where
  pub is : map.get r.rings h ≡ Some (map (λ x. member_in b (look same_element None hooks x)) xs)
  pub name : look ◌==◌ None owner h ≡ Some (b, l)

abbrev pub IsRow : Named → RingLists → Bool → ListName → List Element → ℕ → Type 0
IsRow v = HasMembers v.hooks v.owner

-- each ring has the elements that E gives
abbrev pub AreRows : Named → RingLists → (Bool → ListName → List Element) → Type 0
AreRows v r E = (b : Bool) (l : ListName) (h : ListHead) → head_at v l ≡ Some h
    → IsRow v r b l (E b l) (pick_head b h)

pub record HasTag (who : List (ℕ × Option (Bool × Element)))
    (r : RingLists) (b : Bool) (x : Element) (m : ℕ) : Type 0 where
  pub tag : map.get r.tags m ≡ Some (number x)
  pub name : look ◌==◌ None who m ≡ Some (b, x)

abbrev pub IsMember : Named → RingLists → Bool → Element → ℕ → Type 0
IsMember v = HasTag v.who

abbrev pub AreMembers : Named → RingLists → Type 0
AreMembers v r = (b : Bool) (x : Element) (w : Hook) → hook_at v x ≡ Some w
    → IsMember v r b x (pick_member b w)

-- the members of the elements of which P holds are loose
abbrev pub AreLoose : Named → RingLists → (Bool → Element → Type 0) → Type 0
AreLoose v r P = (b : Bool) (x : Element) (w : Hook) → hook_at v x ≡ Some w → P b x
    → IsLoose r (pick_member b w)

-- the element stands in no ring of all elements, or in none of those that show
abbrev pub IsOut : Named → Bool → Element → Type 0
IsOut v true x = (shows_at v x ≡ false) ⊎ Has x v.loose
IsOut v false x = Has x v.loose

abbrev pub IsHooked : Named → Element → Type 0
IsHooked v x = (w : Hook) × (hook_at v x ≡ Some w)

pub record AreTied (v : Named) (r : RingLists) : Type 0 where
  pub rows : AreRows v r (seen_list v)
  pub members : AreMembers v r
  pub loose : AreLoose v r (IsOut v)
  pub standing : (l : ListName) (x : Element) → Has x (list_at v l) → IsHooked v x
  pub headed : (l : ListName) → head_at v l ≡ None → list_at v l ≡ []
  pub apart : AreApart r

abbrev pub lists_of : Inside → Lists
lists_of a = record {
  named = a.seen.view;
  heads = map.len a.rings.rings;
  members = map.len a.rings.tags;
  spare_heads = a.rings.spare_heads;
  spare_members = a.rings.spare_members;
}

abbrev pub IsKept : Inside → Type 0
IsKept a = AreTied a.seen.view a.rings
