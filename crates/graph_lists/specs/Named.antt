-- The lists by their names, and what each call makes of them.
use Rattle.std.specs.Prelude.{◌≡◌, ℕ, Bool, true, false, cond, ◌==◌, List, [], ◌∷◌, ◌++◌, filter, Option, Some, None, refl}
use Rattle.std.specs.Coded.{Coded, code_by, coded×, coded_ℕ, coded_bool, coded_list, coded_option}
use Rattle.graph_state.specs.declared.kind.Side.{Side}
use Rattle.graph_state.specs.declared.name.ListName.{ListName}
use Rattle.graph_state.specs.declared.name.ListName.TheVariants.{Nodes, Edges, Out, In}
use Rattle.graph_state.specs.declared.name.Element.{Element}
use Rattle.graph_state.specs.declared.name.Element.TheVariants.{Node, Edge, End}
use Rattle.graph_state.specs.Names.{same_element, same_list, without}
use Rattle.graph_state.specs.Beside.{beside}
use Rattle.graph_lists.specs.declared.token.ListHead.{ListHead}
use Rattle.graph_lists.specs.declared.token.Hook.{Hook}
use Rattle.graph_lists.specs.Table.{look, each}

-- the heads of the lists, the members of the elements, what stands in each list, what shows, what
-- stands nowhere, and which list and which element each head and member is of: in the ring of what
-- shows where the flag is true
pub record Named : Type 0 where
  pub heads : List (ListName × Option ListHead)
  pub hooks : List (Element × Option Hook)
  pub lists : List (ListName × List Element)
  pub shown : List (Element × Bool)
  pub loose : List Element
  pub owner : List (ℕ × Option (Bool × ListName))
  pub who : List (ℕ × Option (Bool × Element))

abbrev list_pair : ListName → ℕ × ℕ
list_pair Nodes = (0, 0)
list_pair Edges = (1, 0)
list_pair (Out v) = (2, v)
list_pair (In v) = (3, v)

abbrev pair_list : ℕ × ℕ → ListName
pair_list p = cond (p.0 == 0) Nodes (cond (p.0 == 1) Edges (cond (p.0 == 2) (Out p.1) (In p.1)))

abbrev list_back : (l : ListName) → pair_list (list_pair l) ≡ l
list_back Nodes = refl
list_back Edges = refl
list_back (Out v) = refl
list_back (In v) = refl

abbrev list_code : Coded ListName
list_code = code_by (ℕ × ℕ) (coded× coded_ℕ coded_ℕ) list_pair pair_list list_back

abbrev element_triple : Element → ℕ × (ℕ × Bool)
element_triple (Node v) = (0, (v, false))
element_triple (Edge e) = (1, (e, false))
element_triple (End d) = (2, (d.edge, d.back))

abbrev triple_element : ℕ × (ℕ × Bool) → Element
triple_element p = cond (p.0 == 0) (Node p.1.0)
    (cond (p.0 == 1) (Edge p.1.0) (End (record { edge = p.1.0; back = p.1.1 })))

abbrev element_back : (x : Element) → triple_element (element_triple x) ≡ x
element_back (Node v) = refl
element_back (Edge e) = refl
element_back (End d) = refl

abbrev element_code : Coded Element
element_code = code_by (ℕ × (ℕ × Bool)) (coded× coded_ℕ (coded× coded_ℕ coded_bool))
    element_triple triple_element element_back

abbrev head_code : Coded ListHead
head_code = code_by (ℕ × ℕ) (coded× coded_ℕ coded_ℕ) (λ h. (h.full, h.shown))
    (λ p. record { full = p.0; shown = p.1 }) (λ _. refl)

abbrev hook_code : Coded Hook
hook_code = code_by (ℕ × ℕ) (coded× coded_ℕ coded_ℕ) (λ w. (w.full, w.shown))
    (λ p. record { full = p.0; shown = p.1 }) (λ _. refl)

abbrev Tokens : Type 0
Tokens = List (ListName × Option ListHead) × List (Element × Option Hook)

abbrev Content : Type 0
Content = List (ListName × List Element) × (List (Element × Bool) × List Element)

abbrev Back : Type 0
Back = List (ℕ × Option (Bool × ListName)) × List (ℕ × Option (Bool × Element))

abbrev pub named_code : Coded Named
named_code = code_by (Tokens × (Content × Back))
    (coded× (coded× (coded_list (coded× list_code (coded_option head_code)))
    (coded_list (coded× element_code (coded_option hook_code))))
    (coded× (coded× (coded_list (coded× list_code (coded_list element_code)))
    (coded× (coded_list (coded× element_code coded_bool)) (coded_list element_code)))
    (coded× (coded_list (coded× coded_ℕ (coded_option (coded× coded_bool list_code))))
    (coded_list (coded× coded_ℕ (coded_option (coded× coded_bool element_code)))))))
    (λ v. ((v.heads, v.hooks), ((v.lists, (v.shown, v.loose)), (v.owner, v.who))))
    (λ p. record {
      heads = p.0.0;
      hooks = p.0.1;
      lists = p.1.0.0;
      shown = p.1.0.1.0;
      loose = p.1.0.1.1;
      owner = p.1.1.0;
      who = p.1.1.1;
    }) (λ _. refl)

-- the lists, how many heads and members there are, and how many can be made without refusal
pub record Lists : Type 0 where
  pub named : Named
  pub heads : ℕ
  pub members : ℕ
  pub spare_heads : ℕ
  pub spare_members : ℕ

abbrev pub lists_code : Coded Lists
lists_code = code_by (Named × ((ℕ × ℕ) × (ℕ × ℕ)))
    (coded× named_code (coded× (coded× coded_ℕ coded_ℕ) (coded× coded_ℕ coded_ℕ)))
    (λ t. (t.named, ((t.heads, t.members), (t.spare_heads, t.spare_members))))
    (λ p. record {
      named = p.0;
      heads = p.1.0.0;
      members = p.1.0.1;
      spare_heads = p.1.1.0;
      spare_members = p.1.1.1;
    }) (λ _. refl)

-- the heads of a list and the members of an element, where they are there
abbrev pub head_at : Named → ListName → Option ListHead
head_at v l = look same_list None v.heads l

abbrev pub hook_at : Named → Element → Option Hook
hook_at v x = look same_element None v.hooks x

-- what stands in a list, and whether an element shows
abbrev pub list_at : Named → ListName → List Element
list_at v l = look same_list [] v.lists l

abbrev pub shows_at : Named → Element → Bool
shows_at v x = look same_element false v.shown x

-- all that stands in a list, or what shows of it
abbrev pub seen_list : Named → Bool → ListName → List Element
seen_list v b l = cond b (filter (shows_at v) (list_at v l)) (list_at v l)

-- the head or the member in the ring of all elements, or in that of those that show
abbrev pub pick_head : Bool → ListHead → ℕ
pick_head b h = cond b h.shown h.full

abbrev pub pick_member : Bool → Hook → ℕ
pick_member b w = cond b w.shown w.full

abbrev pub nothing_named : Named
nothing_named = record {
  heads = [];
  hooks = [];
  lists = [];
  shown = [];
  loose = [];
  owner = [];
  who = [];
}

-- a list is there, with nothing in it, and is gone
abbrev pub listed : ListName → ListHead → Named → Named
listed l h v = record v {
  heads = (l, Some h) ∷ v.heads;
  owner = (h.shown, Some (true, l)) ∷ (h.full, Some (false, l)) ∷ v.owner;
}

abbrev pub unlisted : ListName → Named → Named
unlisted l v = record v { heads = (l, None) ∷ v.heads }

-- an element is there, that shows but stands nowhere, and is gone
abbrev pub hooked : Element → Hook → Named → Named
hooked x w v = record v {
  hooks = (x, Some w) ∷ v.hooks;
  shown = (x, true) ∷ v.shown;
  loose = x ∷ v.loose;
  who = (w.shown, Some (true, x)) ∷ (w.full, Some (false, x)) ∷ v.who;
}

abbrev pub unhooked : Element → Named → Named
unhooked x v = record v { hooks = (x, None) ∷ v.hooks; loose = without same_element x v.loose }

-- x stands at the end of the list, right beside y, or nowhere
abbrev pub pushed : ListName → Element → Named → Named
pushed l x v = record v {
  lists = (l, list_at v l ++ x ∷ []) ∷ v.lists;
  loose = without same_element x v.loose;
}

abbrev pub put_beside : Side → Element → Element → Named → Named
put_beside side y x v = record v {
  lists = each (beside same_element side y x) v.lists;
  loose = without same_element x v.loose;
}

abbrev pub unlinked : Element → Named → Named
unlinked x v = record v { lists = each (without same_element x) v.lists; loose = x ∷ v.loose }

-- x shows, or doesn't
abbrev pub marked : Bool → Element → Named → Named
marked b x v = record v { shown = (x, b) ∷ v.shown }

-- there are as many heads and members as before, and as many can be made
pub record SameRoom (s t : Lists) : Type 0 where
  pub heads : t.heads ≡ s.heads
  pub members : t.members ≡ s.members
  pub spare_heads : t.spare_heads ≡ s.spare_heads
  pub spare_members : t.spare_members ≡ s.spare_members

-- x stands in the list, and nothing that stands before it shows
pub record IsFirstShown (v : Named) (l : ListName) (x : Element) : Type 0 where
  pub before : List Element
  pub behind : List Element
  pub is : list_at v l ≡ before ++ x ∷ behind
  pub none : filter (shows_at v) before ≡ []

-- y shows and stands before x in the list, and nothing that stands between them shows
pub record IsNextShown (v : Named) (l : ListName) (y x : Element) : Type 0 where
  pub before : List Element
  pub between : List Element
  pub behind : List Element
  pub is : list_at v l ≡ before ++ y ∷ (between ++ x ∷ behind)
  pub shows : shows_at v y ≡ true
  pub none : filter (shows_at v) between ≡ []

-- the element leaves the one list that it stands in
abbrev pub Leaves : Named → Named → Element → Type 0
Leaves v u x = (l : ListName) (before behind : List Element) → list_at v l ≡ before ++ x ∷ behind
    → (list_at u l ≡ before ++ behind)
    × ((k : ListName) → (k ≡ l → ⊥) → list_at u k ≡ list_at v k)
