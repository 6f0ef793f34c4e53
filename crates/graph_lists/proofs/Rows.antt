-- The rings as lists of elements, and what a step on one ring leaves of them.
use Rattle.std.proofs.Common.{◌≡◌, ℕ, Bool, true, false, List, [], ◌∷◌, map, is_some, Some, unwrap_or, sym, ap, subst, ◌∙◌, inl, inr}
use Rattle.std.specs.FinMap as fin
use Rattle.item_ring.specs.RingLists.{RingLists, IsIn, IsDistinct, IsLinkedIn, IsLoose, AreApart}
use Rattle.item_ring.specs.RingLists as ring
use Rattle.item_ring.proofs.Maps.{get_new, get_else}
use Rattle.graph_state.specs.declared.name.ListName.{ListName}
use Rattle.graph_state.specs.declared.name.Element.{Element}
use Rattle.graph_state.specs.Names.{Has, IsOnce, same_element}
use Rattle.graph_state.proofs.Has.{some_same, some_or_none, has_map, has_none, has_filter}
use Rattle.graph_state.proofs.Same.{flag_tells, list_tells, element_tells}
use Rattle.graph_lists.specs.declared.token.ListHead.{ListHead}
use Rattle.graph_lists.specs.declared.token.Hook.{Hook}
use Rattle.graph_lists.specs.Named.{Named, head_at, hook_at, list_at, shows_at, seen_list, pick_head, pick_member}
use Rattle.graph_lists.specs.Tied.{member_in, member, IsRow, AreRows, IsMember, AreMembers, IsHooked, AreTied, owner_of, who_is}
use Rattle.graph_lists.proofs.Numbers.{is_in, Separates, separates}

-- a list in one of the two rings, and an element in one of them
abbrev pub row_at : Bool → ListName → Bool × ListName
row_at b l = (b, l)

abbrev pub member_at : Bool → Element → Bool × Element
member_at b x = (b, x)

-- the heads of two lists, and of both rings of one list, are different
pub same_head : (v : Named) (r : RingLists) (b c : Bool) (l k : ListName) (xs ys : List Element) (h g : ℕ) → IsRow v r b l xs h → IsRow v r c k ys g → h ≡ g → (b ≡ c) × (l ≡ k)
same_head v r b c l k xs ys h g i j e =
    let p : row_at b l ≡ row_at c k = some_same (sym i.name ∙ ap (owner_of v) e ∙ j.name) in
    (ap (λ (q : Bool × ListName). q.0) p, ap (λ (q : Bool × ListName). q.1) p)

-- so are the members of two elements, and both members of one element
pub same_member : (v : Named) (r : RingLists) (b c : Bool) (x y : Element) (m n : ℕ) → IsMember v r b x m → IsMember v r c y n → m ≡ n → (b ≡ c) × (x ≡ y)
same_member v r b c x y m n i j e =
    let p : member_at b x ≡ member_at c y = some_same (sym i.name ∙ ap (who_is v) e ∙ j.name) in
    (ap (λ (q : Bool × Element). q.0) p, ap (λ (q : Bool × Element). q.1) p)

pub member_is : (v : Named) (b : Bool) (x : Element) (w : Hook) → hook_at v x ≡ Some w → member v b x ≡ pick_member b w
member_is v b x w e = ap (member_in b) e

pub ring_is : (v : Named) (r : RingLists) (b : Bool) (l : ListName) (xs : List Element) (h : ℕ) → IsRow v r b l xs h → ring.ring r h ≡ map (member v b) xs
ring_is v r b l xs h i = ap (λ o. unwrap_or o []) i.is

pub is_head : (v : Named) (r : RingLists) (b : Bool) (l : ListName) (xs : List Element) (h : ℕ) → IsRow v r b l xs h → ring.IsHead r h
is_head v r b l xs h i = ap is_some i.is

distinct_once : {X : Type 0} (f : X → ℕ) (xs : List X) → IsDistinct (map f xs) → IsOnce xs
distinct_once f [] d = tt
distinct_once f (x ∷ xs) d = ((λ i. d.0 (is_in (f x) (map f xs) (has_map f x xs i))), distinct_once f xs d.1)

module _ (v : Named) (r : RingLists) where
  pub linked_in : (b : Bool) (l : ListName) (xs : List Element) (h : ℕ) (x : Element) (w : Hook) → IsRow v r b l xs h → Has x xs → hook_at v x ≡ Some w → IsLinkedIn r h (pick_member b w)
  linked_in b l xs h x w i has hook = record {
    head = is_head v r b l xs h i;
    member = subst (λ m. IsIn m (ring.ring r h)) (member_is v b x w hook)
        (subst (IsIn (member v b x)) (sym (ring_is v r b l xs h i)) (is_in _ _ (has_map (member v b) x xs has)));
  }

  -- a ring has other elements from here on
  pub rows_set : (t : RingLists) (E F : Bool → ListName → List Element) (c : Bool) (k : ListName) (g : ListHead) → AreRows v r E → head_at v k ≡ Some g
      → t.rings ≡ fin.insert r.rings (pick_head c g) (map (member v c) (F c k))
      → ((b : Bool) (l : ListName) → ((b ≡ c) × (l ≡ k) → ⊥) → F b l ≡ E b l) → AreRows v t F
  rows_set t E F c k g rows there set else =
      let here : (h : ListHead) → h ≡ g → IsRow v t c k (F c k) (pick_head c h) = λ h e.
      let e' = ap (pick_head c) e in
      record {
        is = ap (fin.get t.rings) e' ∙ ap (λ m. fin.get m (pick_head c g)) set ∙ get_new r.rings (pick_head c g) (map (member v c) (F c k));
        name = ap (owner_of v) e' ∙ (rows c k g there).name;
      } in
      let away : (b : Bool) (l : ListName) (h : ListHead) → head_at v l ≡ Some h → ((b ≡ c) × (l ≡ k) → ⊥) → IsRow v t b l (F b l) (pick_head b h) = λ b l h at ne.
      let i = rows b l h at in
      record {
        is = ap (λ m. fin.get m (pick_head b h)) set
            ∙ get_else r.rings (pick_head c g) (map (member v c) (F c k)) (pick_head b h) (λ e. ne (same_head v r b c l k (E b l) (E c k) (pick_head b h) (pick_head c g) i (rows c k g there) e))
            ∙ i.is ∙ ap (λ xs. Some (map (member v b) xs)) (sym (else b l ne));
        name = i.name;
      } in
      λ b l h at. elim (flag_tells b c) [
        | inl eb ↦ elim (list_tells l k) [
          | inl el ↦
              subst (λ d. IsRow v t d l (F d l) (pick_head d h)) (sym eb)
              (subst (λ n. head_at v n ≡ Some h → IsRow v t c n (F c n) (pick_head c h)) (sym el.1) (λ at'. here h (some_same (sym at' ∙ there))) at)
          | inr nl ↦ away b l h at (λ e. nl.1 e.1)
        ]
        | inr nb ↦ away b l h at (λ e. nb e.0)
      ]

  pub rows_as : (t : RingLists) (E F : Bool → ListName → List Element) → AreRows v r E → t.rings ≡ r.rings → ((b : Bool) (l : ListName) → F b l ≡ E b l) → AreRows v t F
  rows_as t E F rows same as' b l h at =
      let i = rows b l h at in
      record { is = ap (λ m. fin.get m (pick_head b h)) same ∙ i.is ∙ ap (λ xs. Some (map (member v b) xs)) (sym (as' b l)); name = i.name }

  pub members_same : (t : RingLists) → t.tags ≡ r.tags → AreMembers v r → AreMembers v t
  members_same t same are b x w at = let i = are b x w at in record { tag = ap (λ m. fin.get m (pick_member b w)) same ∙ i.tag; name = i.name }

module _ (v : Named) (r : RingLists) (k : AreTied v r) where
  pub some_head : (l : ListName) (x : Element) → Has x (list_at v l) → (h : ListHead) × (head_at v l ≡ Some h)
  some_head l x i = elim (some_or_none (head_at v l)) [ inl n ↦ absurd (has_none (list_at v l) (k.headed l n) x i) | inr s ↦ s ]

  -- an element is linked in the ring of its list
  pub linked_full : (l : ListName) (h : ListHead) (x : Element) (w : Hook) → head_at v l ≡ Some h → hook_at v x ≡ Some w → Has x (list_at v l) → IsLinkedIn r h.full w.full
  linked_full l h x w at hook i = linked_in v r false l (list_at v l) h.full x w (k.rows false l h at) i hook

  pub linked_shown : (l : ListName) (h : ListHead) (x : Element) (w : Hook) → head_at v l ≡ Some h → hook_at v x ≡ Some w → Has x (seen_list v true l) → IsLinkedIn r h.shown w.shown
  linked_shown l h x w at hook i = linked_in v r true l (seen_list v true l) h.shown x w (k.rows true l h at) i hook

  -- nothing stands twice in a list
  pub once_list : (l : ListName) (h : ListHead) → head_at v l ≡ Some h → IsOnce (list_at v l)
  once_list l h there =
      let i = k.rows false l h there in
      distinct_once (member v false) (list_at v l) (subst IsDistinct (ring_is v r false l (list_at v l) h.full i) (k.apart.distinct h.full (is_head v r false l (list_at v l) h.full i)))

  -- no element stands in two lists
  pub one_list : (l m : ListName) (x : Element) → Has x (list_at v l) → Has x (list_at v m) → l ≡ m
  one_list l m x i j =
      let w = k.standing l x i in
      let h = some_head l x i in
      let g = some_head m x j in
      let e = k.apart.one_ring h.0.full g.0.full w.0.full (linked_full l h.0 x w.0 h.1 w.1 i) (linked_full m g.0 x w.0 g.1 w.1 j) in
      (same_head v r false false l m (list_at v l) (list_at v m) h.0.full g.0.full (k.rows false l h.0 h.1) (k.rows false m g.0 g.1) e).1

  -- what stands nowhere stands in no list
  pub not_loose : (l : ListName) (x : Element) → Has x (list_at v l) → Has x v.loose → ⊥
  not_loose l x i j =
      let w = k.standing l x i in
      let h = some_head l x i in
      k.apart.not_loose h.0.full w.0.full (linked_full l h.0 x w.0 h.1 w.1 i) (k.loose false x w.0 w.1 j)

  pub one_member : (b : Bool) (x y : Element) (w u : Hook) → hook_at v x ≡ Some w → hook_at v y ≡ Some u → pick_member b w ≡ pick_member b u → x ≡ y
  one_member b x y w u e f same = (same_member v r b b x y (pick_member b w) (pick_member b u) (k.members b x w e) (k.members b y u f) same).1

  -- members tell what stands in a list apart
  pub told : (b : Bool) (x : Element) (zs : List Element) → IsHooked v x → ((z : Element) → Has z zs → IsHooked v z) → Separates same_element (member v b) x zs
  told b x zs w all = separates same_element (member v b) x zs element_tells (λ z i e.
      let u = all z i in one_member b z x u.0 w.0 u.1 w.1 (sym (member_is v b z u.0 u.1) ∙ e ∙ member_is v b x w.0 w.1))

  pub hooked_in : (b : Bool) (l : ListName) (z : Element) → Has z (seen_list v b l) → IsHooked v z
  hooked_in true l z i = k.standing l z (has_filter (shows_at v) z (list_at v l) i).0
  hooked_in false l z i = k.standing l z i
