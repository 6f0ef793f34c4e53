-- What the calls leave by which lists and elements come and go.
use Rattle.std.proofs.Common.{◌≡◌, ℕ, ◌==◌, Bool, true, false, List, [], ◌∷◌, map, filter, is_some, Option, Some, None, unwrap_or, refl, sym, ap, subst, ◌∙◌, inl, inr}
use Rattle.std.specs.Ordering.{nat_cmp}
use Rattle.std.specs.FinMap as fin
use Rattle.item_ring.specs.RingLists.{RingLists, IsIn, IsLoose, AreApart}
use Rattle.item_ring.specs.RingLists as ring
use Rattle.item_ring.proofs.Maps.{get_new, get_else, get_left}
use Rattle.item_ring.proofs.Lists.{still_in}
use Rattle.graph_state.specs.declared.name.ListName.{ListName}
use Rattle.graph_state.specs.declared.name.Element.{Element}
use Rattle.graph_state.specs.Names.{Has, same_element, same_list, number}
use Rattle.graph_state.proofs.Has.{not_both, some_same, none_some, map_same, filter_same, has_filter}
use Rattle.graph_state.proofs.Same.{nat_tells, list_tells, element_tells, without_has}
use Rattle.graph_lists.specs.declared.token.ListHead.{ListHead}
use Rattle.graph_lists.specs.declared.token.Hook.{Hook}
use Rattle.graph_lists.specs.Named.{Named, head_at, hook_at, list_at, shows_at, seen_list, pick_head, pick_member, listed, unlisted, hooked, unhooked}
use Rattle.graph_lists.specs.Table.{look}
use Rattle.graph_lists.specs.Steps.{AddsHead, AddsMember}
use Rattle.graph_lists.specs.Tied.{member, member_in, HasMembers, HasTag, IsRow, AreRows, IsMember, AreMembers, AreLoose, IsOut, IsHooked, AreTied}
use Rattle.graph_lists.proofs.Numbers.{look_new, look_else}
use Rattle.graph_lists.proofs.Rows.{is_head, ring_is, rows_as, same_head, same_member, members_same, not_loose}
use Rattle.graph_lists.proofs.Looses.{loose_as}

-- what is there isn't what came
differs : {X : Type 0} (m : fin.FinMap nat_cmp X) (k q : ℕ) → fin.contains_key m q ≡ true → fin.contains_key m k ≡ false → q ≡ k → ⊥
differs m k q there fresh e = not_both (ap (fin.contains_key m) (sym e) ∙ there) fresh

seen_none : (v : Named) (b : Bool) (l : ListName) → list_at v l ≡ [] → seen_list v b l ≡ []
seen_none v true l e = ap (filter (shows_at v)) e
seen_none v false l e = e

module _ (v : Named) (r t : RingLists) (g : ℕ) (a : AddsHead r t g) where
  -- a row stays as it was, whatever the new head is of
  row_kept : (owner : List (ℕ × Option (Bool × ListName))) (o : Option (Bool × ListName)) (b : Bool) (l : ListName) (xs : List Element) (h : ℕ)
      → HasMembers v.hooks owner r b l xs h → HasMembers v.hooks ((g, o) ∷ owner) t b l xs h
  row_kept owner o b l xs h i =
      let ne = differs r.rings g h (ap is_some i.is) a.fresh in
      record { is = ap (λ m. fin.get m h) a.rings ∙ get_else r.rings g [] h ne ∙ i.is; name = look_else ◌==◌ nat_tells None g h o owner ne ∙ i.name }

  row_new : (owner : List (ℕ × Option (Bool × ListName))) (b : Bool) (l : ListName) → HasMembers v.hooks ((g, Some (b, l)) ∷ owner) t b l [] g
  row_new owner b l = record { is = ap (λ m. fin.get m g) a.rings ∙ get_new r.rings g []; name = look_new ◌==◌ nat_tells None g (Some (b, l)) owner }

module _ (v : Named) (r m t : RingLists) (k : AreTied v r) (l : ListName) (h : ListHead) (fresh : head_at v l ≡ None) (p : AddsHead r m h.full) (q : AddsHead m t h.shown) where
  listed_here : (b : Bool) (g : ListHead) → head_at (listed l h v) l ≡ Some g → IsRow (listed l h v) t b l (seen_list v b l) (pick_head b g)
  listed_here b g at =
      let e : g ≡ h = some_same (sym at ∙ look_new same_list list_tells None l (Some h) v.heads) in
      subst (λ i. IsRow (listed l h v) t b l (seen_list v b l) (pick_head b i)) (sym e)
      (subst (λ xs. IsRow (listed l h v) t b l xs (pick_head b h)) (sym (seen_none v b l (k.headed l fresh)))
      (elim b as (λ b. IsRow (listed l h v) t b l [] (pick_head b h)) [
        | true ↦ row_new v m t h.shown q ((h.full, Some (false, l)) ∷ v.owner) true l
        | false ↦ row_kept v m t h.shown q ((h.full, Some (false, l)) ∷ v.owner) (Some (true, l)) false l [] h.full (row_new v r m h.full p v.owner false l)
      ]))

  listed_rows : AreRows (listed l h v) t (seen_list v)
  listed_rows b n g at = elim (list_tells n l) [
    | inl e ↦ subst (λ n. head_at (listed l h v) n ≡ Some g → IsRow (listed l h v) t b n (seen_list v b n) (pick_head b g)) (sym e.1) (listed_here b g) at
    | inr ne ↦
        row_kept v m t h.shown q ((h.full, Some (false, l)) ∷ v.owner) (Some (true, l)) b n (seen_list v b n) (pick_head b g)
        (row_kept v r m h.full p v.owner (Some (false, l)) b n (seen_list v b n) (pick_head b g) (k.rows b n g (sym (look_else same_list list_tells None l n (Some h) v.heads ne.1) ∙ at)))
  ]

  pub tied_listed : AreTied (listed l h v) t
  tied_listed = record {
    rows = listed_rows;
    members = members_same v r t (q.tags ∙ p.tags) k.members;
    loose = loose_as v r t (IsOut v) (IsOut v) k.loose (q.loose ∙ p.loose) (λ b y i. i);
    standing = k.standing;
    headed = λ n e. elim (list_tells n l) [
      | inl y ↦ ap (list_at v) y.1 ∙ k.headed l fresh
      | inr ne ↦ k.headed n (sym (look_else same_list list_tells None l n (Some h) v.heads ne.1) ∙ e)
    ];
    apart = q.apart;
  }

-- members change for elements that stand in no list alone
module _ (v u : Named) (k : (l : ListName) (y : Element) → Has y (list_at v l) → hook_at u y ≡ hook_at v y) where
  seen_hooks : (b : Bool) (l : ListName) (y : Element) → Has y (seen_list v b l) → hook_at u y ≡ hook_at v y
  seen_hooks true l y i = k l y (has_filter (shows_at v) y (list_at v l) i).0
  seen_hooks false l y i = k l y i

  rows_kept : (r t : RingLists) → AreRows v r (seen_list v) → u.owner ≡ v.owner → ((l : ListName) (h : ListHead) → head_at u l ≡ Some h → head_at v l ≡ Some h) → t.rings ≡ r.rings
      → ((b : Bool) (l : ListName) → seen_list u b l ≡ seen_list v b l) → AreRows u t (seen_list u)
  rows_kept r t rows owner heads same seen b l h at =
      let i = rows b l h (heads l h at) in
      record {
        is = ap (λ m. fin.get m (pick_head b h)) same ∙ i.is
            ∙ ap Some (map_same (member v b) (member u b) (seen_list v b l) (λ y j. sym (ap (member_in b) (seen_hooks b l y j))) ∙ ap (map (member u b)) (sym (seen b l)));
        name = ap (λ o. look ◌==◌ None o (pick_head b h)) owner ∙ i.name;
      }

module _ (v : Named) (r m t : RingLists) (k : AreTied v r) (x : Element) (w : Hook) (fresh : hook_at v x ≡ None) (p : AddsMember r m w.full (number x)) (q : AddsMember m t w.shown (number x)) where
  other : (y : Element) → IsHooked v y → y ≡ x → ⊥
  other y s e = none_some (sym fresh ∙ sym (ap (hook_at v) e) ∙ s.1)

  hook_else : (y : Element) → (y ≡ x → ⊥) → hook_at (hooked x w v) y ≡ hook_at v y
  hook_else y ne = look_else same_element element_tells None x y (Some w) v.hooks ne

  hooked_seen : (b : Bool) (l : ListName) → seen_list (hooked x w v) b l ≡ seen_list v b l
  hooked_seen true l = filter_same (shows_at (hooked x w v)) (shows_at v) (list_at v l) (λ y i. look_else same_element element_tells false x y true v.shown (other y (k.standing l y i)))
  hooked_seen false l = refl

  tag_kept : (r t : RingLists) (g tag : ℕ) (who : List (ℕ × Option (Bool × Element))) (o : Option (Bool × Element)) (b : Bool) (y : Element) (n : ℕ) → AddsMember r t g tag → HasTag who r b y n → HasTag ((g, o) ∷ who) t b y n
  tag_kept r t g tag who o b y n a i =
      let ne = differs r.tags g n (ap is_some i.tag) a.fresh in
      record { tag = ap (λ s. fin.get s n) a.tags ∙ get_else r.tags g tag n ne ∙ i.tag; name = look_else ◌==◌ nat_tells None g n o who ne ∙ i.name }

  tag_new : (r t : RingLists) (g : ℕ) (who : List (ℕ × Option (Bool × Element))) (b : Bool) → AddsMember r t g (number x) → HasTag ((g, Some (b, x)) ∷ who) t b x g
  tag_new r t g who b a = record { tag = ap (λ s. fin.get s g) a.tags ∙ get_new r.tags g (number x); name = look_new ◌==◌ nat_tells None g (Some (b, x)) who }

  hooked_here : (b : Bool) (z : Hook) → hook_at (hooked x w v) x ≡ Some z → IsMember (hooked x w v) t b x (pick_member b z)
  hooked_here b z at =
      let e : z ≡ w = some_same (sym at ∙ look_new same_element element_tells None x (Some w) v.hooks) in
      subst (λ i. IsMember (hooked x w v) t b x (pick_member b i)) (sym e)
      (elim b as (λ b. IsMember (hooked x w v) t b x (pick_member b w)) [
        | true ↦ tag_new m t w.shown ((w.full, Some (false, x)) ∷ v.who) true q
        | false ↦ tag_kept m t w.shown (number x) ((w.full, Some (false, x)) ∷ v.who) (Some (true, x)) false x w.full q (tag_new r m w.full v.who false p)
      ])

  hooked_members : AreMembers (hooked x w v) t
  hooked_members b y z at = elim (element_tells y x) [
    | inl e ↦ subst (λ y. hook_at (hooked x w v) y ≡ Some z → IsMember (hooked x w v) t b y (pick_member b z)) (sym e.1) (hooked_here b z) at
    | inr ne ↦
        tag_kept m t w.shown (number x) ((w.full, Some (false, x)) ∷ v.who) (Some (true, x)) b y (pick_member b z) q
        (tag_kept r m w.full (number x) v.who (Some (false, x)) b y (pick_member b z) p (k.members b y z (sym (hook_else y ne.1) ∙ at)))
  ]

  loose_is : t.loose ≡ w.shown ∷ w.full ∷ r.loose
  loose_is = q.loose ∙ ap (λ ys. w.shown ∷ ys) p.loose

  still_out : (b : Bool) (y : Element) → (y ≡ x → ⊥) → IsOut (hooked x w v) b y → IsOut v b y
  still_out true y ne (inl s) = inl (sym (look_else same_element element_tells false x y true v.shown ne) ∙ s)
  still_out true y ne (inr i) = inr (elim i [ inl e ↦ absurd (ne e) | inr j ↦ j ])
  still_out false y ne i = elim i [ inl e ↦ absurd (ne e) | inr j ↦ j ]

  hooked_loose : AreLoose (hooked x w v) t (IsOut (hooked x w v))
  hooked_loose b y z at out = subst (IsIn (pick_member b z)) (sym loose_is) (elim (element_tells y x) [
    | inl e ↦
        let s : z ≡ w = some_same (sym at ∙ ap (hook_at (hooked x w v)) e.1 ∙ look_new same_element element_tells None x (Some w) v.hooks) in
        elim b as (λ b. IsIn (pick_member b z) (w.shown ∷ w.full ∷ r.loose)) [ true ↦ inl (ap (pick_member true) s) | false ↦ inr (inl (ap (pick_member false) s)) ]
    | inr ne ↦ inr (inr (k.loose b y z (sym (hook_else y ne.1) ∙ at) (still_out b y ne.1 out)))
  ])

  pub tied_hooked : AreTied (hooked x w v) t
  tied_hooked = record {
    rows = rows_kept v (hooked x w v) (λ l y i. hook_else y (other y (k.standing l y i))) r t k.rows refl (λ l h e. e) (q.rings ∙ p.rings) hooked_seen;
    members = hooked_members;
    loose = hooked_loose;
    standing = λ l y i. let s = k.standing l y i in (s.0, hook_else y (other y s) ∙ s.1);
    headed = k.headed;
    apart = q.apart;
  }

-- an element that stands nowhere is gone
module _ (v : Named) (r m t : RingLists) (k : AreTied v r) (x : Element) (w : Hook) (hook : hook_at v x ≡ Some w) (out : Has x v.loose)
    (tags : t.tags ≡ fin.remove (fin.remove r.tags w.full) w.shown) (loose : t.loose ≡ ring.without w.shown (ring.without w.full r.loose)) (rings : t.rings ≡ r.rings) (apart : AreApart t) where
  gone_else : (y : Element) → (y ≡ x → ⊥) → hook_at (unhooked x v) y ≡ hook_at v y
  gone_else y ne = look_else same_element element_tells None x y None v.hooks ne

  not_x : (y : Element) (z : Hook) → hook_at (unhooked x v) y ≡ Some z → y ≡ x → ⊥
  not_x y z at e = none_some (sym (ap (hook_at (unhooked x v)) e ∙ look_new same_element element_tells None x None v.hooks) ∙ at)

  not_in : (l : ListName) (y : Element) → Has y (list_at v l) → y ≡ x → ⊥
  not_in l y i e = not_loose v r k l x (subst (λ z. Has z (list_at v l)) e i) out

  not_member : (b c : Bool) (y : Element) (z : Hook) → hook_at v y ≡ Some z → (y ≡ x → ⊥) → pick_member b z ≡ pick_member c w → ⊥
  not_member b c y z at ne e = ne (same_member v r b c y x (pick_member b z) (pick_member c w) (k.members b y z at) (k.members c x w hook) e).1

  unhooked_members : AreMembers (unhooked x v) t
  unhooked_members b y z at =
      let ne = not_x y z at in
      let at' = sym (gone_else y ne) ∙ at in
      let i = k.members b y z at' in
      record {
        tag = ap (λ s. fin.get s (pick_member b z)) tags ∙ get_left (fin.remove r.tags w.full) w.shown (pick_member b z) (not_member b true y z at' ne)
            ∙ get_left r.tags w.full (pick_member b z) (not_member b false y z at' ne) ∙ i.tag;
        name = i.name;
      }

  out_before : (b : Bool) (y : Element) → IsOut (unhooked x v) b y → IsOut v b y
  out_before true y (inl s) = inl s
  out_before true y (inr i) = inr (without_has same_element element_tells x y v.loose i).0
  out_before false y i = (without_has same_element element_tells x y v.loose i).0

  unhooked_loose : AreLoose (unhooked x v) t (IsOut (unhooked x v))
  unhooked_loose b y z at o =
      let ne = not_x y z at in
      let at' = sym (gone_else y ne) ∙ at in
      subst (IsIn (pick_member b z)) (sym loose)
      (still_in (pick_member b z) w.shown (ring.without w.full r.loose)
      (still_in (pick_member b z) w.full r.loose (k.loose b y z at' (out_before b y o)) (not_member b false y z at' ne)) (not_member b true y z at' ne))

  pub tied_unhooked : AreTied (unhooked x v) t
  tied_unhooked = record {
    rows = rows_kept v (unhooked x v) (λ l y i. gone_else y (not_in l y i)) r t k.rows refl (λ l h e. e) rings (λ b l. refl);
    members = unhooked_members;
    loose = unhooked_loose;
    standing = λ l y i. let s = k.standing l y i in (s.0, gone_else y (not_in l y i) ∙ s.1);
    headed = k.headed;
    apart = apart;
  }

-- a list of nothing is gone
module _ (v : Named) (r t : RingLists) (k : AreTied v r) (l : ListName) (h : ListHead) (there : head_at v l ≡ Some h) (empty : list_at v l ≡ [])
    (rings : t.rings ≡ fin.remove (fin.remove r.rings h.full) h.shown) (tags : t.tags ≡ r.tags) (loose : t.loose ≡ r.loose) (apart : AreApart t) where
  not_l : (n : ListName) (g : ListHead) → head_at (unlisted l v) n ≡ Some g → n ≡ l → ⊥
  not_l n g at e = none_some (sym (ap (head_at (unlisted l v)) e ∙ look_new same_list list_tells None l None v.heads) ∙ at)

  unlisted_rows : AreRows (unlisted l v) t (seen_list v)
  unlisted_rows b n g at =
      let ne = not_l n g at in
      let i = k.rows b n g (sym (look_else same_list list_tells None l n None v.heads ne) ∙ at) in
      let apart : (c : Bool) → pick_head b g ≡ pick_head c h → ⊥ = λ c e. ne (same_head v r b c n l (seen_list v b n) (seen_list v c l) (pick_head b g) (pick_head c h) i (k.rows c l h there) e).1 in
      record {
        is = ap (λ m. fin.get m (pick_head b g)) rings ∙ get_left (fin.remove r.rings h.full) h.shown (pick_head b g) (apart true) ∙ get_left r.rings h.full (pick_head b g) (apart false) ∙ i.is;
        name = i.name;
      }

  pub tied_unlisted : AreTied (unlisted l v) t
  tied_unlisted = record {
    rows = unlisted_rows;
    members = members_same v r t tags k.members;
    loose = loose_as v r t (IsOut v) (IsOut v) k.loose loose (λ b y i. i);
    standing = k.standing;
    headed = λ n e. elim (list_tells n l) [
      | inl y ↦ ap (list_at v) y.1 ∙ empty
      | inr ne ↦ k.headed n (sym (look_else same_list list_tells None l n None v.heads ne.1) ∙ e)
    ];
    apart = apart;
  }

module _ (v : Named) (r : RingLists) (k : AreTied v r) (l : ListName) (h : ListHead) (there : head_at v l ≡ Some h) (empty : list_at v l ≡ []) where
  pub unlisted_empty : (b : Bool) → ring.ring r (pick_head b h) ≡ []
  unlisted_empty b = ring_is v r b l (seen_list v b l) (pick_head b h) (k.rows b l h there) ∙ ap (map (member v b)) (seen_none v b l empty)

  -- the second head is another one
  shown_kept : (m : RingLists) → m.rings ≡ fin.remove r.rings h.full → fin.get m.rings h.shown ≡ fin.get r.rings h.shown
  shown_kept m e = ap (λ s. fin.get s h.shown) e ∙ get_left r.rings h.full h.shown
      (λ e. let d = (same_head v r true false l l (seen_list v true l) (seen_list v false l) h.shown h.full (k.rows true l h there) (k.rows false l h there) e).0 in cc)

  pub unlisted_head : (m : RingLists) → m.rings ≡ fin.remove r.rings h.full → ring.IsHead m h.shown
  unlisted_head m e = ap is_some (shown_kept m e) ∙ is_head v r true l (seen_list v true l) h.shown (k.rows true l h there)

  pub unlisted_left : (m : RingLists) → m.rings ≡ fin.remove r.rings h.full → ring.ring m h.shown ≡ []
  unlisted_left m e = ap (λ o. unwrap_or o []) (shown_kept m e) ∙ unlisted_empty true

pub unhooked_shown : (v : Named) (r m : RingLists) (k : AreTied v r) (x : Element) (w : Hook) → hook_at v x ≡ Some w → Has x v.loose → m.loose ≡ ring.without w.full r.loose → IsLoose m w.shown
unhooked_shown v r m k x w hook out e = subst (IsIn w.shown) (sym e) (still_in w.shown w.full r.loose (k.loose true x w hook (inr out))
    (λ e. let d = (same_member v r true false x x w.shown w.full (k.members true x w hook) (k.members false x w hook) e).0 in cc))

pub unhooked_tag : (v : Named) (r : RingLists) (k : AreTied v r) (x : Element) (w : Hook) → hook_at v x ≡ Some w → (m : RingLists) → m.tags ≡ fin.remove r.tags w.full → fin.contains_key m.tags w.shown ≡ true
unhooked_tag v r k x w hook m e = ap is_some (ap (λ s. fin.get s w.shown) e ∙ get_left r.tags w.full w.shown
    (λ e. let d = (same_member v r true false x x w.shown w.full (k.members true x w hook) (k.members false x w hook) e).0 in cc) ∙ (k.members true x w hook).tag)

pub rings_same : (v : Named) (r t : RingLists) → AreTied v r → (t.rings ≡ r.rings) × (t.loose ≡ r.loose) × (t.tags ≡ r.tags) → AreApart t → AreTied v t
rings_same v r t k same apart = record {
  rows = rows_as v r t (seen_list v) (seen_list v) k.rows same.0 (λ b l. refl);
  members = members_same v r t same.2 k.members;
  loose = loose_as v r t (IsOut v) (IsOut v) k.loose same.1 (λ b y i. i);
  standing = k.standing;
  headed = k.headed;
  apart = apart;
}
