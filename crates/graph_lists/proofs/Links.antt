-- What each call that moves, hides or shows an element leaves of the lists.
use Rattle.std.proofs.Common.{◌≡◌, ℕ, Bool, true, false, cond, not, ◌&&◌, List, [], ◌∷◌, ◌++◌, map, filter, is_some, Some, None, refl, sym, ap, subst, ◌∙◌, ◌⊎◌, inl, inr}
use Rattle.std.specs.FinMap as fin
use Rattle.item_ring.specs.RingLists.{RingLists, IsIn, IsDistinct, IsLinkedIn, IsLinked, IsLoose, AreApart}
use Rattle.item_ring.specs.RingLists as ring
use Rattle.std.proofs.lemmas.List.{append-nil}
use Rattle.graph_state.specs.declared.kind.Side.{Side}
use Rattle.graph_state.specs.declared.kind.Side.TheVariants.{Before, Behind}
use Rattle.graph_state.specs.declared.name.ListName.{ListName}
use Rattle.graph_state.specs.declared.name.Element.{Element}
use Rattle.graph_state.specs.Names.{Has, same_element, same_list, behind, before, without}
use Rattle.graph_state.specs.Beside.{beside}
use Rattle.graph_state.proofs.Has.{truth, not_both, none_some, has_last, map_join, has_filter, filter_has, filter_join, filter_one, filter_no, filter_same, filter_twice}
use Rattle.graph_state.proofs.Same.{list_tells, element_tells, without_has, without_out, behind_out, before_out, behind_has, before_has, filter_behind, filter_before}
use Rattle.graph_lists.specs.declared.token.ListHead.{ListHead}
use Rattle.graph_lists.specs.declared.token.Hook.{Hook}
use Rattle.graph_lists.specs.Named.{Named, head_at, hook_at, list_at, shows_at, seen_list, pick_member, pushed, unlinked, marked}
use Rattle.graph_lists.specs.Table.{each}
use Rattle.graph_lists.specs.Steps.{Pushes, PushesIf, member_beside, Unlinks, UnlinksIf}
use Rattle.graph_lists.specs.Tied.{member, AreRows, IsRow, AreLoose, IsOut, IsHooked, AreTied}
use Rattle.graph_lists.proofs.Numbers.{Separates, map_without, map_behind, map_before, look_new, look_else, look_each}
use Rattle.graph_lists.proofs.Rows.{member_is, ring_is, is_head, linked_in, rows_set, rows_as, members_same, some_head, linked_full, linked_shown, one_list, told, hooked_in}
use Rattle.graph_lists.proofs.Looses.{loose_linked, loose_unlinked, loose_as}

pub true_false : true ≡ false → ⊥
true_false e = cc

pub false_true : false ≡ true → ⊥
false_true e = cc

-- the two filters change places
pub filter_swap : {X : Type 0} (p q : X → Bool) (xs : List X) → filter p (filter q xs) ≡ filter q (filter p xs)
filter_swap p q xs = filter_twice p q xs ∙ filter_same (λ x. q x && p x) (λ x. p x && q x) xs (λ x _. elim (p x) as (λ b. (q x && b) ≡ (b && q x)) [
  | true ↦ elim (q x) as (λ b. (b && true) ≡ b) [ true ↦ refl | false ↦ refl ]
  | false ↦ elim (q x) as (λ b. (b && false) ≡ false) [ true ↦ refl | false ↦ refl ]
]) ∙ sym (filter_twice q p xs)

-- to leave out what fails the test changes nothing of what passes it
pub filter_without : (p : Element → Bool) (x : Element) (xs : List Element) → p x ≡ false → filter p (without same_element x xs) ≡ filter p xs
filter_without p x xs fails = filter_twice p (λ z. not (same_element z x)) xs ∙ filter_same (λ z. not (same_element z x) && p z) p xs (λ z _. elim (element_tells z x) [
  | inl t ↦ ap (λ b. not b && p z) t.0 ∙ sym (ap p t.1 ∙ fails)
  | inr n ↦ ap (λ b. not b && p z) n.0
])

-- a place beside an element, in lists of elements and in lists of members
pub record IsBeside (G : Element → Element → List Element → List Element) (F : ℕ → ℕ → List ℕ → List ℕ) : Type 0 where
  none : (y x : Element) → G y x [] ≡ []
  out : (y x : Element) (zs : List Element) → (Has y zs → ⊥) → G y x zs ≡ zs
  has : (y x z : Element) (zs : List Element) → Has z (G y x zs) → Has z zs ⊎ (z ≡ x)
  filters : (p : Element → Bool) (y x : Element) (zs : List Element) → p y ≡ true → p x ≡ true → filter p (G y x zs) ≡ G y x (filter p zs)
  maps : (f : Element → ℕ) (y x : Element) (zs : List Element) → Separates same_element f y zs → F (f y) (f x) (map f zs) ≡ map f (G y x zs)

is_behind : IsBeside (behind same_element) ring.with_after
is_behind = record {
  none = λ y x. refl;
  out = behind_out same_element element_tells;
  has = behind_has same_element element_tells;
  filters = filter_behind same_element element_tells;
  maps = map_behind same_element;
}

is_before : IsBeside (before same_element) ring.with_before
is_before = record {
  none = λ y x. refl;
  out = before_out same_element element_tells;
  has = before_has same_element element_tells;
  filters = filter_before same_element element_tells;
  maps = map_before same_element;
}

pub is_beside : (side : Side) → IsBeside (beside same_element side) (member_beside side)
is_beside Before = is_before
is_beside Behind = is_behind

-- what stands nowhere once the ring of all elements has changed, and the other one not yet
abbrev OutFull : Named → Named → Bool → Element → Type 0
OutFull v u true y = IsOut v true y
OutFull v u false y = Has y u.loose

-- the rings then
abbrev half : Named → Named → Bool → ListName → List Element
half v u b l = cond b (seen_list v true l) (list_at u l)

module _ (v : Named) (r : RingLists) (k : AreTied v r) (x : Element) (w : Hook) (hook : hook_at v x ≡ Some w) where
  -- x comes to stand somewhere
  module _ (u : Named) (loose : u.loose ≡ without same_element x v.loose) where
    came : (y : Element) → Has y u.loose → Has y v.loose × (y ≡ x → ⊥)
    came y i = without_has same_element element_tells x y v.loose (subst (Has y) loose i)

    loose_full : (t : RingLists) → t.loose ≡ ring.without w.full r.loose → AreLoose v t (OutFull v u)
    loose_full t e = loose_linked v r t (IsOut v) (OutFull v u) false x w k.members k.loose hook e (λ b y. elim b as (λ b. OutFull v u b y → IsOut v b y × ((b ≡ false) × (y ≡ x) → ⊥)) [
      | true ↦ λ i. (i, λ p. true_false p.0)
      | false ↦ λ i. let c = came y i in (c.0, λ p. c.1 p.1)
    ])

    loose_both : (m t : RingLists) → m.tags ≡ r.tags → m.loose ≡ ring.without w.full r.loose → t.loose ≡ ring.without w.shown m.loose → shows_at v x ≡ true
        → AreLoose v t (λ b y. IsOut (record v { loose = u.loose }) b y)
    loose_both m t tags e f sx = loose_linked v m t (OutFull v u) (IsOut (record v { loose = u.loose })) true x w (members_same v r m tags k.members) (loose_full m e) hook f
        (λ b y. elim b as (λ b. IsOut (record v { loose = u.loose }) b y → OutFull v u b y × ((b ≡ true) × (y ≡ x) → ⊥)) [
          | true ↦ λ i. elim i [
            | inl s ↦ (inl s, λ p. not_both (ap (shows_at v) p.1 ∙ sx) s)
            | inr j ↦ let c = came y j in (inr c.0, λ p. c.1 p.1)
          ]
          | false ↦ λ i. (i, λ p. false_true p.0)
        ])

    loose_one : (m : RingLists) → m.loose ≡ ring.without w.full r.loose → shows_at v x ≡ false → AreLoose v m (λ b y. IsOut (record v { loose = u.loose }) b y)
    loose_one m e nx = loose_as v m m (OutFull v u) (IsOut (record v { loose = u.loose })) (loose_full m e) refl
        (λ b y. elim b as (λ b. IsOut (record v { loose = u.loose }) b y → OutFull v u b y) [
          | true ↦ λ i. elim i [ inl s ↦ inl s | inr j ↦ inr (came y j).0 ]
          | false ↦ λ i. i
        ])

  -- it comes to the end of a list
  module _ (l : ListName) (h : ListHead) (there : head_at v l ≡ Some h) where
    list_here : list_at (pushed l x v) l ≡ list_at v l ++ x ∷ []
    list_here = look_new same_list list_tells [] l (list_at v l ++ x ∷ []) v.lists

    list_else : (m : ListName) → (m ≡ l → ⊥) → list_at (pushed l x v) m ≡ list_at v m
    list_else m ne = look_else same_list list_tells [] l m (list_at v l ++ x ∷ []) v.lists ne

    pushed_row : (b : Bool) (s : RingLists) (xs : List Element) (g : ℕ) → IsRow v s b l xs g → ring.ring s g ++ pick_member b w ∷ [] ≡ map (member v b) (xs ++ x ∷ [])
    pushed_row b s xs g i =
        ap (λ ys. ys ++ pick_member b w ∷ []) (ring_is v s b l xs g i)
        ∙ ap (λ n. map (member v b) xs ++ n ∷ []) (sym (member_is v b x w hook))
        ∙ sym (map_join (member v b) xs (x ∷ []))

    pushed_full : (m : RingLists) → Pushes r m h.full w.full → AreRows v m (half v (pushed l x v))
    pushed_full m p = rows_set v r m (seen_list v) (half v (pushed l x v)) false l h k.rows there
        (p.rings ∙ ap (fin.insert r.rings h.full) (pushed_row false r (list_at v l) h.full (k.rows false l h there) ∙ ap (map (member v false)) (sym list_here)))
        (λ b n. elim b as (λ b. ((b ≡ false) × (n ≡ l) → ⊥) → half v (pushed l x v) b n ≡ seen_list v b n) [
          | true ↦ λ ne. refl
          | false ↦ λ ne. list_else n (λ e. ne (refl, e))
        ])

    pushed_shown : shows_at v x ≡ true → filter (shows_at v) (list_at (pushed l x v) l) ≡ filter (shows_at v) (list_at v l) ++ x ∷ []
    pushed_shown sx = ap (filter (shows_at v)) list_here ∙ filter_join (shows_at v) (list_at v l) (x ∷ []) ∙ ap (λ ys. filter (shows_at v) (list_at v l) ++ ys) (filter_one (shows_at v) x sx)

    pushed_hidden : shows_at v x ≡ false → filter (shows_at v) (list_at (pushed l x v) l) ≡ filter (shows_at v) (list_at v l)
    pushed_hidden nx = ap (filter (shows_at v)) list_here ∙ filter_join (shows_at v) (list_at v l) (x ∷ []) ∙ ap (λ ys. filter (shows_at v) (list_at v l) ++ ys) (filter_no (shows_at v) x nx) ∙ append-nil _

    pushed_both : (m t : RingLists) → Pushes r m h.full w.full → Pushes m t h.shown w.shown → shows_at v x ≡ true → AreRows v t (seen_list (pushed l x v))
    pushed_both m t p q sx =
        let rows = pushed_full m p in
        rows_set v m t (half v (pushed l x v)) (seen_list (pushed l x v)) true l h rows there
        (q.rings ∙ ap (fin.insert m.rings h.shown) (pushed_row true m (seen_list v true l) h.shown (rows true l h there) ∙ ap (map (member v true)) (sym (pushed_shown sx))))
        (λ b n. elim b as (λ b. ((b ≡ true) × (n ≡ l) → ⊥) → seen_list (pushed l x v) b n ≡ half v (pushed l x v) b n) [
          | true ↦ λ ne. ap (filter (shows_at v)) (list_else n (λ e. ne (refl, e)))
          | false ↦ λ ne. refl
        ])

    pushed_one : (m : RingLists) → Pushes r m h.full w.full → shows_at v x ≡ false → AreRows v m (seen_list (pushed l x v))
    pushed_one m p nx = rows_as v m m (half v (pushed l x v)) (seen_list (pushed l x v)) (pushed_full m p) refl
        (λ b n. elim b as (λ b. seen_list (pushed l x v) b n ≡ half v (pushed l x v) b n) [
          | true ↦ elim (list_tells n l) [
            | inl y ↦ ap (λ n. filter (shows_at v) (list_at (pushed l x v) n)) y.1 ∙ pushed_hidden nx ∙ ap (λ n. filter (shows_at v) (list_at v n)) (sym y.1)
            | inr ne ↦ ap (filter (shows_at v)) (list_else n ne.1)
          ]
          | false ↦ refl
        ])

    pushed_standing : (n : ListName) (y : Element) → Has y (list_at (pushed l x v) n) → IsHooked v y
    pushed_standing n y i = elim (list_tells n l) [
      | inl e ↦ elim (has_last y x (list_at v l) (subst (Has y) (ap (list_at (pushed l x v)) e.1 ∙ list_here) i)) [
        | inl j ↦ k.standing l y j
        | inr f ↦ (w, ap (hook_at v) f ∙ hook)
      ]
      | inr ne ↦ k.standing n y (subst (Has y) (list_else n ne.1) i)
    ]

    pushed_headed : (n : ListName) → head_at v n ≡ None → list_at (pushed l x v) n ≡ []
    pushed_headed n e = elim (list_tells n l) [
      | inl y ↦ absurd (none_some (sym e ∙ ap (head_at v) y.1 ∙ there))
      | inr ne ↦ list_else n ne.1 ∙ k.headed n e
    ]

    -- the second head and the second member are still there and loose at the second call
    pub push_head : (m : RingLists) → Pushes r m h.full w.full → ring.IsHead m h.shown
    push_head m p = is_head v m true l (seen_list v true l) h.shown (pushed_full m p true l h there)

    pub push_loose : (m : RingLists) → Has x v.loose → Pushes r m h.full w.full → IsLoose m w.shown
    push_loose m has p = loose_full (record v { loose = without same_element x v.loose }) refl m p.loose true x w hook (inr has)

    pub tied_pushed : (m t : RingLists) (b : Bool) → b ≡ shows_at v x → Pushes r m h.full w.full → PushesIf b m t h.shown w.shown → AreTied (pushed l x v) t
    tied_pushed m t true s p q = record {
      rows = pushed_both m t p q (sym s);
      members = members_same v r t (q.tags ∙ p.tags) k.members;
      loose = loose_both (pushed l x v) refl m t p.tags p.loose q.loose (sym s);
      standing = pushed_standing;
      headed = pushed_headed;
      apart = q.apart;
    }
    tied_pushed m t false s p q = subst (AreTied (pushed l x v)) (sym q) (record {
      rows = pushed_one m p (sym s);
      members = members_same v r m p.tags k.members;
      loose = loose_one (pushed l x v) refl m p.loose (sym s);
      standing = pushed_standing;
      headed = pushed_headed;
      apart = p.apart;
    })

  -- it comes to stand beside y
  module _ (G : Element → Element → List Element → List Element) (F : ℕ → ℕ → List ℕ → List ℕ) (is : IsBeside G F)
      (y : Element) (z : Hook) (beside : hook_at v y ≡ Some z) (l : ListName) (has : Has y (list_at v l)) (sy : shows_at v y ≡ true) (sx : shows_at v x ≡ true) where
    abbrev put : Named
    put = record v { lists = each (G y x) v.lists; loose = without same_element x v.loose }

    list_put : (n : ListName) → list_at put n ≡ G y x (list_at v n)
    list_put n = look_each same_list [] (G y x) v.lists n (is.none y x)

    list_kept : (n : ListName) → (n ≡ l → ⊥) → list_at put n ≡ list_at v n
    list_kept n ne = list_put n ∙ is.out y x (list_at v n) (λ i. ne (one_list v r k n l y i has))

    put_row : (b : Bool) (s : RingLists) (g : ℕ) → IsRow v s b l (seen_list v b l) g → F (pick_member b z) (pick_member b w) (ring.ring s g) ≡ map (member v b) (G y x (seen_list v b l))
    put_row b s g i =
        ap (F (pick_member b z) (pick_member b w)) (ring_is v s b l (seen_list v b l) g i)
        ∙ ap (λ n. F n (pick_member b w) (map (member v b) (seen_list v b l))) (sym (member_is v b y z beside))
        ∙ ap (λ n. F (member v b y) n (map (member v b) (seen_list v b l))) (sym (member_is v b x w hook))
        ∙ is.maps (member v b) y x (seen_list v b l) (told v r k b y (seen_list v b l) (z, beside) (hooked_in v r k b l))

    seen_put : seen_list put true l ≡ G y x (seen_list v true l)
    seen_put = ap (filter (shows_at v)) (list_put l) ∙ is.filters (shows_at v) y x (list_at v l) sy sx

    seen_y : Has y (seen_list v true l)
    seen_y = filter_has (shows_at v) y (list_at v l) has sy

    -- what a ring call makes of the ring of y
    abbrev Puts : RingLists → RingLists → Bool → Type 0
    Puts s t b = (h : ℕ) → IsLinkedIn s h (pick_member b z) → t.rings ≡ fin.insert s.rings h (F (pick_member b z) (pick_member b w) (ring.ring s h))

    module _ (m : RingLists) (p : Puts r m false) (h : ListHead) (there : head_at v l ≡ Some h) where
      put_full : AreRows v m (half v put)
      put_full = rows_set v r m (seen_list v) (half v put) false l h k.rows there
          (p h.full (linked_full v r k l h y z there beside has) ∙ ap (fin.insert r.rings h.full) (put_row false r h.full (k.rows false l h there) ∙ ap (map (member v false)) (sym (list_put l))))
          (λ b n. elim b as (λ b. ((b ≡ false) × (n ≡ l) → ⊥) → half v put b n ≡ seen_list v b n) [
            | true ↦ λ ne. refl
            | false ↦ λ ne. list_kept n (λ e. ne (refl, e))
          ])

      put_linked : IsLinkedIn m h.shown z.shown
      put_linked = linked_in v m true l (seen_list v true l) h.shown y z (put_full true l h there) seen_y beside

      put_both : (t : RingLists) → Puts m t true → AreRows v t (seen_list put)
      put_both t q = rows_set v m t (half v put) (seen_list put) true l h put_full there
          (q h.shown put_linked ∙ ap (fin.insert m.rings h.shown) (put_row true m h.shown (put_full true l h there) ∙ ap (map (member v true)) (sym seen_put)))
          (λ b n. elim b as (λ b. ((b ≡ true) × (n ≡ l) → ⊥) → seen_list put b n ≡ half v put b n) [
            | true ↦ λ ne. ap (filter (shows_at v)) (list_kept n (λ e. ne (refl, e)))
            | false ↦ λ ne. refl
          ])

    put_standing : (n : ListName) (i : Element) → Has i (list_at put n) → IsHooked v i
    put_standing n i j = elim (is.has y x i (list_at v n) (subst (Has i) (list_put n) j)) [
      | inl a ↦ k.standing n i a
      | inr e ↦ (w, ap (hook_at v) e ∙ hook)
    ]

    -- y is linked in both rings at the two calls
    pub beside_linked : IsLinked r z.full
    beside_linked = let h = some_head v r k l y has in (h.0.full, linked_full v r k l h.0 y z h.1 beside has)

    pub beside_seen : (m : RingLists) → Puts r m false → IsLinked m z.shown
    beside_seen m p = let h = some_head v r k l y has in (h.0.shown, put_linked m p h.0 h.1)

    pub put_loose : (m : RingLists) → Has x v.loose → m.loose ≡ ring.without w.full r.loose → IsLoose m w.shown
    put_loose m has loose = loose_full put refl m loose true x w hook (inr has)

    pub tied_put : (m t : RingLists) → Puts r m false → m.tags ≡ r.tags → m.loose ≡ ring.without w.full r.loose → Puts m t true → t.tags ≡ m.tags → t.loose ≡ ring.without w.shown m.loose → AreApart t → AreTied put t
    tied_put m t p tags loose p' tags' loose' apart =
        let h = some_head v r k l y has in
        record {
          rows = put_both m p h.0 h.1 t p';
          members = members_same v r t (tags' ∙ tags) k.members;
          loose = loose_both put refl m t tags loose loose' sx;
          standing = put_standing;
          headed = λ n e. list_put n ∙ ap (G y x) (k.headed n e) ∙ is.none y x;
          apart = apart;
        }

  -- it leaves its list
  module _ (l : ListName) (has : Has x (list_at v l)) (m : RingLists) (p : Unlinks r m w.full) where
    list_left : (n : ListName) → list_at (unlinked x v) n ≡ without same_element x (list_at v n)
    list_left n = look_each same_list [] (without same_element x) v.lists n refl

    list_apart : (n : ListName) → (n ≡ l → ⊥) → list_at (unlinked x v) n ≡ list_at v n
    list_apart n ne = list_left n ∙ without_out same_element element_tells x (list_at v n) (λ i. ne (one_list v r k n l x i has))

    left_row : (b : Bool) (s : RingLists) (g : ℕ) → IsRow v s b l (seen_list v b l) g → ring.without (pick_member b w) (ring.ring s g) ≡ map (member v b) (without same_element x (seen_list v b l))
    left_row b s g i =
        ap (ring.without (pick_member b w)) (ring_is v s b l (seen_list v b l) g i)
        ∙ ap (λ n. ring.without n (map (member v b) (seen_list v b l))) (sym (member_is v b x w hook))
        ∙ map_without same_element (member v b) x (seen_list v b l) (told v r k b x (seen_list v b l) (w, hook) (hooked_in v r k b l))

    out_full : (h : ListHead) → head_at v l ≡ Some h → AreRows v m (half v (unlinked x v))
    out_full h there = rows_set v r m (seen_list v) (half v (unlinked x v)) false l h k.rows there
        (p.rings h.full (linked_full v r k l h x w there hook has) ∙ ap (fin.insert r.rings h.full) (left_row false r h.full (k.rows false l h there) ∙ ap (map (member v false)) (sym (list_left l))))
        (λ b n. elim b as (λ b. ((b ≡ false) × (n ≡ l) → ⊥) → half v (unlinked x v) b n ≡ seen_list v b n) [
          | true ↦ λ ne. refl
          | false ↦ λ ne. list_apart n (λ e. ne (refl, e))
        ])

    out_loose : AreLoose v m (OutFull v (unlinked x v))
    out_loose = loose_unlinked v r m (IsOut v) (OutFull v (unlinked x v)) false x w k.loose hook p.loose
        (λ b y. elim b as (λ b. OutFull v (unlinked x v) b y → IsOut v b y ⊎ ((b ≡ false) × (y ≡ x))) [
          | true ↦ λ i. inl i
          | false ↦ λ i. elim i [ inl e ↦ inr (refl, e) | inr j ↦ inl j ]
        ])

    out_standing : (n : ListName) (y : Element) → Has y (list_at (unlinked x v) n) → IsHooked v y
    out_standing n y i = k.standing n y (without_has same_element element_tells x y (list_at v n) (subst (Has y) (list_left n) i)).0

    out_headed : (n : ListName) → head_at v n ≡ None → list_at (unlinked x v) n ≡ []
    out_headed n e = list_left n ∙ ap (without same_element x) (k.headed n e)

    -- where x shows, it is linked in the second ring too
    out_linked : shows_at v x ≡ true → (h : ListHead) → head_at v l ≡ Some h → IsLinkedIn m h.shown w.shown
    out_linked sx h there = linked_in v m true l (seen_list v true l) h.shown x w (out_full h there true l h there) (filter_has (shows_at v) x (list_at v l) has sx) hook

    out_unlinked : shows_at v x ≡ false → IsLinked m w.shown → ⊥
    out_unlinked nx linked = p.apart.not_loose linked.0 w.shown linked.1 (out_loose true x w hook (inl nx))

    -- the second member is there
    pub out_tagged : fin.contains_key m.tags w.shown ≡ true
    out_tagged = ap is_some (ap (λ t. fin.get t w.shown) p.tags ∙ (k.members true x w hook).tag)

    seen_left : seen_list (unlinked x v) true l ≡ without same_element x (seen_list v true l)
    seen_left = ap (filter (shows_at v)) (list_left l) ∙ filter_swap (shows_at v) (λ z. not (same_element z x)) (list_at v l)

    tied_seen : (t : RingLists) → shows_at v x ≡ true → Unlinks m t w.shown → AreTied (unlinked x v) t
    tied_seen t sx q =
        let h = some_head v r k l x has in
        let rows = out_full h.0 h.1 in
        record {
          rows = rows_set v m t (half v (unlinked x v)) (seen_list (unlinked x v)) true l h.0 rows h.1
              (q.rings h.0.shown (out_linked sx h.0 h.1) ∙ ap (fin.insert m.rings h.0.shown) (left_row true m h.0.shown (rows true l h.0 h.1) ∙ ap (map (member v true)) (sym seen_left)))
              (λ b n. elim b as (λ b. ((b ≡ true) × (n ≡ l) → ⊥) → seen_list (unlinked x v) b n ≡ half v (unlinked x v) b n) [
                | true ↦ λ ne. ap (filter (shows_at v)) (list_apart n (λ e. ne (refl, e)))
                | false ↦ λ ne. refl
              ]);
          members = members_same v r t (q.tags ∙ p.tags) k.members;
          loose = loose_unlinked v m t (OutFull v (unlinked x v)) (IsOut (unlinked x v)) true x w out_loose hook q.loose
              (λ b y. elim b as (λ b. IsOut (unlinked x v) b y → OutFull v (unlinked x v) b y ⊎ ((b ≡ true) × (y ≡ x))) [
                | true ↦ λ i. elim i [ inl s ↦ inl (inl s) | inr j ↦ elim j [ inl e ↦ inr (refl, e) | inr o ↦ inl (inr o) ] ]
                | false ↦ λ i. inl i
              ]);
          standing = out_standing;
          headed = out_headed;
          apart = q.apart;
        }

    tied_unseen : shows_at v x ≡ false → AreTied (unlinked x v) m
    tied_unseen nx =
        let h = some_head v r k l x has in
        record {
          rows = rows_as v m m (half v (unlinked x v)) (seen_list (unlinked x v)) (out_full h.0 h.1) refl
              (λ b n. elim b as (λ b. seen_list (unlinked x v) b n ≡ half v (unlinked x v) b n) [
                | true ↦ ap (filter (shows_at v)) (list_left n) ∙ filter_without (shows_at v) x (list_at v n) nx
                | false ↦ refl
              ]);
          members = members_same v r m p.tags k.members;
          loose = loose_as v m m (OutFull v (unlinked x v)) (IsOut (unlinked x v)) out_loose refl
              (λ b y. elim b as (λ b. IsOut (unlinked x v) b y → OutFull v (unlinked x v) b y) [
                | true ↦ λ i. elim i [ inl s ↦ inl s | inr j ↦ elim j [ inl e ↦ inl (ap (shows_at v) e ∙ nx) | inr o ↦ inr o ] ]
                | false ↦ λ i. i
              ]);
          standing = out_standing;
          headed = out_headed;
          apart = p.apart;
        }

    pub tied_unlinked : (t : RingLists) → UnlinksIf m t w.shown → AreTied (unlinked x v) t
    tied_unlinked t (inl q) = elim (truth (shows_at v x)) [
      | inl sx ↦ tied_seen t sx q.1
      | inr nx ↦ absurd (out_unlinked nx q.0)
    ]
    tied_unlinked t (inr q) = elim (truth (shows_at v x)) [
      | inl sx ↦ let h = some_head v r k l x has in absurd (q.0 (h.0.shown, out_linked sx h.0 h.1))
      | inr nx ↦ subst (AreTied (unlinked x v)) (sym q.1) (tied_unseen nx)
    ]

  -- it shows no more
  module _ (l : ListName) (has : Has x (list_at v l)) (sx : shows_at v x ≡ true) where
    shows_else : (b : Bool) (y : Element) → (y ≡ x → ⊥) → shows_at (marked b x v) y ≡ shows_at v y
    shows_else b y ne = look_else same_element element_tells false x y b v.shown ne

    shows_here : (b : Bool) → shows_at (marked b x v) x ≡ b
    shows_here b = look_new same_element element_tells false x b v.shown

    hidden_list : (n : ListName) → filter (shows_at (marked false x v)) (list_at v n) ≡ without same_element x (filter (shows_at v) (list_at v n))
    hidden_list n = filter_same (shows_at (marked false x v)) (λ z. shows_at v z && not (same_element z x)) (list_at v n) (λ z _. elim (element_tells z x) [
      | inl t ↦ ap (shows_at (marked false x v)) t.1 ∙ shows_here false ∙ sym (ap (λ b. shows_at v z && not b) t.0 ∙ elim (shows_at v z) as (λ b. (b && false) ≡ false) [ true ↦ refl | false ↦ refl ])
      | inr e ↦ shows_else false z e.1 ∙ sym (ap (λ b. shows_at v z && not b) e.0 ∙ elim (shows_at v z) as (λ b. (b && true) ≡ b) [ true ↦ refl | false ↦ refl ])
    ]) ∙ sym (filter_twice (λ z. not (same_element z x)) (shows_at v) (list_at v n))

    pub hide_linked : IsLinked r w.shown
    hide_linked = let h = some_head v r k l x has in (h.0.shown, linked_shown v r k l h.0 x w h.1 hook (filter_has (shows_at v) x (list_at v l) has sx))

    hidden_out : (n : ListName) → (n ≡ l → ⊥) → Has x (filter (shows_at v) (list_at v n)) → ⊥
    hidden_out n ne i = ne (one_list v r k n l x (has_filter (shows_at v) x (list_at v n) i).0 has)

    pub tied_hidden : (t : RingLists) → Unlinks r t w.shown → AreTied (marked false x v) t
    tied_hidden t p =
        let h = some_head v r k l x has in
        record {
          rows = rows_set v r t (seen_list v) (seen_list (marked false x v)) true l h.0 k.rows h.1
              (p.rings h.0.shown (linked_shown v r k l h.0 x w h.1 hook (filter_has (shows_at v) x (list_at v l) has sx))
              ∙ ap (fin.insert r.rings h.0.shown)
              (ap (ring.without w.shown) (ring_is v r true l (seen_list v true l) h.0.shown (k.rows true l h.0 h.1))
              ∙ ap (λ n. ring.without n (map (member v true) (seen_list v true l))) (sym (member_is v true x w hook))
              ∙ map_without same_element (member v true) x (seen_list v true l) (told v r k true x (seen_list v true l) (w, hook) (hooked_in v r k true l))
              ∙ ap (map (member v true)) (sym (hidden_list l))))
              (λ b n. elim b as (λ b. ((b ≡ true) × (n ≡ l) → ⊥) → seen_list (marked false x v) b n ≡ seen_list v b n) [
                | true ↦ λ ne. hidden_list n ∙ without_out same_element element_tells x (filter (shows_at v) (list_at v n)) (hidden_out n (λ e. ne (refl, e)))
                | false ↦ λ ne. refl
              ]);
          members = members_same v r t p.tags k.members;
          loose = loose_unlinked v r t (IsOut v) (IsOut (marked false x v)) true x w k.loose hook p.loose
              (λ b y. elim b as (λ b. IsOut (marked false x v) b y → IsOut v b y ⊎ ((b ≡ true) × (y ≡ x))) [
                | true ↦ λ i. elim i [
                  | inl s ↦ elim (element_tells y x) [ inl e ↦ inr (refl, e.1) | inr ne ↦ inl (inl (sym (shows_else false y ne.1) ∙ s)) ]
                  | inr j ↦ inl (inr j)
                ]
                | false ↦ λ i. inl i
              ]);
          standing = k.standing;
          headed = k.headed;
          apart = p.apart;
        }
