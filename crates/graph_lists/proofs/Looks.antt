-- What the looks find.
use Rattle.std.proofs.Common.{◌≡◌, ℕ, Bool, true, false, List, [], ◌∷◌, ◌++◌, map, Option, Some, refl, sym, ap, subst, ◌∙◌, inl, inr, ◌↔◌}
use Rattle.std.specs.FinMap as fin
use Rattle.item_ring.specs.RingLists.{RingLists, IsLinkedIn, StandsBetween}
use Rattle.item_ring.specs.RingLists as ring
use Rattle.graph_state.specs.declared.name.ListName.{ListName}
use Rattle.graph_state.specs.declared.name.Element.{Element}
use Rattle.graph_state.specs.Names.{Has, number, first_of, last_of}
use Rattle.graph_state.proofs.Has.{truth, filter_has, map_join, has_left, has_right, has_either, has_filter}
use Rattle.graph_lists.specs.declared.token.Hook.{Hook}
use Rattle.graph_lists.specs.Named.{Named, hook_at, list_at, shows_at, seen_list, pick_head, pick_member}
use Rattle.graph_lists.specs.Heads.{IsHeadOf, IsMemberOf, Finds}
use Rattle.graph_lists.specs.Heads as heads
use Rattle.graph_lists.specs.Tied.{member, IsHooked, AreTied}
use Rattle.graph_lists.proofs.Rows.{same_member, member_is, ring_is, is_head, linked_in, linked_shown, some_head, hooked_in}

module _ (v : Named) (b : Bool) where
  member_of : (x : Element) → IsHooked v x → IsMemberOf v b x (member v b x)
  member_of x s = (s.0, (s.1, sym (member_is v b x s.0 s.1)))

  pub finds_first : (xs : List Element) → ((x : Element) → Has x xs → IsHooked v x) → Finds v b (ring.front (map (member v b) xs)) (first_of xs)
  finds_first [] all = tt
  finds_first (x ∷ xs) all = member_of x (all x (inl refl))

  pub finds_last : (xs : List Element) → ((x : Element) → Has x xs → IsHooked v x) → Finds v b (ring.back (map (member v b) xs)) (last_of xs)
  finds_last [] all = tt
  finds_last (x ∷ []) all = member_of x (all x (inl refl))
  finds_last (x ∷ y ∷ ys) all = finds_last (y ∷ ys) (λ z i. all z (inr i))

  pub is_member : (x : Element) (m : ℕ) → IsMemberOf v b x m → member v b x ≡ m
  is_member x m i = member_is v b x i.0 i.1.0 ∙ i.1.1

module _ (v : Named) (r : RingLists) (k : AreTied v r) where
  seen_has : (b : Bool) (l : ListName) (x : Element) → Has x (seen_list v b l) → Has x (list_at v l)
  seen_has true l x i = (has_filter (shows_at v) x (list_at v l) i).0
  seen_has false l x i = i

  pub head_there : (b : Bool) (l : ListName) (g : ℕ) → IsHeadOf v b l g → ring.IsHead r g
  head_there b l g i = subst (ring.IsHead r) i.1.1 (is_head v r b l (seen_list v b l) (pick_head b i.0) (k.rows b l i.0 i.1.0))

  pub ring_at : (b : Bool) (l : ListName) (g : ℕ) → IsHeadOf v b l g → ring.ring r g ≡ map (member v b) (seen_list v b l)
  ring_at b l g i = ap (ring.ring r) (sym i.1.1) ∙ ring_is v r b l (seen_list v b l) (pick_head b i.0) (k.rows b l i.0 i.1.0)

  pub member_linked : (m : ℕ) → heads.IsLinked v m → ring.IsLinked r m
  member_linked m s =
      let b = s.0 in let l = s.1.0 in let x = s.1.1.0 in let i = s.1.1.1.0 in let w = s.1.1.1.1 in
      let h = some_head v r k l x (seen_has b l x i) in
      (pick_head b h.0, subst (IsLinkedIn r (pick_head b h.0)) w.1.1 (linked_in v r b l (seen_list v b l) (pick_head b h.0) x w.0 (k.rows b l h.0 h.1) i w.1.0))

  -- the elements before and behind one are the members before and behind its own
  pub stands : (b : Bool) (l : ListName) (x : Element) (before behind : List Element) (m : ℕ) → seen_list v b l ≡ before ++ x ∷ behind → IsMemberOf v b x m
      → (h : ℕ) × StandsBetween r h m (map (member v b) before) (map (member v b) behind)
  stands b l x before behind m is w =
      let h = some_head v r k l x (seen_has b l x (subst (Has x) (sym is) (has_right x before (x ∷ behind) (inl refl)))) in
      let row = k.rows b l h.0 h.1 in (
        pick_head b h.0,
        record {
          head = is_head v r b l (seen_list v b l) (pick_head b h.0) row;
          is = ring_is v r b l (seen_list v b l) (pick_head b h.0) row ∙ ap (map (member v b)) is ∙ map_join (member v b) before (x ∷ behind)
              ∙ ap (λ n. map (member v b) before ++ n ∷ map (member v b) behind) (is_member v b x m w);
        },
      )

  pub hooked_at : (b : Bool) (l : ListName) (xs : List Element) → ((x : Element) → Has x xs → Has x (seen_list v b l)) → (x : Element) → Has x xs → IsHooked v x
  hooked_at b l xs all x i = hooked_in v r k b l x (all x i)

  module _ (b : Bool) (l : ListName) (x : Element) (before behind : List Element) (m : ℕ) where
    in_before : seen_list v b l ≡ before ++ x ∷ behind → (y : Element) → Has y before → Has y (seen_list v b l)
    in_before is y i = subst (Has y) (sym is) (has_left y before (x ∷ behind) i)

    in_behind : seen_list v b l ≡ before ++ x ∷ behind → (y : Element) → Has y (x ∷ behind) → Has y (seen_list v b l)
    in_behind is y i = subst (Has y) (sym is) (has_right y before (x ∷ behind) i)

    pub finds_next : (r : Option ℕ) → seen_list v b l ≡ before ++ x ∷ behind → IsMemberOf v b x m → r ≡ ring.front (map (member v b) behind) → Finds v b r (first_of behind)
    finds_next r is w e = subst (λ r. Finds v b r (first_of behind)) (sym e) (finds_first v b behind (hooked_at b l behind (λ y i. in_behind is y (inr i))))

    pub finds_prev : (r : Option ℕ) → seen_list v b l ≡ before ++ x ∷ behind → IsMemberOf v b x m → r ≡ ring.back (map (member v b) before) → Finds v b r (last_of before)
    finds_prev r is w e = subst (λ r. Finds v b r (last_of before)) (sym e) (finds_last v b before (hooked_at b l before (in_before is)))

    round : seen_list v b l ≡ before ++ x ∷ behind → (y : Element) → Has y ((behind ++ before) ++ x ∷ []) → Has y (seen_list v b l)
    round is y i = elim (has_either y (behind ++ before) (x ∷ []) i) [
      | inl j ↦ elim (has_either y behind before j) [ inl a ↦ in_behind is y (inr a) | inr c ↦ in_before is y c ]
      | inr j ↦ elim j [ inl e ↦ in_behind is y (inl e) | inr n ↦ absurd n ]
    ]

    pub finds_cyclic_next : (r : Option ℕ) → seen_list v b l ≡ before ++ x ∷ behind → IsMemberOf v b x m → r ≡ ring.front ((map (member v b) behind ++ map (member v b) before) ++ m ∷ []) → Finds v b r (first_of ((behind ++ before) ++ x ∷ []))
    finds_cyclic_next r is w e =
        let same : (map (member v b) behind ++ map (member v b) before) ++ m ∷ [] ≡ map (member v b) ((behind ++ before) ++ x ∷ []) =
        ap (λ n. (map (member v b) behind ++ map (member v b) before) ++ n ∷ []) (sym (is_member v b x m w))
        ∙ ap (λ ys. ys ++ member v b x ∷ []) (sym (map_join (member v b) behind before)) ∙ sym (map_join (member v b) (behind ++ before) (x ∷ [])) in
        subst (λ r. Finds v b r (first_of ((behind ++ before) ++ x ∷ []))) (sym (e ∙ ap ring.front same)) (finds_first v b ((behind ++ before) ++ x ∷ []) (hooked_at b l ((behind ++ before) ++ x ∷ []) (round is)))

    pub finds_cyclic_prev : (r : Option ℕ) → seen_list v b l ≡ before ++ x ∷ behind → IsMemberOf v b x m → r ≡ ring.back (m ∷ map (member v b) behind ++ map (member v b) before) → Finds v b r (last_of (x ∷ behind ++ before))
    finds_cyclic_prev r is w e =
        let same : m ∷ map (member v b) behind ++ map (member v b) before ≡ map (member v b) (x ∷ behind ++ before) =
        ap (λ n. n ∷ map (member v b) behind ++ map (member v b) before) (sym (is_member v b x m w)) ∙ ap (λ ys. member v b x ∷ ys) (sym (map_join (member v b) behind before)) in
        let in_round : (y : Element) → Has y (x ∷ behind ++ before) → Has y (seen_list v b l) = λ y i. elim i [
          | inl e ↦ in_behind is y (inl e)
          | inr j ↦ elim (has_either y behind before j) [ inl a ↦ in_behind is y (inr a) | inr c ↦ in_before is y c ]
        ] in
        subst (λ r. Finds v b r (last_of (x ∷ behind ++ before))) (sym (e ∙ ap ring.back same)) (finds_last v b (x ∷ behind ++ before) (hooked_at b l (x ∷ behind ++ before) in_round))

  pub tag_of : (b : Bool) (x : Element) (m : ℕ) → IsMemberOf v b x m → fin.get r.tags m ≡ Some (number x)
  tag_of b x m w = ap (fin.get r.tags) (sym w.1.1) ∙ (k.members b x w.0 w.1.0).tag

  pub shows_exactly : (x : Element) (w : Hook) → hook_at v x ≡ Some w → (l : ListName) → Has x (list_at v l) → (b : Bool) → (b ≡ true) ↔ ring.IsLinked r w.shown → b ≡ shows_at v x
  shows_exactly x w hook l has b exact = elim (truth (shows_at v x)) [
    | inl s ↦ let h = some_head v r k l x has in exact.1 (h.0.shown, linked_shown v r k l h.0 x w h.1 hook (filter_has (shows_at v) x (list_at v l) has s)) ∙ sym s
    | inr f ↦ elim (truth b) [
      | inl t ↦ let linked = exact.0 t in absurd (k.apart.not_loose linked.0 w.shown linked.1 (k.loose true x w hook (inl f)))
      | inr n ↦ n ∙ sym f
    ]
  ]

  -- a member is of one element
  pub one_element : (m : ℕ) (b c : Bool) (x y : Element) → IsMemberOf v b x m → IsMemberOf v c y m → x ≡ y
  one_element m b c x y w u = (same_member v r b c x y (pick_member b w.0) (pick_member c u.0) (k.members b x w.0 w.1.0) (k.members c y u.0 u.1.0) (w.1.1 ∙ sym u.1.1)).1
