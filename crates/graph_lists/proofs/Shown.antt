-- What the calls leave by which an element shows again.
use Rattle.std.proofs.Common.{◌≡◌, ℕ, Bool, true, false, cond, List, [], ◌∷◌, ◌++◌, map, filter, Some, refl, sym, ap, subst, ◌∙◌, inl, inr}
use Rattle.std.specs.FinMap as fin
use Rattle.item_ring.specs.RingLists.{RingLists, IsIn, IsDistinct, IsLinked, IsLoose, AreApart}
use Rattle.item_ring.specs.RingLists as ring
use Rattle.graph_state.specs.declared.name.ListName.{ListName}
use Rattle.graph_state.specs.declared.name.Element.{Element}
use Rattle.graph_state.specs.Names.{Has, IsOnce, same_element, behind}
use Rattle.graph_state.proofs.Has.{not_both, has_left, has_right, has_filter, filter_has, filter_join, filter_same}
use Rattle.graph_state.proofs.Same.{element_tells, same_self, same_not}
use Rattle.graph_lists.specs.declared.token.ListHead.{ListHead}
use Rattle.graph_lists.specs.declared.token.Hook.{Hook}
use Rattle.graph_lists.specs.Named.{Named, head_at, hook_at, list_at, shows_at, seen_list, marked, IsFirstShown, IsNextShown}
use Rattle.graph_lists.specs.Tied.{member, AreLoose, IsOut, AreTied}
use Rattle.graph_lists.proofs.Numbers.{map_behind, look_new, look_else}
use Rattle.graph_lists.proofs.Rows.{member_is, ring_is, rows_set, once_list, members_same, some_head, linked_shown, one_list, not_loose, told, hooked_in}
use Rattle.graph_lists.proofs.Looses.{loose_linked}
use Rattle.graph_lists.proofs.Links.{false_true}

pub once_cut : {X : Type 0} (x : X) (xs ys : List X) → IsOnce (xs ++ x ∷ ys) → (Has x xs → ⊥) × (Has x ys → ⊥)
once_cut x [] ys o = ((λ i. i), o.0)
once_cut x (z ∷ xs) ys o =
    let r = once_cut x xs ys o.1 in
    ((λ i. elim i [ inl e ↦ o.0 (has_right z xs (x ∷ ys) (inl (sym e))) | inr j ↦ r.0 j ]), r.1)

pub behind_cut : (y x : Element) (xs ys : List Element) → (Has y xs → ⊥) → behind same_element y x (xs ++ y ∷ ys) ≡ xs ++ y ∷ x ∷ ys
behind_cut y x [] ys out = ap (λ b. cond b (y ∷ x ∷ ys) (y ∷ behind same_element y x ys)) (same_self same_element element_tells y)
behind_cut y x (z ∷ xs) ys out =
    ap (λ b. cond b (z ∷ x ∷ (xs ++ y ∷ ys)) (z ∷ behind same_element y x (xs ++ y ∷ ys))) (same_not same_element element_tells z y (λ e. out (inl (sym e))))
    ∙ ap (λ zs. z ∷ zs) (behind_cut y x xs ys (λ i. out (inr i)))

-- a filter of a list that is cut in two at an element
filter_cut : (p : Element → Bool) (x : Element) (xs ys : List Element) → p x ≡ true → filter p (xs ++ x ∷ ys) ≡ filter p xs ++ x ∷ filter p ys
filter_cut p x xs ys t = filter_join p xs (x ∷ ys) ∙ ap (λ b. filter p xs ++ cond b (x ∷ filter p ys) (filter p ys)) t

pub filter_cut_out : (p : Element → Bool) (x : Element) (xs ys : List Element) → p x ≡ false → filter p (xs ++ x ∷ ys) ≡ filter p xs ++ filter p ys
filter_cut_out p x xs ys f = filter_join p xs (x ∷ ys) ∙ ap (λ b. filter p xs ++ cond b (x ∷ filter p ys) (filter p ys)) f

-- a list cut twice
append_assoc_cut : {X : Type 0} (xs : List X) (y : X) (ys zs : List X) → xs ++ y ∷ (ys ++ zs) ≡ (xs ++ y ∷ ys) ++ zs
append_assoc_cut [] y ys zs = refl
append_assoc_cut (x ∷ xs) y ys zs = ap (λ us. x ∷ us) (append_assoc_cut xs y ys zs)

module _ (v : Named) (r : RingLists) (k : AreTied v r) (x : Element) (w : Hook) (hook : hook_at v x ≡ Some w) (hidden : shows_at v x ≡ false) (l : ListName) where
  shows_else : (y : Element) → (y ≡ x → ⊥) → shows_at (marked true x v) y ≡ shows_at v y
  shows_else y ne = look_else same_element element_tells false x y true v.shown ne

  shows_x : shows_at (marked true x v) x ≡ true
  shows_x = look_new same_element element_tells false x true v.shown

  -- where x isn't, the same shows
  same_seen : (xs : List Element) → (Has x xs → ⊥) → filter (shows_at (marked true x v)) xs ≡ filter (shows_at v) xs
  same_seen xs out = filter_same (shows_at (marked true x v)) (shows_at v) xs (λ z i. shows_else z (λ e. out (subst (λ y. Has y xs) e i)))

  shown_loose : (t : RingLists) → Has x (list_at v l) → t.loose ≡ ring.without w.shown r.loose → AreLoose v t (IsOut (marked true x v))
  shown_loose t has e = loose_linked v r t (IsOut v) (IsOut (marked true x v)) true x w k.members k.loose hook e
      (λ b y. elim b as (λ b. IsOut (marked true x v) b y → IsOut v b y × ((b ≡ true) × (y ≡ x) → ⊥)) [
        | true ↦ λ i. elim i [
          | inl s ↦ elim (element_tells y x) [
            | inl e ↦ absurd (not_both (ap (shows_at (marked true x v)) e.1 ∙ shows_x) s)
            | inr ne ↦ (inl (sym (shows_else y ne.1) ∙ s), λ p. ne.1 p.1)
          ]
          | inr j ↦ (inr j, λ p. not_loose v r k l x has (subst (λ z. Has z v.loose) p.1 j))
        ]
        | false ↦ λ i. (i, λ p. false_true p.0)
      ])

  tied_shown : (t : RingLists) (zs : List ℕ) (h : ListHead) → head_at v l ≡ Some h → Has x (list_at v l) → t.rings ≡ fin.insert r.rings h.shown zs → zs ≡ map (member v true) (seen_list (marked true x v) true l)
      → t.tags ≡ r.tags → t.loose ≡ ring.without w.shown r.loose → AreApart t → AreTied (marked true x v) t
  tied_shown t zs h there has rings is tags loose apart = record {
    rows = rows_set v r t (seen_list v) (seen_list (marked true x v)) true l h k.rows there (rings ∙ ap (fin.insert r.rings h.shown) is)
        (λ b n. elim b as (λ b. ((b ≡ true) × (n ≡ l) → ⊥) → seen_list (marked true x v) b n ≡ seen_list v b n) [
          | true ↦ λ ne. same_seen (list_at v n) (λ i. ne (refl, one_list v r k n l x i has))
          | false ↦ λ ne. refl
        ]);
    members = members_same v r t tags k.members;
    loose = shown_loose t has loose;
    standing = k.standing;
    headed = k.headed;
    apart = apart;
  }

  pub shown_out : IsLoose r w.shown
  shown_out = k.loose true x w hook (inl hidden)

  pub tied_first : (t : RingLists) (h : ListHead) → head_at v l ≡ Some h → IsFirstShown v l x → t.rings ≡ fin.insert r.rings h.shown (w.shown ∷ ring.ring r h.shown)
      → t.tags ≡ r.tags → t.loose ≡ ring.without w.shown r.loose → AreApart t → AreTied (marked true x v) t
  tied_first t h there f rings tags loose apart =
      let u = marked true x v in
      let out = once_cut x f.before f.behind (subst IsOnce f.is (once_list v r k l h there)) in
      let old : seen_list v true l ≡ filter (shows_at v) f.behind = ap (filter (shows_at v)) f.is ∙ filter_cut_out (shows_at v) x f.before f.behind hidden ∙ ap (λ ys. ys ++ filter (shows_at v) f.behind) f.none in
      let new : seen_list u true l ≡ x ∷ filter (shows_at v) f.behind =
      ap (filter (shows_at u)) f.is ∙ filter_cut (shows_at u) x f.before f.behind shows_x
      ∙ ap (λ ys. ys ++ x ∷ filter (shows_at u) f.behind) (same_seen f.before out.0 ∙ f.none) ∙ ap (λ ys. x ∷ ys) (same_seen f.behind out.1) in
      tied_shown t (w.shown ∷ ring.ring r h.shown) h there (subst (Has x) (sym f.is) (has_right x f.before (x ∷ f.behind) (inl refl))) rings
      (ap (λ ys. w.shown ∷ ys) (ring_is v r true l (seen_list v true l) h.shown (k.rows true l h there) ∙ ap (map (member v true)) old)
      ∙ ap (λ n. n ∷ map (member v true) (filter (shows_at v) f.behind)) (sym (member_is v true x w hook)) ∙ ap (map (member v true)) (sym new))
      tags loose apart

  module _ (y : Element) (z : Hook) (beside : hook_at v y ≡ Some z) (f : IsNextShown v l y x) where
    has_y : Has y (list_at v l)
    has_y = subst (Has y) (sym f.is) (has_right y f.before (y ∷ (f.between ++ x ∷ f.behind)) (inl refl))

    has_x : Has x (list_at v l)
    has_x = subst (Has x) (sym f.is) (has_right x f.before (y ∷ (f.between ++ x ∷ f.behind)) (inr (has_right x f.between (x ∷ f.behind) (inl refl))))

    pub next_linked : IsLinked r z.shown
    next_linked = let h = some_head v r k l y has_y in (h.0.shown, linked_shown v r k l h.0 y z h.1 beside (filter_has (shows_at v) y (list_at v l) has_y f.shows))

    pub tied_next : (t : RingLists) → ((h : ℕ) → ring.IsLinkedIn r h z.shown → t.rings ≡ fin.insert r.rings h (ring.with_after z.shown w.shown (ring.ring r h)))
        → t.tags ≡ r.tags → t.loose ≡ ring.without w.shown r.loose → AreApart t → AreTied (marked true x v) t
    tied_next t rings tags loose apart =
        let u = marked true x v in
        let h = some_head v r k l y has_y in
        let once = subst IsOnce f.is (once_list v r k l h.0 h.1) in
        let out_y = once_cut y f.before (f.between ++ x ∷ f.behind) once in
        let out_x = once_cut x (f.before ++ y ∷ f.between) f.behind (subst IsOnce (append_assoc_cut f.before y f.between (x ∷ f.behind)) once) in
        let fb = filter (shows_at v) f.before in let fz = filter (shows_at v) f.behind in
        let old : seen_list v true l ≡ fb ++ y ∷ fz =
        ap (filter (shows_at v)) f.is ∙ filter_cut (shows_at v) y f.before (f.between ++ x ∷ f.behind) f.shows
        ∙ ap (λ ys. fb ++ y ∷ ys) (filter_cut_out (shows_at v) x f.between f.behind hidden ∙ ap (λ ys. ys ++ fz) f.none) in
        let ne : y ≡ x → ⊥ = λ e. not_both f.shows (ap (shows_at v) e ∙ hidden) in
        let new : seen_list u true l ≡ fb ++ y ∷ x ∷ fz =
        ap (filter (shows_at u)) f.is ∙ filter_cut (shows_at u) y f.before (f.between ++ x ∷ f.behind) (shows_else y ne ∙ f.shows)
        ∙ (λ i. same_seen f.before (λ j. out_x.0 (has_left x f.before (y ∷ f.between) j)) i ++ y ∷ filter_cut (shows_at u) x f.between f.behind shows_x i)
        ∙ (λ i. fb ++ y ∷ ((same_seen f.between (λ j. out_x.0 (has_right x f.before (y ∷ f.between) (inr j))) ∙ f.none) i ++ x ∷ same_seen f.behind out_x.1 i)) in
        let put : behind same_element y x (seen_list v true l) ≡ seen_list u true l =
        ap (behind same_element y x) old ∙ behind_cut y x fb fz (λ i. out_y.0 (has_filter (shows_at v) y f.before i).0) ∙ sym new in
        tied_shown t (ring.with_after z.shown w.shown (ring.ring r h.0.shown)) h.0 h.1 has_x
        (rings h.0.shown (linked_shown v r k l h.0 y z h.1 beside (filter_has (shows_at v) y (list_at v l) has_y f.shows)))
        (ap (ring.with_after z.shown w.shown) (ring_is v r true l (seen_list v true l) h.0.shown (k.rows true l h.0 h.1))
        ∙ ap (λ n. ring.with_after n w.shown (map (member v true) (seen_list v true l))) (sym (member_is v true y z beside))
        ∙ ap (λ n. ring.with_after (member v true y) n (map (member v true) (seen_list v true l))) (sym (member_is v true x w hook))
        ∙ map_behind same_element (member v true) y x (seen_list v true l) (told v r k true y (seen_list v true l) (z, beside) (hooked_in v r k true l))
        ∙ ap (map (member v true)) put)
        tags loose apart
