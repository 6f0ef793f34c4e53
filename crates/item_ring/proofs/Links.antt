-- A loose member is tied in, and the rings hold again.
use Rattle.std.proofs.Common.{◌≡◌, ℕ, ◌+◌, ◌<◌, cond, List, [], ◌∷◌, ◌++◌, Some, None, is_some, refl, sym, ap, subst, ◌∙◌, ◌⊎◌, inl, inr}
use Rattle.std.proofs.lemmas.Bool.{cases_eq}
use Rattle.std.specs.FinMap as map
use Rattle.item_ring.specs.declared.block.Cell.{Cell}
use Rattle.item_ring.specs.declared.block.State.TheVariants.{Loose, Linked, Head}
use Rattle.item_ring.specs.Nodes.{Slots, cell_at, next_of, prev_of, ring_of, value_of, state_of, Edits, Spliced}
use Rattle.item_ring.specs.RingLists.{IsIn, without, list_in}
use Rattle.item_ring.specs.AreRings.{is_head, is_member, IsPath, IsRing, AreRings}
use Rattle.item_ring.specs.View.{View}
use Rattle.item_ring.proofs.Apart.{head_loose, head_linked, linked_loose, loose_free, list_new, list_else, Belongs, strangers, not_strange, in_ring}
use Rattle.item_ring.proofs.Edits.{same_field}
use Rattle.item_ring.proofs.Lists.{in_left, in_right, in_either, in_put, in_put_new, in_put_either, distinct_put, distinct_left, distinct_right, distinct_between, distinct_push, length_put, in_without, still_in, last_of, first_of, last_in, first_in, path_left, path_next, path_join, path_behind, path_same, path_inner, path_from, tail_to, tail_is, appended}
use Rattle.item_ring.proofs.Maps.{get_new, get_else}

-- what the nodes of a `Spliced` are once the ring is counted
pub record IsTiedIn (v w : Slots) (here m h count : ℕ) : Type 0 where
  pub len : w.len ≡ v.len
  pub room : w.room ≡ v.room
  pub next_here : next_of w here ≡ m
  pub next_new : next_of w m ≡ next_of v here
  pub next_else : (k : ℕ) → (k ≡ here → ⊥) → (k ≡ m → ⊥) → next_of w k ≡ next_of v k
  pub prev_new : prev_of w m ≡ here
  pub prev_ahead : prev_of w (next_of v here) ≡ m
  pub prev_else : (k : ℕ) → (k ≡ m → ⊥) → (k ≡ next_of v here → ⊥) → prev_of w k ≡ prev_of v k
  pub ring_new : ring_of w m ≡ h
  pub ring_else : (k : ℕ) → (k ≡ m → ⊥) → ring_of w k ≡ ring_of v k
  pub state_new : state_of w m ≡ Linked
  pub state_else : (k : ℕ) → (k ≡ m → ⊥) → state_of w k ≡ state_of v k
  pub value_head : value_of w h ≡ count
  pub value_else : (k : ℕ) → (k ≡ h → ⊥) → value_of w k ≡ value_of v k

pub tied_in : (v u w : Slots) (here m h count : ℕ) → Spliced v u here m h → w.len ≡ u.len → Edits u w h (record (cell_at u h) { value = count }) → IsTiedIn v w here m h count
tied_in v u w here m h count sp len ed =
    let c = record (cell_at u h) { value = count } in
    let next = same_field (λ x. x.next) u w h c ed refl in
    let prev = same_field (λ x. x.prev) u w h c ed refl in
    let ring = same_field (λ x. x.ring) u w h c ed refl in
    let state = same_field (λ x. x.state) u w h c ed refl in
    record {
      len = len ∙ sp.len;
      room = ed.room ∙ sp.room;
      next_here = next here ∙ sp.next_here;
      next_new = next m ∙ sp.next_new;
      next_else = λ k a b. next k ∙ sp.next_else k a b;
      prev_new = prev m ∙ sp.prev_new;
      prev_ahead = prev (next_of v here) ∙ sp.prev_ahead;
      prev_else = λ k a b. prev k ∙ sp.prev_else k a b;
      ring_new = ring m ∙ sp.ring_new;
      ring_else = λ k a. ring k ∙ sp.ring_else k a;
      state_new = state m ∙ sp.state_new;
      state_else = λ k a. state k ∙ sp.state_else k a;
      value_head = ap (λ (x : Cell). x.value) ed.here;
      value_else = λ k a. ap (λ (x : Cell). x.value) (ed.elsewhere k a) ∙ sp.value_same k;
    }

module _ (v : Slots) (s : View) (here m h : ℕ) (fore aft : List ℕ) (are : AreRings v s) (hh : state_of v h ≡ Head) (ml : state_of v m ≡ Loose)
    (split : list_in s.rings h ≡ fore ++ aft) (at : here ≡ last_of h fore) where
  abbrev pub put : List ℕ
  put = fore ++ m ∷ aft

  abbrev pub linked_view : View
  linked_view = record s { rings = map.insert s.rings h put; loose = without m s.loose }

  r : IsRing v h (fore ++ aft)
  r = subst (λ xs. IsRing v h xs) split (are.rings h hh)

  circle : IsPath (next_of v) (prev_of v) h (fore ++ (aft ++ h ∷ []))
  circle = subst (λ l. IsPath (next_of v) (prev_of v) h l) (appended fore aft (h ∷ [])) r.circle

  abbrev b : ℕ
  b = first_of aft h

  circle_cut : IsPath (next_of v) (prev_of v) h (fore ++ b ∷ tail_to aft h)
  circle_cut = subst (λ l. IsPath (next_of v) (prev_of v) h (fore ++ l)) (tail_is aft h) circle

  ahead : next_of v here ≡ b
  ahead = ap (next_of v) at ∙ path_next (next_of v) (prev_of v) h b fore (tail_to aft h) circle_cut

  of_fore : (k : ℕ) → IsIn k fore → Belongs v h k
  of_fore k i = in_ring v h (fore ++ aft) r k (in_left k fore aft i)

  of_aft : (k : ℕ) → IsIn k aft → Belongs v h k
  of_aft k i = in_ring v h (fore ++ aft) r k (in_right k fore aft i)

  of_here : Belongs v h here
  of_here = elim (last_in h fore) [ inl e ↦ inl (at ∙ e) | inr i ↦ of_fore here (subst (λ k. IsIn k fore) (sym at) i) ]

  of_b : Belongs v h b
  of_b = elim (first_in h aft) [ inl e ↦ inl e | inr i ↦ of_aft b i ]

  not_m : (k : ℕ) → Belongs v h k → k ≡ m → ⊥
  not_m k bel = not_strange v h k m hh ml bel

  -- a member is not the head
  not_h : (k : ℕ) → IsIn k (fore ++ aft) → k ≡ h → ⊥
  not_h k i e = head_linked (sym hh ∙ ap (state_of v) (sym e) ∙ r.linked k i)

  not_b : (k : ℕ) → IsIn k fore → k ≡ next_of v here → ⊥
  not_b k i e = elim (first_in h aft) [
    | inl q ↦ not_h k (in_left k fore aft i) (e ∙ ahead ∙ q)
    | inr j ↦ distinct_between k fore aft r.distinct i (subst (λ n. IsIn n aft) (sym (e ∙ ahead)) j)
  ]

  not_here : (k : ℕ) → IsIn k aft → k ≡ here → ⊥
  not_here k i e = elim (last_in h fore) [
    | inl q ↦ not_h k (in_right k fore aft i) (e ∙ at ∙ q)
    | inr j ↦ distinct_between k fore aft r.distinct (subst (λ n. IsIn n fore) (sym (e ∙ at)) j) i
  ]

  outer : (k : ℕ) → IsIn k (aft ++ h ∷ []) → Belongs v h k
  outer k i = elim (in_either k aft (h ∷ []) i) [ inl a ↦ of_aft k a | inr c ↦ elim c [ inl e ↦ inl e | inr no_more ↦ absurd no_more ] ]

  h_not_m : h ≡ m → ⊥
  h_not_m e = head_loose (sym hh ∙ ap (state_of v) e ∙ ml)

  member_of : (k : ℕ) → IsIn k put → (k ≡ m) ⊎ IsIn k (fore ++ aft)
  member_of k i = in_put_either k m fore aft i

  pub here_belongs : Belongs v h here
  here_belongs = of_here

  pub ahead_belongs : Belongs v h (next_of v here)
  ahead_belongs = subst (Belongs v h) (sym ahead) of_b

  pub here_apart : here ≡ m → ⊥
  here_apart = not_m here of_here

  pub ahead_apart : next_of v here ≡ m → ⊥
  ahead_apart = not_m (next_of v here) ahead_belongs

  module _ (w : Slots) (count : ℕ) (t : IsTiedIn v w here m h count) (counted : count ≡ value_of v h + 1) where
    new_circle : IsPath (next_of w) (prev_of w) h (put ++ h ∷ [])
    new_circle =
        let left = path_inner (next_of v) (prev_of v) (next_of w) (prev_of w) h b m fore
        (λ k i ne. t.next_else k (λ e. ne (e ∙ at)) (not_m k (elim i [ inl e ↦ inl e | inr j ↦ of_fore k j ])))
        (λ k i. t.prev_else k (not_m k (of_fore k i)) (not_b k i))
        ((λ i. not_h h (in_left h fore aft i) refl), distinct_left fore aft r.distinct)
        (ap (next_of w) (sym at) ∙ t.next_here) (t.prev_new ∙ at)
        (path_left (next_of v) (prev_of v) h b fore (tail_to aft h) circle_cut) in
        let right = path_from (next_of v) (prev_of v) (next_of w) (prev_of w) (last_of h fore) m h aft
        (t.next_new ∙ ahead) (ap (prev_of w) (sym ahead) ∙ t.prev_ahead)
        (λ k i. t.next_else k (not_here k i) (not_m k (of_aft k i)))
        (λ k i ne. t.prev_else k (not_m k (outer k i)) (λ e. ne (e ∙ ahead)))
        (distinct_push h aft (λ i. not_h h (in_right h fore aft i) refl) (distinct_right fore aft r.distinct))
        (path_behind (next_of v) (prev_of v) h fore (aft ++ h ∷ []) circle) in
        subst (λ l. IsPath (next_of w) (prev_of w) h l) (sym (appended fore (m ∷ aft) (h ∷ []))) (path_join (next_of w) (prev_of w) h m fore (aft ++ h ∷ []) left right)

    this_ring : IsRing w h put
    this_ring = record {
      circle = new_circle;
      linked = λ k i. elim (member_of k i) [ inl e ↦ ap (state_of w) e ∙ t.state_new | inr j ↦ t.state_else k (not_m k (in_ring v h (fore ++ aft) r k j)) ∙ r.linked k j ];
      mine = λ k i. elim (member_of k i) [ inl e ↦ ap (ring_of w) e ∙ t.ring_new | inr j ↦ t.ring_else k (not_m k (in_ring v h (fore ++ aft) r k j)) ∙ r.mine k j ];
      distinct = distinct_put m fore aft (λ i. not_m m (in_ring v h (fore ++ aft) r m i) refl) r.distinct;
      counted = t.value_head ∙ counted ∙ ap (λ n. n + 1) r.counted ∙ sym (length_put m fore aft);
    }

    other_ring : (k : ℕ) (xs : List ℕ) → state_of v k ≡ Head → (k ≡ h → ⊥) → IsRing v k xs → IsRing w k xs
    other_ring k xs kh ne o =
        let far : (j i : ℕ) → Belongs v k j → Belongs v h i → j ≡ i → ⊥ = λ j i x y. strangers v h k i j hh kh ne y x in
        let off_m : (j : ℕ) → Belongs v k j → j ≡ m → ⊥ = λ j x. not_strange v k j m kh ml x in
        let of_b' : Belongs v h (next_of v here) = subst (Belongs v h) (sym ahead) of_b in
        record {
          circle = path_same (next_of v) (prev_of v) (next_of w) (prev_of w) k k xs
              (λ j i. let x : Belongs v k j = elim i [ inl e ↦ inl e | inr q ↦ in_ring v k xs o j q ] in t.next_else j (far j here x of_here) (off_m j x))
              (λ j i. let x = in_ring v k xs o j i in t.prev_else j (off_m j x) (far j (next_of v here) x of_b'))
              (t.prev_else k (off_m k (inl refl)) (far k (next_of v here) (inl refl) of_b')) o.circle;
          linked = λ j i. t.state_else j (off_m j (in_ring v k xs o j i)) ∙ o.linked j i;
          mine = λ j i. t.ring_else j (off_m j (in_ring v k xs o j i)) ∙ o.mine j i;
          distinct = o.distinct;
          counted = t.value_else k ne ∙ o.counted;
        }

    head_of_w : (k : ℕ) → state_of w k ≡ Head → state_of v k ≡ Head
    head_of_w k e = elim (cases_eq k m) [ inl q ↦ absurd (head_linked (sym e ∙ ap (state_of w) q ∙ t.state_new)) | inr ne ↦ sym (t.state_else k ne) ∙ e ]

    pub links_keep : AreRings w linked_view
    links_keep = record {
      heads = λ k. elim (cases_eq k h) [
        | inl e ↦ ap (λ j. map.contains_key linked_view.rings j) e ∙ ap is_some (get_new s.rings h put) ∙ sym (ap is_head (ap (state_of w) e ∙ t.state_else h h_not_m ∙ hh))
        | inr ne ↦
            ap is_some (get_else s.rings h put k ne) ∙ are.heads k
            ∙ elim (cases_eq k m) [
              | inl q ↦ ap is_head (ap (state_of v) q ∙ ml) ∙ sym (ap is_head (ap (state_of w) q ∙ t.state_new))
              | inr nm ↦ ap is_head (sym (t.state_else k nm))
            ]
      ];
      rings = λ k e. elim (cases_eq k h) [
        | inl q ↦ subst (λ j. IsRing w j (list_in linked_view.rings j)) (sym q) (subst (λ xs. IsRing w h xs) (sym (list_new s.rings h put)) this_ring)
        | inr ne ↦ subst (λ xs. IsRing w k xs) (sym (list_else s.rings h k put ne)) (other_ring k (list_in s.rings k) (head_of_w k e) ne (are.rings k (head_of_w k e)))
      ];
      listed = λ k e. elim (cases_eq k m) [
        | inl q ↦
            let in_h : ring_of w k ≡ h = ap (ring_of w) q ∙ t.ring_new in
            record {
              head = ap (state_of w) in_h ∙ t.state_else h h_not_m ∙ hh;
              member = subst (λ j. IsIn k (list_in linked_view.rings j)) (sym in_h) (subst (λ xs. IsIn k xs) (sym (list_new s.rings h put)) (subst (λ j. IsIn j put) (sym q) (in_put_new m fore aft)));
            }
        | inr ne ↦
            let old = are.listed k (sym (t.state_else k ne) ∙ e) in
            let same : ring_of w k ≡ ring_of v k = t.ring_else k ne in
            let g = ring_of v k in
            let g_not_m : g ≡ m → ⊥ = λ q. head_loose (sym old.head ∙ ap (state_of v) q ∙ ml) in
            record {
              head = ap (state_of w) same ∙ t.state_else g g_not_m ∙ old.head;
              member = subst (λ j. IsIn k (list_in linked_view.rings j)) (sym same) (elim (cases_eq g h) [
                | inl q ↦
                    let was : IsIn k (fore ++ aft) = subst (λ xs. IsIn k xs) (ap (list_in s.rings) q ∙ split) old.member in
                    subst (λ xs. IsIn k xs) (sym (ap (list_in linked_view.rings) q ∙ list_new s.rings h put)) (in_put k m fore aft was)
                | inr nh ↦ subst (λ xs. IsIn k xs) (sym (list_else s.rings h g put nh)) old.member
              ]);
            }
      ];
      loose = λ k i. let o = in_without k m s.loose i in t.state_else k o.1 ∙ are.loose k o.0;
      found = λ k e. elim (cases_eq k m) [
        | inl q ↦ absurd (linked_loose (sym t.state_new ∙ ap (state_of w) (sym q) ∙ e))
        | inr ne ↦ still_in k m s.loose (are.found k (sym (t.state_else k ne) ∙ e)) ne
      ];
      used = λ k ne. subst (λ n. k < n) (sym t.len) (are.used k (λ free. elim (cases_eq k m) [
        | inl q ↦ absurd (loose_free (sym ml ∙ ap (state_of v) (sym q) ∙ free))
        | inr nm ↦ ne (t.state_else k nm ∙ free)
      ]));
      tags = λ k. are.tags k ∙ elim (cases_eq k m) [
        | inl q ↦
            ap (λ x. cond (is_member x) (Some (value_of v k)) None) (ap (state_of v) q ∙ ml)
            ∙ ap Some (sym (t.value_else k (λ e. h_not_m (sym e ∙ q))))
            ∙ sym (ap (λ x. cond (is_member x) (Some (value_of w k)) None) (ap (state_of w) q ∙ t.state_new))
        | inr nm ↦ elim (cases_eq k h) [
          | inl e ↦
              ap (λ x. cond (is_member x) (Some (value_of v k)) None) (ap (state_of v) e ∙ hh)
              ∙ sym (ap (λ x. cond (is_member x) (Some (value_of w k)) None) (t.state_else k nm ∙ ap (state_of v) e ∙ hh))
          | inr nh ↦
              ap (λ x. cond (is_member x) (Some (value_of v k)) None) (sym (t.state_else k nm))
              ∙ ap (λ n. cond (is_member (state_of w k)) (Some n) None) (sym (t.value_else k nh))
        ]
      ];
    }
