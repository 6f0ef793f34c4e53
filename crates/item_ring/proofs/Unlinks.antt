-- A linked member is taken out, and the rings hold again.
use Rattle.std.proofs.Common.{◌≡◌, ℕ, ◌+◌, ◌<◌, cond, List, [], ◌∷◌, ◌++◌, Some, None, is_some, refl, sym, ap, subst, ◌∙◌, inl, inr, arith}
use Rattle.std.proofs.lemmas.Bool.{cases_eq}
use Rattle.std.specs.FinMap as map
use Rattle.item_ring.specs.declared.block.Cell.{Cell}
use Rattle.item_ring.specs.declared.block.State.TheVariants.{Loose, Linked, Head}
use Rattle.item_ring.specs.Nodes.{Slots, cell_at, next_of, prev_of, ring_of, value_of, state_of, Edits, Unspliced}
use Rattle.item_ring.specs.RingLists.{IsIn, IsDistinct, list_in}
use Rattle.item_ring.specs.AreRings.{is_head, is_member, IsPath, IsRing, AreRings}
use Rattle.item_ring.specs.View.{View}
use Rattle.item_ring.proofs.Apart.{head_loose, head_linked, linked_loose, linked_free, list_new, list_else, Belongs, strangers, in_ring}
use Rattle.item_ring.proofs.Edits.{same_field}
use Rattle.item_ring.proofs.Lists.{in_left, in_right, in_put, in_put_new, in_put_either, out_apart, distinct_out, distinct_left, distinct_right, distinct_between, distinct_push, length_put, last_of, first_of, last_in, first_in, path_left, path_right, path_prev, path_over, path_same, path_inner, rest_same, tail_to, tail_is, appended}
use Rattle.item_ring.proofs.Maps.{get_new, get_else}

-- what the nodes of an `Unspliced` are once the ring is counted
pub record IsTakenOut (v w : Slots) (m h count : ℕ) : Type 0 where
  pub len : w.len ≡ v.len
  pub room : w.room ≡ v.room
  pub next_before : next_of w (prev_of v m) ≡ next_of v m
  pub next_else : (k : ℕ) → (k ≡ prev_of v m → ⊥) → next_of w k ≡ next_of v k
  pub prev_ahead : prev_of w (next_of v m) ≡ prev_of v m
  pub prev_else : (k : ℕ) → (k ≡ next_of v m → ⊥) → prev_of w k ≡ prev_of v k
  pub ring_same : (k : ℕ) → ring_of w k ≡ ring_of v k
  pub state_new : state_of w m ≡ Loose
  pub state_else : (k : ℕ) → (k ≡ m → ⊥) → state_of w k ≡ state_of v k
  pub value_head : value_of w h ≡ count
  pub value_else : (k : ℕ) → (k ≡ h → ⊥) → value_of w k ≡ value_of v k

pub taken_out : (v u w : Slots) (m h count : ℕ) → Unspliced v u m → w.len ≡ u.len → Edits u w h (record (cell_at u h) { value = count }) → IsTakenOut v w m h count
taken_out v u w m h count un len ed =
    let c = record (cell_at u h) { value = count } in
    let next = same_field (λ x. x.next) u w h c ed refl in
    let prev = same_field (λ x. x.prev) u w h c ed refl in
    let ring = same_field (λ x. x.ring) u w h c ed refl in
    let state = same_field (λ x. x.state) u w h c ed refl in
    record {
      len = len ∙ un.len;
      room = ed.room ∙ un.room;
      next_before = next (prev_of v m) ∙ un.next_before;
      next_else = λ k a. next k ∙ un.next_else k a;
      prev_ahead = prev (next_of v m) ∙ un.prev_ahead;
      prev_else = λ k a. prev k ∙ un.prev_else k a;
      ring_same = λ k. ring k ∙ un.ring_same k;
      state_new = state m ∙ un.state_new;
      state_else = λ k a. state k ∙ un.state_else k a;
      value_head = ap (λ (x : Cell). x.value) ed.here;
      value_else = λ k a. ap (λ (x : Cell). x.value) (ed.elsewhere k a) ∙ un.value_same k;
    }

module _ (v w : Slots) (s : View) (m h count : ℕ) (fore aft : List ℕ) (are : AreRings v s) (hh : state_of v h ≡ Head)
    (split : list_in s.rings h ≡ fore ++ m ∷ aft) (t : IsTakenOut v w m h count) (counted : count + 1 ≡ value_of v h) where
  abbrev all : List ℕ
  all = fore ++ m ∷ aft

  abbrev pub left : List ℕ
  left = fore ++ aft

  abbrev pub unlinked_view : View
  unlinked_view = record s { rings = map.insert s.rings h left; loose = m ∷ s.loose }

  r : IsRing v h all
  r = subst (λ xs. IsRing v h xs) split (are.rings h hh)

  is_linked : state_of v m ≡ Linked
  is_linked = r.linked m (in_put_new m fore aft)

  circle : IsPath (next_of v) (prev_of v) h (fore ++ m ∷ (aft ++ h ∷ []))
  circle = subst (λ l. IsPath (next_of v) (prev_of v) h l) (appended fore (m ∷ aft) (h ∷ [])) r.circle

  p : prev_of v m ≡ last_of h fore
  p = path_prev (next_of v) (prev_of v) h m fore (aft ++ h ∷ []) circle

  from_m : IsPath (next_of v) (prev_of v) m (aft ++ h ∷ [])
  from_m = path_right (next_of v) (prev_of v) h m fore (aft ++ h ∷ []) circle

  q : next_of v m ≡ first_of aft h
  q = let cut : IsPath (next_of v) (prev_of v) m (first_of aft h ∷ tail_to aft h) = subst (λ l. IsPath (next_of v) (prev_of v) m l) (tail_is aft h) from_m in cut.0

  in_all : (k : ℕ) → IsIn k left → IsIn k all
  in_all k i = in_put k m fore aft i

  off_m : (k : ℕ) → IsIn k left → k ≡ m → ⊥
  off_m k i e = out_apart m fore aft r.distinct (subst (λ j. IsIn j left) e i)

  not_h : (k : ℕ) → IsIn k all → k ≡ h → ⊥
  not_h k i e = head_linked (sym hh ∙ ap (state_of v) (sym e) ∙ r.linked k i)

  h_not_m : h ≡ m → ⊥
  h_not_m e = not_h m (in_put_new m fore aft) (sym e)

  both : IsDistinct left
  both = distinct_out m fore aft r.distinct

  not_p : (k : ℕ) → IsIn k aft → k ≡ prev_of v m → ⊥
  not_p k i e = elim (last_in h fore) [
    | inl a ↦ not_h k (in_all k (in_right k fore aft i)) (e ∙ p ∙ a)
    | inr j ↦ distinct_between k fore aft both (subst (λ n. IsIn n fore) (sym (e ∙ p)) j) i
  ]

  not_q : (k : ℕ) → IsIn k fore → k ≡ next_of v m → ⊥
  not_q k i e = elim (first_in h aft) [
    | inl a ↦ not_h k (in_all k (in_left k fore aft i)) (e ∙ q ∙ a)
    | inr j ↦ distinct_between k fore aft both i (subst (λ n. IsIn n aft) (sym (e ∙ q)) j)
  ]

  of_p : Belongs v h (prev_of v m)
  of_p = subst (Belongs v h) (sym p) (elim (last_in h fore) [ inl e ↦ inl e | inr i ↦ in_ring v h all r (last_of h fore) (in_all (last_of h fore) (in_left (last_of h fore) fore aft i)) ])

  of_q : Belongs v h (next_of v m)
  of_q = subst (Belongs v h) (sym q) (elim (first_in h aft) [ inl e ↦ inl e | inr i ↦ in_ring v h all r (first_of aft h) (in_all (first_of aft h) (in_right (first_of aft h) fore aft i)) ])

  of_m : Belongs v h m
  of_m = in_ring v h all r m (in_put_new m fore aft)

  pub prev_of_belongs : Belongs v h (prev_of v m)
  prev_of_belongs = of_p

  new_circle : IsPath (next_of w) (prev_of w) h (left ++ h ∷ [])
  new_circle =
      let ends = path_inner (next_of v) (prev_of v) (next_of w) (prev_of w) h m (first_of aft h) fore
      (λ k i ne. t.next_else k (λ e. ne (e ∙ p)))
      (λ k i. t.prev_else k (not_q k i))
      ((λ i. not_h h (in_all h (in_left h fore aft i)) refl), distinct_left fore aft both)
      (ap (next_of w) (sym p) ∙ t.next_before ∙ q) (ap (prev_of w) (sym q) ∙ t.prev_ahead ∙ p)
      (path_left (next_of v) (prev_of v) h m fore (aft ++ h ∷ []) circle) in
      let rest = rest_same (next_of v) (prev_of v) (next_of w) (prev_of w) m h aft
      (λ k i. t.next_else k (not_p k i))
      (λ k i ne. t.prev_else k (λ e. ne (e ∙ q)))
      (distinct_push h aft (λ i. not_h h (in_all h (in_right h fore aft i)) refl) (distinct_right fore aft both)) from_m in
      subst (λ l. IsPath (next_of w) (prev_of w) h l) (sym (appended fore aft (h ∷ []))) (path_over (next_of w) (prev_of w) h h fore aft ends rest)

  this_ring : IsRing w h left
  this_ring = record {
    circle = new_circle;
    linked = λ k i. t.state_else k (off_m k i) ∙ r.linked k (in_all k i);
    mine = λ k i. t.ring_same k ∙ r.mine k (in_all k i);
    distinct = both;
    counted = let long = length_put m fore aft in omega (arith, t.value_head, counted, r.counted, long);
  }

  other_ring : (k : ℕ) (xs : List ℕ) → state_of v k ≡ Head → (k ≡ h → ⊥) → IsRing v k xs → IsRing w k xs
  other_ring k xs kh ne o =
      let far : (j i : ℕ) → Belongs v k j → Belongs v h i → j ≡ i → ⊥ = λ j i x y. strangers v h k i j hh kh ne y x in
      record {
        circle = path_same (next_of v) (prev_of v) (next_of w) (prev_of w) k k xs
            (λ j i. let x : Belongs v k j = elim i [ inl e ↦ inl e | inr g ↦ in_ring v k xs o j g ] in t.next_else j (far j (prev_of v m) x of_p))
            (λ j i. t.prev_else j (far j (next_of v m) (in_ring v k xs o j i) of_q))
            (t.prev_else k (far k (next_of v m) (inl refl) of_q)) o.circle;
        linked = λ j i. t.state_else j (far j m (in_ring v k xs o j i) of_m) ∙ o.linked j i;
        mine = λ j i. t.ring_same j ∙ o.mine j i;
        distinct = o.distinct;
        counted = t.value_else k ne ∙ o.counted;
      }

  head_of_w : (k : ℕ) → state_of w k ≡ Head → state_of v k ≡ Head
  head_of_w k e = elim (cases_eq k m) [ inl a ↦ absurd (head_loose (sym e ∙ ap (state_of w) a ∙ t.state_new)) | inr ne ↦ sym (t.state_else k ne) ∙ e ]

  pub unlinks_keep : AreRings w unlinked_view
  unlinks_keep = record {
    heads = λ k. elim (cases_eq k h) [
      | inl e ↦ ap (λ j. map.contains_key unlinked_view.rings j) e ∙ ap is_some (get_new s.rings h left) ∙ sym (ap is_head (ap (state_of w) e ∙ t.state_else h h_not_m ∙ hh))
      | inr ne ↦
          ap is_some (get_else s.rings h left k ne) ∙ are.heads k
          ∙ elim (cases_eq k m) [
            | inl a ↦ ap is_head (ap (state_of v) a ∙ is_linked) ∙ sym (ap is_head (ap (state_of w) a ∙ t.state_new))
            | inr nm ↦ ap is_head (sym (t.state_else k nm))
          ]
    ];
    rings = λ k e. elim (cases_eq k h) [
      | inl a ↦ subst (λ j. IsRing w j (list_in unlinked_view.rings j)) (sym a) (subst (λ xs. IsRing w h xs) (sym (list_new s.rings h left)) this_ring)
      | inr ne ↦ subst (λ xs. IsRing w k xs) (sym (list_else s.rings h k left ne)) (other_ring k (list_in s.rings k) (head_of_w k e) ne (are.rings k (head_of_w k e)))
    ];
    listed = λ k e.
        let ne : k ≡ m → ⊥ = λ a. linked_loose (sym e ∙ ap (state_of w) a ∙ t.state_new) in
        let old = are.listed k (sym (t.state_else k ne) ∙ e) in
        let g = ring_of v k in
        let g_not_m : g ≡ m → ⊥ = λ a. head_linked (sym old.head ∙ ap (state_of v) a ∙ is_linked) in
        record {
          head = ap (state_of w) (t.ring_same k) ∙ t.state_else g g_not_m ∙ old.head;
          member = subst (λ j. IsIn k (list_in unlinked_view.rings j)) (sym (t.ring_same k)) (elim (cases_eq g h) [
            | inl a ↦
                let was : IsIn k all = subst (λ xs. IsIn k xs) (ap (list_in s.rings) a ∙ split) old.member in
                let still : IsIn k left = elim (in_put_either k m fore aft was) [ inl x ↦ absurd (ne x) | inr i ↦ i ] in
                subst (λ xs. IsIn k xs) (sym (ap (list_in unlinked_view.rings) a ∙ list_new s.rings h left)) still
            | inr nh ↦ subst (λ xs. IsIn k xs) (sym (list_else s.rings h g left nh)) old.member
          ]);
        };
    loose = λ k i. elim i [
      | inl e ↦ ap (state_of w) e ∙ t.state_new
      | inr j ↦ t.state_else k (λ e. linked_loose (sym is_linked ∙ ap (state_of v) (sym e) ∙ are.loose k j)) ∙ are.loose k j
    ];
    found = λ k e. elim (cases_eq k m) [ inl a ↦ inl a | inr ne ↦ inr (are.found k (sym (t.state_else k ne) ∙ e)) ];
    used = λ k ne. subst (λ n. k < n) (sym t.len) (are.used k (λ free. elim (cases_eq k m) [
      | inl a ↦ absurd (linked_free (sym is_linked ∙ ap (state_of v) (sym a) ∙ free))
      | inr nm ↦ ne (t.state_else k nm ∙ free)
    ]));
    tags = λ k. are.tags k ∙ elim (cases_eq k m) [
      | inl a ↦
          ap (λ x. cond (is_member x) (Some (value_of v k)) None) (ap (state_of v) a ∙ is_linked)
          ∙ ap Some (sym (t.value_else k (λ e. h_not_m (sym e ∙ a))))
          ∙ sym (ap (λ x. cond (is_member x) (Some (value_of w k)) None) (ap (state_of w) a ∙ t.state_new))
      | inr nm ↦ elim (cases_eq k h) [
        | inl e ↦
            ap (λ x. cond (is_member x) (Some (value_of v k)) None) (ap (state_of v) e ∙ hh)
            ∙ sym (ap (λ x. cond (is_member x) (Some (value_of w k)) None) (t.state_else k nm ∙ ap (state_of v) e ∙ hh))
        | inr nh ↦
            ap (λ x. cond (is_member x) (Some (value_of v k)) None) (sym (t.state_else k nm))
            ∙ ap (λ n. cond (is_member (state_of w k)) (Some n) None) (sym (t.value_else k nh))
      ]
    ];
  }
