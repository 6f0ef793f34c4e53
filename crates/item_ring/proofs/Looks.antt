-- What the links of a node tell of its ring.
use Rattle.std.proofs.Common.{◌≡◌, ℕ, cond, List, [], ◌∷◌, ◌++◌, Some, None, unwrap_or, refl, sym, ap, subst, ◌∙◌, inl, inr}
use Rattle.std.proofs.lemmas.Bool.Decides.{eqb_tells}
use Rattle.item_ring.specs.declared.block.State.TheVariants.{Linked}
use Rattle.item_ring.specs.declared.rings.Rings.TheInside.{Inside}
use Rattle.item_ring.specs.Nodes.{next_of, prev_of, ring_of, state_of}
use Rattle.item_ring.specs.RingLists.{RingLists, IsIn, IsHead, IsLinkedIn, StandsBetween, list_in, front, back, unless_equal}
use Rattle.std.specs.Option.{option_or}
use Rattle.item_ring.specs.AreRings.{IsPath, IsRing}
use Rattle.item_ring.specs.RingsHold.{RingsHold, lists_of}
use Rattle.item_ring.proofs.Apart.{head_linked, head_state, placed_as_linked}
use Rattle.item_ring.proofs.Lists.{first_of, last_of, tail_to, tail_is, in_left, in_right, in_put_new, appended, append_none, path_right, path_prev}

unless_front : (xs : List ℕ) (h : ℕ) → (IsIn h xs → ⊥) → unless_equal (first_of xs h) h ≡ front xs
unless_front [] h out = elim (eqb_tells h h) [ inl t ↦ ap (λ b. cond b None (Some h)) t.0 | inr f ↦ absurd (f.1 refl) ]
unless_front (x ∷ xs) h out = elim (eqb_tells x h) [ inl t ↦ absurd (out (inl (sym t.1))) | inr f ↦ ap (λ b. cond b None (Some x)) f.0 ]

back_is : (p x : ℕ) (xs : List ℕ) → back (x ∷ xs) ≡ Some (last_of p (x ∷ xs))
back_is p x [] = refl
back_is p x (y ∷ ys) = back_is x y ys

last_among : (x : ℕ) (xs : List ℕ) → IsIn (last_of x xs) (x ∷ xs)
last_among x [] = inl refl
last_among x (y ∷ ys) = inr (last_among y ys)

unless_back : (xs : List ℕ) (h : ℕ) → (IsIn h xs → ⊥) → unless_equal (last_of h xs) h ≡ back xs
unless_back [] h out = elim (eqb_tells h h) [ inl t ↦ ap (λ b. cond b None (Some h)) t.0 | inr f ↦ absurd (f.1 refl) ]
unless_back (x ∷ xs) h out = elim (eqb_tells (last_of x xs) h) [
  | inl t ↦ absurd (out (subst (λ k. IsIn k (x ∷ xs)) t.1 (last_among x xs)))
  | inr f ↦ ap (λ b. cond b None (Some (last_of x xs))) f.0 ∙ sym (back_is h x xs)
]

module _ (a : Inside) (inv : RingsHold a) where
  module _ (h : ℕ) (key : IsHead (lists_of a) h) where
    abbrev xs : List ℕ
    xs = list_in a.seen.view.rings h

    r : IsRing a.nodes h xs
    r = inv.rings.rings h (head_state a.nodes a.seen.view inv.rings h key)

    outside : (ys : List ℕ) → ((k : ℕ) → IsIn k ys → IsIn k xs) → IsIn h ys → ⊥
    outside ys sub i = head_linked (sym (head_state a.nodes a.seen.view inv.rings h key) ∙ r.linked h (sub h i))

    pub first_look : unless_equal (next_of a.nodes h) h ≡ front xs
    first_look =
        let cut : IsPath (next_of a.nodes) (prev_of a.nodes) h (first_of xs h ∷ tail_to xs h) = subst (λ l. IsPath (next_of a.nodes) (prev_of a.nodes) h l) (tail_is xs h) r.circle in
        ap (λ n. unless_equal n h) cut.0 ∙ unless_front xs h (outside xs (λ k i. i))

    pub last_look : unless_equal (prev_of a.nodes h) h ≡ back xs
    last_look = ap (λ n. unless_equal n h) (path_prev (next_of a.nodes) (prev_of a.nodes) h h xs [] r.circle) ∙ unless_back xs h (outside xs (λ k i. i))

    module _ (m : ℕ) (before behind : List ℕ) (is : xs ≡ before ++ m ∷ behind) where
      abbrev N : ℕ → ℕ
      N = next_of a.nodes

      abbrev P : ℕ → ℕ
      P = prev_of a.nodes

      circle : IsPath N P h (before ++ m ∷ (behind ++ h ∷ []))
      circle = subst (λ l. IsPath N P h l) (ap (λ l. l ++ h ∷ []) is ∙ appended before (m ∷ behind) (h ∷ [])) r.circle

      home : ring_of a.nodes m ≡ h
      home = r.mine m (subst (IsIn m) (sym is) (in_put_new m before behind))

      pub next_look : unless_equal (next_of a.nodes m) (ring_of a.nodes m) ≡ front behind
      next_look =
          let cut : IsPath N P m (first_of behind h ∷ tail_to behind h) = subst (λ l. IsPath N P m l) (tail_is behind h) (path_right N P h m before (behind ++ h ∷ []) circle) in
          ap (unless_equal (N m)) home ∙ ap (λ n. unless_equal n h) cut.0
          ∙ unless_front behind h (outside behind (λ k i. subst (IsIn k) (sym is) (in_right k before (m ∷ behind) (inr i))))

      pub prev_look : unless_equal (prev_of a.nodes m) (ring_of a.nodes m) ≡ back before
      prev_look =
          ap (unless_equal (P m)) home ∙ ap (λ n. unless_equal n h) (path_prev N P h m before (behind ++ h ∷ []) circle)
          ∙ unless_back before h (outside before (λ k i. subst (IsIn k) (sym is) (in_left k before (m ∷ behind) i)))

  pub stands_next : (h m : ℕ) (before behind : List ℕ) → StandsBetween (lists_of a) h m before behind → unless_equal (next_of a.nodes m) (ring_of a.nodes m) ≡ front behind
  stands_next h m before behind b = next_look h b.head m before behind b.is

  pub stands_prev : (h m : ℕ) (before behind : List ℕ) → StandsBetween (lists_of a) h m before behind → unless_equal (prev_of a.nodes m) (ring_of a.nodes m) ≡ back before
  stands_prev h m before behind b = prev_look h b.head m before behind b.is

  pub home_of : (m : ℕ) → state_of a.nodes m ≡ Linked → IsLinkedIn (lists_of a) (ring_of a.nodes m) m
  home_of m e = placed_as_linked a.nodes a.seen.view inv.rings (lists_of a) refl refl refl m e

pub cyclic_front : (m : ℕ) (before behind : List ℕ) → Some (unwrap_or (option_or (front behind) (front (before ++ m ∷ behind))) m) ≡ front ((behind ++ before) ++ m ∷ [])
cyclic_front m before (y ∷ ys) = refl
cyclic_front m [] [] = refl
cyclic_front m (x ∷ _) [] = refl

back_append : (xs : List ℕ) (y : ℕ) (ys : List ℕ) → back (xs ++ y ∷ ys) ≡ back (y ∷ ys)
back_append [] y ys = refl
back_append (x ∷ []) y ys = refl
back_append (x ∷ z ∷ zs) y ys = back_append (z ∷ zs) y ys

pub cyclic_back : (m : ℕ) (before behind : List ℕ) → Some (unwrap_or (option_or (back before) (back (before ++ m ∷ behind))) m) ≡ back ((m ∷ behind) ++ before)
cyclic_back m [] behind =
    ap (λ o. Some (unwrap_or o m)) (back_is m m behind) ∙ sym (back_is m m behind) ∙ ap back (sym (append_none (m ∷ behind)))
cyclic_back m (x ∷ xs) behind =
    ap (λ o. Some (unwrap_or (option_or o (back (x ∷ (xs ++ m ∷ behind)))) m)) (back_is m x xs) ∙ sym (back_is m x xs) ∙ sym (back_append (m ∷ behind) x xs)

pub stands_linked : (s : RingLists) (h m : ℕ) (before behind : List ℕ) → StandsBetween s h m before behind → IsLinkedIn s h m
stands_linked s h m before behind b = record { head = b.head; member = subst (IsIn m) (sym b.is) (in_put_new m before behind) }
