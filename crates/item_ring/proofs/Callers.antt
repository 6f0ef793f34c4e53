-- What a caller makes of the clauses.
use Rattle.std.proofs.Common.{◌≡◌, ℕ, ◌+◌, ◌≤◌, Bool, true, false, cond, List, [], ◌∷◌, is_some, refl, sym, ap, subst, ◌∙◌, inl, inr, arith}
use Rattle.std.proofs.lemmas.Bool.Decides.{eqb_tells}
use Rattle.std.specs.FinMap as map
use Rattle.std.specs.FinMap.{FinMap, len-insert}
use Rattle.std.specs.Ordering.{nat_cmp}
use Rattle.std.specs.Cmp.{nat_cmp_total}
use Rattle.item_ring.specs.RingLists.{RingLists, IsIn, IsLinkedIn, ring, with_after, with_before}
use Rattle.item_ring.proofs.Apart.{list_new}
use Rattle.item_ring.proofs.Maps.{get_new}

pub in_with_after : (k at m : ℕ) (xs : List ℕ) → IsIn k xs → IsIn k (with_after at m xs)
in_with_after k at m [] i = i
in_with_after k at m (x ∷ xs) i = elim (eqb_tells x at) [
  | inl t ↦ subst (λ b. IsIn k (cond b (x ∷ m ∷ xs) (x ∷ with_after at m xs))) (sym t.0) (elim i [ inl e ↦ inl e | inr j ↦ inr (inr j) ])
  | inr f ↦ subst (λ b. IsIn k (cond b (x ∷ m ∷ xs) (x ∷ with_after at m xs))) (sym f.0) (elim i [ inl e ↦ inl e | inr j ↦ inr (in_with_after k at m xs j) ])
]

pub linked_on : (s t : RingLists) (h m : ℕ) (xs : List ℕ) → t.rings ≡ map.insert s.rings h xs → IsIn m xs → IsLinkedIn t h m
linked_on s t h m xs e i = record {
  head = ap (λ r. map.contains_key r h) e ∙ ap is_some (get_new s.rings h xs);
  member = subst (IsIn m) (sym (ap (λ r. ring (record t { rings = r }) h) e ∙ list_new s.rings h xs)) i;
}

pub linked_same : (s t : RingLists) (h m : ℕ) → t.rings ≡ s.rings → IsLinkedIn s h m → IsLinkedIn t h m
linked_same s t h m e l = record {
  head = ap (λ r. map.contains_key r h) e ∙ l.head;
  member = subst (IsIn m) (ap (λ r. ring (record t { rings = r }) h) (sym e)) l.member;
}

at_most : (b : Bool) (n k : ℕ) → k ≡ cond b n (n + 1) → k ≤ n + 1
at_most true n k e = omega (arith, e)
at_most false n k e = omega (arith, e)

pub one_more : (s t : FinMap nat_cmp ℕ) (m tag : ℕ) → t ≡ map.insert s m tag → map.len t ≤ map.len s + 1
one_more s t m tag e =
    let n = ap map.len e ∙ len-insert nat_cmp_total s m tag in
    at_most (map.contains_key s m) (map.len s) (map.len t) n

pub new_with_before : (at m : ℕ) (xs : List ℕ) → IsIn at xs → IsIn m (with_before at m xs)
new_with_before at m [] i = absurd i
new_with_before at m (x ∷ xs) i = elim (eqb_tells x at) [
  | inl t ↦ subst (λ b. IsIn m (cond b (m ∷ x ∷ xs) (x ∷ with_before at m xs))) (sym t.0) (inl refl)
  | inr f ↦ subst (λ b. IsIn m (cond b (m ∷ x ∷ xs) (x ∷ with_before at m xs))) (sym f.0) (elim i [ inl e ↦ absurd (f.1 (sym e)) | inr j ↦ inr (new_with_before at m xs j) ])
]

pub in_with_before : (k at m : ℕ) (xs : List ℕ) → IsIn k xs → IsIn k (with_before at m xs)
in_with_before k at m [] i = i
in_with_before k at m (x ∷ xs) i = elim (eqb_tells x at) [
  | inl t ↦ subst (λ b. IsIn k (cond b (m ∷ x ∷ xs) (x ∷ with_before at m xs))) (sym t.0) (inr i)
  | inr f ↦ subst (λ b. IsIn k (cond b (m ∷ x ∷ xs) (x ∷ with_before at m xs))) (sym f.0) (elim i [ inl e ↦ inl e | inr j ↦ inr (in_with_before k at m xs j) ])
]
