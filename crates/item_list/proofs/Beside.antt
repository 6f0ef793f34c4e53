-- What stands at an end of a list, or right beside one of its entries, by the side.
use Rattle.std.proofs.Common.{◌≡◌, ℕ, cond, List, [], ◌∷◌, refl, sym, subst, inl, inr}
use Rattle.std.proofs.lemmas.Bool.Decides.{eqb_tells}
use Rattle.std.specs.Prelude.{◌==◌}
use Rattle.item_ring.specs.RingLists.{IsIn, with_after}
use Rattle.item_ring.proofs.Callers.{in_with_after, in_with_before, new_with_before}
use Rattle.item_ring.proofs.Lists.{in_left, in_right}
use Rattle.item_list.specs.declared.side.Side.{Side}
use Rattle.item_list.specs.declared.side.Side.TheVariants.{Front, Rear}
use Rattle.item_list.specs.Sides.{with_at, with_beside, pairs_beside}

pub in_at : (side : Side) (j m : ℕ) (xs : List ℕ) → IsIn j xs → IsIn j (with_at side m xs)
in_at Front j m xs i = inr i
in_at Rear j m xs i = in_left j xs (m ∷ []) i

pub at_in : (side : Side) (m : ℕ) (xs : List ℕ) → IsIn m (with_at side m xs)
at_in Front m xs = inl refl
at_in Rear m xs = in_right m xs (m ∷ []) (inl refl)

new_with_after : (at m : ℕ) (xs : List ℕ) → IsIn at xs → IsIn m (with_after at m xs)
new_with_after at m [] i = absurd i
new_with_after at m (x ∷ xs) i = elim (eqb_tells x at) [
  | inl t ↦ subst (λ b. IsIn m (cond b (x ∷ m ∷ xs) (x ∷ with_after at m xs))) (sym t.0) (inr (inl refl))
  | inr f ↦ subst (λ b. IsIn m (cond b (x ∷ m ∷ xs) (x ∷ with_after at m xs))) (sym f.0) (elim i [ inl e ↦ absurd (f.1 (sym e)) | inr j ↦ inr (new_with_after at m xs j) ])
]

pub in_beside : (side : Side) (j at m : ℕ) (xs : List ℕ) → IsIn j xs → IsIn j (with_beside side at m xs)
in_beside Front j at m xs i = in_with_before j at m xs i
in_beside Rear j at m xs i = in_with_after j at m xs i

pub beside_in : (side : Side) (at m : ℕ) (xs : List ℕ) → IsIn at xs → IsIn m (with_beside side at m xs)
beside_in Front at m xs i = new_with_before at m xs i
beside_in Rear at m xs i = new_with_after at m xs i

-- p, with q on the side of it
abbrev pub both_of : {A : Type 0} → Side → A → A → List A → List A
both_of Front p q ps = q ∷ p ∷ ps
both_of Rear p q ps = p ∷ q ∷ ps

-- one more entry before the rest
pub beside_more : (side : Side) (at m x : ℕ) (xs : List ℕ) → with_beside side at m (x ∷ xs) ≡ cond (x == at) (both_of side x m xs) (x ∷ with_beside side at m xs)
beside_more Front at m x xs = refl
beside_more Rear at m x xs = refl

module _ {X : Type 0} where
  pub pairs_more : (side : Side) (s : ℕ) (q p : ℕ × X) (ps : List (ℕ × X)) → pairs_beside side s q (p ∷ ps) ≡ cond (p.0 == s) (both_of side p q ps) (p ∷ pairs_beside side s q ps)
  pairs_more Front s q p ps = refl
  pairs_more Rear s q p ps = refl
