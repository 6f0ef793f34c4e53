-- What stands in a place once one has changed, or come in.
use Rattle.std.proofs.Common.{◌≡◌, ℕ, zero, suc, ◌<◌, ◌≢◌, List, [], ◌∷◌, ◌++◌, length, get_or, Option, Some, None, refl, sym, ap, subst, ◌∙◌, ◌⊎◌, inl, inr, arith}
use Rattle.std.specs.Prelude.{slice_get, slice_set}
use Rattle.std.proofs.lemmas.Option.{get_or_from_slice_get}
use Rattle.object_store.specs.declared.slots.Named.{Named}
use Rattle.object_store.specs.Kept.{Places}
use Rattle.object_store.specs.Slots.{HasName}

module _ {A : Type 0} where
  pub at_within : (k : ℕ) (v : A) (xs : List A) → slice_get xs k ≡ Some v → k < length xs
  at_within k v [] e = let no : None ≡ Some v = e in cc
  at_within zero v (x ∷ xs) e = omega arith
  at_within (suc k) v (x ∷ xs) e = let l = at_within k v xs e in omega arith

  pub at_set : (k : ℕ) (v : A) (xs : List A) → k < length xs → slice_get (slice_set xs k v) k ≡ Some v
  at_set k v [] lt = absurd (omega arith)
  at_set zero v (x ∷ xs) lt = refl
  at_set (suc k) v (x ∷ xs) lt = let less : k < length xs = omega arith in at_set k v xs less

  pub at_else : (j k : ℕ) (v : A) (xs : List A) → j ≢ k → slice_get (slice_set xs k v) j ≡ slice_get xs j
  at_else j k v [] ne = refl
  at_else zero zero v (x ∷ xs) ne = absurd (ne refl)
  at_else (suc j) zero v (x ∷ xs) ne = refl
  at_else zero (suc k) v (x ∷ xs) ne = refl
  at_else (suc j) (suc k) v (x ∷ xs) ne = at_else j k v xs (λ e. ne (ap suc e))

  pub from_set : (j k : ℕ) (v w : A) (xs : List A) → slice_get (slice_set xs k v) j ≡ Some w → ((j ≡ k) × (w ≡ v)) ⊎ ((j ≢ k) × (slice_get xs j ≡ Some w))
  from_set j k v w [] e = let no : None ≡ Some w = e in cc
  from_set zero zero v w (x ∷ xs) e = let is : w ≡ v = cc in inl (refl, is)
  from_set (suc j) zero v w (x ∷ xs) e = inr (λ is. absurd (omega (arith, is)), e)
  from_set zero (suc k) v w (x ∷ xs) e = inr (λ is. absurd (omega (arith, is)), e)
  from_set (suc j) (suc k) v w (x ∷ xs) e = elim (from_set j k v w xs e) [
    | inl h ↦ inl (ap suc h.0, h.1)
    | inr h ↦ inr (λ is. h.0 (omega (arith, is)), h.1)
  ]

  pub at_more : (k : ℕ) (v : A) (xs ys : List A) → slice_get xs k ≡ Some v → slice_get (xs ++ ys) k ≡ Some v
  at_more k v [] ys e = let no : None ≡ Some v = e in cc
  at_more zero v (x ∷ xs) ys e = e
  at_more (suc k) v (x ∷ xs) ys e = at_more k v xs ys e

  pub from_more : (k : ℕ) (v w : A) (xs : List A) → slice_get (xs ++ v ∷ []) k ≡ Some w → (w ≡ v) ⊎ (slice_get xs k ≡ Some w)
  from_more zero v w [] e = let is : w ≡ v = cc in inl is
  from_more (suc k) v w [] e = let no : None ≡ Some w = e in cc
  from_more zero v w (x ∷ xs) e = inr e
  from_more (suc k) v w (x ∷ xs) e = from_more k v w xs e

-- the object that is read at a place
pub at_index : (k : ℕ) (n m : Named) (v : Option Named) (ps : Places) → slice_get ps k ≡ Some (Some n) → v ≡ get_or ps k v → v ≡ Some m → n ≡ m
at_index k n m v ps at read is =
    let both : Some n ≡ Some m = sym (get_or_from_slice_get ps k (Some n) v at) ∙ sym read ∙ is in cc

pub named_at : (ps qs : Places) (name : List ℕ) (k : ℕ) → qs ≡ ps → HasName qs name k → HasName ps name k
named_at ps qs name k is h = subst (λ (xs : Places). HasName xs name k) is h
