-- Lists of elements beside the lists of their members, and entries by names.
use Rattle.std.proofs.Common.{◌≡◌, ℕ, Bool, true, false, cond, ◌==◌, not, List, [], ◌∷◌, map, refl, sym, ap, ◌∙◌, inl, inr}
use Rattle.item_ring.specs.RingLists.{IsIn}
use Rattle.item_ring.specs.RingLists as ring
use Rattle.graph_state.specs.Names.{Has, behind, before, without}
use Rattle.graph_state.proofs.Same.{Tells, nat_tells, same_self, same_not}
use Rattle.graph_lists.specs.Table.{look, each}

pub is_in : (m : ℕ) (xs : List ℕ) → Has m xs → IsIn m xs
is_in m [] i = i
is_in m (x ∷ xs) (inl e) = inl e
is_in m (x ∷ xs) (inr i) = inr (is_in m xs i)

pub has_in : (m : ℕ) (xs : List ℕ) → IsIn m xs → Has m xs
has_in m [] i = i
has_in m (x ∷ xs) (inl e) = inl e
has_in m (x ∷ xs) (inr i) = inr (has_in m xs i)

-- f tells the elements of the list apart from x just as the names do
abbrev pub Separates : {X : Type 0} → (X → X → Bool) → (X → ℕ) → X → List X → Type 0
Separates same f x zs = (z : _) → Has z zs → same z x ≡ (f z == f x)

module _ {X : Type 0} (same : X → X → Bool) (f : X → ℕ) where
  pub map_without : (x : X) (zs : List X) → Separates same f x zs → ring.without (f x) (map f zs) ≡ map f (without same x zs)
  map_without x [] is = refl
  map_without x (z ∷ zs) is =
      let rest = map_without x zs (λ y i. is y (inr i)) in
      ap (λ b. cond b (ring.without (f x) (map f zs)) (f z ∷ ring.without (f x) (map f zs))) (sym (is z (inl refl)))
      ∙ elim (same z x) as (λ b. cond b (ring.without (f x) (map f zs)) (f z ∷ ring.without (f x) (map f zs)) ≡ map f (cond (not b) (z ∷ without same x zs) (without same x zs))) [
        | true ↦ rest
        | false ↦ ap (λ ys. f z ∷ ys) rest
      ]

  pub map_behind : (x y : X) (zs : List X) → Separates same f x zs → ring.with_after (f x) (f y) (map f zs) ≡ map f (behind same x y zs)
  map_behind x y [] is = refl
  map_behind x y (z ∷ zs) is =
      let rest = map_behind x y zs (λ k i. is k (inr i)) in
      ap (λ b. cond b (f z ∷ f y ∷ map f zs) (f z ∷ ring.with_after (f x) (f y) (map f zs))) (sym (is z (inl refl)))
      ∙ elim (same z x) as (λ b. cond b (f z ∷ f y ∷ map f zs) (f z ∷ ring.with_after (f x) (f y) (map f zs)) ≡ map f (cond b (z ∷ y ∷ zs) (z ∷ behind same x y zs))) [
        | true ↦ refl
        | false ↦ ap (λ ys. f z ∷ ys) rest
      ]

  pub map_before : (x y : X) (zs : List X) → Separates same f x zs → ring.with_before (f x) (f y) (map f zs) ≡ map f (before same x y zs)
  map_before x y [] is = refl
  map_before x y (z ∷ zs) is =
      let rest = map_before x y zs (λ k i. is k (inr i)) in
      ap (λ b. cond b (f y ∷ f z ∷ map f zs) (f z ∷ ring.with_before (f x) (f y) (map f zs))) (sym (is z (inl refl)))
      ∙ elim (same z x) as (λ b. cond b (f y ∷ f z ∷ map f zs) (f z ∷ ring.with_before (f x) (f y) (map f zs)) ≡ map f (cond b (y ∷ z ∷ zs) (z ∷ before same x y zs))) [
        | true ↦ refl
        | false ↦ ap (λ ys. f z ∷ ys) rest
      ]

  pub separates : (x : X) (zs : List X) → ((a b : X) → Tells same a b) → ((z : X) → Has z zs → f z ≡ f x → z ≡ x) → Separates same f x zs
  separates x zs tells one z i = elim (tells z x) [
    | inl t ↦ t.0 ∙ sym (ap (λ k. k == f x) (ap f t.1) ∙ same_self ◌==◌ nat_tells (f x))
    | inr n ↦ n.0 ∙ sym (same_not ◌==◌ nat_tells (f z) (f x) (λ e. n.1 (one z i e)))
  ]

module _ {K V : Type 0} (same : K → K → Bool) (tells : (a b : K) → Tells same a b) (other : V) where
  -- the first entry counts
  pub look_new : (k : K) (v : V) (es : List (K × V)) → look same other ((k, v) ∷ es) k ≡ v
  look_new k v es = ap (λ b. cond b v (look same other es k)) (same_self same tells k)

  pub look_else : (k q : K) (v : V) (es : List (K × V)) → (q ≡ k → ⊥) → look same other ((k, v) ∷ es) q ≡ look same other es q
  look_else k q v es ne = ap (λ b. cond b v (look same other es q)) (same_not same tells k q (λ e. ne (sym e)))

module _ {K V : Type 0} (same : K → K → Bool) (other : V) where
  pub look_each : (f : V → V) (es : List (K × V)) (k : K) → f other ≡ other → look same other (each f es) k ≡ f (look same other es k)
  look_each f [] k e = sym e
  look_each f (x ∷ es) k e = elim (same x.0 k) as (λ b. cond b (f x.1) (look same other (each f es) k) ≡ f (cond b x.1 (look same other es k))) [
    | true ↦ refl
    | false ↦ look_each f es k e
  ]
