-- What a heap of labels keeps.
use Rattle.std.proofs.Common.{◌≡◌, ◌⊎◌, inl, inr, ℕ, zero, suc, ◌<◌, ℤ, ◌≤ℤ◌, ◌<ℤ◌, false, List, [], ◌∷◌, length, get_or, set, refl, sym, ◌∙◌, ap, subst, All, arith, length-set}
use borrow.Author.Differences.{ints}
use Rattle.std.specs.List.{Contains}
use Rattle.std.specs.List.Sorted.{IsPermutation}
use Rattle.std.specs.BinaryHeap.{IsHeap, IsUpperBound}
use Rattle.std.specs.declared.cmp.Ordering.{Ordering}
use Rattle.std.specs.Ordering.{is_lt, int_cmp, nat_cmp, ordering_then}
use Rattle.std.proofs.lemmas.Bool.{cases_eq, true≢false}
use Rattle.std.proofs.lemmas.Cmp.{by_ranked, int_ranked}
use Rattle.std.proofs.lemmas.List.Elements.{All-from_recursion, All-contains, All-cons, All-head, All-tail, All-nil}
use Rattle.std.proofs.lemmas.List.Sorted.{All-permutation, Contains-permutation}
use Rattle.sp_search.specs.declared.labels.Label.{Label}
use Rattle.sp_search.specs.declared.labels.Label.TheVariants.{Queued, Taken}
use Rattle.sp_search.specs.declared.labels.Least.{Least}
use Rattle.sp_search.specs.Labels.{label_at, first_labels, IsLeast, AreTaken}
use Rattle.sp_search.specs.Waiting.{least_cmp, AreWaiting}
use Rattle.sp_search.proofs.LabelSteps.{label_here, label_other, same_dist, taken_not_queued, first_none}

-- ---- the greatest entry has the least label
not_less : (x y : Least) → is_lt (least_cmp x y) ≡ false → x.dist ≤ℤ y.dist
not_less x y h =
    by_ranked (y.dist <ℤ x.dist) (y.dist ≡ x.dist) (x.dist <ℤ y.dist) (int_cmp y.dist x.dist) (int_ranked y.dist x.dist (int_cmp y.dist x.dist) refl)
    (λ e l. absurd (true≢false (sym (ap (λ (o : Ordering). is_lt (ordering_then o (nat_cmp x.node y.node))) e) ∙ h)))
    (λ e l. omega (arith, ints))
    (λ e l. omega (arith, ints))

least_first : (x : Least) (items : List Least) → IsUpperBound least_cmp x items → (y : Least) → Contains items y → x.dist ≤ℤ y.dist
least_first x items h y c =
    not_less x y (All-contains (λ (z : Least). is_lt (least_cmp x z) ≡ false) items y (All-from_recursion (λ (z : Least). is_lt (least_cmp x z) ≡ false) items h) c)

-- ---- places in lists
contains_head : (x : Least) (xs : List Least) → Contains (x ∷ xs) x
contains_head x xs = (0, omega arith, refl)

contains_later : (x y : Least) (xs : List Least) → Contains xs y → Contains (x ∷ xs) y
contains_later x y xs c = (suc c.0, omega (arith, c.1), c.2)

contains_cases : (x y : Least) (xs : List Least) (k : ℕ) → k < length (x ∷ xs) → get_or (x ∷ xs) k y ≡ y → (x ≡ y) ⊎ Contains xs y
contains_cases x y xs zero l e = inl e
contains_cases x y xs (suc k) l e = inr (k, omega arith, e)

-- ---- no labels
pub none_waiting : (n s : ℕ) (items : List Least) → s < n → IsHeap least_cmp items → items ≡ [] → AreWaiting items (first_labels n s)
none_waiting n s items h order e =
    let P : List Least → Type 0 = λ xs. All (λ (x : Least). x.node < length (first_labels n s)) xs in
    record {
      order = order;
      known = subst P (sym e) (All-nil (λ (x : Least). x.node < length (first_labels n s)));
      has = λ v d q. absurd (first_none n s h v d q);
    }

-- ---- a label falls
module _ (items items' : List Least) (labels : List Label) (node : ℕ) (dist : ℤ) (h : AreWaiting items labels) (l : node < length labels)
    (p : IsPermutation ((record { node = node; dist = dist }) ∷ items) items') (k : IsHeap least_cmp items → IsHeap least_cmp items') where
  entry : Least
  entry = record { node = node; dist = dist }

  known_more : All (λ (x : Least). x.node < length labels) items'
  known_more = All-permutation (λ (x : Least). x.node < length labels) ((record { node = node; dist = dist }) ∷ items) items' p
      (All-cons (λ (x : Least). x.node < length labels) (record { node = node; dist = dist }) items l h.known)

  has_more : (v : ℕ) (e : ℤ) → (v ≡ node) ⊎ (v ≡ node → ⊥) → label_at (set labels node (Queued dist)) v ≡ Queued e → Contains items' (record { node = v; dist = e })
  has_more v e (inl q) t =
      let d : dist ≡ e = same_dist (label_at (set labels node (Queued dist)) v) dist e (label_here labels node v (Queued dist) l q) t in
      let P : ℕ → Type 0 = λ u. Contains items' (record { node = u; dist = e }) in
      let Q : ℤ → Type 0 = λ z. Contains items' (record { node = node; dist = z }) in
      subst P (sym q) (subst Q d (Contains-permutation ((record { node = node; dist = dist }) ∷ items) items' (record { node = node; dist = dist }) p
      (contains_head (record { node = node; dist = dist }) items)))
  has_more v e (inr ne) t =
      Contains-permutation ((record { node = node; dist = dist }) ∷ items) items' (record { node = v; dist = e }) p
      (contains_later (record { node = node; dist = dist }) (record { node = v; dist = e }) items (h.has v e (sym (label_other labels node v (Queued dist) ne) ∙ t)))

  pub one_waits : (labels' : List Label) → labels' ≡ set labels node (Queued dist) → AreWaiting items' labels'
  one_waits labels' q =
      let P : List Label → Type 0 = λ xs. AreWaiting items' xs in
      let R : ℕ → Type 0 = λ n. All (λ (x : Least). x.node < n) items' in
      subst P (sym q) (record {
        order = k h.order;
        known = subst R (sym (length-set labels node (Queued dist))) known_more;
        has = λ v e t. has_more v e (cases_eq v node) t;
      })

-- ---- the first entry goes out
module _ (items items' : List Least) (labels : List Label) (x : Least) (h : AreWaiting items labels) (p : IsPermutation items (x ∷ items')) (order : IsHeap least_cmp items') where
  pub first_known : x.node < length labels
  first_known = All-head (λ (y : Least). y.node < length labels) x items' (All-permutation (λ (y : Least). y.node < length labels) items (x ∷ items') p h.known)

  known_less : All (λ (y : Least). y.node < length labels) items'
  known_less = All-tail (λ (y : Least). y.node < length labels) x items' (All-permutation (λ (y : Least). y.node < length labels) items (x ∷ items') p h.known)

  left : (v : ℕ) (e : ℤ) → label_at labels v ≡ Queued e → (x ≡ record { node = v; dist = e }) ⊎ Contains items' (record { node = v; dist = e })
  left v e t =
      let c = Contains-permutation items (x ∷ items') (record { node = v; dist = e }) p (h.has v e t) in
      contains_cases x (record { node = v; dist = e }) items' c.0 c.1 c.2

  -- it is no label
  passed : (label_at labels x.node ≡ Queued x.dist → ⊥) → (v : ℕ) (e : ℤ) → label_at labels v ≡ Queued e → (x ≡ record { node = v; dist = e }) ⊎ Contains items' (record { node = v; dist = e })
      → Contains items' (record { node = v; dist = e })
  passed ne v e t (inl q) =
      let P : Least → Type 0 = λ y. label_at labels y.node ≡ Queued y.dist in
      absurd (ne (subst P (sym q) t))
  passed ne v e t (inr c) = c

  pub pass_by : (label_at labels x.node ≡ Queued x.dist → ⊥) → AreWaiting items' labels
  pass_by ne = record { order = order; known = known_less; has = λ v e t. passed ne v e t (left v e t) }

  -- it is one, and the least
  module _ (is : label_at labels x.node ≡ Queued x.dist) where
    other_left : (v : ℕ) (e : ℤ) → (v ≡ x.node → ⊥) → (x ≡ record { node = v; dist = e }) ⊎ Contains items' (record { node = v; dist = e }) → Contains items' (record { node = v; dist = e })
    other_left v e ne (inl q) = absurd (ne (ap (λ (y : Least). y.node) (sym q)))
    other_left v e ne (inr c) = c

    taken_cases : (v : ℕ) (e : ℤ) → (v ≡ x.node) ⊎ (v ≡ x.node → ⊥) → label_at (set labels x.node Taken) v ≡ Queued e → Contains items' (record { node = v; dist = e })
    taken_cases v e (inl q) t = absurd (taken_not_queued (label_at (set labels x.node Taken) v) e (label_here labels x.node v Taken first_known q) t)
    taken_cases v e (inr ne) t = other_left v e ne (left v e (sym (label_other labels x.node v Taken ne) ∙ t))

    pub take_out : (labels' : List Label) → labels' ≡ set labels x.node Taken → AreWaiting items' labels'
    take_out labels' q =
        let P : List Label → Type 0 = λ xs. AreWaiting items' xs in
        let R : ℕ → Type 0 = λ n. All (λ (y : Least). y.node < n) items' in
        subst P (sym q) (record {
          order = order;
          known = subst R (sym (length-set labels x.node Taken)) known_less;
          has = λ v e t. taken_cases v e (cases_eq v x.node) t;
        })

    pub is_least : IsUpperBound least_cmp x items → IsLeast labels x
    is_least bound = record { here = is; least_of = λ v e t. least_first x items bound (record { node = v; dist = e }) (h.has v e t) }

-- ---- none is left
pub none_left : (items : List Least) (labels : List Label) → AreWaiting items labels → length items ≡ 0 → AreTaken labels
none_left items labels h z v e t = let c = h.has v e t in absurd (omega (arith, c.1, z))
