-- What an item that goes out of a list of pairs leaves of it.
use Rattle.std.proofs.Common.{◌≡◌, ℕ, ◌≢◌, Bool, true, false, cond, not, List, [], ◌∷◌, map, filter, Option, Some, None, refl, sym, ap, ◌∙◌, inl, inr, ⊎_elim}
use Rattle.std.specs.Prelude.{◌==◌, ⊤}
use Rattle.std.proofs.lemmas.Bool.{cases_eq}
use Rattle.std.proofs.lemmas.Bool.Decides.{eqb_tells}
use Rattle.std.specs.declared.cmp.Ordering.{Ordering}
use Rattle.std.specs.Ordering.{is_eq, eq_by_cmp}
use Rattle.std.specs.Cmp.{IsTotalOrder, eq_by_cmp_equiv, alike_right}
use Rattle.std.specs.FinMap as finmap
use Rattle.std.specs.FinMap.Entries.{where_key, is_sorted-where_key, find-where_key, same_entries}
use Rattle.item_ring.specs.RingLists.{IsIn, IsDistinct}
use Rattle.item_list.specs.Items.{serials, value_at, pairs_without}
use Rattle.object_store.proofs.Lists.{cond_true, cond_false, exchange}
use Rattle.object_store.proofs.Pairs.{number_of, number_not, same_number}

module _ {X : Type 0} where
  pub value_without : (s t : ℕ) (ps : List (ℕ × X)) → value_at t (pairs_without s ps) ≡ cond (s == t) None (value_at t ps)
  value_without s t [] = elim (s == t) as (λ b. ◌≡◌ {A = Option X} None (cond b None None)) [ true ↦ refl | false ↦ refl ]
  value_without s t (p ∷ ps) = elim (eqb_tells p.0 s) [
    | inl h ↦
        ap (value_at t) (cond_true (p.0 == s) (pairs_without s ps) (p ∷ pairs_without s ps) h.0)
        ∙ value_without s t ps
        ∙ ⊎_elim
        (λ (e : s ≡ t). cond_true (s == t) None (value_at t ps) (number_of s t e) ∙ sym (cond_true (s == t) None (value_at t (p ∷ ps)) (number_of s t e)))
        (λ (ne : s ≢ t). ap (cond (s == t) None) (sym (cond_false (p.0 == t) (Some p.1) (value_at t ps) (number_not p.0 t (λ e. ne (sym h.1 ∙ e))))))
        (cases_eq s t)
    | inr h ↦
        ap (value_at t) (cond_false (p.0 == s) (pairs_without s ps) (p ∷ pairs_without s ps) h.0)
        ∙ ap (cond (p.0 == t) (Some p.1)) (value_without s t ps)
        ∙ exchange (p.0 == t) (s == t) (Some p.1) None (value_at t ps) (λ a b. h.1 (same_number p.0 t a ∙ sym (same_number s t b)))
  ]

  in_without : (x s : ℕ) (ps : List (ℕ × X)) → IsIn x (serials (pairs_without s ps)) → IsIn x (serials ps)
  in_without x s [] h = h
  in_without x s (p ∷ ps) h = elim (p.0 == s) as (λ b. IsIn x (serials (cond b (pairs_without s ps) (p ∷ pairs_without s ps))) → IsIn x (serials (p ∷ ps))) [
    | true ↦ λ i. inr (in_without x s ps i)
    | false ↦ λ i. elim i [ inl e ↦ inl e | inr j ↦ inr (in_without x s ps j) ]
  ] h

  pub distinct_without : (s : ℕ) (ps : List (ℕ × X)) → IsDistinct (serials ps) → IsDistinct (serials (pairs_without s ps))
  distinct_without s [] apart = tt
  distinct_without s (p ∷ ps) apart = elim (p.0 == s) as (λ b. IsDistinct (serials (cond b (pairs_without s ps) (p ∷ pairs_without s ps)))) [
    | true ↦ distinct_without s ps apart.1
    | false ↦ (λ i. apart.0 (in_without p.0 s ps i), distinct_without s ps apart.1)
  ]

-- the test passes just the items of the serial s
abbrev pub AllTests : {A Y : Type 0} → (A → ℕ × Y) → (A → Bool) → ℕ → List A → Type 0
AllTests f test s [] = ⊤
AllTests f test s (e ∷ es) = (((f e).0 == s) ≡ test e) × AllTests f test s es

-- ---- entries of a finite map
module _ {K X : Type 0} {R : K → K → Ordering} (o : IsTotalOrder R) (same : finmap.IsAntisymmetric R) where
  turned : (b : Bool) (v : Option X) → cond b None v ≡ cond (not b) v None
  turned true v = refl
  turned false v = refl

  pub entries_remove : (m : finmap.FinMap R X) (k : K) → finmap.entries (finmap.remove m k) ≡ where_key R (λ x. not (eq_by_cmp R k x)) (finmap.entries m)
  entries_remove m k =
      let p : K → Bool = λ x. not (eq_by_cmp R k x) in
      let es = finmap.entries m in
      same_entries R o same (finmap.entries (finmap.remove m k)) (where_key R p es) (finmap.entries_sorted (finmap.remove m k)) (is_sorted-where_key R p es (finmap.entries_sorted m)) (λ q.
      sym (finmap.get-entries (finmap.remove m k) q) ∙ finmap.get-remove o m k q
      ∙ turned (eq_by_cmp R q k) (finmap.get m q)
      ∙ ap (λ b. cond (not b) (finmap.get m q) None) ((eq_by_cmp_equiv o).symm q k)
      ∙ ap (λ v. cond (p q) v None) (finmap.get-entries m q)
      ∙ sym (find-where_key R p q (λ x t. ap (λ r. not r) (sym (ap (λ r. is_eq r) (alike_right o q x k t)))) es))

-- the items that a test passes over, by the serial s
pub filter_without : {A Y : Type 0} (f : A → ℕ × Y) (test : A → Bool) (s : ℕ) (es : List A) → AllTests f test s es → map f (filter (λ e. not (test e)) es) ≡ pairs_without s (map f es)
filter_without f test s [] each = refl
filter_without f test s (e ∷ es) each =
    elim (test e) as (λ b. ((f e).0 == s) ≡ b → map f (cond (not b) (e ∷ filter (λ x. not (test x)) es) (filter (λ x. not (test x)) es)) ≡ cond ((f e).0 == s) (pairs_without s (map f es)) (f e ∷ pairs_without s (map f es))) [
      | true ↦ λ h. filter_without f test s es each.1 ∙ sym (cond_true ((f e).0 == s) (pairs_without s (map f es)) (f e ∷ pairs_without s (map f es)) h)
      | false ↦ λ h. ap (λ r. f e ∷ r) (filter_without f test s es each.1) ∙ sym (cond_false ((f e).0 == s) (pairs_without s (map f es)) (f e ∷ pairs_without s (map f es)) h)
    ] each.0
