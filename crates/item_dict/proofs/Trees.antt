-- The tree of keys as a finite map, and the order of its keys.
use Rattle.std.proofs.Common.{◌≡◌, ℕ, ◌<◌, length, true, false, cond, List, [], ◌∷◌, ◌++◌, Option, Some, None, IsSome, IfSome, slice_get, refl, sym, ap, ◌∙◌, subst, arith}
use Rattle.std.specs.Prelude.{ℤ, ◌≤ℤ◌, ◌<ℤ◌}
use Rattle.std.specs.declared.cmp.Ordering.TheVariants.{Less, Equal, Greater}
use Rattle.std.specs.Ordering.{int_cmp, is_lt, is_gt, eq_by_cmp}
use Rattle.std.specs.Cmp.{int_cmp_total, int_ranked, int_cmp_is, eq_by_cmp_equiv}
use Rattle.std.specs.BTreeMap as tree
use Rattle.std.specs.BTreeMap.{BTreeMap, is_at}
use Rattle.std.specs.Map.{lookup}
use Rattle.std.specs.FinMap as map
use Rattle.std.proofs.lemmas.Int.{ints}
use Rattle.std.specs.BTreeMap.Range.{IsRangeOf, IsEntryInRange, IsLeBy}
use Rattle.std.specs.declared.ops.Bound.TheVariants.{Excluded, Unbounded}
use Rattle.item_dict.specs.Index.{serials_of, IsNamed}
use Rattle.item_dict.specs.Order.{IsLeast, IsGreatest, IsNextAfter, IsNextBefore, IsLastUpTo, IsFirstFrom}

found_by : (q : ℤ) (es : List (ℤ × ℕ)) → map.find int_cmp q es ≡ lookup (is_at (int_cmp q)) es
found_by q [] = refl
found_by q (e ∷ es) = ap (λ r. cond (eq_by_cmp int_cmp q e.0) (Some e.1) r) (found_by q es)

pub get_serials : (m : BTreeMap ℤ ℕ) (q : ℤ) → map.get (serials_of m) q ≡ tree.get int_cmp m q
get_serials m q = map.get-from_entries int_cmp_total m.entries q ∙ found_by q m.entries

none_of : (es : List (ℤ × ℕ)) → (0 < length es → false ≡ true) → es ≡ []
none_of [] h = refl
none_of (e ∷ es) h = let twice : false ≡ true = h (omega arith) in cc

pub serials_empty : (m : BTreeMap ℤ ℕ) → (0 < tree.btree_map_len m → false ≡ true) → serials_of m ≡ map.empty
serials_empty m h = ap (λ es. map.from_entries es) (none_of m.entries h)

module _ (m n : BTreeMap ℤ ℕ) (k : ℤ) where
  pub serials_insert : (s : ℕ) → tree.Updates int_cmp m n k (Some s) → serials_of n ≡ map.insert (serials_of m) k s
  serials_insert s u = map.same_map int_cmp_total map.int_cmp-IsAntisymmetric (serials_of n) (map.insert (serials_of m) k s) (λ q.
      get_serials n q ∙ u.0 q ∙ ap (λ b. cond b (Some s) (tree.get int_cmp m q)) ((eq_by_cmp_equiv int_cmp_total).symm k q)
      ∙ sym (map.get-insert int_cmp_total (serials_of m) k s q ∙ ap (λ r. cond (eq_by_cmp int_cmp q k) (Some s) r) (get_serials m q)))

  pub serials_remove : tree.Updates int_cmp m n k None → serials_of n ≡ map.remove (serials_of m) k
  serials_remove u = map.same_map int_cmp_total map.int_cmp-IsAntisymmetric (serials_of n) (map.remove (serials_of m) k) (λ q.
      get_serials n q ∙ u.0 q ∙ ap (λ b. cond b None (tree.get int_cmp m q)) ((eq_by_cmp_equiv int_cmp_total).symm k q)
      ∙ sym (map.get-remove int_cmp_total (serials_of m) k q ∙ ap (λ r. cond (eq_by_cmp int_cmp q k) None r) (get_serials m q)))

pub below : (k q : ℤ) → int_cmp k q ≡ Less → k <ℤ q
below k q e = int_ranked k q Less (sym e)

pub is_below : (k q : ℤ) → k <ℤ q → int_cmp k q ≡ Less
is_below k q h = sym (int_cmp_is k q Less h)

pub not_above : (k q : ℤ) → is_gt (int_cmp k q) ≡ false → k ≤ℤ q
not_above k q e = elim (int_cmp k q) as (λ r. int_cmp k q ≡ r → k ≤ℤ q) [
  | Less ↦ λ is. omega (arith, ints, int_ranked k q Less (sym is))
  | Equal ↦ λ is. omega (arith, ints, int_ranked k q Equal (sym is))
  | Greater ↦ λ is. let twice : true ≡ false = sym (ap is_gt is) ∙ e in cc
] refl

pub not_below : (k q : ℤ) → is_lt (int_cmp k q) ≡ false → q ≤ℤ k
not_below k q e = elim (int_cmp k q) as (λ r. int_cmp k q ≡ r → q ≤ℤ k) [
  | Less ↦ λ is. let twice : true ≡ false = sym (ap is_lt is) ∙ e in cc
  | Equal ↦ λ is. omega (arith, ints, int_ranked k q Equal (sym is))
  | Greater ↦ λ is. omega (arith, ints, int_ranked k q Greater (sym is))
] refl

module _ (m : BTreeMap ℤ ℕ) where
  found_in : (q : ℤ) (t : ℕ) → map.get (serials_of m) q ≡ Some t → IsSome (tree.get int_cmp m q)
  found_in q t h = subst (λ (o : Option ℕ). IsSome o) (sym h ∙ get_serials m q) refl

  pub is_least : (s : ℕ) (k : ℤ) → tree.get int_cmp m k ≡ Some s → tree.IsLowerBound int_cmp m k → IsLeast (IsNamed m) s k
  is_least s k e bound = (get_serials m k ∙ e, λ t q h. not_above k q (bound q (found_in q t h)))

  pub is_greatest : (s : ℕ) (k : ℤ) → tree.get int_cmp m k ≡ Some s → tree.IsUpperBound int_cmp m k → IsGreatest (IsNamed m) s k
  is_greatest s k e bound = (get_serials m k ∙ e, λ t q h. not_below k q (bound q (found_in q t h)))

  -- what the part of the tree above k, or below it, begins or ends with
  module _ (k : ℤ) (r : List (ℤ × ℕ)) where
    pub next_after : IsRangeOf int_cmp (Excluded k) Unbounded m r → (e : ℤ × ℕ) (t : List (ℤ × ℕ)) → r ≡ e ∷ t → IsNextAfter (IsNamed m) k e.1 e.0
    next_after is e t first =
        let head : slice_get r 0 ≡ Some e = ap (λ xs. slice_get xs 0) first in
        let in_range = subst (λ o. IfSome o (IsEntryInRange int_cmp (Excluded k) Unbounded m)) head is.1 in (
          get_serials m e.0 ∙ in_range.1,
          below k e.0 in_range.0.0,
          λ n q h above.
              not_above e.0 q (subst (λ o. IfSome o (λ f. IsLeBy int_cmp f.0 q)) head (is.2 q (is_below k q above, tt) (found_in q n h))),
        )

    pub last_up_to : IsRangeOf int_cmp (Excluded k) Unbounded m r → r ≡ [] → IsLastUpTo (IsNamed m) k
    last_up_to is none n q h = elim (int_cmp k q) as (λ o. int_cmp k q ≡ o → q ≤ℤ k) [
      | Less ↦ λ e. let twice : None ≡ Some n = sym (is.5 none q (e, tt)) ∙ sym (get_serials m q) ∙ h in cc
      | Equal ↦ λ e. not_below k q (ap is_lt e)
      | Greater ↦ λ e. not_below k q (ap is_lt e)
    ] refl

    pub next_before : IsRangeOf int_cmp Unbounded (Excluded k) m r → (e : ℤ × ℕ) (t : List (ℤ × ℕ)) → r ≡ t ++ e ∷ [] → IsNextBefore (IsNamed m) k e.1 e.0
    next_before is e t last =
        let in_range = is.3 e t last in (
          get_serials m e.0 ∙ in_range.1,
          below e.0 k in_range.0.1,
          λ n q h under.
              not_below e.0 q (is.4 e t last q (tt, is_below q k under) (found_in q n h)),
        )

    pub first_from : IsRangeOf int_cmp Unbounded (Excluded k) m r → r ≡ [] → IsFirstFrom (IsNamed m) k
    first_from is none n q h = elim (int_cmp q k) as (λ o. int_cmp q k ≡ o → k ≤ℤ q) [
      | Less ↦ λ e. let twice : None ≡ Some n = sym (is.5 none q (tt, e)) ∙ sym (get_serials m q) ∙ h in cc
      | Equal ↦ λ e. not_below q k (ap is_lt e)
      | Greater ↦ λ e. not_below q k (ap is_lt e)
    ] refl
