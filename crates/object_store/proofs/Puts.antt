-- An entry of a finite map gets another value: what that makes of the items.
use Rattle.std.proofs.Common.{◌≡◌, ℕ, Bool, true, false, cond, List, [], ◌∷◌, map, Some, None, refl, sym, ap, subst, ◌∙◌}
use Rattle.std.specs.Prelude.{◌==◌, ◌&&◌, T}
use Rattle.std.specs.declared.cmp.Ordering.{Ordering}
use Rattle.std.specs.declared.cmp.Ordering.TheVariants.{Less, Equal, Greater}
use Rattle.std.specs.Ordering.{is_lt, is_eq, eq_by_cmp}
use Rattle.std.specs.Cmp.{IsTotalOrder}
use Rattle.std.specs.FinMap as finmap
use Rattle.std.specs.FinMap.Entries.{put, find, is_sorted, below_all, by_order}
use Rattle.item_list.specs.Items.{pairs_with}
use Rattle.object_store.proofs.Goes.{AllTests}
use Rattle.object_store.proofs.Lists.{cond_true, cond_false}

some_none : {A : Type 0} (a : A) → Some a ≡ None → ⊥
some_none a e = cc

pub front : (a b : Bool) → T (a && b) → T a
front true b h = tt
front false b h = h

pub rear : (a b : Bool) → T (a && b) → T b
rear true b h = h
rear false b h = absurd h

is_less : (r : Ordering) → T (is_lt r) → r ≡ Less
is_less Less h = refl
is_less Equal h = absurd h
is_less Greater h = absurd h

less_is : (r : Ordering) → r ≡ Less → T (is_lt r)
less_is r e = subst (λ (x : Ordering). T (is_lt x)) (sym e) tt

both : (a b : Bool) → T a → T b → T (a && b)
both true b p q = q
both false b p q = p

module _ {K V : Type 0} {R : K → K → Ordering} (o : IsTotalOrder R) where
  pub less_below : (x y : K) (es : List (K × V)) → R x y ≡ Less → T (below_all R y es) → T (below_all R x es)
  less_below x y [] p h = tt
  less_below x y (e ∷ es) p h =
      both (is_lt (R x e.0)) (below_all R x es)
      (less_is (R x e.0) (o.trans x y e.0 p (is_less (R y e.0) (front (is_lt (R y e.0)) (below_all R y es) h))))
      (less_below x y es p (rear (is_lt (R y e.0)) (below_all R y es) h))

  pub absent_below : (k : K) (es : List (K × V)) → T (below_all R k es) → find R k es ≡ None
  absent_below k [] h = refl
  absent_below k (e ∷ es) h =
      ap (λ r. cond (is_eq r) (Some e.1) (find R k es)) (is_less (R k e.0) (front (is_lt (R k e.0)) (below_all R k es) h))
      ∙ absent_below k es (rear (is_lt (R k e.0)) (below_all R k es) h)

  module _ (same : finmap.IsAntisymmetric R) {Y : Type 0} (f : K × V → ℕ × Y) (s : ℕ) (y : Y) (k : K) (v : V) (is : f (k, v) ≡ (s, y)) where
    -- where no entry has the key, no item has the serial
    idle_with : (es : List (K × V)) → find R k es ≡ None → AllTests f (λ e. eq_by_cmp R k e.0) s es → pairs_with s y (map f es) ≡ map f es
    idle_with [] none each = refl
    idle_with (e ∷ es) none each = elim (eq_by_cmp R k e.0) as (λ b. ((f e).0 == s) ≡ b → cond b (Some e.1) (find R k es) ≡ None → pairs_with s y (map f (e ∷ es)) ≡ map f (e ∷ es)) [
      | true ↦ λ t n. absurd (some_none e.1 n)
      | false ↦ λ t n. cond_false ((f e).0 == s) ((s, y) ∷ pairs_with s y (map f es)) (f e ∷ pairs_with s y (map f es)) t ∙ ap (λ r. f e ∷ r) (idle_with es n each.1)
    ] each.0 none

    pub put_with : (old : V) (es : List (K × V)) → T (is_sorted R es) → find R k es ≡ Some old → AllTests f (λ e. eq_by_cmp R k e.0) s es → map f (put R k v es) ≡ pairs_with s y (map f es)
    put_with old [] sorted h each = absurd (some_none old (sym h))
    put_with old (e ∷ es) sorted h each =
        let below : T (below_all R e.0 es) = front (below_all R e.0 es) (is_sorted R es) sorted in
        elim (R k e.0) as (λ r. R k e.0 ≡ r → ((f e).0 == s) ≡ is_eq r → cond (is_eq r) (Some e.1) (find R k es) ≡ Some old → map f (by_order r ((k, v) ∷ e ∷ es) ((e.0, v) ∷ es) (e ∷ put R k v es)) ≡ pairs_with s y (map f (e ∷ es))) [
          | Less ↦ λ p t g. absurd (some_none old (sym g ∙ absent_below k es (less_below k e.0 es p below)))
          | Equal ↦ λ p t g.
              let key : k ≡ e.0 = same k e.0 p in
              let none : find R k es ≡ None = absent_below k es (subst (λ (x : K). T (below_all R x es)) (sym key) below) in
              (λ i. f (sym key i, v) ∷ map f es)
              ∙ (λ i. is i ∷ sym (idle_with es none each.1) i)
              ∙ sym (cond_true ((f e).0 == s) ((s, y) ∷ pairs_with s y (map f es)) (f e ∷ pairs_with s y (map f es)) t)
          | Greater ↦ λ p t g.
              ap (λ r. f e ∷ r) (put_with old es (rear (below_all R e.0 es) (is_sorted R es) sorted) g each.1)
              ∙ sym (cond_false ((f e).0 == s) ((s, y) ∷ pairs_with s y (map f es)) (f e ∷ pairs_with s y (map f es)) t)
        ] refl each.0 h
