-- What one insertion or removal does to a finite map.
use Rattle.std.proofs.Common.{◌≡◌, ◌≢◌, ◌+◌, ◌-◌, false, cond, Some, None, is_some, refl, sym, ap, ◌∙◌, ◌⊎◌, inl, inr, ⊎_elim}
use Rattle.std.specs.declared.cmp.Ordering.{Ordering}
use Rattle.std.specs.declared.cmp.Ordering.TheVariants.{Less, Equal, Greater}
use Rattle.std.specs.Ordering.{is_eq, eq_by_cmp}
use Rattle.std.specs.Cmp.{IsTotalOrder, tied_itself}
use Rattle.std.specs.FinMap as map

module _ {K : Type 0} {R : K → K → Ordering} (o : IsTotalOrder R) (same : map.IsAntisymmetric R) where
  pub untied : (q k : K) → q ≢ k → eq_by_cmp R q k ≡ false
  untied q k ne = elim (R q k) as (λ r. R q k ≡ r → is_eq r ≡ false) [
    | Less ↦ λ e. refl
    | Equal ↦ λ e. absurd (ne (same q k e))
    | Greater ↦ λ e. refl
  ] refl

  pub same_or_not : (q k : K) → (q ≡ k) ⊎ (q ≢ k)
  same_or_not q k = elim (R q k) as (λ r. R q k ≡ r → (q ≡ k) ⊎ (q ≢ k)) [
    | Less ↦ λ e. inr (λ is. let twice : Less ≡ Equal = sym e ∙ ap (λ x. R x k) is ∙ tied_itself o k in cc)
    | Equal ↦ λ e. inl (same q k e)
    | Greater ↦ λ e. inr (λ is. let twice : Greater ≡ Equal = sym e ∙ ap (λ x. R x k) is ∙ tied_itself o k in cc)
  ] refl

  module _ {X : Type 0} (m : map.FinMap R X) (k : K) where
    pub get_here : (v : X) → map.get (map.insert m k v) k ≡ Some v
    get_here v = map.get-insert o m k v k ∙ ap (λ r. cond (is_eq r) (Some v) (map.get m k)) (tied_itself o k)

    pub get_there : (v : X) (q : K) → q ≢ k → map.get (map.insert m k v) q ≡ map.get m q
    get_there v q ne = map.get-insert o m k v q ∙ ap (λ b. cond b (Some v) (map.get m q)) (untied q k ne)

    pub gone_here : map.get (map.remove m k) k ≡ None
    gone_here = map.get-remove o m k k ∙ ap (λ r. cond (is_eq r) None (map.get m k)) (tied_itself o k)

    pub gone_there : (q : K) → q ≢ k → map.get (map.remove m k) q ≡ map.get m q
    gone_there q ne = map.get-remove o m k q ∙ ap (λ b. cond b None (map.get m q)) (untied q k ne)

    pub len_more : (v : X) → map.get m k ≡ None → map.len (map.insert m k v) ≡ map.len m + 1
    len_more v none = map.len-insert o m k v ∙ ap (λ e. cond (is_some e) (map.len m) (map.len m + 1)) none

    pub len_kept : (u v : X) → map.get m k ≡ Some u → map.len (map.insert m k v) ≡ map.len m
    len_kept u v some = map.len-insert o m k v ∙ ap (λ e. cond (is_some e) (map.len m) (map.len m + 1)) some

    pub len_less : (u : X) → map.get m k ≡ Some u → map.len (map.remove m k) ≡ map.len m - 1
    len_less u some = map.len-remove o m k ∙ ap (λ e. cond (is_some e) (map.len m - 1) (map.len m)) some

    pub inserted : (n : map.FinMap R X) (v : X) → map.get n k ≡ Some v → ((q : K) → q ≢ k → map.get n q ≡ map.get m q) → n ≡ map.insert m k v
    inserted n v here there = map.same_map o same n (map.insert m k v) (λ q. ⊎_elim
        (λ is. ap (λ u. map.get n u) is ∙ here ∙ sym (ap (λ u. map.get (map.insert m k v) u) is ∙ get_here v))
        (λ ne. there q ne ∙ sym (get_there v q ne))
        (same_or_not q k))

    pub removed : (n : map.FinMap R X) → map.get n k ≡ None → ((q : K) → q ≢ k → map.get n q ≡ map.get m q) → n ≡ map.remove m k
    removed n here there = map.same_map o same n (map.remove m k) (λ q. ⊎_elim
        (λ is. ap (λ u. map.get n u) is ∙ here ∙ sym (ap (λ u. map.get (map.remove m k) u) is ∙ gone_here))
        (λ ne. there q ne ∙ sym (gone_there q ne))
        (same_or_not q k))
