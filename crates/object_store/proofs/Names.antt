-- The order of names tells them apart.
use Rattle.std.proofs.Common.{◌≡◌, ℕ, ◌≢◌, true, false, List, refl, ap, subst}
use Rattle.std.specs.declared.cmp.Ordering.TheVariants.{Less, Equal, Greater}
use Rattle.std.specs.Ordering.{nat_cmp, is_eq}
use Rattle.std.specs.Cmp.{IsTotalOrder, tied_itself}
use Rattle.std.specs.Cmp.Lexicographic.{slice_cmp, nat_list_cmp_total}
use Rattle.std.specs.FinMap as finmap
use Rattle.object_store.specs.Slots.{same_name}

pub total : IsTotalOrder (slice_cmp nat_cmp)
total = nat_list_cmp_total

pub tells : finmap.IsAntisymmetric (slice_cmp nat_cmp)
tells = finmap.slice_cmp-IsAntisymmetric finmap.nat_cmp-IsAntisymmetric

pub name_is : (x y : List ℕ) → same_name x y ≡ true → x ≡ y
name_is x y e = elim (slice_cmp nat_cmp x y) as (λ r. slice_cmp nat_cmp x y ≡ r → is_eq r ≡ true → x ≡ y) [
  | Less ↦ λ at is. let twice : false ≡ true = is in cc
  | Equal ↦ λ at is. tells x y at
  | Greater ↦ λ at is. let twice : false ≡ true = is in cc
] refl e

pub name_itself : (x : List ℕ) → same_name x x ≡ true
name_itself x = ap is_eq (tied_itself total x)

pub name_of : (x y : List ℕ) → x ≡ y → same_name x y ≡ true
name_of x y e = subst (λ (z : List ℕ). same_name x z ≡ true) e (name_itself x)

pub name_not : (x y : List ℕ) → x ≢ y → same_name x y ≡ false
name_not x y ne = elim (same_name x y) as (λ b. same_name x y ≡ b → b ≡ false) [
  | true ↦ λ e. absurd (ne (name_is x y e))
  | false ↦ λ e. refl
] refl
