-- That who is at home stays there where the homes are doubled, and that their number is then a power of two again.
use Rattle.std.proofs.Common.{◌≡◌, ℕ, suc, ◌+◌, ◌-◌, ◌*◌, ◌/◌, ◌%◌, ◌<◌, ◌≢◌, Bool, true, false, List, [], ◌∷◌, ◌++◌, length, get_or, slice_range, if◌then◌else◌, refl, sym, ap, ◌∙◌, subst, ⊎_elim, arith, length-append, mod-lt, mod-eq_of_lt, mul-add, add-mul}
use Rattle.std.proofs.lemmas.List.{take_all}
use Rattle.std.proofs.Math.Nat.{mod-add-div, add-mul-mod_self_left, add-mod_left, two-pow-succ}
use Rattle.std.proofs.lemmas.Bool.{cases_lt}
use Rattle.std.specs.Int.{IsPowerOfTwo}
use Rattle.item_pool.specs.declared.homes.Home.{Home}
use Rattle.item_pool.specs.Homes.{nobody, slot_in, home_at, at_home, AreHomes, IsFree, StayFree}
use Rattle.item_pool.proofs.Joins.{at_left, at_right}

-- of the rest by 2 * n, the rest by n is that of the number
half : (n s : ℕ) → (s % (n + n)) % n ≡ s % n
half n s = let r = s % (n + n) in let d = s / (n + n) in let e : r + (n + n) * d ≡ s = mod-add-div s (n + n) in
    let same : r + n * (d + d) ≡ s = ap (λ k. r + k) (mul-add n d d ∙ sym (add-mul n n d)) ∙ e in
    sym (add-mul-mod_self_left r n (d + d)) ∙ ap (λ k. k % n) same

twice_at : (l : List Home) (s : ℕ) → 0 < length l → get_or (l ++ l) (s % (length l + length l)) nobody ≡ home_at l s
twice_at l s some = let n = length l in let r = s % (n + n) in let below : r < n + n = mod-lt s (omega arith) in ⊎_elim
    (λ lt. at_left l l r nobody lt ∙ ap (λ i. get_or l i nobody) (sym (mod-eq_of_lt lt) ∙ half n s))
    (λ ge. let k = r - n in let at : r ≡ n + k = omega arith in let lt : k < n = omega arith in
    at_right l l r k nobody at ∙ ap (λ i. get_or l i nobody) (sym (mod-eq_of_lt lt) ∙ sym (add-mod_left n k) ∙ ap (λ i. i % n) (sym at) ∙ half n s)) (cases_lt r n)

at_home_twice : (l : List Home) (s : ℕ) → at_home (l ++ l) s ≡ at_home l s
at_home_twice [] s = refl
at_home_twice (x ∷ l) s = ap (λ n. slot_in (get_or ((x ∷ l) ++ (x ∷ l)) (s % n) nobody) s) (length-append (x ∷ l) (x ∷ l)) ∙ ap (λ h. slot_in h s) (twice_at (x ∷ l) s (omega arith))

twice_homes : (l : List Home) → AreHomes l → AreHomes (l ++ l)
twice_homes l are some = let long = length-append l l in let few = are (omega (arith, long)) in
    (suc few.0, long ∙ ap (λ n. n + n) few.1 ∙ sym (two-pow-succ few.0))

-- a home that is free is so when the homes are there twice
free_twice : (l : List Home) (s : ℕ) → IsFree l s → IsFree (l ++ l) s
free_twice l s free =
    let long = length-append l l in
    let same : home_at (l ++ l) s ≡ home_at l s = ap (λ n. get_or (l ++ l) (s % n) nobody) long ∙ twice_at l s free.0 in
    let k = (home_at l s).serial in
    let off : k ≢ 0 → k % length (l ++ l) ≡ s % length (l ++ l) → ⊥ = λ some e.
    let n = length l in
    let at : k % (n + n) ≡ s % (n + n) = subst (λ m. k % m ≡ s % m) long e in
    free.1 some (sym (half n k) ∙ ap (λ r. r % n) at ∙ half n s) in
    (omega (arith, long, free.0), subst (λ (h : Home). h.serial ≢ 0 → h.serial % length (l ++ l) ≡ s % length (l ++ l) → ⊥) (sym same) off)

-- the homes once more behind themselves, where there was memory
abbrev pub doubled : List Home → ℕ → Bool → List Home
doubled l n ok = (if ok then l ++ slice_range l 0 n else l)

module _ (l m : List Home) (n : ℕ) (long : n ≡ length l) where
  whole : l ++ slice_range l 0 n ≡ l ++ l
  whole = ap (λ k. l ++ k) (take_all (n - 0) l (omega (arith, long)))

  pub doubled_homes : (ok : Bool) → m ≡ doubled l n ok → AreHomes l → AreHomes m
  doubled_homes true is are = subst AreHomes (sym (is ∙ whole)) (twice_homes l are)
  doubled_homes false is are = subst AreHomes (sym is) are

  pub doubled_at_home : (ok : Bool) → m ≡ doubled l n ok → (s : ℕ) → at_home m s ≡ at_home l s
  doubled_at_home true is s = ap (λ k. at_home k s) (is ∙ whole) ∙ at_home_twice l s
  doubled_at_home false is s = ap (λ k. at_home k s) is

  pub doubled_free : (ok : Bool) → m ≡ doubled l n ok → StayFree l m
  doubled_free true is = subst (StayFree l) (sym (is ∙ whole)) (record { longer = omega (arith, length-append l l); free = free_twice l })
  doubled_free false is = subst (StayFree l) (sym is) (record { longer = omega arith; free = λ s free. free })

-- the first homes, where there was memory
pub first_homes : (old new : ℕ) (ok : Bool) → old ≡ 0 → new ≡ (if ok then 64 else old) → 0 < new → IsPowerOfTwo new
first_homes old new true none is some = (6, is)
first_homes old new false none is some = absurd (omega arith)
