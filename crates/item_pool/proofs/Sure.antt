-- Homes that are free stay so while their serials come in.
use Rattle.std.proofs.Common.{◌≡◌, ℕ, ◌+◌, ◌-◌, ◌/◌, ◌%◌, ◌<◌, ◌≢◌, List, length, get_or, set, sym, subst, ⊎_elim, arith, get_or-set_other}
use Rattle.std.proofs.Math.Nat.{mod-add-div, mul-le-mul_left}
use Rattle.std.proofs.lemmas.Bool.{cases_lt}
use Rattle.std.proofs.lemmas.List.{length-set}
use Rattle.item_pool.specs.declared.homes.Home.{Home}
use Rattle.item_pool.specs.Homes.{nobody, home_at, IsFree, AreFree, StayFree}

-- of two numbers less than n apart the rests by n differ
rests_apart : (n s t : ℕ) → s < t → t < s + n → t % n ≡ s % n → ⊥
rests_apart n s t less near same =
    let a = mod-add-div s n in let b = mod-add-div t n in
    ⊎_elim (λ lt. let step = mul-le-mul_left n lt in omega (arith, a, b, same, step, near))
    (λ ge. let step = mul-le-mul_left n ge in omega (arith, a, b, same, step, less)) (cases_lt (s / n) (t / n))

pub free_beside : (places : List Home) (s t : ℕ) (h : Home) → s < t → t < s + length places → IsFree places t → IsFree (set places (s % length places) h) t
free_beside places s t h less near free =
    let long = length-set places (s % length places) h in
    let other : t % length places ≢ s % length places = rests_apart (length places) s t less near in
    let same : get_or (set places (s % length places) h) (t % length places) nobody ≡ home_at places t = get_or-set_other places (s % length places) (t % length places) h nobody other in
    subst (λ n. (0 < n) × ((get_or (set places (s % length places) h) (t % n) nobody).serial ≢ 0 → (get_or (set places (s % length places) h) (t % n) nobody).serial % n ≡ t % n → ⊥)) (sym long)
    (free.0, subst (λ (o : Home). o.serial ≢ 0 → o.serial % length places ≡ t % length places → ⊥) (sym same) free.1)

pub free_first : (places : List Home) (s n : ℕ) → AreFree places s n → 0 < n → IsFree places s
free_first places s n are some = subst (IsFree places) (let e : s + 0 ≡ s = omega arith in e) (are.free 0 some)

-- the first of them has come in
pub free_next : (places : List Home) (s n : ℕ) (h : Home) → AreFree places s n → AreFree (set places (s % length places) h) (s + 1) (n - 1)
free_next places s n h are = record {
  within = omega (arith, are.within, length-set places (s % length places) h);
  free = λ k lt. free_beside places s (s + 1 + k) h (omega arith) (omega (arith, are.within)) (subst (IsFree places) (let e : s + (1 + k) ≡ s + 1 + k = omega arith in e) (are.free (1 + k) (omega arith)));
}

-- somebody has gone, or there are more homes
pub free_still : (places others : List Home) (s n : ℕ) → StayFree places others → AreFree places s n → AreFree others s n
free_still places others s n stay are = record { within = omega (arith, are.within, stay.longer); free = λ k lt. stay.free (s + k) (are.free k lt) }

pub stay_on : (a b c : List Home) → StayFree a b → StayFree b c → StayFree a c
stay_on a b c f g = record { longer = omega (arith, f.longer, g.longer); free = λ s free. g.free s (f.free s free) }
