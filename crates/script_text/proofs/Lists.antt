-- Lists, and what is found in them.
use Rattle.std.proofs.Common.{◌≡◌, ◌<◌, ℕ, suc, zero, ◌||◌, Bool, true, false, List, [], ◌∷◌, length, get_or, map, find, Option, Some, None, option_map, Result, Ok, Err, OnErr, Bor, bytes_eq, cond, refl, sym, ap, ◌∙◌, arith}
use Rattle.std.specs.List.{list_any}
use Rattle.std.specs.Option.{option_or}
use Rattle.script_text.specs.Text.{spelled}

-- what is found among images is the image of what is found
pub find-map : {A B : Type 0} (f : A → B) (test : B → Bool) (xs : List A)
    → find test (map f xs) ≡ option_map f (find (λ x. test (f x)) xs)
find-map f test [] = refl
find-map f test (x ∷ xs) = by_test (test (f x)) (find-map f test xs)
  where
    by_test : (v : Bool) → find test (map f xs) ≡ option_map f (find (λ y. test (f y)) xs)
        → cond v (Some (f x)) (find test (map f xs))
        ≡ option_map f (cond v (Some x) (find (λ y. test (f y)) xs))
    by_test true e = refl
    by_test false e = e

-- the image of some entry passes the test
pub any-image : {A B : Type 0} (f : A → B) (test : B → Bool) (xs : List A) (i : ℕ) (d : A)
    → i < length xs
    → test (f (get_or xs i d)) ≡ true → list_any test (map f xs) ≡ true
any-image f test [] i d h e = absurd (omega arith)
any-image f test (y ∷ ys) zero d h e = rw e refl
any-image f test (y ∷ ys) (suc i) d h e = by_test (test (f y))
    (any-image f test ys i d (omega arith) e)
  where
    by_test : (v : Bool) → list_any test (map f ys) ≡ true → (v || list_any test (map f ys)) ≡ true
    by_test true later = refl
    by_test false later = later

option_or-map : {A B : Type 0} (f : A → B) (p q : Option A)
    → option_or (option_map f p) (option_map f q) ≡ option_map f (option_or p q)
option_or-map f None q = refl
option_or-map f (Some x) q = refl

option_map-map : {A B C : Type 0} (g : B → C) (f : A → B) (p : Option A)
    → option_map g (option_map f p) ≡ option_map (λ x. g (f x)) p
option_map-map g f None = refl
option_map-map g f (Some x) = refl

either-map : {A B : Type 0} (f : A → B) (one other : B → Bool) (xs : List A)
    → option_map f (option_or (find (λ x. one (f x)) xs) (find (λ x. other (f x)) xs))
    ≡ option_or (find one (map f xs)) (find other (map f xs))
either-map f one other xs = rw (find-map f one xs, find-map f other xs) (sym (option_or-map f _ _))

-- the first that passes one test, or else the first that passes another, among images: where one
-- passes the first test
pub either-first : {A B : Type 0} (f : A → B) (one other : B → Bool) (xs : List A) (x : A)
    → Some x ≡ find (λ y. one (f y)) xs
    → Some (f x) ≡ option_or (find one (map f xs)) (find other (map f xs))
either-first f one other xs x h =
    ap (λ found. option_map f (option_or found (find (λ y. other (f y)) xs))) h
    ∙ either-map f one other xs

-- and where none does
pub either-second : {A B : Type 0} (f : A → B) (one other : B → Bool) (xs : List A)
    (found : Option A)
    → None ≡ find (λ y. one (f y)) xs → found ≡ find (λ y. other (f y)) xs
    → option_map f found ≡ option_or (find one (map f xs)) (find other (map f xs))
either-second f one other xs found h is =
    ap (option_map f) is ∙ ap (λ first. option_map f
    (option_or first (find (λ y. other (f y)) xs))) h ∙ either-map f one other xs

-- what is beside the first of this spelling, as it is told by the spellings alone
pub spelled-map : {A : Type 0} (found : Option (Bor (Bor (List ℕ) × A)))
    (pairs : List (Bor (List ℕ) × A)) (bytes : List ℕ)
    → option_map (λ pair. pair.now) found ≡ find (λ pair. bytes_eq pair.0.now bytes) pairs
    → option_map (λ pair. pair.now.1) found
    ≡ spelled (map (λ pair. (pair.0.now, pair.1)) pairs) bytes
spelled-map {A = A} found pairs bytes is =
    let second : List ℕ × A → A = λ pair. pair.1 in
    let plain : Bor (List ℕ) × A → List ℕ × A = λ pair. (pair.0.now, pair.1) in
    sym (option_map-map second plain (option_map (λ pair. pair.now) found)
    ∙ option_map-map _ _ found)
    ∙ ap (λ p. option_map second (option_map plain p)) is
    ∙ ap (option_map second) (sym (find-map plain (λ pair. bytes_eq pair.0 bytes) pairs))

-- a fact that holds anyway
pub on_err : {T E : Type 0} (P : Type 0) (result : Result T E) → P → OnErr result P
on_err P (Ok x) h = tt
on_err P (Err e) h = h
