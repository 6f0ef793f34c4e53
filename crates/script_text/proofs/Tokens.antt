-- The tokens of bytes by the first byte that is no blank and the first blank behind it.
use Rattle.std.proofs.Common.{◌≡◌, ℕ, ◌+◌, ◌<◌, ◌≤◌, Bool, true, false, not, nat_lt, cond, List, [], ◌∷◌, length, get_or, take, drop, Some, None, unwrap_or, suc, refl, sym, ◌∙◌, ap, arith, add-zero}
use Rattle.std.specs.List.{position, position_or_len, before_first}
use Rattle.std.proofs.Math.Numerals.{one-add}
use Rattle.std.proofs.lemmas.Bool.Decides.{nat_tests}
use Rattle.std.proofs.lemmas.List.{drop_more, drop_all}
use Rattle.std.proofs.lemmas.List.Quantifiers.{position-Some}
use Rattle.std.proofs.lemmas.List.Sums.{prefix_len-le-length}
use Rattle.leda_base.specs.Bytes.{is_blank}
use Rattle.script_text.specs.Token.{Token, tokens_after, tokens_from}

-- whether a byte belongs to a token
abbrev pub is_visible : ℕ → Bool
is_visible b = not (is_blank b)

-- the same tokens begin from the place on, at which the column is higher by as much
abbrev BeginAt : List Token → ℕ → List ℕ → ℕ → Type 0
BeginAt tokens column xs place = tokens ≡ tokens_from (column + place) (drop place xs)

-- one byte further on
further : (tokens : List Token) (column b : ℕ) (bs : List ℕ) (place : ℕ)
    → BeginAt tokens (column + 1) bs place → BeginAt tokens column (b ∷ bs) (1 + place)
further tokens column b bs place later =
    rw one-add (later ∙ ap (λ k. tokens_from k (drop place bs))
    (let s : column + 1 + place ≡ column + suc place = omega arith in s))

-- the bytes from the first visible one on have the same tokens
skip : (xs : List ℕ) (column : ℕ) → BeginAt (tokens_from column xs) column xs
    (position_or_len is_visible xs)
skip [] column = refl
skip (b ∷ bs) column = skip_one (is_blank b) refl (skip bs (column + 1))
  where
    skip_one : (v : Bool) → is_blank b ≡ v
        → BeginAt (tokens_from (column + 1) bs) (column + 1) bs (position_or_len is_visible bs)
        → BeginAt (tokens_from column (b ∷ bs)) column (b ∷ bs)
        (position_or_len is_visible (b ∷ bs))
    skip_one true e later = rw e (further _ column b bs _ later)
    skip_one false e later = simp (e, add-zero)

-- inside a token, the tokens that begin are those that begin from the first blank on
leave : (xs : List ℕ) (column : ℕ) → BeginAt (tokens_after true column xs) column xs
    (position_or_len is_blank xs)
leave [] column = refl
leave (b ∷ bs) column = leave_one (is_blank b) refl (leave bs (column + 1))
  where
    leave_one : (v : Bool) → is_blank b ≡ v
        → BeginAt (tokens_after true (column + 1) bs) (column + 1) bs (position_or_len is_blank bs)
        → BeginAt (tokens_after true column (b ∷ bs)) column (b ∷ bs)
        (position_or_len is_blank (b ∷ bs))
    leave_one true e later = simp (e, add-zero)
    leave_one false e later = rw e (further _ column b bs _ later)

-- the tokens of bytes that begin with a token, which reaches up to the first blank
abbrev with_first : ℕ → List ℕ → List Token
with_first column xs =
    record { column = column; bytes = before_first is_blank xs; tail = xs }
    ∷ tokens_from (column + position_or_len is_blank xs) (drop (position_or_len is_blank xs) xs)

-- bytes that begin with a visible one begin with a token
begin : (b : ℕ) (bs : List ℕ) (column : ℕ) → is_blank b ≡ false
    → tokens_from column (b ∷ bs) ≡ with_first column (b ∷ bs)
begin b bs column e =
    rw e (ap (λ (later : List Token). record
    { column = column; bytes = take (1 + position_or_len is_blank bs) (b ∷ bs); tail = b ∷ bs }
    ∷ later)
    (further _ column b bs _ (leave bs (column + 1))))

-- where the first visible byte is known
place : (xs : List ℕ) (k : ℕ) → position is_visible xs ≡ Some k → position_or_len is_visible xs ≡ k
place xs k e = by_test (nat_lt (position_or_len is_visible xs) (length xs)) e
  where
    by_test : (v : Bool) → cond v (Some (position_or_len is_visible xs)) None ≡ Some k
        → position_or_len is_visible xs ≡ k
    by_test true found = cc
    by_test false found = cc

-- where there is none
no_place : (xs : List ℕ) → position is_visible xs ≡ None
    → nat_lt (position_or_len is_visible xs) (length xs) ≡ false
no_place xs e = by_test (nat_lt (position_or_len is_visible xs) (length xs)) e
  where
    by_test : (v : Bool) → cond v (Some (position_or_len is_visible xs)) None ≡ None → v ≡ false
    by_test true found = cc
    by_test false found = refl

-- no visible byte, no token
pub tokens_from-none : (xs : List ℕ) (column : ℕ) → position is_visible xs ≡ None
    → tokens_from column xs ≡ []
tokens_from-none xs column e =
    skip xs column ∙ ap (tokens_from (column + position_or_len is_visible xs))
    (drop_all (position_or_len is_visible xs) xs (past _ _ (no_place xs e)))
  where
    past : (m n : ℕ) → nat_lt m n ≡ false → n ≤ m
    past m n f = grind (arith, nat_tests)

-- a byte that is visible is no blank
no_blank : (b : ℕ) → is_visible b ≡ true → is_blank b ≡ false
no_blank b e = by_test (is_blank b) e
  where
    by_test : (v : Bool) → not v ≡ true → v ≡ false
    by_test true f = cc
    by_test false f = refl

-- the first token, and the rest
pub tokens_from-some : (xs : List ℕ) (column k : ℕ) → position is_visible xs ≡ Some k
    → tokens_from column xs ≡ with_first (column + k) (drop k xs)
tokens_from-some xs column k e =
    let found : (k < length xs) × (is_visible (get_or xs k 0) ≡ true) × ((i : ℕ) → i < k
    → is_visible (get_or xs i 0) ≡ false) = position-Some is_visible xs k 0 e in
    let rest : drop k xs ≡ get_or xs k 0 ∷ drop (k + 1) xs = drop_more xs k 0 found.0 in
    let skipped : BeginAt (tokens_from column xs) column xs k = rw (place xs k e) at
    (skip xs column) in
    skipped ∙ rw rest (begin (get_or xs k 0) (drop (k + 1) xs) (column + k)
    (no_blank (get_or xs k 0) found.1))

-- a number that isn't below a bound and doesn't pass it is the bound
ends : (m n : ℕ) → nat_lt m n ≡ false → m ≤ n → n ≡ m
ends m n f h = grind (arith, nat_tests)

-- the first blank, or the end
pub position_or_len-is : (xs : List ℕ) → unwrap_or (position is_blank xs) (length xs)
    ≡ position_or_len is_blank xs
position_or_len-is xs = by_test (nat_lt (position_or_len is_blank xs) (length xs)) refl
  where
    by_test : (v : Bool) → nat_lt (position_or_len is_blank xs) (length xs) ≡ v
        → unwrap_or (cond v (Some (position_or_len is_blank xs)) None) (length xs)
        ≡ position_or_len is_blank xs
    by_test true f = refl
    by_test false f = ends (position_or_len is_blank xs) (length xs) f
        (prefix_len-le-length (λ b. not (is_blank b)) xs)

-- the first token, as it is cut out of the bytes
pub tokens_from-cut : (xs tail bytes : List ℕ) (column k n : ℕ)
    → Some k ≡ position is_visible xs → tail ≡ drop k xs → n ≡ position_or_len is_blank tail
    → bytes ≡ take n tail → length bytes ≡ n
    → tokens_from column xs
    ≡ record { column = column + k; bytes = bytes; tail = tail }
    ∷ tokens_from (column + k + length bytes) (drop (length bytes) tail)
tokens_from-cut xs tail bytes column k n found tail_is n_is bytes_is len_is =
    rw (len_is, bytes_is, n_is, tail_is) (tokens_from-some xs column k (sym found))
