-- Blanks at the end of bytes.
use Rattle.std.proofs.Common.{◌≡◌, ℕ, ◌+◌, ◌-◌, ◌<◌, ◌≤◌, Bool, true, false, List, [], ◌∷◌, ◌++◌, ◌==◌, ◌&&◌, if◌then◌else◌, length, length-append, get_or, take, refl, sym, ◌∙◌, ap, arith}
use Rattle.std.proofs.lemmas.Bool.Decides.{nat_tests}
use Rattle.std.proofs.lemmas.List.{take_all, take_more}
use Rattle.leda_base.specs.Bytes.{is_blank, trimmed}

-- a blank at the end doesn't count
trimmed-blank : (front : List ℕ) (last : ℕ) → is_blank last ≡ true
    → trimmed (front ++ last ∷ []) ≡ trimmed front
trimmed-blank [] last e = rw e refl
trimmed-blank (b ∷ bs) last e = rw (trimmed-blank bs last e) refl

-- bytes that end with no blank are trimmed
pub trimmed-visible : (front : List ℕ) (last : ℕ) → is_blank last ≡ false
    → trimmed (front ++ last ∷ []) ≡ front ++ last ∷ []
trimmed-visible [] last e = rw e refl
trimmed-visible (b ∷ bs) last e = rw (trimmed-visible bs last e) (by_test (is_blank b))
  where
    some : (length (bs ++ last ∷ []) == 0) ≡ false
    some = let more : length (bs ++ last ∷ [])
        ≡ length bs + 1 = length-append bs (last ∷ []) in grind (arith, nat_tests)

    by_test : (v : Bool) → (if v && length (bs ++ last ∷ []) == 0 then [] else b ∷
        (bs ++ last ∷ [])) ≡ b ∷ (bs ++ last ∷ [])
    by_test true = rw some refl
    by_test false = refl

-- bytes are those before the last one, and the last one
split_last : (bytes : List ℕ) → 1 ≤ length bytes
    → bytes ≡ take (length bytes - 1) bytes ++ get_or bytes (length bytes - 1) 0 ∷ []
split_last bytes h =
    let last : length bytes - 1 < length bytes = omega arith in
    let all : length bytes - 1 + 1 ≡ length bytes = omega arith in
    sym (take_all (length bytes) bytes (omega arith)) ∙ ap (λ k. take k bytes) (sym all)
    ∙ take_more bytes (length bytes - 1) 0 last

-- where the last byte is a blank, those before it mean as much
pub trimmed-drop : (bytes : List ℕ) → 1 ≤ length bytes
    → is_blank (get_or bytes (length bytes - 1) 0) ≡ true
    → trimmed (take (length bytes - 1) bytes) ≡ trimmed bytes
trimmed-drop bytes h e = sym (ap trimmed (split_last bytes h)
    ∙ trimmed-blank (take (length bytes - 1) bytes) (get_or bytes (length bytes - 1) 0) e)

-- where it is none, the bytes are trimmed
pub trimmed-keep : (bytes : List ℕ) → 1 ≤ length bytes
    → is_blank (get_or bytes (length bytes - 1) 0) ≡ false
    → bytes ≡ trimmed bytes
trimmed-keep bytes h e = split_last bytes h
    ∙ sym (ap trimmed (split_last bytes h)
    ∙ trimmed-visible (take (length bytes - 1) bytes) (get_or bytes (length bytes - 1) 0) e)
