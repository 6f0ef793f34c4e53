-- The lines of two lists of bytes, one behind the other.
use Rattle.std.proofs.Common.{◌≡◌, ◌⊎◌, ℕ, Bool, List, [], ◌∷◌, ◌++◌, refl, ap, sym, ◌∙◌, inl, inr}
use Rattle.std.specs.List.{slice_split, onto_first}
use Rattle.std.proofs.lemmas.Bool.{cases_Bool}
use Rattle.std.proofs.lemmas.List.Splits.{slice_split-cons_yes, slice_split-cons_no, slice_split_at, slice_split_none}
use Rattle.console_run.specs.Lines.{is_line_end, lines_of, IsPlain}

-- what a list that ends with `rest` begins with
uncons : {A : Type 0} (x : A) (xs lines : List A) (rest : A) → x ∷ xs ≡ lines ++ rest ∷ []
    → ((lines ≡ []) × (rest ≡ x) × (xs ≡ [])) ⊎
    ((more : List A) × (lines ≡ x ∷ more) × (xs ≡ more ++ rest ∷ []))
uncons x xs [] rest e = inl (refl, cc, cc)
uncons x xs (l ∷ ls) rest e = inr (ls, cc, cc)

-- nothing ends with something
nil_not_snoc : {A : Type 0} (xs : List A) (x : A) → [] ≡ xs ++ x ∷ [] → ⊥
nil_not_snoc [] x e = cc
nil_not_snoc (y ∷ ys) x e = cc

-- there is a first part
first_part : (p : ℕ → Bool) (xs : List ℕ)
    → (part : List ℕ) × (parts : List (List ℕ)) × (slice_split p xs ≡ part ∷ parts)
first_part p [] = ([], [], refl)
first_part p (x ∷ xs) =
    let tail = first_part p xs in
    elim (cases_Bool (p x)) [
      | inl ends ↦ ([], slice_split p xs, slice_split-cons_yes p x xs ends)
      | inr goes_on ↦ (
        x ∷ tail.0,
        tail.1,
        slice_split-cons_no p x xs goes_on
            ∙ ap (onto_first x) tail.2,
      )
    ]

-- the last part of one list and the first of the next are one part of both together
pub split-append : (p : ℕ → Bool) (a b : List ℕ) (lines : List (List ℕ)) (rest first : List ℕ)
    (later : List (List ℕ))
    → slice_split p a ≡ lines ++ rest ∷ [] → slice_split p b ≡ first ∷ later
    → slice_split p (a ++ b) ≡ lines ++ (rest ++ first) ∷ later
split-append p [] b lines rest first later e f = elim (uncons [] [] lines rest e) [
  | inl w ↦ rw (w.0, w.1) f
  | inr w ↦ absurd (nil_not_snoc w.0 rest w.2)
]
split-append p (x ∷ xs) b lines rest first later e f = elim (cases_Bool (p x)) [
  | inl ends ↦ elim (uncons [] (slice_split p xs) lines rest
      (sym (slice_split-cons_yes p x xs ends) ∙ e)) [
        | inl w ↦
            let tail = first_part p xs in
            let clash : [] ≡ tail.0 ∷ tail.1 = sym w.2 ∙ tail.2 in
            cc
        | inr w ↦ slice_split-cons_yes p x (xs ++ b) ends
            ∙ ap (λ ls. [] ∷ ls) (split-append p xs b w.0 rest first later w.2 f)
            ∙ ap (λ ls. ls ++ (rest ++ first) ∷ later) (sym w.1)
      ]
  | inr goes_on ↦
      let tail = first_part p xs in
      let whole = sym (ap (onto_first x) tail.2) ∙ sym (slice_split-cons_no p x xs goes_on) ∙ e in
      elim (uncons (x ∷ tail.0) tail.1 lines rest whole) [
        | inl w ↦
            let only : slice_split p xs ≡ [] ++ tail.0 ∷ [] = tail.2 ∙ ap (λ ls. tail.0 ∷ ls) w.2 in
            slice_split-cons_no p x (xs ++ b) goes_on
            ∙ ap (onto_first x) (split-append p xs b [] tail.0 first later only f)
            ∙ ap (λ r. (r ++ first) ∷ later) (sym w.1)
            ∙ ap (λ ls. ls ++ (rest ++ first) ∷ later) (sym w.0)
        | inr w ↦
            let front : slice_split p xs ≡ (tail.0 ∷ w.0) ++ rest ∷ [] = tail.2
            ∙ ap (λ ls. tail.0 ∷ ls) w.2 in
            slice_split-cons_no p x (xs ++ b) goes_on
            ∙ ap (onto_first x) (split-append p xs b (tail.0 ∷ w.0) rest first later front f)
            ∙ ap (λ ls. ls ++ (rest ++ first) ∷ later) (sym w.1)
      ]
]

-- a line that ends, with more behind it
pub lines-ended : (line more : List ℕ) → IsPlain line
    → lines_of (line ++ 10 ∷ more) ≡ line ∷ lines_of more
lines-ended line more h = slice_split_at is_line_end line 10 more h refl

-- bytes with no line end are one line
pub lines-unended : (line : List ℕ) → IsPlain line → lines_of line ≡ line ∷ []
lines-unended line h = slice_split_none is_line_end line h
