-- Fields, and the blanks behind them.
use Rattle.std.proofs.Common.{◌≡◌, ℕ, zero, suc, ◌<◌, ◌≤◌, Bool, true, false, not, List, [], ◌∷◌, ◌++◌, length, get_or, take, drop, refl, ap, ◌∙◌, cond, arith}
use Rattle.std.specs.List.{list_all}
use Rattle.leda_base.specs.Bytes.{is_blank}
use Rattle.graph_text.specs.Lines.{unindented}
use Rattle.graph_text.specs.Parts.{field, rest, behind}
use Rattle.graph_text.proofs.Passes.{first_true, second_true, not_true}

-- the field ends at the first blank, or at the end
pub field-at : (bytes : List ℕ) (k : ℕ) → k ≤ length bytes
    → ((i : ℕ) → i < k → is_blank (get_or bytes i 0) ≡ false)
    → (k < length bytes → is_blank (get_or bytes k 0) ≡ true)
    → (take k bytes ≡ field bytes) × (drop k bytes ≡ rest bytes)
field-at [] zero h before at = (refl, refl)
field-at [] (suc k) h before at = absurd (omega arith)
field-at (b ∷ bs) zero h before at = rw (at (omega arith)) (refl, refl)
field-at (b ∷ bs) (suc k) h before at =
    let here : is_blank b ≡ false = before 0 (omega arith) in
    let later = field-at bs k (omega arith) (λ i lt. before (suc i) (omega arith))
    (λ lt. at (omega arith)) in
    rw here (ap (λ (w : List ℕ). b ∷ w) later.0, later.1)

-- bytes without a blank
abbrev pub is_solid : List ℕ → Bool
is_solid bytes = list_all (λ b. not (is_blank b)) bytes

-- bytes that don't begin with a blank
abbrev pub Begins : List ℕ → Type 0
Begins [] = ⊥
Begins (b ∷ bs) = is_blank b ≡ false

-- a field is found again, and the bytes from its end on
pub field-again : (bytes : List ℕ) (b : ℕ) (bs : List ℕ) → is_solid bytes ≡ true
    → is_blank b ≡ true
    → (field (bytes ++ b ∷ bs) ≡ bytes) × (rest (bytes ++ b ∷ bs) ≡ b ∷ bs)
field-again [] b bs solid e = rw e (refl, refl)
field-again (c ∷ cs) b bs solid e =
    let here : is_blank c ≡ false = not_true _ (first_true _ _ solid) in
    let later = field-again cs b bs (second_true _ _ solid) e in
    rw here (ap (λ (w : List ℕ). c ∷ w) later.0, later.1)

-- what doesn't begin with a blank isn't indented
unindented-begins : (bytes : List ℕ) → Begins bytes → unindented bytes ≡ bytes
unindented-begins [] h = absurd h
unindented-begins (b ∷ bs) h = rw h refl

-- blanks in front don't count
pub unindented-blanks : (blanks bytes : List ℕ) → list_all is_blank blanks ≡ true → Begins bytes
    → unindented (blanks ++ bytes) ≡ bytes
unindented-blanks [] bytes each h = unindented-begins bytes h
unindented-blanks (b ∷ bs) bytes each h =
    let here : is_blank b ≡ true = first_true _ _ each in
    rw here (unindented-blanks bs bytes (second_true _ _ each) h)

-- a field, and what comes behind the blanks that follow
pub split-again : (bytes blanks later : List ℕ) → is_solid bytes ≡ true → 1 ≤ length blanks
    → list_all is_blank blanks ≡ true → Begins later
    → (field (bytes ++ (blanks ++ later)) ≡ bytes) × (behind (bytes ++ (blanks ++ later)) ≡ later)
split-again bytes [] later solid some each h = absurd (omega arith)
split-again bytes (b ∷ bs) later solid some each h =
    let parts = field-again bytes b (bs ++ later) solid (first_true _ _ each) in
    (parts.0, ap unindented parts.1 ∙ unindented-blanks (b ∷ bs) later each h)

-- the blanks that bytes begin with
abbrev pub indent : List ℕ → List ℕ
indent [] = []
indent (b ∷ bs) = cond (is_blank b) (b ∷ indent bs) []

pub indent-parts : (bytes : List ℕ) → (bytes ≡ indent bytes ++ unindented bytes)
    × (list_all is_blank (indent bytes) ≡ true)
indent-parts [] = (refl, refl)
indent-parts (b ∷ bs) = by_test (is_blank b) refl (indent-parts bs)
  where
    by_test : (v : Bool) → is_blank b ≡ v
        → (bs ≡ indent bs ++ unindented bs) × (list_all is_blank (indent bs) ≡ true)
        → (b ∷ bs ≡ indent (b ∷ bs) ++ unindented (b ∷ bs))
        × (list_all is_blank (indent (b ∷ bs)) ≡ true)
    by_test true e later = (rw e (ap (λ (w : List ℕ). b ∷ w) later.0), rw (e, e) later.1)
    by_test false e later = (rw e refl, rw e refl)

-- bytes are their field and the rest
field-parts : (bytes : List ℕ) → (bytes ≡ field bytes ++ rest bytes)
    × (is_solid (field bytes) ≡ true)
field-parts [] = (refl, refl)
field-parts (b ∷ bs) = by_test (is_blank b) refl (field-parts bs)
  where
    by_test : (v : Bool) → is_blank b ≡ v
        → (bs ≡ field bs ++ rest bs) × (is_solid (field bs) ≡ true)
        → (b ∷ bs ≡ field (b ∷ bs) ++ rest (b ∷ bs)) × (is_solid (field (b ∷ bs)) ≡ true)
    by_test true e later = rw e (refl, refl)
    by_test false e later = rw e (ap (λ (w : List ℕ). b ∷ w) later.0, rw e later.1)

-- the rest begins with a blank
rest-begins : (bytes : List ℕ) → 1 ≤ length (rest bytes) → 1 ≤ length (indent (rest bytes))
rest-begins [] some = absurd (omega arith)
rest-begins (b ∷ bs) some = by_test (is_blank b) refl (rest-begins bs) some
  where
    by_test : (v : Bool) → is_blank b ≡ v
        → (1 ≤ length (rest bs) → 1 ≤ length (indent (rest bs)))
        → 1 ≤ length (rest (b ∷ bs)) → 1 ≤ length (indent (rest (b ∷ bs)))
    by_test true e later h = rw (e, e) (omega arith)
    by_test false e later h = rw e (later (rw e at h))

unindented-shorter : (bytes : List ℕ) → length (unindented bytes) ≤ length bytes
unindented-shorter [] = omega arith
unindented-shorter (b ∷ bs) = by_test (is_blank b) (unindented-shorter bs)
  where
    by_test : (v : Bool) → length (unindented bs) ≤ length bs
        → length (cond v (unindented bs) (b ∷ bs)) ≤ length (b ∷ bs)
    by_test true h = omega arith
    by_test false h = omega arith

-- the blanks between a field and what comes behind them
abbrev pub gap : List ℕ → List ℕ
gap bytes = indent (rest bytes)

-- bytes that have something behind their first field
pub record Splits (bytes : List ℕ) : Type 0 where
  pub parts : bytes ≡ field bytes ++ (gap bytes ++ behind bytes)
  pub some : 1 ≤ length (gap bytes)
  pub each : list_all is_blank (gap bytes) ≡ true

pub splits : (bytes : List ℕ) → 1 ≤ length (behind bytes) → Splits bytes
splits bytes h =
    let fields = field-parts bytes in
    let blanks = indent-parts (rest bytes) in
    record {
      parts = fields.0 ∙ ap (λ (w : List ℕ). field bytes ++ w) blanks.0;
      some = rest-begins bytes (omega (arith, unindented-shorter (rest bytes)));
      each = blanks.1;
    }
