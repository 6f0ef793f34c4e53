-- Lines that stand as they are: nothing of them is cut off, and they aren't skipped.
use Rattle.std.proofs.Common.{◌≡◌, ℕ, suc, ◌-◌, ◌≤◌, Bool, true, false, ◌&&◌, ◌==◌, not, List, [], ◌∷◌, length, get_or, cond, refl, sym, ap, ◌∙◌, arith}
use Rattle.std.specs.List.{AllByRecursion}
use Rattle.std.proofs.lemmas.Bool.Decides.{nat_tests}
use Rattle.leda_base.specs.Bytes.{is_blank, trimmed, is_one_line}
use Rattle.graph_text.specs.Lines.{unindented, visible, is_skipped}
use Rattle.graph_text.specs.Text.{kept}
use Rattle.graph_text.proofs.Passes.{first_true, second_true}
use Rattle.leda_base.proofs.Trims.{trimmed-keep}

-- 1 byte or more of one line, the first no blank and no mark of a comment, the last no blank
pub record Stands (line : List ℕ) : Type 0 where
  pub some : 1 ≤ length line
  pub one_line : is_one_line line ≡ true
  pub first : is_blank (get_or line 0 0) ≡ false
  pub last : is_blank (get_or line (length line - 1) 0) ≡ false
  pub mark : (get_or line 0 0 == 35) ≡ false

unindented-stands : (line : List ℕ) → 1 ≤ length line → is_blank (get_or line 0 0) ≡ false
    → unindented line ≡ line
unindented-stands [] some h = absurd (omega arith)
unindented-stands (b ∷ bs) some h = rw h refl

pub visible-stands : (line : List ℕ) → Stands line → visible line ≡ line
visible-stands line h =
    ap trimmed (unindented-stands line h.some h.first) ∙ sym (trimmed-keep line h.some h.last)

pub counts-stands : (line : List ℕ) → 1 ≤ length line → (get_or line 0 0 == 35) ≡ false
    → is_skipped line ≡ false
counts-stands [] some h = absurd (omega arith)
counts-stands (b ∷ bs) some h = h

-- lines that stand are kept
pub kept-stands : (lines : List (List ℕ)) → AllByRecursion Stands lines → kept lines ≡ lines
kept-stands [] h = refl
kept-stands (line ∷ lines) h =
    let here : visible line ≡ line = visible-stands line h.0 in
    let counts : is_skipped line ≡ false = counts-stands line h.0.some h.0.mark in
    rw (here, counts) (ap (λ (ls : List (List ℕ)). line ∷ ls) (kept-stands lines h.1))

-- ---- what is kept of lines stands

one_line-unindented : (line : List ℕ) → is_one_line line ≡ true
    → is_one_line (unindented line) ≡ true
one_line-unindented [] h = refl
one_line-unindented (b ∷ bs) h =
    by_test (is_blank b) (one_line-unindented bs (second_true _ _ h))
  where
    by_test : (v : Bool) → is_one_line (unindented bs) ≡ true
        → is_one_line (cond v (unindented bs) (b ∷ bs)) ≡ true
    by_test true later = later
    by_test false later = h

one_line-trimmed : (line : List ℕ) → is_one_line line ≡ true → is_one_line (trimmed line) ≡ true
one_line-trimmed [] h = refl
one_line-trimmed (b ∷ bs) h =
    by_test (is_blank b && length (trimmed bs) == 0) (one_line-trimmed bs (second_true _ _ h))
  where
    by_test : (v : Bool) → is_one_line (trimmed bs) ≡ true
        → is_one_line (cond v [] (b ∷ trimmed bs)) ≡ true
    by_test true later = refl
    by_test false later =
        let here : not (b == 10) ≡ true = first_true _ _ h in rw here later

-- the first byte of what is visible, if there is one, is no blank
first-trimmed : (line : List ℕ) → (1 ≤ length line → is_blank (get_or line 0 0) ≡ false)
    → 1 ≤ length (trimmed line) → is_blank (get_or (trimmed line) 0 0) ≡ false
first-trimmed [] first some = absurd (omega arith)
first-trimmed (b ∷ bs) first some =
    let here : is_blank b ≡ false = first (omega arith) in rw here here

first-unindented : (line : List ℕ) → 1 ≤ length (unindented line)
    → is_blank (get_or (unindented line) 0 0) ≡ false
first-unindented [] some = absurd (omega arith)
first-unindented (b ∷ bs) some = by_test (is_blank b) refl (first-unindented bs) some
  where
    by_test : (v : Bool) → is_blank b ≡ v
        → (1 ≤ length (unindented bs) → is_blank (get_or (unindented bs) 0 0) ≡ false)
        → 1 ≤ length (cond v (unindented bs) (b ∷ bs))
        → is_blank (get_or (cond v (unindented bs) (b ∷ bs)) 0 0) ≡ false
    by_test true e later h = later h
    by_test false e later h = e

-- the last byte, if there is one, is no blank
last-trimmed : (line : List ℕ) → 1 ≤ length (trimmed line)
    → is_blank (get_or (trimmed line) (length (trimmed line) - 1) 0) ≡ false
last-trimmed [] some = absurd (omega arith)
last-trimmed (b ∷ bs) some =
    by_test (is_blank b) (trimmed bs) refl (last-trimmed bs) some
  where
    last_of : (tail : List ℕ) → 1 ≤ length tail
        → is_blank (get_or tail (length tail - 1) 0) ≡ false
        → is_blank (get_or (b ∷ tail) (length (b ∷ tail) - 1) 0) ≡ false
    last_of tail h e =
        let k : length (b ∷ tail) - 1 ≡ suc (length tail - 1) = omega arith in rw k e

    by_test : (v : Bool) (tail : List ℕ) → is_blank b ≡ v
        → (1 ≤ length tail → is_blank (get_or tail (length tail - 1) 0) ≡ false)
        → 1 ≤ length (cond (v && length tail == 0) [] (b ∷ tail))
        → is_blank (get_or (cond (v && length tail == 0) [] (b ∷ tail))
        (length (cond (v && length tail == 0) [] (b ∷ tail)) - 1) 0) ≡ false
    by_test true [] e later h = absurd (omega arith)
    by_test false [] e later h = e
    by_test true (c ∷ cs) e later h =
        let more : (length (c ∷ cs) == 0) ≡ false = grind (arith, nat_tests) in
        rw more (last_of (c ∷ cs) (omega arith) (later (omega arith)))
    by_test false (c ∷ cs) e later h = last_of (c ∷ cs) (omega arith) (later (omega arith))

pub stands-visible : (line : List ℕ) → is_one_line line ≡ true → is_skipped (visible line) ≡ false
    → Stands (visible line)
stands-visible line one_line counts =
    let some : 1 ≤ length (visible line) = some_counts (visible line) counts in
    record {
      some = some;
      one_line = one_line-trimmed (unindented line) (one_line-unindented line one_line);
      first = first-trimmed (unindented line) (first-unindented line) some;
      last = last-trimmed (unindented line) some;
      mark = mark_counts (visible line) counts;
    }
  where
    some_counts : (word : List ℕ) → is_skipped word ≡ false → 1 ≤ length word
    some_counts [] e = absurd cc
    some_counts (b ∷ bs) e = omega arith

    mark_counts : (word : List ℕ) → is_skipped word ≡ false → (get_or word 0 0 == 35) ≡ false
    mark_counts [] e = absurd cc
    mark_counts (b ∷ bs) e = e

pub stands-kept : (lines : List (List ℕ)) → AllByRecursion (λ line. is_one_line line ≡ true) lines
    → AllByRecursion Stands (kept lines)
stands-kept [] h = tt
stands-kept (line ∷ lines) h = by_test (is_skipped (visible line)) refl (stands-kept lines h.1)
  where
    by_test : (v : Bool) → is_skipped (visible line) ≡ v → AllByRecursion Stands (kept lines)
        → AllByRecursion Stands (cond (not v) (visible line ∷ kept lines) (kept lines))
    by_test true e later = later
    by_test false e later = (stands-visible line h.0 e, later)
