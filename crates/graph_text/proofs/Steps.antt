-- The next line, in the words of the lines that count.
use Rattle.std.proofs.Common.{◌≡◌, ℕ, ◌+◌, Bool, true, false, not, List, [], ◌∷◌, ◌++◌, length, map, cond, nat_lt, Option, Some, None, Result, Ok, Err, refl, sym, ap, ◌∙◌, append_assoc}
use Rattle.std.specs.List.{AllZip}
use Rattle.std.proofs.lemmas.Bool.{le-ltb, ltb-false}
use Rattle.graph_defs.specs.declared.plain.TextKind.TheVariants.{Limit}
use Rattle.graph_text.specs.declared.fault.Fault.{Fault}
use Rattle.graph_text.specs.Lines.{Line, Unread, next_from, next_of, visible, is_skipped}
use Rattle.graph_text.specs.Reading.{◌>>=◌, line_of, end_of, none_left, wanted, many_of}
use Rattle.graph_text.specs.Text.{kept, AreShort}
use Rattle.graph_text.proofs.Passes.{ok_is}

-- lines that are still to be read, none of them too long, of which these count
pub record Holds (u : Unread) (words : List (List ℕ)) : Type 0 where
  pub short : AreShort u.lines
  pub words_are : kept u.lines ≡ words

-- the next line that counts is found, with these behind it
pub record Finds (read : Result (Option Line × Unread) Fault) (word : List ℕ)
    (words : List (List ℕ)) : Type 0 where
  pub number : ℕ
  pub left : Unread
  pub is : read ≡ Ok (Some (record { number = number; bytes = word }), left)
  pub holds : Holds left words

find-next : (number : ℕ) (lines : List (List ℕ)) (word : List ℕ) (words : List (List ℕ))
    → AreShort lines → kept lines ≡ word ∷ words → Finds (next_from number lines) word words
find-next number [] word words short e = absurd cc
find-next number (line ∷ lines) word words short e =
    by_test (is_skipped (visible line)) refl e (find-next (number + 1) lines word words short.1)
  where
    fits : nat_lt 65536 (length line) ≡ false
    fits = le-ltb 65536 (length line) short.0

    by_test : (v : Bool) → is_skipped (visible line) ≡ v
        → cond (not v) (visible line ∷ kept lines) (kept lines) ≡ word ∷ words
        → (kept lines ≡ word ∷ words → Finds (next_from (number + 1) lines) word words)
        → Finds (next_from number (line ∷ lines)) word words
    by_test true is h later = rw (fits, is) (later h)
    by_test false is h later =
        let first : visible line ≡ word = cc in
        let others : kept lines ≡ words = cc in
        rw (fits, is, first) (record {
          number = number;
          left = record { number = number + 1; lines = lines };
          is = refl;
          holds = record { short = short.1; words_are = others };
        })

-- the next line is there, with these behind it
pub record Goes (read : Result (Line × Unread) Fault) (word : List ℕ) (words : List (List ℕ))
    : Type 0 where
  pub number : ℕ
  pub left : Unread
  pub is : read ≡ Ok (record { number = number; bytes = word }, left)
  pub holds : Holds left words

pub line-goes : (u : Unread) (word : List ℕ) (words : List (List ℕ)) → Holds u (word ∷ words)
    → Goes (line_of u) word words
unfolding line_of
line-goes u word words h =
    let found = find-next u.number u.lines word words h.short h.words_are in
    record { number = found.number; left = found.left; is = rw found.is refl; holds = found.holds }

no-next : (number : ℕ) (lines : List (List ℕ)) → AreShort lines → kept lines ≡ []
    → (k : ℕ) × (next_from number lines ≡ Ok (None, record { number = k; lines = [] }))
no-next number [] short e = (number, refl)
no-next number (line ∷ lines) short e =
    by_test (is_skipped (visible line)) refl e (no-next (number + 1) lines short.1)
  where
    fits : nat_lt 65536 (length line) ≡ false
    fits = le-ltb 65536 (length line) short.0

    by_test : (v : Bool) → is_skipped (visible line) ≡ v
        → cond (not v) (visible line ∷ kept lines) (kept lines) ≡ []
        → (kept lines ≡ [] → (k : ℕ)
        × (next_from (number + 1) lines ≡ Ok (None, record { number = k; lines = [] })))
        → (k : ℕ)
        × (next_from number (line ∷ lines) ≡ Ok (None, record { number = k; lines = [] }))
    by_test true is h later = rw (fits, is) (later h)
    by_test false is h later = absurd cc

pub end-goes : (u : Unread) → Holds u [] → end_of u ≡ Ok true
unfolding end_of
end-goes u h =
    let found = no-next u.number u.lines h.short h.words_are in rw found.1 refl

-- ---- many lines

-- each line is read as its item
pub record ManyGo {A B : Type 0} (view : A → B) (read : Result (List A × Unread) Fault)
    (items : List B) (words : List (List ℕ)) : Type 0 where
  pub found : List A
  pub left : Unread
  pub is : read ≡ Ok (found, left)
  pub are : map view found ≡ items
  pub holds : Holds left words

-- the line is read as the item, whatever its number
abbrev pub Reading : {A B : Type 0} → (Line → Result A Fault) → (A → B) → List ℕ → B → Type 0
Reading {A = A} read view word x =
    (number : ℕ) → (a : A) × (read (record { number = number; bytes = word }) ≡ Ok a)
    × (view a ≡ x)

pub many-go : {A B : Type 0} (read : Line → Result A Fault) (view : A → B)
    (lines : List (List ℕ)) (items : List B) (words : List (List ℕ)) (u : Unread)
    → AllZip (Reading read view) lines items → Holds u (lines ++ words)
    → ManyGo view (many_of read (length items) u) items words
unfolding many_of
many-go read view [] [] words u each h =
    record { found = []; left = u; is = refl; are = refl; holds = h }
many-go read view [] (x ∷ xs) words u each h = absurd each
many-go read view (line ∷ lines) [] words u each h = absurd each
many-go {B = B} read view (line ∷ lines) (x ∷ xs) words u each h =
    let one = line-goes u line (lines ++ words) h in
    let item = each.0 one.number in
    let others = many-go read view lines xs words one.left each.1 one.holds in
    record {
      found = item.0 ∷ others.found;
      left = others.left;
      is = rw (one.is, item.1, others.is) refl;
      are = rw (item.2) (ap (λ (ys : List B). x ∷ ys) others.are);
      holds = others.holds;
    }

-- ---- the other way

-- these lines that count were taken
pub record Took (u : Unread) (words : List (List ℕ)) (left : Unread) : Type 0 where
  pub short : AreShort left.lines → AreShort u.lines
  pub words_are : kept u.lines ≡ words ++ kept left.lines

pub Took-then : (u : Unread) (words : List (List ℕ)) (middle : Unread) (more : List (List ℕ))
    (left : Unread) → Took u words middle → Took middle more left → Took u (words ++ more) left
Took-then u words middle more left a b = record {
  short = λ h. a.short (b.short h);
  words_are = a.words_are ∙ ap (λ (ws : List (List ℕ)). words ++ ws) b.words_are
      ∙ sym (append_assoc words more (kept left.lines));
}

-- the line that counts, if there is one
abbrev words_of : Option Line → List (List ℕ)
words_of None = []
words_of (Some line) = line.bytes ∷ []

-- what is left where none counts
abbrev Left : Option Line → Unread → Type 0
Left None left = left.lines ≡ []
Left (Some line) left = Unit {0}

took-next : (number : ℕ) (lines : List (List ℕ)) (found : Option Line) (left : Unread)
    → next_from number lines ≡ Ok (found, left)
    → Took (record { number = number; lines = lines }) (words_of found) left × Left found left
took-next number [] found left e =
    let same = ok_is (None, record { number = number; lines = [] }) (found, left) e in
    let none : None ≡ found = ap (λ (p : Option Line × Unread). p.0) same in
    let nothing : record { number = number; lines = [] } ≡ left =
    ap (λ (p : Option Line × Unread). p.1) same in
    rw (← none, ← nothing) (record { short = λ h. tt; words_are = refl }, refl)
took-next number (line ∷ lines) found left e =
    by_length (nat_lt 65536 (length line)) (is_skipped (visible line)) refl refl e
    (took-next (number + 1) lines found left)
  where
    by_length : (long skipped : Bool) → nat_lt 65536 (length line) ≡ long
        → is_skipped (visible line) ≡ skipped
        → cond long (Err (record { kind = Limit; line = number }))
        (cond skipped (next_from (number + 1) lines)
        (Ok (
          Some (record { number = number; bytes = visible line }),
          record { number = number + 1; lines = lines },
        ))) ≡ Ok (found, left)
        → (next_from (number + 1) lines ≡ Ok (found, left)
        → Took (record { number = number + 1; lines = lines }) (words_of found) left
        × Left found left)
        → Took (record { number = number; lines = line ∷ lines }) (words_of found) left
        × Left found left
    by_length true skipped long is h later = absurd cc
    by_length false true long is h later =
        let others = later h in (
          record {
            short = λ s. (ltb-false 65536 (length line) long, others.0.short s);
            words_are = rw is others.0.words_are;
          },
          others.1,
        )
    by_length false false long is h later =
        let same = ok_is (
          Some (record { number = number; bytes = visible line }),
          record { number = number + 1; lines = lines },
        ) (found, left) h in
        let one : Some (record { number = number; bytes = visible line }) ≡ found =
        ap (λ (p : Option Line × Unread). p.0) same in
        let rest : record { number = number + 1; lines = lines } ≡ left =
        ap (λ (p : Option Line × Unread). p.1) same in
        rw (← one, ← rest) (
          record {
            short = λ s. (ltb-false 65536 (length line) long, s);
            words_are = rw is refl;
          },
          tt,
        )

pub took-line : (u : Unread) (line : Line) (left : Unread) → line_of u ≡ Ok (line, left)
    → Took u (line.bytes ∷ []) left
unfolding line_of
took-line u line left e = by_read (next_of u) refl e
  where
    by_read : (read : Result (Option Line × Unread) Fault) → next_of u ≡ read
        → (read >>= λ found. wanted found.0 found.1) ≡ Ok (line, left)
        → Took u (line.bytes ∷ []) left
    by_read (Err f) is h = absurd cc
    by_read (Ok (None, middle)) is h = absurd cc
    by_read (Ok (Some found, middle)) is h =
        let same = ok_is (found, middle) (line, left) h in
        let one : found ≡ line = ap (λ (p : Line × Unread). p.0) same in
        let rest : middle ≡ left = ap (λ (p : Line × Unread). p.1) same in
        rw (← one, ← rest) (took-next u.number u.lines (Some found) middle is).0

pub took-end : (u : Unread) (is : Bool) → end_of u ≡ Ok is → Holds u []
unfolding end_of
took-end u is e = by_read (next_of u) refl e
  where
    by_read : (read : Result (Option Line × Unread) Fault) → next_of u ≡ read
        → (read >>= λ found. none_left found.0) ≡ Ok is → Holds u []
    by_read (Err f) n h = absurd cc
    by_read (Ok (Some found, middle)) n h = absurd cc
    by_read (Ok (None, middle)) n h =
        let taken = took-next u.number u.lines None middle n in record {
          short = taken.0.short (rw taken.1 tt);
          words_are = taken.0.words_are ∙ ap kept taken.1;
        }
