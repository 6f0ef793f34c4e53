-- The first line of a text.
use Rattle.std.proofs.Common.{◌≡◌, ℕ, ◌+◌, List, [], ◌∷◌, ◌++◌, Bool, false, cond, refl, ap, sym, ◌∙◌, take, drop, append-nil}
use Rattle.std.specs.List.{slice_range}
use Rattle.std.specs.Io.BufRead.{take_through}
use Rattle.std.proofs.lemmas.List.Elements.{All-head, All-tail}
use Rattle.console_run.specs.Lines.{is_line_end, IsPlain}
use Rattle.console_run.specs.Progress.{EndsLine}
use Rattle.console_run.specs.Shown.{first_line}

-- bytes that end no line stand in the first line
through_plain : (line rest : List ℕ) → IsPlain line
    → take_through 10 (line ++ rest) ≡ line ++ take_through 10 rest
through_plain [] rest plain = refl
through_plain (x ∷ xs) rest plain =
    let ends_none : ℕ → Type 0 = λ byte. is_line_end byte ≡ false in
    ap (λ (b : Bool). cond b (x ∷ []) (x ∷ take_through 10 (xs ++ rest)))
    (All-head ends_none x xs plain)
    ∙ ap (λ bytes. x ∷ bytes) (through_plain xs rest (All-tail ends_none x xs plain))

-- a text without a line end is its first line
pub unended-line : (text : List ℕ) → IsPlain text → text ≡ first_line text
unended-line text plain = sym (ap (λ bytes. take_through 10 bytes) (sym (append-nil text))
    ∙ through_plain text [] plain ∙ append-nil text)

-- the first line reaches to the first line end
pub ended-line : (text : List ℕ) (end : ℕ) → EndsLine text 0 end
    → take (end + 1) text ≡ first_line text
ended-line text end e = e.taken
    ∙ sym (through_plain (slice_range text 0 end) (10 ∷ drop (end + 1) text) e.plain)
    ∙ sym (ap (λ bytes. take_through 10 bytes) e.whole)
