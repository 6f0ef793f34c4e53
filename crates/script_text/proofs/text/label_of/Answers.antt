use Rattle.std.proofs.Common.{◌≡◌, ◌-◌, ◌++◌, ℕ, Bool, true, false, List, length, take, drop, Option, IfSome, codes, Bor, refl, sym, ◌∙◌, ap, append_assoc}
use Rattle.std.specs.Bool.{then_some}
use Rattle.std.specs.Cmp.Lexicographic.{same_text}
use Rattle.std.proofs.lemmas.List.{take-append-drop}
use Rattle.script_text.proofs.text.label_of.Goals as goal

-- bytes between an opening and a closing
enclosed : (bytes inner label opening closing : List ℕ) → take 2 bytes ≡ opening
    → inner ≡ drop 2 bytes
    → drop (length inner - 2) inner ≡ closing → label ≡ take (length inner - 2) inner
    → bytes ≡ opening ++ label ++ closing
enclosed bytes inner label opening closing opens inner_is closes label_is =
    sym (take-append-drop 2 bytes) ∙ rw (opens, ← inner_is)
    (ap (λ rest. opening ++ rest)
    (sym (take-append-drop (length inner - 2) inner) ∙ rw (closes, ← label_is) refl)
    ∙ sym (append_assoc opening label closing))

-- the label, if it is one
then_label : (test : Bool) (bytes : List ℕ) (label : Bor (List ℕ)) (found : Option (Bor (List ℕ)))
    → bytes ≡ codes "|{" ++ label.now ++ codes "}|" → found ≡ then_some test label
    → IfSome found (λ l. bytes ≡ codes "|{" ++ l.now ++ codes "}|")
then_label true bytes label found h is = rw is h
then_label false bytes label found h is = rw is tt

pub returns-clause-text : goal.returns-clause-text
returns-clause-text c =
    then_label c.is_label.result c.args.bytes.now c.in_ok-label.label c.then_some.result
    (enclosed c.args.bytes.now c.in_ok-strip_prefix.field-0.now c.in_ok-label.label.now
    (codes "|{") (codes "}|")
    (same_text _ _ (sym c.in_ok-strip_prefix.ensures.cases.0)) c.in_ok-strip_prefix.ensures.cases.1
    (same_text _ _ (sym c.in_ok-label.ensures.cases.0)) c.in_ok-label.ensures.cases.1)
    c.then_some.ensures
