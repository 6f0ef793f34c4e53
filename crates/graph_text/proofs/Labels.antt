-- A label is read as it is written, and only so.
use Rattle.std.proofs.Common.{◌≡◌, ℕ, ◌-◌, List, ◌++◌, length, take, drop, Some, codes, refl, sym, ap, ◌∙◌, append_assoc, arith, length-append, length-drop}
use Rattle.std.proofs.lemmas.List.{take-append-drop, take_at}
use Rattle.std.proofs.lemmas.List.Prefix.{end_rest}
use Rattle.std.proofs.lemmas.Option.{cond_some}
use Rattle.std.proofs.lemmas.Slice.Eq.{bytes_eq-Decides}
use Rattle.graph_text.specs.Parts.{between, label_of}
use Rattle.graph_text.specs.Written.{label_text}
use Rattle.graph_text.proofs.Passes.{first_true, second_true}

pub label-again : (label : List ℕ) → label_of (label_text label) ≡ Some label
label-again label =
    let ends : drop (length (label ++ codes "}|") - 2) (label ++ codes "}|") ≡ codes "}|" =
    end_rest (label ++ codes "}|") (codes "}|") label refl in
    let size : length (label_text label) - 4 ≡ length label =
    omega (arith, length-append label (codes "}|")) in
    let middle : take (length (label_text label) - 4) (label ++ codes "}|") ≡ label =
    ap (λ (k : ℕ). take k (label ++ codes "}|")) size
    ∙ take_at label (codes "}|") (length label) refl in
    rw (ends, middle) refl

-- bytes between an opening and a closing
enclosed : (bytes inner label opening closing : List ℕ) → take 2 bytes ≡ opening
    → inner ≡ drop 2 bytes
    → drop (length inner - 2) inner ≡ closing → label ≡ take (length inner - 2) inner
    → bytes ≡ opening ++ label ++ closing
enclosed bytes inner label opening closing opens inner_is closes label_is =
    sym (take-append-drop 2 bytes) ∙ rw (opens, ← inner_is)
    (ap (λ rest. opening ++ rest)
    (sym (take-append-drop (length inner - 2) inner) ∙ rw (closes, ← label_is) refl)
    ∙ sym (append_assoc opening label closing))

pub label-is : (bytes label : List ℕ) → label_of bytes ≡ Some label → bytes ≡ label_text label
label-is bytes label e =
    let found = cond_some _ (between bytes) label e in
    let opens : codes "|{" ≡ take 2 bytes =
    (bytes_eq-Decides (codes "|{") (take 2 bytes)).0 (first_true _ _ found.0) in
    let inner : List ℕ = drop 2 bytes in
    let size : length bytes - 4 ≡ length inner - 2 = omega (arith, length-drop 2 bytes) in
    let closes : codes "}|" ≡ drop (length inner - 2) inner =
    (bytes_eq-Decides (codes "}|") (drop (length inner - 2) inner)).0
    (second_true _ _ found.0) in
    enclosed bytes inner label (codes "|{") (codes "}|") (sym opens) refl (sym closes)
    (sym found.1 ∙ ap (λ (k : ℕ). take k inner) size)
