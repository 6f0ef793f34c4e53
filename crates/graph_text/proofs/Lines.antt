-- The first line of a text, by its end.
use Rattle.std.proofs.Common.{◌≡◌, ℕ, suc, ◌+◌, ◌-◌, ◌<◌, ◌≤◌, true, false, not, ◌==◌, List, [], ◌∷◌, ◌++◌, length, get_or, take, drop, min, refl, sym, ap, ◌∙◌, subst, arith}
use Rattle.std.proofs.Math.Seq.{take-length, drop-cons}
use Rattle.std.specs.List.{onto_first}
use Rattle.std.proofs.lemmas.Bool.{eqb-true, false_from_ne_true}
use Rattle.std.proofs.lemmas.List.{length-take, take-append-drop, get_or-take, get_or_default, take_rest}
use Rattle.std.proofs.lemmas.List.Sums.{list_all-from_AllPass}
use Rattle.memchr.specs.Find.{NoneBefore, Nowhere, Passes, is_byte}
use Rattle.leda_base.specs.Bytes.{is_one_line}
use Rattle.graph_text.specs.Lines.{lines_of}
use Rattle.graph_text.proofs.Passes.{first_true, second_true, not_true}

-- a line that ends, with more behind it
pub lines-ended : (line more : List ℕ) → is_one_line line ≡ true
    → lines_of (line ++ 10 ∷ more) ≡ line ∷ lines_of more
lines-ended [] more h = refl
lines-ended (b ∷ bs) more h =
    let here : (b == 10) ≡ false = not_true _ (first_true _ _ h) in
    let later : lines_of (bs ++ 10 ∷ more) ≡ bs ∷ lines_of more =
    lines-ended bs more (second_true _ _ h) in
    rw (here, later) refl

-- a line that doesn't
pub lines-unended : (line : List ℕ) → 0 < length line → is_one_line line ≡ true
    → lines_of line ≡ line ∷ []
lines-unended [] some h = absurd (omega arith)
lines-unended (b ∷ []) some h =
    let here : (b == 10) ≡ false = not_true _ (first_true _ _ h) in rw here refl
lines-unended (b ∷ c ∷ bs) some h =
    let here : (b == 10) ≡ false = not_true _ (first_true _ _ h) in
    let later : lines_of (c ∷ bs) ≡ (c ∷ bs) ∷ [] =
    lines-unended (c ∷ bs) (omega arith) (second_true _ _ h) in
    rw here (ap (onto_first b) later)

-- bytes that are no line ends
plain-front : (hay : List ℕ) (count : ℕ) → count ≤ length hay
    → Nowhere (Passes (is_byte 10) hay) 0 count → is_one_line (take count hay) ≡ true
plain-front hay count below none = list_all-from_AllPass _ (take count hay) (λ k d m.
    let short : length (take count hay) ≡ min count (length hay) = length-take count hay in
    let within : k < count = omega arith in
    let inside : k < length hay = omega arith in
    let same : get_or (take count hay) k d ≡ get_or hay k 0 = get_or-take count hay k d within
    ∙ get_or_default hay k d 0 inside in
    ap not (false_from_ne_true (get_or (take count hay) k d == 10)
    (λ e. none k (omega arith) within (sym (ap (λ b. b == 10) same) ∙ e))))

-- the first line, which ends at its LF
pub first-ended : (bytes : List ℕ) (end : ℕ)
    → NoneBefore (Passes (is_byte 10) bytes) 0 (length bytes) end
    → Passes (is_byte 10) bytes end
    → lines_of bytes
    ≡ take end bytes ∷ lines_of (take (length bytes - (end + 1)) (drop (end + 1) bytes))
first-ended bytes end none here =
    let below : end < length bytes = none.high in
    let byte : get_or bytes end 0 ≡ 10 = eqb-true (get_or bytes end 0) 10 here in
    let rest : drop end bytes ≡ 10 ∷ drop (suc end) bytes = drop-cons bytes end 0 below
    ∙ ap (λ b. b ∷ drop (suc end) bytes) byte in
    let parts : bytes ≡ take end bytes ++ 10 ∷ drop (suc end) bytes =
    sym (take-append-drop end bytes) ∙ ap (λ bs. take end bytes ++ bs) rest in
    let next : suc end ≡ end + 1 = omega arith in
    let behind : drop (suc end) bytes ≡ take (length bytes - (end + 1)) (drop (end + 1) bytes) =
    ap (λ (k : ℕ). drop k bytes) next ∙ sym (take_rest bytes (end + 1)) in
    ap lines_of parts
    ∙ lines-ended (take end bytes) (drop (suc end) bytes)
    (plain-front bytes end (omega arith) none.before)
    ∙ ap (λ (bs : List ℕ). take end bytes ∷ lines_of bs) behind

-- the only line, which doesn't end
pub only-line : (bytes : List ℕ) → 0 < length bytes
    → Nowhere (Passes (is_byte 10) bytes) 0 (length bytes)
    → lines_of bytes ≡ bytes ∷ []
only-line bytes some none = lines-unended bytes some
    (subst (λ (bs : List ℕ). is_one_line bs ≡ true) (take-length bytes)
    (plain-front bytes (length bytes) (omega arith) none))
