-- Where a line of a piece ends.
use Rattle.std.proofs.Common.{◌≡◌, ℕ, suc, ◌+◌, ◌-◌, ◌<◌, ◌≤◌, List, [], ◌∷◌, ◌++◌, ap, sym, ◌∙◌, take, drop, length, get_or, min, subst, arith}
use Rattle.std.proofs.Math.Seq.{take-add, take-suc, take-length, drop-cons, drop-drop}
use Rattle.std.proofs.lemmas.List.{take_all, take-append-drop, length-drop, length-take, get_or-take, get_or_default}
use Rattle.std.proofs.lemmas.Bool.{eqb-true, false_from_ne_true}
use Rattle.std.specs.List.{slice_range}
use Rattle.memchr.specs.Find.{NoneBefore, Nowhere, Passes, is_byte}
use Rattle.console_run.specs.Lines.{is_line_end, IsPlain}
use Rattle.console_run.specs.Progress.{EndsLine}

-- `&piece[at..]`
pub slice_rest : (piece : List ℕ) (at : ℕ)
    → take (length piece - at) (drop at piece) ≡ drop at piece
slice_rest piece at = take_all (length piece - at) (drop at piece)
    (omega (arith, length-drop at piece))

-- no byte of the front is a line end
plain_front : (hay : List ℕ) (count : ℕ) → count ≤ length hay
    → Nowhere (Passes (is_byte 10) hay) 0 count → IsPlain (take count hay)
plain_front hay count below none = λ k d m.
    let short : length (take count hay) ≡ min count (length hay) = length-take count hay in
    let within : k < count = omega arith in
    let inside : k < length hay = omega arith in
    let same : get_or (take count hay) k d ≡ get_or hay k 0 = get_or-take count hay k d within
    ∙ get_or_default hay k d 0 inside in
    false_from_ne_true (is_line_end (get_or (take count hay) k d))
    (λ e. none k (omega arith) within (sym (ap is_line_end same) ∙ e))

-- no byte is a line end
pub plain-all : (hay : List ℕ) → Nowhere (Passes (is_byte 10) hay) 0 (length hay) → IsPlain hay
plain-all hay none = subst IsPlain (take-length hay)
    (plain_front hay (length hay) (omega arith) none)

-- the first line end behind a place
pub line-ends : (piece hay : List ℕ) (at count : ℕ) → hay ≡ drop at piece
    → NoneBefore (Passes (is_byte 10) hay) 0 (length hay) count → Passes (is_byte 10) hay count
    → EndsLine piece at (at + count)
line-ends piece hay at count h none here =
    let below : count < length hay = none.high in
    let size : length hay ≡ length piece - at = ap length h ∙ length-drop at piece in
    let byte : get_or hay count 0 ≡ 10 = eqb-true (get_or hay count 0) 10 here in
    let width : at + count - at ≡ count = omega arith in
    let line_is : take count hay ≡ slice_range piece at (at + count) =
    ap (λ bs. take count bs) h ∙ ap (λ n. take n (drop at piece)) (sym width) in
    let next_is : at + suc count ≡ at + count + 1 = omega arith in
    let ended : take (suc count) hay ≡ take count hay ++ 10 ∷ [] =
    take-suc hay count 0 below ∙ ap (λ b. take count hay ++ b ∷ []) byte in
    let front : take (at + count + 1) piece ≡ take at piece ++ (take count hay ++ 10 ∷ []) =
    ap (λ n. take n piece) (sym next_is) ∙ take-add at (suc count) piece
    ∙ ap (λ bs. take at piece ++ take (suc count) bs) (sym h)
    ∙ ap (λ bs. take at piece ++ bs) ended in
    let behind : drop (suc count) hay ≡ drop (at + count + 1) piece =
    ap (λ bs. drop (suc count) bs) h ∙ drop-drop (suc count) at piece
    ∙ ap (λ n. drop n piece) next_is in
    let rest : drop count hay ≡ 10 ∷ drop (at + count + 1) piece =
    drop-cons hay count 0 below ∙ ap (λ b. b ∷ drop (suc count) hay) byte
    ∙ ap (λ bs. 10 ∷ bs) behind in
    let parts : hay ≡ take count hay ++ 10 ∷ drop (at + count + 1) piece =
    sym (take-append-drop count hay) ∙ ap (λ bs. take count hay ++ bs) rest in
    record {
      order = omega arith;
      within = omega arith;
      plain = subst IsPlain line_is (plain_front hay count (omega arith) none.before);
      taken = front ∙ ap (λ bs. take at piece ++ (bs ++ 10 ∷ [])) line_is;
      whole = sym (take-append-drop at piece) ∙ ap (λ bs. take at piece ++ bs) (sym h ∙ parts)
          ∙ ap (λ bs. take at piece ++ (bs ++ 10 ∷ drop (at + count + 1) piece)) line_is;
    }
