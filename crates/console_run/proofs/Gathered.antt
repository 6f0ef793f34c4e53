-- What is kept of an unfinished line that grows.
use Rattle.std.proofs.Common.{◌≡◌, ℕ, zero, suc, ◌+◌, ◌-◌, min, List, [], ◌∷◌, ◌++◌, ap, sym, ◌∙◌, take, length, arith}
use Rattle.std.proofs.lemmas.List.{take_min}
use Rattle.script_text.specs.declared.line.TheConstants.{LINE_LIMIT}
use Rattle.script_text.specs.Line.{kept_most, kept_of}
use Rattle.script_text.proofs.Kept.{kept_most-is}

-- the first m bytes of a line that grew: those of the line, and then as many as are wanted of what
-- came
take_both : (m : ℕ) (line bytes : List ℕ)
    → take m line ++ take (min (length bytes) (m - length (take m line))) bytes
    ≡ take m (line ++ bytes)
take_both zero line bytes = let none : min (length bytes) (0 - length (take 0 line))
    ≡ 0 = omega arith in ap (λ k. take k bytes) none
take_both (suc m) [] bytes =
    let most : min (length bytes) (suc m - 0) ≡ min (suc m) (length bytes) = omega arith in
    ap (λ k. take k bytes) most ∙ take_min (suc m) bytes
take_both (suc m) (b ∷ line) bytes =
    let same : min (length bytes) (suc m - length (b ∷ take m line))
    ≡ min (length bytes) (m - length (take m line)) = omega arith in
    ap (λ k. b ∷ (take m line ++ take k bytes)) same ∙ ap (λ bs. b ∷ bs) (take_both m line bytes)

-- the bytes that came are gathered
pub gathered : (line bytes kept new : List ℕ) (count : ℕ) → kept ≡ kept_of line
    → count ≡ min (length bytes) (LINE_LIMIT + 1 - length kept) → new ≡ kept ++ take count bytes
    → new ≡ kept_of (line ++ bytes)
gathered line bytes kept new count k n e =
    let most : count ≡ min (length bytes) (kept_most - length (kept_of line)) = n
    ∙ ap (λ (m : ℕ). min (length bytes) (m - length kept)) (sym kept_most-is)
    ∙ ap (λ (bs : List ℕ). min (length bytes) (kept_most - length bs)) k in
    e ∙ ap (λ bs. bs ++ take count bytes) k ∙ ap (λ n. kept_of line ++ take n bytes) most
    ∙ take_both kept_most line bytes
