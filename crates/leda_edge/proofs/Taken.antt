-- A piece that is taken part by part.
use Rattle.std.proofs.Common.{◌≡◌, ℕ, ◌+◌, ◌-◌, ◌≤◌, List, length, take, drop, subst, ap, ◌∙◌, arith, length-drop}
use Rattle.std.specs.Prelude.{Option}
use Rattle.std.proofs.lemmas.List.{take_rest}
use Rattle.std.proofs.Math.Seq.{take-add}
use Rattle.std.proofs.KnownBytes.{Appends-trans}
use Rattle.std.specs.Io.KnownBytes.{Appends}

-- a prefix of the piece and then a prefix of what is left of it make a longer prefix
pub Appends-part : (a b c : Option (List ℕ)) (piece : List ℕ) (taken count : ℕ)
    → Appends a b (take taken piece)
    → Appends b c (take count (take (length piece - taken) (drop taken piece)))
    → Appends a c (take (taken + count) piece)
Appends-part a b c piece taken count before now =
    let front : Appends b c (take count (drop taken piece)) = subst
    (λ rest. Appends b c (take count rest)) (take_rest piece taken) now
    in rw (take-add taken count piece) (Appends-trans a b c (take taken piece)
    (take count (drop taken piece)) before front)

-- and no more than the piece is taken
pub within_piece : (piece : List ℕ) (taken count : ℕ) → taken ≤ length piece
    → count ≤ length (take (length piece - taken) (drop taken piece)) → taken + count ≤ length piece
within_piece piece taken count before bound =
    let e : length (take (length piece - taken) (drop taken piece))
    ≡ length piece - taken = ap length (take_rest piece taken) ∙ length-drop taken piece
    in omega (arith, e, bound, before)
