-- What the exit of a `?` answers.
use Rattle.std.proofs.Common.{◌≡◌, sym, subst}
use Rattle.std.specs.Prelude.{Result}
use Rattle.std.specs.Result.{MatchResult, IsErrAnd}
use Rattle.std.proofs.lemmas.Result.{err_from_is_err_and}

-- the error goes out as it came in
pub err_out : {T E : Type 0} (r : Result T E) (P : T → Type 0) (Q : E → Type 0) (why : E) → IsErrAnd r (λ e. e ≡ why) → Q why → MatchResult r P Q
err_out r P Q why is h =
    let w = err_from_is_err_and r is in
    subst (λ o. MatchResult o P Q) (sym w.1) (subst Q (sym w.2) h)
