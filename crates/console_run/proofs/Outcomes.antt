-- What holds of one outcome, led on to what follows from it.
use Rattle.std.proofs.Common.{◌≡◌, ℕ, ◌+◌, ◌-◌, ◌≤◌, min, Result, Ok, Err, OnOk, sym, subst, arith}
use Rattle.std.specs.Prelude.{◌^◌, IfErr, IsErrAnd}
use Rattle.leda_edge.specs.Causes.{Rose}

pub on_ok : {T E A B : Type 0} (r : Result T E) → (A → B) → OnOk r A → OnOk r B
on_ok (Ok x) f h = f h
on_ok (Err e) f h = tt

pub if_err : {T E : Type 0} {A B : E → Type 0} (r : Result T E) → ((e : E) → A e → B e)
    → IfErr r A → IfErr r B
if_err (Ok x) f h = tt
if_err (Err e) f h = f e h

-- of an error that is passed on as it is
pub passed-on : {T E : Type 0} (A : E → Type 0) (r : Result T E) (e : E)
    → IsErrAnd r (λ x. x ≡ e) → A e → IfErr r A
passed-on A (Ok x) e is h = absurd is
passed-on A (Err x) e is h = subst A (sym is) h

-- a count that rose later rose
pub rose-later : (before middle now : ℕ) → before ≤ middle → Rose middle now → Rose before now
rose-later before middle now later rose =
    let grown : min (middle + 1) (2 ^ 64 - 1) ≤ now = rose in
    omega (arith, later, grown)
