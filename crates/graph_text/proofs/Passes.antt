-- Tests that pass or fail, and what was read.
use Rattle.std.proofs.Common.{◌≡◌, Bool, true, false, ◌&&◌, not, Result, Ok, refl}
use Rattle.graph_text.specs.declared.fault.Fault.{Fault}

-- the first of two tests that both pass
pub first_true : (a b : Bool) → (a && b) ≡ true → a ≡ true
first_true true b e = refl
first_true false b e = cc

-- the second one
pub second_true : (a b : Bool) → (a && b) ≡ true → b ≡ true
second_true true b e = e
second_true false b e = cc

-- a test whose opposite passes
pub not_true : (a : Bool) → not a ≡ true → a ≡ false
not_true true e = cc
not_true false e = refl

-- a test whose opposite fails
pub not_false : (a : Bool) → not a ≡ false → a ≡ true
not_false true e = refl
not_false false e = cc

abbrev done : {A : Type 0} → A → Result A Fault
done x = Ok x

-- what was read is read once
pub ok_is : {A : Type 0} (x y : A) → done x ≡ done y → x ≡ y
ok_is x y e = cc
