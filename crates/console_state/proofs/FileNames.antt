-- Names of files, as text.
use Rattle.std.proofs.Common.{◌≡◌, ℕ, zero, suc, ◌<◌, Bool, true, false, ◌&&◌, List, [], ◌∷◌, length, refl, arith}
use Rattle.std.proofs.lemmas.Bool.Decides.{nat_tests}
use Rattle.std.proofs.lemmas.Str.{IsUtf8-from_ascii}
use Rattle.std.specs.Char.{is_ascii_graphic}
use Rattle.std.specs.List.{list_all}
use Rattle.std.specs.Prelude.{IsTrue, nat_le}
use Rattle.std.specs.Str.{IsAscii, IsUtf8}
use Rattle.script_text.specs.Text.{is_file}

both : (a b : Bool) → (a && b) ≡ true → (a ≡ true) × (b ≡ true)
both true b e = (refl, e)
both false b e = cc

graphic-low : (b : ℕ) → is_ascii_graphic b ≡ true → b < 128
graphic-low b h = grind (arith, nat_tests)

all-low : (bytes : List ℕ) → list_all is_ascii_graphic bytes ≡ true → IsAscii bytes
all-low [] all i = omega arith
all-low (b ∷ bs) all zero = graphic-low b (both (is_ascii_graphic b) (list_all is_ascii_graphic bs) all).0
all-low (b ∷ bs) all (suc i) = all-low bs (both (is_ascii_graphic b) (list_all is_ascii_graphic bs) all).1 i

pub is_text : (name : List ℕ) → IsTrue (is_file name) → IsUtf8 name
is_text name is = IsUtf8-from_ascii name (all-low name (both (nat_le 1 (length name) && nat_le (length name) 255) (list_all is_ascii_graphic name) is).1)
