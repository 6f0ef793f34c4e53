-- Entries by names, of which the first of a name counts.
use Rattle.std.specs.Prelude.{Bool, cond, List, [], ◌∷◌}

module _ {K V : Type 0} where
  -- the entry of a name, and another value where there is none
  abbrev pub look : (K → K → Bool) → V → List (K × V) → K → V
  look same other [] k = other
  look same other (e ∷ es) k = cond (same e.0 k) e.1 (look same other es k)

  -- every entry is changed
  abbrev pub each : (V → V) → List (K × V) → List (K × V)
  each f [] = []
  each f (e ∷ es) = (e.0, f e.1) ∷ each f es

  -- every name is changed
  abbrev pub renamed : (K → K) → List (K × V) → List (K × V)
  renamed f [] = []
  renamed f (e ∷ es) = (f e.0, e.1) ∷ renamed f es
