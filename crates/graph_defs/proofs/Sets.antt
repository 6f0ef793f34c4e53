-- Sets of nodes, and the arcs that leave them.
use Rattle.std.proofs.Common.{◌≡◌, ◌⊎◌, inl, inr, ℕ, zero, suc, ◌<◌, Bool, true, false, not, ◌&&◌, ◌||◌, eqb, List, [], ◌∷◌, length, get_or, refl, sym, ap, arith}
use Rattle.std.proofs.lemmas.Bool.{true≢false, eqb-true, eq-eqb}
use Rattle.graph_defs.specs.declared.net.Net.{Net}
use Rattle.graph_defs.specs.Net.{source, target}
use Rattle.graph_defs.specs.Set.{is_in, leaves}

-- an arc that doesn't leave a set, and begins in it, ends in it
not_out : (here there : Bool) → (here && not there) ≡ false → here ≡ true → there ≡ true
not_out true true e h = refl
not_out true false e h = sym e
not_out false there e h = absurd (true≢false (sym h))

pub stays_within : (net : Net) (inside : ℕ → Bool) (arc : ℕ) → leaves net inside arc ≡ false → inside (source net arc) ≡ true → inside (target net arc) ≡ true
stays_within net inside arc e h = not_out (inside (source net arc)) (inside (target net arc)) e h

-- the test says what stands in the list
or_right : (a b : Bool) → b ≡ true → (a || b) ≡ true
or_right true b e = refl
or_right false b e = e

or_left : (a b : Bool) → a ≡ true → (a || b) ≡ true
or_left a b e = ap (λ (x : Bool). x || b) e

-- a member stands at a place
pub has_in : (set : List ℕ) (k node : ℕ) → k < length set → get_or set k 0 ≡ node → is_in set node ≡ true
has_in [] k node h e = absurd (omega arith)
has_in (member ∷ set) zero node h e = or_left (eqb member node) (is_in set node) (eq-eqb member node e)
has_in (member ∷ set) (suc k) node h e = or_right (eqb member node) (is_in set node) (has_in set k node (omega arith) e)

in_or : (a b : Bool) → (a || b) ≡ true → (a ≡ true) ⊎ (b ≡ true)
in_or true b e = inl refl
in_or false b e = inr e

pub in_has : (set : List ℕ) (node : ℕ) → is_in set node ≡ true → (k : ℕ) × (k < length set) × (get_or set k 0 ≡ node)
in_has [] node e = absurd (true≢false (sym e))
in_has (member ∷ set) node e = elim (in_or (eqb member node) (is_in set node) e) [
  | inl here ↦ (0, omega arith, eqb-true member node here)
  | inr later ↦ (let h = in_has set node later in let l : h.0 < length set = h.1 in (suc h.0, omega arith, h.2))
]
