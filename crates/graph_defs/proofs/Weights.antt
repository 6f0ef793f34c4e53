-- Walks of a net and their weights.
use Rattle.std.proofs.Common.{◌≡◌, ℕ, zero, suc, ◌+◌, ◌<◌, ℤ, pos, negsuc, ◌+ℤ◌, ◌≤ℤ◌, ◌<ℤ◌, List, [], ◌∷◌, ◌++◌, length, take, get_or, arith}
use borrow.Author.Differences.{ints}
use Rattle.graph_defs.specs.declared.net.Net.{Net}
use Rattle.graph_defs.specs.Net.{source, target}
use Rattle.graph_defs.specs.Sum.{at}
use Rattle.graph_defs.specs.Walk.{IsWalk}
use Rattle.graph_defs.specs.Shortest.{weight}
use Rattle.graph_defs.proofs.Walks.{walk_append, walk_push, walk_take, walk_end}

module _ (net : Net) where
  pub arcs_append : (u v w : ℕ) (xs ys : List ℕ) → IsWalk net u v xs → IsWalk net v w ys → IsWalk net u w (xs ++ ys)
  arcs_append u v w xs ys h g = walk_append (λ arc. arc < length net.arcs) (source net) (target net) u v w xs ys h g

  pub arcs_push : (u v arc : ℕ) (xs : List ℕ) → IsWalk net u v xs → arc < length net.arcs → source net arc ≡ v → IsWalk net u (target net arc) (xs ++ arc ∷ [])
  arcs_push u v arc xs h b e = walk_push (λ a. a < length net.arcs) (source net) (target net) u v arc xs h b e

  pub arcs_take : (u w : ℕ) (xs : List ℕ) (k : ℕ) → IsWalk net u w xs → k < length xs → IsWalk net u (source net (get_or xs k 0)) (take k xs)
  arcs_take u w xs k h l = walk_take (λ arc. arc < length net.arcs) (source net) (target net) u w xs k h l

  pub arcs_end : (u v w : ℕ) (xs : List ℕ) → IsWalk net u v xs → IsWalk net u w xs → v ≡ w
  arcs_end u v w xs h g = walk_end (λ arc. arc < length net.arcs) (source net) (target net) u v w xs h g

pub weight_append : (cost : List ℤ) (xs ys : List ℕ) → weight cost (xs ++ ys) ≡ (weight cost xs +ℤ weight cost ys)
weight_append cost [] ys = omega (arith, ints)
weight_append cost (arc ∷ xs) ys = let h = weight_append cost xs ys in omega (arith, ints)

pub weight_push : (cost : List ℤ) (xs : List ℕ) (arc : ℕ) → weight cost (xs ++ arc ∷ []) ≡ (weight cost xs +ℤ at cost arc)
weight_push cost xs arc = let h = weight_append cost xs (arc ∷ []) in omega (arith, ints)

-- a closed walk of negative weight, gone round so many times
pub pumped : (net : Net) (cost : List ℤ) (s v : ℕ) (walk cycle : List ℕ) → IsWalk net s v walk → IsWalk net v v cycle → weight cost cycle <ℤ pos 0
    → (m : ℕ) → (more : List ℕ) × IsWalk net s v more × ((weight cost more +ℤ pos m) ≤ℤ weight cost walk)
pumped net cost s v walk cycle h c neg zero = (walk, h, omega (arith, ints))
pumped net cost s v walk cycle h c neg (suc m) =
    let p = pumped net cost s v walk cycle h c neg m in
    let w = weight_append cost p.0 cycle in
    let l : (weight cost p.0 +ℤ pos m) ≤ℤ weight cost walk = p.2 in
    (p.0 ++ cycle, arcs_append net s v v p.0 cycle p.1 c, omega (arith, ints))

-- a natural number by which one integer rises above another
pub beyond : (x z : ℤ) → (m : ℕ) × (x <ℤ (z +ℤ pos m))
beyond (pos a) (pos b) = (a + 1, omega (arith, ints))
beyond (pos a) (negsuc b) = (a + b + 2, omega (arith, ints))
beyond (negsuc a) (pos b) = (0, omega (arith, ints))
beyond (negsuc a) (negsuc b) = (b + 1, omega (arith, ints))
