-- Darts, their opposites and their edges, and where they stand.
use Rattle.std.proofs.Common.{◌≡◌, ℕ, zero, suc, ◌*◌, List, [], ◌∷◌, get_or, refl, sym, ◌∙◌, ap, arith}
use Rattle.graph_defs.specs.declared.net.Net.{Net}
use Rattle.graph_defs.specs.Net.{Ends, source, target}
use Rattle.graph_defs.specs.Dart.{opposite, edge_of, origin_in, origin}

pub opposite_twice : (x : ℕ) → opposite (opposite x) ≡ x
opposite_twice zero = refl
opposite_twice (suc zero) = refl
opposite_twice (suc (suc x)) = ap (λ (y : ℕ). suc (suc y)) (opposite_twice x)

pub opposite_differs : (x : ℕ) → opposite x ≡ x → ⊥
opposite_differs zero e = absurd (omega arith)
opposite_differs (suc zero) e = absurd (omega arith)
opposite_differs (suc (suc x)) e = opposite_differs x (omega arith)

pub edge_of_opposite : (x : ℕ) → edge_of (opposite x) ≡ edge_of x
edge_of_opposite zero = refl
edge_of_opposite (suc zero) = refl
edge_of_opposite (suc (suc x)) = ap suc (edge_of_opposite x)

-- an even number and the next one are the darts of one edge
double_suc : (e : ℕ) → 2 * suc e ≡ suc (suc (2 * e))
double_suc e = omega arith

pub edge_of_front : (e : ℕ) → edge_of (2 * e) ≡ e
edge_of_front zero = refl
edge_of_front (suc e) = ap edge_of (double_suc e) ∙ ap suc (edge_of_front e)

pub edge_of_back : (e : ℕ) → edge_of (suc (2 * e)) ≡ e
edge_of_back zero = refl
edge_of_back (suc e) = ap (λ (x : ℕ). edge_of (suc x)) (double_suc e) ∙ ap suc (edge_of_back e)

pub opposite_front : (e : ℕ) → opposite (2 * e) ≡ suc (2 * e)
opposite_front zero = refl
opposite_front (suc e) = ap opposite (double_suc e) ∙ ap (λ (x : ℕ). suc (suc x)) (opposite_front e) ∙ ap suc (sym (double_suc e))

pub opposite_back : (e : ℕ) → opposite (suc (2 * e)) ≡ 2 * e
opposite_back e = ap opposite (sym (opposite_front e)) ∙ opposite_twice (2 * e)

-- where the darts of an arc stand
origin_in_front : (arcs : List Ends) (e : ℕ) → origin_in arcs (2 * e) ≡ (get_or arcs e (0, 0)).0
origin_in_front [] e = refl
origin_in_front (arc ∷ arcs) zero = refl
origin_in_front (arc ∷ arcs) (suc e) = ap (origin_in (arc ∷ arcs)) (double_suc e) ∙ origin_in_front arcs e

origin_in_back : (arcs : List Ends) (e : ℕ) → origin_in arcs (suc (2 * e)) ≡ (get_or arcs e (0, 0)).1
origin_in_back [] e = refl
origin_in_back (arc ∷ arcs) zero = refl
origin_in_back (arc ∷ arcs) (suc e) = ap (λ (x : ℕ). origin_in (arc ∷ arcs) (suc x)) (double_suc e) ∙ origin_in_back arcs e

pub origin_front : (net : Net) (arc : ℕ) → origin net (2 * arc) ≡ source net arc
origin_front net arc = origin_in_front net.arcs arc

pub origin_back : (net : Net) (arc : ℕ) → origin net (suc (2 * arc)) ≡ target net arc
origin_back net arc = origin_in_back net.arcs arc
