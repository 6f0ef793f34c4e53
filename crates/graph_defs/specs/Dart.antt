-- Darts: the two halves of each edge, at its two ends; walks that go along edges either way.
use Rattle.std.specs.Prelude.{ℕ, zero, suc, ◌+◌, ◌*◌, ◌≤◌, cond, List, [], ◌∷◌}
use Rattle.graph_defs.specs.declared.dart.Dart.{Dart}
use Rattle.graph_defs.specs.declared.net.Net.{Net}
use Rattle.graph_defs.specs.Net.{Ends}
use Rattle.graph_defs.specs.Count.{times}
use Rattle.graph_defs.specs.Walk.{IsWalkBy}

-- the number of a dart: 2e for the front dart of edge e, 2e + 1 for its back dart
abbrev pub dart_number : Dart → ℕ
dart_number dart = 2 * dart.edge + cond dart.back 1 0

-- the other dart of the same edge
abbrev pub opposite : ℕ → ℕ
opposite zero = 1
opposite (suc zero) = 0
opposite (suc (suc dart)) = suc (suc (opposite dart))

-- the edge of a dart
abbrev pub edge_of : ℕ → ℕ
edge_of zero = 0
edge_of (suc zero) = 0
edge_of (suc (suc dart)) = suc (edge_of dart)

-- the node that a dart begins at: the source of the arc for the front dart, its target for the back
abbrev pub origin_in : List Ends → ℕ → ℕ
origin_in [] dart = 0
origin_in (arc ∷ arcs) zero = arc.0
origin_in (arc ∷ arcs) (suc zero) = arc.1
origin_in (arc ∷ arcs) (suc (suc dart)) = origin_in arcs dart

abbrev pub origin : Net → ℕ → ℕ
origin net = origin_in net.arcs

-- one dart more: `among` is 1 on the darts that are there and else 0
abbrev pub with_dart : (ℕ → ℕ) → ℕ → ℕ → ℕ
with_dart among dart x = times x (dart ∷ []) + among x

-- the darts of some edges
abbrev pub darts_of : List ℕ → ℕ → ℕ
darts_of [] x = 0
darts_of (edge ∷ edges) x = with_dart (with_dart (darts_of edges) (2 * edge)) (2 * edge + 1) x

-- a walk along darts that are there: each leads from its origin to that of its opposite
abbrev pub IsTrail : (ℕ → ℕ) → (ℕ → ℕ) → ℕ → ℕ → List ℕ → Type 0
IsTrail among origin v w darts =
    IsWalkBy (λ dart. 1 ≤ among dart) origin (λ dart. origin (opposite dart)) v w darts

-- the numbers below m, the greatest first
abbrev pub numbers_below : ℕ → List ℕ
numbers_below zero = []
numbers_below (suc m) = m ∷ numbers_below m
