-- Sets of nodes: lists in the order of the nodes, with a test that computes; the arcs that leave or
-- enter a set; cuts.
use Rattle.std.specs.Prelude.{◌≡◌, ℕ, ◌<◌, Bool, true, false, not, ◌&&◌, ◌==◌, List, All}
use Rattle.std.specs.List.{list_any}
use Rattle.std.specs.List.Sorted.{IsStrictlyIncreasing}
use Rattle.graph_defs.specs.declared.net.Net.{Net}
use Rattle.graph_defs.specs.Net.{source, target}

-- whether a node is in a set
abbrev pub is_in : List ℕ → ℕ → Bool
is_in set node = list_any (λ member. member == node) set

-- nodes below n in their order, so each once
pub record IsNodeSet (n : ℕ) (set : List ℕ) : Type 0 where
  pub order : IsStrictlyIncreasing set
  pub among : All (λ node. node < n) set

-- an arc begins inside a set and ends outside of it, or the other way round
abbrev pub leaves : Net → (ℕ → Bool) → ℕ → Bool
leaves net inside arc = inside (source net arc) && not (inside (target net arc))

abbrev pub enters : Net → (ℕ → Bool) → ℕ → Bool
enters net inside arc = inside (target net arc) && not (inside (source net arc))

-- a set of nodes with s and without t
pub record IsCut (n s t : ℕ) (set : List ℕ) : Type 0 where
  pub nodes : IsNodeSet n set
  pub has : is_in set s ≡ true
  pub lacks : is_in set t ≡ false
