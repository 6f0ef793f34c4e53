-- The visible graph as a net.
use Rattle.std.specs.Prelude.{◌≡◌, ℕ, ◌+◌, ◌<◌, ◌==◌, cond, List, [], ◌∷◌, map, length, slice_index}
use Rattle.graph_defs.specs.declared.net.Net.{Net}
use Rattle.graph_defs.specs.Net.{Ends}
use Rattle.graph_state.specs.declared.item.NodeItem.{NodeItem}
use Rattle.graph_state.specs.declared.item.EdgeItem.{EdgeItem}
use Rattle.graph_state.specs.State.{GraphState, source, target, visible_nodes, visible_edges}

-- the numbers of items
abbrev pub numbers_of_nodes : List NodeItem → List ℕ
numbers_of_nodes vs = map (λ (v : NodeItem). v.0.serial) vs

abbrev pub numbers_of_edges : List EdgeItem → List ℕ
numbers_of_edges es = map (λ (e : EdgeItem). e.0.serial) es

-- which node of the graph each node of the net is, and which edge each arc
abbrev pub node_numbers : GraphState → List ℕ
node_numbers s = visible_nodes s

abbrev pub edge_numbers : GraphState → List ℕ
edge_numbers s = visible_edges s

-- the place of a number in a list, and past its end where it isn't there
abbrev pub place_of : ℕ → List ℕ → ℕ
place_of v [] = 0
place_of v (w ∷ ws) = cond (w == v) 0 (place_of v ws + 1)

-- the arc that stands for an edge
abbrev pub arc_of : GraphState → ℕ → Ends
arc_of s e = (place_of (source s e) (node_numbers s), place_of (target s e) (node_numbers s))

-- the visible nodes and edges, numbered in the order of their lists
unfoldable pub shown_net : GraphState → Net
shown_net s = record {
  n = length (node_numbers s);
  arcs = map (arc_of s) (edge_numbers s);
}

-- the table has the places of the first k numbers of the list
pub record HavePlaces (numbers : List ℕ) (most k : ℕ) (table : List ℕ) : Type 0 where
  pub long : length table ≡ most + 1
  pub stand : (i : ℕ) → i < k → slice_index table (slice_index numbers i) ≡ i

-- it has those of all of them
pub record ArePlaces (numbers table : List ℕ) : Type 0 where
  pub below : (i : ℕ) → i < length numbers → slice_index numbers i < length table
  pub stand : (i : ℕ) → i < length numbers → slice_index table (slice_index numbers i) ≡ i
