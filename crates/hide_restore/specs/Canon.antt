-- The visible graph as a plain graph.
use Rattle.std.specs.Prelude.{ℕ, ◌==◌, Bool, not, if◌then◌else◌, List, map, filter, length, codes, option_map}
use Rattle.std.specs.List.{list_all, flat_map}
use Rattle.graph_defs.specs.declared.dart.Dart.{Dart}
use Rattle.graph_defs.specs.declared.plain.PlainEdge.{PlainEdge}
use Rattle.graph_defs.specs.declared.plain.PlainGraph.{PlainGraph}
use Rattle.graph_state.specs.State.{GraphState, source, target, node_label, edge_label, visible_nodes, visible_out}
use Rattle.graph_state.specs.Reversals.{visible_reversal}
use Rattle.hide_restore.specs.Net.{place_of}

-- the edges of the front darts
abbrev pub fronts : List Dart → List ℕ
fronts ds = map (λ (d : Dart). d.edge) (filter (λ (d : Dart). not d.back) ds)

-- the visible edges that begin at a node, by their places in its out list
abbrev pub edges_from : GraphState → ℕ → List ℕ
edges_from s v = fronts (visible_out s v)

-- the visible edges, by the places of their sources and then by their places in the out list
abbrev pub ordered_edges : GraphState → List ℕ
ordered_edges s = flat_map (edges_from s) (visible_nodes s)

-- an edge, with its ends by their places among the visible nodes and its reversal, where it has one
-- that is visible, by its place among the edges
abbrev pub plain_edge : GraphState → List ℕ → ℕ → PlainEdge
plain_edge s edges e = record {
  from = place_of (source s e) (visible_nodes s);
  to = place_of (target s e) (visible_nodes s);
  rev = option_map (λ f. place_of f edges) (visible_reversal s e);
  label = edge_label s e;
}

abbrev pub is_empty : List ℕ → Bool
is_empty label = length label == 0

-- A type of labels as a file names it. Without bytes it is `void`, but `string` where some label
-- isn't empty.
abbrev pub file_type : Bool → List ℕ → List ℕ
file_type are_empty name =
    if is_empty name then (if are_empty then codes "void" else codes "string") else name

-- the labels of the visible nodes in their order
abbrev pub plain_nodes : GraphState → List (List ℕ)
plain_nodes s = map (node_label s) (visible_nodes s)

abbrev pub plain_edges : GraphState → List PlainEdge
plain_edges s = map (plain_edge s (ordered_edges s)) (ordered_edges s)

-- the visible graph, as a file has it
unfoldable pub plain_of : GraphState → PlainGraph
plain_of s = record {
  directed = s.directed;
  node_type = file_type (list_all is_empty (plain_nodes s)) s.node_type;
  edge_type =
      file_type (list_all (λ (e : PlainEdge). is_empty e.label) (plain_edges s)) s.edge_type;
  nodes = plain_nodes s;
  edges = plain_edges s;
}
