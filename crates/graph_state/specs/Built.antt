-- The graph that a plain graph describes, in place of another one.
use Rattle.std.specs.Prelude.{ℕ, ◌+◌, ◌≤◌, nat_lt, if◌then◌else◌, List, [], ◌∷◌, length, codes, bytes_eq, Option, Some, None}
use Rattle.item_pool.specs.declared.pool.TheConstants.{MOST_SERIALS}
use Rattle.graph_defs.specs.declared.plain.PlainEdge.{PlainEdge}
use Rattle.graph_defs.specs.declared.plain.PlainGraph.{PlainGraph}
use Rattle.graph_state.specs.declared.refusal.EditRefusal.{EditRefusal}
use Rattle.graph_state.specs.declared.refusal.EditRefusal.TheVariants as edits
use Rattle.graph_state.specs.State.{GraphState, new_graph}
use Rattle.graph_state.specs.Edits.{with_node, with_edge, paired}

-- a type of labels as a state has it, without bytes where it is `void`
abbrev pub kept_type : List ℕ → List ℕ
kept_type name = if bytes_eq name (codes "void") then [] else name

-- no nodes and no edges, of the kind and with the types of the plain graph, behind so many
abbrev pub bare : PlainGraph → ℕ → ℕ → GraphState
bare g nodes edges = new_graph g.directed (kept_type g.node_type) (kept_type g.edge_type)
    nodes edges

-- a new node for each of the labels, in their order
unfoldable pub with_nodes : List (List ℕ) → GraphState → GraphState
with_nodes [] s = s
with_nodes (label ∷ labels) s = with_nodes labels (with_node label s)

-- the newest edge is paired with the edge of this number, if there is one and it came before it
abbrev pub paired_back : ℕ → Option ℕ → GraphState → GraphState
paired_back edges None s = s
paired_back edges (Some r) s =
    if nat_lt (edges + r + 1) s.made_edges then paired s.made_edges (edges + r + 1) s else s

-- A new edge, where the node of place k has the number `nodes + k + 1`, and the edge of place k the
-- number `edges + k + 1`. It is paired with its reversal where that came before it.
unfoldable pub with_plain_edge : ℕ → ℕ → PlainEdge → GraphState → GraphState
with_plain_edge nodes edges e s = paired_back edges e.rev
    (with_edge (nodes + e.from + 1) (nodes + e.to + 1) e.label s)

-- so for each of the edges, in their order
unfoldable pub with_plain_edges : ℕ → ℕ → List PlainEdge → GraphState → GraphState
with_plain_edges nodes edges [] s = s
with_plain_edges nodes edges (e ∷ es) s =
    with_plain_edges nodes edges es (with_plain_edge nodes edges e s)

-- the graph that the plain graph describes, behind so many nodes and edges that were made
abbrev pub built : PlainGraph → ℕ → ℕ → GraphState
built g nodes edges =
    with_plain_edges nodes edges g.edges (with_nodes g.nodes (bare g nodes edges))

-- there are numbers for its nodes and edges
abbrev pub HasNumbers : PlainGraph → GraphState → Type 0
HasNumbers g s = (s.made_nodes + length g.nodes ≤ MOST_SERIALS)
    × (s.made_edges + length g.edges ≤ MOST_SERIALS)

-- why it doesn't take the place of the graph
abbrev pub RefusesPlain : PlainGraph → GraphState → EditRefusal → Type 0
RefusesPlain g s (edits.Gone x why) = ⊥
RefusesPlain g s (edits.Hidden x) = ⊥
RefusesPlain g s edits.FullNodes = ⊥
RefusesPlain g s edits.FullEdges = ⊥
RefusesPlain g s edits.Spent = HasNumbers g s → ⊥
RefusesPlain g s edits.NoMemory = HasNumbers g s
