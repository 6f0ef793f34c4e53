-- A graph goes on: what is live after a change was live before it, or has a number that had been
-- given to nothing.
use Rattle.std.proofs.Common.{ℕ, ◌+◌, ◌<◌, ◌≤◌, Bool, true, false, cond, List, [], ◌∷◌, ◌++◌, filter, Option, Some, None, ◌⊎◌, inl, inr, arith}
use Rattle.std.specs.Prelude.{nat_lt, not, ◌==◌}
use Rattle.graph_defs.specs.declared.plain.PlainEdge.{PlainEdge}
use Rattle.graph_defs.specs.declared.plain.PlainGraph.{PlainGraph}
use Rattle.graph_state.specs.declared.kind.Side.{Side}
use Rattle.graph_state.specs.declared.kind.Side.TheVariants.{Before, Behind}
use Rattle.graph_state.specs.State.{GraphState, new_graph, visible_edges}
use Rattle.graph_state.specs.Names.{Has, first_of}
use Rattle.graph_state.specs.Beside.{with_edge_beside}
use Rattle.graph_state.specs.Built.{bare, with_nodes, paired_back, with_plain_edge, with_plain_edges, built}
use Rattle.graph_state.specs.Edits.{with_node, with_edge, with_edge_before, with_edge_behind, without_edge, without_edges, without_node, has_end, paired, moved, reversed, all_reversed, made_undirected, made_directed, cleared, with_node_label, with_edge_label, edge_hidden, edge_restored, node_hidden, node_restored, all_restored}
use Rattle.graph_state.proofs.Has.{has_last, has_filter}
use Rattle.graph_core.specs.Opposite.{can_pair}
use Rattle.graph_rev.specs.Pairing.{lacks_reversal, pair_if, pair_first, pair_each, map_made}

-- of one sort: no fewer were made, and what is live was live, or has a greater number than any that
-- was given
pub record Follows (live : List ℕ) (made : ℕ) (next : List ℕ) (more : ℕ) : Type 0 where
  pub given : made ≤ more
  pub older : (n : ℕ) → Has n next → Has n live ⊎ (made < n)

stay : (live : List ℕ) (made : ℕ) → Follows live made live made
stay live made = record { given = omega arith; older = λ n i. inl i }

fewer : (live : List ℕ) (made : ℕ) (p : ℕ → Bool) → Follows live made (filter p live) made
fewer live made p = record { given = omega arith; older = λ n i. inl (has_filter p n live i).0 }

none : (live : List ℕ) (made : ℕ) → Follows live made [] made
none live made = record { given = omega arith; older = λ n i. absurd i }

more : (live : List ℕ) (made : ℕ) → Follows live made (live ++ (made + 1) ∷ []) (made + 1)
more live made = record {
  given = omega arith;
  older = λ n i. elim (has_last n (made + 1) live i) [
    | inl old ↦ inl old
    | inr new ↦ inr (omega (arith, new))
  ];
}

on : (a b c : List ℕ) (i j k : ℕ) → Follows a i b j → Follows b j c k → Follows a i c k
on a b c i j k f g = record {
  given = omega (arith, f.given, g.given);
  older = λ n h. elim (g.older n h) [
    | inl old ↦ f.older n old
    | inr new ↦ inr (omega (arith, f.given, new))
  ];
}

-- of nodes and of edges
abbrev pub GoesOn : GraphState → GraphState → Type 0
GoesOn s t = Follows s.nodes s.made_nodes t.nodes t.made_nodes
    × Follows s.edges s.made_edges t.edges t.made_edges

pub stays : (s : GraphState) → GoesOn s s
stays s = (stay s.nodes s.made_nodes, stay s.edges s.made_edges)

pub goes_on : (s t u : GraphState) → GoesOn s t → GoesOn t u → GoesOn s u
goes_on s t u f g = (
  on s.nodes t.nodes u.nodes s.made_nodes t.made_nodes u.made_nodes f.0 g.0,
  on s.edges t.edges u.edges s.made_edges t.made_edges u.made_edges f.1 g.1,
)

either : (b : Bool) (s t u : GraphState) → GoesOn s t → GoesOn s u → GoesOn s (cond b t u)
either true s t u f g = f
either false s t u f g = g

module _ (s : GraphState) where
  pub node_more : (label : List ℕ) → GoesOn s (with_node label s)
  unfolding with_node
  node_more label = (more s.nodes s.made_nodes, stay s.edges s.made_edges)

  pub edge_more : (v w : ℕ) (label : List ℕ) → GoesOn s (with_edge v w label s)
  unfolding with_edge
  edge_more v w label = (stay s.nodes s.made_nodes, more s.edges s.made_edges)

  pub edge_beside : (side : Side) (e w : ℕ) (label : List ℕ) → GoesOn s (with_edge_beside side e w label s)
  unfolding with_edge_before with_edge_behind
  edge_beside Before e w label = (stay s.nodes s.made_nodes, more s.edges s.made_edges)
  edge_beside Behind e w label = (stay s.nodes s.made_nodes, more s.edges s.made_edges)

  pub edge_less : (e : ℕ) → GoesOn s (without_edge e s)
  unfolding without_edge
  edge_less e = (stay s.nodes s.made_nodes, fewer s.edges s.made_edges (λ k. not (k == e)))

  pub emptied : GoesOn s (cleared s)
  unfolding cleared
  emptied = (none s.nodes s.made_nodes, none s.edges s.made_edges)

  -- the lists and the numbers that were given stay
  pub edge_moved : (e v w : ℕ) → GoesOn s (moved e v w s)
  unfolding moved
  edge_moved e v w = stays s

  pub edge_reversed : (e : ℕ) → GoesOn s (reversed e s)
  unfolding reversed
  edge_reversed e = edge_moved e _ _

  pub edges_reversed : GoesOn s (all_reversed s)
  unfolding all_reversed
  edges_reversed = stays s

  pub undirected : GoesOn s (made_undirected s)
  unfolding made_undirected
  undirected = either s.directed s _ _ (stays s) (stays s)

  pub directed : GoesOn s (made_directed s)
  unfolding made_directed
  directed = either s.directed s _ _ (stays s) (stays s)

  pub node_labelled : (v : ℕ) (label : List ℕ) → GoesOn s (with_node_label v label s)
  unfolding with_node_label
  node_labelled v label = stays s

  pub edge_labelled : (e : ℕ) (label : List ℕ) → GoesOn s (with_edge_label e label s)
  unfolding with_edge_label
  edge_labelled e label = stays s

  pub two_paired : (e f : ℕ) → GoesOn s (paired e f s)
  unfolding paired
  two_paired e f = stays s

  pub edge_hides : (e : ℕ) → GoesOn s (edge_hidden e s)
  unfolding edge_hidden
  edge_hides e = stays s

  pub edge_shows : (e : ℕ) → GoesOn s (edge_restored e s)
  unfolding edge_restored
  edge_shows e = stays s

  pub node_hides : (v : ℕ) → GoesOn s (node_hidden v s)
  unfolding node_hidden
  node_hides v = stays s

  pub node_shows : (v : ℕ) → GoesOn s (node_restored v s)
  unfolding node_restored
  node_shows v = stays s

  pub all_show : GoesOn s (all_restored s)
  unfolding all_restored
  all_show = stays s

-- one edge after the other goes, and then the node
edges_less : (es : List ℕ) (s : GraphState) → GoesOn s (without_edges es s)
unfolding without_edges
edges_less [] s = stays s
edges_less (e ∷ es) s =
    goes_on s (without_edge e s) (without_edges es (without_edge e s)) (edge_less s e) (edges_less es (without_edge e s))

pub node_less : (v : ℕ) (s : GraphState) → GoesOn s (without_node v s)
unfolding without_node
node_less v s =
    let t = without_edges (filter (has_end s v) s.edges) s in
    goes_on s t (without_node v s) (edges_less (filter (has_end s v) s.edges) s)
    (fewer t.nodes t.made_nodes (λ k. not (k == v)), stay t.edges t.made_edges)

-- one edge after the other is paired
if_paired : (e : ℕ) (f : Option ℕ) (s : GraphState) → GoesOn s (pair_if e f s)
if_paired e None s = stays s
if_paired e (Some f) s = two_paired s e f

each_paired : (es : List ℕ) (s : GraphState) → GoesOn s (pair_each es s)
unfolding pair_each
each_paired [] s = stays s
each_paired (e ∷ es) s =
    goes_on s (pair_first e es s) (pair_each es (pair_first e es s))
    (either (lacks_reversal s e) s (pair_if e (first_of (filter (can_pair s e) es)) s) s
    (if_paired e (first_of (filter (can_pair s e) es)) s) (stays s))
    (each_paired es (pair_first e es s))

pub all_paired : (s : GraphState) → GoesOn s (map_made s)
unfolding map_made
all_paired s = each_paired (visible_edges s) s

-- a plain graph comes in behind all numbers that were given
nodes_more : (labels : List (List ℕ)) (s : GraphState) → GoesOn s (with_nodes labels s)
unfolding with_nodes
nodes_more [] s = stays s
nodes_more (label ∷ labels) s =
    goes_on s (with_node label s) (with_nodes labels (with_node label s)) (node_more s label)
    (nodes_more labels (with_node label s))

paired_more : (edges : ℕ) (rev : Option ℕ) (s : GraphState) → GoesOn s (paired_back edges rev s)
paired_more edges None s = stays s
paired_more edges (Some r) s =
    either (nat_lt (edges + r + 1) s.made_edges) s (paired s.made_edges (edges + r + 1) s) s
    (two_paired s s.made_edges (edges + r + 1)) (stays s)

plain_more : (nodes edges : ℕ) (e : PlainEdge) (s : GraphState) → GoesOn s (with_plain_edge nodes edges e s)
unfolding with_plain_edge
plain_more nodes edges e s =
    let t = with_edge (nodes + e.from + 1) (nodes + e.to + 1) e.label s in
    goes_on s t (paired_back edges e.rev t) (edge_more s (nodes + e.from + 1) (nodes + e.to + 1) e.label)
    (paired_more edges e.rev t)

edges_more : (nodes edges : ℕ) (es : List PlainEdge) (s : GraphState) → GoesOn s (with_plain_edges nodes edges es s)
unfolding with_plain_edges
edges_more nodes edges [] s = stays s
edges_more nodes edges (e ∷ es) s =
    goes_on s (with_plain_edge nodes edges e s) (with_plain_edges nodes edges es (with_plain_edge nodes edges e s))
    (plain_more nodes edges e s) (edges_more nodes edges es (with_plain_edge nodes edges e s))

pub built_more : (s : GraphState) (g : PlainGraph) → GoesOn s (built g s.made_nodes s.made_edges)
unfolding new_graph
built_more s g =
    let t = bare g s.made_nodes s.made_edges in
    let u = with_nodes g.nodes t in
    let v = built g s.made_nodes s.made_edges in
    goes_on s t v (none s.nodes s.made_nodes, none s.edges s.made_edges)
    (goes_on t u v (nodes_more g.nodes t) (edges_more s.made_nodes s.made_edges g.edges u))
