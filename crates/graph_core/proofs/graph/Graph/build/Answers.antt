use Rattle.std.proofs.Common.{◌≡◌, ◌+◌, ℕ, ◌<◌, ◌≤◌, List, [], ◌∷◌, length, sym, ap, subst, ◌∙◌}
use Rattle.leda_base.specs.declared.name.ItemName.TheVariants as names
use Rattle.graph_defs.specs.declared.plain.PlainGraph.{PlainGraph}
use Rattle.graph_defs.specs.Plain.{IsPlainGraph, is_void}
use Rattle.graph_state.specs.State.{GraphState, new_graph}
use Rattle.graph_state.specs.Formed.{IsKeptType}
use Rattle.graph_state.specs.Refusals.{AreVisible}
use Rattle.graph_state.specs.Built.{kept_type, bare, with_nodes, with_plain_edges}
use Rattle.graph_state.proofs.Built.{type_kept, nodes_visible, edges_made}
use Rattle.graph_core.specs.Replaces.{CanBuild}
use Rattle.graph_core.proofs.Replaces.{labels_are}
use Rattle.graph_core.proofs.graph.Graph.build.Goals as goal

-- edges can come in behind the nodes
can_build : (g : PlainGraph) (nodes edges : ℕ) (s : GraphState) → IsPlainGraph g → nodes ≤ 16777215 → edges ≤ 16777215 → s ≡ with_nodes g.nodes (bare g nodes edges) → CanBuild s nodes g.edges
can_build g nodes edges s is few_nodes few_edges at = record {
  count = length g.nodes;
  void = is_void g.edge_type;
  few = (is.few_nodes, is.few_edges);
  given = (few_nodes, subst (λ n. n ≤ 16777215) (sym (ap (λ (s : GraphState). s.made_edges) at ∙ edges_made g nodes edges)) few_edges);
  visible = λ k low. subst (λ (s : GraphState). AreVisible s (names.Node (nodes + k + 1) ∷ [])) (sym at) (nodes_visible g nodes edges k low);
  edges = is.edges;
  pairs = is.pairs;
}

pub begin-graph-requires-clause-types : goal.begin-graph-requires-clause-types
begin-graph-requires-clause-types c = (
  subst IsKeptType (sym c.kept_type.ensures) (type_kept c.args.plain.node_type c.requires.plain.node_type),
  subst IsKeptType (sym c.kept_type-2.ensures) (type_kept c.args.plain.edge_type c.requires.plain.edge_type),
)

pub add_nodes-requires : goal.add_nodes-requires
add_nodes-requires c = labels_are (is_void c.args.plain.node_type) c.args.plain.nodes c.requires.plain.nodes

-- the graph that the nodes come into
begun : (g : PlainGraph) (v e : List ℕ) (nodes edges : ℕ) → v ≡ kept_type g.node_type → e ≡ kept_type g.edge_type → new_graph g.directed v e nodes edges ≡ bare g nodes edges
begun g v e nodes edges is-v is-e = ap (λ v. new_graph g.directed v e nodes edges) is-v ∙ ap (λ e. new_graph g.directed (kept_type g.node_type) e nodes edges) is-e

pub add_edges-requires : goal.add_edges-requires
add_edges-requires c =
    let g = c.args.plain in
    let empty = c.begin-graph.ensures ∙ begun g c.kept_type.result c.kept_type-2.result c.args.made_nodes c.args.made_edges c.kept_type.ensures c.kept_type-2.ensures in
    can_build g c.args.made_nodes c.args.made_edges c.add_nodes.new.self c.requires.plain c.requires.nodes c.requires.edges
    (c.in_ok-add_nodes.ensures ∙ ap (with_nodes g.nodes) empty)

pub returns : goal.returns
returns c =
    let g = c.args.plain in
    let v = c.args.made_nodes in
    let e = c.args.made_edges in
    let empty = c.begin-graph.ensures ∙ begun g c.kept_type.result c.kept_type-2.result v e c.kept_type.ensures c.kept_type-2.ensures in
    let nodes = c.in_ok-add_nodes.ensures ∙ ap (with_nodes g.nodes) empty in
    c.in_ok-add_edges.ensures
    ∙ ap (λ n. with_plain_edges v n g.edges c.add_nodes.new.self) (ap (λ (s : GraphState). s.made_edges) nodes ∙ edges_made g v e)
    ∙ ap (with_plain_edges v e g.edges) nodes
