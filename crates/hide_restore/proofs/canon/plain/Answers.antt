-- The places are those of the visible nodes and edges.
use Rattle.std.proofs.Common.{◌≤◌, map, length, sym, ap, subst, ◌∙◌, arith}
use Rattle.std.specs.List.{list_all, flat_map}
use Rattle.graph_defs.specs.declared.plain.PlainEdge.{PlainEdge}
use Rattle.graph_defs.specs.Plain.{IsPlainGraph}
use Rattle.graph_state.specs.State.{node_label}
use Rattle.graph_state.specs.Names.{Has, IsOnce}
use Rattle.hide_restore.specs.Net.{numbers_of_nodes}
use Rattle.hide_restore.specs.Canon.{edges_from, ordered_edges, plain_edge, is_empty, file_type}
use Rattle.hide_restore.proofs.Visible.{count_nodes, nodes_once, nodes_below, nodes_few, node_seen}
use Rattle.hide_restore.proofs.Ordered.{edges_differ, ordered_few, ordered_below, plain_is}
use Rattle.hide_restore.proofs.Valid.{plain_valid}
use Rattle.hide_restore.proofs.canon.plain.Goals as goal

pub edges_of-requires : goal.edges_of-requires
edges_of-requires c v i =
    node_seen c.args.g.now v (subst (Has v) (ap numbers_of_nodes c.as_slice.ensures ∙ c.in_ok-nodes.ensures) i)

pub labels_of-requires : goal.labels_of-requires
labels_of-requires c v i =
    node_seen c.args.g.now v (subst (Has v) (ap numbers_of_nodes c.as_slice-2.ensures ∙ c.in_ok-nodes.ensures) i)

pub of-requires-clause-most : goal.of-requires-clause-most
of-requires-clause-most c v i =
    let same = ap numbers_of_nodes c.as_slice-3.ensures ∙ c.in_ok-nodes.ensures in
    subst (λ m. v ≤ m) (sym c.made_nodes-made.ensures.made) (nodes_below c.args.g.now c.made_nodes-made.ensures.formed v (subst (Has v) same i))

pub of-requires-clause-once : goal.of-requires-clause-once
of-requires-clause-once c =
    let same = ap numbers_of_nodes c.as_slice-3.ensures ∙ c.in_ok-nodes.ensures in
    subst IsOnce (sym same) (nodes_once c.args.g.now c.made_nodes-made.ensures.formed)

pub of-requires-clause-few : goal.of-requires-clause-few
of-requires-clause-few c =
    let same = ap numbers_of_nodes c.as_slice-3.ensures ∙ c.in_ok-nodes.ensures in
    let few = nodes_few c.args.g.now c.made_nodes-made.ensures.formed in
    let count = count_nodes c.as_slice-3.result.now c.args.g.now same in
    omega (arith, few, count)

pub of_numbers-requires-clause-most : goal.of_numbers-requires-clause-most
of_numbers-requires-clause-most c v i =
    let order = c.in_ok-order.ensures ∙ ap (flat_map (edges_from c.args.g.now)) (ap numbers_of_nodes c.as_slice.ensures ∙ c.in_ok-nodes.ensures) in
    subst (λ m. v ≤ m) (sym c.made_edges.ensures) (ordered_below c.args.g.now c.made_nodes-made.ensures.formed v (subst (Has v) order i))

pub of_numbers-requires-clause-once : goal.of_numbers-requires-clause-once
of_numbers-requires-clause-once c =
    let order = c.in_ok-order.ensures ∙ ap (flat_map (edges_from c.args.g.now)) (ap numbers_of_nodes c.as_slice.ensures ∙ c.in_ok-nodes.ensures) in
    subst IsOnce (sym order) (edges_differ c.args.g.now c.made_nodes-made.ensures.formed)

pub of_numbers-requires-clause-few : goal.of_numbers-requires-clause-few
of_numbers-requires-clause-few c =
    let order = c.in_ok-order.ensures ∙ ap (flat_map (edges_from c.args.g.now)) (ap numbers_of_nodes c.as_slice.ensures ∙ c.in_ok-nodes.ensures) in
    subst (λ es. length es ≤ 400000) (sym order) (ordered_few c.args.g.now c.made_nodes-made.ensures.formed)

pub returns-clause-graph : goal.returns-clause-graph
returns-clause-graph c =
    let s = c.args.g.now in
    let order = c.in_ok-order.ensures ∙ ap (flat_map (edges_from s)) (ap numbers_of_nodes c.as_slice.ensures ∙ c.in_ok-nodes.ensures) in
    let labels = c.in_ok-labels.ensures ∙ ap (map (node_label s)) (ap numbers_of_nodes c.as_slice-2.ensures ∙ c.in_ok-nodes.ensures) in
    let edges = c.in_ok-edges.ensures ∙ ap (map (plain_edge s (ordered_edges s))) (c.in_ok-edge_places.ensures ∙ order) in
    let bare_nodes = c.have_no_bytes.ensures ∙ ap (list_all is_empty) c.as_slice-4.ensures in
    let bare_edges = c.are_bare.ensures ∙ ap (list_all (λ (e : PlainEdge). is_empty e.label)) c.as_slice-5.ensures in
    let node_type = c.in_ok-node_type.ensures ∙ ap (λ b. file_type b c.node_type.result.now) bare_nodes ∙ ap (file_type (list_all is_empty c.in_ok-labels.labels)) c.node_type.ensures in
    let edge_type = c.in_ok-edge_type.ensures ∙ ap (λ b. file_type b c.edge_type.result.now) bare_edges ∙ ap (file_type (list_all (λ (e : PlainEdge). is_empty e.label) c.in_ok-edges.edges)) c.edge_type.ensures in
    let is = plain_is s c.is_directed.result c.in_ok-node_type.node_type c.in_ok-edge_type.edge_type c.in_ok-labels.labels c.in_ok-edges.edges c.is_directed.ensures labels edges node_type edge_type in
    is

pub returns-clause-valid : goal.returns-clause-valid
returns-clause-valid c =
    let s = c.args.g.now in
    let order = c.in_ok-order.ensures ∙ ap (flat_map (edges_from s)) (ap numbers_of_nodes c.as_slice.ensures ∙ c.in_ok-nodes.ensures) in
    let labels = c.in_ok-labels.ensures ∙ ap (map (node_label s)) (ap numbers_of_nodes c.as_slice-2.ensures ∙ c.in_ok-nodes.ensures) in
    let edges = c.in_ok-edges.ensures ∙ ap (map (plain_edge s (ordered_edges s))) (c.in_ok-edge_places.ensures ∙ order) in
    let bare_nodes = c.have_no_bytes.ensures ∙ ap (list_all is_empty) c.as_slice-4.ensures in
    let bare_edges = c.are_bare.ensures ∙ ap (list_all (λ (e : PlainEdge). is_empty e.label)) c.as_slice-5.ensures in
    let node_type = c.in_ok-node_type.ensures ∙ ap (λ b. file_type b c.node_type.result.now) bare_nodes ∙ ap (file_type (list_all is_empty c.in_ok-labels.labels)) c.node_type.ensures in
    let edge_type = c.in_ok-edge_type.ensures ∙ ap (λ b. file_type b c.edge_type.result.now) bare_edges ∙ ap (file_type (list_all (λ (e : PlainEdge). is_empty e.label) c.in_ok-edges.edges)) c.edge_type.ensures in
    let is = plain_is s c.is_directed.result c.in_ok-node_type.node_type c.in_ok-edge_type.edge_type c.in_ok-labels.labels c.in_ok-edges.edges c.is_directed.ensures labels edges node_type edge_type in
    subst IsPlainGraph (sym is) (plain_valid s c.made_nodes-made.ensures.formed)
