-- The net is that of the visible graph.
use Rattle.std.proofs.Common.{rules, ◌≤◌, arith, map, length, sym, ap, subst, ◌∙◌}
use Rattle.graph_state.specs.Names.{Has, IsOnce}
use Rattle.graph_defs.specs.Net.{IsValid}
use Rattle.hide_restore.specs.Net.{numbers_of_nodes, numbers_of_edges, arc_of}
use Rattle.hide_restore.proofs.Visible.{count_nodes, net_is, nodes_once, nodes_below, nodes_few, edge_seen, valid}
use Rattle.hide_restore.proofs.shown.net.Goals as goal

pub of-requires-clause-most : goal.of-requires-clause-most
of-requires-clause-most c v i =
    let same = ap numbers_of_nodes c.as_slice.ensures ∙ c.in_ok-nodes.ensures in
    subst (λ m. v ≤ m) (sym c.made_nodes-made.ensures.made) (nodes_below c.args.g.now c.made_nodes-made.ensures.formed v (subst (Has v) same i))

pub of-requires-clause-once : goal.of-requires-clause-once
of-requires-clause-once c =
    let same = ap numbers_of_nodes c.as_slice.ensures ∙ c.in_ok-nodes.ensures in
    subst IsOnce (sym same) (nodes_once c.args.g.now c.made_nodes-made.ensures.formed)

pub of-requires-clause-few : goal.of-requires-clause-few
of-requires-clause-few c =
    let same = ap numbers_of_nodes c.as_slice.ensures ∙ c.in_ok-nodes.ensures in
    let few = nodes_few c.args.g.now c.made_nodes-made.ensures.formed in
    let count = count_nodes c.as_slice.result.now c.args.g.now same in
    omega (arith, few, count)

pub arcs_of-requires-clause-visible : goal.arcs_of-requires-clause-visible
arcs_of-requires-clause-visible c e i =
    edge_seen c.args.g.now c.made_nodes-made.ensures.formed e (subst (Has e) (ap numbers_of_edges c.as_slice-2.ensures ∙ c.in_ok-edges.ensures) i)

pub overflow_cast-n : goal.overflow_cast-n
overflow_cast-n c =
    let count = count_nodes c.as_slice-3.result.now c.args.g.now (ap numbers_of_nodes c.as_slice-3.ensures ∙ c.in_ok-nodes.ensures) in
    let few = nodes_few c.args.g.now c.made_nodes-made.ensures.formed in
    search rules

pub returns-clause-net : goal.returns-clause-net
returns-clause-net c =
    net_is c.args.g.now (length c.as_slice-3.result.now) c.in_ok-arcs.arcs (count_nodes c.as_slice-3.result.now c.args.g.now (ap numbers_of_nodes c.as_slice-3.ensures ∙ c.in_ok-nodes.ensures))
    (c.in_ok-arcs.ensures ∙ ap (λ es. map (arc_of c.args.g.now) (numbers_of_edges es)) c.as_slice-2.ensures ∙ ap (map (arc_of c.args.g.now)) c.in_ok-edges.ensures)

pub returns-clause-valid : goal.returns-clause-valid
returns-clause-valid c =
    subst IsValid (sym (net_is c.args.g.now (length c.as_slice-3.result.now) c.in_ok-arcs.arcs (count_nodes c.as_slice-3.result.now c.args.g.now (ap numbers_of_nodes c.as_slice-3.ensures ∙ c.in_ok-nodes.ensures))
    (c.in_ok-arcs.ensures ∙ ap (λ es. map (arc_of c.args.g.now) (numbers_of_edges es)) c.as_slice-2.ensures ∙ ap (map (arc_of c.args.g.now)) c.in_ok-edges.ensures))) (valid c.args.g.now c.made_nodes-made.ensures.formed)
