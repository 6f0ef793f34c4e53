-- The first member in the node list is that of a node.
use Rattle.std.proofs.Common.{◌≡◌, [], false, refl, sym, subst}
use Rattle.graph_state.specs.declared.name.ListName.TheVariants.{Nodes}
use Rattle.graph_state.specs.State.{GraphState}
use Rattle.graph_state.specs.Names.{Has}
use Rattle.graph_core.proofs.Incident.{nodes_head, found_node, no_nodes}
use Rattle.graph_core.proofs.graph.Graph.first_node.Goals as goal

pub number-requires : goal.number-requires
number-requires c =
    let a = c.self.inside in
    let k = c.self.invariant.kept in
    let h = c.in-Some.heads in
    let head = nodes_head a.seen.view a.lists a.heads a.nodes.live a.edges.live k h c.in-Some.is in
    let f = found_node a.seen.view a.lists a.heads a.nodes.live a.edges.live k c.in-Some-first.m (c.in-Some-first.ensures false Nodes (h.nodes, (head, refl))) in
    (false, (f.0, f.1.0))

pub returns-in-Some-first-clause-node : goal.returns-in-Some-first-clause-node
returns-in-Some-first-clause-node c =
    let a = c.self.inside in
    let s = a.seen.view in
    let k = c.self.invariant.kept in
    let h = c.in-Some.heads in
    let head = nodes_head s a.lists a.heads a.nodes.live a.edges.live k h c.in-Some.is in
    let f = found_node s a.lists a.heads a.nodes.live a.edges.live k c.in-Some-first.m (c.in-Some-first.ensures false Nodes (h.nodes, (head, refl))) in
    subst (λ (s : GraphState). Has c.number.result s.nodes) c.self.view_is (subst (λ v. Has v s.nodes) (sym (c.number.ensures.number false f.0 f.1.0)) f.1.1)

pub returns-in-None-clause-node : goal.returns-in-None-clause-node
returns-in-None-clause-node c =
    let a = c.self.inside in
    let s = a.seen.view in
    let k = c.self.invariant.kept in
    let h = c.in-Some.heads in
    let head = nodes_head s a.lists a.heads a.nodes.live a.edges.live k h c.in-Some.is in
    subst (λ (s : GraphState). s.nodes ≡ []) c.self.view_is (no_nodes s a.lists a.heads a.nodes.live a.edges.live k (c.in-None.ensures false Nodes (h.nodes, (head, refl))))
