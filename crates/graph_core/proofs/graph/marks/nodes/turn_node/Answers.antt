-- To turn one part changes neither hooks nor lists.
use Rattle.graph_state.specs.declared.name.ListName.TheVariants.{Nodes, Out, In}
use Rattle.graph_core.proofs.Hiding.{same_on}
use Rattle.graph_core.proofs.Showing.{can_turn_still}
use Rattle.graph_core.proofs.graph.marks.nodes.turn_node.Goals as goal

pub turn_element-requires-clause-tokens : goal.turn_element-requires-clause-tokens
turn_element-requires-clause-tokens c = c.requires.tokens Nodes

pub turn_edges-requires-clause-edges : goal.turn_edges-requires-clause-edges
turn_edges-requires-clause-edges c =
    can_turn_still c.args.lists.now.named c.turn_element.new.lists.named c.turn_element.ensures.named.same c.args.nodes.now c.args.edges.now c.args.heads.now.edges c.args.directed (Out c.args.v) c.requires.out_edges

pub turn_edges-requires-2-clause-edges : goal.turn_edges-requires-2-clause-edges
turn_edges-requires-2-clause-edges c =
    let same = same_on c.args.lists.now.named c.turn_element.new.lists.named c.turn_edges.new.lists.named c.turn_element.ensures.named.same c.turn_edges.ensures.named.same in
    can_turn_still c.args.lists.now.named c.turn_edges.new.lists.named same c.args.nodes.now c.args.edges.now c.args.heads.now.edges c.args.directed (In c.args.v) c.requires.in_edges
