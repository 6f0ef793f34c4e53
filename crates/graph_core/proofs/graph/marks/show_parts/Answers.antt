-- To show one part changes no token.
use Rattle.graph_state.specs.declared.name.ListName.TheVariants.{Edges, Out}
use Rattle.graph_core.proofs.Hiding.{same_on}
use Rattle.graph_core.proofs.Showing.{tokens_stay}
use Rattle.graph_core.proofs.graph.marks.show_parts.Goals as goal

pub show_element-requires-clause-tokens : goal.show_element-requires-clause-tokens
show_element-requires-clause-tokens c = c.requires.tokens Edges

pub show_element-requires-2-clause-tokens : goal.show_element-requires-2-clause-tokens
show_element-requires-2-clause-tokens c =
    tokens_stay c.args.lists.now.named c.show_element.new.lists.named c.show_element.ensures.named.same c.args.nodes.now c.args.edges.now (Out c.args.cell.now.from) (c.requires.tokens (Out c.args.cell.now.from))

pub show_element-requires-3-clause-tokens : goal.show_element-requires-3-clause-tokens
show_element-requires-3-clause-tokens c =
    let same = same_on c.args.lists.now.named c.show_element.new.lists.named c.show_element-2.new.lists.named c.show_element.ensures.named.same c.show_element-2.ensures.named.same in
    let row = c.back_name-ins.result in
    tokens_stay c.args.lists.now.named c.show_element-2.new.lists.named same c.args.nodes.now c.args.edges.now row (c.requires.tokens row)
