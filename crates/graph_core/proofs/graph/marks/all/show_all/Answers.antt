-- To show one list changes neither hooks nor lists.
use Rattle.std.proofs.Common.{subst, ◌∙◌}
use Rattle.graph_state.specs.declared.name.ListName.TheVariants.{Nodes, Edges}
use Rattle.graph_state.specs.Names.{Has, number}
use Rattle.graph_core.proofs.Hiding.{same_on}
use Rattle.graph_core.proofs.Showing.{same_list_at, same_head_at, tokens_stay}
use Rattle.graph_core.proofs.AllShown.{whole_shown, rows_stay}
use Rattle.graph_core.proofs.graph.marks.all.show_all.Goals as goal

pub show_list-requires-clause-tokens : goal.show_list-requires-clause-tokens
show_list-requires-clause-tokens c = c.requires.tokens Nodes

pub show_list-requires-2-clause-head : goal.show_list-requires-2-clause-head
show_list-requires-2-clause-head c = same_head_at c.args.lists.now.named c.show_list.new.lists.named c.show_list.ensures.named.same Edges ∙ c.requires.edges

pub show_list-requires-2-clause-tokens : goal.show_list-requires-2-clause-tokens
show_list-requires-2-clause-tokens c = tokens_stay c.args.lists.now.named c.show_list.new.lists.named c.show_list.ensures.named.same c.args.nodes.now c.args.edges.now Edges (c.requires.tokens Edges)

pub show_rows-requires-clause-head : goal.show_rows-requires-clause-head
show_rows-requires-clause-head c =
    let n = c.args.lists.now.named in
    let o = c.show_list-2.new.lists.named in
    same_head_at n o (same_on n c.show_list.new.lists.named o c.show_list.ensures.named.same c.show_list-2.ensures.named.same) Nodes ∙ c.requires.nodes

pub show_rows-requires-clause-tokens : goal.show_rows-requires-clause-tokens
show_rows-requires-clause-tokens c l =
    let n = c.args.lists.now.named in
    let o = c.show_list-2.new.lists.named in
    tokens_stay n o (same_on n c.show_list.new.lists.named o c.show_list.ensures.named.same c.show_list-2.ensures.named.same) c.args.nodes.now c.args.edges.now l (c.requires.tokens l)

pub show_rows-requires-clause-rows : goal.show_rows-requires-clause-rows
show_rows-requires-clause-rows c x i =
    let n = c.args.lists.now.named in
    let o = c.show_list-2.new.lists.named in
    let same = same_on n c.show_list.new.lists.named o c.show_list.ensures.named.same c.show_list-2.ensures.named.same in
    rows_stay n o same c.args.nodes.now (number x) (c.requires.rows x (subst (Has x) (same_list_at n o same Nodes) i))

pub returns-clause-named : goal.returns-clause-named
returns-clause-named c = whole_shown c.args.lists.now.named c.show_list.new.lists.named c.show_list-2.new.lists.named c.show_rows.new.lists.named c.show_list.ensures.named c.show_list-2.ensures.named c.show_rows.ensures.named
