-- The row follows the ring of what shows of the list.
use Rattle.std.proofs.Common.{◌≡◌, true, option_map, [], ◌∷◌, refl, sym, ap, subst, ◌∙◌}
use Rattle.std.proofs.Common as list
use Rattle.graph_state.specs.declared.item.NodeItem.{NodeItem}
use Rattle.graph_state.specs.declared.name.ListName.TheVariants.{Nodes}
use Rattle.graph_state.specs.State.{GraphState, visible_nodes}
use Rattle.graph_state.specs.Names.{Has, number}
use Rattle.std.specs.Prelude.{IfOk}
use Rattle.graph_lists.specs.Heads.{IsHeadOf}
use Rattle.graph_core.specs.declared.cell.Heads.{Heads}
use Rattle.graph_core.proofs.Found.{seen_nodes, shown_node_live, node_numbers, if_ok_map}
use Rattle.graph_core.proofs.graph.Graph.nodes.Goals as goal

pub items_in-requires : goal.items_in-requires
items_in-requires c =
    let a = c.self.inside in
    (true, (Nodes, ((c.in-Some.heads.nodes, (c.self.invariant.kept.heads Nodes ∙ ap (option_map (λ (h : Heads). h.nodes)) c.in-Some.is, refl)), (λ x i. shown_node_live a.seen.view a.lists a.heads a.nodes a.edges.live c.self.invariant.kept c.self.invariant.made.0 x (subst (Has x) (seen_nodes a.seen.view a.lists a.heads a.nodes.live a.edges c.self.invariant.kept c.self.invariant.made.1) i)))))

pub returns-in-Some : goal.returns-in-Some
returns-in-Some c =
    let a = c.self.inside in
    let head : IsHeadOf a.lists.named true Nodes c.in-Some.heads.nodes.shown = (c.in-Some.heads.nodes, (c.self.invariant.kept.heads Nodes ∙ ap (option_map (λ (h : Heads). h.nodes)) c.in-Some.is, refl)) in
    subst (λ (s : GraphState). IfOk c.items_in.result (λ row. list.map (λ (i : NodeItem). i.0.serial) row ≡ visible_nodes s)) c.self.view_is
    (if_ok_map c.items_in.result _ (λ row. list.map (λ (i : NodeItem). i.0.serial) row ≡ visible_nodes a.seen.view) (λ row w. w true Nodes head ∙ ap (list.map number) (seen_nodes a.seen.view a.lists a.heads a.nodes.live a.edges c.self.invariant.kept c.self.invariant.made.1) ∙ node_numbers (visible_nodes a.seen.view)) c.items_in.ensures)
