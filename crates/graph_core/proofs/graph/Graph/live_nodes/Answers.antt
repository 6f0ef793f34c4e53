-- The row follows the ring of the whole list.
use Rattle.std.proofs.Common.{◌≡◌, false, option_map, refl, sym, ap, subst, ◌∙◌}
use Rattle.std.proofs.Common as list
use Rattle.graph_state.specs.declared.item.NodeItem.{NodeItem}
use Rattle.graph_state.specs.declared.name.ListName.TheVariants.{Nodes}
use Rattle.graph_state.specs.State.{GraphState}
use Rattle.graph_state.specs.Names.{Has, number}
use Rattle.std.specs.Prelude.{IfOk}
use Rattle.graph_lists.specs.Heads.{IsHeadOf}
use Rattle.graph_core.specs.declared.cell.Heads.{Heads}
use Rattle.graph_core.proofs.Found.{node_live, node_numbers, if_ok_map}
use Rattle.graph_core.proofs.graph.Graph.live_nodes.Goals as goal

pub items_in-requires : goal.items_in-requires
items_in-requires c =
    let a = c.self.inside in
    let k = c.self.invariant.kept in (
      false,
      (
        Nodes,
        (
          (c.in-Some.heads.nodes, (k.heads Nodes ∙ ap (option_map (λ (h : Heads). h.nodes)) c.in-Some.is, refl)),
          (λ x i. node_live a.seen.view a.lists a.heads a.nodes a.edges.live k c.self.invariant.made.0 x a.seen.view.nodes (λ v j. j) (subst (Has x) (k.lists Nodes) i)),
        ),
      ),
    )

pub returns-in-Some : goal.returns-in-Some
returns-in-Some c =
    let a = c.self.inside in
    let k = c.self.invariant.kept in
    let head : IsHeadOf a.lists.named false Nodes c.in-Some.heads.nodes.full = (c.in-Some.heads.nodes, (k.heads Nodes ∙ ap (option_map (λ (h : Heads). h.nodes)) c.in-Some.is, refl)) in
    subst (λ (s : GraphState). IfOk c.items_in.result (λ row. list.map (λ (i : NodeItem). i.0.serial) row ≡ s.nodes)) c.self.view_is
    (if_ok_map c.items_in.result _ (λ row. list.map (λ (i : NodeItem). i.0.serial) row ≡ a.seen.view.nodes) (λ row w. w false Nodes head ∙ ap (list.map number) (k.lists Nodes) ∙ node_numbers a.seen.view.nodes) c.items_in.ensures)

pub returns-in-None : goal.returns-in-None
returns-in-None c =
    subst (λ (s : GraphState). list.map (λ (i : NodeItem). i.0.serial) c.new.result ≡ s.nodes) c.self.view_is
    (ap (list.map (λ (i : NodeItem). i.0.serial)) c.new.ensures ∙ sym (c.self.invariant.kept.headed c.in-None.is))
