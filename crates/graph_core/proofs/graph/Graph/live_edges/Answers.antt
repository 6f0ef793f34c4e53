-- The row follows the ring of the whole list.
use Rattle.std.proofs.Common.{◌≡◌, false, option_map, refl, sym, ap, subst, ◌∙◌}
use Rattle.std.proofs.Common as list
use Rattle.graph_state.specs.declared.item.EdgeItem.{EdgeItem}
use Rattle.graph_state.specs.declared.name.ListName.TheVariants.{Edges}
use Rattle.graph_state.specs.State.{GraphState}
use Rattle.graph_state.specs.Names.{Has, number}
use Rattle.std.specs.Prelude.{IfOk}
use Rattle.graph_lists.specs.Heads.{IsHeadOf}
use Rattle.graph_core.specs.declared.cell.Heads.{Heads}
use Rattle.graph_core.proofs.Found.{edge_live, edge_numbers, no_edges, if_ok_map}
use Rattle.graph_core.proofs.graph.Graph.live_edges.Goals as goal

pub items_in-requires : goal.items_in-requires
items_in-requires c =
    let a = c.self.inside in
    let k = c.self.invariant.kept in (
      false,
      (
        Edges,
        (
          (c.in-Some.heads.edges, (k.heads Edges ∙ ap (option_map (λ (h : Heads). h.edges)) c.in-Some.is, refl)),
          (λ x i. edge_live a.seen.view a.lists a.heads a.nodes.live a.edges k c.self.invariant.made.1 x a.seen.view.edges (λ v j. j) (subst (Has x) (k.lists Edges) i)),
        ),
      ),
    )

pub returns-in-Some : goal.returns-in-Some
returns-in-Some c =
    let a = c.self.inside in
    let k = c.self.invariant.kept in
    let head : IsHeadOf a.lists.named false Edges c.in-Some.heads.edges.full = (c.in-Some.heads.edges, (k.heads Edges ∙ ap (option_map (λ (h : Heads). h.edges)) c.in-Some.is, refl)) in
    subst (λ (s : GraphState). IfOk c.items_in.result (λ row. list.map (λ (i : EdgeItem). i.0.serial) row ≡ s.edges)) c.self.view_is
    (if_ok_map c.items_in.result _ (λ row. list.map (λ (i : EdgeItem). i.0.serial) row ≡ a.seen.view.edges) (λ row w. w false Edges head ∙ ap (list.map number) (k.lists Edges) ∙ edge_numbers a.seen.view.edges) c.items_in.ensures)

pub returns-in-None : goal.returns-in-None
returns-in-None c =
    let a = c.self.inside in
    subst (λ (s : GraphState). list.map (λ (i : EdgeItem). i.0.serial) c.new.result ≡ s.edges) c.self.view_is
    (ap (list.map (λ (i : EdgeItem). i.0.serial)) c.new.ensures ∙ sym (no_edges a.seen.view a.lists a.heads a.nodes.live a.edges c.self.invariant.kept c.self.invariant.made.1 c.in-None.is))
