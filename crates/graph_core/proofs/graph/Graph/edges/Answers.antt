-- The row follows the ring of what shows of the list.
use Rattle.std.proofs.Common.{◌≡◌, true, option_map, [], ◌∷◌, refl, sym, ap, subst, ◌∙◌}
use Rattle.std.proofs.Common as list
use Rattle.graph_state.specs.declared.item.EdgeItem.{EdgeItem}
use Rattle.graph_state.specs.declared.name.ListName.TheVariants.{Edges}
use Rattle.graph_state.specs.State.{GraphState, visible_edges, shows_edge}
use Rattle.graph_state.specs.Names.{Has, number}
use Rattle.std.specs.Prelude.{IfOk}
use Rattle.graph_lists.specs.Heads.{IsHeadOf}
use Rattle.graph_core.specs.declared.cell.Heads.{Heads}
use Rattle.graph_core.proofs.Found.{seen_edges, shown_edge_live, edge_numbers, no_edges, if_ok_map}
use Rattle.graph_core.proofs.graph.Graph.edges.Goals as goal

pub items_in-requires : goal.items_in-requires
items_in-requires c =
    let a = c.self.inside in
    (true, (Edges, ((c.in-Some.heads.edges, (c.self.invariant.kept.heads Edges ∙ ap (option_map (λ (h : Heads). h.edges)) c.in-Some.is, refl)), (λ x i. shown_edge_live a.seen.view a.lists a.heads a.nodes.live a.edges c.self.invariant.kept c.self.invariant.made.1 x (subst (Has x) (seen_edges a.seen.view a.lists a.heads a.nodes.live a.edges c.self.invariant.kept c.self.invariant.made.1) i)))))

pub returns-in-Some : goal.returns-in-Some
returns-in-Some c =
    let a = c.self.inside in
    let head : IsHeadOf a.lists.named true Edges c.in-Some.heads.edges.shown = (c.in-Some.heads.edges, (c.self.invariant.kept.heads Edges ∙ ap (option_map (λ (h : Heads). h.edges)) c.in-Some.is, refl)) in
    subst (λ (s : GraphState). IfOk c.items_in.result (λ row. list.map (λ (i : EdgeItem). i.0.serial) row ≡ visible_edges s)) c.self.view_is
    (if_ok_map c.items_in.result _ (λ row. list.map (λ (i : EdgeItem). i.0.serial) row ≡ visible_edges a.seen.view) (λ row w. w true Edges head ∙ ap (list.map number) (seen_edges a.seen.view a.lists a.heads a.nodes.live a.edges c.self.invariant.kept c.self.invariant.made.1) ∙ edge_numbers (visible_edges a.seen.view)) c.items_in.ensures)

pub returns-in-None : goal.returns-in-None
returns-in-None c =
    let a = c.self.inside in
    subst (λ (s : GraphState). list.map (λ (i : EdgeItem). i.0.serial) c.new.result ≡ visible_edges s) c.self.view_is
    (ap (list.map (λ (i : EdgeItem). i.0.serial)) c.new.ensures ∙ sym (ap (list.filter (shows_edge a.seen.view)) (no_edges a.seen.view a.lists a.heads a.nodes.live a.edges c.self.invariant.kept c.self.invariant.made.1 c.in-None.is)))
