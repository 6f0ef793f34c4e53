-- The count is that of the ring of what shows of the list.
use Rattle.std.proofs.Common.{◌≡◌, true, option_map, length, [], ◌∷◌, refl, sym, ap, subst, ◌∙◌}
use Rattle.std.proofs.Common as list
use Rattle.std.proofs.lemmas.List.{length-map}
use Rattle.graph_state.specs.declared.name.ListName.TheVariants.{Nodes}
use Rattle.graph_state.specs.declared.name.Element.TheVariants.{Node}
use Rattle.graph_state.specs.State.{GraphState, visible_nodes, shows_node}
use Rattle.graph_lists.specs.Heads.{IsHeadOf}
use Rattle.graph_core.specs.declared.cell.Heads.{Heads}
use Rattle.graph_core.proofs.Found.{seen_nodes}
use Rattle.graph_core.proofs.graph.Graph.count_nodes.Goals as goal

pub len-requires : goal.len-requires
len-requires c = (true, (Nodes, (c.in-Some.heads.nodes, (c.self.invariant.kept.heads Nodes ∙ ap (option_map (λ (h : Heads). h.nodes)) c.in-Some.is, refl))))

pub returns-in-Some : goal.returns-in-Some
returns-in-Some c =
    let a = c.self.inside in
    let head : IsHeadOf a.lists.named true Nodes c.in-Some.heads.nodes.shown = (c.in-Some.heads.nodes, (c.self.invariant.kept.heads Nodes ∙ ap (option_map (λ (h : Heads). h.nodes)) c.in-Some.is, refl)) in
    subst (λ (s : GraphState). c.len.result ≡ length (visible_nodes s)) c.self.view_is
    (c.len.ensures true Nodes head ∙ ap length (seen_nodes a.seen.view a.lists a.heads a.nodes.live a.edges c.self.invariant.kept c.self.invariant.made.1) ∙ length-map (visible_nodes a.seen.view) Node)

pub returns-in-None : goal.returns-in-None
returns-in-None c =
    let a = c.self.inside in
    subst (λ (s : GraphState). 0 ≡ length (visible_nodes s)) c.self.view_is
    (sym (ap (λ xs. length (list.filter (shows_node a.seen.view) xs)) (c.self.invariant.kept.headed c.in-None.is)))
