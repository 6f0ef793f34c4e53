-- The count is that of the ring of what shows of the list.
use Rattle.std.proofs.Common.{◌≡◌, true, option_map, length, [], ◌∷◌, refl, sym, ap, subst, ◌∙◌}
use Rattle.std.proofs.Common as list
use Rattle.std.proofs.lemmas.List.{length-map}
use Rattle.graph_state.specs.declared.name.ListName.TheVariants.{Edges}
use Rattle.graph_state.specs.declared.name.Element.TheVariants.{Edge}
use Rattle.graph_state.specs.State.{GraphState, visible_edges, shows_edge}
use Rattle.graph_lists.specs.Heads.{IsHeadOf}
use Rattle.graph_core.specs.declared.cell.Heads.{Heads}
use Rattle.graph_core.proofs.Found.{seen_edges, no_edges}
use Rattle.graph_core.proofs.graph.Graph.count_edges.Goals as goal

pub len-requires : goal.len-requires
len-requires c = (true, (Edges, (c.in-Some.heads.edges, (c.self.invariant.kept.heads Edges ∙ ap (option_map (λ (h : Heads). h.edges)) c.in-Some.is, refl))))

pub returns-in-Some : goal.returns-in-Some
returns-in-Some c =
    let a = c.self.inside in
    let head : IsHeadOf a.lists.named true Edges c.in-Some.heads.edges.shown = (c.in-Some.heads.edges, (c.self.invariant.kept.heads Edges ∙ ap (option_map (λ (h : Heads). h.edges)) c.in-Some.is, refl)) in
    subst (λ (s : GraphState). c.len.result ≡ length (visible_edges s)) c.self.view_is
    (c.len.ensures true Edges head ∙ ap length (seen_edges a.seen.view a.lists a.heads a.nodes.live a.edges c.self.invariant.kept c.self.invariant.made.1) ∙ length-map (visible_edges a.seen.view) Edge)

pub returns-in-None : goal.returns-in-None
returns-in-None c =
    let a = c.self.inside in
    subst (λ (s : GraphState). 0 ≡ length (visible_edges s)) c.self.view_is
    (sym (ap (λ xs. length (list.filter (shows_edge a.seen.view) xs)) (no_edges a.seen.view a.lists a.heads a.nodes.live a.edges c.self.invariant.kept c.self.invariant.made.1 c.in-None.is)))
