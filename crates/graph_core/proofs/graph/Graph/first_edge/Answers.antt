-- The first member of the ring of all edges.
use Rattle.std.proofs.Common.{◌≡◌, false, None, option_map, refl, sym, ap, subst, ◌∙◌}
use Rattle.graph_state.specs.declared.item.EdgeItem.{EdgeItem}
use Rattle.graph_state.specs.declared.name.ListName.TheVariants.{Edges}
use Rattle.graph_state.specs.State.{GraphState}
use Rattle.graph_state.specs.Names.{number, first_of}
use Rattle.graph_lists.specs.Named.{list_at}
use Rattle.graph_lists.specs.Heads.{IsHeadOf}
use Rattle.graph_core.specs.declared.cell.Heads.{Heads}
use Rattle.graph_core.proofs.Found.{may_have, first_has, no_edges}
use Rattle.graph_core.proofs.Opposite.{edge_list_live, first_edge_number}
use Rattle.graph_core.proofs.graph.Graph.first_edge.Goals as goal

pub may_edge_at-requires : goal.may_edge_at-requires
may_edge_at-requires c =
    let a = c.self.inside in
    let k = c.self.invariant.kept in
    let head : IsHeadOf a.lists.named false Edges c.in-Some.heads.edges.full = (c.in-Some.heads.edges, (k.heads Edges ∙ ap (option_map (λ (h : Heads). h.edges)) c.in-Some.is, refl)) in
    may_have a.lists a.edges false c.first.result (first_of (list_at a.lists.named Edges)) (c.first.ensures false Edges head)
    (λ x e. edge_list_live a.seen.view a.lists a.heads a.nodes.live a.edges k c.self.invariant.made.1 x (first_has (list_at a.lists.named Edges) x e))

pub returns-in-Some : goal.returns-in-Some
returns-in-Some c =
    let a = c.self.inside in
    let k = c.self.invariant.kept in
    let head : IsHeadOf a.lists.named false Edges c.in-Some.heads.edges.full = (c.in-Some.heads.edges, (k.heads Edges ∙ ap (option_map (λ (h : Heads). h.edges)) c.in-Some.is, refl)) in
    subst (λ (s : GraphState). option_map (λ (e : EdgeItem). e.0.serial) c.may_edge_at.result ≡ first_of s.edges) c.self.view_is
    (c.may_edge_at.ensures false (first_of (list_at a.lists.named Edges)) (c.first.ensures false Edges head) ∙ ap (λ xs. option_map number (first_of xs)) (k.lists Edges) ∙ first_edge_number a.seen.view.edges)

pub returns-in-None : goal.returns-in-None
returns-in-None c =
    let a = c.self.inside in
    subst (λ (s : GraphState). None ≡ first_of s.edges) c.self.view_is
    (sym (ap first_of (no_edges a.seen.view a.lists a.heads a.nodes.live a.edges c.self.invariant.kept c.self.invariant.made.1 c.in-None.is)))
