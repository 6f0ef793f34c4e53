-- The next member of the ring of all edges.
use Rattle.std.proofs.Common.{◌≡◌, ℕ, false, List, ◌∷◌, ◌++◌, refl, sym, subst, ◌∙◌}
use Rattle.std.proofs.Common as list
use Rattle.graph_state.specs.declared.name.ListName.TheVariants.{Edges}
use Rattle.graph_state.specs.declared.name.Element.TheVariants.{Edge}
use Rattle.graph_state.specs.State.{GraphState}
use Rattle.graph_state.specs.Names.{Has, first_of}
use Rattle.graph_core.proofs.Kept.{edge_cell, edge_hook, stands}
use Rattle.graph_core.proofs.Found.{may_have, first_has, cut}
use Rattle.graph_core.proofs.Opposite.{edge_between, behind_live, first_edge_number}
use Rattle.graph_core.proofs.graph.Graph.next_edge.Goals as goal

pub next-requires : goal.next-requires
next-requires c =
    let a = c.self.inside in
    let s = a.seen.view in
    let e = c.args.e.0.serial in
    let k = c.self.invariant.kept in
    let cell = c.in-Ok.cell.now in
    let at = c.in-Ok.ensures.0 in
    (false, (Edges, (Edge e, (stands s a.lists a.heads a.nodes.live a.edges.live k (Edge e) (edge_cell s a.lists a.heads a.nodes.live a.edges.live k e cell at).listed, (cell.hook, (edge_hook s a.lists a.heads a.nodes.live a.edges.live k e cell at, refl))))))

pub may_edge_at-requires : goal.may_edge_at-requires
may_edge_at-requires c =
    let a = c.self.inside in
    let s = a.seen.view in
    let e = c.args.e.0.serial in
    let k = c.self.invariant.kept in
    let made = c.self.invariant.made.1 in
    let cell = c.in-Ok.cell.now in
    let at = c.in-Ok.ensures.0 in
    let b = cut e s.edges (edge_cell s a.lists a.heads a.nodes.live a.edges.live k e cell at).listed in
    may_have a.lists a.edges false c.next.result (first_of (list.map Edge b.1.0))
    (c.next.ensures false Edges (Edge e) (list.map Edge b.0) (list.map Edge b.1.0) (cell.hook, (edge_hook s a.lists a.heads a.nodes.live a.edges.live k e cell at, refl)) (edge_between s a.lists a.heads a.nodes.live a.edges k made e b.0 b.1.0 b.1.1))
    (λ x i. behind_live s a.lists a.heads a.nodes.live a.edges k made e b.0 b.1.0 b.1.1 x (first_has (list.map Edge b.1.0) x i))

pub returns-in-Ok : goal.returns-in-Ok
returns-in-Ok c =
    let a = c.self.inside in
    let s = a.seen.view in
    let e = c.args.e.0.serial in
    let k = c.self.invariant.kept in
    let made = c.self.invariant.made.1 in
    let cell = c.in-Ok.cell.now in
    let at = c.in-Ok.ensures.0 in (
      subst (λ (s : GraphState). Has e s.edges) c.self.view_is (edge_cell s a.lists a.heads a.nodes.live a.edges.live k e cell at).listed,
      λ before behind is.
          let is' = subst (λ (s : GraphState). s.edges ≡ before ++ e ∷ behind) (sym c.self.view_is) is in
          c.may_edge_at.ensures false (first_of (list.map Edge behind))
          (c.next.ensures false Edges (Edge e) (list.map Edge before) (list.map Edge behind) (cell.hook, (edge_hook s a.lists a.heads a.nodes.live a.edges.live k e cell at, refl)) (edge_between s a.lists a.heads a.nodes.live a.edges k made e before behind is'))
          ∙ first_edge_number behind,
    )
