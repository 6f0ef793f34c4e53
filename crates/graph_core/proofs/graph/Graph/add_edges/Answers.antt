use Rattle.std.proofs.Common.{◌≡◌, ◌+◌, ℕ, ◌≤◌, List, [], ◌∷◌, ◌++◌, refl, sym, ap, subst, ◌∙◌}
use Rattle.std.specs.Prelude.{IfSome}
use Rattle.leda_base.specs.declared.name.ItemName.TheVariants as names
use Rattle.graph_defs.specs.declared.plain.PlainEdge.{PlainEdge}
use Rattle.graph_state.specs.State.{GraphState}
use Rattle.graph_state.specs.Refusals.{AreVisible}
use Rattle.graph_state.specs.Built.{with_plain_edge, with_plain_edges}
use Rattle.graph_state.proofs.Built.{edges_last}
use Rattle.graph_core.specs.Replaces.{LeadsBack}
use Rattle.graph_core.proofs.Replaces.{cut_on, next_from, next_to, next_few, next_label, next_back}
use Rattle.graph_core.proofs.graph.Graph.add_edges.Goals as goal

-- the edge that comes next stands between those that came and those that are left
cut_here : (es ys before after : List PlainEdge) (x : PlainEdge) → es ≡ ys ++ before → before ≡ x ∷ after → es ≡ ys ++ x ∷ after
cut_here es ys before after x is step = is ∙ ap (λ us. ys ++ us) step

pub loop-edge-init : goal.loop-edge-init
unfolding with_plain_edges
loop-edge-init c = (sym (c.into_iter-edge-iterator.ensures.into_iter_gives.0 ∙ c.into_vec-edge-items.ensures), refl)

pub add_edge-requires-clause-numbers : goal.add_edge-requires-clause-numbers
add_edge-requires-clause-numbers c = (c.requires.given.0, subst (λ n. n ≤ 16777215) (sym c.made_edges-made.ensures) c.requires.given.1)

pub add_edge-requires-clause-from : goal.add_edge-requires-clause-from
add_edge-requires-clause-from c =
    let inv = c.loop-edge.invariant in
    let cut = cut_here c.args.edges c.loop-edge.yielded c.loop-edge.edge-iterator.rest.items c.next.new.self.rest.items c.in-Some.edge inv.0 c.in-Some.ensures.steps.0 in
    subst (λ (t : GraphState). AreVisible t (names.Node (c.args.nodes + c.in-Some.edge.from + 1) ∷ [])) (sym inv.1)
    (next_from c.args.self.now c.args.nodes c.args.edges c.requires c.loop-edge.yielded c.next.new.self.rest.items c.in-Some.edge cut)

pub add_edge-requires-clause-to : goal.add_edge-requires-clause-to
add_edge-requires-clause-to c =
    let inv = c.loop-edge.invariant in
    let cut = cut_here c.args.edges c.loop-edge.yielded c.loop-edge.edge-iterator.rest.items c.next.new.self.rest.items c.in-Some.edge inv.0 c.in-Some.ensures.steps.0 in
    subst (λ (t : GraphState). AreVisible t (names.Node (c.args.nodes + c.in-Some.edge.to + 1) ∷ [])) (sym inv.1)
    (next_to c.args.self.now c.args.nodes c.args.edges c.requires c.loop-edge.yielded c.next.new.self.rest.items c.in-Some.edge cut)

pub add_edge-requires-clause-label : goal.add_edge-requires-clause-label
add_edge-requires-clause-label c =
    let inv = c.loop-edge.invariant in
    let cut = cut_here c.args.edges c.loop-edge.yielded c.loop-edge.edge-iterator.rest.items c.next.new.self.rest.items c.in-Some.edge inv.0 c.in-Some.ensures.steps.0 in
    next_label c.args.self.now c.args.nodes c.args.edges c.requires c.loop-edge.yielded c.next.new.self.rest.items c.in-Some.edge cut

pub add_edge-requires-clause-back : goal.add_edge-requires-clause-back
add_edge-requires-clause-back c =
    let inv = c.loop-edge.invariant in
    let cut = cut_here c.args.edges c.loop-edge.yielded c.loop-edge.edge-iterator.rest.items c.next.new.self.rest.items c.in-Some.edge inv.0 c.in-Some.ensures.steps.0 in
    subst (λ (t : GraphState). IfSome c.in-Some.edge.rev (LeadsBack t c.args.nodes c.made_edges-made.result c.in-Some.edge)) (sym inv.1)
    (subst (λ f. IfSome c.in-Some.edge.rev (LeadsBack (with_plain_edges c.args.nodes c.args.self.now.made_edges c.loop-edge.yielded c.args.self.now) c.args.nodes f c.in-Some.edge)) (sym c.made_edges-made.ensures)
    (next_back c.args.self.now c.args.nodes c.args.edges c.requires c.loop-edge.yielded c.next.new.self.rest.items c.in-Some.edge cut))

pub loop-edge-preserved : goal.loop-edge-preserved
loop-edge-preserved c =
    let inv = c.loop-edge.invariant in
    let v = c.args.nodes in
    let s = c.args.self.now in (
      cut_on c.args.edges c.loop-edge.yielded c.loop-edge.edge-iterator.rest.items c.next.new.self.rest.items c.in-Some.edge inv.0 c.in-Some.ensures.steps.0,
      c.in_ok-add_edge.ensures ∙ ap (λ f. with_plain_edge v f c.in-Some.edge c.loop-edge.self) c.made_edges-made.ensures
          ∙ ap (with_plain_edge v s.made_edges c.in-Some.edge) inv.1 ∙ sym (edges_last v s.made_edges c.loop-edge.yielded c.in-Some.edge s),
    )
