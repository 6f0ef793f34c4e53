-- The reversal in the cell is there.
use Rattle.std.proofs.Common.{sym, ap, subst, ◌∙◌}
use Rattle.std.specs.FinMap as map
use Rattle.graph_state.specs.State.{GraphState}
use Rattle.graph_state.specs.Names.{Has}
use Rattle.graph_core.proofs.Pairs.{reversal_live, reversal_listed}
use Rattle.graph_core.proofs.graph.Graph.partner.Goals as goal

pub item_of-requires : goal.item_of-requires
item_of-requires c =
    let a = c.self.inside in
    reversal_live a.seen.view a.lists a.heads a.nodes.live a.edges c.self.invariant.kept c.self.invariant.made.1 c.args.e.0.serial c.in-Some.f
    (ap (λ (s : GraphState). map.get s.reversals c.args.e.0.serial) c.self.view_is ∙ c.in_ok-cell.ensures.cell.reversal ∙ c.in-Some.is)

pub shown_edge-requires : goal.shown_edge-requires
shown_edge-requires c = subst (λ (s : GraphState). Has c.item_of.result.0.serial s.edges) c.self.view_is (subst (λ n. Has n c.self.inside.seen.view.edges) (sym c.item_of.ensures)
    (reversal_listed c.self.inside.seen.view c.self.invariant.kept.formed c.args.e.0.serial c.in-Some.f (ap (λ (s : GraphState). map.get s.reversals c.args.e.0.serial) c.self.view_is ∙ c.in_ok-cell.ensures.cell.reversal ∙ c.in-Some.is)))
