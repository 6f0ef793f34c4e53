-- The kind changes where the graph is directed.
use Rattle.std.proofs.Common.{◌≡◌, sym, subst, ◌∙◌}
use Rattle.graph_state.specs.State.{GraphState}
use Rattle.graph_state.specs.Edits.{made_undirected}
use Rattle.graph_state.proofs.OtherKind.{undirected_stays}
use Rattle.graph_core.proofs.graph.Graph.make_undirected.Goals as goal

pub returns-else-self : goal.returns-else-self
returns-else-self c =
    subst (λ (s : GraphState). s ≡ made_undirected s) c.self.view_is (sym (undirected_stays c.self.inside.seen.view (sym c.self.invariant.directed ∙ c.if-self.false)))
