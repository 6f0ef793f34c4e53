-- The kind changes where the graph is undirected.
use Rattle.std.proofs.Common.{◌≡◌, sym, subst, ◌∙◌}
use Rattle.graph_state.specs.State.{GraphState}
use Rattle.graph_state.specs.Edits.{made_directed}
use Rattle.graph_state.proofs.OtherKind.{directed_stays}
use Rattle.graph_core.proofs.graph.Graph.make_directed.Goals as goal

pub returns-else-not-self : goal.returns-else-not-self
returns-else-not-self c =
    subst (λ (s : GraphState). s ≡ made_directed s) c.self.view_is (sym (directed_stays c.self.inside.seen.view (sym c.self.invariant.directed ∙ c.if-not-self.false)))
