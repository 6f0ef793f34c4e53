-- The net of the visible graph, and its names.
use Rattle.std.specs.Prelude.{◌≡◌}
use Rattle.graph_defs.specs.Net.{IsValid}
use Rattle.graph_state.specs.State.{GraphState}
use Rattle.hide_restore.specs.declared.shown.Shown.{Shown}
use Rattle.hide_restore.specs.Net.{numbers_of_nodes, numbers_of_edges, node_numbers, edge_numbers, shown_net}

-- it is the net of the visible graph
pub record IsShown (g : GraphState) (shown : Shown) : Type 0 where
  pub net : shown.net ≡ shown_net g
  pub valid : IsValid shown.net
  pub nodes : numbers_of_nodes shown.nodes ≡ node_numbers g
  pub edges : numbers_of_edges shown.edges ≡ edge_numbers g
  pub places : shown.places ≡ node_numbers g
