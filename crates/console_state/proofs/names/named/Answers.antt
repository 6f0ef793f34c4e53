use Rattle.std.proofs.Common.{map, ap, ◌∙◌}
use Rattle.graph_state.specs.declared.item.NodeItem.{NodeItem}
use Rattle.console_state.proofs.names.named.Goals as goal

pub returns-clause-nodes : goal.returns-clause-nodes
returns-clause-nodes c = c.in_ok-nodes.ensures ∙ ap (map (λ (v : NodeItem). v.0.serial)) c.as_slice.ensures
