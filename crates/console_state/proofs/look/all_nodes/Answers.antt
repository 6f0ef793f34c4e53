use Rattle.std.proofs.Common.{map, ap, sym, ◌∙◌}
use Rattle.leda_base.specs.declared.ItemName.TheVariants as items
use Rattle.graph_state.specs.declared.item.NodeItem.{NodeItem}
use Rattle.graph_state.specs.State.{visible_nodes}
use Rattle.leda_base.specs.declared.ItemName.{ItemName}
use Rattle.reply_text.specs.declared.reply.ReplyLine.TheVariants.{Names}
use Rattle.std.specs.Prelude.{List}
use Rattle.console_state.specs.Look.{tells}
use Rattle.console_state.proofs.Looks.{node_names}
use Rattle.console_state.proofs.look.all_nodes.Goals as goal

pub returns-clause-ok : goal.returns-clause-ok
returns-clause-ok c = ap (λ (xs : List ItemName). tells (Names xs)) (sym (c.in_ok-names.ensures
    ∙ ap (map (λ (x : NodeItem). items.Node x.0.serial)) c.as_slice.ensures
    ∙ node_names c.in_ok-nodes.nodes (visible_nodes c.args.graph.now) c.in_ok-nodes.ensures))
