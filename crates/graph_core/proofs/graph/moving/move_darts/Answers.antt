-- The back dart still stands where it was, once the front one is taken.
use Rattle.std.proofs.Common.{sym, subst}
use Rattle.graph_state.specs.declared.name.Element.TheVariants.{End}
use Rattle.graph_state.specs.State.{front, back}
use Rattle.graph_state.specs.Names.{Has}
use Rattle.graph_lists.specs.Named.{list_at}
use Rattle.graph_core.proofs.Hiding.{front_back}
use Rattle.graph_core.proofs.Relocated.{unlinked_has}
use Rattle.graph_core.proofs.graph.moving.move_darts.Goals as goal

pub unlink-requires-2-clause-there : goal.unlink-requires-2-clause-there
unlink-requires-2-clause-there c =
    let e = c.args.e in
    let l = c.requires.parts.2 in
    (l, subst (λ n. Has (End (back e)) (list_at n l)) (sym c.unlink.ensures.named) (unlinked_has c.args.lists.now.named (End (front e)) (End (back e)) l (λ i. front_back e (sym i)) c.requires.parts.3.second_in))
