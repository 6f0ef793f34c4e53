-- The ends of a visible edge are visible.
use Rattle.std.proofs.Common.{sym, subst}
use Rattle.graph_state.specs.Names.{Has}
use Rattle.hide_restore.specs.Net.{node_numbers}
use Rattle.hide_restore.proofs.Visible.{ends_seen}
use Rattle.hide_restore.proofs.shown.arc.Goals as goal

pub unreachable-requires-in_default-place : goal.unreachable-requires-in_default-place
unreachable-requires-in_default-place c =
    let seen = (ends_seen c.args.g.now c.requires.formed c.args.e.0.serial c.requires.visible).0 in
    c.in_default-place.ensures (subst (Has c.in-Ok-Ok.from.0.serial) (sym c.requires.places) (subst (λ v. Has v (node_numbers c.args.g.now)) (sym c.in-Ok-Ok.ensures.node) seen))

pub unreachable-requires-in_default-place-2 : goal.unreachable-requires-in_default-place-2
unreachable-requires-in_default-place-2 c =
    let seen = (ends_seen c.args.g.now c.requires.formed c.args.e.0.serial c.requires.visible).1 in
    c.in_default-place-2.ensures (subst (Has c.in-Ok-Ok.to.0.serial) (sym c.requires.places) (subst (λ v. Has v (node_numbers c.args.g.now)) (sym c.in-Ok-Ok.ensures'.node) seen))
