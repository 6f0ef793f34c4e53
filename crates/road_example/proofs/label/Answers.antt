-- The row has the bytes that were looked at.
use Rattle.std.proofs.Common.{sym, subst}
use Rattle.graph_state.specs.Formed.{IsLabel}
use Rattle.graph_state.proofs.Labels.{no_line}
use Rattle.road_example.proofs.label.Goals as goal

pub returns-in-Ok : goal.returns-in-Ok
returns-in-Ok c =
    let bytes = c.as_bytes-bytes.result.now in
    subst IsLabel (sym c.in-Ok.ensures)
    (record { few = c.if-bytes-gt-LABEL_LIMIT.false; line = no_line bytes (sym c.if-not-is_one_line.ensures) })
