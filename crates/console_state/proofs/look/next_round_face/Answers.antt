use Rattle.std.proofs.Common.{ap, sym, ◌∙◌}
use Rattle.console_state.specs.Look.{tells}
use Rattle.console_state.proofs.Looks.{face_line}
use Rattle.console_state.proofs.look.next_round_face.Goals as goal

pub returns-in-Ok-face_succ-clause-ok : goal.returns-in-Ok-face_succ-clause-ok
returns-in-Ok-face_succ-clause-ok c =
    face_line c.args.graph.now c.args.edge c.in-Ok.item.0.serial c.in-Ok-face_succ.next c.edge_item.ensures.formed c.in-Ok.ensures.item.0 c.in-Ok-face_succ.ensures.edge
    ∙ sym (ap tells c.edge_line.ensures)
