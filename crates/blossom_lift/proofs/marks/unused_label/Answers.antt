use Rattle.blossom_lift.proofs.Steps.{some_unmarked}
use Rattle.blossom_lift.proofs.marks.unused_label.Goals as goal

pub first_unmarked-requires-clause-some : goal.first_unmarked-requires-clause-some
first_unmarked-requires-clause-some c = some_unmarked c.args.labels.now c.in_ok-marks.marks.items c.as_slice.result.now c.in_ok-marks.ensures c.as_slice.ensures.value
