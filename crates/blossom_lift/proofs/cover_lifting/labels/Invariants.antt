use Rattle.std.proofs.Common.{◌≡◌, map, take}
use Rattle.blossom_lift.specs.Passes.{label_of}
use Rattle.blossom_lift.proofs.cover_lifting.labels.Given as goal

abbrev pub invariant-loop-image : goal.invariant-loop-image
invariant-loop-image l = l.lifted ≡ map (label_of l.cover l.hub l.label) (take l.image-index l.images)
