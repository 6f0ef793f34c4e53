use Rattle.sp_search.specs.Tags.{IsTagged}
use Rattle.sp_search.proofs.Bounds.{left}
use Rattle.sp_search.proofs.rounds.settle.Given as goal

abbrev pub invariant-loop-tags : goal.invariant-loop-tags
invariant-loop-tags l = IsTagged l.net l.s l.cost l.shut l.tags.items

abbrev pub decreases-loop-tags : goal.decreases-loop-tags
decreases-loop-tags l = left l.tags.items
