use Rattle.std.proofs.Common.{not}
use Rattle.std.specs.List.{count_by}
use Rattle.sp_search.proofs.Climbs.{IsClimbing}
use Rattle.sp_search.proofs.forest.climb.Given as goal

abbrev pub invariant-loop-seen : goal.invariant-loop-seen
invariant-loop-seen l = IsClimbing l.net l.tags l.marks l.from l.seen.items l.trail.items l.here

abbrev pub decreases-loop-seen : goal.decreases-loop-seen
decreases-loop-seen l = count_by not l.seen.items
