use Rattle.std.proofs.Common.{◌≡◌, map, take}
use Rattle.sp_search.specs.Telling.{low_of}
use Rattle.sp_search.proofs.telling.lows_of.Given as goal

abbrev pub invariant-loop-found : goal.invariant-loop-found
invariant-loop-found l = l.low ≡ map low_of (take l.found-index l.queue)
