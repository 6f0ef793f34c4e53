use Rattle.std.proofs.Common.{◌≡◌, heap_items, heap_len}
use Rattle.sp_search.specs.Waiting.{AreWaiting}
use Rattle.sp_search.proofs.labels.Labels.take_least.Given as goal

abbrev pub invariant-loop-least : goal.invariant-loop-least
invariant-loop-least l = AreWaiting (heap_items l.self-inside.heap) l.self-inside.entries.items × (l.self-inside.entries.items ≡ l.fn.self)

abbrev pub decreases-loop-least : goal.decreases-loop-least
decreases-loop-least l = heap_len l.self-inside.heap
