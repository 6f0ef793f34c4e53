-- The row has the values of the items gone by.
use Rattle.std.proofs.Common.{map, take}
use Rattle.object_store.specs.Inner.{sort_values}
use Rattle.object_store.specs.Listed.{AreValues}
use Rattle.object_store.proofs.listed.values_of.Given as goal

abbrev pub invariant-loop-v : goal.invariant-loop-v
invariant-loop-v g l = AreValues (sort_values l.values) (map g.E.GraphItem.number (take l.v-index l.items)) l.row
