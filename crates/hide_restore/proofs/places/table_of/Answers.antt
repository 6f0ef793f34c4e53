-- Each number gets its place, and none gets that of another.
use Rattle.std.proofs.Common.{rules}
use Rattle.hide_restore.proofs.Numbers.{table_more}
use Rattle.hide_restore.proofs.places.table_of.Goals as goal

pub index_mut-requires : goal.index_mut-requires
index_mut-requires c =
    let below = c.requires.most c.loop-place.place 0 c.loop-place-test.true in
    let long = c.loop-place.invariant.long in
    search rules

pub loop-place-preserved : goal.loop-place-preserved
loop-place-preserved c = table_more c.args.numbers.now c.args.most c.loop-place.place c.loop-place.table.items c.loop-place.invariant c.requires.once c.requires.most (search rules)
