-- An empty map has no entries.
use Rattle.std.proofs.Common.{map, ap, ◌∙◌}
use Rattle.std.specs.Ordering.{nat_cmp, int_cmp}
use Rattle.std.specs.FinMap as finmap
use Rattle.item_dict.specs.Contents.{Contents}
use Rattle.item_queue.specs.Contents.{Queued}
use Rattle.object_store.specs.declared.object.Entry.{Entry}
use Rattle.object_store.specs.Inner.{dict_cell, queue_cell}
use Rattle.object_store.proofs.Entries.{entries_empty}
use Rattle.object_store.proofs.object.Object.new.Goals as goal

pub returns-in-Dict-clause-empty : goal.returns-in-Dict-clause-empty
returns-in-Dict-clause-empty c =
    ap (λ (d : Contents Entry). map dict_cell (finmap.entries d.triples)) c.new-in-Dict.ensures ∙ ap (map dict_cell) (entries_empty int_cmp)

pub returns-in-Queue-clause-empty : goal.returns-in-Queue-clause-empty
returns-in-Queue-clause-empty c =
    ap (λ (q : Queued Entry). map queue_cell (finmap.entries q.live)) c.new-in-Queue.ensures ∙ ap (map queue_cell) (entries_empty nat_cmp)
