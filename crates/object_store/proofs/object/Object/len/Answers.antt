-- There are as many items as entries of the map.
use Rattle.std.proofs.Common.{map, length, sym, ap, ◌∙◌}
use Rattle.std.specs.FinMap as finmap
use Rattle.object_store.specs.declared.object.Object.{Object}
use Rattle.object_store.specs.Inner.{cell_in, cells_in, dict_cell, queue_cell}
use Rattle.object_store.proofs.Entries.{length_of}
use Rattle.object_store.proofs.object.Object.len.Goals as goal

pub returns-in-Dict : goal.returns-in-Dict
returns-in-Dict c =
    let es = finmap.entries c.in-Dict.dict.triples in
    c.len-in-Dict.ensures.len ∙ finmap.len-entries c.in-Dict.dict.triples
    ∙ sym (length_of cell_in (map dict_cell es) ∙ length_of dict_cell es)
    ∙ ap (λ (o : Object). length (cells_in o)) (sym c.in-Dict.is)

pub returns-in-Queue : goal.returns-in-Queue
returns-in-Queue c =
    let es = finmap.entries c.in-Queue.queue.live in
    c.len-in-Queue.ensures ∙ finmap.len-entries c.in-Queue.queue.live
    ∙ sym (length_of cell_in (map queue_cell es) ∙ length_of queue_cell es)
    ∙ ap (λ (o : Object). length (cells_in o)) (sym c.in-Queue.is)
