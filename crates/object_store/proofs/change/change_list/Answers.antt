-- The list has the item, and then has as the change says.
use Rattle.std.proofs.Common.{ap, subst, sym}
use Rattle.object_store.specs.declared.change.Change.{Change}
use Rattle.item_list.specs.Items.{Items}
use Rattle.object_store.specs.declared.object.Entry.{Entry}
use Rattle.object_store.specs.declared.object.Object.TheVariants as held
use Rattle.object_store.specs.Change.{Allows, IsChanged}
use Rattle.object_store.proofs.Changes.{list_written, list_turned}
use Rattle.object_store.proofs.Going.{list_lacks}
use Rattle.object_store.proofs.change.change_list.Goals as goal

pub unreachable-requires : goal.unreachable-requires
unreachable-requires c =
    let a = subst (λ (change : Change). Allows change (held.List c.args.list.now)) c.in-Write.is c.requires in
    list_lacks c.in-Write.item.serial c.args.list.now a.0 a.1 c.in-Err.ensures.0.0

pub returns-in-Ok : goal.returns-in-Ok
returns-in-Ok c =
    subst (λ (change : Change). IsChanged change (held.List c.args.list.now) (held.List c.assign.new.self)) (sym c.in-Write.is)
    (list_written c.in-Write.item c.in-Write.entry c.in-Ok.field-0 c.args.list.now c.assign.new.self c.in-Ok.ensures)

pub returns-in-Turn : goal.returns-in-Turn
returns-in-Turn c =
    let l = c.args.list.now in
    let t = c.reverse_items.new.self in
    subst (λ (change : Change). IsChanged change (held.List l) (held.List t)) (sym c.in-Turn.is)
    (list_turned l t (ap (λ (u : Items Entry). u.pairs) c.reverse_items.ensures) (ap (λ (u : Items Entry). u.made) c.reverse_items.ensures))
