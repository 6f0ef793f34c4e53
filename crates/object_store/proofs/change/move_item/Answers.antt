-- The list has the item, which then stands at the end.
use Rattle.std.proofs.Common.{subst, sym}
use Rattle.object_store.specs.declared.change.Change.TheVariants.{Move}
use Rattle.object_store.specs.declared.entrance.End.{End}
use Rattle.object_store.specs.declared.object.Object.TheVariants as held
use Rattle.object_store.specs.Change.{IsChanged}
use Rattle.object_store.proofs.Changes.{list_moved_front, list_moved_rear}
use Rattle.object_store.proofs.Going.{list_lacks}
use Rattle.object_store.proofs.change.move_item.Goals as goal

pub unreachable-requires : goal.unreachable-requires
unreachable-requires c = list_lacks c.args.item.serial c.args.list.now c.requires.0 c.requires.1 c.in-Err.ensures.0.0

pub unreachable-requires-in-Err-move_to_rear : goal.unreachable-requires-in-Err-move_to_rear
unreachable-requires-in-Err-move_to_rear c = list_lacks c.args.item.serial c.args.list.now c.requires.0 c.requires.1 c.in-Err-move_to_rear.ensures.0.0

pub returns-in-Ok : goal.returns-in-Ok
returns-in-Ok c =
    subst (λ (end : End). IsChanged (Move c.args.item end) (held.List c.args.list.now) (held.List c.move_to_front.new.self)) (sym c.in-Front.is)
    (list_moved_front c.args.item c.args.list.now c.move_to_front.new.self c.in-Ok.ensures)

pub returns-in-Ok-move_to_rear : goal.returns-in-Ok-move_to_rear
returns-in-Ok-move_to_rear c =
    subst (λ (end : End). IsChanged (Move c.args.item end) (held.List c.args.list.now) (held.List c.move_to_rear.new.self)) (sym c.in-Rear.is)
    (list_moved_rear c.args.item c.args.list.now c.move_to_rear.new.self c.in-Ok-move_to_rear.ensures)
