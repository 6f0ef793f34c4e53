-- The container has the item, and the others stay.
use Rattle.object_store.proofs.Going.{list_has, list_leaves, dict_has, dict_leaves, queue_has, queue_leaves}
use Rattle.object_store.proofs.object.Object.leave.Goals as goal

pub unreachable-requires : goal.unreachable-requires
unreachable-requires c = list_has c.args.item.serial c.args.self.now c.in-List.list c.in-List.is c.requires c.in-Err.ensures.0.0

pub unreachable-requires-in-Err-del_item : goal.unreachable-requires-in-Err-del_item
unreachable-requires-in-Err-del_item c = dict_has c.args.item.serial c.args.self.now c.in-Dict.dict c.in-Dict.is c.requires c.in-Err-del_item.ensures.0.0

pub unreachable-requires-in-Err-del_item-2 : goal.unreachable-requires-in-Err-del_item-2
unreachable-requires-in-Err-del_item-2 c = queue_has c.args.item.serial c.args.self.now c.in-Queue.queue c.in-Queue.is c.requires c.in-Err-del_item-2.ensures.0.0

pub returns-in-Ok : goal.returns-in-Ok
returns-in-Ok c = list_leaves c.args.item.serial c.args.self.now c.in-List.list c.del_item.new.self c.in-Ok.field-0 c.in-List.is c.in-Ok.ensures

pub returns-in-Ok-del_item : goal.returns-in-Ok-del_item
returns-in-Ok-del_item c = dict_leaves c.args.item.serial c.args.self.now c.in-Dict.dict c.del_item-in-Dict.new.self c.in-Ok-del_item.ensures.0 c.in-Ok-del_item.field-0 c.in-Dict.is c.in-Ok-del_item.ensures.1

pub returns-in-Ok-del_item-2 : goal.returns-in-Ok-del_item-2
returns-in-Ok-del_item-2 c = queue_leaves c.args.item.serial c.args.self.now c.in-Queue.queue c.del_item-in-Queue.new.self c.in-Ok-del_item-2.ensures.0 c.in-Ok-del_item-2.field-0 c.in-Queue.is c.in-Ok-del_item-2.ensures.1
