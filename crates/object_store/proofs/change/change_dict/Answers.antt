-- The dictionary has the item, which then has the information.
use Rattle.std.proofs.Common.{subst, sym}
use Rattle.object_store.specs.declared.change.Change.{Change}
use Rattle.object_store.specs.declared.object.Object.TheVariants as held
use Rattle.object_store.specs.Change.{Allows, IsChanged}
use Rattle.object_store.proofs.Changes.{dict_written}
use Rattle.object_store.proofs.Going.{dict_lacks}
use Rattle.object_store.proofs.change.change_dict.Goals as goal

pub unreachable-requires : goal.unreachable-requires
unreachable-requires c =
    let a = subst (λ (change : Change). Allows change (held.Dict c.args.dict.now)) c.in-Write.is c.requires in
    dict_lacks c.in-Write.item.serial c.args.dict.now a.0 a.1 c.in-Err.ensures.0.0

pub returns : goal.returns
returns c =
    let a = subst (λ (change : Change). Allows change (held.Dict c.args.dict.now)) c.in-Write.is c.requires in
    subst (λ (change : Change). IsChanged change (held.Dict c.args.dict.now) (held.Dict c.change_inf.new.self)) (sym c.in-Write.is)
    (dict_written c.in-Write.item c.in-Write.entry c.in-Ok.field-0 c.args.dict.now c.change_inf.new.self c.in-Ok.ensures.0 a c.in-Ok.ensures.1)
