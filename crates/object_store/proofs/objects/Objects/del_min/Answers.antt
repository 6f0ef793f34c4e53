-- The least item goes, if there is one.
use Rattle.std.proofs.Common.{subst, inr}
use Rattle.object_store.specs.declared.near.Sought.TheVariants.{Least}
use Rattle.object_store.specs.Finds.{Finds}
use Rattle.object_store.proofs.Putting.{item_there, least_held, min_known, min_none}
use Rattle.object_store.proofs.objects.Objects.del_min.Goals as goal

pub read-priority-requires : goal.read-priority-requires
read-priority-requires c =
    least_held c.args.self.now c.args.name.now c.in-Some.number (subst (λ r. Finds c.args.self.now Least c.args.name.now r) c.in-Some.is c.number_sought.ensures)

pub del_item-requires : goal.del_item-requires
del_item-requires c =
    item_there c.args.self.now Least c.args.name.now c.in-Some.number (subst (λ r. Finds c.args.self.now Least c.args.name.now r) c.in-Some.is c.number_sought.ensures)

pub returns-in-Some-clause-leads : goal.returns-in-Some-clause-leads
returns-in-Some-clause-leads c =
    let s = c.args.self.now in
    let f = subst (λ r. Finds s Least c.args.name.now r) c.in-Some.is c.number_sought.ensures in
    inr (min_known s c.args.name.now c.in-Some.number f c.del_item.new.self c.read-priority.result c.del_item.result c.read-priority.ensures.leads c.del_item.ensures.leads)

pub returns-in-None-clause-leads : goal.returns-in-None-clause-leads
returns-in-None-clause-leads c =
    inr (min_none c.args.self.now c.args.name.now (subst (λ r. Finds c.args.self.now Least c.args.name.now r) c.in-None.is c.number_sought.ensures))
