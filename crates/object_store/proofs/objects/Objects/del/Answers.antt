-- The item of the key goes, if there is one.
use Rattle.std.proofs.Common.{false, subst, inr, w64}
use Rattle.std.proofs.lemmas.Int.{to_z-of_z}
use Rattle.object_store.specs.declared.near.Sought.TheVariants.{WithKey}
use Rattle.object_store.specs.Finds.{Finds}
use Rattle.object_store.specs.Leads.{Leads}
use Rattle.object_store.proofs.Putting.{del_known, del_none, item_there}
use Rattle.object_store.proofs.objects.Objects.del.Goals as goal

pub del_item-requires : goal.del_item-requires
del_item-requires c =
    let s = c.args.self.now in
    item_there s (WithKey c.args.key) c.args.name.now c.in-Some.number
    (subst (λ r. Finds s (WithKey c.args.key) c.args.name.now r) c.in-Some.is (subst (λ z. Finds s (WithKey z) c.args.name.now c.number_sought.result) (to_z-of_z w64 c.args.key c.ranges.key) c.number_sought.ensures))

pub returns-in-Some-clause-leads : goal.returns-in-Some-clause-leads
returns-in-Some-clause-leads c =
    let s = c.args.self.now in
    let f = subst (λ r. Finds s (WithKey c.args.key) c.args.name.now r) c.in-Some.is (subst (λ z. Finds s (WithKey z) c.args.name.now c.number_sought.result) (to_z-of_z w64 c.args.key c.ranges.key) c.number_sought.ensures) in
    subst (λ given. Leads false given s c.del_item.result c.del_item.new.self) (del_known s c.args.name.now c.args.key c.in-Some.number f) c.del_item.ensures.leads

pub returns-in-None-clause-leads : goal.returns-in-None-clause-leads
returns-in-None-clause-leads c =
    let s = c.args.self.now in
    let f = subst (λ r. Finds s (WithKey c.args.key) c.args.name.now r) c.in-None.is (subst (λ z. Finds s (WithKey z) c.args.name.now c.number_sought.result) (to_z-of_z w64 c.args.key c.ranges.key) c.number_sought.ensures) in
    inr (del_none s c.args.name.now c.args.key f)
