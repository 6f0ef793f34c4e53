-- The queue has an entrance.
use Rattle.std.proofs.Common.{true, subst, w64}
use Rattle.std.specs.Prelude.{ℤ}
use Rattle.std.proofs.lemmas.Int.{to_z-of_z}
use Rattle.object_store.specs.declared.entrance.Entrance.TheVariants.{Priority}
use Rattle.object_store.specs.Commands.{enters, next, on_object}
use Rattle.object_store.specs.Entrance.{entrance_kinds, put_in, values_of}
use Rattle.object_store.specs.Leads.{Leads}
use Rattle.object_store.proofs.objects.Objects.queue_insert.Goals as goal

pub returns-clause-leads : goal.returns-clause-leads
returns-clause-leads c =
    let s = c.args.self.now in
    let name = c.args.name.now in
    let row = λ (p v : ℤ). on_object s (entrance_kinds (Priority p)) name (λ o. enters name o (put_in (Priority p) (next (values_of (Priority p) v) s) o.cells) s) in
    subst (λ given. Leads true given s c.put_in.result c.put_in.new.self)
    (λ j. row (to_z-of_z w64 c.args.priority c.ranges.priority j) (to_z-of_z w64 c.args.value c.ranges.value j))
    c.put_in.ensures.leads
