-- The object of the name has the item that is sought.
use Rattle.std.proofs.Common.{Some, sym, ◌∙◌}
use Rattle.object_store.proofs.Finding.{found_row}
use Rattle.object_store.proofs.objects.Objects.find.Goals as goal

pub returns-clause-leads : goal.returns-clause-leads
returns-clause-leads c =
    found_row c.args.self.now c.args.what c.args.name.now c.number_sought.result c.number_sought.ensures
    ∙ (λ j. Some (c.args.self.now, sym c.number_reply.ensures.value j))
