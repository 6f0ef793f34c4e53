-- An array or a map shows no items.
use Rattle.std.proofs.Common.{map, sym, ap, ◌∙◌}
use Rattle.object_store.specs.declared.object.Object.{Object}
use Rattle.object_store.specs.Cells.{listed, shown}
use Rattle.object_store.specs.Inner.{kind_of_values, seen}
use Rattle.object_store.proofs.Listings.{none_listed}
use Rattle.object_store.proofs.object.Object.shown.Goals as goal

pub returns-in-Values : goal.returns-in-Values
returns-in-Values c =
    c.new.ensures
    ∙ ap (map shown) (sym (none_listed (kind_of_values c.in-Values.field-0)))
    ∙ ap (λ (o : Object). map shown (listed (seen o))) (sym c.in-Values.is)
