-- The values serve the graph, and tell what they have.
use Rattle.std.proofs.Common.{◌≡◌, true, ap, subst}
use Rattle.object_store.specs.declared.object.Object.{Object}
use Rattle.object_store.specs.Elements.{element_kinds}
use Rattle.object_store.specs.Inner.{kind_of, seen, valuation, values_in}
use Rattle.object_store.specs.Served.{Serves}
use Rattle.object_store.specs.Views.{is_of}
use Rattle.object_store.proofs.Valued.{serving_values}
use Rattle.object_store.proofs.object.Object.value.Goals as goal

pub get-requires-clause-serves : goal.get-requires-clause-serves
get-requires-clause-serves c =
    serving_values c.args.g.now c.args.element c.in-Values.values
    (subst (λ (o : Object). is_of (element_kinds c.args.element) (kind_of o) ≡ true) c.in-Values.is c.requires.can.kind)
    (subst (λ (o : Object). Serves c.args.g.now (seen o)) c.in-Values.is c.requires.can.serves)

pub returns : goal.returns
returns c = record { values = valuation c.in-Values.values; has = ap values_in c.in-Values.is; told = c.get.ensures }
