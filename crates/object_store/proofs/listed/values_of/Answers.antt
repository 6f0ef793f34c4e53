-- The row gets the value of one item after another.
use Rattle.std.proofs.Common.{rules, w64, to_z, of_z, Option, subst}
use Rattle.std.specs.Prelude.{ℤ, FitsSigned}
use Rattle.std.proofs.lemmas.Int.{to_z-of_z}
use Rattle.object_store.specs.Inner.{sort_values}
use Rattle.object_store.specs.Serving.{IsTold}
use Rattle.object_store.proofs.ValuesListed.{number_at_index, values_next, uncovered_at}
use Rattle.object_store.proofs.listed.values_of.Goals as goal

pub get-requires-clause-live : goal.get-requires-clause-live
get-requires-clause-live g c =
    let f = g.E.GraphItem.number in
    c.requires.live (f c.v-item.result) (number_at_index f c.args.items.now c.loop-v.v-index c.v-item.result c.loop-v-test.true c.v-item.is)

pub returns-in-None : goal.returns-in-None
returns-in-None g c =
    let f = g.E.GraphItem.number in (
      f c.v-item.result,
      c.name.ensures,
      uncovered_at f (sort_values c.args.values.now) c.args.items.now c.loop-v.v-index c.v-item.result c.loop-v.row c.loop-v-test.true c.v-item.is c.loop-v.invariant
          (subst (λ (r : Option ℤ). IsTold (sort_values c.args.values.now) (f c.v-item.result) r) c.in-None.is c.get.ensures),
    )

pub loop-v-preserved : goal.loop-v-preserved
loop-v-preserved g c =
    let fits : FitsSigned w64 c.in-Some.value = search rules in
    values_next g.E.GraphItem.number (sort_values c.args.values.now) c.args.items.now c.loop-v.v-index c.v-item.result c.loop-v.row c.push.new.self c.in-Some.value (to_z w64 (of_z w64 c.in-Some.value))
    c.loop-v-test.true c.v-item.is c.loop-v.invariant c.in-Some.ensures (to_z-of_z w64 c.in-Some.value fits) c.in_ok-push-in-Some.ensures.ok
