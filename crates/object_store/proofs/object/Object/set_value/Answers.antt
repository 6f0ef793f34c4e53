-- The values serve the graph, and one is another, or none is.
use Rattle.std.proofs.Common.{◌≡◌, true, Result, Ok, Err, IfErr, OnErr, OnOk, ap, sym, subst, ◌∙◌, w64, to_z, of_z}
use Rattle.std.proofs.lemmas.Int.{to_z-of_z}
use Rattle.object_store.specs.declared.object.Object.{Object}
use Rattle.object_store.specs.declared.object.Object.TheVariants as held
use Rattle.object_store.specs.declared.values.SetRefusal.{SetRefusal}
use Rattle.object_store.specs.Elements.{element_kinds, element_number}
use Rattle.object_store.specs.Inner.{kind_of, seen, valuation, values_in}
use Rattle.object_store.specs.Served.{Serves}
use Rattle.object_store.specs.Views.{is_of}
use Rattle.object_store.specs.Serving.{IsGiven, IsSet, IsUnset, Untold}
use Rattle.object_store.proofs.Valued.{serving_values, value_given}
use Rattle.object_store.proofs.object.Object.set_value.Goals as goal

pub returns-clause-ok : goal.returns-clause-ok
returns-clause-ok c =
    let e = c.args.element in
    let v = c.in-Values.values in
    let w = c.set.new.self in
    elim c.set.result as (λ (r : Result Unit SetRefusal). OnOk r (IsSet (valuation v) (valuation w) (element_number e) (to_z w64 (of_z w64 c.args.value))) → OnOk r (IsGiven e c.args.value c.args.self.now (held.Values w))) [
      | Ok u ↦ λ h. value_given e c.args.value c.args.self.now v w c.in-Values.is c.set.ensures.kind (subst (λ x. IsSet (valuation v) (valuation w) (element_number e) x) (to_z-of_z w64 c.args.value c.ranges.value) h)
      | Err why ↦ λ h. h
    ] c.set.ensures.ok

pub returns-clause-err : goal.returns-clause-err
returns-clause-err c =
    let e = c.args.element in
    let v = c.in-Values.values in
    elim c.set.result as (λ (r : Result Unit SetRefusal). IfErr r (IsUnset (valuation v) (element_number e)) → IfErr r (Untold e c.args.self.now)) [
      | Ok u ↦ λ h. h
      | Err why ↦ λ h. record { values = valuation v; has = ap values_in c.in-Values.is; unset = h }
    ] c.set.ensures.err

pub returns-clause-same : goal.returns-clause-same
returns-clause-same c =
    let v = c.in-Values.values in
    let w = c.set.new.self in
    elim c.set.result as (λ (r : Result Unit SetRefusal). OnErr r (w ≡ v) → OnErr r (held.Values w ≡ c.args.self.now)) [
      | Ok u ↦ λ h. h
      | Err why ↦ λ h. ap held.Values h ∙ sym c.in-Values.is
    ] c.set.ensures.same

pub set-requires-clause-serves : goal.set-requires-clause-serves
set-requires-clause-serves c =
    serving_values c.args.g.now c.args.element c.in-Values.values
    (subst (λ (o : Object). is_of (element_kinds c.args.element) (kind_of o) ≡ true) c.in-Values.is c.requires.can.kind)
    (subst (λ (o : Object). Serves c.args.g.now (seen o)) c.in-Values.is c.requires.can.serves)
