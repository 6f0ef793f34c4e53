-- The element is covered, and has the value.
use Rattle.std.proofs.Common.{subst, w64, ◌≡◌}
use Rattle.std.proofs.lemmas.Int.{to_z-of_z}
use Rattle.node_maps.specs.Contents.{with_set, with_value}
use Rattle.object_store.proofs.Valued.{array_set, map_set}
use Rattle.object_store.proofs.values.SortValues.set.Goals as goal

pub returns-in-Ok-clause-ok : goal.returns-in-Ok-clause-ok
returns-in-Ok-clause-ok g c =
    let n = g.E.GraphItem.number c.args.v in
    array_set c.args.self.now c.in-Array.array c.set.new.self n c.args.value c.in-Array.is c.in-Ok.ensures.covered.1
    (subst (λ x. c.set.new.self ≡ with_value n x c.in-Array.array) (to_z-of_z w64 c.args.value c.ranges.value) c.in-Ok.ensures.ok)

pub returns-in-Ok-set-clause-ok : goal.returns-in-Ok-set-clause-ok
returns-in-Ok-set-clause-ok g c =
    let n = g.E.GraphItem.number c.args.v in
    map_set c.args.self.now c.in-Map.map c.set-in-Map.new.self n c.args.value c.in-Map.is
    (subst (λ x. c.set-in-Map.new.self ≡ with_set n x c.in-Map.map) (to_z-of_z w64 c.args.value c.ranges.value) c.in-Ok-set.ensures.ok)
