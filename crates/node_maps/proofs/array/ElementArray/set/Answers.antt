-- The row gets the value, and the array goes on to serve.
use Rattle.std.proofs.Common.{w64, to_z, of_z, sym, ap, subst, ◌∙◌}
use Rattle.std.specs.Prelude.{ℤ}
use Rattle.std.proofs.lemmas.Int.{to_z-of_z}
use Rattle.node_maps.specs.Contents.{ArrayContents, IsServed, with_value}
use Rattle.node_maps.proofs.Served.{set_serves, value_put}
use Rattle.node_maps.proofs.array.ElementArray.set.Goals as goal

pub returns-clause-ok : goal.returns-clause-ok
returns-clause-ok g c =
    let n = c.item.result.serial in
    let x : ℤ = to_z w64 (of_z w64 c.args.value) in
    value_put c.self.inside.made c.self.inside.row c.set.new.self n x c.set.ensures
    ∙ ap (with_value n x) c.self.view_is
    ∙ ap (λ (z : ℤ). with_value n z c.args.self.now) (to_z-of_z w64 c.args.value c.ranges.value)
    ∙ ap (λ k. with_value k c.args.value c.args.self.now) c.item.ensures

pub returns-clause-served : goal.returns-clause-served
returns-clause-served g c =
    let live = g.E.GraphItem.live c.args.g.now in
    subst (λ (a : ArrayContents). IsServed a live) (sym (returns-clause-ok g c))
    (set_serves c.args.self.now live (g.E.GraphItem.number c.args.v) c.args.value c.requires)
