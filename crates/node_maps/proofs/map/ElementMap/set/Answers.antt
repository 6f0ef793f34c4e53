-- The table gets the value, or is as before.
use Rattle.std.proofs.Common.{w64, to_z, of_z, ◌≡◌, None, ap, subst, ◌∙◌}
use Rattle.std.specs.Prelude.{ℤ}
use Rattle.std.specs.FinMap as map
use Rattle.std.proofs.lemmas.Int.{to_z-of_z}
use Rattle.node_maps.specs.Contents.{with_set}
use Rattle.node_maps.proofs.Hashed.{get_set, put_is}
use Rattle.node_maps.proofs.map.ElementMap.set.Goals as goal

pub returns-clause-ok : goal.returns-clause-ok
returns-clause-ok g c =
    let m = c.self.inside in
    put_is m.default m.values c.insert.new.self c.item.result.serial (to_z w64 (of_z w64 c.args.value)) c.in-Ok.ensures.updates
    ∙ ap (with_set c.item.result.serial (to_z w64 (of_z w64 c.args.value))) c.self.view_is
    ∙ ap (λ (z : ℤ). with_set c.item.result.serial z c.args.self.now) (to_z-of_z w64 c.args.value c.ranges.value)
    ∙ ap (λ k. with_set k c.args.value c.args.self.now) c.item.ensures

pub returns-in_default-clause-err : goal.returns-in_default-clause-err
returns-in_default-clause-err g c =
    let m = c.self.inside in
    let n = c.item.result.serial in (
      c.in_ok-see_live.ensures.live,
      subst (λ k. map.get c.args.self.now.values k ≡ None) c.item.ensures
          (subst (λ s. map.get s.values n ≡ None) c.self.view_is (get_set m.values n ∙ c.in_default.ensures.absent)),
    )
