-- The table has the values that were set.
use Rattle.std.proofs.Common.{rules, w64, ◌≡◌, unwrap_or, sym, ap, subst, ◌∙◌}
use Rattle.std.specs.Prelude.{FitsSigned}
use Rattle.std.proofs.lemmas.Int.{to_z-of_z}
use Rattle.node_maps.specs.Contents.{value_in}
use Rattle.node_maps.proofs.Hashed.{get_set}
use Rattle.node_maps.proofs.map.ElementMap.get.Goals as goal

pub returns-in-Some : goal.returns-in-Some
returns-in-Some g c =
    let m = c.self.inside in
    let n = c.item.result.serial in
    let fits : FitsSigned w64 c.in-Some.value.now = search rules in (
      c.in_ok-see_live.ensures.live,
      to_z-of_z w64 c.in-Some.value.now fits ∙ subst (λ k. c.in-Some.value.now ≡ value_in c.args.self.now k) c.item.ensures
          (subst (λ s. c.in-Some.value.now ≡ value_in s n) c.self.view_is (sym (ap (λ o. unwrap_or o m.default) (get_set m.values n ∙ sym c.in-Some.ensures.value)))),
    )

pub returns-in-None : goal.returns-in-None
returns-in-None g c =
    let m = c.self.inside in
    let n = c.item.result.serial in
    let fits : FitsSigned w64 m.default = search rules in (
      c.in_ok-see_live.ensures.live,
      to_z-of_z w64 m.default fits ∙ subst (λ k. m.default ≡ value_in c.args.self.now k) c.item.ensures
          (subst (λ s. m.default ≡ value_in s n) c.self.view_is (sym (ap (λ o. unwrap_or o m.default) (get_set m.values n ∙ sym c.in-None.ensures.value)))),
    )
