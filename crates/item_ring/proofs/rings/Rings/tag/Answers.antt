-- A member's node keeps its tag.
use Rattle.std.proofs.Common.{◌≡◌, true, Some, sym, subst, ap, ◌∙◌}
use Rattle.std.specs.FinMap as map
use Rattle.item_ring.specs.declared.block.Cell.{Cell}
use Rattle.item_ring.proofs.Apart.{tag_is, tagged_used}
use Rattle.item_ring.proofs.rings.Rings.tag.Goals as goal

pub get-requires : goal.get-requires
get-requires c =
    let a = c.self.inside in
    let e = subst (λ k. map.contains_key a.seen.view.tags k ≡ true) (sym c.m.view_is) (subst (λ x. map.contains_key x.tags c.args.m ≡ true) (sym c.self.view_is) c.requires) in
    tagged_used a.nodes a.seen.view c.self.invariant.rings c.m.inside.slot e

pub returns : goal.returns
returns c =
    let a = c.self.inside in
    let e = subst (λ k. map.contains_key a.seen.view.tags k ≡ true) (sym c.m.view_is) (subst (λ x. map.contains_key x.tags c.args.m ≡ true) (sym c.self.view_is) c.requires) in
    let is = tag_is a.nodes a.seen.view c.self.invariant.rings c.m.inside.slot e ∙ ap Some (sym (ap (λ (x : Cell). x.value) c.get.ensures)) in
    let at_m = subst (λ k. map.get a.seen.view.tags k ≡ Some c.get.result.value) c.m.view_is is in
    subst (λ x. map.get x.tags c.args.m ≡ Some c.get.result.value) c.self.view_is at_m
