-- The count that the head keeps is that of its ring.
use Rattle.std.proofs.Common.{refl, sym, subst, ◌≡◌, true}
use Rattle.std.specs.FinMap as map
use Rattle.item_ring.specs.RingsHold.{lists_of}
use Rattle.item_ring.specs.RingLists.{IsHead, AreApart}
use Rattle.item_ring.proofs.Apart.{head_used, apart_all}
use Rattle.item_ring.proofs.rings.Rings.len.Goals as goal

pub get-requires : goal.get-requires
get-requires c =
    let a = c.self.inside in
    let e = subst (λ x. IsHead x c.args.h) (sym c.self.view_is) c.requires in
    head_used a.nodes a.seen.view c.self.invariant.rings c.h.inside.slot (subst (λ h. map.contains_key a.seen.view.rings h ≡ true) (sym c.h.view_is) e)

pub returns-clause-apart : goal.returns-clause-apart
returns-clause-apart c =
    let a = c.self.inside in
    subst AreApart c.self.view_is (apart_all a.nodes a.seen.view c.self.invariant.rings (lists_of a) refl refl refl)
