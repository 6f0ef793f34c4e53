-- A member is linked into one ring.
use Rattle.std.proofs.Common.{◌≡◌, subst}
use Rattle.std.specs.FinMap as map
use Rattle.item_ring.specs.RingLists.{ring, with_after}
use Rattle.item_ring.proofs.rings.Rings.insert_after.Goals as goal

pub returns-clause-rings : goal.returns-clause-rings
returns-clause-rings c = λ h l.
    let s = c.args.self.now in
    let same = c.head_of-h.ensures.apart.one_ring c.head_of-h.result h c.args.at c.head_of-h.ensures.head l in
    subst (λ k. c.tie.new.self.rings ≡ map.insert s.rings k (with_after c.args.at c.args.m (ring s k))) same c.tie.ensures.rings
