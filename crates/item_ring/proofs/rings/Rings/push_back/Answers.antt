-- The last of the ring stands in it, and nothing follows.
use Rattle.std.proofs.Common.{[], ◌++◌, sym, ap, subst, ◌∙◌}
use Rattle.std.specs.FinMap as map
use Rattle.item_ring.specs.RingLists.{IsDistinct, ring}
use Rattle.item_ring.specs.Turns.{with_behind}
use Rattle.item_ring.proofs.Lists.{append_none, back_in, behind_back}
use Rattle.item_ring.proofs.rings.Rings.push_back.Goals as goal

pub tie-requires-clause-behind : goal.tie-requires-clause-behind
tie-requires-clause-behind c = λ x e. back_in (ring c.args.self.now c.args.h) x (sym c.last-last.ensures.last ∙ e)

pub returns-clause-rings : goal.returns-clause-rings
returns-clause-rings c =
    let s = c.args.self.now in
    let xs = ring s c.args.h in
    let none = append_none xs in
    let whole = subst IsDistinct (sym none) (c.last-last.ensures.apart.distinct c.args.h c.requires.head) in
    let put = ap (with_behind c.last-last.result c.args.m) (sym none) ∙ ap (λ o. with_behind o c.args.m (xs ++ [])) c.last-last.ensures.last ∙ behind_back c.args.m xs [] whole in
    c.tie.ensures.rings ∙ ap (map.insert s.rings c.args.h) put
