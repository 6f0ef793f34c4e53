-- The neighbour, or else the other end of the ring.
use Rattle.std.proofs.Common.{Some, unwrap_or, ap, ◌∙◌}
use Rattle.std.specs.Option.{option_or}
use Rattle.item_ring.specs.RingLists.{ring, back}
use Rattle.item_ring.proofs.Looks.{cyclic_back, stands_linked}
use Rattle.item_ring.proofs.rings.Rings.cyclic_prev.Goals as goal

pub returns-clause-prev : goal.returns-clause-prev
returns-clause-prev c = λ h before behind b.
    let s = c.args.self.now in
    let m = c.args.m in
    let same = c.head_of.ensures.apart.one_ring c.head_of.result h m c.head_of.ensures.head (stands_linked s h m before behind b) in
    let other = c.last-last.ensures.last ∙ ap (λ k. back (ring s k)) same ∙ ap back b.is in
    let near = c.prev.ensures.prev h before behind b in
    ap Some (c.unwrap_or.ensures ∙ ap (λ o. unwrap_or o m) (c.or.ensures ∙ (λ i. option_or (near i) (other i)))) ∙ cyclic_back m before behind
