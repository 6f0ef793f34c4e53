-- The neighbour, or else the other end of the ring.
use Rattle.std.proofs.Common.{Some, unwrap_or, ap, ◌∙◌}
use Rattle.std.specs.Option.{option_or}
use Rattle.item_ring.specs.RingLists.{ring, front}
use Rattle.item_ring.proofs.Looks.{cyclic_front, stands_linked}
use Rattle.item_ring.proofs.rings.Rings.cyclic_next.Goals as goal

pub returns-clause-next : goal.returns-clause-next
returns-clause-next c = λ h before behind b.
    let s = c.args.self.now in
    let m = c.args.m in
    let same = c.head_of.ensures.apart.one_ring c.head_of.result h m c.head_of.ensures.head (stands_linked s h m before behind b) in
    let other = c.first-first.ensures.first ∙ ap (λ k. front (ring s k)) same ∙ ap front b.is in
    let near = c.next.ensures.next h before behind b in
    ap Some (c.unwrap_or.ensures ∙ ap (λ o. unwrap_or o m) (c.or.ensures ∙ (λ i. option_or (near i) (other i)))) ∙ cyclic_front m before behind
