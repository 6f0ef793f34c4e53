-- The last member of the ring is that of the last element.
use Rattle.std.proofs.Common.{Bool, sym, ap, subst, ◌∙◌}
use Rattle.item_ring.specs.RingLists.{RingLists, IsLinkedIn, IsLoose}
use Rattle.item_ring.specs.RingLists as ring
use Rattle.graph_state.specs.declared.name.ListName.{ListName}
use Rattle.graph_state.specs.Names.{last_of}
use Rattle.graph_lists.specs.Named.{Lists, seen_list}
use Rattle.graph_lists.specs.Heads.{IsHeadOf, Finds}
use Rattle.graph_lists.proofs.Looks.{finds_last, head_there, ring_at, hooked_at}
use Rattle.graph_lists.proofs.lists.Lists.last.Goals as goal

pub last-requires : goal.last-requires
last-requires c =
    let a = c.self.inside in
    let n = (subst (λ (o : Lists). (b : Bool) × ((l : ListName) × IsHeadOf o.named b l c.args.head)) (sym c.self.view_is) c.requires) in head_there a.seen.view a.rings c.self.invariant n.0 n.1.0 c.args.head n.1.1

pub returns : goal.returns
returns c b l is =
    let a = c.self.inside in
    let is' = (subst (λ (o : Lists). IsHeadOf o.named b l c.args.head) (sym c.self.view_is) is) in
    subst (λ (o : Lists). Finds o.named b c.last.result (last_of (seen_list o.named b l))) c.self.view_is
    (subst (λ r. Finds a.seen.view b r (last_of (seen_list a.seen.view b l))) (sym (c.last.ensures.last ∙ ap ring.back (ring_at a.seen.view a.rings c.self.invariant b l c.args.head is')))
    (finds_last a.seen.view b (seen_list a.seen.view b l) (hooked_at a.seen.view a.rings c.self.invariant b l (seen_list a.seen.view b l) (λ x i. i))))
