-- Neighbours in the ring are neighbours in the list.
use Rattle.std.proofs.Common.{◌≡◌, ◌∷◌, ◌++◌, map, sym, subst}
use Rattle.graph_state.specs.Names.{behind, before, first_of}
use Rattle.graph_lists.specs.Named.{Lists, seen_list}
use Rattle.graph_lists.specs.Heads.{IsHeadOf, IsMemberOf, Finds}
use Rattle.graph_lists.specs.Heads as heads
use Rattle.graph_lists.specs.Tied.{member}
use Rattle.graph_lists.proofs.Looks.{member_linked, stands, finds_next}
use Rattle.graph_lists.proofs.lists.Lists.next.Goals as goal

pub next-requires : goal.next-requires
next-requires c =
    let a = c.self.inside in
    member_linked a.seen.view a.rings c.self.invariant c.args.m (subst (λ (o : Lists). heads.IsLinked o.named c.args.m) (sym c.self.view_is) c.requires)

pub returns : goal.returns
returns c b l x before behind w is =
    let a = c.self.inside in
    let w' = (subst (λ (o : Lists). IsMemberOf o.named b x c.args.m) (sym c.self.view_is) w) in
    let is' = (subst (λ (o : Lists). seen_list o.named b l ≡ before ++ x ∷ behind) (sym c.self.view_is) is) in
    let s = stands a.seen.view a.rings c.self.invariant b l x before behind c.args.m is' w' in
    subst (λ (o : Lists). Finds o.named b c.next.result (first_of behind)) c.self.view_is
    (finds_next a.seen.view a.rings c.self.invariant b l x before behind c.args.m c.next.result is' w' (c.next.ensures.next s.0 (map (member a.seen.view b) before) (map (member a.seen.view b) behind) s.1))
