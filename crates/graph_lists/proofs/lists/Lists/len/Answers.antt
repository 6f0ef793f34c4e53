-- A ring is as long as its list.
use Rattle.std.proofs.Common.{◌≡◌, Bool, length, sym, ap, subst, ◌∙◌}
use Rattle.std.proofs.lemmas.List.{length-map}
use Rattle.graph_state.specs.declared.name.ListName.{ListName}
use Rattle.graph_lists.specs.Named.{Lists, seen_list}
use Rattle.graph_lists.specs.Heads.{IsHeadOf}
use Rattle.graph_lists.specs.Tied.{member}
use Rattle.graph_lists.proofs.Looks.{head_there, ring_at}
use Rattle.graph_lists.proofs.lists.Lists.len.Goals as goal

pub len-requires : goal.len-requires
len-requires c =
    let a = c.self.inside in
    let n = (subst (λ (o : Lists). (b : Bool) × ((l : ListName) × IsHeadOf o.named b l c.args.head)) (sym c.self.view_is) c.requires) in head_there a.seen.view a.rings c.self.invariant n.0 n.1.0 c.args.head n.1.1

pub returns : goal.returns
returns c b l is =
    let a = c.self.inside in
    let is' = (subst (λ (o : Lists). IsHeadOf o.named b l c.args.head) (sym c.self.view_is) is) in
    subst (λ (o : Lists). c.len.result ≡ length (seen_list o.named b l)) c.self.view_is
    (c.len.ensures.len ∙ ap length (ring_at a.seen.view a.rings c.self.invariant b l c.args.head is') ∙ length-map (seen_list a.seen.view b l) (member a.seen.view b))
