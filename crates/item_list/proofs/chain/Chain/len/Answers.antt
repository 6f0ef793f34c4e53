-- There are as many members as pairs.
use Rattle.std.proofs.Common.{length, ap, subst, ◌∙◌}
use Rattle.item_list.specs.Items.{Items, AreItems}
use Rattle.item_list.proofs.Steps.{len_is, is_whole}
use Rattle.item_list.proofs.chain.Chain.len.Goals as goal

pub returns-in-Some-clause-len : goal.returns-in-Some-clause-len
returns-in-Some-clause-len g c =
    let a = c.self.inside in
    c.len.ensures.len ∙ len_is a.rings a.head a.nodes c.self.invariant c.in-Some.ring c.in-Some.is ∙ ap (λ (l : Items g.row.E.Denot). length l.pairs) c.self.view_is

pub returns-in-Some-clause-whole : goal.returns-in-Some-clause-whole
returns-in-Some-clause-whole g c =
    let a = c.self.inside in
    subst (λ (l : Items g.row.E.Denot). AreItems l) c.self.view_is (is_whole a.rings a.head a.nodes c.self.invariant)
