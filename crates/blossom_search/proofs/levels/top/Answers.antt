use Rattle.std.proofs.Common.{◌-◌, length, sym, ◌∙◌, ap, rules}
use Rattle.blossom_search.specs.declared.levels.Shrunk.{Shrunk}
use Rattle.blossom_search.proofs.Shrinks.{top_last_net, top_last_edges}
use Rattle.blossom_search.proofs.levels.top.Goals as goal

pub returns-in-Some-clause-net : goal.returns-in-Some-clause-net
returns-in-Some-clause-net c =
    ap (λ (s : Shrunk). s.level.net) c.in-Some.ensures.item.1 ∙ sym (top_last_net c.args.net.now c.args.shrunk.now (length c.args.shrunk.now - 1) c.in-Some.last.now (search rules))

pub returns-in-Some-clause-edges : goal.returns-in-Some-clause-edges
returns-in-Some-clause-edges c =
    ap (λ (s : Shrunk). s.level.matching.edges) c.in-Some.ensures.item.1 ∙ sym (top_last_edges c.args.m.now.edges c.args.shrunk.now (length c.args.shrunk.now - 1) c.in-Some.last.now (search rules))
