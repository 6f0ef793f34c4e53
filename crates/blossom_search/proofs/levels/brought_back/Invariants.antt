use Rattle.std.proofs.Common.{length}
use Rattle.blossom_search.specs.Forest.{IsOutcome}
use Rattle.blossom_search.specs.Levels.{AreLevels, top_net, top_edges}
use Rattle.blossom_search.proofs.levels.brought_back.Given as goal

abbrev pub invariant-loop-last : goal.invariant-loop-last
invariant-loop-last l = AreLevels l.net l.m.edges l.shrunk.items × IsOutcome (top_net l.net l.shrunk.items) (top_edges l.m.edges l.shrunk.items) l.outcome

abbrev pub decreases-loop-last : goal.decreases-loop-last
decreases-loop-last l = length l.shrunk.items
