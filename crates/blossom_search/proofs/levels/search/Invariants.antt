use Rattle.blossom_search.specs.Levels.{AreLevels, top_net}
use Rattle.blossom_search.proofs.levels.search.Given as goal

abbrev pub invariant-loop-shrunk : goal.invariant-loop-shrunk
invariant-loop-shrunk l = AreLevels l.net l.m.edges l.shrunk.items

abbrev pub decreases-loop-shrunk : goal.decreases-loop-shrunk
decreases-loop-shrunk l = (top_net l.net l.shrunk.items).n
