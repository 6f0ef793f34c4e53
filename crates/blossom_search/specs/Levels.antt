-- Private: a net, and the smaller nets that contracting one blossom after another gives.
use Rattle.std.specs.Prelude.{ℕ, List, [], ◌∷◌}
use Rattle.graph_defs.specs.declared.net.Net.{Net}
use Rattle.graph_defs.specs.Matching.{IsMatching}
use Rattle.graph_defs.specs.Net.{IsValid}
use Rattle.match_core.specs.Path.{HasStem}
use Rattle.blossom_lift.specs.Contraction.{inside, IsCycle, IsLevelOf}
use Rattle.blossom_search.specs.declared.levels.Shrunk.{Shrunk}

-- a blossom of a matching of the net, and the net where it is contracted, in which a stem leads to the
-- hub
pub record IsShrunk (net : Net) (edges : List ℕ) (s : Shrunk) : Type 0 where
  pub cycle : IsCycle net edges s.blossom.nodes s.blossom.edges
  pub level_of : IsLevelOf net edges s.blossom s.level
  pub valid : IsValid s.level.net
  pub matching : IsMatching s.level.net s.level.matching.edges
  pub stem : HasStem s.level.net s.level.matching.edges (inside []) s.level.hub

-- the last of the nets, and its matching
abbrev pub top_net : Net → List Shrunk → Net
top_net net [] = net
top_net net (s ∷ shrunk) = top_net s.level.net shrunk

abbrev pub top_edges : List ℕ → List Shrunk → List ℕ
top_edges edges [] = edges
top_edges edges (s ∷ shrunk) = top_edges s.level.matching.edges shrunk

-- each net is that of the one before with a blossom contracted
abbrev pub AreLevels : Net → List ℕ → List Shrunk → Type 0
AreLevels net edges [] = IsValid net × IsMatching net edges
AreLevels net edges (s ∷ shrunk) = IsValid net × IsMatching net edges × IsShrunk net edges s
    × AreLevels s.level.net s.level.matching.edges shrunk
