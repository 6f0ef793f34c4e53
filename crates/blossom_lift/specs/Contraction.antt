-- A net in which the nodes of a blossom are one node, and what comes back of its paths and covers.
use Rattle.std.specs.Prelude.{◌≡◌, ℕ, zero, suc, ◌+◌, ◌-◌, ◌/◌, nat_lt, Bool, not, ◌&&◌, cond, List, [], ◌∷◌, length, map}
use Rattle.std.specs.List.{filter, range_with_len}
use Rattle.graph_defs.specs.declared.net.Net.{Net}
use Rattle.graph_defs.specs.Count.{times}
use Rattle.graph_defs.specs.Matching.{IsMatching, IsOddSetCover, cover_size}
use Rattle.graph_defs.specs.Net.{Ends, source, target}
use Rattle.match_core.specs.declared.matching.Blossom.{Blossom}
use Rattle.match_core.specs.Path.{IsBlossom}
use Rattle.blossom_lift.specs.declared.level.Level.{Level}

-- whether a node is one of some nodes
abbrev pub inside : List ℕ → ℕ → Bool
inside nodes node = nat_lt 0 (times node nodes)

-- how many nodes before a node are outside
abbrev pub rank : (ℕ → Bool) → ℕ → ℕ
rank within zero = 0
rank within (suc node) = rank within node + cond (within node) 0 1

-- a node's number in the smaller net of a net of n nodes: those outside keep their order, and the
-- hub, which all inside become, stands behind them
abbrev pub image_of : (ℕ → Bool) → ℕ → ℕ → ℕ
image_of within n node = cond (within node) (rank within n) (rank within node)

abbrev pub image_ends : (ℕ → Bool) → ℕ → Ends → Ends
image_ends within n arc = (image_of within n arc.0, image_of within n arc.1)

-- whether both ends of an arc are inside
abbrev pub is_inner : (ℕ → Bool) → Net → ℕ → Bool
is_inner within net arc = within (source net arc) && within (target net arc)

-- every arc keeps its number, so that those inside are loops at the hub; the matching keeps its
-- edges but those inside
pub record IsContracted
    (net : Net) (edges : List ℕ) (within : ℕ → Bool) (small : Net) (left : List ℕ) : Type 0 where
  pub nodes : small.n ≡ rank within net.n + 1
  pub arcs : small.arcs ≡ map (image_ends within net.n) net.arcs
  pub matching : left ≡ filter (λ arc. not (is_inner within net arc)) edges

pub record IsLevelOf (net : Net) (edges : List ℕ) (b : Blossom) (level : Level) : Type 0 where
  pub contracted : IsContracted net edges (inside b.nodes) level.net level.matching.edges
  pub images : level.image ≡ map (image_of (inside b.nodes) net.n) (range_with_len 0 net.n)
  pub last : level.hub ≡ rank (inside b.nodes) net.n

-- the nodes and the edges of a blossom, the base first
abbrev pub IsCycle : Net → List ℕ → List ℕ → List ℕ → Type 0
IsCycle net edges [] path = ⊥
IsCycle net edges (base ∷ rest) path = IsBlossom net edges path base rest

-- a level of some matching of the net
pub record IsLevel (net : Net) (b : Blossom) (level : Level) : Type 0 where
  pub edges : List ℕ
  pub matching : IsMatching net edges
  pub cycle : IsCycle net edges b.nodes b.edges
  pub level_of : IsLevelOf net edges b level

-- a cover of the larger net, whose size is greater by half of one less than the blossom's number of
-- nodes
pub record IsLiftedCover (net : Net) (b : Blossom) (cover lifted : List ℕ) : Type 0 where
  pub covers_all : IsOddSetCover net lifted
  pub size : cover_size lifted ≡ cover_size cover + (length b.nodes - 1) / 2
