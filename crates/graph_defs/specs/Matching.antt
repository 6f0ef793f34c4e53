-- Matchings, and the odd-set covers that bound them.
use Rattle.std.specs.Prelude.{◌≡◌, ◌≢◌, ℕ, ◌+◌, ◌/◌, ◌<◌, ◌≤◌, ◌==◌, nat_le, max, Bool, true, ◌&&◌, ◌||◌, cond, List, [], ◌∷◌, length, slice_index, All}
use Rattle.std.specs.List.Sorted.{IsStrictlyIncreasing}
use Rattle.graph_defs.specs.declared.matching.MatchAnswer.{MatchAnswer}
use Rattle.graph_defs.specs.declared.net.Net.{Net}
use Rattle.graph_defs.specs.declared.verdict.Cond.{Cond}
use Rattle.graph_defs.specs.declared.verdict.Cond.TheVariants as cond
use Rattle.graph_defs.specs.Count.{times}
use Rattle.graph_defs.specs.Net.{Ends, IsValid, source, target}
use Rattle.graph_defs.specs.Sum.{total_below}
use Rattle.graph_defs.specs.Verdict.{AllHold}

-- whether a node is an end of an arc
abbrev pub is_end : Net → ℕ → ℕ → Bool
is_end net node arc = (source net arc == node) || (target net arc == node)

-- how many of some arcs have an end at a node
abbrev pub degree : Net → ℕ → List ℕ → ℕ
degree net node [] = 0
degree net node (arc ∷ arcs) = cond (is_end net node arc) 1 0 + degree net node arcs

-- arcs without loops, no two of which share an end; one that is listed twice shares both with
-- itself
pub record IsMatching (net : Net) (edges : List ℕ) : Type 0 where
  pub among : All (λ edge. edge < length net.arcs) edges
  pub loops : All (λ edge. source net edge ≢ target net edge) edges
  pub apart : (node : ℕ) → degree net node edges ≤ 1

-- an arc is covered by labels of the nodes: it is a loop, an end has the label 1, or both have one
-- same later label
abbrev pub covers : List ℕ → Ends → Bool
covers labels arc =
    ((arc.0 == arc.1) || (slice_index labels arc.0 == 1))
    || ((slice_index labels arc.1 == 1)
    || ((slice_index labels arc.0 == slice_index labels arc.1)
    && nat_le 2 (slice_index labels arc.0)))

-- an odd-set cover (J. Edmonds, Paths, trees, and flowers, 1965): a label for each node, such that
-- every arc is covered
pub record IsOddSetCover (net : Net) (labels : List ℕ) : Type 0 where
  pub long : length labels ≡ net.n
  pub all : All (λ (arc : Ends). covers labels arc ≡ true) net.arcs

abbrev pub greatest : List ℕ → ℕ
greatest [] = 0
greatest (label ∷ labels) = max label (greatest labels)

-- the sum, over n labels from 2 on, of half the number of nodes with that label, rounded down
abbrev pub halves : List ℕ → ℕ → ℕ
halves labels n = total_below (λ label. times (label + 2) labels / 2) n

-- its size: the nodes labelled 1, and of each later label's nodes one half, rounded down
abbrev pub cover_size : List ℕ → ℕ
cover_size labels = times 1 labels + halves labels (greatest labels)

-- an answer: a matching, its edges in order, and a cover of its size
pub record IsMatchAnswer (net : Net) (a : MatchAnswer) : Type 0 where
  pub order : IsStrictlyIncreasing a.edges
  pub matching : IsMatching net a.edges
  pub cover : IsOddSetCover net a.cover
  pub size : length a.edges ≡ cover_size a.cover

-- ---- the law that makes it largest

abbrev pub CoversBoundMatchings : Type 0
CoversBoundMatchings =
    (net : Net) (edges labels : List ℕ) → IsValid net → IsMatching net edges
    → IsOddSetCover net labels
    → length edges ≤ cover_size labels

-- ---- the conditions of a checker, in their order, each at a place

pub record IsMatchInRange (net : Net) (a : MatchAnswer) : Type 0 where
  pub edges : All (λ edge. edge < length net.arcs) a.edges
  pub cover : length a.cover ≡ net.n

abbrev pub match_order : List Cond
match_order = cond.Range ∷ cond.SelfLoop ∷ cond.Shared ∷ cond.Label ∷ cond.Size ∷ []

abbrev pub MatchHolds : Net → MatchAnswer → Cond → ℕ → Type 0
MatchHolds net a cond.Range place = IsMatchInRange net a
MatchHolds net a cond.SelfLoop arc = 1 ≤ times arc a.edges → source net arc ≢ target net arc
MatchHolds net a cond.Shared node = degree net node a.edges ≤ 1
MatchHolds net a cond.Label arc = arc < length net.arcs
    → covers a.cover (source net arc, target net arc) ≡ true
MatchHolds net a cond.Size place = length a.edges ≡ cover_size a.cover
MatchHolds net a other place = ⊥

-- a checker's yes excludes a larger matching
abbrev pub YesGivesLargest : Type 0
YesGivesLargest =
    (net : Net) (a : MatchAnswer) (others : List ℕ) → IsValid net
    → AllHold (MatchHolds net a) match_order
    → IsMatching net others → length others ≤ length a.edges
