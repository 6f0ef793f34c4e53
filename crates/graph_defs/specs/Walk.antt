-- Walks, and the sets of nodes that no arc leaves.
use Rattle.std.specs.Prelude.{◌≡◌, ℕ, ◌<◌, false, List, [], ◌∷◌, length}
use Rattle.graph_defs.specs.declared.net.Net.{Net}
use Rattle.graph_defs.specs.declared.answer.Reach.{Reach}
use Rattle.graph_defs.specs.declared.answer.Reach.TheVariants.{Walk, Closed}
use Rattle.graph_defs.specs.Net.{source, target}
use Rattle.graph_defs.specs.Set.{is_in, leaves, IsCut}

-- steps that begin at v, go on where the last one ended, and end at w; each step is there, and
-- leads from a node to a node
abbrev pub IsWalkBy : (ℕ → Type 0) → (ℕ → ℕ) → (ℕ → ℕ) → ℕ → ℕ → List ℕ → Type 0
IsWalkBy IsThere from to v w [] = v ≡ w
IsWalkBy IsThere from to v w (step ∷ steps) =
    IsThere step × (from step ≡ v) × IsWalkBy IsThere from to (to step) w steps

-- a walk along arcs, in their direction
abbrev pub IsWalk : Net → ℕ → ℕ → List ℕ → Type 0
IsWalk net v w arcs = IsWalkBy (λ arc. arc < length net.arcs) (source net) (target net) v w arcs

-- a set of nodes with v and without w that no arc leaves
pub record IsClosedSet (net : Net) (v w : ℕ) (nodes : List ℕ) : Type 0 where
  pub cut : IsCut net.n v w nodes
  pub closed : (arc : ℕ) → arc < length net.arcs → leaves net (is_in nodes) arc ≡ false

-- an answer to the question whether a walk leads from v to w
abbrev pub IsReach : Net → ℕ → ℕ → Reach → Type 0
IsReach net v w (Walk arcs) = IsWalk net v w arcs
IsReach net v w (Closed nodes) = IsClosedSet net v w nodes

-- the law that makes a closed set an answer
abbrev pub ClosedSetExcludesWalks : Type 0
ClosedSetExcludesWalks =
    (net : Net) (v w : ℕ) (nodes arcs : List ℕ) → IsClosedSet net v w nodes → IsWalk net v w arcs
    → ⊥
