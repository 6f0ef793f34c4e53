-- Private: what rounds come to.
use Rattle.std.specs.Prelude.{◌≡◌, ℕ, ◌<◌, ℤ, pos, ◌<ℤ◌, Bool, false, List, length}
use Rattle.graph_defs.specs.declared.net.Net.{Net}
use Rattle.graph_defs.specs.Shortest.{weight}
use Rattle.graph_defs.specs.Walk.{IsWalk}
use Rattle.sp_search.specs.declared.finding.Found.{Found}
use Rattle.sp_search.specs.declared.rounds.End.{End}
use Rattle.sp_search.specs.declared.rounds.End.TheVariants.{Tree, Cycle}
use Rattle.sp_search.specs.declared.tags.Tag.{Tag}
use Rattle.sp_search.specs.Finding.{is_marked}
use Rattle.sp_search.specs.Forest.{IsTreeOf, AreMarked}
use Rattle.sp_search.specs.Tags.{IsTagged, IsSettledAlong}

-- a closed walk of negative weight at a node that isn't shut, to which a walk leads
pub record IsCycle (net : Net) (s : ℕ) (cost : List ℤ) (shut : List Bool)
    (row : List ℕ) : Type 0 where
  pub node : ℕ
  pub below : node < net.n
  pub free : is_marked shut node ≡ false
  pub closed : IsWalk net node node row
  pub negative : weight cost row <ℤ pos 0
  pub reached : (walk : List ℕ) × IsWalk net s node walk

-- the tree has all tagged nodes, and no arc lets a label fall
pub record IsSettledTree (net : Net) (s : ℕ) (cost : List ℤ) (shut : List Bool)
    (queue : List Found) (marks : List Bool) (tags : List Tag) : Type 0 where
  pub tagged : IsTagged net s cost shut tags
  pub tree : IsTreeOf net s tags queue marks
  pub none : AreMarked tags marks (length tags)
  pub settled : (arc : ℕ) → arc < length net.arcs → IsSettledAlong net cost shut tags arc

abbrev pub IsEnd : Net → ℕ → List ℤ → List Bool → End → Type 0
IsEnd net s cost shut (Tree tree) =
    (tags : List Tag) × IsSettledTree net s cost shut tree.queue.items tree.marks.items tags
IsEnd net s cost shut (Cycle row) = IsCycle net s cost shut row
