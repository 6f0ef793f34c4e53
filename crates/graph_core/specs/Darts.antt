-- Private: darts by their members.
use Rattle.std.specs.Prelude.{◌≡◌, ℕ, true, Some}
use Rattle.std.specs.FinMap as map
use Rattle.item_pool.specs.Contents.{Contents}
use Rattle.graph_defs.specs.declared.dart.Dart.{Dart}
use Rattle.graph_state.specs.declared.name.ListName.{ListName}
use Rattle.graph_state.specs.declared.name.Element.{Element}
use Rattle.graph_state.specs.declared.name.Element.TheVariants.{End}
use Rattle.graph_state.specs.State.{front}
use Rattle.graph_state.specs.Names.{Has}
use Rattle.graph_lists.specs.Named.{Named, hook_at, seen_list}
use Rattle.graph_lists.specs.Heads.{IsHeadOf, IsMemberOf}
use Rattle.graph_core.specs.declared.cell.EdgeCell.{EdgeCell}

-- x is a dart of an edge that is there, whose cell has the hook of its front dart
pub record IsDart (n : Named) (q : Contents EdgeCell) (x : Element) : Type 0 where
  pub dart : Dart
  pub is : x ≡ End dart
  pub cell : EdgeCell
  pub live : map.get q.live dart.edge ≡ Some cell
  pub first : hook_at n (End (front dart.edge)) ≡ Some cell.front

-- the member is that of a dart, in a ring of what shows
abbrev pub HasDart : Named → Contents EdgeCell → ℕ → Type 0
HasDart n q m = (x : Element) × (IsMemberOf n true x m × IsDart n q x)

-- every element of the ring, which is one of what shows, is a dart
abbrev pub HasDarts : Named → Contents EdgeCell → ℕ → Type 0
HasDarts n q g = (l : ListName)
    × (IsHeadOf n true l g × ((x : Element) → Has x (seen_list n true l) → IsDart n q x))
