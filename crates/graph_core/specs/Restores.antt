-- Private: what restoring all leaves of the pools and the lists.
use Rattle.std.specs.Prelude.{◌≡◌, ℕ, true, false, ◌⊎◌, List, Some, option_map}
use Rattle.std.specs.Ordering.{nat_cmp}
use Rattle.std.specs.FinMap as map
use Rattle.item_pool.specs.Contents.{Contents}
use Rattle.graph_state.specs.declared.name.ListName.{ListName}
use Rattle.graph_state.specs.declared.name.ListName.TheVariants.{Nodes, Edges, Out, In}
use Rattle.graph_state.specs.declared.name.Element.{Element}
use Rattle.graph_state.specs.declared.name.Element.TheVariants.{Node}
use Rattle.graph_state.specs.Names.{Has, number}
use Rattle.graph_lists.specs.Named.{Named, head_at, list_at, shows_at}
use Rattle.graph_core.specs.declared.cell.Heads.{Heads}
use Rattle.graph_core.specs.declared.cell.NodeCell.{NodeCell}
use Rattle.graph_core.specs.declared.cell.EdgeCell.{EdgeCell}
use Rattle.graph_core.specs.Marks.{IsSame, HasTokens}

-- these elements show, and so does all that did
pub record ShowsAll (n m : Named) (xs : List Element) : Type 0 where
  pub same : IsSame n m
  pub stays : (x : Element) → shows_at n x ≡ true → shows_at m x ≡ true
  pub all : (x : Element) → Has x xs → shows_at m x ≡ true

-- so does what stands in the lists of these nodes
pub record ShowsRows (n m : Named) (ys : List Element) : Type 0 where
  pub same : IsSame n m
  pub stays : (x : Element) → shows_at n x ≡ true → shows_at m x ≡ true
  pub all : (y x : Element) → Has y ys
      → Has x (list_at n (Out (number y))) ⊎ Has x (list_at n (In (number y)))
      → shows_at m x ≡ true

-- the node of a list is listed
abbrev pub IsListed : Named → ListName → Type 0
IsListed n Nodes = Unit {0}
IsListed n Edges = Unit {0}
IsListed n (Out v) = Has (Node v) (list_at n Nodes)
IsListed n (In v) = Has (Node v) (list_at n Nodes)

-- all that stands in the lists shows
pub record ShowsWhole (n m : Named) : Type 0 where
  pub same : IsSame n m
  pub all : (l : ListName) → IsListed n l → (x : Element) → Has x (list_at n l)
      → shows_at m x ≡ true

-- the cell of a node has the heads of its lists
abbrev pub HasRows : Named → Contents NodeCell → ℕ → Type 0
HasRows n p v = (c : NodeCell) × ((map.get p.live v ≡ Some c)
    × ((head_at n (Out v) ≡ Some c.outs) × (head_at n (In v) ≡ Some c.ins)))

-- what there is to show all by
pub record CanShowAll (n : Named) (p : Contents NodeCell) (q : Contents EdgeCell) (top : Heads)
    : Type 0 where
  pub nodes : head_at n Nodes ≡ Some top.nodes
  pub edges : head_at n Edges ≡ Some top.edges
  pub tokens : (l : ListName) → HasTokens n p q l
  pub rows : (x : Element) → Has x (list_at n Nodes) → HasRows n p (number x)

-- the cell isn't marked as hidden
abbrev pub bare_node : NodeCell → NodeCell
bare_node c = record c { is_hidden = false }

abbrev pub bare_edge : EdgeCell → EdgeCell
bare_edge c = record c { is_hidden = false }

-- the marks of these elements are cleared, and cells differ in marks alone
pub record Clears {C : Type 0} (bare : C → C) (p q : map.FinMap nat_cmp C) (xs : List Element)
    : Type 0 where
  pub here : (x : Element) → Has x xs
      → map.get q (number x) ≡ option_map bare (map.get p (number x))
  pub alike : (k : ℕ) → option_map bare (map.get q k) ≡ option_map bare (map.get p k)
  pub len : map.len q ≡ map.len p
