-- Private: what hiding and restoring a node leave of the lists.
use Rattle.std.specs.Prelude.{◌≡◌, ℕ, Bool, true, false, not, ◌&&◌, List, ◌++◌, length, Option, Some, None}
use Rattle.std.specs.FinMap as map
use Rattle.item_pool.specs.Contents.{Contents}
use Rattle.graph_state.specs.declared.name.ListName.{ListName}
use Rattle.graph_state.specs.declared.name.ListName.TheVariants.{Nodes, Out, In}
use Rattle.graph_state.specs.declared.name.Element.{Element}
use Rattle.graph_state.specs.declared.name.Element.TheVariants.{Node}
use Rattle.graph_state.specs.Names.{Has, number, first_of}
use Rattle.graph_lists.specs.declared.token.ListHead.{ListHead}
use Rattle.graph_lists.specs.Named.{Named, head_at, hook_at, list_at, shows_at}
use Rattle.graph_lists.specs.Heads.{Finds}
use Rattle.graph_core.specs.declared.cell.Heads.{Heads}
use Rattle.graph_core.specs.declared.cell.NodeCell.{NodeCell}
use Rattle.graph_core.specs.declared.cell.EdgeCell.{EdgeCell}
use Rattle.graph_core.specs.Kept.{NodeCells, EdgeCells}
use Rattle.graph_core.specs.Marks.{IsSame, Marks, PartsShow, IsNoPart, HasTokens, CanShow}

-- a node that is there and isn't hidden
abbrev pub is_bare : Option NodeCell → Bool
is_bare None = false
is_bare (Some c) = not c.is_hidden

-- an edge that is there, of which neither it nor an end is hidden
abbrev pub is_free : NodeCells → Option EdgeCell → Bool
is_free p None = false
is_free p (Some c) = not c.is_hidden && (is_bare (map.get p c.from) && is_bare (map.get p c.to))

-- which edges are to show, and all are to be hidden
abbrev pub turns : Bool → NodeCells → EdgeCells → ℕ → Bool
turns true p q e = is_free p (map.get q e)
turns false p q e = true

-- the edge has a cell, and can be shown by it
abbrev pub CanTurn : Named → Contents NodeCell → Contents EdgeCell → ListHead → Bool → ℕ → Type 0
CanTurn n p q edges directed e = (c : EdgeCell)
    × ((map.get q.live e ≡ Some c) × CanShow n p q edges directed e c)

-- so has each edge of a dart in the list
abbrev pub CanTurnAll : Named → Contents NodeCell → Contents EdgeCell → ListHead → Bool → ListName
    → Type 0
CanTurnAll n p q edges directed l = (x : Element) → Has x (list_at n l)
    → CanTurn n p q edges directed (number x)

-- the edges of these elements show or don't, as the flag says, where the test holds of them; all
-- else is as before
pub record TurnsAll (g : ℕ → Bool) (b : Bool) (n m : Named) (xs : List Element) : Type 0 where
  pub same : IsSame n m
  pub done : (y : Element) → Has y xs → g (number y) ≡ true → PartsShow m (number y) b
  pub kept : (x : Element)
      → ((y : Element) → Has y xs → g (number y) ≡ true → IsNoPart (number y) x)
      → shows_at m x ≡ shows_at n x

-- a walk along the ring of all that stands in a list: P holds of what was passed, and the member is
-- the first of the rest
pub record Passed (P : List Element → Type 0) (n : Named) (l : ListName) (turn : ℕ)
    (at : Option ℕ) : Type 0 where
  pub passed : List Element
  pub rest : List Element
  pub is : list_at n l ≡ passed ++ rest
  pub counted : length passed ≡ turn
  pub holds : P passed
  pub finds : Finds n false at (first_of rest)

-- the node stands in the node list, and its edges can be shown
pub record CanTurnNode (n : Named) (p : Contents NodeCell) (q : Contents EdgeCell) (top : Heads)
    (directed : Bool) (v : ℕ) (c : NodeCell) : Type 0 where
  pub head : head_at n Nodes ≡ Some top.nodes
  pub hook : hook_at n (Node v) ≡ Some c.hook
  pub node_in : Has (Node v) (list_at n Nodes)
  pub outs : head_at n (Out v) ≡ Some c.outs
  pub ins : head_at n (In v) ≡ Some c.ins
  pub tokens : (l : ListName) → HasTokens n p q l
  pub out_edges : CanTurnAll n p q top.edges directed (Out v)
  pub in_edges : CanTurnAll n p q top.edges directed (In v)

-- the node is turned, and then its edges
pub record TurnsNode (g : ℕ → Bool) (b : Bool) (n m : Named) (v : ℕ) : Type 0 where
  pub first : Named
  pub second : Named
  pub node : Marks n first (Node v) b
  pub outs : TurnsAll g b first second (list_at n (Out v))
  pub ins : TurnsAll g b second m (list_at n (In v))
