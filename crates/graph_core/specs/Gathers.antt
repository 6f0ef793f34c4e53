-- Private: what the steps of a change of kind leave of the lists.
use Rattle.std.specs.Prelude.{◌≡◌, ℕ, Bool, true, false, not, cond, List, [], ◌++◌, filter, length, Option, Some, None}
use Rattle.std.specs.FinMap as map
use Rattle.item_pool.specs.Contents.{Contents}
use Rattle.graph_state.specs.declared.name.ListName.{ListName}
use Rattle.graph_state.specs.declared.name.ListName.TheVariants.{Nodes, Edges, Out, In}
use Rattle.graph_state.specs.declared.name.Element.{Element}
use Rattle.graph_state.specs.Names.{Has, first_of, back_row}
use Rattle.graph_state.specs.Turned.{is_back}
use Rattle.graph_lists.specs.declared.token.ListHead.{ListHead}
use Rattle.graph_lists.specs.Named.{Lists, Named, head_at, list_at, pushed, unlinked, Leaves}
use Rattle.graph_lists.specs.Heads.{Finds}
use Rattle.graph_core.specs.declared.cell.NodeCell.{NodeCell}
use Rattle.graph_core.specs.declared.cell.EdgeCell.{EdgeCell}
use Rattle.graph_core.specs.declared.cell.Heads.{Heads}
use Rattle.graph_core.specs.Marks.{HasTokens}
use Rattle.graph_core.specs.Turns.{Fills}

-- tokens and marks are as before, and nothing is without a hook
pub record KeepsRest (n m : Named) : Type 0 where
  pub heads : m.heads ≡ n.heads
  pub hooks : m.hooks ≡ n.hooks
  pub shown : m.shown ≡ n.shown
  pub loose : m.loose ≡ []

-- the elements of a list that aren't back darts, and those that are
abbrev pub stay : List Element → List Element
stay xs = filter (λ x. not (is_back x)) xs

abbrev pub go : List Element → List Element
go xs = filter is_back xs

-- x leaves its list for the end of the other, where the flag is true
abbrev pub GoesIf : Bool → Named → Named → ListName → Element → Type 0
GoesIf true n m to x = (m ≡ pushed to x (unlinked x n)) × Leaves n (unlinked x n) x
GoesIf false n m to x = m ≡ n

-- there are the tokens by which the back darts of one list come to the end of another
pub record CanGather (n : Named) (p : Contents NodeCell) (q : Contents EdgeCell)
    (from to : ListName) (head rear : ListHead) : Type 0 where
  pub at_from : head_at n from ≡ Some head
  pub at_to : head_at n to ≡ Some rear
  pub apart : from ≡ to → ⊥
  pub loose : n.loose ≡ []
  pub tokens : HasTokens n p q from

-- of what was passed the back darts are gone to the end of the other list, and the rest is left
pub record Gathers (n m : Named) (from to : ListName) (passed rest : List Element) : Type 0 where
  pub keeps : KeepsRest n m
  pub left : list_at m from ≡ stay passed ++ rest
  pub gone : list_at m to ≡ list_at n to ++ go passed
  pub else : (l : ListName) → (l ≡ from → ⊥) → (l ≡ to → ⊥) → list_at m l ≡ list_at n l

-- a walk along the first list
pub record Gathering (n m : Named) (from to : ListName) (turn : ℕ) (at : Option ℕ) : Type 0 where
  pub passed : List Element
  pub rest : List Element
  pub is : list_at n from ≡ passed ++ rest
  pub counted : length passed ≡ turn
  pub finds : Finds m false at (first_of rest)
  pub gathers : Gathers n m from to passed rest

-- the list of a node where its back darts are, and the one to which they go
abbrev pub from_list : Bool → ℕ → ListName
from_list directed v = back_row directed v

abbrev pub to_list : Bool → ℕ → ListName
to_list directed v = back_row (not directed) v

-- the same of the lists of one node
pub record CanGatherAt (n : Named) (p : Contents NodeCell) (q : Contents EdgeCell)
    (directed : Bool) (v : ℕ) : Type 0 where
  pub cell : NodeCell
  pub live : map.get p.live v ≡ Some cell
  pub can : CanGather n p q (from_list directed v) (to_list directed v)
      (cond directed cell.ins cell.outs) (cond (not directed) cell.ins cell.outs)

abbrev pub GathersAt : Named → Named → Bool → ℕ → Type 0
GathersAt n m directed v = Gathers n m (from_list directed v) (to_list directed v)
    (list_at n (from_list directed v)) []

-- and of the lists of some nodes
pub record GathersAll (n m : Named) (directed : Bool) (vs : List ℕ) : Type 0 where
  pub keeps : KeepsRest n m
  pub left : (v : ℕ) → Has v vs
      → list_at m (from_list directed v) ≡ stay (list_at n (from_list directed v))
  pub gone : (v : ℕ) → Has v vs → list_at m (to_list directed v)
      ≡ list_at n (to_list directed v) ++ go (list_at n (from_list directed v))
  pub else_left : (v : ℕ) → (Has v vs → ⊥)
      → list_at m (from_list directed v) ≡ list_at n (from_list directed v)
  pub else_gone : (v : ℕ) → (Has v vs → ⊥)
      → list_at m (to_list directed v) ≡ list_at n (to_list directed v)
  pub nodes : list_at m Nodes ≡ list_at n Nodes
  pub edges : list_at m Edges ≡ list_at n Edges

pub record CanGatherEach (t : Lists) (p : Contents NodeCell) (q : Contents EdgeCell)
    : Type 0 where
  pub outs : (v : ℕ) (c : NodeCell) → map.get p.live v ≡ Some c
      → head_at t.named (Out v) ≡ Some c.outs
  pub ins : (v : ℕ) (c : NodeCell) → map.get p.live v ≡ Some c → head_at t.named (In v) ≡ Some c.ins
  pub loose : t.named.loose ≡ []
  pub tokens : (l : ListName) → HasTokens t.named p q l

pub record CanGatherAll (t : Lists) (p : Contents NodeCell) (q : Contents EdgeCell)
    (top : Option Heads) : Type 0 where
  pub each : CanGatherEach t p q
  pub nodes : (h : Heads) → top ≡ Some h → Fills t p Nodes h.nodes.full
  pub none : top ≡ None → list_at t.named Nodes ≡ []
