-- Private: what the steps of hiding and restoring leave of the lists.
use Rattle.std.specs.Prelude.{◌≡◌, ℕ, Bool, true, false, not, ◌&&◌, cond, List, [], ◌∷◌, ◌++◌, filter, length, Option, Some}
use Rattle.std.specs.FinMap as map
use Rattle.item_pool.specs.Contents.{Contents}
use Rattle.graph_state.specs.declared.name.ListName.{ListName}
use Rattle.graph_state.specs.declared.name.ListName.TheVariants.{Nodes, Edges, Out, In}
use Rattle.graph_state.specs.declared.name.Element.{Element}
use Rattle.graph_state.specs.declared.name.Element.TheVariants.{Node, Edge, End}
use Rattle.graph_state.specs.State.{front, back}
use Rattle.graph_state.specs.Names.{Has, number, last_of, back_row}
use Rattle.graph_lists.specs.declared.token.ListHead.{ListHead}
use Rattle.graph_lists.specs.declared.token.Hook.{Hook}
use Rattle.graph_lists.specs.Named.{Named, head_at, hook_at, list_at, shows_at}
use Rattle.graph_lists.specs.Heads.{IsMemberOf, Finds}
use Rattle.graph_core.specs.declared.cell.NodeCell.{NodeCell}
use Rattle.graph_core.specs.declared.cell.EdgeCell.{EdgeCell}
use Rattle.graph_core.specs.Kept.{end_hook}

-- lists, tokens and what stands nowhere are as before
pub record IsSame (n m : Named) : Type 0 where
  pub heads : m.heads ≡ n.heads
  pub hooks : m.hooks ≡ n.hooks
  pub lists : m.lists ≡ n.lists
  pub loose : m.loose ≡ n.loose

-- only whether x shows is changed
pub record Marks (n m : Named) (x : Element) (b : Bool) : Type 0 where
  pub same : IsSame n m
  pub here : shows_at m x ≡ b
  pub else : (y : Element) → (y ≡ x → ⊥) → shows_at m y ≡ shows_at n y

-- the edge and its darts show, or don't, as the flag says
pub record PartsShow (m : Named) (e : ℕ) (b : Bool) : Type 0 where
  pub edge : shows_at m (Edge e) ≡ b
  pub first : shows_at m (End (front e)) ≡ b
  pub second : shows_at m (End (back e)) ≡ b

-- x is neither the edge nor a dart of it
pub record IsNoPart (e : ℕ) (x : Element) : Type 0 where
  pub edge : x ≡ Edge e → ⊥
  pub first : x ≡ End (front e) → ⊥
  pub second : x ≡ End (back e) → ⊥

-- only whether they show is changed
pub record MarksParts (n m : Named) (e : ℕ) (b : Bool) : Type 0 where
  pub same : IsSame n m
  pub here : PartsShow m e b
  pub else : (x : Element) → IsNoPart e x → shows_at m x ≡ shows_at n x

-- they are changed where the flag says so
abbrev pub MarksIf : Bool → Named → Named → ℕ → Bool → Type 0
MarksIf true n m e b = MarksParts n m e b
MarksIf false n m e b = IsSame n m × ((y : Element) → shows_at m y ≡ shows_at n y)

-- the cell has the hooks of the edge and its darts, which stand in lists
pub record HasParts (n : Named) (e : ℕ) (c : EdgeCell) (edges from row : ListName) : Type 0 where
  pub hook : hook_at n (Edge e) ≡ Some c.hook
  pub first : hook_at n (End (front e)) ≡ Some c.front
  pub second : hook_at n (End (back e)) ≡ Some c.back
  pub edge_in : Has (Edge e) (list_at n edges)
  pub first_in : Has (End (front e)) (list_at n from)
  pub second_in : Has (End (back e)) (list_at n row)

-- the hook that a cell has for an element
abbrev pub token : EdgeCell → Element → Hook
token c (Node v) = c.hook
token c (Edge e) = c.hook
token c (End d) = end_hook d.back c

-- only edges stand in the edge list, and only darts in those of a node
abbrev pub Fits : ListName → Element → Type 0
Fits Nodes x = ⊥
Fits Edges (Node v) = ⊥
Fits Edges (Edge e) = Unit {0}
Fits Edges (End d) = ⊥
Fits (Out v) (Node w) = ⊥
Fits (Out v) (Edge e) = ⊥
Fits (Out v) (End d) = Unit {0}
Fits (In v) (Node w) = ⊥
Fits (In v) (Edge e) = ⊥
Fits (In v) (End d) = Unit {0}

pub record IsToken (n : Named) (q : Contents EdgeCell) (l : ListName) (x : Element) : Type 0 where
  pub cell : EdgeCell
  pub live : map.get q.live (number x) ≡ Some cell
  pub hook : hook_at n x ≡ Some (token cell x)
  pub first : hook_at n (End (front (number x))) ≡ Some cell.front
  pub fits : Fits l x

-- only nodes stand in the node list
pub record IsNodeToken (n : Named) (p : Contents NodeCell) (x : Element) : Type 0 where
  pub cell : NodeCell
  pub live : map.get p.live (number x) ≡ Some cell
  pub hook : hook_at n x ≡ Some cell.hook
  pub fits : x ≡ Node (number x)

abbrev pub IsTokenIn : Named → Contents NodeCell → Contents EdgeCell → ListName → Element → Type 0
IsTokenIn n p q Nodes x = IsNodeToken n p x
IsTokenIn n p q Edges x = IsToken n q Edges x
IsTokenIn n p q (Out v) x = IsToken n q (Out v) x
IsTokenIn n p q (In v) x = IsToken n q (In v) x

-- the cells have the hooks of all that stands in the list
abbrev pub HasTokens : Named → Contents NodeCell → Contents EdgeCell → ListName → Type 0
HasTokens n p q l = (x : Element) → Has x (list_at n l) → IsTokenIn n p q l x

-- the member is that of an element of the list
abbrev pub HasToken : Named → Contents NodeCell → Contents EdgeCell → ListName → ℕ → Type 0
HasToken n p q l m = (x : Element)
    × (Has x (list_at n l) × (IsMemberOf n false x m × IsTokenIn n p q l x))

-- a walk to the front of a list: what was passed doesn't show, and the member is that of the
-- element before
pub record Passes (n : Named) (l : ListName) (x : Element) (turn : ℕ) (at : Option ℕ) : Type 0 where
  pub before : List Element
  pub between : List Element
  pub behind : List Element
  pub is : list_at n l ≡ before ++ (between ++ x ∷ behind)
  pub none : filter (shows_at n) between ≡ []
  pub counted : length between ≡ turn
  pub finds : Finds n false at (last_of before)

-- what there is to show an edge by: the heads of its lists, its hooks, and those of all that
-- stands in lists
pub record CanShow (n : Named) (p : Contents NodeCell) (q : Contents EdgeCell) (edges : ListHead)
    (directed : Bool) (e : ℕ) (c : EdgeCell) : Type 0 where
  pub from : NodeCell
  pub to : NodeCell
  pub at_from : map.get p.live c.from ≡ Some from
  pub at_to : map.get p.live c.to ≡ Some to
  pub head : head_at n Edges ≡ Some edges
  pub outs : head_at n (Out c.from) ≡ Some from.outs
  pub ins : head_at n (back_row directed c.to) ≡ Some (cond directed to.ins to.outs)
  pub parts : HasParts n e c Edges (Out c.from) (back_row directed c.to)
  pub tokens : (l : ListName) → HasTokens n p q l

-- the edge and its darts show, where both ends do
abbrev pub ShowsParts : Named → Named → Contents NodeCell → ℕ → EdgeCell → Type 0
ShowsParts n m p e c = (v w : NodeCell) → map.get p.live c.from ≡ Some v
    → map.get p.live c.to ≡ Some w → MarksIf (not v.is_hidden && not w.is_hidden) n m e true
