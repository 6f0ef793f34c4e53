-- The lists of a graph by their names, and what stands in them.
use Rattle.std.specs.Prelude.{◌≡◌, ℕ, Bool, true, false, cond, ◌==◌, ◌&&◌, not, ◌⊎◌, List, [], ◌∷◌, map, filter, Option, Some, None}
use Rattle.graph_defs.specs.declared.dart.Dart.{Dart}
use Rattle.graph_state.specs.declared.name.ListName.{ListName}
use Rattle.graph_state.specs.declared.name.ListName.TheVariants.{Nodes, Edges, Out, In}
use Rattle.graph_state.specs.declared.name.Element.{Element}
use Rattle.graph_state.specs.declared.name.Element.TheVariants.{Node, Edge, End}
use Rattle.graph_state.specs.State.{GraphState, source, target, out_list, in_list, shows_node, shows_edge, shows_dart}

module _ {X : Type 0} where
  -- a is in the list
  abbrev pub Has : X → List X → Type 0
  Has a [] = ⊥
  Has a (x ∷ xs) = (a ≡ x) ⊎ Has a xs

  -- nothing is in the list twice
  abbrev pub IsOnce : List X → Type 0
  IsOnce [] = Unit {0}
  IsOnce (x ∷ xs) = (Has x xs → ⊥) × IsOnce xs

-- the number of the node or the edge
abbrev pub number : Element → ℕ
number (Node v) = v
number (Edge e) = e
number (End d) = d.edge

-- what stands in a list
abbrev pub list_of : GraphState → ListName → List Element
list_of s Nodes = map Node s.nodes
list_of s Edges = map Edge s.edges
list_of s (Out v) = map End (out_list s v)
list_of s (In v) = map End (in_list s v)

abbrev pub shows : GraphState → Element → Bool
shows s (Node v) = shows_node s v
shows s (Edge e) = shows_edge s e
shows s (End d) = shows_dart s d

abbrev pub IsLive : GraphState → Element → Type 0
IsLive s (Node v) = Has v s.nodes
IsLive s (Edge e) = Has e s.edges
IsLive s (End d) = Has d.edge s.edges

-- the list of the darts that end at a node: in an undirected graph these stand among those that
-- begin there
abbrev pub back_row : Bool → ℕ → ListName
back_row directed w = cond directed (In w) (Out w)

-- the list where something stands
abbrev pub home : GraphState → Element → ListName
home s (Node v) = Nodes
home s (Edge e) = Edges
home s (End d) = cond d.back (back_row s.directed (target s d.edge)) (Out (source s d.edge))

-- whether the two are the same
abbrev pub same_dart : Dart → Dart → Bool
same_dart c d = cond c.back d.back (not d.back) && (c.edge == d.edge)

abbrev pub same_element : Element → Element → Bool
same_element (Node v) (Node w) = v == w
same_element (Node v) (Edge f) = false
same_element (Node v) (End d) = false
same_element (Edge e) (Node w) = false
same_element (Edge e) (Edge f) = e == f
same_element (Edge e) (End d) = false
same_element (End c) (Node w) = false
same_element (End c) (Edge f) = false
same_element (End c) (End d) = same_dart c d

abbrev pub same_list : ListName → ListName → Bool
same_list Nodes Nodes = true
same_list Nodes Edges = false
same_list Nodes (Out w) = false
same_list Nodes (In w) = false
same_list Edges Nodes = false
same_list Edges Edges = true
same_list Edges (Out w) = false
same_list Edges (In w) = false
same_list (Out v) Nodes = false
same_list (Out v) Edges = false
same_list (Out v) (Out w) = v == w
same_list (Out v) (In w) = false
same_list (In v) Nodes = false
same_list (In v) Edges = false
same_list (In v) (Out w) = false
same_list (In v) (In w) = v == w

-- the list with x at its end, with y right behind x, with y right before x, and without x
module _ {X : Type 0} (same : X → X → Bool) where
  abbrev pub behind : X → X → List X → List X
  behind x y [] = []
  behind x y (z ∷ zs) = cond (same z x) (z ∷ y ∷ zs) (z ∷ behind x y zs)

  abbrev pub before : X → X → List X → List X
  before x y [] = []
  before x y (z ∷ zs) = cond (same z x) (y ∷ z ∷ zs) (z ∷ before x y zs)

  abbrev pub without : X → List X → List X
  without x zs = filter (λ z. not (same z x)) zs

module _ {X : Type 0} where
  -- the first and the last of the list
  abbrev pub first_of : List X → Option X
  first_of [] = None
  first_of (x ∷ xs) = Some x

  abbrev pub last_of : List X → Option X
  last_of [] = None
  last_of (x ∷ []) = Some x
  last_of (x ∷ y ∷ ys) = last_of (y ∷ ys)
