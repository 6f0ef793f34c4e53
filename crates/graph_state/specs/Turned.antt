-- What lists and elements are called where every edge goes the other way, and the other kind of a
-- graph.
use Rattle.std.specs.Prelude.{Bool, false, cond}
use Rattle.graph_state.specs.declared.name.ListName.{ListName}
use Rattle.graph_state.specs.declared.name.ListName.TheVariants.{Nodes, Edges, Out, In}
use Rattle.graph_state.specs.declared.name.Element.{Element}
use Rattle.graph_state.specs.declared.name.Element.TheVariants.{Node, Edge, End}
use Rattle.graph_state.specs.State.{GraphState}
use Rattle.graph_state.specs.Edits.{flipped, made_undirected, made_directed}

-- in a directed graph out lists and in lists change roles
abbrev pub turned_list : Bool → ListName → ListName
turned_list directed Nodes = Nodes
turned_list directed Edges = Edges
turned_list directed (Out v) = cond directed (In v) (Out v)
turned_list directed (In v) = cond directed (Out v) (In v)

-- the two darts of an edge change their names
abbrev pub turned_element : Element → Element
turned_element (Node v) = Node v
turned_element (Edge e) = Edge e
turned_element (End d) = End (flipped d)

-- whether it is the dart of an edge at its target
abbrev pub is_back : Element → Bool
is_back (Node v) = false
is_back (Edge e) = false
is_back (End d) = d.back

-- the graph is of the other kind
abbrev pub kind_changed : GraphState → GraphState
kind_changed s = cond s.directed (made_undirected s) (made_directed s)
