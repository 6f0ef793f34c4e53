-- Private: how pools and lists stand for the state of a graph.
use Rattle.std.specs.Prelude.{◌≡◌, ℕ, ◌+◌, ◌*◌, ◌<◌, ◌≤◌, Bool, true, false, cond, List, [], ◌∷◌, length, Option, Some, None, option_map}
use Rattle.std.specs.Ordering.{nat_cmp}
use Rattle.std.specs.FinMap as map
use Rattle.std.specs.FinSet as set
use Rattle.graph_state.specs.declared.kind.Kind.{Kind}
use Rattle.graph_state.specs.declared.kind.Kind.TheVariants.{Directed, Undirected}
use Rattle.graph_state.specs.declared.name.ListName.{ListName}
use Rattle.graph_state.specs.declared.name.ListName.TheVariants.{Nodes, Edges, Out, In}
use Rattle.graph_state.specs.declared.name.Element.{Element}
use Rattle.graph_state.specs.declared.name.Element.TheVariants.{Node, Edge, End}
use Rattle.graph_state.specs.State.{GraphState}
use Rattle.graph_state.specs.Names.{Has, list_of, shows, IsLive}
use Rattle.graph_state.specs.Formed.{IsFormed}
use Rattle.graph_lists.specs.declared.token.ListHead.{ListHead}
use Rattle.graph_lists.specs.declared.token.Hook.{Hook}
use Rattle.graph_lists.specs.Named.{Lists, head_at, hook_at, list_at, shows_at}
use Rattle.graph_core.specs.declared.cell.Heads.{Heads}
use Rattle.graph_core.specs.declared.cell.NodeCell.{NodeCell}
use Rattle.graph_core.specs.declared.cell.EdgeCell.{EdgeCell}
use Rattle.graph_core.specs.declared.graph.Graph.TheInside.{Inside}

abbrev pub is_directed : Kind → Bool
is_directed Directed = true
is_directed Undirected = false

abbrev pub NodeCells : Type 0
NodeCells = map.FinMap nat_cmp NodeCell

abbrev pub EdgeCells : Type 0
EdgeCells = map.FinMap nat_cmp EdgeCell

-- the heads of each list and the members of each element, where the cells have them
abbrev pub heads_of : Option Heads → NodeCells → ListName → Option ListHead
heads_of top p Nodes = option_map (λ t. t.nodes) top
heads_of top p Edges = option_map (λ t. t.edges) top
heads_of top p (Out v) = option_map (λ c. c.outs) (map.get p v)
heads_of top p (In v) = option_map (λ c. c.ins) (map.get p v)

abbrev pub end_hook : Bool → EdgeCell → Hook
end_hook b c = cond b c.back c.front

abbrev pub hook_of : NodeCells → EdgeCells → Element → Option Hook
hook_of p q (Node v) = option_map (λ c. c.hook) (map.get p v)
hook_of p q (Edge e) = option_map (λ c. c.hook) (map.get q e)
hook_of p q (End d) = option_map (end_hook d.back) (map.get q d.edge)

-- the cell is what the state says of the node, or of the edge
pub record IsNodeCell (s : GraphState) (v : ℕ) (c : NodeCell) : Type 0 where
  pub listed : Has v s.nodes
  pub label : map.get s.node_labels v ≡ Some c.label
  pub hidden : c.is_hidden ≡ set.contains s.hidden_nodes v

pub record IsEdgeCell (s : GraphState) (e : ℕ) (c : EdgeCell) : Type 0 where
  pub listed : Has e s.edges
  pub ends : map.get s.ends e ≡ Some (c.from, c.to)
  pub label : map.get s.edge_labels e ≡ Some c.label
  pub reversal : map.get s.reversals e ≡ c.reversal
  pub hidden : c.is_hidden ≡ set.contains s.hidden_edges e

abbrev pub IsNode : GraphState → ℕ → Option NodeCell → Type 0
IsNode s v None = Has v s.nodes → ⊥
IsNode s v (Some c) = IsNodeCell s v c

abbrev pub IsEdge : GraphState → ℕ → Option EdgeCell → Type 0
IsEdge s e None = Has e s.edges → ⊥
IsEdge s e (Some c) = IsEdgeCell s e c

-- the heads of the node list and the edge list
abbrev pub top_heads : Option Heads → ℕ
top_heads None = 0
top_heads (Some h) = 4

-- the numbers rise along the list
abbrev pub Rises : List ℕ → Type 0
Rises [] = Unit {0}
Rises (x ∷ xs) = ((y : ℕ) → Has y xs → x < y) × Rises xs

pub record IsKept (s : GraphState) (t : Lists) (top : Option Heads) (p : NodeCells)
    (q : EdgeCells) : Type 0 where
  pub heads : (l : ListName) → head_at t.named l ≡ heads_of top p l
  pub hooks : (x : Element) → hook_at t.named x ≡ hook_of p q x
  pub lists : (l : ListName) → list_at t.named l ≡ list_of s l
  pub shown : (x : Element) → IsLive s x → shows_at t.named x ≡ shows s x
  pub loose : t.named.loose ≡ []
  pub nodes : (v : ℕ) → IsNode s v (map.get p v)
  pub edges : (e : ℕ) → IsEdge s e (map.get q e)
  pub headed : top ≡ None → s.nodes ≡ []
  pub few_heads : t.heads ≤ top_heads top + 4 * map.len p
  pub few_members : t.members ≤ 2 * map.len p + 6 * map.len q
  pub counted : (map.len p ≡ length s.nodes) × (map.len q ≡ length s.edges)
  pub formed : IsFormed s
  -- edges stand in the order in which they were made
  pub rise : Rises s.edges

pub record IsGraph (a : Inside) : Type 0 where
  pub kept : IsKept a.seen.view a.lists a.heads a.nodes.live a.edges.live
  pub made : (a.nodes.made ≡ a.seen.view.made_nodes) × (a.edges.made ≡ a.seen.view.made_edges)
  pub directed : a.directed ≡ a.seen.view.directed
  pub types : (a.node_type ≡ a.seen.view.node_type) × (a.edge_type ≡ a.seen.view.edge_type)

abbrev pub state_of : Inside → GraphState
state_of a = a.seen.view
