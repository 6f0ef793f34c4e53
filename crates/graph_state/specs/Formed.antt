-- Well-formed states.
use Rattle.std.specs.Prelude.{◌≡◌, ℕ, ◌<◌, ◌≤◌, true, false, ◌⊎◌, List, [], length, Some}
use Rattle.std.specs.FinMap as map
use Rattle.std.specs.FinSet as set
use Rattle.graph_defs.specs.declared.net.TheConstants.{NODE_LIMIT, ARC_LIMIT}
use Rattle.leda_base.specs.declared.name.TheConstants.{LABEL_LIMIT}
use Rattle.item_pool.specs.declared.pool.TheConstants.{MOST_SERIALS}
use Rattle.graph_defs.specs.Plain.{IsTypeName, is_void}
use Rattle.graph_state.specs.declared.name.ListName.{ListName}
use Rattle.graph_state.specs.declared.name.Element.{Element}
use Rattle.graph_state.specs.State.{GraphState, source, target}
use Rattle.graph_state.specs.Names.{Has, IsOnce, list_of, IsLive, home}

-- at most 60,000 bytes, and no line feed
pub record IsLabel (label : List ℕ) : Type 0 where
  pub few : length label ≤ LABEL_LIMIT
  pub line : Has 10 label → ⊥

-- a type of labels: without bytes, which stands for `void`, or another type name of a file
abbrev pub IsKeptType : List ℕ → Type 0
IsKeptType name = (name ≡ []) ⊎ (IsTypeName name × (is_void name ≡ false))

-- e and f are each other's reversal: two edges between the same nodes in opposite directions
pub record IsPair (s : GraphState) (e f : ℕ) : Type 0 where
  pub both : map.get s.reversals f ≡ Some e
  pub apart : e ≡ f → ⊥
  pub listed : Has e s.edges
  pub opposite : (source s e ≡ target s f) × (target s e ≡ source s f)

pub record IsFormed (s : GraphState) : Type 0 where
  -- each node, edge and dart stands once in the list where it belongs, and nothing else stands
  -- anywhere
  pub homes : (l : ListName) (x : Element) → Has x (list_of s l) → IsLive s x × (home s x ≡ l)
  pub housed : (x : Element) → IsLive s x → Has x (list_of s (home s x))
  pub once : (l : ListName) → IsOnce (list_of s l)
  -- the ends of an edge are nodes, and reversals are mutual
  pub ends : (e : ℕ) → Has e s.edges → Has (source s e) s.nodes × Has (target s e) s.nodes
  pub reversals : (e f : ℕ) → map.get s.reversals e ≡ Some f → IsPair s e f
  -- what is hidden is listed
  pub hidden_nodes : (v : ℕ) → set.contains s.hidden_nodes v ≡ true → Has v s.nodes
  pub hidden_edges : (e : ℕ) → set.contains s.hidden_edges e ≡ true → Has e s.edges
  -- numbers are those that were given, and nothing passes its limit
  pub given_nodes : (v : ℕ) → Has v s.nodes → (0 < v) × (v ≤ s.made_nodes)
  pub given_edges : (e : ℕ) → Has e s.edges → (0 < e) × (e ≤ s.made_edges)
  pub node_labels : (v : ℕ) (label : List ℕ) → map.get s.node_labels v ≡ Some label → IsLabel label
  pub edge_labels : (e : ℕ) (label : List ℕ) → map.get s.edge_labels e ≡ Some label → IsLabel label
  pub few : (length s.nodes ≤ NODE_LIMIT) × (length s.edges ≤ ARC_LIMIT)
  pub made : (s.made_nodes ≤ MOST_SERIALS) × (s.made_edges ≤ MOST_SERIALS)
  pub types : IsKeptType s.node_type × IsKeptType s.edge_type
