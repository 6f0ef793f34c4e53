-- The edits of a graph as values, and what it is to restore an edge or a node behind a row of them.
use Rattle.std.specs.Prelude.{◌≡◌, ℕ, false, List, [], ◌∷◌}
use Rattle.std.specs.FinSet as set
use Rattle.graph_state.specs.State.{GraphState}
use Rattle.graph_state.specs.Edits.{with_node, with_edge, with_edge_before, with_edge_behind, without_edge, without_node, has_end, reversed, moved, all_reversed, made_undirected, made_directed, with_node_label, with_edge_label, paired, edge_hidden, edge_restored, node_hidden, node_restored}

-- the edits, but for those that speak of every element: clearing, loading, restoring all, and
-- making a map
pub data Edit : Type 0 where
  NewNode : List ℕ → Edit
  NewEdge : ℕ → ℕ → List ℕ → Edit
  EdgeBefore : ℕ → ℕ → List ℕ → Edit
  EdgeBehind : ℕ → ℕ → List ℕ → Edit
  DeleteEdge : ℕ → Edit
  DeleteNode : ℕ → Edit
  ReverseEdge : ℕ → Edit
  MoveEdge : ℕ → ℕ → ℕ → Edit
  ReverseAll : Edit
  MakeUndirected : Edit
  MakeDirected : Edit
  LabelNode : ℕ → List ℕ → Edit
  LabelEdge : ℕ → List ℕ → Edit
  SetReversal : ℕ → ℕ → Edit
  HideEdge : ℕ → Edit
  RestoreEdge : ℕ → Edit
  HideNode : ℕ → Edit
  RestoreNode : ℕ → Edit

-- the state that an edit gives, and a row of edits
abbrev pub edited : Edit → GraphState → GraphState
edited (NewNode label) s = with_node label s
edited (NewEdge v w label) s = with_edge v w label s
edited (EdgeBefore e w label) s = with_edge_before e w label s
edited (EdgeBehind e w label) s = with_edge_behind e w label s
edited (DeleteEdge e) s = without_edge e s
edited (DeleteNode v) s = without_node v s
edited (ReverseEdge e) s = reversed e s
edited (MoveEdge e v w) s = moved e v w s
edited ReverseAll s = all_reversed s
edited MakeUndirected s = made_undirected s
edited MakeDirected s = made_directed s
edited (LabelNode v label) s = with_node_label v label s
edited (LabelEdge e label) s = with_edge_label e label s
edited (SetReversal e f) s = paired e f s
edited (HideEdge e) s = edge_hidden e s
edited (RestoreEdge e) s = edge_restored e s
edited (HideNode v) s = node_hidden v s
edited (RestoreNode v) s = node_restored v s

abbrev pub all_edited : List Edit → GraphState → GraphState
all_edited [] s = s
all_edited (d ∷ ds) s = all_edited ds (edited d s)

-- the edit neither names the edge x nor deletes it
abbrev pub Spares : ℕ → GraphState → Edit → Type 0
Spares x s (NewNode label) = Unit {0}
Spares x s (NewEdge v w label) = Unit {0}
Spares x s (EdgeBefore e w label) = e ≡ x → ⊥
Spares x s (EdgeBehind e w label) = e ≡ x → ⊥
Spares x s (DeleteEdge e) = e ≡ x → ⊥
Spares x s (DeleteNode v) = has_end s v x ≡ false
Spares x s (ReverseEdge e) = e ≡ x → ⊥
Spares x s (MoveEdge e v w) = e ≡ x → ⊥
Spares x s ReverseAll = Unit {0}
Spares x s MakeUndirected = Unit {0}
Spares x s MakeDirected = Unit {0}
Spares x s (LabelNode v label) = Unit {0}
Spares x s (LabelEdge e label) = e ≡ x → ⊥
Spares x s (SetReversal e f) = (e ≡ x → ⊥) × (f ≡ x → ⊥)
Spares x s (HideEdge e) = e ≡ x → ⊥
Spares x s (RestoreEdge e) = e ≡ x → ⊥
Spares x s (HideNode v) = Unit {0}
Spares x s (RestoreNode v) = Unit {0}

abbrev pub AllSpare : ℕ → GraphState → List Edit → Type 0
AllSpare x s [] = Unit {0}
AllSpare x s (d ∷ ds) = Spares x s d × AllSpare x (edited d s) ds

-- to hide an edge, edit, and restore it is to edit
abbrev pub RestoringGivesBack : Type 0
RestoringGivesBack = (x : ℕ) (s : GraphState) (ds : List Edit)
    → set.contains s.hidden_edges x ≡ false → AllSpare x s ds
    → edge_restored x (all_edited ds (edge_hidden x s)) ≡ all_edited ds s

-- the edit neither names the node x nor deletes it
abbrev pub SparesNode : ℕ → Edit → Type 0
SparesNode x (NewNode label) = Unit {0}
SparesNode x (NewEdge v w label) = (v ≡ x → ⊥) × (w ≡ x → ⊥)
SparesNode x (EdgeBefore e w label) = w ≡ x → ⊥
SparesNode x (EdgeBehind e w label) = w ≡ x → ⊥
SparesNode x (DeleteEdge e) = Unit {0}
SparesNode x (DeleteNode v) = v ≡ x → ⊥
SparesNode x (ReverseEdge e) = Unit {0}
SparesNode x (MoveEdge e v w) = (v ≡ x → ⊥) × (w ≡ x → ⊥)
SparesNode x ReverseAll = Unit {0}
SparesNode x MakeUndirected = Unit {0}
SparesNode x MakeDirected = Unit {0}
SparesNode x (LabelNode v label) = v ≡ x → ⊥
SparesNode x (LabelEdge e label) = Unit {0}
SparesNode x (SetReversal e f) = Unit {0}
SparesNode x (HideEdge e) = Unit {0}
SparesNode x (RestoreEdge e) = Unit {0}
SparesNode x (HideNode v) = v ≡ x → ⊥
SparesNode x (RestoreNode v) = v ≡ x → ⊥

abbrev pub AllSpareNode : ℕ → List Edit → Type 0
AllSpareNode x [] = Unit {0}
AllSpareNode x (d ∷ ds) = SparesNode x d × AllSpareNode x ds

-- to hide a node, edit, and restore it is to edit
abbrev pub RestoringNodesGivesBack : Type 0
RestoringNodesGivesBack = (x : ℕ) (s : GraphState) (ds : List Edit)
    → set.contains s.hidden_nodes x ≡ false → AllSpareNode x ds
    → node_restored x (all_edited ds (node_hidden x s)) ≡ all_edited ds s
