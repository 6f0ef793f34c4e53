-- Hiding a node and an edit that spares it can change places.
use Rattle.std.proofs.Common.{◌≡◌, ℕ, Bool, true, false, cond, ◌==◌, not, List, [], ◌∷◌, filter, refl, ap, ◌∙◌}
use Rattle.std.specs.FinMap as map
use Rattle.std.specs.FinSet as set
use Rattle.graph_state.specs.State.{GraphState}
use Rattle.graph_state.specs.Edits.{with_node, with_edge, with_edge_before, with_edge_behind, without_edge, without_edges, without_node, has_end, reversed, moved, all_reversed, made_undirected, made_directed, with_node_label, with_edge_label, paired, edge_hidden, edge_restored, node_hidden, node_restored}
use Rattle.hide_restore.specs.Edits.{Edit, NewNode, NewEdge, EdgeBefore, EdgeBehind, DeleteEdge, DeleteNode, ReverseEdge, MoveEdge, ReverseAll, MakeUndirected, MakeDirected, LabelNode, LabelEdge, SetReversal, HideEdge, RestoreEdge, HideNode, RestoreNode, edited, all_edited, SparesNode, AllSpareNode}
use Rattle.hide_restore.proofs.Law.{in_in, out_in, back_again, out_still, in_still}

cond_hidden : (x : ℕ) (b : Bool) (s t : GraphState) → cond b (node_hidden x s) (node_hidden x t) ≡ node_hidden x (cond b s t)
cond_hidden x true s t = refl
cond_hidden x false s t = refl

gone : (x e : ℕ) (s : GraphState) → without_edge e (node_hidden x s) ≡ node_hidden x (without_edge e s)
unfolding without_edge node_hidden
gone x e s = refl

all_gone : (x : ℕ) (es : List ℕ) (s : GraphState) → without_edges es (node_hidden x s) ≡ node_hidden x (without_edges es s)
unfolding without_edges
all_gone x [] s = refl
all_gone x (e ∷ es) s = ap (without_edges es) (gone x e s) ∙ all_gone x es (without_edge e s)

hidden_stays : (es : List ℕ) (s : GraphState) → (without_edges es s).hidden_nodes ≡ s.hidden_nodes
unfolding without_edge without_edges
hidden_stays [] s = refl
hidden_stays (e ∷ es) s = hidden_stays es (without_edge e s)

node_gone : (x v : ℕ) (s : GraphState) → (v ≡ x → ⊥) → without_node v (node_hidden x s) ≡ node_hidden x (without_node v s)
unfolding without_node node_hidden
node_gone x v s ne =
    ap (λ (t : GraphState). record t { nodes = filter (λ k. not (k == v)) t.nodes; outs = map.remove t.outs v; ins = map.remove t.ins v; node_labels = map.remove t.node_labels v; hidden_nodes = set.remove t.hidden_nodes v })
    (all_gone x (filter (has_end s v) s.edges) s)
    ∙ ap (λ h. record (without_node v s) { hidden_nodes = h }) (out_in (without_edges (filter (has_end s v) s.edges) s).hidden_nodes v x ne)

commutes : (x : ℕ) (s : GraphState) (d : Edit) → SparesNode x d → edited d (node_hidden x s) ≡ node_hidden x (edited d s)
unfolding with_node with_edge with_edge_before with_edge_behind without_edge reversed moved all_reversed made_undirected made_directed with_node_label with_edge_label paired edge_hidden edge_restored node_hidden node_restored
commutes x s (NewNode label) ok = refl
commutes x s (NewEdge v w label) ok = refl
commutes x s (EdgeBefore e w label) ok = refl
commutes x s (EdgeBehind e w label) ok = refl
commutes x s (DeleteEdge e) ok = refl
commutes x s (DeleteNode v) ok = node_gone x v s ok
commutes x s (ReverseEdge e) ok = refl
commutes x s (MoveEdge e v w) ok = refl
commutes x s ReverseAll ok = refl
commutes x s MakeUndirected ok = cond_hidden x s.directed _ s
commutes x s MakeDirected ok = cond_hidden x s.directed s _
commutes x s (LabelNode v label) ok = refl
commutes x s (LabelEdge e label) ok = refl
commutes x s (SetReversal e f) ok = refl
commutes x s (HideEdge e) ok = refl
commutes x s (RestoreEdge e) ok = refl
commutes x s (HideNode v) ok = ap (λ h. record s { hidden_nodes = h }) (in_in s.hidden_nodes v x)
commutes x s (RestoreNode v) ok = ap (λ h. record s { hidden_nodes = h }) (out_in s.hidden_nodes v x ok)

-- an edit that spares the node doesn't hide it
node_still : (x v : ℕ) (s : GraphState) → set.contains s.hidden_nodes x ≡ false → set.contains (without_node v s).hidden_nodes x ≡ false
unfolding without_node
node_still x v s none =
    out_still (without_edges (filter (has_end s v) s.edges) s).hidden_nodes v x (ap (λ h. set.contains h x) (hidden_stays (filter (has_end s v) s.edges) s) ∙ none)

cond_still : (x : ℕ) (b : Bool) (s t : GraphState) → set.contains s.hidden_nodes x ≡ false → set.contains t.hidden_nodes x ≡ false → set.contains (cond b s t).hidden_nodes x ≡ false
cond_still x true s t i j = i
cond_still x false s t i j = j

still : (x : ℕ) (s : GraphState) (d : Edit) → SparesNode x d → set.contains s.hidden_nodes x ≡ false → set.contains (edited d s).hidden_nodes x ≡ false
unfolding with_node with_edge with_edge_before with_edge_behind without_edge reversed moved all_reversed made_undirected made_directed with_node_label with_edge_label paired edge_hidden edge_restored node_hidden node_restored
still x s (NewNode label) ok none = none
still x s (NewEdge v w label) ok none = none
still x s (EdgeBefore e w label) ok none = none
still x s (EdgeBehind e w label) ok none = none
still x s (DeleteEdge e) ok none = none
still x s (DeleteNode v) ok none = node_still x v s none
still x s (ReverseEdge e) ok none = none
still x s (MoveEdge e v w) ok none = none
still x s ReverseAll ok none = none
still x s MakeUndirected ok none = cond_still x s.directed _ s none none
still x s MakeDirected ok none = cond_still x s.directed s _ none none
still x s (LabelNode v label) ok none = none
still x s (LabelEdge e label) ok none = none
still x s (SetReversal e f) ok none = none
still x s (HideEdge e) ok none = none
still x s (RestoreEdge e) ok none = none
still x s (HideNode v) ok none = in_still s.hidden_nodes v x ok none
still x s (RestoreNode v) ok none = out_still s.hidden_nodes v x none

none_between : (x : ℕ) (s : GraphState) → set.contains s.hidden_nodes x ≡ false → node_restored x (node_hidden x s) ≡ s
unfolding node_hidden node_restored
none_between x s none = ap (λ h. record s { hidden_nodes = h }) (back_again s.hidden_nodes x none)

pub gives_back : (x : ℕ) (s : GraphState) (ds : List Edit) → set.contains s.hidden_nodes x ≡ false → AllSpareNode x ds → node_restored x (all_edited ds (node_hidden x s)) ≡ all_edited ds s
gives_back x s [] none ok = none_between x s none
gives_back x s (d ∷ ds) none ok = ap (λ t. node_restored x (all_edited ds t)) (commutes x s d ok.0) ∙ gives_back x (edited d s) ds (still x s d ok.0 none) ok.1
