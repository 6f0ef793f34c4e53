-- Hiding an edge and an edit that spares it can change places.
use Rattle.std.proofs.Common.{◌≡◌, ℕ, Bool, true, false, cond, ◌==◌, ◌||◌, ◌&&◌, not, List, [], ◌∷◌, filter, refl, sym, ap, ◌∙◌, inl, inr}
use Rattle.std.specs.Ordering.{nat_cmp}
use Rattle.std.specs.Cmp.{nat_cmp_total}
use Rattle.std.specs.FinMap as map
use Rattle.std.specs.FinSet as set
use Rattle.std.specs.FinSet.{FinSet, nat_cmp-IsAntisymmetric, same_set}
use Rattle.graph_state.specs.State.{GraphState}
use Rattle.graph_state.specs.Names.{Has}
use Rattle.graph_state.specs.Edits.{with_node, with_edge, with_edge_before, with_edge_behind, without_edge, without_edges, without_node, has_end, reversed, moved, all_reversed, made_undirected, made_directed, with_node_label, with_edge_label, paired, edge_hidden, edge_restored, node_hidden, node_restored}
use Rattle.graph_state.proofs.Has.{not_both, has_filter}
use Rattle.graph_state.proofs.Same.{nat_tells}
use Rattle.graph_state.proofs.Maps.{in_put, in_out}
use Rattle.hide_restore.specs.Edits.{Edit, NewNode, NewEdge, EdgeBefore, EdgeBehind, DeleteEdge, DeleteNode, ReverseEdge, MoveEdge, ReverseAll, MakeUndirected, MakeDirected, LabelNode, LabelEdge, SetReversal, HideEdge, RestoreEdge, HideNode, RestoreNode, edited, all_edited, Spares, AllSpare}

or_swap : (a b c : Bool) → (a || (b || c)) ≡ (b || (a || c))
or_swap true true c = refl
or_swap true false c = refl
or_swap false b c = refl

-- one number in and another one out, in either order
pub in_in : (s : FinSet nat_cmp) (e x : ℕ) → set.insert (set.insert s x) e ≡ set.insert (set.insert s e) x
in_in s e x = same_set nat_cmp_total nat_cmp-IsAntisymmetric _ _ (λ q.
    in_put (set.insert s x) e q ∙ ap (λ b. (q == e) || b) (in_put s x q) ∙ or_swap (q == e) (q == x) (set.contains s q)
    ∙ sym (in_put (set.insert s e) x q ∙ ap (λ b. (q == x) || b) (in_put s e q)))

out_over : (a b c : Bool) → (a ≡ true → b ≡ false) → (not a && (b || c)) ≡ (b || (not a && c))
out_over true b c f = ap (λ b. b || false) (sym (f refl))
out_over false b c f = refl

pub out_in : (s : FinSet nat_cmp) (e x : ℕ) → (e ≡ x → ⊥) → set.remove (set.insert s x) e ≡ set.insert (set.remove s e) x
out_in s e x ne = same_set nat_cmp_total nat_cmp-IsAntisymmetric _ _ (λ q.
    in_out (set.insert s x) e q ∙ ap (λ b. not (q == e) && b) (in_put s x q)
    ∙ out_over (q == e) (q == x) (set.contains s q) (λ t. elim (nat_tells q x) [
      | inl y ↦ elim (nat_tells q e) [ inl z ↦ absurd (ne (sym z.1 ∙ y.1)) | inr n ↦ absurd (not_both t n.0) ]
      | inr n ↦ n.0
    ])
    ∙ sym (in_put (set.remove s e) x q ∙ ap (λ b. (q == x) || b) (in_out s e q)))

back_and_forth : (a c : Bool) → (a ≡ true → c ≡ false) → (not a && (a || c)) ≡ c
back_and_forth true c f = sym (f refl)
back_and_forth false c f = refl

pub back_again : (s : FinSet nat_cmp) (x : ℕ) → set.contains s x ≡ false → set.remove (set.insert s x) x ≡ s
back_again s x none = same_set nat_cmp_total nat_cmp-IsAntisymmetric _ _ (λ q.
    in_out (set.insert s x) x q ∙ ap (λ b. not (q == x) && b) (in_put s x q)
    ∙ back_and_forth (q == x) (set.contains s q) (λ t. elim (nat_tells q x) [ inl y ↦ ap (set.contains s) y.1 ∙ none | inr n ↦ absurd (not_both t n.0) ]))

cond_hidden : (x : ℕ) (b : Bool) (s t : GraphState) → cond b (edge_hidden x s) (edge_hidden x t) ≡ edge_hidden x (cond b s t)
cond_hidden x true s t = refl
cond_hidden x false s t = refl

gone : (x e : ℕ) (s : GraphState) → (e ≡ x → ⊥) → without_edge e (edge_hidden x s) ≡ edge_hidden x (without_edge e s)
unfolding without_edge edge_hidden
gone x e s ne = ap (λ h. record (without_edge e s) { hidden_edges = h }) (out_in s.hidden_edges e x ne)

all_gone : (x : ℕ) (es : List ℕ) (s : GraphState) → ((e : ℕ) → Has e es → e ≡ x → ⊥) → without_edges es (edge_hidden x s) ≡ edge_hidden x (without_edges es s)
unfolding without_edges
all_gone x [] s ne = refl
all_gone x (e ∷ es) s ne = ap (without_edges es) (gone x e s (ne e (inl refl))) ∙ all_gone x es (without_edge e s) (λ f i. ne f (inr i))

node_gone : (x v : ℕ) (s : GraphState) → has_end s v x ≡ false → without_node v (edge_hidden x s) ≡ edge_hidden x (without_node v s)
unfolding without_node edge_hidden
node_gone x v s none =
    ap (λ (t : GraphState). record t { nodes = filter (λ k. not (k == v)) t.nodes; outs = map.remove t.outs v; ins = map.remove t.ins v; node_labels = map.remove t.node_labels v; hidden_nodes = set.remove t.hidden_nodes v })
    (all_gone x (filter (has_end s v) s.edges) s (λ e i n. not_both (has_filter (has_end s v) e s.edges i).1 (ap (has_end s v) n ∙ none)))

commutes : (x : ℕ) (s : GraphState) (d : Edit) → Spares x s d → edited d (edge_hidden x s) ≡ edge_hidden x (edited d s)
unfolding with_node with_edge with_edge_before with_edge_behind reversed moved all_reversed made_undirected made_directed with_node_label with_edge_label paired edge_hidden edge_restored node_hidden node_restored
commutes x s (NewNode label) ok = refl
commutes x s (NewEdge v w label) ok = refl
commutes x s (EdgeBefore e w label) ok = refl
commutes x s (EdgeBehind e w label) ok = refl
commutes x s (DeleteEdge e) ok = gone x e s ok
commutes x s (DeleteNode v) ok = node_gone x v s ok
commutes x s (ReverseEdge e) ok = refl
commutes x s (MoveEdge e v w) ok = refl
commutes x s ReverseAll ok = refl
commutes x s MakeUndirected ok = cond_hidden x s.directed _ s
commutes x s MakeDirected ok = cond_hidden x s.directed s _
commutes x s (LabelNode v label) ok = refl
commutes x s (LabelEdge e label) ok = refl
commutes x s (SetReversal e f) ok = refl
commutes x s (HideEdge e) ok = ap (λ h. record s { hidden_edges = h }) (in_in s.hidden_edges e x)
commutes x s (RestoreEdge e) ok = ap (λ h. record s { hidden_edges = h }) (out_in s.hidden_edges e x ok)
commutes x s (HideNode v) ok = refl
commutes x s (RestoreNode v) ok = refl

-- an edit that spares the edge doesn't hide it
pub out_still : (h : FinSet nat_cmp) (e x : ℕ) → set.contains h x ≡ false → set.contains (set.remove h e) x ≡ false
out_still h e x none = in_out h e x ∙ ap (λ b. not (x == e) && b) none ∙ elim (not (x == e)) as (λ b. (b && false) ≡ false) [ true ↦ refl | false ↦ refl ]

pub in_still : (h : FinSet nat_cmp) (e x : ℕ) → (e ≡ x → ⊥) → set.contains h x ≡ false → set.contains (set.insert h e) x ≡ false
in_still h e x ne none = in_put h e x ∙ ap (λ b. (x == e) || b) none ∙ elim (nat_tells x e) [ inl y ↦ absurd (ne (sym y.1)) | inr n ↦ ap (λ b. b || false) n.0 ]

gone_still : (x e : ℕ) (s : GraphState) → set.contains s.hidden_edges x ≡ false → set.contains (without_edge e s).hidden_edges x ≡ false
unfolding without_edge
gone_still x e s none = out_still s.hidden_edges e x none

all_still : (x : ℕ) (es : List ℕ) (s : GraphState) → set.contains s.hidden_edges x ≡ false → set.contains (without_edges es s).hidden_edges x ≡ false
unfolding without_edges
all_still x [] s none = none
all_still x (e ∷ es) s none = all_still x es (without_edge e s) (gone_still x e s none)

node_still : (x v : ℕ) (s : GraphState) → set.contains s.hidden_edges x ≡ false → set.contains (without_node v s).hidden_edges x ≡ false
unfolding without_node
node_still x v s none = all_still x (filter (has_end s v) s.edges) s none

cond_still : (x : ℕ) (b : Bool) (s t : GraphState) → set.contains s.hidden_edges x ≡ false → set.contains t.hidden_edges x ≡ false → set.contains (cond b s t).hidden_edges x ≡ false
cond_still x true s t i j = i
cond_still x false s t i j = j

still : (x : ℕ) (s : GraphState) (d : Edit) → Spares x s d → set.contains s.hidden_edges x ≡ false → set.contains (edited d s).hidden_edges x ≡ false
unfolding with_node with_edge with_edge_before with_edge_behind reversed moved all_reversed made_undirected made_directed with_node_label with_edge_label paired edge_hidden edge_restored node_hidden node_restored
still x s (NewNode label) ok none = none
still x s (NewEdge v w label) ok none = none
still x s (EdgeBefore e w label) ok none = none
still x s (EdgeBehind e w label) ok none = none
still x s (DeleteEdge e) ok none = gone_still x e s none
still x s (DeleteNode v) ok none = node_still x v s none
still x s (ReverseEdge e) ok none = none
still x s (MoveEdge e v w) ok none = none
still x s ReverseAll ok none = none
still x s MakeUndirected ok none = cond_still x s.directed _ s none none
still x s MakeDirected ok none = cond_still x s.directed s _ none none
still x s (LabelNode v label) ok none = none
still x s (LabelEdge e label) ok none = none
still x s (SetReversal e f) ok none = none
still x s (HideEdge e) ok none = in_still s.hidden_edges e x ok none
still x s (RestoreEdge e) ok none = out_still s.hidden_edges e x none
still x s (HideNode v) ok none = none
still x s (RestoreNode v) ok none = none

none_between : (x : ℕ) (s : GraphState) → set.contains s.hidden_edges x ≡ false → edge_restored x (edge_hidden x s) ≡ s
unfolding edge_hidden edge_restored
none_between x s none = ap (λ h. record s { hidden_edges = h }) (back_again s.hidden_edges x none)

pub gives_back : (x : ℕ) (s : GraphState) (ds : List Edit) → set.contains s.hidden_edges x ≡ false → AllSpare x s ds → edge_restored x (all_edited ds (edge_hidden x s)) ≡ all_edited ds s
gives_back x s [] none ok = none_between x s none
gives_back x s (d ∷ ds) none ok = ap (λ t. edge_restored x (all_edited ds t)) (commutes x s d ok.0) ∙ gives_back x (edited d s) ds (still x s d ok.0 none) ok.1
