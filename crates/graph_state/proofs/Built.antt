-- What stands in a graph while the parts of a plain graph come in.
use Rattle.std.proofs.Common.{◌≡◌, ℕ, zero, suc, ◌+◌, ◌<◌, ◌≤◌, Bool, true, false, cond, not, List, [], ◌∷◌, ◌++◌, length, Option, Some, None, refl, sym, ap, subst, ◌∙◌, inl, inr, arith}
use Rattle.std.specs.Prelude.{slice_get, nat_lt}
use Rattle.std.specs.FinMap as map
use Rattle.std.specs.FinSet as set
use Rattle.std.specs.FinSet.{contains-empty}
use Rattle.std.specs.Ordering.{nat_cmp}
use Rattle.leda_base.specs.declared.name.ItemName.TheVariants as names
use Rattle.graph_defs.specs.declared.plain.PlainEdge.{PlainEdge}
use Rattle.graph_defs.specs.declared.plain.PlainGraph.{PlainGraph}
use Rattle.graph_defs.specs.Plain.{IsTypeName, is_void}
use Rattle.graph_state.specs.State.{GraphState, new_graph}
use Rattle.graph_state.specs.Names.{Has}
use Rattle.graph_state.specs.Edits.{with_node, with_edge, paired}
use Rattle.graph_state.specs.Refusals.{AreVisible}
use Rattle.graph_state.specs.Formed.{IsKeptType}
use Rattle.graph_state.specs.Built.{kept_type, bare, with_nodes, paired_back, with_plain_edge, with_plain_edges}
use Rattle.graph_state.proofs.Has.{has_left, has_right, some_same, none_some}
use Rattle.graph_state.proofs.Maps.{put_here, put_else}

-- the type of a file is kept as a state has it
kept_if : (b : Bool) (name : List ℕ) → is_void name ≡ b → IsTypeName name → IsKeptType (cond b [] name)
kept_if true name void is = inl refl
kept_if false name void is = inr (is, void)

pub type_kept : (name : List ℕ) → IsTypeName name → IsKeptType (kept_type name)
type_kept name is = kept_if (is_void name) name refl is

-- one more comes last
pub nodes_last : (labels : List (List ℕ)) (label : List ℕ) (s : GraphState) → with_nodes (labels ++ label ∷ []) s ≡ with_node label (with_nodes labels s)
unfolding with_nodes
nodes_last [] label s = refl
nodes_last (l ∷ labels) label s = nodes_last labels label (with_node l s)

pub edges_last : (v f : ℕ) (es : List PlainEdge) (e : PlainEdge) (s : GraphState) → with_plain_edges v f (es ++ e ∷ []) s ≡ with_plain_edge v f e (with_plain_edges v f es s)
unfolding with_plain_edges
edges_last v f [] e s = refl
edges_last v f (x ∷ es) e s = edges_last v f es e (with_plain_edge v f x s)

-- nodes come in with the next numbers, and none is hidden
nodes_kept : (labels : List (List ℕ)) (s : GraphState) (v : ℕ) → Has v s.nodes → Has v (with_nodes labels s).nodes
unfolding with_nodes with_node
nodes_kept [] s v i = i
nodes_kept (label ∷ labels) s v i = nodes_kept labels (with_node label s) v (has_left v s.nodes ((s.made_nodes + 1) ∷ []) i)

nodes_there : (labels : List (List ℕ)) (s : GraphState) (k : ℕ) → k < length labels → Has (s.made_nodes + k + 1) (with_nodes labels s).nodes
unfolding with_nodes with_node
nodes_there [] s k few = absurd (omega (arith, few))
nodes_there (label ∷ labels) s zero few =
    nodes_kept labels (with_node label s) (s.made_nodes + 0 + 1) (has_right (s.made_nodes + 0 + 1) s.nodes ((s.made_nodes + 1) ∷ []) (inl (omega arith)))
nodes_there (label ∷ labels) s (suc k) few =
    let step : s.made_nodes + suc k + 1 ≡ s.made_nodes + 1 + k + 1 = omega arith in
    subst (λ v. Has v (with_nodes labels (with_node label s)).nodes) (sym step) (nodes_there labels (with_node label s) k (omega (arith, few)))

nodes_unhidden : (labels : List (List ℕ)) (s : GraphState) → (with_nodes labels s).hidden_nodes ≡ s.hidden_nodes
unfolding with_nodes with_node
nodes_unhidden [] s = refl
nodes_unhidden (label ∷ labels) s = nodes_unhidden labels (with_node label s)

nodes_edges : (labels : List (List ℕ)) (s : GraphState) → (with_nodes labels s).made_edges ≡ s.made_edges
unfolding with_nodes with_node
nodes_edges [] s = refl
nodes_edges (label ∷ labels) s = nodes_edges labels (with_node label s)

-- the nodes of a plain graph are visible
pub nodes_visible : (g : PlainGraph) (nodes edges k : ℕ) → k < length g.nodes → AreVisible (with_nodes g.nodes (bare g nodes edges)) (names.Node (nodes + k + 1) ∷ [])
unfolding new_graph
nodes_visible g nodes edges k few =
    (nodes_there g.nodes (bare g nodes edges) k few, ap (λ h. not (set.contains h (nodes + k + 1))) (nodes_unhidden g.nodes (bare g nodes edges)) ∙ ap not (contains-empty nat_cmp (nodes + k + 1)), tt)

pub edges_made : (g : PlainGraph) (nodes edges : ℕ) → (with_nodes g.nodes (bare g nodes edges)).made_edges ≡ edges
unfolding new_graph
edges_made g nodes edges = nodes_edges g.nodes (bare g nodes edges)

-- t is s with an edge more, from v to w
pub record HasMore (v w : ℕ) (s t : GraphState) : Type 0 where
  pub nodes : t.nodes ≡ s.nodes
  pub hidden : t.hidden_nodes ≡ s.hidden_nodes
  pub made : t.made_edges ≡ s.made_edges + 1
  pub edges : t.edges ≡ s.edges ++ (s.made_edges + 1) ∷ []
  pub ends : t.ends ≡ map.insert s.ends (s.made_edges + 1) (v, w)

pub more_edge : (v w : ℕ) (label : List ℕ) (s : GraphState) → HasMore v w s (with_edge v w label s)
unfolding with_edge
more_edge v w label s = record { nodes = refl; hidden = refl; made = refl; edges = refl; ends = refl }

more_paired : (v w : ℕ) (s t : GraphState) (e f : ℕ) → HasMore v w s t → HasMore v w s (paired e f t)
unfolding paired
more_paired v w s t e f m = record { nodes = m.nodes; hidden = m.hidden; made = m.made; edges = m.edges; ends = m.ends }

more_back : (v w : ℕ) (s t : GraphState) (f : ℕ) (rev : Option ℕ) → HasMore v w s t → HasMore v w s (paired_back f rev t)
more_back v w s t f None m = m
more_back v w s t f (Some r) m = elim (nat_lt (f + r + 1) t.made_edges) as (λ b. HasMore v w s (cond b (paired t.made_edges (f + r + 1) t) t)) [
  | true ↦ more_paired v w s t t.made_edges (f + r + 1) m
  | false ↦ m
]

pub more_plain : (v f : ℕ) (e : PlainEdge) (s : GraphState) → HasMore (v + e.from + 1) (v + e.to + 1) s (with_plain_edge v f e s)
unfolding with_plain_edge
more_plain v f e s = more_back (v + e.from + 1) (v + e.to + 1) s (with_edge (v + e.from + 1) (v + e.to + 1) e.label s) f e.rev (more_edge (v + e.from + 1) (v + e.to + 1) e.label s)

-- the edge of this number is there, and runs between these nodes
pub record Runs (s : GraphState) (e : ℕ) (vw : ℕ × ℕ) : Type 0 where
  pub there : Has e s.edges
  pub ends : map.get s.ends e ≡ Some vw

module _ (v w : ℕ) (s t : GraphState) (m : HasMore v w s t) where
  pub runs_new : Runs t (s.made_edges + 1) (v, w)
  runs_new = record {
    there = subst (Has (s.made_edges + 1)) (sym m.edges) (has_right (s.made_edges + 1) s.edges ((s.made_edges + 1) ∷ []) (inl refl));
    ends = ap (λ n. map.get n (s.made_edges + 1)) m.ends ∙ put_here s.ends (s.made_edges + 1) (v, w) (s.made_edges + 1) refl;
  }

  pub runs_on : (e : ℕ) (ends : ℕ × ℕ) → e ≤ s.made_edges → Runs s e ends → Runs t e ends
  runs_on e ends old r = record {
    there = subst (Has e) (sym m.edges) (has_left e s.edges ((s.made_edges + 1) ∷ []) r.there);
    ends = ap (λ n. map.get n e) m.ends ∙ put_else s.ends (s.made_edges + 1) (v, w) e (λ is. omega (arith, old, is)) ∙ r.ends;
  }

-- t is s with these edges more
pub record HasEdges (v : ℕ) (es : List PlainEdge) (s t : GraphState) : Type 0 where
  pub nodes : t.nodes ≡ s.nodes
  pub hidden : t.hidden_nodes ≡ s.hidden_nodes
  pub made : t.made_edges ≡ s.made_edges + length es
  pub old : (e : ℕ) (ends : ℕ × ℕ) → e ≤ s.made_edges → Runs s e ends → Runs t e ends
  pub new : (k : ℕ) (e : PlainEdge) → slice_get es k ≡ Some e → Runs t (s.made_edges + k + 1) (v + e.from + 1, v + e.to + 1)

-- where the rest comes behind the first edge
new_here : (v : ℕ) (x : PlainEdge) (es : List PlainEdge) (s t u : GraphState) → HasMore (v + x.from + 1) (v + x.to + 1) s t → HasEdges v es t u
    → (k : ℕ) (e : PlainEdge) → slice_get (x ∷ es) k ≡ Some e → Runs u (s.made_edges + k + 1) (v + e.from + 1, v + e.to + 1)
new_here v x es s t u m later zero e at =
    let number : s.made_edges + 0 + 1 ≡ s.made_edges + 1 = omega arith in
    subst (λ (y : PlainEdge). Runs u (s.made_edges + 0 + 1) (v + y.from + 1, v + y.to + 1)) (some_same at)
    (later.old (s.made_edges + 0 + 1) (v + x.from + 1, v + x.to + 1) (omega (arith, m.made))
    (subst (λ n. Runs t n (v + x.from + 1, v + x.to + 1)) (sym number) (runs_new (v + x.from + 1) (v + x.to + 1) s t m)))
new_here v x es s t u m later (suc k) e at =
    let number : s.made_edges + suc k + 1 ≡ t.made_edges + k + 1 = omega (arith, m.made) in
    subst (λ n. Runs u n (v + e.from + 1, v + e.to + 1)) (sym number) (later.new k e at)

pub edges_in : (v f : ℕ) (es : List PlainEdge) (s : GraphState) → HasEdges v es s (with_plain_edges v f es s)
unfolding with_plain_edges
edges_in v f [] s = record { nodes = refl; hidden = refl; made = omega arith; old = λ e ends old r. r; new = λ k e at. absurd (none_some at) }
edges_in v f (x ∷ es) s =
    let t = with_plain_edge v f x s in
    let m = more_plain v f x s in
    let later = edges_in v f es t in
    record {
      nodes = later.nodes ∙ m.nodes;
      hidden = later.hidden ∙ m.hidden;
      made = omega (arith, later.made, m.made);
      old = λ e ends old r. later.old e ends (omega (arith, old, m.made)) (runs_on (v + x.from + 1) (v + x.to + 1) s t m e ends old r);
      new = new_here v x es s t (with_plain_edges v f es t) m later;
    }
