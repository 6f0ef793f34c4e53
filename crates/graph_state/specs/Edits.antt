-- Each edit of a graph, as a function from state to state.
use Rattle.std.specs.Prelude.{ℕ, ◌+◌, Bool, true, false, cond, not, ◌==◌, ◌||◌, List, [], ◌∷◌, ◌++◌, Option, Some, None, filter, fold}
use Rattle.std.specs.Prelude as list
use Rattle.std.specs.Ordering.{nat_cmp}
use Rattle.std.specs.FinMap as map
use Rattle.std.specs.FinSet as set
use Rattle.graph_defs.specs.declared.dart.Dart.{Dart}
use Rattle.graph_state.specs.State.{GraphState, front, back, source, target, out_list, in_list}
use Rattle.graph_state.specs.Names.{same_dart, behind, before}

-- edges and darts without the edge e
abbrev pub edges_without : ℕ → List ℕ → List ℕ
edges_without e es = filter (λ k. not (k == e)) es

abbrev pub darts_without : ℕ → List Dart → List Dart
darts_without e ds = filter (λ d. not (d.edge == e)) ds

-- the state with these darts in the out list of v, in the in list, and in the list of the darts
-- that end at v
abbrev pub with_out : ℕ → List Dart → GraphState → GraphState
with_out v ds s = record s { outs = map.insert s.outs v ds }

abbrev pub back_list : GraphState → ℕ → List Dart
back_list s w = cond s.directed (in_list s w) (out_list s w)

abbrev pub with_back : ℕ → List Dart → GraphState → GraphState
with_back w ds s = record s {
  outs = cond s.directed s.outs (map.insert s.outs w ds);
  ins = cond s.directed (map.insert s.ins w ds) s.ins;
}

-- the front dart of e goes to the rear of the out list of v, or the back dart to the rear of its
-- list at w
abbrev pub front_to_rear : ℕ → ℕ → GraphState → GraphState
front_to_rear v e s = with_out v (out_list s v ++ front e ∷ []) s

abbrev pub back_to_rear : ℕ → ℕ → GraphState → GraphState
back_to_rear w e s = with_back w (back_list s w ++ back e ∷ []) s

-- the next edge, from v to w, is listed, but has no darts yet
abbrev pub enters : ℕ → ℕ → List ℕ → GraphState → GraphState
enters v w label s = record s {
  edges = s.edges ++ (s.made_edges + 1) ∷ [];
  ends = map.insert s.ends (s.made_edges + 1) (v, w);
  edge_labels = map.insert s.edge_labels (s.made_edges + 1) label;
  made_edges = s.made_edges + 1;
}

-- a new node with the label
unfoldable pub with_node : List ℕ → GraphState → GraphState
with_node label s = record s {
  nodes = s.nodes ++ (s.made_nodes + 1) ∷ [];
  outs = map.insert s.outs (s.made_nodes + 1) [];
  ins = map.insert s.ins (s.made_nodes + 1) [];
  node_labels = map.insert s.node_labels (s.made_nodes + 1) label;
  made_nodes = s.made_nodes + 1;
}

-- a new edge from v to w with the label: its darts go to the rear of their lists
unfoldable pub with_edge : ℕ → ℕ → List ℕ → GraphState → GraphState
with_edge v w label s = back_to_rear w (s.made_edges + 1)
    (front_to_rear v (s.made_edges + 1) (enters v w label s))

-- a new edge from the source of e to w, whose front dart stands right behind that of e, or right
-- before it
unfoldable pub with_edge_behind : ℕ → ℕ → List ℕ → GraphState → GraphState
with_edge_behind e w label s =
    let v = source s e in
    back_to_rear w (s.made_edges + 1)
    (with_out v (behind same_dart (front e) (front (s.made_edges + 1)) (out_list s v))
    (enters v w label s))

unfoldable pub with_edge_before : ℕ → ℕ → List ℕ → GraphState → GraphState
with_edge_before e w label s =
    let v = source s e in
    back_to_rear w (s.made_edges + 1)
    (with_out v (before same_dart (front e) (front (s.made_edges + 1)) (out_list s v))
    (enters v w label s))

-- e and its reversal, where it has one, lose each other
abbrev pub unpaired_at : ℕ → Option ℕ → map.FinMap nat_cmp ℕ → map.FinMap nat_cmp ℕ
unpaired_at e None m = m
unpaired_at e (Some f) m = map.remove (map.remove m e) f

abbrev pub unpaired : ℕ → GraphState → GraphState
unpaired e s = record s { reversals = unpaired_at e (map.get s.reversals e) s.reversals }

-- e and f are each other's reversal, and former partners lose theirs
unfoldable pub paired : ℕ → ℕ → GraphState → GraphState
paired e f s =
    let t = unpaired f (unpaired e s) in
    record t { reversals = map.insert (map.insert t.reversals e f) f e }

-- the darts of e stand nowhere
abbrev pub darts_out : ℕ → GraphState → GraphState
darts_out e s =
    let t = with_out (source s e) (darts_without e (out_list s (source s e))) s in
    with_back (target s e) (darts_without e (back_list t (target s e))) t

-- the edge e is gone
unfoldable pub without_edge : ℕ → GraphState → GraphState
without_edge e s =
    let t = unpaired e (darts_out e s) in
    record t {
      edges = edges_without e t.edges;
      ends = map.remove t.ends e;
      edge_labels = map.remove t.edge_labels e;
      hidden_edges = set.remove t.hidden_edges e;
    }

unfoldable pub without_edges : List ℕ → GraphState → GraphState
without_edges [] s = s
without_edges (e ∷ es) s = without_edges es (without_edge e s)

abbrev pub has_end : GraphState → ℕ → ℕ → Bool
has_end s v e = (source s e == v) || (target s e == v)

-- every edge with an end at v is gone, and then v
unfoldable pub without_node : ℕ → GraphState → GraphState
without_node v s =
    let t = without_edges (filter (has_end s v) s.edges) s in
    record t {
      nodes = edges_without v t.nodes;
      outs = map.remove t.outs v;
      ins = map.remove t.ins v;
      node_labels = map.remove t.node_labels v;
      hidden_nodes = set.remove t.hidden_nodes v;
    }

-- e goes from v to w, its darts at the rear of their lists; e and its reversal lose each other
unfoldable pub moved : ℕ → ℕ → ℕ → GraphState → GraphState
moved e v w s =
    let t = unpaired e (darts_out e s) in
    back_to_rear w e (front_to_rear v e (record t { ends = map.insert t.ends e (v, w) }))

-- e goes the other way
unfoldable pub reversed : ℕ → GraphState → GraphState
reversed e s = moved e (target s e) (source s e) s

-- a map with an entry for each of the numbers
abbrev pub at_each : {X : Type 0} → List ℕ → (ℕ → X) → map.FinMap nat_cmp X
at_each ks f = map.from_entries (list.map (λ k. (k, f k)) ks)

abbrev pub flipped : Dart → Dart
flipped d = record { edge = d.edge; back = not d.back }

-- every edge goes the other way: a dart stays in its place and changes its name, out lists and in
-- lists change roles
unfoldable pub all_reversed : GraphState → GraphState
all_reversed s = record s {
  ends = at_each s.edges (λ e. (target s e, source s e));
  outs = at_each s.nodes (λ v. list.map flipped (cond s.directed (in_list s v) (out_list s v)));
  ins = at_each s.nodes (λ v. list.map flipped (cond s.directed (out_list s v) (in_list s v)));
}

-- each out list becomes the out list followed by the in list
unfoldable pub made_undirected : GraphState → GraphState
made_undirected s = cond s.directed (record s {
  directed = false;
  outs = at_each s.nodes (λ v. out_list s v ++ in_list s v);
  ins = at_each s.nodes (λ v. []);
}) s

-- the back darts of each out list move in their order to the in list
unfoldable pub made_directed : GraphState → GraphState
made_directed s = cond s.directed s (record s {
  directed = true;
  outs = at_each s.nodes (λ v. filter (λ d. not d.back) (out_list s v));
  ins = at_each s.nodes (λ v. filter (λ d. d.back) (out_list s v));
})

-- no nodes and no edges: the kind, the types and the numbers given stay
unfoldable pub cleared : GraphState → GraphState
cleared s = record s {
  nodes = [];
  edges = [];
  ends = map.empty;
  outs = map.empty;
  ins = map.empty;
  reversals = map.empty;
  node_labels = map.empty;
  edge_labels = map.empty;
  hidden_nodes = set.empty;
  hidden_edges = set.empty;
}

unfoldable pub with_node_label : ℕ → List ℕ → GraphState → GraphState
with_node_label v label s = record s { node_labels = map.insert s.node_labels v label }

unfoldable pub with_edge_label : ℕ → List ℕ → GraphState → GraphState
with_edge_label e label s = record s { edge_labels = map.insert s.edge_labels e label }

-- hiding and restoring change the hidden sets alone
unfoldable pub edge_hidden : ℕ → GraphState → GraphState
edge_hidden e s = record s { hidden_edges = set.insert s.hidden_edges e }

unfoldable pub edge_restored : ℕ → GraphState → GraphState
edge_restored e s = record s { hidden_edges = set.remove s.hidden_edges e }

unfoldable pub node_hidden : ℕ → GraphState → GraphState
node_hidden v s = record s { hidden_nodes = set.insert s.hidden_nodes v }

unfoldable pub node_restored : ℕ → GraphState → GraphState
node_restored v s = record s { hidden_nodes = set.remove s.hidden_nodes v }

unfoldable pub all_restored : GraphState → GraphState
all_restored s = record s { hidden_nodes = set.empty; hidden_edges = set.empty }
