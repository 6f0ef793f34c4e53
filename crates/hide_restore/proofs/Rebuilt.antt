-- What the graph that a plain graph describes has.
use Rattle.std.proofs.Common.{◌≡◌, ℕ, zero, suc, ◌+◌, ◌<◌, ◌≤◌, ◌==◌, Bool, true, false, cond, not, List, [], ◌∷◌, ◌++◌, map, filter, length, Option, Some, None, unwrap_or, refl, sym, ap, subst, ◌∙◌, inl, inr, arith}
use Rattle.std.proofs.lemmas.List.{append-nil, append_assoc}
use Rattle.std.specs.Prelude.{slice_get, nat_lt}
use Rattle.std.specs.FinMap as finite
use Rattle.std.specs.FinMap.{FinMap}
use Rattle.std.specs.Ordering.{nat_cmp}
use Rattle.graph_defs.specs.declared.dart.Dart.{Dart}
use Rattle.graph_defs.specs.declared.plain.PlainEdge.{PlainEdge}
use Rattle.graph_state.specs.State.{GraphState, front, back, out_list, in_list, node_label, edge_label}
use Rattle.graph_state.specs.Names.{Has}
use Rattle.graph_state.specs.Edits.{with_node, with_edge, enters, front_to_rear, back_to_rear, paired}
use Rattle.graph_state.specs.Built.{with_nodes, paired_back, with_plain_edge, with_plain_edges}
use Rattle.graph_state.proofs.Has.{filter_join, map_join, none_some, some_same}
use Rattle.graph_state.proofs.Same.{nat_tells}
use Rattle.graph_state.proofs.Maps.{put_here, put_else, list_put}
use Rattle.hide_restore.specs.Net.{place_of}
use Rattle.hide_restore.specs.Canon.{fronts}

module _ {X : Type 0} where
  -- as many numbers as there are elements, the next ones behind m
  abbrev pub numbers : ℕ → List X → List ℕ
  numbers m [] = []
  numbers m (x ∷ xs) = (m + 1) ∷ numbers (m + 1) xs

  pub place_number : (xs : List X) (m k : ℕ) → k < length xs → place_of (m + k + 1) (numbers m xs) ≡ k
  place_number [] m k few = absurd (omega (arith, few))
  place_number (x ∷ xs) m zero few = elim (nat_tells (m + 1) (m + 0 + 1)) [
    | inl y ↦ ap (λ b. cond b 0 (place_of (m + 0 + 1) (numbers (m + 1) xs) + 1)) y.0
    | inr n ↦ absurd (n.1 (omega arith))
  ]
  place_number (x ∷ xs) m (suc k) few = elim (nat_tells (m + 1) (m + suc k + 1)) [
    | inl y ↦ absurd (let e = y.1 in omega (arith, e))
    | inr n ↦
        let number : m + suc k + 1 ≡ m + 1 + k + 1 = omega arith in
        let one : k + 1 ≡ suc k = omega arith in
        ap (λ b. cond b 0 (place_of (m + suc k + 1) (numbers (m + 1) xs) + 1)) n.0
        ∙ ap (λ v. place_of v (numbers (m + 1) xs) + 1) number
        ∙ ap (λ j. j + 1) (place_number xs (m + 1) k (omega (arith, few))) ∙ one
  ]

  pub numbers_has : (xs : List X) (m v : ℕ) → Has v (numbers m xs) → (m < v) × (v ≤ m + length xs)
  numbers_has [] m v i = absurd i
  numbers_has (x ∷ xs) m v (inl e) = (omega (arith, e), omega (arith, e))
  numbers_has (x ∷ xs) m v (inr i) = let r = numbers_has xs (m + 1) v i in (omega (arith, r.0), omega (arith, r.1))

  -- what is read by the numbers is the list, if each element is read by its own
  pub read_all : (f : ℕ → X) (xs : List X) (m : ℕ) → ((k : ℕ) (x : X) → slice_get xs k ≡ Some x → f (m + k + 1) ≡ x) → map f (numbers m xs) ≡ xs
  read_all f [] m each = refl
  read_all f (x ∷ xs) m each =
      let first : m + 1 ≡ m + 0 + 1 = omega arith in
      let rest = read_all f xs (m + 1) (λ k y at. let number : m + 1 + k + 1 ≡ m + suc k + 1 = omega arith in ap f number ∙ each (suc k) y at) in
      (λ i. (ap f first ∙ each 0 x refl) i ∷ rest i)

-- the parts that stay while nodes and edges come in
pub record SameParts (s t : GraphState) : Type 0 where
  pub directed : t.directed ≡ s.directed
  pub hidden_nodes : t.hidden_nodes ≡ s.hidden_nodes
  pub hidden_edges : t.hidden_edges ≡ s.hidden_edges
  pub node_type : t.node_type ≡ s.node_type
  pub edge_type : t.edge_type ≡ s.edge_type

parts_on : (s t u : GraphState) → SameParts s t → SameParts t u → SameParts s u
parts_on s t u a b = record {
  directed = b.directed ∙ a.directed;
  hidden_nodes = b.hidden_nodes ∙ a.hidden_nodes;
  hidden_edges = b.hidden_edges ∙ a.hidden_edges;
  node_type = b.node_type ∙ a.node_type;
  edge_type = b.edge_type ∙ a.edge_type;
}

-- t is s with nodes of these labels more
pub record HasNodes (given : List (List ℕ)) (s t : GraphState) : Type 0 where
  pub parts : SameParts s t
  pub nodes : t.nodes ≡ s.nodes ++ numbers s.made_nodes given
  pub old : (v : ℕ) → v ≤ s.made_nodes → node_label t v ≡ node_label s v
  pub labels : map (node_label t) (numbers s.made_nodes given) ≡ given
  pub outs : ((v : ℕ) → out_list s v ≡ []) → (v : ℕ) → out_list t v ≡ []
  pub reversals : t.reversals ≡ s.reversals
  pub edges : t.edges ≡ s.edges

out_none : (m : FinMap nat_cmp (List Dart)) (k v : ℕ) → unwrap_or (finite.get m v) [] ≡ [] → unwrap_or (finite.get (finite.insert m k []) v) [] ≡ []
out_none m k v none = list_put m k [] v ∙ elim (v == k) as (λ b. cond b [] (unwrap_or (finite.get m v) []) ≡ []) [ true ↦ refl | false ↦ none ]

pub nodes_in : (labels : List (List ℕ)) (s : GraphState) → HasNodes labels s (with_nodes labels s)
unfolding with_nodes with_node
nodes_in [] s = record {
  parts = record { directed = refl; hidden_nodes = refl; hidden_edges = refl; node_type = refl; edge_type = refl };
  nodes = sym (append-nil s.nodes);
  old = λ v l. refl;
  labels = refl;
  outs = λ none. none;
  reversals = refl;
  edges = refl;
}
nodes_in (label ∷ labels) s =
    let t = with_node label s in
    let later = nodes_in labels t in
    record {
      parts = parts_on s t (with_nodes labels t) (record { directed = refl; hidden_nodes = refl; hidden_edges = refl; node_type = refl; edge_type = refl }) later.parts;
      nodes = later.nodes ∙ append_assoc s.nodes ((s.made_nodes + 1) ∷ []) (numbers (s.made_nodes + 1) labels);
      old = λ v l. later.old v (omega (arith, l)) ∙ ap (λ o. unwrap_or o []) (put_else s.node_labels (s.made_nodes + 1) label v (λ e. omega (arith, l, e)));
      labels =
          let first = later.old (s.made_nodes + 1) (omega arith) ∙ ap (λ o. unwrap_or o []) (put_here s.node_labels (s.made_nodes + 1) label (s.made_nodes + 1) refl) in
          (λ i. first i ∷ later.labels i);
      outs = λ none. later.outs (λ v. out_none s.outs (s.made_nodes + 1) v (none v));
      reversals = later.reversals;
      edges = later.edges;
    }

-- the front darts of a list that has one dart more at its rear
pub fronts_join : (ds es : List Dart) → fronts (ds ++ es) ≡ fronts ds ++ fronts es
fronts_join ds es =
    ap (map (λ (d : Dart). d.edge)) (filter_join (λ (d : Dart). not d.back) ds es)
    ∙ map_join (λ (d : Dart). d.edge) (filter (λ (d : Dart). not d.back) ds) (filter (λ (d : Dart). not d.back) es)

module _ (m : FinMap nat_cmp (List Dart)) (v : ℕ) (d : Dart) (u : ℕ) where
  abbrev at : ℕ → List Dart
  at k = unwrap_or (finite.get m k) []

  fronts_put : fronts (unwrap_or (finite.get (finite.insert m v (at v ++ d ∷ [])) u) []) ≡ fronts (at u) ++ cond (u == v) (fronts (d ∷ [])) []
  fronts_put = ap fronts (list_put m v (at v ++ d ∷ []) u) ∙ elim (nat_tells u v) [
    | inl y ↦
        ap (λ b. fronts (cond b (at v ++ d ∷ []) (at u))) y.0 ∙ fronts_join (at v) (d ∷ [])
        ∙ ap (λ k. fronts (at k) ++ fronts (d ∷ [])) (sym y.1) ∙ ap (λ b. fronts (at u) ++ cond b (fronts (d ∷ [])) []) (sym y.0)
    | inr n ↦
        ap (λ b. fronts (cond b (at v ++ d ∷ []) (at u))) n.0 ∙ sym (append-nil (fronts (at u)))
        ∙ ap (λ b. fronts (at u) ++ cond b (fronts (d ∷ [])) []) (sym n.0)
  ]

nothing_either : (b : Bool) → cond {A = List ℕ} b [] [] ≡ []
nothing_either true = refl
nothing_either false = refl

back_fronts : (w k : ℕ) (s : GraphState) (u : ℕ) → fronts (out_list (back_to_rear w k s) u) ≡ fronts (out_list s u)
back_fronts w k s u =
    elim s.directed as (λ d. fronts (unwrap_or (finite.get (cond d s.outs (finite.insert s.outs w (cond d (in_list s w) (out_list s w) ++ back k ∷ []))) u) []) ≡ fronts (out_list s u)) [
      | true ↦ refl
      | false ↦ fronts_put s.outs w (back k) u ∙ ap (λ es. fronts (out_list s u) ++ es) (nothing_either (u == w)) ∙ append-nil (fronts (out_list s u))
    ]

edge_fronts : (v w : ℕ) (label : List ℕ) (s : GraphState) (u : ℕ) → fronts (out_list (with_edge v w label s) u) ≡ fronts (out_list s u) ++ cond (u == v) ((s.made_edges + 1) ∷ []) []
unfolding with_edge
edge_fronts v w label s u =
    let k = s.made_edges + 1 in
    back_fronts w k (front_to_rear v k (enters v w label s)) u ∙ fronts_put s.outs v (front k) u

-- t is s with an edge of this label more, which begins at v
record HasOne (v : ℕ) (label : List ℕ) (s t : GraphState) : Type 0 where
  parts : SameParts s t
  nodes : t.nodes ≡ s.nodes
  made : t.made_edges ≡ s.made_edges + 1
  edges : t.edges ≡ s.edges ++ (s.made_edges + 1) ∷ []
  node_labels : t.node_labels ≡ s.node_labels
  edge_labels : t.edge_labels ≡ finite.insert s.edge_labels (s.made_edges + 1) label
  fronts : (u : ℕ) → fronts (out_list t u) ≡ fronts (out_list s u) ++ cond (u == v) ((s.made_edges + 1) ∷ []) []

one_edge : (v w : ℕ) (label : List ℕ) (s : GraphState) → HasOne v label s (with_edge v w label s)
unfolding with_edge
one_edge v w label s = record {
  parts = record { directed = refl; hidden_nodes = refl; hidden_edges = refl; node_type = refl; edge_type = refl };
  nodes = refl;
  made = refl;
  edges = refl;
  node_labels = refl;
  edge_labels = refl;
  fronts = edge_fronts v w label s;
}

one_paired : (v : ℕ) (label : List ℕ) (s t : GraphState) (e f : ℕ) → HasOne v label s t → HasOne v label s (paired e f t)
unfolding paired
one_paired v label s t e f m = record {
  parts = record {
    directed = m.parts.directed;
    hidden_nodes = m.parts.hidden_nodes;
    hidden_edges = m.parts.hidden_edges;
    node_type = m.parts.node_type;
    edge_type = m.parts.edge_type;
  };
  nodes = m.nodes;
  made = m.made;
  edges = m.edges;
  node_labels = m.node_labels;
  edge_labels = m.edge_labels;
  fronts = m.fronts;
}

one_back : (v : ℕ) (label : List ℕ) (s t : GraphState) (f : ℕ) (rev : Option ℕ) → HasOne v label s t → HasOne v label s (paired_back f rev t)
one_back v label s t f None m = m
one_back v label s t f (Some r) m = elim (nat_lt (f + r + 1) t.made_edges) as (λ b. HasOne v label s (cond b (paired t.made_edges (f + r + 1) t) t)) [
  | true ↦ one_paired v label s t t.made_edges (f + r + 1) m
  | false ↦ m
]

one_plain : (n f : ℕ) (e : PlainEdge) (s : GraphState) → HasOne (n + e.from + 1) e.label s (with_plain_edge n f e s)
unfolding with_plain_edge
one_plain n f e s =
    one_back (n + e.from + 1) e.label s (with_edge (n + e.from + 1) (n + e.to + 1) e.label s) f e.rev
    (one_edge (n + e.from + 1) (n + e.to + 1) e.label s)

-- the numbers of the edges that begin at v, where the next edge is the one behind m
unfoldable pub edges_at : ℕ → ℕ → ℕ → List PlainEdge → List ℕ
edges_at n v m [] = []
edges_at n v m (e ∷ es) = cond (v == n + e.from + 1) ((m + 1) ∷ edges_at n v (m + 1) es) (edges_at n v (m + 1) es)

-- t is s with these edges more
pub record HasPlain (n : ℕ) (es : List PlainEdge) (s t : GraphState) : Type 0 where
  pub parts : SameParts s t
  pub nodes : t.nodes ≡ s.nodes
  pub edges : t.edges ≡ s.edges ++ numbers s.made_edges es
  pub node_labels : t.node_labels ≡ s.node_labels
  pub old : (k : ℕ) → k ≤ s.made_edges → edge_label t k ≡ edge_label s k
  pub labels : (k : ℕ) (e : PlainEdge) → slice_get es k ≡ Some e → edge_label t (s.made_edges + k + 1) ≡ e.label
  pub fronts : (v : ℕ) → fronts (out_list t v) ≡ fronts (out_list s v) ++ edges_at n v s.made_edges es

module _ (n f : ℕ) (x : PlainEdge) (es : List PlainEdge) (s : GraphState) where
  abbrev next : GraphState
  next = with_plain_edge n f x s

  abbrev first : ℕ
  first = s.made_edges + 1

  label_old : (k : ℕ) → k ≤ s.made_edges → edge_label next k ≡ edge_label s k
  label_old k l =
      let m = one_plain n f x s in
      ap (λ labels. unwrap_or (finite.get labels k) []) m.edge_labels
      ∙ ap (λ o. unwrap_or o []) (put_else s.edge_labels first x.label k (λ e. omega (arith, l, e)))

  label_new : (k : ℕ) → k ≡ first → edge_label next k ≡ x.label
  label_new k is =
      let m = one_plain n f x s in
      ap (λ labels. unwrap_or (finite.get labels k) []) m.edge_labels
      ∙ ap (λ o. unwrap_or o []) (put_here s.edge_labels first x.label k is)

  module _ (t : GraphState) (later : HasPlain n es next t) where
    labels_on : (k : ℕ) (e : PlainEdge) → slice_get (x ∷ es) k ≡ Some e → edge_label t (s.made_edges + k + 1) ≡ e.label
    labels_on zero e at =
        let m = one_plain n f x s in
        let number : s.made_edges + 0 + 1 ≡ first = omega arith in
        later.old (s.made_edges + 0 + 1) (let made = m.made in omega (arith, made)) ∙ label_new (s.made_edges + 0 + 1) number
        ∙ ap (λ (e : PlainEdge). e.label) (some_same at)
    labels_on (suc k) e at =
        let m = one_plain n f x s in
        let number : s.made_edges + suc k + 1 ≡ next.made_edges + k + 1 = let made = m.made in omega (arith, made) in
        ap (edge_label t) number ∙ later.labels k e at

    fronts_on : (v : ℕ) → fronts (out_list t v) ≡ fronts (out_list s v) ++ edges_at n v s.made_edges (x ∷ es)
    unfolding edges_at
    fronts_on v =
        let m = one_plain n f x s in
        let old = fronts (out_list s v) in
        let rest = edges_at n v first es in
        later.fronts v ∙ ap (λ k. fronts (out_list next v) ++ edges_at n v k es) m.made ∙ ap (λ ys. ys ++ rest) (m.fronts v)
        ∙ append_assoc old (cond (v == n + x.from + 1) (first ∷ []) []) rest
        ∙ elim (v == n + x.from + 1) as (λ b. old ++ (cond b (first ∷ []) [] ++ rest) ≡ old ++ cond b (first ∷ rest) rest) [ true ↦ refl | false ↦ refl ]

pub plain_in : (n f : ℕ) (es : List PlainEdge) (s : GraphState) → HasPlain n es s (with_plain_edges n f es s)
unfolding with_plain_edges edges_at
plain_in n f [] s = record {
  parts = record { directed = refl; hidden_nodes = refl; hidden_edges = refl; node_type = refl; edge_type = refl };
  nodes = refl;
  edges = sym (append-nil s.edges);
  node_labels = refl;
  old = λ k l. refl;
  labels = λ k e at. absurd (none_some at);
  fronts = λ v. sym (append-nil (fronts (out_list s v)));
}
plain_in n f (x ∷ es) s =
    let t = with_plain_edge n f x s in
    let u = with_plain_edges n f es t in
    let m = one_plain n f x s in
    let later = plain_in n f es t in
    record {
      parts = parts_on s t u m.parts later.parts;
      nodes = later.nodes ∙ m.nodes;
      edges =
          later.edges ∙ ap (λ k. t.edges ++ numbers k es) m.made ∙ ap (λ ks. ks ++ numbers (s.made_edges + 1) es) m.edges
          ∙ append_assoc s.edges ((s.made_edges + 1) ∷ []) (numbers (s.made_edges + 1) es);
      node_labels = later.node_labels ∙ m.node_labels;
      old = λ k l. later.old k (let made = m.made in omega (arith, made, l)) ∙ label_old n f x es s k l;
      labels = labels_on n f x es s u later;
      fronts = fronts_on n f x es s u later;
    }
