-- The graph that a plain graph describes has that plain graph, where its edges stand by their
-- sources.
use Rattle.std.proofs.Common.{◌≡◌, ℕ, zero, suc, ◌+◌, ◌<◌, ◌≤◌, ◌==◌, ◌&&◌, Bool, true, false, cond, not, List, [], ◌∷◌, ◌++◌, map, filter, length, Option, Some, None, option_map, unwrap_or, refl, sym, ap, subst, ◌∙◌, inl, inr, arith}
use Rattle.std.specs.Prelude.{slice_get, codes, bytes_eq, nat_lt, IfSome}
use Rattle.std.specs.Bool.{OnTrue}
use Rattle.std.specs.List.{list_all, flat_map, AllByRecursion}
use Rattle.std.specs.FinMap as finite
use Rattle.std.specs.FinMap.{get-empty}
use Rattle.std.specs.FinSet as set
use Rattle.std.specs.FinSet.{contains-empty}
use Rattle.std.specs.Ordering.{nat_cmp}
use Rattle.std.proofs.lemmas.List.{length-map}
use Rattle.std.proofs.lemmas.Slice.Eq.{bytes_eq-Decides}
use Rattle.graph_defs.specs.declared.plain.PlainEdge.{PlainEdge}
use Rattle.graph_defs.specs.declared.plain.PlainGraph.{PlainGraph}
use Rattle.graph_defs.specs.Plain.{IsTypeName, is_void, IsLabelOf, IsPlainEdge, IsPlainGraph}
use Rattle.graph_state.specs.State.{GraphState, new_graph, source, target, out_list, node_label, edge_label, shows_node, shows_edge, shows_dart, visible_nodes, visible_out}
use Rattle.graph_state.specs.Names.{Has}
use Rattle.graph_state.specs.Formed.{IsFormed}
use Rattle.graph_state.specs.Reversals.{if_shown, visible_reversal}
use Rattle.graph_state.specs.Built.{kept_type, bare, with_nodes, with_plain_edges, built}
use Rattle.graph_state.proofs.Built.{edges_made, edges_in}
use Rattle.graph_state.proofs.Has.{filter_all, none_some, some_same}
use Rattle.graph_state.proofs.Same.{nat_tells}
use Rattle.hide_restore.specs.Net.{place_of}
use Rattle.hide_restore.specs.Canon.{fronts, edges_from, ordered_edges, plain_edge, is_empty, file_type, plain_nodes, plain_edges, plain_of}
use Rattle.hide_restore.specs.Again.{ReadsAgain}
use Rattle.hide_restore.proofs.Ordered.{plain_is}
use Rattle.hide_restore.proofs.Valid.{stays, plain_valid}
use Rattle.hide_restore.proofs.Rebuilt.{numbers, place_number, read_all, HasNodes, nodes_in, edges_at, HasPlain, plain_in}
use Rattle.hide_restore.proofs.Paired.{IsMutual, mutual_from, told, AreTold, below, above, told_edges}
use Rattle.hide_restore.proofs.BySource.{Rise, flat_same, all_in, rises}

-- an element that is there
at_all : {X : Type 0} (P : X → Type 0) (xs : List X) (k : ℕ) (x : X) → AllByRecursion P xs → slice_get xs k ≡ Some x → P x
at_all P [] k x all at = absurd (none_some at)
at_all P (y ∷ ys) zero x all at = subst P (some_same at) all.0
at_all P (y ∷ ys) (suc k) x all at = at_all P ys k x all.1 at

at_less : {X : Type 0} (xs : List X) (k : ℕ) (x : X) → slice_get xs k ≡ Some x → k < length xs
at_less [] k x at = absurd (none_some at)
at_less (y ∷ ys) zero x at = omega arith
at_less (y ∷ ys) (suc k) x at = let l = at_less ys k x at in omega (arith, l)

-- types of labels
type_again : (void : Bool) (name : List ℕ) (empty : Bool) → bytes_eq name (codes "void") ≡ void → IsTypeName name → OnTrue void (empty ≡ true) → file_type empty (cond void [] name) ≡ name
type_again true name empty is named all = ap (λ b. cond b (codes "void") (codes "string")) all ∙ sym ((bytes_eq-Decides name (codes "void")).0 is)
type_again false name empty is named all = stays empty name named

zero_empty : (label : List ℕ) → length label ≡ 0 → is_empty label ≡ true
zero_empty label e = elim (nat_tells (length label) 0) [ inl y ↦ y.0 | inr n ↦ absurd (n.1 e) ]

labels_empty : (void : Bool) (labels : List (List ℕ)) → AllByRecursion (IsLabelOf void) labels → OnTrue void (list_all is_empty labels ≡ true)
labels_empty false labels all = tt
labels_empty true [] all = refl
labels_empty true (label ∷ labels) all = ap (λ b. b && list_all is_empty labels) (zero_empty label all.0.empty) ∙ labels_empty true labels all.1

edges_empty : (void : Bool) (n m : ℕ) (es : List PlainEdge) → AllByRecursion (IsPlainEdge n m void) es → OnTrue void (list_all (λ (e : PlainEdge). is_empty e.label) es ≡ true)
edges_empty false n m es all = tt
edges_empty true n m [] all = refl
edges_empty true n m (e ∷ es) all =
    ap (λ b. b && list_all (λ (e : PlainEdge). is_empty e.label) es) (zero_empty e.label all.0.label.empty) ∙ edges_empty true n m es all.1

-- a reversal that shows, by its place
shown_place : (s : GraphState) (all : List PlainEdge) (m k : ℕ) (o : Option ℕ) → ((e : ℕ) → shows_edge s e ≡ true) → k < length all → IfSome o (λ r. r < length all)
    → option_map (λ f. place_of f (numbers m all)) (if_shown s (told m (length all) k o)) ≡ o
unfolding told
shown_place s all m k None shows few rev = refl
shown_place s all m k (Some r) shows few rev =
    ap (λ b. option_map (λ f. place_of f (numbers m all)) (if_shown s (cond b (Some (m + r + 1)) None))) (ap (λ b. b && nat_lt r (length all)) (below k (length all) few) ∙ below r (length all) rev)
    ∙ ap (λ b. option_map (λ f. place_of f (numbers m all)) (cond b (Some (m + r + 1)) None)) (shows (m + r + 1))
    ∙ ap Some (place_number all m r rev)

none_told : (m i : ℕ) (o : Option ℕ) → told m 0 i o ≡ None
unfolding told
none_told m i None = refl
none_told m i (Some r) = ap (λ b. cond (b && nat_lt r 0) (Some (m + r + 1)) None) (above i 0 (omega arith))

module _ (g : PlainGraph) (n m : ℕ) (valid : IsPlainGraph g) (rise : Rise 0 (length g.nodes) g.edges) where
  abbrev with_all : GraphState
  with_all = with_nodes g.nodes (bare g n m)

  abbrev t : GraphState
  t = built g n m

  in_nodes : HasNodes g.nodes (bare g n m) with_all
  in_nodes = nodes_in g.nodes (bare g n m)

  in_edges : HasPlain n g.edges with_all t
  in_edges = plain_in n m g.edges with_all

  shows_v : (v : ℕ) → shows_node t v ≡ true
  unfolding new_graph
  shows_v v = ap (λ h. not (set.contains h v)) (in_edges.parts.hidden_nodes ∙ in_nodes.parts.hidden_nodes) ∙ ap not (contains-empty nat_cmp v)

  shows_e : (e : ℕ) → shows_edge t e ≡ true
  unfolding new_graph
  shows_e e =
      ap (λ h. not (set.contains h e) && (shows_node t (source t e) && shows_node t (target t e))) (in_edges.parts.hidden_edges ∙ in_nodes.parts.hidden_edges)
      ∙ ap (λ b. not b && (shows_node t (source t e) && shows_node t (target t e))) (contains-empty nat_cmp e)
      ∙ ap (λ b. b && shows_node t (target t e)) (shows_v (source t e)) ∙ shows_v (target t e)

  nodes_are : visible_nodes t ≡ numbers n g.nodes
  unfolding new_graph
  nodes_are = filter_all (shows_node t) t.nodes (λ v i. shows_v v) ∙ in_edges.nodes ∙ in_nodes.nodes

  no_outs : (v : ℕ) → out_list with_all v ≡ []
  unfolding new_graph
  no_outs v = in_nodes.outs (λ v. ap (λ o. unwrap_or o []) (get-empty nat_cmp v)) v

  from_are : (v : ℕ) → edges_from t v ≡ edges_at n v m g.edges
  from_are v =
      ap fronts (filter_all (shows_dart t) (out_list t v) (λ d i. shows_e d.edge)) ∙ in_edges.fronts v
      ∙ ap (λ ds. fronts ds ++ edges_at n v with_all.made_edges g.edges) (no_outs v) ∙ ap (λ k. edges_at n v k g.edges) (edges_made g n m)

  order_is : ordered_edges t ≡ numbers m g.edges
  order_is =
      ap (flat_map (edges_from t)) nodes_are ∙ flat_same (edges_from t) (λ v. edges_at n v m g.edges) (numbers n g.nodes) (λ v i. from_are v)
      ∙ all_in g.edges g.nodes n m rise

  labels_are : plain_nodes t ≡ g.nodes
  unfolding new_graph
  labels_are =
      ap (map (node_label t)) nodes_are ∙ ap (λ labels. map (λ v. unwrap_or (finite.get labels v) []) (numbers n g.nodes)) in_edges.node_labels ∙ in_nodes.labels

  reversals_are : AreTold m g.edges (length g.edges) t
  unfolding new_graph AreTold told
  reversals_are =
      let long : 0 + length g.edges ≡ length g.edges = omega arith in
      subst (λ k. AreTold m g.edges k t) long (told_edges n m 0 g.edges g.edges with_all (λ k. let same : 0 + k ≡ k = omega arith in ap (slice_get g.edges) same)
      (λ i r x at rev. let number : 0 + i ≡ i = omega arith in subst (λ j. IsMutual g.edges j r) number (mutual_from g.edges g.edges 0 i r x valid.pairs at rev))
      (λ i x at. ap (λ (r : finite.FinMap nat_cmp ℕ). finite.get r (m + i + 1)) in_nodes.reversals ∙ get-empty nat_cmp (m + i + 1) ∙ sym (none_told m i x.rev))
      (edges_made g n m ∙ (omega arith)))

  edge_is : (k : ℕ) (e : PlainEdge) → slice_get g.edges k ≡ Some e → plain_edge t (numbers m g.edges) (m + k + 1) ≡ e
  unfolding AreTold
  edge_is k e at =
      let few = at_less g.edges k e at in
      let is = at_all (IsPlainEdge (length g.nodes) (length g.edges) (is_void g.edge_type)) g.edges k e valid.edges at in
      let made = ap (λ j. j + k + 1) (edges_made g n m) in
      let runs = ap (λ j. finite.get t.ends j) (sym made) ∙ ((edges_in n m g.edges with_all).new k e at).ends in
      let from = ap (λ o. place_of (unwrap_or {T = ℕ × ℕ} o (0, 0)).0 (visible_nodes t)) runs ∙ ap (place_of (n + e.from + 1)) nodes_are ∙ place_number g.nodes n e.from is.from in
      let to = ap (λ o. place_of (unwrap_or {T = ℕ × ℕ} o (0, 0)).1 (visible_nodes t)) runs ∙ ap (place_of (n + e.to + 1)) nodes_are ∙ place_number g.nodes n e.to is.to in
      let rev =
      ap (λ o. option_map (λ f. place_of f (numbers m g.edges)) (if_shown t o)) (reversals_are k e at)
      ∙ shown_place t g.edges m k e.rev shows_e few is.rev in
      let label = ap (edge_label t) (sym made) ∙ in_edges.labels k e at in
      λ i. record { from = from i; to = to i; rev = rev i; label = label i }

  edges_are : plain_edges t ≡ g.edges
  edges_are = ap (λ es. map (plain_edge t es) es) order_is ∙ read_all (plain_edge t (numbers m g.edges)) g.edges m edge_is

  pub again : plain_of t ≡ g
  unfolding new_graph
  again =
      let of_nodes =
      ap (λ name. file_type (list_all is_empty g.nodes) name) (in_edges.parts.node_type ∙ in_nodes.parts.node_type)
      ∙ type_again (is_void g.node_type) g.node_type (list_all is_empty g.nodes) refl valid.node_type (labels_empty (is_void g.node_type) g.nodes valid.nodes) in
      let of_edges =
      ap (λ name. file_type (list_all (λ (e : PlainEdge). is_empty e.label) g.edges) name) (in_edges.parts.edge_type ∙ in_nodes.parts.edge_type)
      ∙ type_again (is_void g.edge_type) g.edge_type (list_all (λ (e : PlainEdge). is_empty e.label) g.edges) refl valid.edge_type
      (edges_empty (is_void g.edge_type) (length g.nodes) (length g.edges) g.edges valid.edges) in
      sym (plain_is t g.directed g.node_type g.edge_type g.nodes g.edges (sym (in_edges.parts.directed ∙ in_nodes.parts.directed)) (sym labels_are) (sym edges_are) (sym of_nodes) (sym of_edges))

pub reads_again : ReadsAgain
unfolding plain_of
reads_again s nodes edges f =
    again (plain_of s) nodes edges (plain_valid s f)
    (subst (λ k. Rise 0 k (plain_edges s)) (sym (length-map (visible_nodes s) (node_label s))) (rises s f))
