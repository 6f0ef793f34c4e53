-- The visible edges by their sources: each stands there once.
use Rattle.std.proofs.Common.{◌≡◌, ℕ, ◌≤◌, ◌==◌, Bool, true, false, cond, not, List, [], ◌∷◌, map, filter, length, Option, Some, None, MatchOption, refl, sym, ap, subst, ◌∙◌, inl, inr, arith}
use Rattle.std.specs.List.{list_all, flat_map}
use Rattle.std.specs.FinMap as map_of
use Rattle.leda_base.specs.declared.name.ItemName.TheVariants as names
use Rattle.graph_defs.specs.declared.dart.Dart.{Dart}
use Rattle.graph_defs.specs.declared.plain.PlainEdge.{PlainEdge}
use Rattle.graph_defs.specs.declared.plain.PlainGraph.{PlainGraph}
use Rattle.graph_state.specs.declared.name.ListName.{ListName}
use Rattle.graph_state.specs.declared.name.ListName.TheVariants.{Nodes, Edges, Out, In}
use Rattle.graph_state.specs.declared.name.Element.{Element}
use Rattle.graph_state.specs.declared.name.Element.TheVariants.{Node, Edge, End}
use Rattle.graph_state.specs.State.{GraphState, front, source, out_list, visible_nodes, visible_out, shows_edge, shows_dart}
use Rattle.graph_state.specs.Names.{Has, IsOnce, without}
use Rattle.graph_state.specs.Formed.{IsFormed}
use Rattle.graph_state.specs.Refusals.{AreVisible}
use Rattle.graph_state.specs.Reversals.{if_shown, visible_reversal}
use Rattle.graph_state.proofs.Has.{truth, none_some, some_same, has_left, has_right, has_either, once_join, has_map, has_mapped, once_mapped, has_filter, filter_has, once_filter}
use Rattle.graph_state.proofs.Same.{nat_tells, has_without, without_long}
use Rattle.graph_state.proofs.Removed.{edges_once}
use Rattle.hide_restore.specs.Net.{place_of}
use Rattle.hide_restore.specs.Canon.{fronts, edges_from, ordered_edges, is_empty, file_type, plain_nodes, plain_edges, plain_of}
use Rattle.hide_restore.proofs.Visible.{nodes_once, ends_seen}

-- a list without repetition is no longer than one that has all of it
once_few : (xs ys : List ℕ) → IsOnce xs → IsOnce ys → ((x : ℕ) → Has x xs → Has x ys) → length xs ≤ length ys
once_few [] ys o p all = omega arith
once_few (x ∷ xs) ys o p all =
    let long = without_long ◌==◌ nat_tells x ys p (all x (inl refl)) in
    let rest = once_few xs (without ◌==◌ x ys) o.1 (once_filter (λ z. not (z == x)) ys p) (λ y i. has_without ◌==◌ nat_tells x y ys (all y (inr i)) (λ e. o.0 (subst (λ z. Has z xs) e i))) in
    omega (arith, long, rest)

not_back : (b : Bool) → not b ≡ true → b ≡ false
not_back true t = cc
not_back false t = refl

front_is : (d : Dart) (e : ℕ) → e ≡ d.edge → not d.back ≡ true → d ≡ front e
front_is d e is first = λ i. record { edge = sym is i; back = not_back d.back first i }

-- an edge is one of those of the front darts where its front dart is there
has_fronts : (e : ℕ) (ds : List Dart) → Has (front e) ds → Has e (fronts ds)
has_fronts e ds i = has_map (λ (d : Dart). d.edge) (front e) (filter (λ (d : Dart). not d.back) ds) (filter_has (λ (d : Dart). not d.back) (front e) ds i refl)

fronts_has : (e : ℕ) (ds : List Dart) → Has e (fronts ds) → Has (front e) ds
fronts_has e ds i =
    let r = has_mapped (λ (d : Dart). d.edge) e (filter (λ (d : Dart). not d.back) ds) i in
    let h = has_filter (λ (d : Dart). not d.back) r.0 ds r.1.0 in
    subst (λ d. Has d ds) (front_is r.0 e r.1.1 h.1) h.0

fronts_once : (ds : List Dart) → IsOnce ds → IsOnce (fronts ds)
fronts_once [] o = tt
fronts_once (d ∷ ds) o =
    let rest = filter (λ (d : Dart). not d.back) ds in
    elim (truth d.back) [
      | inl t ↦ subst (λ b. IsOnce (map (λ (d : Dart). d.edge) (cond (not b) (d ∷ rest) rest))) (sym t) (fronts_once ds o.1)
      | inr n ↦ subst (λ b. IsOnce (map (λ (d : Dart). d.edge) (cond (not b) (d ∷ rest) rest))) (sym n)
          ((λ i. o.0 (subst (λ x. Has x ds) (sym (front_is d d.edge refl (ap not n))) (fronts_has d.edge ds i))), fronts_once ds o.1)
    ]

node_of : ListName → ℕ
node_of Nodes = 0
node_of Edges = 0
node_of (Out v) = v
node_of (In v) = v

dart_of : Element → Dart
dart_of (Node v) = front 0
dart_of (Edge e) = front 0
dart_of (End d) = d

module _ (s : GraphState) where
  ordered_has : (e : ℕ) (vs : List ℕ) → Has e (flat_map (edges_from s) vs) → (v : ℕ) × (Has v vs × Has e (edges_from s v))
  ordered_has e [] i = absurd i
  ordered_has e (v ∷ vs) i = elim (has_either e (edges_from s v) (flat_map (edges_from s) vs) i) [
    | inl j ↦ (v, (inl refl, j))
    | inr j ↦ let r = ordered_has e vs j in (r.0, (inr r.1.0, r.1.1))
  ]

  has_ordered : (e v : ℕ) (vs : List ℕ) → Has v vs → Has e (edges_from s v) → Has e (flat_map (edges_from s) vs)
  has_ordered e v [] i j = absurd i
  has_ordered e v (w ∷ vs) (inl n) j = has_left e (edges_from s w) (flat_map (edges_from s) vs) (subst (λ v. Has e (edges_from s v)) n j)
  has_ordered e v (w ∷ vs) (inr i) j = has_right e (edges_from s w) (flat_map (edges_from s) vs) (has_ordered e v vs i j)

-- what shows of an edge
pub if_shows : (s : GraphState) (o : Option ℕ) (g : ℕ) → if_shown s o ≡ Some g → (o ≡ Some g) × (shows_edge s g ≡ true)
if_shows s None g e = absurd (none_some e)
if_shows s (Some h) g e = elim (truth (shows_edge s h)) [
  | inl t ↦
      let same = some_same (ap (λ b. cond b (Some h) None) (sym t) ∙ e) in
      (ap Some same, subst (λ g. shows_edge s g ≡ true) same t)
  | inr n ↦ absurd (none_some (ap (λ b. cond b (Some h) None) (sym n) ∙ e))
]

-- what is looked up of a number that is there
pub placed : (o : Option ℕ) (v : ℕ) (xs : List ℕ) → MatchOption o (Has v xs → ⊥) (λ place. Has v xs × (place ≡ place_of v xs)) → Has v xs → o ≡ Some (place_of v xs)
placed None v xs is i = absurd (is i)
placed (Some place) v xs is i = ap Some is.1

module _ (s : GraphState) (f : IsFormed s) where
  -- an edge that begins at a node is visible, and the node is its source
  pub from_has : (e v : ℕ) → Has e (edges_from s v) → Has e s.edges × ((shows_edge s e ≡ true) × (v ≡ source s e))
  unfolding node_of
  from_has e v i =
      let h = has_filter (shows_dart s) (front e) (out_list s v) (fronts_has e (visible_out s v) i) in
      let g = f.homes (Out v) (End (front e)) (has_map End (front e) (out_list s v) h.0) in
      (g.0, (h.1, sym (ap node_of g.1)))

  has_from : (e : ℕ) → AreVisible s (names.Edge e ∷ []) → Has e (edges_from s (source s e))
  unfolding dart_of
  has_from e see =
      let m = has_mapped End (End (front e)) (out_list s (source s e)) (f.housed (End (front e)) see.0) in
      let there = subst (λ d. Has d (out_list s (source s e))) (sym (ap dart_of m.1.1)) m.1.0 in
      has_fronts e (visible_out s (source s e)) (filter_has (shows_dart s) (front e) (out_list s (source s e)) there see.1)

  from_once : (v : ℕ) → IsOnce (edges_from s v)
  from_once v = fronts_once (visible_out s v) (once_filter (shows_dart s) (out_list s v) (once_mapped End (out_list s v) (f.once (Out v))))

  ordered_once : (vs : List ℕ) → IsOnce vs → IsOnce (flat_map (edges_from s) vs)
  ordered_once [] o = tt
  ordered_once (v ∷ vs) o = once_join (edges_from s v) (flat_map (edges_from s) vs) (from_once v) (ordered_once vs o.1)
      (λ e i j. let r = ordered_has s e vs j in o.0 (subst (λ w. Has w vs) ((from_has e r.0 r.1.1).1.1 ∙ sym (from_has e v i).1.1) r.1.0))

  -- they are the visible edges
  pub edges_visible : (e : ℕ) → Has e (ordered_edges s) → AreVisible s (names.Edge e ∷ [])
  edges_visible e i = let r = ordered_has s e (visible_nodes s) i in let h = from_has e r.0 r.1.1 in (h.0, h.1.0, tt)

  pub visible_ordered : (e : ℕ) → AreVisible s (names.Edge e ∷ []) → Has e (ordered_edges s)
  visible_ordered e see = has_ordered s e (source s e) (visible_nodes s) (ends_seen s f e see).0 (has_from e see)

  pub partner_ordered : (e g : ℕ) → visible_reversal s e ≡ Some g → Has g (ordered_edges s)
  partner_ordered e g is =
      let r = if_shows s (map_of.get s.reversals e) g is in
      visible_ordered g ((f.reversals g e (f.reversals e g r.0).both).listed, r.1, tt)

  pub edges_differ : IsOnce (ordered_edges s)
  edges_differ = ordered_once (visible_nodes s) (nodes_once s f)

  pub ordered_few : length (ordered_edges s) ≤ 400000
  ordered_few =
      let a = once_few (ordered_edges s) s.edges edges_differ (edges_once s f) (λ e i. (edges_visible e i).0) in
      let b = f.few.1 in
      omega (arith, a, b)

  pub ordered_below : (e : ℕ) → Has e (ordered_edges s) → e ≤ s.made_edges
  ordered_below e i = (f.given_edges e (edges_visible e i).0).1

-- the plain graph by its parts
pub plain_is : (s : GraphState) (directed : Bool) (node_type edge_type : List ℕ) (nodes : List (List ℕ)) (edges : List PlainEdge)
    → directed ≡ s.directed → nodes ≡ plain_nodes s → edges ≡ plain_edges s
    → node_type ≡ file_type (list_all is_empty nodes) s.node_type
    → edge_type ≡ file_type (list_all (λ (e : PlainEdge). is_empty e.label) edges) s.edge_type
    → ◌≡◌ {A = PlainGraph} (record { directed = directed; node_type = node_type; edge_type = edge_type; nodes = nodes; edges = edges }) (plain_of s)
unfolding plain_of
plain_is s directed node_type edge_type nodes edges kind labels arcs of_nodes of_edges =
    let first = of_nodes ∙ ap (λ nodes. file_type (list_all is_empty nodes) s.node_type) labels in
    let second = of_edges ∙ ap (λ edges. file_type (list_all (λ (e : PlainEdge). is_empty e.label) edges) s.edge_type) arcs in
    λ j. record { directed = kind j; node_type = first j; edge_type = second j; nodes = labels j; edges = arcs j }
