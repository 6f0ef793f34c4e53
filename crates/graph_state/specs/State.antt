-- The state of a graph, and its visible part.
use Rattle.std.specs.Prelude.{ℕ, Bool, true, false, not, ◌&&◌, cond, List, [], filter, unwrap_or, refl}
use Rattle.std.specs.Coded.{Coded, code_by, coded×, coded_ℕ, coded_bool, coded_list}
use Rattle.std.specs.Ordering.{nat_cmp}
use Rattle.std.specs.FinMap as map
use Rattle.std.specs.FinSet as set
use Rattle.graph_defs.specs.declared.dart.Dart.{Dart}
use Rattle.graph_state.specs.declared.kind.Kind.{Kind}
use Rattle.graph_state.specs.declared.kind.Kind.TheVariants.{Directed, Undirected}

-- nodes and edges by their numbers. A type without bytes is `void`
pub record GraphState : Type 0 where
  pub directed : Bool
  pub nodes : List ℕ
  pub edges : List ℕ
  pub ends : map.FinMap nat_cmp (ℕ × ℕ)
  pub outs : map.FinMap nat_cmp (List Dart)
  pub ins : map.FinMap nat_cmp (List Dart)
  pub reversals : map.FinMap nat_cmp ℕ
  pub node_labels : map.FinMap nat_cmp (List ℕ)
  pub edge_labels : map.FinMap nat_cmp (List ℕ)
  pub hidden_nodes : set.FinSet nat_cmp
  pub hidden_edges : set.FinSet nat_cmp
  pub node_type : List ℕ
  pub edge_type : List ℕ
  pub made_nodes : ℕ
  pub made_edges : ℕ

abbrev pub dart_code : Coded Dart
dart_code = code_by (ℕ × Bool) (coded× coded_ℕ coded_bool) (λ d. (d.edge, d.back))
    (λ p. record { edge = p.0; back = p.1 }) (λ _. refl)

abbrev Lists : Type 0
Lists = List ℕ × (List ℕ × (map.FinMap nat_cmp (ℕ × ℕ)
    × (map.FinMap nat_cmp (List Dart) × map.FinMap nat_cmp (List Dart))))

abbrev Marks : Type 0
Marks = map.FinMap nat_cmp ℕ
    × (map.FinMap nat_cmp (List ℕ)
    × (map.FinMap nat_cmp (List ℕ) × (set.FinSet nat_cmp × set.FinSet nat_cmp)))

abbrev Rest : Type 0
Rest = Bool × (List ℕ × (List ℕ × (ℕ × ℕ)))

abbrev lists_code : Coded Lists
lists_code = coded× (coded_list coded_ℕ) (coded× (coded_list coded_ℕ)
    (coded× (map.code coded_ℕ (coded× coded_ℕ coded_ℕ))
    (coded× (map.code coded_ℕ (coded_list dart_code))
    (map.code coded_ℕ (coded_list dart_code)))))

abbrev marks_code : Coded Marks
marks_code = coded× (map.code coded_ℕ coded_ℕ) (coded× (map.code coded_ℕ (coded_list coded_ℕ))
    (coded× (map.code coded_ℕ (coded_list coded_ℕ)) (coded× (set.code coded_ℕ) (set.code coded_ℕ))))

abbrev rest_code : Coded Rest
rest_code = coded× coded_bool
    (coded× (coded_list coded_ℕ) (coded× (coded_list coded_ℕ) (coded× coded_ℕ coded_ℕ)))

abbrev pub state_code : Coded GraphState
state_code = code_by (Lists × (Marks × Rest)) (coded× lists_code (coded× marks_code rest_code))
    (λ s. (
      (s.nodes, (s.edges, (s.ends, (s.outs, s.ins)))),
      (
        (s.reversals, (s.node_labels, (s.edge_labels, (s.hidden_nodes, s.hidden_edges)))),
        (s.directed, (s.node_type, (s.edge_type, (s.made_nodes, s.made_edges)))),
      ),
    ))
    (λ p. record {
      directed = p.1.1.0;
      nodes = p.0.0;
      edges = p.0.1.0;
      ends = p.0.1.1.0;
      outs = p.0.1.1.1.0;
      ins = p.0.1.1.1.1;
      reversals = p.1.0.0;
      node_labels = p.1.0.1.0;
      edge_labels = p.1.0.1.1.0;
      hidden_nodes = p.1.0.1.1.1.0;
      hidden_edges = p.1.0.1.1.1.1;
      node_type = p.1.1.1.0;
      edge_type = p.1.1.1.1.0;
      made_nodes = p.1.1.1.1.1.0;
      made_edges = p.1.1.1.1.1.1;
    }) (λ _. refl)

-- the kind of the graph
abbrev pub kind_of : GraphState → Kind
kind_of s = cond s.directed Directed Undirected

-- the dart of an edge at its source, and the one at its target
abbrev pub front : ℕ → Dart
front e = record { edge = e; back = false }

abbrev pub back : ℕ → Dart
back e = record { edge = e; back = true }

-- where an edge begins, and where it ends
abbrev pub ends_of : GraphState → ℕ → ℕ × ℕ
ends_of s e = unwrap_or (map.get s.ends e) (0, 0)

abbrev pub source : GraphState → ℕ → ℕ
source s e = (ends_of s e).0

abbrev pub target : GraphState → ℕ → ℕ
target s e = (ends_of s e).1

-- the darts in the out list of a node, and in its in list
abbrev pub out_list : GraphState → ℕ → List Dart
out_list s v = unwrap_or (map.get s.outs v) []

abbrev pub in_list : GraphState → ℕ → List Dart
in_list s v = unwrap_or (map.get s.ins v) []

abbrev pub node_label : GraphState → ℕ → List ℕ
node_label s v = unwrap_or (map.get s.node_labels v) []

abbrev pub edge_label : GraphState → ℕ → List ℕ
edge_label s e = unwrap_or (map.get s.edge_labels e) []

-- a node shows where it isn't hidden, an edge where neither it nor an end of it is, and a dart
-- where its edge shows
abbrev pub shows_node : GraphState → ℕ → Bool
shows_node s v = not (set.contains s.hidden_nodes v)

abbrev pub shows_ends : GraphState → ℕ × ℕ → Bool
shows_ends s p = shows_node s p.0 && shows_node s p.1

abbrev pub shows_edge : GraphState → ℕ → Bool
shows_edge s e = not (set.contains s.hidden_edges e) && shows_ends s (ends_of s e)

abbrev pub shows_dart : GraphState → Dart → Bool
shows_dart s d = shows_edge s d.edge

-- the lists of the visible graph
abbrev pub visible_nodes : GraphState → List ℕ
visible_nodes s = filter (shows_node s) s.nodes

abbrev pub visible_edges : GraphState → List ℕ
visible_edges s = filter (shows_edge s) s.edges

abbrev pub visible_out : GraphState → ℕ → List Dart
visible_out s v = filter (shows_dart s) (out_list s v)

abbrev pub visible_in : GraphState → ℕ → List Dart
visible_in s v = filter (shows_dart s) (in_list s v)

-- the graph of this kind and with these types of labels, with no nodes and no edges, behind so many
-- that were made
unfoldable pub new_graph : Bool → List ℕ → List ℕ → ℕ → ℕ → GraphState
new_graph directed node_type edge_type made_nodes made_edges = record {
  directed = directed;
  nodes = [];
  edges = [];
  ends = map.empty;
  outs = map.empty;
  ins = map.empty;
  reversals = map.empty;
  node_labels = map.empty;
  edge_labels = map.empty;
  hidden_nodes = set.empty;
  hidden_edges = set.empty;
  node_type = node_type;
  edge_type = edge_type;
  made_nodes = made_nodes;
  made_edges = made_edges;
}

-- the graph of which nothing was ever made, and whose labels have the type `void`
abbrev pub empty_graph : Bool → GraphState
empty_graph directed = new_graph directed [] [] 0 0
