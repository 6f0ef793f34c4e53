-- A state without a node at which no edge has an end: its lists, and that it is well-formed.
use Rattle.std.proofs.Common.{◌≡◌, ℕ, ◌+◌, ◌≤◌, ◌==◌, Bool, true, false, cond, not, ◌&&◌, ◌||◌, List, [], ◌∷◌, filter, length, Option, Some, None, unwrap_or, refl, sym, ap, subst, ◌∙◌, inl, inr, arith}
use Rattle.std.proofs.Common as list
use Rattle.std.specs.FinMap as map
use Rattle.std.specs.FinSet as set
use Rattle.graph_defs.specs.declared.dart.Dart.{Dart}
use Rattle.graph_state.specs.declared.name.ListName.{ListName}
use Rattle.graph_state.specs.declared.name.ListName.TheVariants.{Nodes, Edges, Out, In}
use Rattle.graph_state.specs.declared.name.Element.{Element}
use Rattle.graph_state.specs.declared.name.Element.TheVariants.{Node, Edge, End}
use Rattle.graph_state.specs.State.{GraphState, source, target, out_list, in_list}
use Rattle.graph_state.specs.Names.{Has, IsOnce, list_of, IsLive, home, shows, same_element}
use Rattle.graph_state.specs.Formed.{IsFormed, IsPair}
use Rattle.graph_state.specs.Parts.{IsAlone}
use Rattle.graph_state.specs.Edits.{edges_without, without_edge, without_edges, without_node, has_end}
use Rattle.graph_state.proofs.Has.{not_both, none_some, none_has, has_map, has_filter, filter_has, filter_all, filter_map_is, once_filter, once_mapped}
use Rattle.graph_state.proofs.Same.{nat_tells, without_long}
use Rattle.graph_state.proofs.Maps.{get_out, out_here, out_else, in_out}
use Rattle.graph_state.proofs.Removed.{not_equal, unequal, at_out, at_in, edges_once}
use Rattle.graph_state.proofs.Order.{edges_at, any_first, none_at}

-- the state without v, of which no edge is left
unfoldable pub node_out : ℕ → GraphState → GraphState
node_out v s = record s {
  nodes = edges_without v s.nodes;
  outs = map.remove s.outs v;
  ins = map.remove s.ins v;
  node_labels = map.remove s.node_labels v;
  hidden_nodes = set.remove s.hidden_nodes v;
}

-- to delete a node is to delete its edges, and then to take it out
pub without_node_is : (v : ℕ) (s : GraphState) → without_node v s ≡ node_out v (without_edges (edges_at v s) s)
unfolding without_node node_out
without_node_is v s = refl

pub without_alone : (v : ℕ) (s : GraphState) → IsAlone s v → without_node v s ≡ node_out v s
without_alone v s alone = without_node_is v s ∙ ap (node_out v) (none_at s v alone)

-- an edge of the node may go before it does
pub without_first : (s : GraphState) → IsFormed s → (v e : ℕ) → Has e s.edges → has_end s v e ≡ true → without_node v (without_edge e s) ≡ without_node v s
without_first s f v e here end = without_node_is v (without_edge e s) ∙ ap (node_out v) (any_first s f v e here end) ∙ sym (without_node_is v s)

neither_end : (a b v : ℕ) → ((a == v) || (b == v)) ≡ false → (v ≡ a → ⊥) × (v ≡ b → ⊥)
neither_end a b v none = elim (nat_tells a v) [
  | inl y ↦ absurd (not_both (ap (λ c. c || (b == v)) y.0) none)
  | inr n ↦ elim (nat_tells b v) [
    | inl y ↦ absurd (not_both (ap (λ c. c || (b == v)) n.0 ∙ y.0) none)
    | inr m ↦ ((λ e. n.1 (sym e)), (λ e. m.1 (sym e)))
  ]
]

list_left : (o : Option (List Dart)) (u v : ℕ) (m : Option (List Dart)) → m ≡ cond (u == v) None o → (u ≡ v → unwrap_or o [] ≡ []) → unwrap_or m [] ≡ unwrap_or o []
list_left o u v m is none = ap (λ m. unwrap_or m []) is ∙ elim (nat_tells u v) [
  | inl y ↦ ap (λ b. unwrap_or (cond b None o) []) y.0 ∙ sym (none y.1)
  | inr n ↦ ap (λ b. unwrap_or (cond b None o) []) n.0
]

module _ (s : GraphState) (f : IsFormed s) (v : ℕ) (alone : IsAlone s v) where
  abbrev z : GraphState
  z = node_out v s

  no_end : (e : ℕ) → Has e s.edges → (v ≡ source s e → ⊥) × (v ≡ target s e → ⊥)
  no_end e i = neither_end (source s e) (target s e) v (alone e i)

  -- no dart stands in the lists of v
  pub no_outs : out_list s v ≡ []
  no_outs = none_has (out_list s v) (λ d i.
      let h = f.homes (Out v) (End d) (has_map End d (out_list s v) i) in
      let n = no_end d.edge h.0 in
      elim (at_out d.back s.directed (target s d.edge) (source s d.edge) v h.1) [ inl e ↦ n.0 e | inr e ↦ n.1 e.1 ])

  pub no_ins : in_list s v ≡ []
  no_ins = none_has (in_list s v) (λ d i.
      let h = f.homes (In v) (End d) (has_map End d (in_list s v) i) in
      (no_end d.edge h.0).1 (at_in d.back s.directed (target s d.edge) (source s d.edge) v h.1).1)

  out_left : (u : ℕ) → out_list z u ≡ out_list s u
  unfolding node_out
  out_left u = list_left (map.get s.outs u) u v (map.get (map.remove s.outs v) u) (get_out s.outs v u) (λ e. ap (out_list s) e ∙ no_outs)

  in_left : (u : ℕ) → in_list z u ≡ in_list s u
  unfolding node_out
  in_left u = list_left (map.get s.ins u) u v (map.get (map.remove s.ins v) u) (get_out s.ins v u) (λ e. ap (in_list s) e ∙ no_ins)

  pub lists_left : (l : ListName) → list_of z l ≡ filter (λ x. not (same_element x (Node v))) (list_of s l)
  unfolding node_out
  lists_left Nodes = sym (filter_map_is Node (λ x. not (same_element x (Node v))) s.nodes)
  lists_left Edges = ap (list.map Edge) (sym (filter_all (λ k. true) s.edges (λ k i. refl))) ∙ sym (filter_map_is Edge (λ x. not (same_element x (Node v))) s.edges)
  lists_left (Out u) = ap (list.map End) (out_left u ∙ sym (filter_all (λ d. true) (out_list s u) (λ d i. refl))) ∙ sym (filter_map_is End (λ x. not (same_element x (Node v))) (out_list s u))
  lists_left (In u) = ap (list.map End) (in_left u ∙ sym (filter_all (λ d. true) (in_list s u) (λ d i. refl))) ∙ sym (filter_map_is End (λ x. not (same_element x (Node v))) (in_list s u))

  -- what is left was there, and stays as it was
  pub left_node : (u : ℕ) → Has u z.nodes → Has u s.nodes × (u ≡ v → ⊥)
  unfolding node_out
  left_node u i = let h = has_filter (λ k. not (k == v)) u s.nodes i in (h.0, not_equal u v h.1)

  pub node_left : (u : ℕ) → Has u s.nodes → (u ≡ v → ⊥) → Has u z.nodes
  unfolding node_out
  node_left u i ne = filter_has (λ k. not (k == v)) u s.nodes i (unequal u v ne)

  pub live_left : (x : Element) → IsLive z x → IsLive s x × (same_element x (Node v) ≡ false)
  unfolding node_out
  live_left (Node u) i = let h = left_node u i in (h.0, elim (nat_tells u v) [ inl y ↦ absurd (h.1 y.1) | inr n ↦ n.0 ])
  live_left (Edge k) i = (i, refl)
  live_left (End d) i = (i, refl)

  left_live : (x : Element) → IsLive s x → not (same_element x (Node v)) ≡ true → IsLive z x
  unfolding node_out
  left_live (Node u) i n = node_left u i (not_equal u v n)
  left_live (Edge k) i n = i
  left_live (End d) i n = i

  home_left : (x : Element) → home z x ≡ home s x
  unfolding node_out
  home_left (Node u) = refl
  home_left (Edge k) = refl
  home_left (End d) = refl

  pub hidden_left : (u : ℕ) → (u ≡ v → ⊥) → set.contains z.hidden_nodes u ≡ set.contains s.hidden_nodes u
  unfolding node_out
  hidden_left u ne = in_out s.hidden_nodes v u ∙ ap (λ b. b && set.contains s.hidden_nodes u) (unequal u v ne)

  shows_edge_left : (k : ℕ) → Has k s.edges → shows z (Edge k) ≡ shows s (Edge k)
  unfolding node_out
  shows_edge_left k i =
      let n = no_end k i in
      (λ j. not (set.contains s.hidden_edges k) && (not (hidden_left (source s k) (λ e. n.0 (sym e)) j) && not (hidden_left (target s k) (λ e. n.1 (sym e)) j)))

  pub shows_left : (x : Element) → IsLive z x → shows z x ≡ shows s x
  unfolding node_out
  shows_left (Node u) i = ap not (hidden_left u (left_node u i).1)
  shows_left (Edge k) i = shows_edge_left k i
  shows_left (End d) i = shows_edge_left d.edge i

  module _ (here : Has v s.nodes) where
    pub nodes_fewer : length z.nodes + 1 ≡ length s.nodes
    unfolding node_out
    nodes_fewer = without_long ◌==◌ nat_tells v s.nodes (once_mapped Node s.nodes (f.once Nodes)) here

    pair_left : (k g : ℕ) → map.get s.reversals k ≡ Some g → IsPair z k g
    unfolding node_out
    pair_left k g r = let p = f.reversals k g r in record { both = p.both; apart = p.apart; listed = p.listed; opposite = p.opposite }

    pub formed_alone : IsFormed z
    unfolding node_out
    formed_alone = record {
      homes = λ l x i.
          let h = has_filter (λ x. not (same_element x (Node v))) x (list_of s l) (subst (Has x) (lists_left l) i) in
          let g = f.homes l x h.0 in
          (left_live x g.0 h.1, home_left x ∙ g.1);
      housed = λ x i.
          let h = live_left x i in
          subst (Has x) (sym (lists_left (home z x)))
          (filter_has (λ x. not (same_element x (Node v))) x (list_of s (home z x)) (subst (λ l. Has x (list_of s l)) (sym (home_left x)) (f.housed x h.0)) (ap not h.1));
      once = λ l. subst IsOnce (sym (lists_left l)) (once_filter (λ x. not (same_element x (Node v))) (list_of s l) (f.once l));
      ends = λ e i.
          let h = f.ends e i in
          let n = no_end e i in
          (node_left (source s e) h.0 (λ j. n.0 (sym j)), node_left (target s e) h.1 (λ j. n.1 (sym j)));
      reversals = pair_left;
      hidden_nodes = λ u h. elim (nat_tells u v) [
        | inl y ↦ absurd (not_both h (in_out s.hidden_nodes v u ∙ ap (λ b. not b && set.contains s.hidden_nodes u) y.0))
        | inr n ↦ node_left u (f.hidden_nodes u (sym (hidden_left u n.1) ∙ h)) n.1
      ];
      hidden_edges = f.hidden_edges;
      given_nodes = λ u i. f.given_nodes u (left_node u i).0;
      given_edges = f.given_edges;
      node_labels = λ u label g. elim (nat_tells u v) [
        | inl y ↦ absurd (none_some (sym (out_here s.node_labels v u y.1) ∙ g))
        | inr n ↦ f.node_labels u label (sym (out_else s.node_labels v u n.1) ∙ g)
      ];
      edge_labels = f.edge_labels;
      few = (let long = nodes_fewer in let few = f.few.0 in omega (arith, long, few), f.few.1);
      made = f.made;
      types = f.types;
    }

-- each deletion leaves fewer
pub edges_shrink : (s : GraphState) → IsFormed s → (e : ℕ) → Has e s.edges → length (without_edge e s).edges + 1 ≡ length s.edges
unfolding without_edge
edges_shrink s f e here = without_long ◌==◌ nat_tells e s.edges (edges_once s f) here

pub nodes_same : (e : ℕ) (s : GraphState) → (without_edge e s).nodes ≡ s.nodes
unfolding without_edge
nodes_same e s = refl

all_nodes_same : (es : List ℕ) (s : GraphState) → (without_edges es s).nodes ≡ s.nodes
unfolding without_edges
all_nodes_same [] s = refl
all_nodes_same (e ∷ es) s = all_nodes_same es (without_edge e s) ∙ nodes_same e s

pub nodes_shrink : (s : GraphState) → IsFormed s → (v : ℕ) → Has v s.nodes → length (without_node v s).nodes + 1 ≡ length s.nodes
unfolding without_node
nodes_shrink s f v here =
    ap (λ vs. length (edges_without v vs) + 1) (all_nodes_same (filter (has_end s v) s.edges) s)
    ∙ without_long ◌==◌ nat_tells v s.nodes (once_mapped Node s.nodes (f.once Nodes)) here

-- what no deletion changes
pub record IsLike (s z : GraphState) : Type 0 where
  pub directed : z.directed ≡ s.directed
  pub node_type : z.node_type ≡ s.node_type
  pub edge_type : z.edge_type ≡ s.edge_type
  pub made_nodes : z.made_nodes ≡ s.made_nodes
  pub made_edges : z.made_edges ≡ s.made_edges

edges_like : (es : List ℕ) (s : GraphState) → IsLike s (without_edges es s)
unfolding without_edges without_edge
edges_like [] s = record { directed = refl; node_type = refl; edge_type = refl; made_nodes = refl; made_edges = refl }
edges_like (e ∷ es) s =
    let l = edges_like es (without_edge e s) in
    record { directed = l.directed; node_type = l.node_type; edge_type = l.edge_type; made_nodes = l.made_nodes; made_edges = l.made_edges }

pub made_same : (v : ℕ) (s : GraphState) → IsLike s (without_node v s)
unfolding without_node
made_same v s =
    let l = edges_like (filter (has_end s v) s.edges) s in
    record { directed = l.directed; node_type = l.node_type; edge_type = l.edge_type; made_nodes = l.made_nodes; made_edges = l.made_edges }
