-- A state without an edge that has no reversal: its lists, and that it is well-formed.
use Rattle.std.proofs.Common.{◌≡◌, ℕ, ◌+◌, ◌≤◌, ◌==◌, Bool, true, false, cond, not, ◌&&◌, List, [], ◌∷◌, filter, length, Option, Some, None, option_map, unwrap_or, refl, sym, ap, subst, ◌∙◌, ◌⊎◌, inl, inr, arith}
use Rattle.std.proofs.Common as list
use Rattle.std.specs.Ordering.{nat_cmp}
use Rattle.std.specs.FinMap as map
use Rattle.std.specs.FinSet as set
use Rattle.graph_defs.specs.declared.dart.Dart.{Dart}
use Rattle.graph_state.specs.declared.name.ListName.{ListName}
use Rattle.graph_state.specs.declared.name.ListName.TheVariants.{Nodes, Edges, Out, In}
use Rattle.graph_state.specs.declared.name.Element.{Element}
use Rattle.graph_state.specs.declared.name.Element.TheVariants.{Node, Edge, End}
use Rattle.graph_state.specs.State.{GraphState, front, back, source, target, ends_of, out_list, in_list}
use Rattle.graph_state.specs.Names.{Has, IsOnce, list_of, IsLive, home, shows, back_row}
use Rattle.graph_state.specs.Formed.{IsFormed, IsPair}
use Rattle.graph_state.specs.Parts.{is_dart, is_part}
use Rattle.graph_state.specs.Edits.{edges_without, darts_without, with_out, darts_out, unpaired, without_edge}
use Rattle.graph_state.proofs.Has.{not_both, some_or_none, none_some, has_map, has_mapped, has_filter, filter_has, filter_all, filter_map_is, once_filter, once_mapped}
use Rattle.graph_state.proofs.Same.{nat_tells, without_long}
use Rattle.graph_state.proofs.Maps.{get_put, out_here, out_else, in_out}
use Rattle.graph_state.proofs.Columns.{unpaired_gone, formed_unpaired}

abbrev Darts : Type 0
Darts = map.FinMap nat_cmp (List Dart)

abbrev darts_at : Darts → ℕ → List Dart
darts_at m u = unwrap_or (map.get m u) []

abbrev node_in : ListName → ℕ
node_in Nodes = 0
node_in Edges = 0
node_in (Out u) = u
node_in (In u) = u

pub not_equal : (k e : ℕ) → not (k == e) ≡ true → k ≡ e → ⊥
not_equal k e t n = elim (nat_tells k e) [ inl y ↦ not_both t (ap not y.0) | inr m ↦ m.1 n ]

pub unequal : (k e : ℕ) → (k ≡ e → ⊥) → not (k == e) ≡ true
unequal k e ne = elim (nat_tells k e) [ inl y ↦ absurd (ne y.1) | inr n ↦ ap not n.0 ]

some_list : {X : Type 0} (o : Option (List X)) (x : X) → Has x (unwrap_or o []) → o ≡ Some (unwrap_or o [])
some_list None x i = absurd i
some_list (Some xs) x i = refl

module _ (e : ℕ) where
  abbrev thin : List Dart → List Dart
  thin = darts_without e

  abbrev may_thin : Option (List Dart) → Option (List Dart)
  may_thin = option_map thin

  -- a map in which one of the lists, which is there, loses the darts of e
  thinned : (m : Darts) (v u : ℕ) → map.get m v ≡ Some (darts_at m v) → map.get (map.insert m v (thin (darts_at m v))) u ≡ cond (u == v) (may_thin (map.get m u)) (map.get m u)
  thinned m v u there = get_put m v (thin (darts_at m v)) u ∙ elim (nat_tells u v) [
    | inl y ↦ ap (λ b. cond b (Some (thin (darts_at m v))) (map.get m u)) y.0
        ∙ sym (ap may_thin (ap (map.get m) y.1 ∙ there)) ∙ sym (ap (λ b. cond b (may_thin (map.get m u)) (map.get m u)) y.0)
    | inr n ↦ ap (λ b. cond b (Some (thin (darts_at m v))) (map.get m u)) n.0 ∙ sym (ap (λ b. cond b (may_thin (map.get m u)) (map.get m u)) n.0)
  ]

  none_thin : (ds : List Dart) → ((d : Dart) → Has d ds → d.edge ≡ e → ⊥) → thin ds ≡ ds
  none_thin ds out = filter_all (λ d. not (d.edge == e)) ds (λ d i. unequal d.edge e (out d i))

  may_none : (o : Option (List Dart)) → ((d : Dart) → Has d (unwrap_or o []) → d.edge ≡ e → ⊥) → may_thin o ≡ o
  may_none None out = refl
  may_none (Some ds) out = ap Some (none_thin ds out)

  may_twice : (o : Option (List Dart)) → may_thin (may_thin o) ≡ may_thin o
  may_twice None = refl
  may_twice (Some ds) = ap Some (filter_all (λ d. not (d.edge == e)) (thin ds) (λ d i. (has_filter (λ d. not (d.edge == e)) d ds i).1))

  once_there : (a : Bool) (o : Option (List Dart)) → (a ≡ false → may_thin o ≡ o) → cond a (may_thin o) o ≡ may_thin o
  once_there true o h = refl
  once_there false o h = sym (h refl)

  twice_there : (a b : Bool) (o : Option (List Dart)) → (a ≡ false → b ≡ false → may_thin o ≡ o) → cond b (may_thin (cond a (may_thin o) o)) (cond a (may_thin o) o) ≡ may_thin o
  twice_there true true o h = may_twice o
  twice_there true false o h = refl
  twice_there false true o h = refl
  twice_there false false o h = sym (h refl refl)

  -- a list that is there still is
  still_there : (a : Bool) (o : Option (List Dart)) (ds : List Dart) → o ≡ Some ds → cond a (may_thin o) o ≡ Some (unwrap_or (cond a (may_thin o) o) [])
  still_there true o ds i = ap may_thin i ∙ ap (λ o. Some (unwrap_or (may_thin o) [])) (sym i)
  still_there false o ds i = i ∙ ap (λ o. Some (unwrap_or o [])) (sym i)

list_thin : (e : ℕ) (o : Option (List Dart)) → unwrap_or (option_map (darts_without e) o) [] ≡ darts_without e (unwrap_or o [])
list_thin e None = refl
list_thin e (Some ds) = refl

abbrev dart_of : Element → Dart
dart_of (Node v) = front v
dart_of (Edge e) = front e
dart_of (End d) = d

end_in : (ds : List Dart) (d : Dart) → Has (End d) (list.map End ds) → Has d ds
end_in ds d i = let h = has_mapped End (End d) ds i in subst (λ d. Has d ds) (ap dart_of (sym h.1.1)) h.1.0

-- a dart in an out list is at home there as a front or as a back one, and a dart in an in list as a
-- back one
pub at_out : (b g : Bool) (w v u : ℕ) → cond b (back_row g w) (Out v) ≡ Out u → (u ≡ v) ⊎ ((g ≡ false) × (u ≡ w))
at_out true true w v u i = let n : In w ≡ Out u = i in cc
at_out true false w v u i = inr (refl, sym (ap node_in i))
at_out false g w v u i = inl (sym (ap node_in i))

pub at_in : (b g : Bool) (w v u : ℕ) → cond b (back_row g w) (Out v) ≡ In u → (g ≡ true) × (u ≡ w)
at_in true true w v u i = (refl, sym (ap node_in i))
at_in true false w v u i = let n : Out w ≡ In u = i in cc
at_in false g w v u i = let n : Out v ≡ In u = i in cc

pub edges_once : (s : GraphState) → IsFormed s → IsOnce s.edges
edges_once s f = once_mapped Edge s.edges (f.once Edges)

module _ (s : GraphState) (f : IsFormed s) (e : ℕ) where
  out_home : (u : ℕ) (d : Dart) → Has d (out_list s u) → d.edge ≡ e → (u ≡ source s e) ⊎ ((s.directed ≡ false) × (u ≡ target s e))
  out_home u d i n = subst (λ k. (u ≡ source s k) ⊎ ((s.directed ≡ false) × (u ≡ target s k))) n
      (at_out d.back s.directed (target s d.edge) (source s d.edge) u (f.homes (Out u) (End d) (has_map End d (out_list s u) i)).1)

  in_home : (u : ℕ) (d : Dart) → Has d (in_list s u) → d.edge ≡ e → (s.directed ≡ true) × (u ≡ target s e)
  in_home u d i n = subst (λ k. (s.directed ≡ true) × (u ≡ target s k)) n
      (at_in d.back s.directed (target s d.edge) (source s d.edge) u (f.homes (In u) (End d) (has_map End d (in_list s u) i)).1)

  other : (u v : ℕ) → (u == v) ≡ false → u ≡ v → ⊥
  other u v n i = not_equal u v (ap not n) i

  module _ (here : Has e s.edges) where
    front_at : Has (front e) (out_list s (source s e))
    front_at = end_in (out_list s (source s e)) (front e) (f.housed (End (front e)) here)

    back_in : (g : Bool) → Has (End (back e)) (list_of s (back_row g (target s e))) → Has (back e) (cond g (in_list s (target s e)) (out_list s (target s e)))
    back_in true i = end_in (in_list s (target s e)) (back e) i
    back_in false i = end_in (out_list s (target s e)) (back e) i

    back_at : Has (back e) (cond s.directed (in_list s (target s e)) (out_list s (target s e)))
    back_at = back_in s.directed (f.housed (End (back e)) here)

    -- each list loses the darts of e, where they are
    pub got_outs : (u : ℕ) → map.get (darts_out e s).outs u ≡ option_map (darts_without e) (map.get s.outs u)
    got_outs u =
        let v = source s e in
        let w = target s e in
        let m = map.insert s.outs v (darts_without e (out_list s v)) in
        let t = with_out v (darts_without e (out_list s v)) s in
        let mid : (x : ℕ) → map.get m x ≡ cond (x == v) (option_map (darts_without e) (map.get s.outs x)) (map.get s.outs x) = λ x. thinned e s.outs v x (some_list (map.get s.outs v) (front e) front_at) in
        elim s.directed as (λ g. ((d : Dart) → Has d (out_list s u) → d.edge ≡ e → (u ≡ v) ⊎ ((g ≡ false) × (u ≡ w))) → Has (back e) (cond g (in_list s w) (out_list s w))
        → map.get (cond g m (map.insert m w (darts_without e (cond g (in_list t w) (out_list t w))))) u ≡ option_map (darts_without e) (map.get s.outs u)) [
          | true ↦ λ at bk. mid u ∙ once_there e (u == v) (map.get s.outs u) (λ n. may_none e (map.get s.outs u) (λ d i k. elim (at d i k) [
            | inl x ↦ other u v n x
            | inr x ↦ not_both refl x.0
          ]))
          | false ↦ λ at bk.
              let there : map.get m w ≡ Some (darts_at m w) =
              mid w ∙ still_there e (w == v) (map.get s.outs w) (out_list s w) (some_list (map.get s.outs w) (back e) bk) ∙ ap (λ o. Some (unwrap_or o [])) (sym (mid w)) in
              thinned e m w u there ∙ ap (λ o. cond (u == w) (option_map (darts_without e) o) o) (mid u)
              ∙ twice_there e (u == v) (u == w) (map.get s.outs u) (λ n o. may_none e (map.get s.outs u) (λ d i k. elim (at d i k) [
                | inl x ↦ other u v n x
                | inr x ↦ other u w o x.1
              ]))
        ] (out_home u) back_at

    pub got_ins : (u : ℕ) → map.get (darts_out e s).ins u ≡ option_map (darts_without e) (map.get s.ins u)
    got_ins u =
        let v = source s e in
        let w = target s e in
        let t = with_out v (darts_without e (out_list s v)) s in
        elim s.directed as (λ g. ((d : Dart) → Has d (in_list s u) → d.edge ≡ e → (g ≡ true) × (u ≡ w)) → Has (back e) (cond g (in_list s w) (out_list s w))
        → map.get (cond g (map.insert s.ins w (darts_without e (cond g (in_list t w) (out_list t w)))) s.ins) u ≡ option_map (darts_without e) (map.get s.ins u)) [
          | true ↦ λ at bk. thinned e s.ins w u (some_list (map.get s.ins w) (back e) bk)
              ∙ once_there e (u == w) (map.get s.ins u) (λ n. may_none e (map.get s.ins u) (λ d i k. other u w n (at d i k).1))
          | false ↦ λ at bk. sym (may_none e (map.get s.ins u) (λ d i k. not_both (at d i k).0 refl))
        ] (in_home u) back_at

    out_thin : (u : ℕ) → out_list (darts_out e s) u ≡ darts_without e (out_list s u)
    out_thin u = ap (λ o. unwrap_or o []) (got_outs u) ∙ list_thin e (map.get s.outs u)

    in_thin : (u : ℕ) → in_list (darts_out e s) u ≡ darts_without e (in_list s u)
    in_thin u = ap (λ o. unwrap_or o []) (got_ins u) ∙ list_thin e (map.get s.ins u)

    -- the lists without the darts of e
    pub lists_out : (l : ListName) → list_of (darts_out e s) l ≡ filter (λ x. not (is_dart e x)) (list_of s l)
    lists_out Nodes = ap (list.map Node) (sym (filter_all (λ v. true) s.nodes (λ v i. refl))) ∙ sym (filter_map_is Node (λ x. not (is_dart e x)) s.nodes)
    lists_out Edges = ap (list.map Edge) (sym (filter_all (λ k. true) s.edges (λ k i. refl))) ∙ sym (filter_map_is Edge (λ x. not (is_dart e x)) s.edges)
    lists_out (Out u) = ap (list.map End) (out_thin u) ∙ sym (filter_map_is End (λ x. not (is_dart e x)) (out_list s u))
    lists_out (In u) = ap (list.map End) (in_thin u) ∙ sym (filter_map_is End (λ x. not (is_dart e x)) (in_list s u))

-- a pair stays one where e, which has no reversal, goes or gets other ends
pub pair_spared : (s z : GraphState) → IsFormed s → (e : ℕ) → map.get s.reversals e ≡ None → ((k : ℕ) → (k ≡ e → ⊥) → ends_of z k ≡ ends_of s k) → ((k : ℕ) → Has k s.edges → (k ≡ e → ⊥) → Has k z.edges)
    → (k g : ℕ) → map.get s.reversals k ≡ Some g → map.get z.reversals g ≡ map.get s.reversals g → IsPair z k g
pair_spared s z f e none ends listed k g r same =
    let p = f.reversals k g r in
    let nk : k ≡ e → ⊥ = λ i. none_some (sym none ∙ ap (map.get s.reversals) (sym i) ∙ r) in
    let ng : g ≡ e → ⊥ = λ i. none_some (sym none ∙ ap (map.get s.reversals) (sym i) ∙ p.both) in
    record {
      both = same ∙ p.both;
      apart = p.apart;
      listed = listed k p.listed nk;
      opposite = (
        ap (λ (p : ℕ × ℕ). p.0) (ends k nk) ∙ p.opposite.0 ∙ sym (ap (λ (p : ℕ × ℕ). p.1) (ends g ng)),
        ap (λ (p : ℕ × ℕ). p.1) (ends k nk) ∙ p.opposite.1 ∙ sym (ap (λ (p : ℕ × ℕ). p.0) (ends g ng)),
      );
    }

-- the state without e, which has no reversal
unfoldable pub edge_out : ℕ → GraphState → GraphState
edge_out e s =
    let t = darts_out e s in
    record t {
      edges = edges_without e t.edges;
      ends = map.remove t.ends e;
      edge_labels = map.remove t.edge_labels e;
      hidden_edges = set.remove t.hidden_edges e;
    }

-- to delete an edge is to take its reversal from it, and then to take it out
pub without_is : (e : ℕ) (s : GraphState) → without_edge e s ≡ edge_out e (unpaired e s)
unfolding without_edge edge_out
without_is e s = refl

pub none_left : (e : ℕ) (s : GraphState) → map.get (unpaired e s).reversals e ≡ None
none_left e s = elim (some_or_none (map.get (unpaired e s).reversals e)) [ inl n ↦ n | inr g ↦ absurd (unpaired_gone s.reversals e (map.get s.reversals e) refl g.0 g.1) ]

module _ (s : GraphState) (f : IsFormed s) (e : ℕ) where
  abbrev z : GraphState
  z = edge_out e s

  -- what is left was there, and stays as it was
  pub left_edge : (k : ℕ) → Has k z.edges → Has k s.edges × (k ≡ e → ⊥)
  unfolding edge_out
  left_edge k i = let h = has_filter (λ k. not (k == e)) k s.edges i in (h.0, not_equal k e h.1)

  pub edge_left : (k : ℕ) → Has k s.edges → (k ≡ e → ⊥) → Has k z.edges
  unfolding edge_out
  edge_left k i ne = filter_has (λ k. not (k == e)) k s.edges i (unequal k e ne)

  pub ends_left : (k : ℕ) → (k ≡ e → ⊥) → ends_of z k ≡ ends_of s k
  unfolding edge_out
  ends_left k ne = ap (λ o. unwrap_or o (0, 0)) (out_else s.ends e k ne)

  pub live_left : (x : Element) → IsLive z x → IsLive s x × (is_part e x ≡ false)
  unfolding edge_out
  live_left (Node u) i = (i, refl)
  live_left (Edge k) i = let h = left_edge k i in (h.0, elim (nat_tells k e) [ inl y ↦ absurd (h.1 y.1) | inr n ↦ n.0 ])
  live_left (End d) i = let h = left_edge d.edge i in (h.0, elim (nat_tells d.edge e) [ inl y ↦ absurd (h.1 y.1) | inr n ↦ n.0 ])

  left_live : (x : Element) → IsLive s x → not (is_part e x) ≡ true → IsLive z x
  unfolding edge_out
  left_live (Node u) i n = i
  left_live (Edge k) i n = edge_left k i (not_equal k e n)
  left_live (End d) i n = edge_left d.edge i (not_equal d.edge e n)

  home_left : (x : Element) → not (is_part e x) ≡ true → home z x ≡ home s x
  unfolding edge_out
  home_left (Node u) n = refl
  home_left (Edge k) n = refl
  home_left (End d) n = ap (λ (p : ℕ × ℕ). cond d.back (back_row s.directed p.1) (Out p.0)) (ends_left d.edge (not_equal d.edge e n))

  pub hidden_left : (k : ℕ) → (k ≡ e → ⊥) → set.contains z.hidden_edges k ≡ set.contains s.hidden_edges k
  unfolding edge_out
  hidden_left k ne = in_out s.hidden_edges e k ∙ ap (λ b. b && set.contains s.hidden_edges k) (unequal k e ne)

  shows_edge_left : (k : ℕ) → (k ≡ e → ⊥) → shows z (Edge k) ≡ shows s (Edge k)
  unfolding edge_out
  shows_edge_left k ne = (λ j. not (hidden_left k ne j) && (not (set.contains s.hidden_nodes (ends_left k ne j).0) && not (set.contains s.hidden_nodes (ends_left k ne j).1)))

  pub shows_left : (x : Element) → not (is_part e x) ≡ true → shows z x ≡ shows s x
  unfolding edge_out
  shows_left (Node u) n = refl
  shows_left (Edge k) n = shows_edge_left k (not_equal k e n)
  shows_left (End d) n = shows_edge_left d.edge (not_equal d.edge e n)

  module _ (here : Has e s.edges) where
    -- the lists without e and its darts
    pub lists_gone : (l : ListName) → list_of z l ≡ filter (λ x. not (is_part e x)) (list_of s l)
    unfolding edge_out
    lists_gone Nodes = ap (list.map Node) (sym (filter_all (λ v. true) s.nodes (λ v i. refl))) ∙ sym (filter_map_is Node (λ x. not (is_part e x)) s.nodes)
    lists_gone Edges = sym (filter_map_is Edge (λ x. not (is_part e x)) s.edges)
    lists_gone (Out u) = ap (list.map End) (out_thin s f e here u) ∙ sym (filter_map_is End (λ x. not (is_part e x)) (out_list s u))
    lists_gone (In u) = ap (list.map End) (in_thin s f e here u) ∙ sym (filter_map_is End (λ x. not (is_part e x)) (in_list s u))

    pub edges_fewer : length z.edges + 1 ≡ length s.edges
    unfolding edge_out
    edges_fewer = without_long ◌==◌ nat_tells e s.edges (edges_once s f) here

    pub formed_gone : map.get s.reversals e ≡ None → IsFormed z
    unfolding edge_out
    formed_gone none = record {
      homes = λ l x i.
          let h = has_filter (λ x. not (is_part e x)) x (list_of s l) (subst (Has x) (lists_gone l) i) in
          let g = f.homes l x h.0 in
          (left_live x g.0 h.1, home_left x h.1 ∙ g.1);
      housed = λ x i.
          let h = live_left x i in
          let n = ap not h.1 in
          subst (Has x) (sym (lists_gone (home z x)))
          (filter_has (λ x. not (is_part e x)) x (list_of s (home z x)) (subst (λ l. Has x (list_of s l)) (sym (home_left x n)) (f.housed x h.0)) n);
      once = λ l. subst IsOnce (sym (lists_gone l)) (once_filter (λ x. not (is_part e x)) (list_of s l) (f.once l));
      ends = λ k i.
          let h = left_edge k i in
          let g = f.ends k h.0 in
          subst (λ (p : ℕ × ℕ). Has p.0 s.nodes × Has p.1 s.nodes) (sym (ends_left k h.1)) g;
      reversals = λ k g r. pair_spared s z f e none ends_left edge_left k g r refl;
      hidden_nodes = f.hidden_nodes;
      hidden_edges = λ k h. elim (nat_tells k e) [
        | inl y ↦ absurd (not_both h (in_out s.hidden_edges e k ∙ ap (λ b. not b && set.contains s.hidden_edges k) y.0))
        | inr n ↦ edge_left k (f.hidden_edges k (sym (hidden_left k n.1) ∙ h)) n.1
      ];
      given_nodes = f.given_nodes;
      given_edges = λ k i. f.given_edges k (left_edge k i).0;
      node_labels = f.node_labels;
      edge_labels = λ k label g. elim (nat_tells k e) [
        | inl y ↦ absurd (none_some (sym (out_here s.edge_labels e k y.1) ∙ g))
        | inr n ↦ f.edge_labels k label (sym (out_else s.edge_labels e k n.1) ∙ g)
      ];
      few = (f.few.0, let long = edges_fewer in let few = f.few.1 in omega (arith, long, few));
      made = f.made;
      types = f.types;
    }

-- a state without an edge is well-formed
pub formed_without : (s : GraphState) → IsFormed s → (e : ℕ) → Has e s.edges → IsFormed (without_edge e s)
formed_without s f e here = subst IsFormed (sym (without_is e s)) (formed_gone (unpaired e s) (formed_unpaired s f e) e here (none_left e s))
