-- A state with one node more, or one edge more, is well-formed.
use Rattle.std.proofs.Common.{◌≡◌, ℕ, ◌+◌, ◌<◌, ◌≤◌, Bool, true, false, cond, not, ◌&&◌, List, [], ◌∷◌, ◌++◌, length, Some, unwrap_or, refl, sym, ap, subst, ◌∙◌, ◌⊎◌, inl, inr, arith, length-append}
use Rattle.std.proofs.lemmas.List.{append-nil}
use Rattle.std.specs.FinMap as map
use Rattle.std.specs.FinSet as set
use Rattle.graph_defs.specs.declared.dart.Dart.{Dart}
use Rattle.graph_state.specs.declared.name.ListName.{ListName}
use Rattle.graph_state.specs.declared.name.ListName.TheVariants.{Nodes, Edges, Out, In}
use Rattle.graph_state.specs.declared.name.Element.{Element}
use Rattle.graph_state.specs.declared.name.Element.TheVariants.{Node, Edge, End}
use Rattle.graph_state.specs.State.{GraphState, front, back, ends_of, source, target, out_list, in_list, shows_ends, shows_edge}
use Rattle.graph_state.specs.Names.{Has, IsOnce, list_of, IsLive, home, shows, same_list, back_row}
use Rattle.graph_state.specs.Formed.{IsFormed, IsKeptType, IsLabel, IsPair}
use Rattle.graph_state.specs.Edits.{with_edge, with_node}
use Rattle.graph_state.proofs.Has.{truth, not_both, some_same, has_left, has_right, has_either, has_last, once_push, has_map, none_has}
use Rattle.graph_state.proofs.Same.{nat_tells, list_tells}
use Rattle.graph_state.proofs.Maps.{put_here, put_else}
use Rattle.graph_state.proofs.Lists.{one, edge_lists, node_lists}

-- x is the edge k, or an end of it
abbrev pub IsOf : ℕ → Element → Type 0
IsOf k (Node v) = ⊥
IsOf k (Edge e) = e ≡ k
IsOf k (End d) = d.edge ≡ k

-- the node that a list is of
abbrev node_in : ListName → ℕ
node_in Nodes = 0
node_in Edges = 0
node_in (Out u) = u
node_in (In u) = u

abbrev is_back : Element → Bool
is_back (Node v) = false
is_back (Edge e) = false
is_back (End d) = d.back

pub has_one : (b : Bool) (x y : Element) → Has x (one b y) → (b ≡ true) × (x ≡ y)
has_one true x y i = elim i [ inl e ↦ (refl, e) | inr n ↦ absurd n ]
has_one false x y i = absurd i

pub one_has : (b : Bool) (x : Element) → b ≡ true → Has x (one b x)
one_has b x t = subst (λ b. Has x (one b x)) (sym t) (inl refl)

pub once_one : (b : Bool) (x : Element) (xs : List Element) → (Has x xs → ⊥) → IsOnce xs → IsOnce (xs ++ one b x)
once_one true x xs out o = once_push x xs out o
once_one false x xs out o = subst IsOnce (sym (append-nil xs)) o

pub list_is : (l k : ListName) → same_list l k ≡ true → l ≡ k
list_is l k t = elim (list_tells l k) [ inl y ↦ y.1 | inr n ↦ absurd (not_both t n.0) ]

pub same_is_true : (l : ListName) → same_list l l ≡ true
same_is_true l = elim (list_tells l l) [ inl y ↦ y.0 | inr n ↦ absurd (n.1 refl) ]

-- the edge k from v to w comes, and what it adds to the lists
pub record AddsEdge (s t : GraphState) (v w : ℕ) (label : List ℕ) : Type 0 where
  pub directed : t.directed ≡ s.directed
  pub nodes : t.nodes ≡ s.nodes
  pub edges : t.edges ≡ s.edges ++ (s.made_edges + 1) ∷ []
  pub ends : t.ends ≡ map.insert s.ends (s.made_edges + 1) (v, w)
  pub reversals : t.reversals ≡ s.reversals
  pub node_labels : t.node_labels ≡ s.node_labels
  pub edge_labels : t.edge_labels ≡ map.insert s.edge_labels (s.made_edges + 1) label
  pub hidden_nodes : t.hidden_nodes ≡ s.hidden_nodes
  pub hidden_edges : t.hidden_edges ≡ s.hidden_edges
  pub made_nodes : t.made_nodes ≡ s.made_nodes
  pub made_edges : t.made_edges ≡ s.made_edges + 1
  pub types : (t.node_type ≡ s.node_type) × (t.edge_type ≡ s.edge_type)
  pub found : (l : ListName) (x : Element) → Has x (list_of t l) → Has x (list_of s l) ⊎ (IsOf (s.made_edges + 1) x × (home t x ≡ l))
  pub kept : (l : ListName) (x : Element) → Has x (list_of s l) → Has x (list_of t l)
  pub there : (x : Element) → IsOf (s.made_edges + 1) x → Has x (list_of t (home t x))
  pub once : (l : ListName) → IsOnce (list_of t l)

module _ (s : GraphState) (f : IsFormed s) where
  -- the next number isn't listed, and nothing is hidden under it
  pub edge_fresh : Has (s.made_edges + 1) s.edges → ⊥
  edge_fresh i = let g = f.given_edges (s.made_edges + 1) i in omega (arith, g)

  pub node_fresh : Has (s.made_nodes + 1) s.nodes → ⊥
  node_fresh i = let g = f.given_nodes (s.made_nodes + 1) i in omega (arith, g)

  pub new_unhidden : set.contains s.hidden_edges (s.made_edges + 1) ≡ false
  new_unhidden = elim (truth (set.contains s.hidden_edges (s.made_edges + 1))) [ inl t ↦ absurd (edge_fresh (f.hidden_edges _ t)) | inr n ↦ n ]

  pub new_node_unhidden : set.contains s.hidden_nodes (s.made_nodes + 1) ≡ false
  new_node_unhidden = elim (truth (set.contains s.hidden_nodes (s.made_nodes + 1))) [ inl t ↦ absurd (node_fresh (f.hidden_nodes _ t)) | inr n ↦ n ]

  -- a new element stands nowhere
  pub nowhere : (l : ListName) (x : Element) → IsOf (s.made_edges + 1) x → Has x (list_of s l) → ⊥
  nowhere l (Node v) n i = n
  nowhere l (Edge e) n i = edge_fresh (subst (λ k. Has k s.edges) n (f.homes l (Edge e) i).0)
  nowhere l (End d) n i = edge_fresh (subst (λ k. Has k s.edges) n (f.homes l (End d) i).0)

  module _ (t : GraphState) (v w : ℕ) (label : List ℕ) (a : AddsEdge s t v w label) where
    pub ends_old : (e : ℕ) → Has e s.edges → ends_of t e ≡ ends_of s e
    ends_old e i = ap (λ m. unwrap_or (map.get m e) (0, 0)) a.ends ∙ ap (λ o. unwrap_or o (0, 0)) (put_else s.ends (s.made_edges + 1) (v, w) e (λ n. edge_fresh (subst (λ k. Has k s.edges) n i)))

    pub ends_new : (e : ℕ) → e ≡ s.made_edges + 1 → ends_of t e ≡ (v, w)
    ends_new e n = ap (λ m. unwrap_or (map.get m e) (0, 0)) a.ends ∙ ap (λ o. unwrap_or o (0, 0)) (put_here s.ends (s.made_edges + 1) (v, w) e n)

    left : (e : ℕ) → Has e s.edges → Has e t.edges
    left e i = subst (Has e) (sym a.edges) (has_left e s.edges ((s.made_edges + 1) ∷ []) i)

    pub edge_either : (e : ℕ) → Has e t.edges → Has e s.edges ⊎ (e ≡ s.made_edges + 1)
    edge_either e i = has_last e (s.made_edges + 1) s.edges (subst (Has e) a.edges i)

    pub live_either : (x : Element) → IsLive t x → IsLive s x ⊎ IsOf (s.made_edges + 1) x
    live_either (Node u) i = inl (subst (Has u) a.nodes i)
    live_either (Edge e) i = edge_either e i
    live_either (End d) i = edge_either d.edge i

    live_left : (x : Element) → IsLive s x → IsLive t x
    live_left (Node u) i = subst (Has u) (sym a.nodes) i
    live_left (Edge e) i = left e i
    live_left (End d) i = left d.edge i

    live_new : (x : Element) → IsOf (s.made_edges + 1) x → IsLive t x
    live_new (Node u) n = absurd n
    live_new (Edge e) n = subst (Has e) (sym a.edges) (has_right e s.edges ((s.made_edges + 1) ∷ []) (inl n))
    live_new (End d) n = subst (Has d.edge) (sym a.edges) (has_right d.edge s.edges ((s.made_edges + 1) ∷ []) (inl n))

    pub home_old : (x : Element) → IsLive s x → home t x ≡ home s x
    home_old (Node u) i = refl
    home_old (Edge e) i = refl
    home_old (End d) i = (λ j. cond d.back (back_row (a.directed j) (ends_old d.edge i j).1) (Out (ends_old d.edge i j).0))

    pub shows_old : (x : Element) → IsLive s x → shows t x ≡ shows s x
    shows_old (Node u) i = ap (λ h. not (set.contains h u)) a.hidden_nodes
    shows_old (Edge e) i = (λ j. not (set.contains (a.hidden_edges j) e) && (not (set.contains (a.hidden_nodes j) (ends_old e i j).0) && not (set.contains (a.hidden_nodes j) (ends_old e i j).1)))
    shows_old (End d) i = (λ j. not (set.contains (a.hidden_edges j) d.edge) && (not (set.contains (a.hidden_nodes j) (ends_old d.edge i j).0) && not (set.contains (a.hidden_nodes j) (ends_old d.edge i j).1)))

    shows_edge_new : (e : ℕ) → e ≡ s.made_edges + 1 → shows_ends s (v, w) ≡ true → shows_edge t e ≡ true
    shows_edge_new e n shown =
        (λ j. not (set.contains (a.hidden_edges j) (n j)) && (not (set.contains (a.hidden_nodes j) (ends_new e n j).0) && not (set.contains (a.hidden_nodes j) (ends_new e n j).1)))
        ∙ ap (λ b. not b && shows_ends s (v, w)) new_unhidden ∙ shown

    pub shows_new : (x : Element) → IsOf (s.made_edges + 1) x → shows_ends s (v, w) ≡ true → shows t x ≡ true
    shows_new (Node u) n shown = absurd n
    shows_new (Edge e) n shown = shows_edge_new e n shown
    shows_new (End d) n shown = shows_edge_new d.edge n shown

    pair_old : (e g : ℕ) → map.get t.reversals e ≡ Some g → IsPair t e g
    pair_old e g r =
        let p = f.reversals e g (sym (ap (λ m. map.get m e) a.reversals) ∙ r) in
        let q = f.reversals g e p.both in
        record {
          both = ap (λ m. map.get m g) a.reversals ∙ p.both;
          apart = p.apart;
          listed = left e p.listed;
          opposite = (
            ap (λ (p : ℕ × ℕ). p.0) (ends_old e p.listed) ∙ p.opposite.0 ∙ sym (ap (λ (p : ℕ × ℕ). p.1) (ends_old g q.listed)),
            ap (λ (p : ℕ × ℕ). p.1) (ends_old e p.listed) ∙ p.opposite.1 ∙ sym (ap (λ (p : ℕ × ℕ). p.0) (ends_old g q.listed)),
          );
        }

    pub formed_edge : IsLabel label → Has v s.nodes → Has w s.nodes → length s.edges < 400000 → s.made_edges < 16777215 → IsFormed t
    formed_edge lab hv hw few more =
        let long : length t.edges ≡ length s.edges + 1 = ap length a.edges ∙ length-append s.edges ((s.made_edges + 1) ∷ []) in
        record {
          homes = λ l x i. elim (a.found l x i) [
            | inl j ↦ let h = f.homes l x j in (live_left x h.0, home_old x h.0 ∙ h.1)
            | inr n ↦ (live_new x n.0, n.1)
          ];
          housed = λ x i. elim (live_either x i) [
            | inl j ↦ subst (λ l. Has x (list_of t l)) (sym (home_old x j)) (a.kept (home s x) x (f.housed x j))
            | inr n ↦ a.there x n
          ];
          once = a.once;
          ends = λ e i. elim (edge_either e i) [
            | inl j ↦
                let h = f.ends e j in (
                  subst (Has (source t e)) (sym a.nodes) (subst (λ u. Has u s.nodes) (sym (ap (λ (p : ℕ × ℕ). p.0) (ends_old e j))) h.0),
                  subst (Has (target t e)) (sym a.nodes) (subst (λ u. Has u s.nodes) (sym (ap (λ (p : ℕ × ℕ). p.1) (ends_old e j))) h.1),
                )
            | inr n ↦ (
              subst (Has (source t e)) (sym a.nodes) (subst (λ u. Has u s.nodes) (sym (ap (λ (p : ℕ × ℕ). p.0) (ends_new e n))) hv),
              subst (Has (target t e)) (sym a.nodes) (subst (λ u. Has u s.nodes) (sym (ap (λ (p : ℕ × ℕ). p.1) (ends_new e n))) hw),
            )
          ];
          reversals = pair_old;
          hidden_nodes = λ u h. subst (Has u) (sym a.nodes) (f.hidden_nodes u (sym (ap (λ m. set.contains m u) a.hidden_nodes) ∙ h));
          hidden_edges = λ e h. left e (f.hidden_edges e (sym (ap (λ m. set.contains m e) a.hidden_edges) ∙ h));
          given_nodes = λ u i. let g = f.given_nodes u (subst (Has u) a.nodes i) in (g.0, subst (λ m. u ≤ m) (sym a.made_nodes) g.1);
          given_edges = λ e i. elim (edge_either e i) [
            | inl j ↦ let g = f.given_edges e j in (g.0, omega (arith, g.1, a.made_edges))
            | inr n ↦ (omega (arith, n), omega (arith, n, a.made_edges))
          ];
          node_labels = λ u lb g. f.node_labels u lb (sym (ap (λ m. map.get m u) a.node_labels) ∙ g);
          edge_labels = λ e lb g. elim (nat_tells e (s.made_edges + 1)) [
            | inl y ↦ subst IsLabel (some_same (sym (ap (λ m. map.get m e) a.edge_labels ∙ put_here s.edge_labels (s.made_edges + 1) label e y.1) ∙ g)) lab
            | inr n ↦ f.edge_labels e lb (sym (ap (λ m. map.get m e) a.edge_labels ∙ put_else s.edge_labels (s.made_edges + 1) label e n.1) ∙ g)
          ];
          few = (subst (λ ns. length ns ≤ 100000) (sym a.nodes) f.few.0, omega (arith, long, few));
          made = (subst (λ m. m ≤ 16777215) (sym a.made_nodes) f.made.0, omega (arith, a.made_edges, more));
          types = (subst IsKeptType (sym a.types.0) f.types.0, subst IsKeptType (sym a.types.1) f.types.1);
        }

  -- the list of a dart is that of a listed node
  homed : (d : Dart) (l : ListName) → home s (End d) ≡ l → Has (source s d.edge) s.nodes × Has (target s d.edge) s.nodes → Has (node_in l) s.nodes
  homed d l e h = subst (λ l. Has (node_in l) s.nodes) e
      (elim d.back as (λ b. Has (node_in (cond b (back_row s.directed (target s d.edge)) (Out (source s d.edge)))) s.nodes) [
        | true ↦ elim s.directed as (λ b. Has (node_in (cond b (In (target s d.edge)) (Out (target s d.edge)))) s.nodes) [ true ↦ h.1 | false ↦ h.1 ]
        | false ↦ h.0
      ])

  -- a node that isn't listed has no darts, and so has a new one
  pub bare_out : (v : ℕ) → (Has v s.nodes → ⊥) → out_list s v ≡ []
  bare_out v out = none_has (out_list s v) (λ d i.
      let h = f.homes (Out v) (End d) (has_map End d (out_list s v) i) in
      let e = f.ends d.edge h.0 in
      out (homed d (Out v) h.1 e))

  pub bare_in : (v : ℕ) → (Has v s.nodes → ⊥) → in_list s v ≡ []
  bare_in v out = none_has (in_list s v) (λ d i.
      let h = f.homes (In v) (End d) (has_map End d (in_list s v) i) in
      let e = f.ends d.edge h.0 in
      out (homed d (In v) h.1 e))

  pub no_outs : out_list s (s.made_nodes + 1) ≡ []
  no_outs = bare_out (s.made_nodes + 1) node_fresh

  pub no_ins : in_list s (s.made_nodes + 1) ≡ []
  no_ins = bare_in (s.made_nodes + 1) node_fresh

-- a new edge whose darts go to the rear
module _ (s : GraphState) (f : IsFormed s) (v w : ℕ) (label : List ℕ) where
  abbrev first : ListName → List Element
  first l = list_of s l ++ one (same_list Edges l) (Edge (s.made_edges + 1))

  abbrev second : ListName → List Element
  second l = first l ++ one (same_list (Out v) l) (End (front (s.made_edges + 1)))

  abbrev third : ListName → List Element
  third l = second l ++ one (same_list (back_row s.directed w) l) (End (back (s.made_edges + 1)))

  ends_k : ends_of (with_edge v w label s) (s.made_edges + 1) ≡ (v, w)
  unfolding with_edge
  ends_k = ap (λ o. unwrap_or o (0, 0)) (put_here s.ends (s.made_edges + 1) (v, w) (s.made_edges + 1) refl)

  home_front : home (with_edge v w label s) (End (front (s.made_edges + 1))) ≡ Out v
  home_front = ap (λ (p : ℕ × ℕ). Out p.0) ends_k

  home_back : home (with_edge v w label s) (End (back (s.made_edges + 1))) ≡ back_row s.directed w
  unfolding with_edge
  home_back = ap (λ (p : ℕ × ℕ). back_row s.directed p.1) ends_k

  found_edge : (l : ListName) (x : Element) → Has x (third l) → Has x (list_of s l) ⊎ (IsOf (s.made_edges + 1) x × (home (with_edge v w label s) x ≡ l))
  found_edge l x i = elim (has_either x (second l) (one (same_list (back_row s.directed w) l) (End (back (s.made_edges + 1)))) i) [
    | inl j ↦ elim (has_either x (first l) (one (same_list (Out v) l) (End (front (s.made_edges + 1)))) j) [
      | inl h ↦ elim (has_either x (list_of s l) (one (same_list Edges l) (Edge (s.made_edges + 1))) h) [
        | inl g ↦ inl g
        | inr g ↦ let o = has_one (same_list Edges l) x (Edge (s.made_edges + 1)) g in
            inr (subst (IsOf (s.made_edges + 1)) (sym o.1) refl, ap (home (with_edge v w label s)) o.1 ∙ list_is Edges l o.0)
      ]
      | inr h ↦ let o = has_one (same_list (Out v) l) x (End (front (s.made_edges + 1))) h in
          inr (subst (IsOf (s.made_edges + 1)) (sym o.1) refl, ap (home (with_edge v w label s)) o.1 ∙ home_front ∙ list_is (Out v) l o.0)
    ]
    | inr j ↦ let o = has_one (same_list (back_row s.directed w) l) x (End (back (s.made_edges + 1))) j in
        inr (subst (IsOf (s.made_edges + 1)) (sym o.1) refl, ap (home (with_edge v w label s)) o.1 ∙ home_back ∙ list_is (back_row s.directed w) l o.0)
  ]

  in_first : (l : ListName) (x : Element) → Has x (first l) → Has x (third l)
  in_first l x i = has_left x (second l) _ (has_left x (first l) _ i)

  front_there : Has (End (front (s.made_edges + 1))) (third (Out v))
  front_there = has_left _ (second (Out v)) _ (has_right _ (first (Out v)) _ (one_has (same_list (Out v) (Out v)) _ (same_is_true (Out v))))

  back_there : Has (End (back (s.made_edges + 1))) (third (back_row s.directed w))
  back_there = has_right _ (second (back_row s.directed w)) _ (one_has (same_list (back_row s.directed w) (back_row s.directed w)) _ (same_is_true (back_row s.directed w)))

  there_end : (b : Bool) (e : ℕ) → e ≡ s.made_edges + 1 → Has (End (record { edge = e; back = b })) (third (home (with_edge v w label s) (End (record { edge = e; back = b }))))
  there_end true e n = subst (λ e. Has (End (back e)) (third (home (with_edge v w label s) (End (back e))))) (sym n) (subst (λ l. Has (End (back (s.made_edges + 1))) (third l)) (sym home_back) back_there)
  there_end false e n = subst (λ e. Has (End (front e)) (third (home (with_edge v w label s) (End (front e))))) (sym n) (subst (λ l. Has (End (front (s.made_edges + 1))) (third l)) (sym home_front) front_there)

  there_edge : (x : Element) → IsOf (s.made_edges + 1) x → Has x (third (home (with_edge v w label s) x))
  there_edge (Node u) n = absurd n
  there_edge (Edge e) n = in_first Edges (Edge e) (has_right (Edge e) (list_of s Edges) _ (inl (ap Edge n)))
  there_edge (End d) n = there_end d.back d.edge n

  once_edge : (l : ListName) → IsOnce (third l)
  once_edge l =
      let k = s.made_edges + 1 in
      let out0 : (x : Element) → IsOf k x → Has x (list_of s l) → ⊥ = nowhere s f l in
      let out1 : Has (End (front k)) (first l) → ⊥ = λ i. elim (has_either (End (front k)) (list_of s l) (one (same_list Edges l) (Edge k)) i) [
        | inl j ↦ out0 (End (front k)) refl j
        | inr j ↦ let e = (has_one (same_list Edges l) (End (front k)) (Edge k) j).1 in cc
      ] in
      let out2 : Has (End (back k)) (second l) → ⊥ = λ i. elim (has_either (End (back k)) (first l) (one (same_list (Out v) l) (End (front k))) i) [
        | inl j ↦ elim (has_either (End (back k)) (list_of s l) (one (same_list Edges l) (Edge k)) j) [
          | inl h ↦ out0 (End (back k)) refl h
          | inr h ↦ let e = (has_one (same_list Edges l) (End (back k)) (Edge k) h).1 in cc
        ]
        | inr j ↦ let e = ap is_back (has_one (same_list (Out v) l) (End (back k)) (End (front k)) j).1 in cc
      ] in
      once_one (same_list (back_row s.directed w) l) (End (back k)) (second l) out2
      (once_one (same_list (Out v) l) (End (front k)) (first l) out1
      (once_one (same_list Edges l) (Edge k) (list_of s l) (out0 (Edge k) refl) (f.once l)))

  pub adds_edge : AddsEdge s (with_edge v w label s) v w label
  unfolding with_edge
  adds_edge = record {
    directed = refl;
    nodes = refl;
    edges = refl;
    ends = refl;
    reversals = refl;
    node_labels = refl;
    edge_labels = refl;
    hidden_nodes = refl;
    hidden_edges = refl;
    made_nodes = refl;
    made_edges = refl;
    types = (refl, refl);
    found = λ l x i. found_edge l x (subst (Has x) (edge_lists v w label s l) i);
    kept = λ l x i. subst (Has x) (sym (edge_lists v w label s l)) (in_first l x (has_left x (list_of s l) _ i));
    there = λ x n. subst (Has x) (sym (edge_lists v w label s (home (with_edge v w label s) x))) (there_edge x n);
    once = λ l. subst IsOnce (sym (edge_lists v w label s l)) (once_edge l);
  }

-- a new node
module _ (s : GraphState) (f : IsFormed s) (label : List ℕ) where
  pub new_lists : (l : ListName) → list_of (with_node label s) l ≡ list_of s l ++ one (same_list Nodes l) (Node (s.made_nodes + 1))
  new_lists l = node_lists label s (no_outs s f) (no_ins s f) l

  node_live : (x : Element) → IsLive (with_node label s) x → IsLive s x ⊎ (x ≡ Node (s.made_nodes + 1))
  unfolding with_node
  node_live (Node u) i = elim (has_last u (s.made_nodes + 1) s.nodes i) [ inl j ↦ inl j | inr e ↦ inr (ap Node e) ]
  node_live (Edge e) i = inl i
  node_live (End d) i = inl i

  live_node : (x : Element) → IsLive s x → IsLive (with_node label s) x
  unfolding with_node
  live_node (Node u) i = has_left u s.nodes ((s.made_nodes + 1) ∷ []) i
  live_node (Edge e) i = i
  live_node (End d) i = i

  home_node : (x : Element) → home (with_node label s) x ≡ home s x
  unfolding with_node
  home_node (Node u) = refl
  home_node (Edge e) = refl
  home_node (End d) = refl

  pub node_shows : (x : Element) → shows (with_node label s) x ≡ shows s x
  unfolding with_node
  node_shows (Node u) = refl
  node_shows (Edge e) = refl
  node_shows (End d) = refl

  pub node_either : (x : Element) → IsLive (with_node label s) x → IsLive s x ⊎ (x ≡ Node (s.made_nodes + 1))
  node_either = node_live

  node_pairs : (e g : ℕ) → map.get s.reversals e ≡ Some g → IsPair (with_node label s) e g
  unfolding with_node
  node_pairs e g r = let p = f.reversals e g r in record { both = p.both; apart = p.apart; listed = p.listed; opposite = p.opposite }

  pub formed_node : IsLabel label → length s.nodes < 100000 → s.made_nodes < 16777215 → IsFormed (with_node label s)
  unfolding with_node
  formed_node lab few more = record {
    homes = λ l x i. elim (has_either x (list_of s l) (one (same_list Nodes l) (Node (s.made_nodes + 1))) (subst (Has x) (new_lists l) i)) [
      | inl j ↦ let h = f.homes l x j in (live_node x h.0, home_node x ∙ h.1)
      | inr j ↦
          let o = has_one (same_list Nodes l) x (Node (s.made_nodes + 1)) j in
          (subst (IsLive (with_node label s)) (sym o.1) (has_right (s.made_nodes + 1) s.nodes ((s.made_nodes + 1) ∷ []) (inl refl)), ap (home (with_node label s)) o.1 ∙ list_is Nodes l o.0)
    ];
    housed = λ x i. subst (Has x) (sym (new_lists (home (with_node label s) x))) (elim (node_live x i) [
      | inl j ↦ has_left x (list_of s (home (with_node label s) x)) _ (subst (λ l. Has x (list_of s l)) (sym (home_node x)) (f.housed x j))
      | inr e ↦ subst (λ x. Has x (list_of s (home (with_node label s) x) ++ one (same_list Nodes (home (with_node label s) x)) (Node (s.made_nodes + 1)))) (sym e)
          (has_right (Node (s.made_nodes + 1)) (list_of s Nodes) _ (inl refl))
    ]);
    once = λ l. subst IsOnce (sym (new_lists l)) (once_one (same_list Nodes l) (Node (s.made_nodes + 1)) (list_of s l) (λ i. node_fresh s f (f.homes l (Node (s.made_nodes + 1)) i).0) (f.once l));
    ends = λ e i. let h = f.ends e i in (has_left _ s.nodes _ h.0, has_left _ s.nodes _ h.1);
    reversals = node_pairs;
    hidden_nodes = λ u h. has_left u s.nodes _ (f.hidden_nodes u h);
    hidden_edges = f.hidden_edges;
    given_nodes = λ u i. elim (has_last u (s.made_nodes + 1) s.nodes i) [
      | inl j ↦ let g = f.given_nodes u j in (g.0, omega (arith, g.1))
      | inr n ↦ (omega (arith, n), omega (arith, n))
    ];
    given_edges = f.given_edges;
    node_labels = λ u lb g. elim (nat_tells u (s.made_nodes + 1)) [
      | inl y ↦ subst IsLabel (some_same (sym (put_here s.node_labels (s.made_nodes + 1) label u y.1) ∙ g)) lab
      | inr n ↦ f.node_labels u lb (sym (put_else s.node_labels (s.made_nodes + 1) label u n.1) ∙ g)
    ];
    edge_labels = f.edge_labels;
    few = (omega (arith, length-append s.nodes ((s.made_nodes + 1) ∷ []), few), f.few.1);
    made = (omega (arith, more), f.made.1);
    types = f.types;
  }
