-- Edges that are deleted one after the other: the order doesn't matter.
use Rattle.std.proofs.Common.{◌≡◌, ℕ, ◌==◌, Bool, true, false, cond, not, ◌&&◌, ◌||◌, List, [], ◌∷◌, filter, Option, Some, None, option_map, unwrap_or, refl, sym, ap, subst, ◌∙◌, ◌⊎◌, inl, inr}
use Rattle.std.specs.Ordering.{nat_cmp}
use Rattle.std.specs.Cmp.{nat_cmp_total}
use Rattle.std.specs.FinMap as map
use Rattle.std.specs.FinMap.{FinMap, same_map}
use Rattle.std.specs.FinSet as set
use Rattle.std.specs.FinSet.{nat_cmp-IsAntisymmetric, same_set}
use Rattle.graph_defs.specs.declared.dart.Dart.{Dart}
use Rattle.graph_state.specs.State.{GraphState}
use Rattle.graph_state.specs.Names.{Has, IsOnce}
use Rattle.graph_state.specs.Formed.{IsFormed}
use Rattle.graph_state.specs.Edits.{unpaired_at, without_edge, without_edges, has_end}
use Rattle.graph_state.proofs.Has.{not_both, some_same, none_some, has_filter, filter_has, filter_all, filter_none, filter_twice, filter_same, once_filter}
use Rattle.graph_state.proofs.Same.{nat_tells}
use Rattle.graph_state.proofs.Maps.{get_out, out_here, out_else, in_out}
use Rattle.graph_state.proofs.Removed.{not_equal, unequal, edges_once, formed_without, got_outs, got_ins}

-- a reversal is lost where it or its own edge goes
abbrev pair_left : (ℕ → Bool) → ℕ → Option ℕ → Option ℕ
pair_left p k None = None
pair_left p k (Some g) = cond (p k || p g) None (Some g)

abbrev darts_left : (ℕ → Bool) → List Dart → List Dart
darts_left p ds = filter (λ d. not (p d.edge)) ds

-- z is s without the edges of which p is true
pub record Loses (s z : GraphState) (p : ℕ → Bool) : Type 0 where
  pub directed : z.directed ≡ s.directed
  pub nodes : z.nodes ≡ s.nodes
  pub edges : z.edges ≡ filter (λ k. not (p k)) s.edges
  pub ends : (k : ℕ) → map.get z.ends k ≡ cond (p k) None (map.get s.ends k)
  pub outs : (u : ℕ) → map.get z.outs u ≡ option_map (darts_left p) (map.get s.outs u)
  pub ins : (u : ℕ) → map.get z.ins u ≡ option_map (darts_left p) (map.get s.ins u)
  pub reversals : (k : ℕ) → map.get z.reversals k ≡ pair_left p k (map.get s.reversals k)
  pub node_labels : z.node_labels ≡ s.node_labels
  pub edge_labels : (k : ℕ) → map.get z.edge_labels k ≡ cond (p k) None (map.get s.edge_labels k)
  pub hidden_nodes : z.hidden_nodes ≡ s.hidden_nodes
  pub hidden_edges : (k : ℕ) → set.contains z.hidden_edges k ≡ (not (p k) && set.contains s.hidden_edges k)
  pub node_type : z.node_type ≡ s.node_type
  pub edge_type : z.edge_type ≡ s.edge_type
  pub made_nodes : z.made_nodes ≡ s.made_nodes
  pub made_edges : z.made_edges ≡ s.made_edges

one_map : {X : Type 0} (m n : FinMap nat_cmp X) (f : ℕ → Option X) → ((k : ℕ) → map.get m k ≡ f k) → ((k : ℕ) → map.get n k ≡ f k) → m ≡ n
one_map m n f a b = same_map nat_cmp_total nat_cmp-IsAntisymmetric m n (λ k. a k ∙ sym (b k))

-- the edges that are lost determine the state
one_state : (s y z : GraphState) (p : ℕ → Bool) → Loses s y p → Loses s z p → y ≡ z
one_state s y z p a b =
    let ends = one_map y.ends z.ends (λ k. cond (p k) None (map.get s.ends k)) a.ends b.ends in
    let outs = one_map y.outs z.outs (λ u. option_map (darts_left p) (map.get s.outs u)) a.outs b.outs in
    let ins = one_map y.ins z.ins (λ u. option_map (darts_left p) (map.get s.ins u)) a.ins b.ins in
    let reversals = one_map y.reversals z.reversals (λ k. pair_left p k (map.get s.reversals k)) a.reversals b.reversals in
    let edge_labels = one_map y.edge_labels z.edge_labels (λ k. cond (p k) None (map.get s.edge_labels k)) a.edge_labels b.edge_labels in
    let hidden = same_set nat_cmp_total nat_cmp-IsAntisymmetric y.hidden_edges z.hidden_edges (λ k. a.hidden_edges k ∙ sym (b.hidden_edges k)) in
    (λ i. record {
      directed = (a.directed ∙ sym b.directed) i;
      nodes = (a.nodes ∙ sym b.nodes) i;
      edges = (a.edges ∙ sym b.edges) i;
      ends = ends i;
      outs = outs i;
      ins = ins i;
      reversals = reversals i;
      node_labels = (a.node_labels ∙ sym b.node_labels) i;
      edge_labels = edge_labels i;
      hidden_nodes = (a.hidden_nodes ∙ sym b.hidden_nodes) i;
      hidden_edges = hidden i;
      node_type = (a.node_type ∙ sym b.node_type) i;
      edge_type = (a.edge_type ∙ sym b.edge_type) i;
      made_nodes = (a.made_nodes ∙ sym b.made_nodes) i;
      made_edges = (a.made_edges ∙ sym b.made_edges) i;
    })

-- some are lost, and then others
both_none : {X : Type 0} (a b : Bool) (o : Option X) → cond b None (cond a None o) ≡ cond (a || b) None o
both_none true true o = refl
both_none true false o = refl
both_none false b o = refl

neither : (a b c : Bool) → (not b && (not a && c)) ≡ (not (a || b) && c)
neither true true c = refl
neither true false c = refl
neither false b c = refl

out_of_both : (a b : Bool) → (not a && not b) ≡ not (a || b)
out_of_both true b = refl
out_of_both false b = refl

module _ (p q : ℕ → Bool) where
  abbrev either : ℕ → Bool
  either k = p k || q k

  edges_both : (es : List ℕ) → filter (λ k. not (q k)) (filter (λ k. not (p k)) es) ≡ filter (λ k. not (either k)) es
  edges_both es = filter_twice (λ k. not (q k)) (λ k. not (p k)) es ∙ filter_same (λ k. not (p k) && not (q k)) (λ k. not (either k)) es (λ k i. out_of_both (p k) (q k))

  darts_both : (o : Option (List Dart)) → option_map (darts_left q) (option_map (darts_left p) o) ≡ option_map (darts_left either) o
  darts_both None = refl
  darts_both (Some ds) = ap Some (filter_twice (λ (d : Dart). not (q d.edge)) (λ d. not (p d.edge)) ds ∙ filter_same (λ (d : Dart). not (p d.edge) && not (q d.edge)) (λ d. not (either d.edge)) ds (λ d i. out_of_both (p d.edge) (q d.edge)))

  pair_some : (a b c d : Bool) (k g : ℕ) → a ≡ p k → b ≡ p g → c ≡ q k → d ≡ q g → pair_left q k (cond (a || b) None (Some g)) ≡ cond ((a || c) || (b || d)) None (Some g)
  pair_some true b c d k g ea eb ec ed = refl
  pair_some false true true d k g ea eb ec ed = refl
  pair_some false true false d k g ea eb ec ed = refl
  pair_some false false c d k g ea eb ec ed = (λ i. cond (sym ec i || sym ed i) None (Some g))

  pairs_both : (k : ℕ) (o : Option ℕ) → pair_left q k (pair_left p k o) ≡ pair_left either k o
  pairs_both k None = refl
  pairs_both k (Some g) = pair_some (p k) (p g) (q k) (q g) k g refl refl refl refl

  loses_on : (s t z : GraphState) → Loses s t p → Loses t z q → Loses s z either
  loses_on s t z a b = record {
    directed = b.directed ∙ a.directed;
    nodes = b.nodes ∙ a.nodes;
    edges = b.edges ∙ ap (filter (λ k. not (q k))) a.edges ∙ edges_both s.edges;
    ends = λ k. b.ends k ∙ ap (cond (q k) None) (a.ends k) ∙ both_none (p k) (q k) (map.get s.ends k);
    outs = λ u. b.outs u ∙ ap (option_map (darts_left q)) (a.outs u) ∙ darts_both (map.get s.outs u);
    ins = λ u. b.ins u ∙ ap (option_map (darts_left q)) (a.ins u) ∙ darts_both (map.get s.ins u);
    reversals = λ k. b.reversals k ∙ ap (pair_left q k) (a.reversals k) ∙ pairs_both k (map.get s.reversals k);
    node_labels = b.node_labels ∙ a.node_labels;
    edge_labels = λ k. b.edge_labels k ∙ ap (cond (q k) None) (a.edge_labels k) ∙ both_none (p k) (q k) (map.get s.edge_labels k);
    hidden_nodes = b.hidden_nodes ∙ a.hidden_nodes;
    hidden_edges = λ k. b.hidden_edges k ∙ ap (λ c. not (q k) && c) (a.hidden_edges k) ∙ neither (p k) (q k) (set.contains s.hidden_edges k);
    node_type = b.node_type ∙ a.node_type;
    edge_type = b.edge_type ∙ a.edge_type;
    made_nodes = b.made_nodes ∙ a.made_nodes;
    made_edges = b.made_edges ∙ a.made_edges;
  }

-- nothing is lost
all_darts : (o : Option (List Dart)) → o ≡ option_map (darts_left (λ k. false)) o
all_darts None = refl
all_darts (Some ds) = ap Some (sym (filter_all (λ (d : Dart). true) ds (λ d i. refl)))

all_pairs : (k : ℕ) (o : Option ℕ) → o ≡ pair_left (λ k. false) k o
all_pairs k None = refl
all_pairs k (Some g) = refl

loses_none : (s : GraphState) → Loses s s (λ k. false)
loses_none s = record {
  directed = refl;
  nodes = refl;
  edges = sym (filter_all (λ k. true) s.edges (λ k i. refl));
  ends = λ k. refl;
  outs = λ u. all_darts (map.get s.outs u);
  ins = λ u. all_darts (map.get s.ins u);
  reversals = λ k. all_pairs k (map.get s.reversals k);
  node_labels = refl;
  edge_labels = λ k. refl;
  hidden_nodes = refl;
  hidden_edges = λ k. refl;
  node_type = refl;
  edge_type = refl;
  made_nodes = refl;
  made_edges = refl;
}

-- one edge is lost
module _ (s : GraphState) (f : IsFormed s) (e : ℕ) where
  same_e : (k : ℕ) → k ≡ e → (k == e) ≡ true
  same_e k n = elim (nat_tells k e) [ inl y ↦ y.0 | inr ne ↦ absurd (ne.1 n) ]

  other_e : (k : ℕ) → (k ≡ e → ⊥) → (k == e) ≡ false
  other_e k ne = elim (nat_tells k e) [ inl y ↦ absurd (ne y.1) | inr n ↦ n.0 ]

  pair_lost : (k : ℕ) (o : Option ℕ) → ((g : ℕ) → o ≡ Some g → (k ≡ e) ⊎ (g ≡ e)) → pair_left (λ k. k == e) k o ≡ None
  pair_lost k None h = refl
  pair_lost k (Some g) h = elim (h g refl) [
    | inl n ↦ ap (λ b. cond (b || (g == e)) None (Some g)) (same_e k n)
    | inr n ↦ elim (k == e) as (λ b. cond (b || (g == e)) None (Some g) ≡ None) [ true ↦ refl | false ↦ ap (λ b. cond b None (Some g)) (same_e g n) ]
  ]

  pair_stays : (k : ℕ) (o : Option ℕ) → ((g : ℕ) → o ≡ Some g → (k ≡ e → ⊥) × (g ≡ e → ⊥)) → o ≡ pair_left (λ k. k == e) k o
  pair_stays k None h = refl
  pair_stays k (Some g) h = sym (λ i. cond (other_e k (h g refl).0 i || other_e g (h g refl).1 i) None (Some g))

  lost_pairs : (o : Option ℕ) → map.get s.reversals e ≡ o → (k : ℕ) → map.get (unpaired_at e o s.reversals) k ≡ pair_left (λ k. k == e) k (map.get s.reversals k)
  lost_pairs None none k = pair_stays k (map.get s.reversals k) (λ g i. (
    (λ n. none_some (sym none ∙ sym (ap (map.get s.reversals) n) ∙ i)),
    (λ n. none_some (sym none ∙ sym (ap (map.get s.reversals) n) ∙ (f.reversals k g i).both)),
  ))
  lost_pairs (Some h) some k = elim (nat_tells k h) [
    | inl y ↦ out_here (map.remove s.reversals e) h k y.1
        ∙ sym (pair_lost k (map.get s.reversals k) (λ g i. inr (some_same (sym i ∙ ap (map.get s.reversals) y.1 ∙ (f.reversals e h some).both))))
    | inr nh ↦ out_else (map.remove s.reversals e) h k nh.1 ∙ elim (nat_tells k e) [
      | inl y ↦ out_here s.reversals e k y.1 ∙ sym (pair_lost k (map.get s.reversals k) (λ g i. inl y.1))
      | inr ne ↦ out_else s.reversals e k ne.1 ∙ pair_stays k (map.get s.reversals k) (λ g i. (
        ne.1,
        (λ n. nh.1 (some_same (sym (f.reversals k g i).both ∙ ap (map.get s.reversals) n ∙ some))),
      ))
    ]
  ]

  loses_one : Has e s.edges → Loses s (without_edge e s) (λ k. k == e)
  unfolding without_edge
  loses_one here = record {
    directed = refl;
    nodes = refl;
    edges = refl;
    ends = get_out s.ends e;
    outs = got_outs s f e here;
    ins = got_ins s f e here;
    reversals = lost_pairs (map.get s.reversals e) refl;
    node_labels = refl;
    edge_labels = get_out s.edge_labels e;
    hidden_nodes = refl;
    hidden_edges = in_out s.hidden_edges e;
    node_type = refl;
    edge_type = refl;
    made_nodes = refl;
    made_edges = refl;
  }

-- whether the number is among those
abbrev among : List ℕ → ℕ → Bool
among [] k = false
among (e ∷ es) k = (k == e) || among es k

among_has : (es : List ℕ) (k : ℕ) → among es k ≡ true → Has k es
among_has [] k t = absurd (not_both t refl)
among_has (e ∷ es) k t = elim (nat_tells k e) [
  | inl y ↦ inl y.1
  | inr n ↦ inr (among_has es k (sym (ap (λ b. b || among es k) n.0) ∙ t))
]

has_among : (es : List ℕ) (k : ℕ) → Has k es → among es k ≡ true
has_among [] k i = absurd i
has_among (e ∷ es) k i = elim (nat_tells k e) [
  | inl y ↦ ap (λ b. b || among es k) y.0
  | inr n ↦ ap (λ b. b || among es k) n.0 ∙ has_among es k (elim i [ inl m ↦ absurd (n.1 m) | inr j ↦ j ])
]

alike : (a b : Bool) → (a ≡ true → b ≡ true) → (b ≡ true → a ≡ true) → a ≡ b
alike true b to from = sym (to refl)
alike false true to from = from refl
alike false false to from = refl

edge_stays : (s : GraphState) (e k : ℕ) → Has k s.edges → (k ≡ e → ⊥) → Has k (without_edge e s).edges
unfolding without_edge
edge_stays s e k i ne = filter_has (λ k. not (k == e)) k s.edges i (unequal k e ne)

loses_all : (es : List ℕ) (s : GraphState) → IsFormed s → ((e : ℕ) → Has e es → Has e s.edges) → IsOnce es → Loses s (without_edges es s) (among es)
unfolding without_edges
loses_all [] s f all o = loses_none s
loses_all (e ∷ es) s f all o =
    let here = all e (inl refl) in
    loses_on (λ k. k == e) (among es) s (without_edge e s) (without_edges es (without_edge e s)) (loses_one s f e here)
    (loses_all es (without_edge e s) (formed_without s f e here) (λ k i. edge_stays s e k (all k (inr i)) (λ n. o.0 (subst (λ k. Has k es) n i))) o.1)

-- the edges with an end at a node, and the state without them
abbrev pub edges_at : ℕ → GraphState → List ℕ
edges_at v s = filter (has_end s v) s.edges

edge_left : (s : GraphState) (e k : ℕ) → Has k (without_edge e s).edges → Has k s.edges × (k ≡ e → ⊥)
unfolding without_edge
edge_left s e k i = let h = has_filter (λ k. not (k == e)) k s.edges i in (h.0, not_equal k e h.1)

ends_stay : (s : GraphState) (e v k : ℕ) → (k ≡ e → ⊥) → has_end (without_edge e s) v k ≡ has_end s v k
unfolding without_edge
ends_stay s e v k ne = ap (λ (o : Option (ℕ × ℕ)). let p : ℕ × ℕ = unwrap_or o (0, 0) in ((p.0 == v) || (p.1 == v))) (out_else s.ends e k ne)

module _ (s : GraphState) (f : IsFormed s) (v : ℕ) where
  loses_at : Loses s (without_edges (edges_at v s) s) (among (edges_at v s))
  loses_at = loses_all (edges_at v s) s f (λ e i. (has_filter (has_end s v) e s.edges i).0) (once_filter (has_end s v) s.edges (edges_once s f))

-- any of them may go first
pub any_first : (s : GraphState) (f : IsFormed s) (v e : ℕ) → Has e s.edges → has_end s v e ≡ true → without_edges (edges_at v (without_edge e s)) (without_edge e s) ≡ without_edges (edges_at v s) s
any_first s f v e here end =
    let t = without_edge e s in
    let g = formed_without s f e here in
    let same : (k : ℕ) → ((k == e) || among (edges_at v t) k) ≡ among (edges_at v s) k = λ k. alike ((k == e) || among (edges_at v t) k) (among (edges_at v s) k)
    (λ y. elim (among_has (e ∷ edges_at v t) k y) [
      | inl n ↦ has_among (edges_at v s) k (subst (λ k. Has k (edges_at v s)) (sym n) (filter_has (has_end s v) e s.edges here end))
      | inr j ↦
          let h = has_filter (has_end t v) k t.edges j in
          let l = edge_left s e k h.0 in
          has_among (edges_at v s) k (filter_has (has_end s v) k s.edges l.0 (sym (ends_stay s e v k l.1) ∙ h.1))
    ])
    (λ y. has_among (e ∷ edges_at v t) k (elim (nat_tells k e) [
      | inl n ↦ inl n.1
      | inr n ↦
          let h = has_filter (has_end s v) k s.edges (among_has (edges_at v s) k y) in
          inr (filter_has (has_end t v) k t.edges (edge_stays s e k h.0 n.1) (ends_stay s e v k n.1 ∙ h.1))
    ])) in
    one_state s (without_edges (edges_at v t) t) (without_edges (edges_at v s) s) (among (edges_at v s))
    (subst (Loses s (without_edges (edges_at v t) t)) (λ i k. same k i) (loses_on (λ k. k == e) (among (edges_at v t)) s t (without_edges (edges_at v t) t) (loses_one s f e here) (loses_at t g v)))
    (loses_at s f v)

-- where none is left, nothing goes
pub none_at : (s : GraphState) (v : ℕ) → ((e : ℕ) → Has e s.edges → has_end s v e ≡ false) → without_edges (edges_at v s) s ≡ s
unfolding without_edges
none_at s v none = ap (λ es. without_edges es s) (filter_none (has_end s v) s.edges none)
