-- A state in which other elements are hidden is well-formed, and what shows in it.
use Rattle.std.proofs.Common.{◌≡◌, ℕ, Bool, true, false, cond, ◌==◌, ◌||◌, ◌&&◌, not, refl, sym, ap, subst, ◌∙◌, ◌⊎◌, inl, inr}
use Rattle.std.specs.Ordering.{nat_cmp}
use Rattle.std.specs.FinSet as set
use Rattle.graph_state.specs.declared.name.ListName.{ListName}
use Rattle.graph_state.specs.declared.name.ListName.TheVariants.{Nodes, Edges, Out, In}
use Rattle.graph_state.specs.declared.name.Element.{Element}
use Rattle.graph_state.specs.declared.name.Element.TheVariants.{Node, Edge, End}
use Rattle.graph_state.specs.State.{GraphState, source, target, ends_of, shows_node, shows_ends, shows_edge}
use Rattle.graph_state.specs.Names.{Has, IsOnce, list_of, IsLive, home, shows}
use Rattle.graph_state.specs.Formed.{IsFormed}
use Rattle.graph_state.proofs.Same.{nat_tells}
use Rattle.graph_state.proofs.Maps.{in_put, in_out}
use Rattle.graph_state.proofs.Added.{IsOf}

module _ (s : GraphState) (vs es : set.FinSet nat_cmp) where
  abbrev pub with_marks : GraphState
  with_marks = record s { hidden_nodes = vs; hidden_edges = es }

  pub lists_stay : (l : ListName) → list_of with_marks l ≡ list_of s l
  lists_stay Nodes = refl
  lists_stay Edges = refl
  lists_stay (Out v) = refl
  lists_stay (In v) = refl

  pub live_stays : (x : Element) → IsLive with_marks x → IsLive s x
  live_stays (Node v) i = i
  live_stays (Edge e) i = i
  live_stays (End d) i = i

  pub live_still : (x : Element) → IsLive s x → IsLive with_marks x
  live_still (Node v) i = i
  live_still (Edge e) i = i
  live_still (End d) i = i

  pub home_stays : (x : Element) → home with_marks x ≡ home s x
  home_stays (Node v) = refl
  home_stays (Edge e) = refl
  home_stays (End d) = refl

  pub formed_marks : IsFormed s → ((v : ℕ) → set.contains vs v ≡ true → Has v s.nodes) → ((e : ℕ) → set.contains es e ≡ true → Has e s.edges) → IsFormed with_marks
  formed_marks f all_nodes all_edges = record {
    homes = λ l x i. let j = f.homes l x (subst (Has x) (lists_stay l) i) in (live_still x j.0, home_stays x ∙ j.1);
    housed = λ x i. subst (Has x) (sym (lists_stay (home with_marks x))) (subst (λ l. Has x (list_of s l)) (sym (home_stays x)) (f.housed x (live_stays x i)));
    once = λ l. subst IsOnce (sym (lists_stay l)) (f.once l);
    ends = f.ends;
    reversals = λ e g r. let p = f.reversals e g r in record { both = p.both; apart = p.apart; listed = p.listed; opposite = p.opposite };
    hidden_nodes = all_nodes;
    hidden_edges = all_edges;
    given_nodes = f.given_nodes;
    given_edges = f.given_edges;
    node_labels = f.node_labels;
    edge_labels = f.edge_labels;
    few = f.few;
    made = f.made;
    types = f.types;
  }

-- the mark of one number is changed
module _ (old new : set.FinSet nat_cmp) (k : ℕ) (b : Bool) (marks : (i : ℕ) → set.contains new i ≡ cond (i == k) b (set.contains old i)) where
  pub mark_here : (i : ℕ) → i ≡ k → set.contains new i ≡ b
  mark_here i n = marks i ∙ elim (nat_tells i k) [ inl y ↦ ap (λ t. cond t b (set.contains old i)) y.0 | inr ne ↦ absurd (ne.1 n) ]

  pub mark_else : (i : ℕ) → (i ≡ k → ⊥) → set.contains new i ≡ set.contains old i
  mark_else i ne = marks i ∙ elim (nat_tells i k) [ inl y ↦ absurd (ne y.1) | inr n ↦ ap (λ t. cond t b (set.contains old i)) n.0 ]

  -- what is hidden is still listed
  pub marked_listed : (P : ℕ → Type 0) → P k → ((i : ℕ) → set.contains old i ≡ true → P i) → (i : ℕ) → set.contains new i ≡ true → P i
  marked_listed P here all i t = elim (nat_tells i k) [ inl y ↦ subst P (sym y.1) here | inr n ↦ all i (sym (mark_else i n.1) ∙ t) ]

-- an edge is hidden or restored, and what that shows
module _ (s : GraphState) (h : set.FinSet nat_cmp) (e : ℕ) (b : Bool) (marks : (i : ℕ) → set.contains h i ≡ cond (i == e) b (set.contains s.hidden_edges i)) where
  pub shows_marked : (x : Element) → IsOf e x → shows (with_marks s s.hidden_nodes h) x ≡ (not b && shows_ends s (ends_of s e))
  shows_marked (Node v) n = absurd n
  shows_marked (Edge i) n = (λ j. not (mark_here s.hidden_edges h e b marks i n j) && shows_ends s (ends_of s (n j)))
  shows_marked (End d) n = (λ j. not (mark_here s.hidden_edges h e b marks d.edge n j) && shows_ends s (ends_of s (n j)))

  pub shows_unmarked : (x : Element) → (IsOf e x → ⊥) → shows (with_marks s s.hidden_nodes h) x ≡ shows s x
  shows_unmarked (Node v) ne = refl
  shows_unmarked (Edge i) ne = ap (λ t. not t && shows_ends s (ends_of s i)) (mark_else s.hidden_edges h e b marks i ne)
  shows_unmarked (End d) ne = ap (λ t. not t && shows_ends s (ends_of s d.edge)) (mark_else s.hidden_edges h e b marks d.edge ne)

-- x is of the edge, or not
pub of_or_not : (e : ℕ) (x : Element) → IsOf e x ⊎ (IsOf e x → ⊥)
of_or_not e (Node v) = inr (λ n. n)
of_or_not e (Edge i) = elim (nat_tells i e) [ inl y ↦ inl y.1 | inr n ↦ inr n.1 ]
of_or_not e (End d) = elim (nat_tells d.edge e) [ inl y ↦ inl y.1 | inr n ↦ inr n.1 ]

pub hidden_marks : (h : set.FinSet nat_cmp) (e i : ℕ) → set.contains (set.insert h e) i ≡ cond (i == e) true (set.contains h i)
hidden_marks h e i = in_put h e i ∙ elim (i == e) as (λ b. (b || set.contains h i) ≡ cond b true (set.contains h i)) [ true ↦ refl | false ↦ refl ]

pub restored_marks : (h : set.FinSet nat_cmp) (e i : ℕ) → set.contains (set.remove h e) i ≡ cond (i == e) false (set.contains h i)
restored_marks h e i = in_out h e i ∙ elim (i == e) as (λ b. (not b && set.contains h i) ≡ cond b false (set.contains h i)) [ true ↦ refl | false ↦ refl ]

-- the edge has an end at the node
abbrev pub HasEnd : GraphState → ℕ → ℕ → Type 0
HasEnd s v e = (source s e ≡ v) ⊎ (target s e ≡ v)

pub end_or_not : (s : GraphState) (v e : ℕ) → HasEnd s v e ⊎ (HasEnd s v e → ⊥)
end_or_not s v e = elim (nat_tells (source s e) v) [
  | inl y ↦ inl (inl y.1)
  | inr n ↦ elim (nat_tells (target s e) v) [ inl y ↦ inl (inr y.1) | inr m ↦ inr (λ h. elim h [ inl a ↦ n.1 a | inr b ↦ m.1 b ]) ]
]

and_no : (a : Bool) → (a && false) ≡ false
and_no true = refl
and_no false = refl

-- a node that doesn't show hides the edges that have an end at it
pub end_hides : (s : GraphState) (v : ℕ) → shows_node s v ≡ false → (e : ℕ) → HasEnd s v e → shows_edge s e ≡ false
end_hides s v none e (inl i) =
    ap (λ t. not (set.contains s.hidden_edges e) && (t && shows_node s (target s e))) (ap (shows_node s) i ∙ none) ∙ and_no (not (set.contains s.hidden_edges e))
end_hides s v none e (inr i) =
    ap (λ t. not (set.contains s.hidden_edges e) && (shows_node s (source s e) && t)) (ap (shows_node s) i ∙ none)
    ∙ ap (λ t. not (set.contains s.hidden_edges e) && t) (and_no (shows_node s (source s e))) ∙ and_no (not (set.contains s.hidden_edges e))

-- a node is hidden or restored, and what that shows
module _ (s : GraphState) (h : set.FinSet nat_cmp) (v : ℕ) (b : Bool) (marks : (i : ℕ) → set.contains h i ≡ cond (i == v) b (set.contains s.hidden_nodes i)) where
  pub node_marked : (i : ℕ) → i ≡ v → shows_node (with_marks s h s.hidden_edges) i ≡ not b
  node_marked i n = ap not (mark_here s.hidden_nodes h v b marks i n)

  pub node_unmarked : (i : ℕ) → (i ≡ v → ⊥) → shows_node (with_marks s h s.hidden_edges) i ≡ shows_node s i
  node_unmarked i ne = ap not (mark_else s.hidden_nodes h v b marks i ne)

  pub ends_unmarked : (e : ℕ) → (HasEnd s v e → ⊥) → shows_edge (with_marks s h s.hidden_edges) e ≡ shows_edge s e
  ends_unmarked e ne =
      (λ j. not (set.contains s.hidden_edges e) && (node_unmarked (source s e) (λ i. ne (inl i)) j && node_unmarked (target s e) (λ i. ne (inr i)) j))
