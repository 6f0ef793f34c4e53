-- The visible graph as a net.
use Rattle.std.proofs.Common.{◌≡◌, ℕ, zero, suc, ◌<◌, ◌≤◌, Bool, true, false, cond, not, ◌&&◌, List, [], ◌∷◌, map, filter, length, refl, sym, ap, subst, ◌∙◌, inl, inr, arith, All}
use Rattle.std.proofs.lemmas.List.{length-map}
use Rattle.std.specs.FinSet as set
use Rattle.leda_base.specs.declared.name.ItemName.TheVariants as names
use Rattle.graph_defs.specs.declared.net.Net.{Net}
use Rattle.graph_defs.specs.Net.{Ends, EndsBelow, IsValid}
use Rattle.graph_state.specs.declared.item.NodeItem.{NodeItem}
use Rattle.graph_state.specs.declared.name.ListName.TheVariants.{Nodes}
use Rattle.graph_state.specs.declared.name.Element.TheVariants.{Node}
use Rattle.graph_state.specs.declared.refusal.LookRefusal.{LookRefusal}
use Rattle.graph_state.specs.declared.refusal.LookRefusal.TheVariants as looks
use Rattle.graph_state.specs.State.{GraphState, source, target, ends_of, shows_node, shows_edge, shows_ends}
use Rattle.graph_state.specs.Names.{Has, IsOnce}
use Rattle.graph_state.specs.Formed.{IsFormed}
use Rattle.graph_state.specs.Refusals.{AreVisible, RefusesLook}
use Rattle.graph_state.proofs.Has.{not_both, has_map, has_filter, filter_has, once_filter}
use Rattle.hide_restore.specs.Net.{numbers_of_nodes, node_numbers, edge_numbers, arc_of, shown_net}
use Rattle.hide_restore.proofs.Numbers.{place_here}

-- a filter passes no more than there is
pub filter_few : {X : Type 0} (p : X → Bool) (xs : List X) → length (filter p xs) ≤ length xs
filter_few p [] = omega arith
filter_few p (x ∷ xs) =
    let r = filter_few p xs in
    elim (p x) as (λ b. length (cond b (x ∷ filter p xs) (filter p xs)) ≤ length (x ∷ xs)) [ true ↦ omega (arith, r) | false ↦ omega (arith, r) ]

once_unmap : {X Y : Type 0} (f : X → Y) (xs : List X) → IsOnce (map f xs) → IsOnce xs
once_unmap f [] o = tt
once_unmap f (x ∷ xs) o = ((λ i. o.0 (has_map f x xs i)), once_unmap f xs o.1)

-- as many items as numbers
pub count_nodes : (vs : List NodeItem) (s : GraphState) → numbers_of_nodes vs ≡ node_numbers s → length vs ≡ length (node_numbers s)
count_nodes vs s is = sym (length-map vs (λ (v : NodeItem). v.0.serial)) ∙ ap length is

pub net_is : (s : GraphState) (n : ℕ) (arcs : List Ends) → n ≡ length (node_numbers s) → arcs ≡ map (arc_of s) (edge_numbers s) → ◌≡◌ {A = Net} (record { n = n; arcs = arcs }) (shown_net s)
unfolding shown_net
net_is s n arcs nodes edges = λ j. record { n = nodes j; arcs = edges j }

-- a look at what is visible isn't refused
pub not_refused : (s : GraphState) (e : ℕ) (why : LookRefusal) → AreVisible s (names.Edge e ∷ []) → RefusesLook s (names.Edge e ∷ []) why → ⊥
not_refused s e (looks.Gone x why) see (inl g) = g.1.0 see.0
not_refused s e (looks.Gone x why) see (inr g) = g.1
not_refused s e (looks.Hidden x) see h = elim h.1 [ inl g ↦ not_both see.1 g.1 | inr g ↦ g.1 ]

and_true : (a b : Bool) → (a && b) ≡ true → (a ≡ true) × (b ≡ true)
and_true true b e = (refl, e)
and_true false b e = absurd (not_both e refl)

all_cons : {X : Type 0} (P : X → Type 0) (x : X) (xs : List X) → P x → All P xs → All P (x ∷ xs)
all_cons P x xs p all zero d lt = p
all_cons P x xs p all (suc k) d lt = all k d (omega (arith, lt))

pub node_seen : (s : GraphState) (v : ℕ) → Has v (node_numbers s) → AreVisible s (names.Node v ∷ [])
node_seen s v i = let h = has_filter (shows_node s) v s.nodes i in (h.0, h.1, tt)

module _ (s : GraphState) (f : IsFormed s) where
  pub nodes_once : IsOnce (node_numbers s)
  nodes_once = once_filter (shows_node s) s.nodes (once_unmap Node s.nodes (f.once Nodes))

  pub nodes_below : (v : ℕ) → Has v (node_numbers s) → v ≤ s.made_nodes
  nodes_below v i = (f.given_nodes v (has_filter (shows_node s) v s.nodes i).0).1

  pub nodes_few : length (node_numbers s) ≤ 100000
  nodes_few = let a = filter_few (shows_node s) s.nodes in let b = f.few.0 in omega (arith, a, b)

  pub edges_few : length (edge_numbers s) ≤ 400000
  edges_few = let a = filter_few (shows_edge s) s.edges in let b = f.few.1 in omega (arith, a, b)

  -- a visible edge is between visible nodes
  pub edge_seen : (e : ℕ) → Has e (edge_numbers s) → AreVisible s (names.Edge e ∷ [])
  edge_seen e i = let h = has_filter (shows_edge s) e s.edges i in (h.0, h.1, tt)

  pub ends_seen : (e : ℕ) → AreVisible s (names.Edge e ∷ []) → Has (source s e) (node_numbers s) × Has (target s e) (node_numbers s)
  ends_seen e see =
      let h = f.ends e see.0 in
      let b = and_true (shows_node s (source s e)) (shows_node s (target s e)) (and_true (not (set.contains s.hidden_edges e)) (shows_ends s (ends_of s e)) see.1).1 in
      (filter_has (shows_node s) (source s e) s.nodes h.0 b.0, filter_has (shows_node s) (target s e) s.nodes h.1 b.1)

  arcs_below : (es : List ℕ) → ((e : ℕ) → Has e es → Has e (edge_numbers s)) → EndsBelow (length (node_numbers s)) (map (arc_of s) es)
  arcs_below [] all = λ k d lt. absurd (omega (arith, lt))
  arcs_below (e ∷ es) all =
      let h = ends_seen e (edge_seen e (all e (inl refl))) in
      all_cons (λ (arc : Ends). (arc.0 < length (node_numbers s)) × (arc.1 < length (node_numbers s))) (arc_of s e) (map (arc_of s) es)
      ((place_here (source s e) (node_numbers s) h.0).0, (place_here (target s e) (node_numbers s) h.1).0) (arcs_below es (λ e i. all e (inr i)))

  pub valid : IsValid (shown_net s)
  unfolding shown_net
  valid = record { ends = arcs_below (edge_numbers s) (λ e i. i); limits = record { nodes = nodes_few; arcs = subst (λ n. n ≤ 400000) (sym (length-map (edge_numbers s) (arc_of s))) edges_few } }
