-- A node that is hidden or restored: the cells and the lists say what the state says.
use Rattle.std.proofs.Common.{◌≡◌, ℕ, ◌≤◌, ◌==◌, Bool, true, false, cond, not, ◌&&◌, Option, Some, option_map, refl, sym, ap, subst, ◌∙◌, ◌⊎◌, inl, inr}
use Rattle.std.specs.Ordering.{nat_cmp}
use Rattle.std.specs.FinMap as map
use Rattle.std.specs.FinSet as set
use Rattle.item_pool.specs.Contents.{Contents, HasLive}
use Rattle.graph_defs.specs.declared.dart.Dart.{Dart}
use Rattle.graph_state.specs.declared.name.ListName.{ListName}
use Rattle.graph_state.specs.declared.name.ListName.TheVariants.{Nodes, Edges, Out, In}
use Rattle.graph_state.specs.declared.name.Element.{Element}
use Rattle.graph_state.specs.declared.name.Element.TheVariants.{Node, Edge, End}
use Rattle.graph_state.specs.State.{GraphState, front, back, source, target, out_list, in_list, shows_node, shows_edge}
use Rattle.graph_state.specs.Names.{Has, list_of, number, shows, IsLive, back_row}
use Rattle.graph_state.proofs.Has.{truth, not_both, has_map, has_mapped}
use Rattle.graph_state.proofs.Same.{nat_tells}
use Rattle.graph_state.proofs.Maps.{len_kept}
use Rattle.graph_state.proofs.Added.{IsOf}
use Rattle.graph_state.proofs.Marked.{with_marks, marked_listed, HasEnd, end_or_not, end_hides, node_marked, node_unmarked, ends_unmarked}
use Rattle.graph_lists.specs.Named.{Lists, Named, list_at, shows_at, SameRoom}
use Rattle.graph_core.specs.declared.cell.Heads.{Heads}
use Rattle.graph_core.specs.declared.cell.NodeCell.{NodeCell}
use Rattle.graph_core.specs.declared.cell.EdgeCell.{EdgeCell}
use Rattle.graph_core.specs.Kept.{NodeCells, EdgeCells, IsKept}
use Rattle.graph_core.specs.Marks.{IsSame}
use Rattle.graph_core.specs.NodeMarks.{is_bare, is_free, turns, CanTurnAll, CanTurnNode, TurnsNode}
use Rattle.graph_core.proofs.Kept.{node_cell, has_node, node_hook, edge_cell, has_edge, out_head, in_head, stands, from_listed, to_listed, ends_are}
use Rattle.graph_core.proofs.Remarked.{remark_node, AreRemarked, edges_as_before, one_node, kept_remarked}
use Rattle.graph_core.proofs.Hiding.{same_on}
use Rattle.graph_core.proofs.Showing.{all_tokens, can_show}
use Rattle.graph_core.proofs.NodeMarks.{turned_of, kept_of, stays_so}

-- the node that a list is of
abbrev node_in : ListName → ℕ
node_in Nodes = 0
node_in Edges = 0
node_in (Out u) = u
node_in (In u) = u

twice : (b : Bool) → not (not b) ≡ b
twice true = refl
twice false = refl

row_node : (directed : Bool) (w : ℕ) → node_in (back_row directed w) ≡ w
row_node true w = refl
row_node false w = refl

home_end : (s : GraphState) (i : ℕ) (b : Bool) (v : ℕ) → node_in (cond b (back_row s.directed (target s i)) (Out (source s i))) ≡ v → HasEnd s v i
home_end s i true v e = inr (sym (row_node s.directed (target s i)) ∙ e)
home_end s i false v e = inl e

module _ (s : GraphState) (t : Lists) (top : Option Heads) (p : NodeCells) (q : EdgeCells) (k : IsKept s t top p q) (v : ℕ) where
  -- what stands in a list of the node is a dart of an edge that has an end there
  dart_end : (l : ListName) (d : Dart) → Has (End d) (list_of s l) → node_in l ≡ v → Has d.edge s.edges × HasEnd s v d.edge
  dart_end l d i is =
      let h = k.formed.homes l (End d) i in
      (h.0, home_end s d.edge d.back v (ap node_in h.1 ∙ is))

  abbrev IsDart : Element → Type 0
  IsDart x = Has (number x) s.edges × HasEnd s v (number x)

  pub out_ends : (x : Element) → Has x (list_at t.named (Out v)) → IsDart x
  out_ends x i =
      let h = has_mapped End x (out_list s v) (subst (Has x) (k.lists (Out v)) i) in
      subst IsDart (sym h.1.1) (dart_end (Out v) h.0 (has_map End h.0 (out_list s v) h.1.0) refl)

  pub in_ends : (x : Element) → Has x (list_at t.named (In v)) → IsDart x
  in_ends x i =
      let h = has_mapped End x (in_list s v) (subst (Has x) (k.lists (In v)) i) in
      subst IsDart (sym h.1.1) (dart_end (In v) h.0 (has_map End h.0 (in_list s v) h.1.0) refl)

  abbrev InRow : ListName → ℕ → Type 0
  InRow l e = (y : Element) × (Has y (list_at t.named l) × (number y ≡ e))

  in_row : (d : Bool) (e w : ℕ) → w ≡ v → Has (End (back e)) (list_at t.named (back_row d w)) → InRow (Out v) e ⊎ InRow (In v) e
  in_row true e w is i = inr (End (back e), (subst (λ w. Has (End (back e)) (list_at t.named (In w))) is i, refl))
  in_row false e w is i = inl (End (back e), (subst (λ w. Has (End (back e)) (list_at t.named (Out w))) is i, refl))

  -- an edge that has an end at the node has a dart in one of its lists
  row_has : (e : ℕ) → Has e s.edges → HasEnd s v e → InRow (Out v) e ⊎ InRow (In v) e
  row_has e i (inl is) = inl (End (front e), (subst (λ w. Has (End (front e)) (list_at t.named (Out w))) is (stands s t top p q k (End (front e)) i), refl))
  row_has e i (inr is) = in_row s.directed e (target s e) is (stands s t top p q k (End (back e)) i)

  module _ (g : ℕ → Bool) (b : Bool) (m : Named) (h : TurnsNode g b t.named m v) where
    number_of : (e i : ℕ) (x : Element) → IsOf e x → IsOf i x → i ≡ e
    number_of e i (Node w) a o = absurd a
    number_of e i (Edge j) a o = sym o ∙ a
    number_of e i (End d) a o = sym o ∙ a

    no_node : (e : ℕ) (x : Element) → IsOf e x → x ≡ Node v → ⊥
    no_node e x o is = subst (IsOf e) is o

    -- the edges at the node are turned where they are to be, and no others
    pub ends_turned : (e : ℕ) → Has e s.edges → HasEnd s v e → g e ≡ true → (x : Element) → IsOf e x → shows_at m x ≡ b
    ends_turned e i end free x o = elim (row_has e i end) [
      | inl r ↦ stays_so g b h.second m (list_at t.named (In v)) h.ins x
          (turned_of g b h.first h.second (list_at t.named (Out v)) h.outs x r.0 r.1.0 (ap g r.1.1 ∙ free) (subst (λ i. IsOf i x) (sym r.1.1) o))
      | inr r ↦ turned_of g b h.second m (list_at t.named (In v)) h.ins x r.0 r.1.0 (ap g r.1.1 ∙ free) (subst (λ i. IsOf i x) (sym r.1.1) o)
    ]

    pub others_kept : (e : ℕ) (x : Element) → IsOf e x → (HasEnd s v e → g e ≡ true → ⊥) → shows_at m x ≡ shows_at t.named x
    others_kept e x o out =
        kept_of g b h.second m (list_at t.named (In v)) h.ins x (λ y i free o'. let n = number_of e (number y) x o o' in out (subst (HasEnd s v) n (in_ends y i).1) (sym (ap g n) ∙ free))
        ∙ kept_of g b h.first h.second (list_at t.named (Out v)) h.outs x (λ y i free o'. let n = number_of e (number y) x o o' in out (subst (HasEnd s v) n (out_ends y i).1) (sym (ap g n) ∙ free))
        ∙ h.node.else x (no_node e x o)

    nodes_kept : (i : ℕ) → shows_at m (Node i) ≡ shows_at h.first (Node i)
    nodes_kept i =
        kept_of g b h.second m (list_at t.named (In v)) h.ins (Node i) (λ y j t o. o) ∙ kept_of g b h.first h.second (list_at t.named (Out v)) h.outs (Node i) (λ y j t o. o)

    pub node_turned : (i : ℕ) → i ≡ v → shows_at m (Node i) ≡ b
    node_turned i is = nodes_kept i ∙ ap (λ i. shows_at h.first (Node i)) is ∙ h.node.here

    pub nodes_else : (i : ℕ) → (i ≡ v → ⊥) → shows_at m (Node i) ≡ shows_at t.named (Node i)
    nodes_else i ne = nodes_kept i ∙ h.node.else (Node i) (λ is. ne (ap number is))

    pub turned_same : IsSame t.named m
    turned_same = same_on t.named h.second m (same_on t.named h.first h.second h.node.same h.outs.same) h.ins.same

-- what is listed is live in its pool
pub node_there : (s : GraphState) (t : Lists) (top : Option Heads) (p : Contents NodeCell) (q : EdgeCells) (k : IsKept s t top p.live q) → p.made ≡ s.made_nodes → (v : ℕ) → Has v s.nodes → HasLive p v
node_there s t top p q k made v i =
    let c = has_node s t top p.live q k v i in
    let g = k.formed.given_nodes v i in
    (c.0, (c.1, g.0, subst (λ n. v ≤ n) (sym made) g.1))

-- the cell of the node gets another mark, and so does the node in the state
module _ (s : GraphState) (t : Lists) (top : Option Heads) (p : NodeCells) (q : Contents EdgeCell) (k : IsKept s t top p q.live) (v : ℕ) (c : NodeCell) (at : map.get p v ≡ Some c) (b : Bool) (h : set.FinSet nat_cmp) (marks : (i : ℕ) → set.contains h i ≡ cond (i == v) (not b) (set.contains s.hidden_nodes i)) (p' : Contents NodeCell) (cells : p'.live ≡ map.insert p v (remark_node (not b) c)) where
  abbrev z : GraphState
  z = with_marks s h s.hidden_edges

  nodes_are : AreRemarked remark_node h p p'.live
  nodes_are = one_node s t top p q.live k v c (not b) h p'.live at marks cells

  listed : Has v s.nodes
  listed = (node_cell s t top p q.live k v c at).listed

  can_turn : (l : ListName) (top' : Heads) → top ≡ Some top' → (d : Bool) → d ≡ s.directed → ((x : Element) → Has x (list_at t.named l) → Has (number x) s.edges × HasEnd s v (number x)) → CanTurnAll t.named p' q top'.edges d l
  can_turn l top' is d ds ends x i =
      let e = has_edge s t top p q.live k (number x) (ends x i).0 in
      (e.0, (e.1, can_show s t top p q k p' h nodes_are (number x) e.0 e.1 top' is d ds))

  pub can_turn_node : (top' : Heads) → top ≡ Some top' → (d : Bool) → d ≡ s.directed → CanTurnNode t.named p' q top' d v (remark_node (not b) c)
  can_turn_node top' is d ds = record {
    head = k.heads Nodes ∙ ap (option_map (λ (h : Heads). h.nodes)) is;
    hook = node_hook s t top p q.live k v c at;
    node_in = stands s t top p q.live k (Node v) listed;
    outs = out_head s t top p q.live k v c at;
    ins = in_head s t top p q.live k v c at;
    tokens = all_tokens s t top p q k p' h nodes_are;
    out_edges = can_turn (Out v) top' is d ds (out_ends s t top p q.live k v);
    in_edges = can_turn (In v) top' is d ds (in_ends s t top p q.live k v);
  }

  bare_is : (i : ℕ) → Has i s.nodes → is_bare (map.get p'.live i) ≡ shows_node z i
  bare_is i has = let d = has_node s t top p q.live k i has in ap is_bare (nodes_are i ∙ ap (option_map (remark_node (set.contains h i))) d.1)

  -- an edge is free where it shows in the new state
  free_is : (e : ℕ) → Has e s.edges → is_free p'.live (map.get q.live e) ≡ shows_edge z e
  free_is e has =
      let d = has_edge s t top p q.live k e has in
      let i = edge_cell s t top p q.live k e d.0 d.1 in
      ap (is_free p'.live) d.1
      ∙ (λ j. not (i.hidden j) && (bare_is d.0.from (from_listed s k.formed e d.0 i) j && bare_is d.0.to (to_listed s k.formed e d.0 i) j))
      ∙ ap (λ (p : ℕ × ℕ). not (set.contains s.hidden_edges e) && (shows_node z p.0 && shows_node z p.1)) (sym (ends_are s k.formed e d.0 i))

  module _ (u : Lists) (turned : TurnsNode (turns b p'.live q.live) b t.named u.named v) where
    -- what shows of the edges, where those at the node show as the state says
    module _ (says : (e : ℕ) → Has e s.edges → HasEnd s v e → (x : Element) → IsOf e x → shows_at u.named x ≡ shows_edge z e) where
      edge_says : (e : ℕ) → Has e s.edges → (x : Element) → IsOf e x → shows_at t.named x ≡ shows_edge s e → shows_at u.named x ≡ shows_edge z e
      edge_says e i x o before = elim (end_or_not s v e) [
        | inl end ↦ says e i end x o
        | inr ne ↦ others_kept s t top p q.live k v (turns b p'.live q.live) b u.named turned e x o (λ end _. ne end) ∙ before ∙ sym (ends_unmarked s h v (not b) marks e ne)
      ]

      node_says : (i : ℕ) → Has i s.nodes → shows_at u.named (Node i) ≡ shows_node z i
      node_says i has = elim (nat_tells i v) [
        | inl y ↦ node_turned s t top p q.live k v (turns b p'.live q.live) b u.named turned i y.1 ∙ sym (node_marked s h v (not b) marks i y.1 ∙ twice b)
        | inr n ↦ nodes_else s t top p q.live k v (turns b p'.live q.live) b u.named turned i n.1 ∙ k.shown (Node i) has ∙ sym (node_unmarked s h v (not b) marks i n.1)
      ]

      all_says : (x : Element) → IsLive s x → shows_at u.named x ≡ shows z x
      all_says (Node i) has = node_says i has
      all_says (Edge e) has = edge_says e has (Edge e) refl (k.shown (Edge e) has)
      all_says (End d) has = edge_says d.edge has (End d) refl (k.shown (End d) has)

      pub kept_turned : SameRoom t u → IsKept z u top p'.live q.live
      kept_turned room =
          kept_remarked s t top p q.live k h s.hidden_edges u p'.live q.live (turned_same s t top p q.live k v (turns b p'.live q.live) b u.named turned) room nodes_are (edges_as_before s t top p q.live k)
          (ap map.len cells ∙ len_kept p v (remark_node (not b) c) c at, refl) (marked_listed s.hidden_nodes h v (not b) marks (λ i. Has i s.nodes) listed k.formed.hidden_nodes) k.formed.hidden_edges all_says

-- the parts of an edge show as the edge does
of_shows : (s : GraphState) (t : Lists) (top : Option Heads) (p : NodeCells) (q : EdgeCells) (k : IsKept s t top p q) (e : ℕ) → Has e s.edges → (x : Element) → IsOf e x → shows_at t.named x ≡ shows_edge s e
of_shows s t top p q k e i (Node w) o = absurd o
of_shows s t top p q k e i (Edge j) o = k.shown (Edge j) (subst (λ e. Has e s.edges) (sym o) i) ∙ ap (shows_edge s) o
of_shows s t top p q k e i (End d) o = k.shown (End d) (subst (λ e. Has e s.edges) (sym o) i) ∙ ap (shows_edge s) o

-- a node is hidden: no edge shows that has an end there
pub kept_hidden : (s : GraphState) (t : Lists) (top : Option Heads) (p : NodeCells) (q : Contents EdgeCell) (k : IsKept s t top p q.live) (v : ℕ) (c : NodeCell) (at : map.get p v ≡ Some c) (h : set.FinSet nat_cmp) (marks : (i : ℕ) → set.contains h i ≡ cond (i == v) true (set.contains s.hidden_nodes i)) (p' : Contents NodeCell) (cells : p'.live ≡ map.insert p v (remark_node true c)) (u : Lists) (turned : TurnsNode (turns false p'.live q.live) false t.named u.named v)
    → SameRoom t u → IsKept (with_marks s h s.hidden_edges) u top p'.live q.live
kept_hidden s t top p q k v c at h marks p' cells u turned room =
    kept_turned s t top p q k v c at false h marks p' cells u turned (λ e i end x o.
    ends_turned s t top p q.live k v (turns false p'.live q.live) false u.named turned e i end refl x o
    ∙ sym (end_hides (with_marks s h s.hidden_edges) v (node_marked s h v true marks v refl) e end)) room

-- a node is restored: an edge that has an end there shows where it is free
pub kept_restored : (s : GraphState) (t : Lists) (top : Option Heads) (p : NodeCells) (q : Contents EdgeCell) (k : IsKept s t top p q.live) (v : ℕ) (c : NodeCell) (at : map.get p v ≡ Some c) (hidden : set.contains s.hidden_nodes v ≡ true) (h : set.FinSet nat_cmp) (marks : (i : ℕ) → set.contains h i ≡ cond (i == v) false (set.contains s.hidden_nodes i)) (p' : Contents NodeCell) (cells : p'.live ≡ map.insert p v (remark_node false c)) (u : Lists) (turned : TurnsNode (turns true p'.live q.live) true t.named u.named v)
    → SameRoom t u → IsKept (with_marks s h s.hidden_edges) u top p'.live q.live
kept_restored s t top p q k v c at hidden h marks p' cells u turned room =
    let free : (e : ℕ) → Has e s.edges → turns true p'.live q.live e ≡ shows_edge (with_marks s h s.hidden_edges) e = free_is s t top p q k v c at true h marks p' cells in
    kept_turned s t top p q k v c at true h marks p' cells u turned (λ e i end x o. elim (truth (turns true p'.live q.live e)) [
      | inl sure ↦ ends_turned s t top p q.live k v (turns true p'.live q.live) true u.named turned e i end sure x o ∙ sym sure ∙ free e i
      | inr none ↦
          others_kept s t top p q.live k v (turns true p'.live q.live) true u.named turned e x o (λ _ sure. not_both sure none)
          ∙ of_shows s t top p q.live k e i x o ∙ end_hides s v (ap not hidden) e end ∙ sym none ∙ free e i
    ]) room
