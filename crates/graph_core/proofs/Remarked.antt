-- Marks are changed, in the cells and in the state: the cells and the lists say what the state says.
use Rattle.std.proofs.Common.{◌≡◌, ℕ, ◌+◌, ◌*◌, ◌≤◌, ◌==◌, Bool, true, false, cond, Option, Some, None, option_map, refl, sym, ap, subst, ◌∙◌, inl, inr}
use Rattle.std.specs.Ordering.{nat_cmp}
use Rattle.std.specs.FinMap as map
use Rattle.std.specs.FinSet as set
use Rattle.graph_state.specs.declared.name.ListName.{ListName}
use Rattle.graph_state.specs.declared.name.ListName.TheVariants.{Nodes, Edges, Out, In}
use Rattle.graph_state.specs.declared.name.Element.{Element}
use Rattle.graph_state.specs.declared.name.Element.TheVariants.{Node, Edge, End}
use Rattle.graph_state.specs.State.{GraphState}
use Rattle.graph_state.specs.Names.{Has, shows, IsLive}
use Rattle.graph_state.proofs.Same.{nat_tells}
use Rattle.graph_state.proofs.Maps.{put_here, put_else}
use Rattle.graph_state.proofs.Marked.{with_marks, lists_stay, live_stays, formed_marks, mark_here, mark_else}
use Rattle.graph_lists.specs.Named.{Lists, head_at, hook_at, list_at, shows_at, SameRoom}
use Rattle.graph_core.specs.declared.cell.Heads.{Heads}
use Rattle.graph_core.specs.declared.cell.NodeCell.{NodeCell}
use Rattle.graph_core.specs.declared.cell.EdgeCell.{EdgeCell}
use Rattle.graph_core.specs.Kept.{NodeCells, EdgeCells, heads_of, hook_of, end_hook, IsNode, IsEdge, top_heads, IsKept}
use Rattle.graph_core.specs.Marks.{IsSame}

-- a cell with another mark
abbrev pub remark_node : Bool → NodeCell → NodeCell
remark_node b c = record c { is_hidden = b }

abbrev pub remark_edge : Bool → EdgeCell → EdgeCell
remark_edge b c = record c { is_hidden = b }

-- the cells of q are those of p, with marks as the set has the numbers
abbrev pub AreRemarked : {C : Type 0} → (Bool → C → C) → set.FinSet nat_cmp → map.FinMap nat_cmp C → map.FinMap nat_cmp C → Type 0
AreRemarked remark h p q = (i : ℕ) → map.get q i ≡ option_map (remark (set.contains h i)) (map.get p i)

module _ {C : Type 0} (mark : C → Bool) (remark : Bool → C → C) (keeps : (c : C) (b : Bool) → b ≡ mark c → c ≡ remark b c) (p : map.FinMap nat_cmp C) (h : set.FinSet nat_cmp) (right : (i : ℕ) (c : C) → map.get p i ≡ Some c → mark c ≡ set.contains h i) where
  as_before_at : (i : ℕ) (o : Option C) → map.get p i ≡ o → o ≡ option_map (remark (set.contains h i)) o
  as_before_at i None at = refl
  as_before_at i (Some c) at = ap Some (keeps c (set.contains h i) (sym (right i c at)))

  pub as_before : AreRemarked remark h p p
  as_before i = as_before_at i (map.get p i) refl

  -- the mark of one cell is changed
  pub one_remarked : (k : ℕ) (c : C) (b : Bool) (new : set.FinSet nat_cmp) (q : map.FinMap nat_cmp C) → map.get p k ≡ Some c → ((i : ℕ) → set.contains new i ≡ cond (i == k) b (set.contains h i)) → q ≡ map.insert p k (remark b c) → AreRemarked remark new p q
  one_remarked k c b new q at marks is i = elim (nat_tells i k) [
    | inl y ↦
        ap (λ m. map.get m i) is ∙ put_here p k (remark b c) i y.1
        ∙ sym (ap (λ t. option_map (remark t) (map.get p i)) (mark_here h new k b marks i y.1) ∙ ap (option_map (remark b)) (ap (map.get p) y.1 ∙ at))
    | inr n ↦
        ap (λ m. map.get m i) is ∙ put_else p k (remark b c) i n.1 ∙ as_before i
        ∙ sym (ap (λ t. option_map (remark t) (map.get p i)) (mark_else h new k b marks i n.1))
  ]

-- what has nothing to do with marks stays
part_stays : {C X : Type 0} (f : C → X) (g : C → C) → ((c : C) → f (g c) ≡ f c) → (o : Option C) → option_map f o ≡ option_map f (option_map g o)
part_stays f g alike None = refl
part_stays f g alike (Some c) = ap Some (sym (alike c))

end_stays : (back b : Bool) (c : EdgeCell) → end_hook back (remark_edge b c) ≡ end_hook back c
end_stays true b c = refl
end_stays false b c = refl

node_remarked : (s : GraphState) (vs es : set.FinSet nat_cmp) (v : ℕ) (o : Option NodeCell) → IsNode s v o → IsNode (with_marks s vs es) v (option_map (remark_node (set.contains vs v)) o)
node_remarked s vs es v None i = i
node_remarked s vs es v (Some c) i = record { listed = i.listed; label = i.label; hidden = refl }

edge_remarked : (s : GraphState) (vs es : set.FinSet nat_cmp) (e : ℕ) (o : Option EdgeCell) → IsEdge s e o → IsEdge (with_marks s vs es) e (option_map (remark_edge (set.contains es e)) o)
edge_remarked s vs es e None i = i
edge_remarked s vs es e (Some c) i = record { listed = i.listed; ends = i.ends; label = i.label; reversal = i.reversal; hidden = refl }

module _ (s : GraphState) (t : Lists) (top : Option Heads) (p : NodeCells) (q : EdgeCells) (k : IsKept s t top p q) where
  pub nodes_as_before : AreRemarked remark_node s.hidden_nodes p p
  nodes_as_before = as_before (λ (c : NodeCell). c.is_hidden) remark_node (λ c b e. ap (λ b. remark_node b c) (sym e)) p s.hidden_nodes (λ v c at. (subst (IsNode s v) at (k.nodes v)).hidden)

  pub edges_as_before : AreRemarked remark_edge s.hidden_edges q q
  edges_as_before = as_before (λ (c : EdgeCell). c.is_hidden) remark_edge (λ c b e. ap (λ b. remark_edge b c) (sym e)) q s.hidden_edges (λ e c at. (subst (IsEdge s e) at (k.edges e)).hidden)

  pub one_node : (v : ℕ) (c : NodeCell) (b : Bool) (vs : set.FinSet nat_cmp) (p' : NodeCells) → map.get p v ≡ Some c → ((i : ℕ) → set.contains vs i ≡ cond (i == v) b (set.contains s.hidden_nodes i)) → p' ≡ map.insert p v (remark_node b c) → AreRemarked remark_node vs p p'
  one_node = one_remarked (λ (c : NodeCell). c.is_hidden) remark_node (λ c b e. ap (λ b. remark_node b c) (sym e)) p s.hidden_nodes (λ v c at. (subst (IsNode s v) at (k.nodes v)).hidden)

  pub one_edge : (e : ℕ) (c : EdgeCell) (b : Bool) (es : set.FinSet nat_cmp) (q' : EdgeCells) → map.get q e ≡ Some c → ((i : ℕ) → set.contains es i ≡ cond (i == e) b (set.contains s.hidden_edges i)) → q' ≡ map.insert q e (remark_edge b c) → AreRemarked remark_edge es q q'
  one_edge = one_remarked (λ (c : EdgeCell). c.is_hidden) remark_edge (λ c b e. ap (λ b. remark_edge b c) (sym e)) q s.hidden_edges (λ e c at. (subst (IsEdge s e) at (k.edges e)).hidden)

  module _ (vs es : set.FinSet nat_cmp) (u : Lists) (p' : NodeCells) (q' : EdgeCells) (same : IsSame t.named u.named) (room : SameRoom t u) (nodes : AreRemarked remark_node vs p p') (edges : AreRemarked remark_edge es q q') where
    heads_stay : (l : ListName) → heads_of top p l ≡ heads_of top p' l
    heads_stay Nodes = refl
    heads_stay Edges = refl
    heads_stay (Out v) = part_stays (λ (c : NodeCell). c.outs) (remark_node (set.contains vs v)) (λ c. refl) (map.get p v) ∙ ap (option_map (λ (c : NodeCell). c.outs)) (sym (nodes v))
    heads_stay (In v) = part_stays (λ (c : NodeCell). c.ins) (remark_node (set.contains vs v)) (λ c. refl) (map.get p v) ∙ ap (option_map (λ (c : NodeCell). c.ins)) (sym (nodes v))

    hooks_stay : (x : Element) → hook_of p q x ≡ hook_of p' q' x
    hooks_stay (Node v) = part_stays (λ (c : NodeCell). c.hook) (remark_node (set.contains vs v)) (λ c. refl) (map.get p v) ∙ ap (option_map (λ (c : NodeCell). c.hook)) (sym (nodes v))
    hooks_stay (Edge e) = part_stays (λ (c : EdgeCell). c.hook) (remark_edge (set.contains es e)) (λ c. refl) (map.get q e) ∙ ap (option_map (λ (c : EdgeCell). c.hook)) (sym (edges e))
    hooks_stay (End d) = part_stays (end_hook d.back) (remark_edge (set.contains es d.edge)) (end_stays d.back (set.contains es d.edge)) (map.get q d.edge) ∙ ap (option_map (end_hook d.back)) (sym (edges d.edge))

    pub kept_remarked : (map.len p' ≡ map.len p) × (map.len q' ≡ map.len q) → ((v : ℕ) → set.contains vs v ≡ true → Has v s.nodes) → ((e : ℕ) → set.contains es e ≡ true → Has e s.edges)
        → ((x : Element) → IsLive s x → shows_at u.named x ≡ shows (with_marks s vs es) x) → IsKept (with_marks s vs es) u top p' q'
    kept_remarked lens in_nodes in_edges shown = record {
      heads = λ l. ap (λ hs. head_at (record u.named { heads = hs }) l) same.heads ∙ k.heads l ∙ heads_stay l;
      hooks = λ x. ap (λ ps. hook_at (record u.named { hooks = ps }) x) same.hooks ∙ k.hooks x ∙ hooks_stay x;
      lists = λ l. ap (λ ls. list_at (record u.named { lists = ls }) l) same.lists ∙ k.lists l ∙ sym (lists_stay s vs es l);
      shown = λ x i. shown x (live_stays s vs es x i);
      loose = same.loose ∙ k.loose;
      nodes = λ v. subst (IsNode (with_marks s vs es) v) (sym (nodes v)) (node_remarked s vs es v (map.get p v) (k.nodes v));
      edges = λ e. subst (IsEdge (with_marks s vs es) e) (sym (edges e)) (edge_remarked s vs es e (map.get q e) (k.edges e));
      headed = k.headed;
      few_heads = subst (λ n. n ≤ top_heads top + 4 * map.len p') (sym room.heads) (subst (λ n. t.heads ≤ top_heads top + 4 * n) (sym lens.0) k.few_heads);
      few_members = subst (λ n. n ≤ 2 * map.len p' + 6 * map.len q') (sym room.members) (subst (λ n. t.members ≤ 2 * n + 6 * map.len q') (sym lens.0) (subst (λ n. t.members ≤ 2 * map.len p + 6 * n) (sym lens.1) k.few_members));
      counted = (lens.0 ∙ k.counted.0, lens.1 ∙ k.counted.1);
      formed = formed_marks s vs es k.formed in_nodes in_edges;
      rise = k.rise;
    }
