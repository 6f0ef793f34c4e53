-- A node that is gone: the cells and the lists say what the state says.
use Rattle.std.proofs.Common.{◌≡◌, ℕ, ◌+◌, ◌*◌, ◌≤◌, ◌==◌, true, false, cond, not, [], filter, length, Option, Some, None, option_map, refl, sym, ap, subst, ◌∙◌, inl, inr, arith}
use Rattle.std.proofs.Common as list
use Rattle.std.specs.FinMap as map
use Rattle.graph_state.specs.declared.name.ListName.{ListName}
use Rattle.graph_state.specs.declared.name.ListName.TheVariants.{Nodes, Edges, Out, In}
use Rattle.graph_state.specs.declared.name.Element.{Element}
use Rattle.graph_state.specs.declared.name.Element.TheVariants.{Node, Edge, End}
use Rattle.graph_state.specs.State.{GraphState}
use Rattle.graph_state.specs.Names.{Has}
use Rattle.graph_state.specs.Parts.{IsAlone}
use Rattle.graph_state.specs.Edits.{without_node}
use Rattle.graph_state.proofs.Same.{nat_tells}
use Rattle.graph_state.proofs.Maps.{out_here, out_else, len_out}
use Rattle.graph_state.proofs.NodeRemoved.{node_out, without_alone, no_outs, no_ins, lists_left, left_node, node_left, live_left, hidden_left, shows_left, nodes_fewer, formed_alone}
use Rattle.graph_lists.specs.Named.{Lists, Named, head_at, hook_at, list_at, shows_at}
use Rattle.graph_core.specs.declared.cell.Heads.{Heads}
use Rattle.graph_core.specs.declared.cell.NodeCell.{NodeCell}
use Rattle.graph_core.specs.Kept.{NodeCells, EdgeCells, heads_of, hook_of, IsNode, IsKept}
use Rattle.graph_core.specs.Removal.{is_it, HasNodeParts, DropsNode}
use Rattle.graph_core.proofs.Kept.{node_cell, node_hook, out_head, in_head, stands}
use Rattle.graph_core.proofs.Nodes.{edge_kept}

module _ (s : GraphState) (t : Lists) (top : Option Heads) (p : NodeCells) (q : EdgeCells) (k : IsKept s t top p q) (v : ℕ) (c : NodeCell) (at : map.get p v ≡ Some c) (alone : IsAlone s v) where
  here : Has v s.nodes
  here = (node_cell s t top p q k v c at).listed

  -- the node stands in the node list, and nothing stands in its own lists
  pub has_node_parts : HasNodeParts t.named v c
  has_node_parts = record {
    hook = node_hook s t top p q k v c at;
    there = stands s t top p q k (Node v) here;
    outs = out_head s t top p q k v c at;
    ins = in_head s t top p q k v c at;
    no_outs = k.lists (Out v) ∙ ap (list.map End) (no_outs s k.formed v alone);
    no_ins = k.lists (In v) ∙ ap (list.map End) (no_ins s k.formed v alone);
  }

  module _ (u : Lists) (p' : NodeCells) (cells : p' ≡ map.remove p v) (d : DropsNode t u v) where
    got_none : (i : ℕ) → i ≡ v → map.get p' i ≡ None
    got_none i n = ap (λ m. map.get m i) cells ∙ out_here p v i n

    got_else : (i : ℕ) → (i ≡ v → ⊥) → map.get p' i ≡ map.get p i
    got_else i ne = ap (λ m. map.get m i) cells ∙ out_else p v i ne

    -- what the cell of the node had is gone, and the rest stays
    part_of : {X : Type 0} (f : NodeCell → X) (i : ℕ) → cond (v == i) None (option_map f (map.get p i)) ≡ option_map f (map.get p' i)
    part_of f i = elim (nat_tells v i) [
      | inl y ↦ ap (λ b. cond b None (option_map f (map.get p i))) y.0 ∙ sym (ap (option_map f) (got_none i (sym y.1)))
      | inr n ↦ ap (λ b. cond b None (option_map f (map.get p i))) n.0 ∙ sym (ap (option_map f) (got_else i (λ e. n.1 (sym e))))
    ]

    mid_head : (l : ListName) → head_at d.mid.named l ≡ heads_of top p l
    mid_head l = ap (λ hs. head_at (record d.mid.named { heads = hs }) l) d.drops.heads ∙ k.heads l

    heads_left : (l : ListName) → head_at u.named l ≡ heads_of top p' l
    heads_left Nodes = ap (λ n. head_at n Nodes) d.named ∙ mid_head Nodes
    heads_left Edges = ap (λ n. head_at n Edges) d.named ∙ mid_head Edges
    heads_left (Out i) = ap (λ n. head_at n (Out i)) d.named ∙ ap (cond (v == i) None) (mid_head (Out i)) ∙ part_of (λ (c : NodeCell). c.outs) i
    heads_left (In i) = ap (λ n. head_at n (In i)) d.named ∙ ap (cond (v == i) None) (mid_head (In i)) ∙ part_of (λ (c : NodeCell). c.ins) i

    same_hook : (x : Element) → hook_at u.named x ≡ hook_at d.mid.named x
    same_hook x = ap (λ n. hook_at n x) d.named

    node_gone : (i : ℕ) → hook_at u.named (Node i) ≡ option_map (λ (c : NodeCell). c.hook) (map.get p' i)
    node_gone i = elim (nat_tells i v) [
      | inl y ↦ same_hook (Node i) ∙ d.drops.gone (Node i) y.0 ∙ sym (ap (option_map (λ (c : NodeCell). c.hook)) (got_none i y.1))
      | inr n ↦ same_hook (Node i) ∙ d.drops.hooks (Node i) n.0 ∙ k.hooks (Node i) ∙ sym (ap (option_map (λ (c : NodeCell). c.hook)) (got_else i n.1))
    ]

    hooks_left : (x : Element) → hook_at u.named x ≡ hook_of p' q x
    hooks_left (Node i) = node_gone i
    hooks_left (Edge i) = same_hook (Edge i) ∙ d.drops.hooks (Edge i) refl ∙ k.hooks (Edge i)
    hooks_left (End x) = same_hook (End x) ∙ d.drops.hooks (End x) refl ∙ k.hooks (End x)

    cell_left : (i : ℕ) (o : Option NodeCell) → (i ≡ v → ⊥) → IsNode s i o → IsNode (node_out v s) i o
    unfolding node_out
    cell_left i None ne j = λ h. j (left_node s k.formed v alone i h).0
    cell_left i (Some x) ne j = record {
      listed = node_left s k.formed v alone i j.listed ne;
      label = out_else s.node_labels v i ne ∙ j.label;
      hidden = j.hidden ∙ sym (hidden_left s k.formed v alone i ne);
    }

    kept_alone : IsKept (node_out v s) u top p' q
    unfolding node_out
    kept_alone =
        let fewer : map.len p' + 1 ≡ map.len p = ap (λ m. map.len m + 1) cells ∙ len_out p v c at in
        let shorter = nodes_fewer s k.formed v alone here in
        let heads = d.heads in
        let members = d.members in
        let same = d.drops.same in
        let less = d.drops.fewer in
        let few_heads = k.few_heads in
        let few_members = k.few_members in
        let counted = k.counted.0 in
        record {
          heads = heads_left;
          hooks = hooks_left;
          lists = λ l. ap (λ n. list_at n l) d.named ∙ d.drops.lists l ∙ ap (filter (λ x. not (is_it (Node v) x))) (k.lists l) ∙ sym (lists_left s k.formed v alone l);
          shown = λ x i. ap (λ n. shows_at n x) d.named ∙ ap (λ ms. shows_at (record d.mid.named { shown = ms }) x) d.drops.shown
              ∙ k.shown x (live_left s k.formed v alone x i).0 ∙ sym (shows_left s k.formed v alone x i);
          loose = ap (λ (n : Named). n.loose) d.named ∙ d.drops.loose ∙ ap (filter (λ x. not (is_it (Node v) x))) k.loose;
          nodes = λ i. elim (nat_tells i v) [
            | inl y ↦ subst (IsNode (node_out v s) i) (sym (got_none i y.1)) (λ h. (left_node s k.formed v alone i h).1 y.1)
            | inr n ↦ subst (IsNode (node_out v s) i) (sym (got_else i n.1)) (cell_left i (map.get p i) n.1 (k.nodes i))
          ];
          edges = λ i. edge_kept s (node_out v s) i (map.get q i) refl refl refl refl refl (k.edges i);
          headed = λ e. ap (filter (λ i. not (i == v))) (k.headed e);
          few_heads = omega (arith, fewer, heads, same, few_heads);
          few_members = omega (arith, fewer, members, less, few_members);
          counted = (omega (arith, fewer, shorter, counted), k.counted.1);
          formed = formed_alone s k.formed v alone here;
          rise = k.rise;
        }

    pub kept_vacated : IsKept (without_node v s) u top p' q
    kept_vacated = subst (λ z. IsKept z u top p' q) (sym (without_alone v s alone)) kept_alone
