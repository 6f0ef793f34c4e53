-- A node or an edge with another label: the cells say what the state says.
use Rattle.std.proofs.Common.{◌≡◌, ℕ, ◌≤◌, Bool, true, false, List, Option, Some, None, refl, sym, subst, ◌∙◌, inl, inr}
use Rattle.std.specs.Ordering.{nat_cmp}
use Rattle.std.specs.FinMap as map
use Rattle.item_pool.specs.Contents.{Contents, HasLive}
use Rattle.graph_state.specs.declared.name.ListName.{ListName}
use Rattle.graph_state.specs.declared.name.ListName.TheVariants.{Nodes, Edges, Out, In}
use Rattle.graph_state.specs.declared.name.Element.{Element}
use Rattle.graph_state.specs.declared.name.Element.TheVariants.{Node, Edge, End}
use Rattle.graph_state.specs.State.{GraphState}
use Rattle.graph_state.specs.Names.{Has}
use Rattle.graph_state.specs.Formed.{IsLabel}
use Rattle.graph_state.specs.Edits.{with_node_label, with_edge_label}
use Rattle.graph_state.proofs.Same.{nat_tells}
use Rattle.graph_state.proofs.Maps.{put_here, put_else, len_kept}
use Rattle.graph_state.proofs.Columns.{labels_put, part_put, formed_labels}
use Rattle.graph_lists.specs.Named.{Lists}
use Rattle.graph_core.specs.declared.cell.Heads.{Heads}
use Rattle.graph_core.specs.declared.cell.NodeCell.{NodeCell}
use Rattle.graph_core.specs.declared.cell.EdgeCell.{EdgeCell}
use Rattle.graph_core.specs.Kept.{NodeCells, EdgeCells, heads_of, hook_of, end_hook, IsNode, IsNodeCell, IsEdge, IsEdgeCell, IsKept}
use Rattle.graph_core.proofs.Kept.{node_cell, has_node, edge_cell}
use Rattle.graph_core.proofs.Pairs.{kept_columns}

-- a listed node has a cell in the pool
pub live_node : (s : GraphState) (t : Lists) (top : Option Heads) (pool : Contents NodeCell) (q : EdgeCells) → IsKept s t top pool.live q → pool.made ≡ s.made_nodes → (v : ℕ) → Has v s.nodes → HasLive pool v
live_node s t top pool q k made v i =
    let c = has_node s t top pool.live q k v i in
    let g = k.formed.given_nodes v i in
    (c.0, (c.1, g.0, subst (λ n. v ≤ n) (sym made) g.1))

module _ (s : GraphState) (t : Lists) (top : Option Heads) (p : NodeCells) (q : EdgeCells) (k : IsKept s t top p q) where
  module _ (v : ℕ) (c : NodeCell) (at : map.get p v ≡ Some c) (label : List ℕ) where
    abbrev node_labels : map.FinMap nat_cmp (List ℕ)
    node_labels = map.insert s.node_labels v label

    abbrev node_state : GraphState
    node_state = record s { node_labels = node_labels }

    node_after : NodeCells
    node_after = map.insert p v (record c { label = label })

    node_heads : (l : ListName) → heads_of top (map.insert p v (record c { label = label })) l ≡ heads_of top p l
    node_heads Nodes = refl
    node_heads Edges = refl
    node_heads (Out i) = part_put (λ (c : NodeCell). c.outs) p v c (record c { label = label }) at refl i
    node_heads (In i) = part_put (λ (c : NodeCell). c.ins) p v c (record c { label = label }) at refl i

    node_hooks : (x : Element) → hook_of (map.insert p v (record c { label = label })) q x ≡ hook_of p q x
    node_hooks (Node i) = part_put (λ (c : NodeCell). c.hook) p v c (record c { label = label }) at refl i
    node_hooks (Edge e) = refl
    node_hooks (End d) = refl

    new_node : (i : ℕ) → i ≡ v → IsNodeCell node_state i (record c { label = label })
    new_node i n = let j = subst (λ i. IsNodeCell s i c) (sym n) (node_cell s t top p q k v c at) in
        record { listed = j.listed; label = put_here s.node_labels v label i n; hidden = j.hidden }

    old_node : (i : ℕ) (o : Option NodeCell) → (i ≡ v → ⊥) → IsNode s i o → IsNode node_state i o
    old_node i None ne j = j
    old_node i (Some d) ne j = record { listed = j.listed; label = put_else s.node_labels v label i ne ∙ j.label; hidden = j.hidden }

    same_edge : (i : ℕ) (o : Option EdgeCell) → IsEdge s i o → IsEdge node_state i o
    same_edge i None j = j
    same_edge i (Some d) j = record { listed = j.listed; ends = j.ends; label = j.label; reversal = j.reversal; hidden = j.hidden }

    pub kept_node_label : (after : NodeCells) → after ≡ map.insert p v (record c { label = label }) → IsLabel label → IsKept (with_node_label v label s) t top after q
    unfolding with_node_label
    kept_node_label after is lab = subst (λ m. IsKept node_state t top m q) (sym is) (kept_columns s t top p q k s.reversals node_labels s.edge_labels (map.insert p v (record c { label = label })) q
        node_heads node_hooks (len_kept p v (record c { label = label }) c at) refl
        (λ i. elim (nat_tells i v) [
          | inl y ↦ subst (IsNode node_state i) (sym (put_here p v (record c { label = label }) i y.1)) (new_node i y.1)
          | inr n ↦ subst (IsNode node_state i) (sym (put_else p v (record c { label = label }) i n.1)) (old_node i (map.get p i) n.1 (k.nodes i))
        ])
        (λ i. same_edge i (map.get q i) (k.edges i))
        (formed_labels s k.formed node_labels s.edge_labels (labels_put s.node_labels v label lab k.formed.node_labels) k.formed.edge_labels))

  module _ (e : ℕ) (c : EdgeCell) (at : map.get q e ≡ Some c) (label : List ℕ) where
    abbrev edge_labels : map.FinMap nat_cmp (List ℕ)
    edge_labels = map.insert s.edge_labels e label

    abbrev edge_state : GraphState
    edge_state = record s { edge_labels = edge_labels }

    end_same : (g : Bool) → end_hook g (record c { label = label }) ≡ end_hook g c
    end_same true = refl
    end_same false = refl

    edge_hooks : (x : Element) → hook_of p (map.insert q e (record c { label = label })) x ≡ hook_of p q x
    edge_hooks (Node i) = refl
    edge_hooks (Edge i) = part_put (λ (c : EdgeCell). c.hook) q e c (record c { label = label }) at refl i
    edge_hooks (End d) = part_put (end_hook d.back) q e c (record c { label = label }) at (end_same d.back) d.edge

    new_edge : (i : ℕ) → i ≡ e → IsEdgeCell edge_state i (record c { label = label })
    new_edge i n = let j = subst (λ i. IsEdgeCell s i c) (sym n) (edge_cell s t top p q k e c at) in
        record { listed = j.listed; ends = j.ends; label = put_here s.edge_labels e label i n; reversal = j.reversal; hidden = j.hidden }

    old_edge : (i : ℕ) (o : Option EdgeCell) → (i ≡ e → ⊥) → IsEdge s i o → IsEdge edge_state i o
    old_edge i None ne j = j
    old_edge i (Some d) ne j = record { listed = j.listed; ends = j.ends; label = put_else s.edge_labels e label i ne ∙ j.label; reversal = j.reversal; hidden = j.hidden }

    same_node : (i : ℕ) (o : Option NodeCell) → IsNode s i o → IsNode edge_state i o
    same_node i None j = j
    same_node i (Some d) j = record { listed = j.listed; label = j.label; hidden = j.hidden }

    pub kept_edge_label : (after : EdgeCells) → after ≡ map.insert q e (record c { label = label }) → IsLabel label → IsKept (with_edge_label e label s) t top p after
    unfolding with_edge_label
    kept_edge_label after is lab = subst (λ m. IsKept edge_state t top p m) (sym is) (kept_columns s t top p q k s.reversals s.node_labels edge_labels p (map.insert q e (record c { label = label }))
        (λ l. refl) edge_hooks refl (len_kept q e (record c { label = label }) c at)
        (λ i. same_node i (map.get p i) (k.nodes i))
        (λ i. elim (nat_tells i e) [
          | inl y ↦ subst (IsEdge edge_state i) (sym (put_here q e (record c { label = label }) i y.1)) (new_edge i y.1)
          | inr n ↦ subst (IsEdge edge_state i) (sym (put_else q e (record c { label = label }) i n.1)) (old_edge i (map.get q i) n.1 (k.edges i))
        ])
        (formed_labels s k.formed s.node_labels edge_labels k.formed.node_labels (labels_put s.edge_labels e label lab k.formed.edge_labels)))
