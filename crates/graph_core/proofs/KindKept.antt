-- A graph of the other kind: the cells and the lists say what the state says.
use Rattle.std.proofs.Common.{◌≡◌, ℕ, ◌+◌, ◌*◌, ◌≤◌, Bool, true, false, not, List, [], ◌++◌, length, Option, None, option_map, refl, sym, ap, subst, ◌∙◌, inl, inr}
use Rattle.std.proofs.Common as list
use Rattle.std.specs.FinMap as map
use Rattle.item_pool.specs.Contents.{Contents}
use Rattle.graph_state.specs.declared.name.ListName.{ListName}
use Rattle.graph_state.specs.declared.name.ListName.TheVariants.{Nodes, Edges, Out, In}
use Rattle.graph_state.specs.declared.name.Element.{Element}
use Rattle.graph_state.specs.declared.name.Element.TheVariants.{Node, Edge, End}
use Rattle.graph_state.specs.State.{GraphState}
use Rattle.graph_state.specs.Names.{Has, number, list_of, IsLive, back_row, same_list, same_element}
use Rattle.graph_state.specs.Turned.{kind_changed}
use Rattle.graph_state.proofs.Added.{bare_out, bare_in}
use Rattle.graph_state.proofs.Each.{has_or_not}
use Rattle.graph_state.proofs.OtherKind.{ChangesKind, changes_kind}
use Rattle.graph_lists.specs.Named.{Lists, list_at, SameRoom}
use Rattle.graph_lists.specs.Table.{look}
use Rattle.graph_core.specs.declared.cell.Heads.{Heads}
use Rattle.graph_core.specs.declared.cell.NodeCell.{NodeCell}
use Rattle.graph_core.specs.declared.cell.EdgeCell.{EdgeCell}
use Rattle.graph_core.specs.Kept.{NodeCells, EdgeCells, top_heads, Rises, IsKept}
use Rattle.graph_core.specs.Gathers.{stay, go, from_list, to_list, GathersAll, CanGatherAll}
use Rattle.graph_core.proofs.Kept.{out_head, in_head}
use Rattle.graph_core.proofs.Found.{node_numbers}
use Rattle.graph_core.proofs.Nodes.{node_kept, edge_kept}
use Rattle.graph_core.proofs.Remarked.{nodes_as_before}
use Rattle.graph_core.proofs.Showing.{all_tokens}
use Rattle.graph_core.proofs.Turning.{has_cells}

-- what there is to change the kind by
pub can_gather : (s : GraphState) (t : Lists) (top : Option Heads) (p : Contents NodeCell) (q : Contents EdgeCell) → IsKept s t top p.live q.live → (p.made ≡ s.made_nodes) × (q.made ≡ s.made_edges) → CanGatherAll t p q top
can_gather s t top p q k made = record {
  each = record {
    outs = λ v c at. out_head s t top p.live q.live k v c at;
    ins = λ v c at. in_head s t top p.live q.live k v c at;
    loose = k.loose;
    tokens = all_tokens s t top p.live q k p s.hidden_nodes (nodes_as_before s t top p.live q.live k);
  };
  nodes = (has_cells s t top p q k made).nodes;
  none = λ e. k.lists Nodes ∙ ap (list.map Node) (k.headed e);
}

-- one flag or the other
either_row : (P : Bool → Type 0) (d b : Bool) → P d → P (not d) → P b
either_row P true true p q = p
either_row P true false p q = q
either_row P false true p q = q
either_row P false false p q = p

module _ (s : GraphState) (t : Lists) (top : Option Heads) (p : NodeCells) (q : EdgeCells) (k : IsKept s t top p q) (u : Lists) (g : GathersAll t.named u.named s.directed (list.map number (list_at t.named Nodes))) where
  abbrev z : GraphState
  z = kind_changed s

  abbrev nodes_of : List ℕ
  nodes_of = list.map number (list_at t.named Nodes)

  all_nodes : nodes_of ≡ s.nodes
  all_nodes = ap (list.map number) (k.lists Nodes) ∙ node_numbers s.nodes

  changes : ChangesKind s z
  changes = changes_kind s k.formed

  bare_row : (b : Bool) (v : ℕ) → (Has v nodes_of → ⊥) → list_of s (back_row b v) ≡ []
  bare_row true v out = ap (list.map End) (bare_in s k.formed v (λ i. out (subst (Has v) (sym all_nodes) i)))
  bare_row false v out = ap (list.map End) (bare_out s k.formed v (λ i. out (subst (Has v) (sym all_nodes) i)))

  from_is : (v : ℕ) → list_at u.named (from_list s.directed v) ≡ list_of z (from_list s.directed v)
  from_is v = elim (has_or_not v nodes_of) [
    | inl i ↦ g.left v i ∙ ap stay (k.lists (from_list s.directed v)) ∙ sym (changes.from v)
    | inr out ↦ g.else_left v out ∙ k.lists (from_list s.directed v) ∙ bare_row s.directed v out ∙ sym (changes.from v ∙ ap stay (bare_row s.directed v out))
  ]

  to_is : (v : ℕ) → list_at u.named (to_list s.directed v) ≡ list_of z (to_list s.directed v)
  to_is v = elim (has_or_not v nodes_of) [
    | inl i ↦ g.gone v i ∙ (λ j. k.lists (to_list s.directed v) j ++ go (k.lists (from_list s.directed v) j)) ∙ sym (changes.to v)
    | inr out ↦ g.else_gone v out ∙ k.lists (to_list s.directed v) ∙ bare_row (not s.directed) v out
        ∙ sym (changes.to v ∙ (λ j. bare_row (not s.directed) v out j ++ go (bare_row s.directed v out j)))
  ]

  row_is : (b : Bool) (v : ℕ) → list_at u.named (back_row b v) ≡ list_of z (back_row b v)
  row_is b v = either_row (λ b. list_at u.named (back_row b v) ≡ list_of z (back_row b v)) s.directed b (from_is v) (to_is v)

  lists_are : (l : ListName) → list_at u.named l ≡ list_of z l
  lists_are Nodes = g.nodes ∙ k.lists Nodes ∙ ap (list.map Node) (sym changes.nodes)
  lists_are Edges = g.edges ∙ k.lists Edges ∙ ap (list.map Edge) (sym changes.edges)
  lists_are (Out v) = row_is false v
  lists_are (In v) = row_is true v

  live_before : (x : Element) → IsLive z x → IsLive s x
  live_before (Node v) i = subst (Has v) changes.nodes i
  live_before (Edge e) i = subst (Has e) changes.edges i
  live_before (End d) i = subst (Has d.edge) changes.edges i

  pub kept_changed : SameRoom t u → IsKept z u top p q
  kept_changed room = record {
    heads = λ l. ap (λ hs. look same_list None hs l) g.keeps.heads ∙ k.heads l;
    hooks = λ x. ap (λ ps. look same_element None ps x) g.keeps.hooks ∙ k.hooks x;
    lists = lists_are;
    shown = λ x i. ap (λ bs. look same_element false bs x) g.keeps.shown ∙ k.shown x (live_before x i) ∙ sym (changes.shown x);
    loose = g.keeps.loose;
    nodes = λ v. node_kept s z v (map.get p v) changes.nodes changes.node_labels changes.hidden_nodes (k.nodes v);
    edges = λ e. edge_kept s z e (map.get q e) changes.edges changes.ends changes.edge_labels changes.reversals changes.hidden_edges (k.edges e);
    headed = λ e. changes.nodes ∙ k.headed e;
    few_heads = subst (λ n. n ≤ top_heads top + 4 * map.len p) (sym room.heads) k.few_heads;
    few_members = subst (λ n. n ≤ 2 * map.len p + 6 * map.len q) (sym room.members) k.few_members;
    counted = (k.counted.0 ∙ ap length (sym changes.nodes), k.counted.1 ∙ ap length (sym changes.edges));
    formed = changes.formed;
    rise = subst Rises (sym changes.edges) k.rise;
  }
