-- A new node: the cells and the lists say what the state says.
use Rattle.std.proofs.Common.{◌≡◌, ℕ, ◌+◌, ◌*◌, ◌<◌, ◌≤◌, ◌==◌, false, cond, not, List, [], ◌∷◌, ◌++◌, length, Option, Some, None, option_map, refl, sym, ap, subst, ◌∙◌, inl, inr, arith, length-append}
use Rattle.std.specs.Prelude.{OnOk, Result, Ok, Err}
use Rattle.std.specs.Result.{is_err}
use Rattle.std.specs.FinMap as map
use Rattle.std.specs.FinSet as set
use Rattle.item_pool.specs.Contents.{Contents}
use Rattle.item_pool.specs.declared.pool.Item.{Item}
use Rattle.graph_state.specs.declared.name.ListName.{ListName}
use Rattle.graph_state.specs.declared.name.ListName.TheVariants.{Nodes, Edges, Out, In}
use Rattle.graph_state.specs.declared.name.Element.{Element}
use Rattle.graph_state.specs.declared.name.Element.TheVariants.{Node, Edge, End}
use Rattle.graph_state.specs.State.{GraphState}
use Rattle.graph_state.specs.Names.{Has, shows, IsLive, same_element, same_list, without}
use Rattle.graph_state.specs.Formed.{IsLabel}
use Rattle.graph_state.specs.Edits.{with_node}
use Rattle.graph_state.specs.Refusals.{NodeRoom}
use Rattle.graph_state.proofs.Has.{some_or_none, none_some, has_left, has_right, has_last}
use Rattle.graph_state.proofs.Same.{nat_tells}
use Rattle.graph_state.proofs.Maps.{put_here, put_else, len_put}
use Rattle.graph_state.proofs.Lists.{one}
use Rattle.graph_state.proofs.Added.{node_fresh, edge_fresh, new_node_unhidden, new_lists, node_either, node_shows, formed_node}
use Rattle.graph_lists.specs.Named.{Lists, Named, head_at, hook_at, list_at, shows_at, pushed, hooked, listed}
use Rattle.graph_core.specs.declared.cell.Heads.{Heads}
use Rattle.graph_core.specs.declared.cell.NodeCell.{NodeCell}
use Rattle.graph_core.specs.declared.cell.EdgeCell.{EdgeCell}
use Rattle.graph_core.specs.Kept.{NodeCells, EdgeCells, heads_of, hook_of, IsNodeCell, IsNode, IsEdge, top_heads, Rises, IsKept}
use Rattle.graph_core.specs.Steps.{Comes, Opens, CanEnterNode, EntersNode}
use Rattle.graph_core.proofs.Kept.{node_cell, edge_cell}
use Rattle.graph_core.proofs.Names.{pushed_list, taken, shows_hooked, shows_else}

-- the cell of a node stays right where its columns stay
pub node_kept : (s t : GraphState) (v : ℕ) (o : Option NodeCell) → t.nodes ≡ s.nodes → t.node_labels ≡ s.node_labels → t.hidden_nodes ≡ s.hidden_nodes → IsNode s v o → IsNode t v o
node_kept s t v None nodes labels hidden i = λ j. i (subst (Has v) nodes j)
node_kept s t v (Some c) nodes labels hidden i = record {
  listed = subst (Has v) (sym nodes) i.listed;
  label = ap (λ m. map.get m v) labels ∙ i.label;
  hidden = i.hidden ∙ sym (ap (λ h. set.contains h v) hidden);
}

pub edge_kept : (s t : GraphState) (e : ℕ) (o : Option EdgeCell) → t.edges ≡ s.edges → t.ends ≡ s.ends → t.edge_labels ≡ s.edge_labels → t.reversals ≡ s.reversals → t.hidden_edges ≡ s.hidden_edges → IsEdge s e o → IsEdge t e o
edge_kept s t e None edges ends labels reversals hidden i = λ j. i (subst (Has e) edges j)
edge_kept s t e (Some c) edges ends labels reversals hidden i = record {
  listed = subst (Has e) (sym edges) i.listed;
  ends = ap (λ m. map.get m e) ends ∙ i.ends;
  label = ap (λ m. map.get m e) labels ∙ i.label;
  reversal = ap (λ m. map.get m e) reversals ∙ i.reversal;
  hidden = i.hidden ∙ sym (ap (λ h. set.contains h e) hidden);
}

module _ (s : GraphState) (t : Lists) (top : Option Heads) (p : NodeCells) (q : EdgeCells) (k : IsKept s t top p q) where
  -- the next numbers have no cells
  pub fresh_node : map.get p (s.made_nodes + 1) ≡ None
  fresh_node = elim (some_or_none (map.get p (s.made_nodes + 1))) [ inl n ↦ n | inr c ↦ absurd (node_fresh s k.formed (node_cell s t top p q k (s.made_nodes + 1) c.0 c.1).listed) ]

  pub fresh_edge : map.get q (s.made_edges + 1) ≡ None
  fresh_edge = elim (some_or_none (map.get q (s.made_edges + 1))) [ inl n ↦ n | inr c ↦ absurd (edge_fresh s k.formed (edge_cell s t top p q k (s.made_edges + 1) c.0 c.1).listed) ]

  -- the heads of the two lists are made
  module _ (u : Lists) (after : Option Heads) where
    open_heads : (c : Comes t u after) → top ≡ None → (l : ListName) → head_at u.named l ≡ heads_of after p l
    open_heads c none Nodes = ap (λ n. head_at n Nodes) c.named ∙ sym (ap (option_map (λ (h : Heads). h.nodes)) c.heads)
    open_heads c none Edges = ap (λ n. head_at n Edges) c.named ∙ sym (ap (option_map (λ (h : Heads). h.edges)) c.heads)
    open_heads c none (Out v) = ap (λ n. head_at n (Out v)) c.named ∙ k.heads (Out v)
    open_heads c none (In v) = ap (λ n. head_at n (In v)) c.named ∙ k.heads (In v)

    kept_come : Comes t u after → top ≡ None → IsKept s u after p q
    kept_come c none = record {
      heads = open_heads c none;
      hooks = λ x. ap (λ n. hook_at n x) c.named ∙ k.hooks x;
      lists = λ l. ap (λ n. list_at n l) c.named ∙ k.lists l;
      shown = λ x i. ap (λ n. shows_at n x) c.named ∙ k.shown x i;
      loose = ap (λ (n : Named). n.loose) c.named ∙ k.loose;
      nodes = k.nodes;
      edges = k.edges;
      headed = λ e. absurd (none_some (sym e ∙ c.heads));
      few_heads =
          let few = subst (λ o. t.heads ≤ top_heads o + 4 * map.len p) none k.few_heads in
          let more = c.more in
          subst (λ o. u.heads ≤ top_heads o + 4 * map.len p) (sym c.heads) (omega (arith, few, more));
      few_members = subst (λ n. n ≤ 2 * map.len p + 6 * map.len q) (sym c.members.0) k.few_members;
      counted = k.counted;
      formed = k.formed;
      rise = k.rise;
    }

    opens_at : (o : Option Heads) → top ≡ o → Opens t u o after → IsKept s u after p q
    opens_at None e c = kept_come c e
    opens_at (Some h) e c = subst (λ a. IsKept s u a p q) (e ∙ sym c.1) (subst (λ u. IsKept s u top p q) (sym c.0) k)

    pub kept_open : Opens t u top after → IsKept s u after p q
    kept_open = opens_at top refl

-- what holds of a result that is no failure
pub ok_then : {A E : Type 0} (r : Result A E) (P : Type 0) → is_err r ≡ false → OnOk r P → P
ok_then (Ok x) P e h = h
ok_then (Err x) P e h = cc

-- opening the lists leaves room for four heads more
pub room_left : (t u : Lists) (top after : Option Heads) → Opens t u top after → 8 ≤ t.spare_heads → (4 ≤ u.spare_heads) × (u.spare_members ≡ t.spare_members)
room_left t u None after c enough = let spare = c.spare in (omega (arith, spare, enough), c.members.1)
room_left t u (Some h) after c enough = (subst (λ (u : Lists). 4 ≤ u.spare_heads) (sym c.0) (omega (arith, enough)), ap (λ (u : Lists). u.spare_members) c.0)

module _ (s : GraphState) (t : Lists) (h : Heads) (pool : Contents NodeCell) (q : EdgeCells) (k : IsKept s t (Some h) pool.live q) (made : pool.made ≡ s.made_nodes) where
  pub can_enter_node : NodeRoom s → 4 ≤ t.spare_heads → 2 ≤ t.spare_members → 0 < pool.spare → CanEnterNode t pool h.nodes
  can_enter_node room heads members spare =
      let few : map.len pool.live ≤ 100000 = subst (λ n. n ≤ 100000) (sym k.counted.0) k.formed.few.0 in
      let many : map.len q ≤ 400000 = subst (λ n. n ≤ 400000) (sym k.counted.1) k.formed.few.1 in
      let few_heads = k.few_heads in
      let few_members = k.few_members in
      let fresh : map.get pool.live (pool.made + 1) ≡ None = ap (λ n. map.get pool.live (n + 1)) made ∙ fresh_node s t (Some h) pool.live q k in
      record {
        heads = (heads, omega (arith, few, few_heads));
        members = (members, omega (arith, few, many, few_members));
        pool = (spare, subst (λ n. n < 16777215) (sym made) room.more);
        no_outs = k.heads (Out (pool.made + 1)) ∙ ap (option_map (λ (c : NodeCell). c.outs)) fresh;
        no_ins = k.heads (In (pool.made + 1)) ∙ ap (option_map (λ (c : NodeCell). c.ins)) fresh;
        no_hook = k.hooks (Node (pool.made + 1)) ∙ ap (option_map (λ (c : NodeCell). c.hook)) fresh;
        nodes = k.heads Nodes;
      }

  module _ (u : Lists) (after : Contents NodeCell) (label : List ℕ) (it : Item) (e : EntersNode t u pool after h.nodes label it) where
    abbrev cell : NodeCell
    cell = record { label = label; is_hidden = false; hook = e.hook; outs = e.outs; ins = e.ins }

    abbrev node_named : ℕ → Named
    node_named n = pushed Nodes (Node n) (hooked (Node n) e.hook (listed (In n) e.ins (listed (Out n) e.outs t.named)))

    named : u.named ≡ node_named (s.made_nodes + 1)
    named = e.named ∙ ap (λ n. node_named (n + 1)) made

    live : after.live ≡ map.insert pool.live (s.made_nodes + 1) cell
    live = e.inserts.live ∙ ap (λ n. map.insert pool.live (n + 1) cell) made

    got_here : (v : ℕ) → v ≡ s.made_nodes + 1 → map.get after.live v ≡ Some cell
    got_here v i = ap (λ m. map.get m v) live ∙ put_here pool.live (s.made_nodes + 1) cell v i

    got_else : (v : ℕ) → (v ≡ s.made_nodes + 1 → ⊥) → map.get after.live v ≡ map.get pool.live v
    got_else v ne = ap (λ m. map.get m v) live ∙ put_else pool.live (s.made_nodes + 1) cell v ne

    -- an entry of a new node, and of the others
    by_node : {X : Type 0} (f : NodeCell → X) (x : X) (o : Option X) (v : ℕ) → f cell ≡ x → o ≡ option_map f (map.get pool.live v) → cond (s.made_nodes + 1 == v) (Some x) o ≡ option_map f (map.get after.live v)
    by_node f x o v here else = elim (nat_tells (s.made_nodes + 1) v) [
      | inl y ↦ ap (λ b. cond b (Some x) o) y.0 ∙ ap Some (sym here) ∙ sym (ap (option_map f) (got_here v (sym y.1)))
      | inr n ↦ ap (λ b. cond b (Some x) o) n.0 ∙ else ∙ sym (ap (option_map f) (got_else v (λ i. n.1 (sym i))))
    ]

    node_heads : (l : ListName) → head_at u.named l ≡ heads_of (Some h) after.live l
    node_heads Nodes = ap (λ n. head_at n Nodes) named ∙ k.heads Nodes
    node_heads Edges = ap (λ n. head_at n Edges) named ∙ k.heads Edges
    node_heads (Out v) = ap (λ n. head_at n (Out v)) named ∙ by_node (λ (c : NodeCell). c.outs) e.outs (head_at t.named (Out v)) v refl (k.heads (Out v))
    node_heads (In v) = ap (λ n. head_at n (In v)) named ∙ by_node (λ (c : NodeCell). c.ins) e.ins (head_at t.named (In v)) v refl (k.heads (In v))

    node_hooks : (x : Element) → hook_at u.named x ≡ hook_of after.live q x
    node_hooks (Node v) = ap (λ n. hook_at n (Node v)) named ∙ by_node (λ (c : NodeCell). c.hook) e.hook (hook_at t.named (Node v)) v refl (k.hooks (Node v))
    node_hooks (Edge i) = ap (λ n. hook_at n (Edge i)) named ∙ k.hooks (Edge i)
    node_hooks (End d) = ap (λ n. hook_at n (End d)) named ∙ k.hooks (End d)

    shown_old : (x : Element) → IsLive s x → shows_at u.named x ≡ shows (with_node label s) x
    shown_old x i =
        ap (λ n. shows_at n x) named
        ∙ shows_else (Node (s.made_nodes + 1)) e.hook (listed (In (s.made_nodes + 1)) e.ins (listed (Out (s.made_nodes + 1)) e.outs t.named)) x (λ n. node_fresh s k.formed (subst (IsLive s) n i))
        ∙ k.shown x i ∙ sym (node_shows s k.formed label x)

    shown_new : shows_at u.named (Node (s.made_nodes + 1)) ≡ shows (with_node label s) (Node (s.made_nodes + 1))
    shown_new =
        ap (λ n. shows_at n (Node (s.made_nodes + 1))) named
        ∙ shows_hooked (Node (s.made_nodes + 1)) e.hook (listed (In (s.made_nodes + 1)) e.ins (listed (Out (s.made_nodes + 1)) e.outs t.named))
        ∙ sym (node_shows s k.formed label (Node (s.made_nodes + 1)) ∙ ap not (new_node_unhidden s k.formed))

    new_cell : (v : ℕ) → v ≡ s.made_nodes + 1 → IsNodeCell (with_node label s) v cell
    unfolding with_node
    new_cell v n = record {
      listed = has_right v s.nodes ((s.made_nodes + 1) ∷ []) (inl n);
      label = put_here s.node_labels (s.made_nodes + 1) label v n;
      hidden = sym (ap (set.contains s.hidden_nodes) n ∙ new_node_unhidden s k.formed);
    }

    old_cell : (v : ℕ) (o : Option NodeCell) → (v ≡ s.made_nodes + 1 → ⊥) → IsNode s v o → IsNode (with_node label s) v o
    unfolding with_node
    old_cell v None ne i = λ j. elim (has_last v (s.made_nodes + 1) s.nodes j) [ inl a ↦ i a | inr n ↦ ne n ]
    old_cell v (Some c) ne i = record {
      listed = has_left v s.nodes ((s.made_nodes + 1) ∷ []) i.listed;
      label = put_else s.node_labels (s.made_nodes + 1) label v ne ∙ i.label;
      hidden = i.hidden;
    }

    edges_kept : (i : ℕ) → IsEdge (with_node label s) i (map.get q i)
    unfolding with_node
    edges_kept i = edge_kept s (with_node label s) i (map.get q i) refl refl refl refl refl (k.edges i)

    long_nodes : length (with_node label s).nodes ≡ length s.nodes + 1
    unfolding with_node
    long_nodes = length-append s.nodes ((s.made_nodes + 1) ∷ [])

    long_edges : length (with_node label s).edges ≡ length s.edges
    unfolding with_node
    long_edges = refl

    rise_kept : Rises (with_node label s).edges
    unfolding with_node
    rise_kept = k.rise

    pub kept_node : IsLabel label → NodeRoom s → IsKept (with_node label s) u (Some h) after.live q
    kept_node lab room =
        let more : map.len after.live ≡ map.len pool.live + 1 = ap map.len live ∙ len_put pool.live (s.made_nodes + 1) cell (fresh_node s t (Some h) pool.live q k) in
        let heads = e.heads in
        let members = e.members in
        let few_heads = k.few_heads in
        let few_members = k.few_members in
        record {
          heads = node_heads;
          hooks = node_hooks;
          lists = λ l. ap (λ n. list_at n l) named ∙ pushed_list Nodes (Node (s.made_nodes + 1)) (hooked (Node (s.made_nodes + 1)) e.hook (listed (In (s.made_nodes + 1)) e.ins (listed (Out (s.made_nodes + 1)) e.outs t.named))) l
              ∙ ap (λ xs. xs ++ one (same_list Nodes l) (Node (s.made_nodes + 1))) (k.lists l) ∙ sym (new_lists s k.formed label l);
          shown = λ x i. elim (node_either s k.formed label x i) [
            | inl j ↦ shown_old x j
            | inr n ↦ subst (λ x. shows_at u.named x ≡ shows (with_node label s) x) (sym n) shown_new
          ];
          loose = ap (λ (n : Named). n.loose) named ∙ taken (Node (s.made_nodes + 1)) t.named.loose ∙ ap (without same_element (Node (s.made_nodes + 1))) k.loose;
          nodes = λ v. elim (nat_tells v (s.made_nodes + 1)) [
            | inl y ↦ subst (IsNode (with_node label s) v) (sym (got_here v y.1)) (new_cell v y.1)
            | inr n ↦ subst (IsNode (with_node label s) v) (sym (got_else v n.1)) (old_cell v (map.get pool.live v) n.1 (k.nodes v))
          ];
          edges = edges_kept;
          headed = λ i. absurd (none_some (sym i));
          few_heads = omega (arith, more, heads, few_heads);
          few_members = omega (arith, more, members, few_members);
          counted = (more ∙ ap (λ n. n + 1) k.counted.0 ∙ sym long_nodes, k.counted.1 ∙ sym long_edges);
          formed = formed_node s k.formed label lab room.few room.more;
          rise = rise_kept;
        }
