-- An edge that is restored: what there is to show it by, and what shows then.
use Rattle.std.proofs.Common.{◌≡◌, ℕ, Bool, true, false, cond, not, ◌&&◌, Option, Some, None, option_map, refl, sym, ap, subst, ◌∙◌}
use Rattle.std.specs.Ordering.{nat_cmp}
use Rattle.std.specs.FinMap as map
use Rattle.std.specs.FinSet as set
use Rattle.item_pool.specs.Contents.{Contents}
use Rattle.graph_defs.specs.declared.dart.Dart.{Dart}
use Rattle.graph_state.specs.declared.name.ListName.{ListName}
use Rattle.graph_state.specs.declared.name.ListName.TheVariants.{Nodes, Edges, Out, In}
use Rattle.graph_state.specs.declared.name.Element.{Element}
use Rattle.graph_state.specs.declared.name.Element.TheVariants.{Node, Edge, End}
use Rattle.graph_state.specs.State.{GraphState, front, back, source, ends_of, shows_ends, out_list, in_list}
use Rattle.graph_state.specs.Names.{Has, number, back_row}
use Rattle.graph_state.proofs.Has.{has_map, has_mapped, has_none}
use Rattle.graph_lists.specs.declared.token.ListHead.{ListHead}
use Rattle.graph_lists.specs.Named.{Lists, Named, head_at, hook_at, list_at}
use Rattle.graph_core.specs.declared.cell.Heads.{Heads}
use Rattle.graph_core.specs.declared.cell.NodeCell.{NodeCell}
use Rattle.graph_core.specs.declared.cell.EdgeCell.{EdgeCell}
use Rattle.graph_core.specs.Kept.{NodeCells, end_hook, IsEdgeCell, IsKept}
use Rattle.graph_core.specs.Marks.{IsSame, MarksParts, MarksIf, HasParts, Fits, IsToken, IsNodeToken, IsTokenIn, HasTokens, CanShow, ShowsParts}
use Rattle.graph_core.specs.NodeMarks.{CanTurnAll}
use Rattle.graph_core.proofs.Kept.{node_cell, has_node, edge_cell, has_edge, front_hook, out_head, in_head, from_listed, to_listed, ends_are}
use Rattle.graph_core.proofs.Remarked.{remark_node, AreRemarked}
use Rattle.graph_core.proofs.Hiding.{has_parts}

-- lists and hooks that are as before have the same tokens
module _ (n m : Named) (same : IsSame n m) where
  pub same_list_at : (l : ListName) → list_at m l ≡ list_at n l
  same_list_at l = ap (λ ls. list_at (record n { lists = ls }) l) same.lists

  pub same_hook_at : (x : Element) → hook_at m x ≡ hook_at n x
  same_hook_at x = ap (λ ps. hook_at (record n { hooks = ps }) x) same.hooks

  pub same_head_at : (l : ListName) → head_at m l ≡ head_at n l
  same_head_at l = ap (λ hs. head_at (record n { heads = hs }) l) same.heads

  edge_token_stays : (q : Contents EdgeCell) (l : ListName) (x : Element) → IsToken n q l x → IsToken m q l x
  edge_token_stays q l x t = record { cell = t.cell; live = t.live; hook = same_hook_at x ∙ t.hook; first = same_hook_at (End (front (number x))) ∙ t.first; fits = t.fits }

  token_stays : (p : Contents NodeCell) (q : Contents EdgeCell) (l : ListName) (x : Element) → IsTokenIn n p q l x → IsTokenIn m p q l x
  token_stays p q Nodes x t = record { cell = t.cell; live = t.live; hook = same_hook_at x ∙ t.hook; fits = t.fits }
  token_stays p q Edges x t = edge_token_stays q Edges x t
  token_stays p q (Out v) x t = edge_token_stays q (Out v) x t
  token_stays p q (In v) x t = edge_token_stays q (In v) x t

  pub tokens_stay : (p : Contents NodeCell) (q : Contents EdgeCell) (l : ListName) → HasTokens n p q l → HasTokens m p q l
  tokens_stay p q l all x i = token_stays p q l x (all x (subst (Has x) (same_list_at l) i))

  parts_stay : (e : ℕ) (c : EdgeCell) (edges from row : ListName) → HasParts n e c edges from row → HasParts m e c edges from row
  parts_stay e c edges from row h = record {
    hook = same_hook_at (Edge e) ∙ h.hook;
    first = same_hook_at (End (front e)) ∙ h.first;
    second = same_hook_at (End (back e)) ∙ h.second;
    edge_in = subst (Has (Edge e)) (sym (same_list_at edges)) h.edge_in;
    first_in = subst (Has (End (front e))) (sym (same_list_at from)) h.first_in;
    second_in = subst (Has (End (back e))) (sym (same_list_at row)) h.second_in;
  }

  pub can_still : (p : Contents NodeCell) (q : Contents EdgeCell) (edges : ListHead) (directed : Bool) (e : ℕ) (c : EdgeCell) → CanShow n p q edges directed e c → CanShow m p q edges directed e c
  can_still p q edges directed e c h = record {
    from = h.from;
    to = h.to;
    at_from = h.at_from;
    at_to = h.at_to;
    head = same_head_at Edges ∙ h.head;
    outs = same_head_at (Out c.from) ∙ h.outs;
    ins = same_head_at (back_row directed c.to) ∙ h.ins;
    parts = parts_stay e c Edges (Out c.from) (back_row directed c.to) h.parts;
    tokens = λ l. tokens_stay p q l (h.tokens l);
  }

  pub can_turn_still : (p : Contents NodeCell) (q : Contents EdgeCell) (edges : ListHead) (directed : Bool) (l : ListName) → CanTurnAll n p q edges directed l → CanTurnAll m p q edges directed l
  can_turn_still p q edges directed l all x i =
      let h = all x (subst (Has x) (same_list_at l) i) in
      (h.0, (h.1.0, can_still p q edges directed (number x) h.0 h.1.1))

module _ (s : GraphState) (t : Lists) (top : Option Heads) (p : NodeCells) (q : Contents EdgeCell) (k : IsKept s t top p q.live) where
  edge_token : (i : ℕ) → Has i s.edges → IsToken t.named q Edges (Edge i)
  edge_token i has =
      let c = has_edge s t top p q.live k i has in
      record { cell = c.0; live = c.1; hook = k.hooks (Edge i) ∙ ap (option_map (λ (c : EdgeCell). c.hook)) c.1; first = front_hook s t top p q.live k i c.0 c.1; fits = tt }

  dart_token : (l : ListName) (d : Dart) → Has d.edge s.edges → Fits l (End d) → IsToken t.named q l (End d)
  dart_token l d has fits =
      let c = has_edge s t top p q.live k d.edge has in
      record { cell = c.0; live = c.1; hook = k.hooks (End d) ∙ ap (option_map (end_hook d.back)) c.1; first = front_hook s t top p q.live k d.edge c.0 c.1; fits = fits }

  -- without the heads there are no nodes and no edges
  pub some_nodes : (v : ℕ) → Has v s.nodes → top ≡ None → ⊥
  some_nodes v i n = has_none s.nodes (k.headed n) v i

  pub some_top : (e : ℕ) → Has e s.edges → top ≡ None → ⊥
  some_top e i n = some_nodes (source s e) (k.formed.ends e i).0 n

  -- the cells of nodes may have other marks
  module _ (p' : Contents NodeCell) (vs : set.FinSet nat_cmp) (nodes : AreRemarked remark_node vs p p'.live) where
    pub remarked_at : (v : ℕ) (c : NodeCell) → map.get p v ≡ Some c → map.get p'.live v ≡ Some (remark_node (set.contains vs v) c)
    remarked_at v c i = nodes v ∙ ap (option_map (remark_node (set.contains vs v))) i

    node_token : (v : ℕ) → Has v s.nodes → IsNodeToken t.named p' (Node v)
    node_token v has =
        let c = has_node s t top p q.live k v has in
        record { cell = remark_node (set.contains vs v) c.0; live = remarked_at v c.0 c.1; hook = k.hooks (Node v) ∙ ap (option_map (λ (c : NodeCell). c.hook)) c.1; fits = refl }

    pub all_tokens : (l : ListName) → HasTokens t.named p' q l
    all_tokens Nodes x i =
        let h = has_mapped Node x s.nodes (subst (Has x) (k.lists Nodes) i) in
        subst (IsNodeToken t.named p') (sym h.1.1) (node_token h.0 h.1.0)
    all_tokens Edges x i =
        let h = has_mapped Edge x s.edges (subst (Has x) (k.lists Edges) i) in
        subst (IsToken t.named q Edges) (sym h.1.1) (edge_token h.0 h.1.0)
    all_tokens (Out v) x i =
        let h = has_mapped End x (out_list s v) (subst (Has x) (k.lists (Out v)) i) in
        subst (IsToken t.named q (Out v)) (sym h.1.1) (dart_token (Out v) h.0 (k.formed.homes (Out v) (End h.0) (has_map End h.0 (out_list s v) h.1.0)).0 tt)
    all_tokens (In v) x i =
        let h = has_mapped End x (in_list s v) (subst (Has x) (k.lists (In v)) i) in
        subst (IsToken t.named q (In v)) (sym h.1.1) (dart_token (In v) h.0 (k.formed.homes (In v) (End h.0) (has_map End h.0 (in_list s v) h.1.0)).0 tt)

    module _ (e : ℕ) (c : EdgeCell) (at : map.get q.live e ≡ Some c) where
      cell : IsEdgeCell s e c
      cell = edge_cell s t top p q.live k e c at

      from : (v : NodeCell) × (map.get p c.from ≡ Some v)
      from = has_node s t top p q.live k c.from (from_listed s k.formed e c cell)

      to : (v : NodeCell) × (map.get p c.to ≡ Some v)
      to = has_node s t top p q.live k c.to (to_listed s k.formed e c cell)

      back_heads : (d : Bool) (w : ℕ) (v : NodeCell) → map.get p w ≡ Some v → head_at t.named (back_row d w) ≡ Some (cond d v.ins v.outs)
      back_heads true w v i = in_head s t top p q.live k w v i
      back_heads false w v i = out_head s t top p q.live k w v i

      parts_at : HasParts t.named e c Edges (Out c.from) (back_row s.directed c.to)
      parts_at = subst (λ (p : ℕ × ℕ). HasParts t.named e c Edges (Out p.0) (back_row s.directed p.1)) (ends_are s k.formed e c cell) (has_parts s t top p q.live k e c at)

      pub can_show : (h : Heads) → top ≡ Some h → (d : Bool) → d ≡ s.directed → CanShow t.named p' q h.edges d e c
      can_show h is d ds = record {
        from = remark_node (set.contains vs c.from) from.0;
        to = remark_node (set.contains vs c.to) to.0;
        at_from = remarked_at c.from from.0 from.1;
        at_to = remarked_at c.to to.0 to.1;
        head = k.heads Edges ∙ ap (option_map (λ (h : Heads). h.edges)) is;
        outs = out_head s t top p q.live k c.from from.0 from.1;
        ins = back_heads d c.to to.0 to.1;
        parts = subst (λ d. HasParts t.named e c Edges (Out c.from) (back_row d c.to)) (sym ds) parts_at;
        tokens = all_tokens;
      }

module _ (s : GraphState) (t : Lists) (top : Option Heads) (p : Contents NodeCell) (q : Contents EdgeCell) (k : IsKept s t top p.live q.live) (e : ℕ) (c : EdgeCell) (at : map.get q.live e ≡ Some c) where
  edge_at : IsEdgeCell s e c
  edge_at = edge_cell s t top p.live q.live k e c at

  from_at : (v : NodeCell) × (map.get p.live c.from ≡ Some v)
  from_at = has_node s t top p.live q.live k c.from (from_listed s k.formed e c edge_at)

  to_at : (v : NodeCell) × (map.get p.live c.to ≡ Some v)
  to_at = has_node s t top p.live q.live k c.to (to_listed s k.formed e c edge_at)

  module _ (hidden : set.contains s.hidden_edges e ≡ true) where
    unshown : (not (set.contains s.hidden_edges e) && shows_ends s (ends_of s e)) ≡ false
    unshown = ap (λ b. not b && shows_ends s (ends_of s e)) hidden

    -- where an end doesn't show, nothing changes, and the edge doesn't show either
    marks_either : (u : Named) (b : Bool) → MarksIf b t.named u e true → MarksParts t.named u e b
    marks_either u true m = m
    marks_either u false m = record {
      same = m.0;
      here = record {
        edge = m.1 (Edge e) ∙ k.shown (Edge e) edge_at.listed ∙ unshown;
        first = m.1 (End (front e)) ∙ k.shown (End (front e)) edge_at.listed ∙ unshown;
        second = m.1 (End (back e)) ∙ k.shown (End (back e)) edge_at.listed ∙ unshown;
      };
      else = λ x _. m.1 x;
    }

    pub both_show : Bool
    both_show = not from_at.0.is_hidden && not to_at.0.is_hidden

    pub marks_parts : (u : Named) → ShowsParts t.named u p e c → MarksParts t.named u e both_show
    unfolding both_show
    marks_parts u f = marks_either u (not from_at.0.is_hidden && not to_at.0.is_hidden) (f from_at.0 to_at.0 from_at.1 to_at.1)

    pub both_is : both_show ≡ (not false && shows_ends s (ends_of s e))
    unfolding both_show
    both_is =
        (λ i. not ((node_cell s t top p.live q.live k c.from from_at.0 from_at.1).hidden i) && not ((node_cell s t top p.live q.live k c.to to_at.0 to_at.1).hidden i))
        ∙ ap (shows_ends s) (sym (ends_are s k.formed e c edge_at))

pub no_some : {A : Type 0} (o : Option A) → ((a : A) → o ≡ Some a → ⊥) → o ≡ None
no_some None out = refl
no_some (Some a) out = absurd (out a refl)
