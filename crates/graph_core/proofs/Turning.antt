-- Every edge goes the other way: the cells and the lists say what the state says.
use Rattle.std.proofs.Common.{◌≡◌, ℕ, ◌+◌, ◌*◌, ◌≤◌, Bool, true, false, cond, not, List, [], ◌∷◌, ◌++◌, length, Option, Some, None, option_map, refl, sym, ap, subst, ◌∙◌, inl, inr}
use Rattle.std.proofs.Common as list
use Rattle.std.specs.FinMap as map
use Rattle.item_pool.specs.Contents.{Contents, HasLive}
use Rattle.graph_state.specs.declared.name.ListName.{ListName}
use Rattle.graph_state.specs.declared.name.ListName.TheVariants.{Nodes, Edges, Out, In}
use Rattle.graph_state.specs.declared.name.Element.{Element}
use Rattle.graph_state.specs.declared.name.Element.TheVariants.{Node, Edge, End}
use Rattle.graph_state.specs.State.{GraphState}
use Rattle.graph_state.specs.Names.{Has, IsOnce, number, shows, IsLive}
use Rattle.graph_state.specs.Edits.{all_reversed}
use Rattle.graph_state.specs.Turned.{turned_list, turned_element}
use Rattle.graph_state.proofs.Has.{some_or_none, has_left, has_right, has_last, has_none, once_mapped}
use Rattle.graph_state.proofs.Same.{nat_tells}
use Rattle.graph_state.proofs.Maps.{put_here, put_else, len_kept}
use Rattle.graph_state.proofs.Each.{has_or_not}
use Rattle.graph_state.proofs.Turned.{element_twice, live_turned, live_reversed, reversed_lists, reversed_shows, reversed_ends, formed_reversed}
use Rattle.graph_lists.specs.Named.{Lists, Named, head_at, hook_at, list_at, shows_at, SameRoom}
use Rattle.graph_lists.specs.Turned.{turned}
use Rattle.graph_lists.proofs.Turned.{heads_turned, hooks_turned, lists_turned, shown_turned}
use Rattle.graph_core.specs.declared.cell.Heads.{Heads}
use Rattle.graph_core.specs.declared.cell.NodeCell.{NodeCell}
use Rattle.graph_core.specs.declared.cell.EdgeCell.{EdgeCell}
use Rattle.graph_core.specs.Kept.{NodeCells, EdgeCells, heads_of, hook_of, end_hook, IsNode, IsEdge, top_heads, IsKept}
use Rattle.graph_core.specs.Turns.{node_turned, edge_turned, Fills, Changes, ChangesAt, HasCells}
use Rattle.graph_core.proofs.Kept.{node_cell, edge_cell, ends_are}
use Rattle.graph_core.specs.Members.{Walks}
use Rattle.graph_core.proofs.Walks.{IsHere, walk_has, not_passed, passed_all}
use Rattle.graph_core.proofs.Found.{edge_numbers, node_numbers, edge_live, node_live, no_edges}

-- the cells that are changed, one by one
module _ {X : Type 0} (f : X → X) (p : Contents X) where
  pub changes_none : ChangesAt f [] p p
  changes_none = record { here = λ k i. absurd i; else = λ k out. refl; count = refl; made = refl }

  pub changes_more : (ks : List ℕ) (q r : Contents X) (k : ℕ) (c : X) → ChangesAt f ks p q → (Has k ks → ⊥) → map.get q.live k ≡ Some c → r.live ≡ map.insert q.live k (f c) → r.made ≡ q.made → ChangesAt f (ks ++ k ∷ []) p r
  changes_more ks q r k c was out at is made =
      let now : (j : ℕ) → j ≡ k → map.get r.live j ≡ option_map f (map.get p.live j) = λ j e.
      ap (λ m. map.get m j) is ∙ put_here q.live k (f c) j e
      ∙ ap (option_map f) (sym at ∙ was.else k out ∙ ap (map.get p.live) (sym e)) in
      let still : (j : ℕ) → (j ≡ k → ⊥) → map.get r.live j ≡ map.get q.live j = λ j ne. ap (λ m. map.get m j) is ∙ put_else q.live k (f c) j ne in
      record {
        here = λ j i. elim (nat_tells j k) [
          | inl y ↦ now j y.1
          | inr ne ↦ still j ne.1 ∙ was.here j (elim (has_last j k ks i) [ inl h ↦ h | inr e ↦ absurd (ne.1 e) ])
        ];
        else = λ j o. let ne : j ≡ k → ⊥ = λ e. o (subst (λ i. Has i (ks ++ k ∷ [])) (sym e) (has_right k ks (k ∷ []) (inl refl))) in still j ne ∙ was.else j (λ i. o (has_left j ks (k ∷ []) i));
        count = ap map.len is ∙ len_kept q.live k (f c) c at ∙ was.count;
        made = made ∙ was.made;
      }

  -- all numbers that have a cell were passed
  pub changes_all : (ks : List ℕ) (q : Contents X) → ChangesAt f ks p q → ((k : ℕ) → (Has k ks → ⊥) → map.get p.live k ≡ None) → Changes f p q
  changes_all ks q was none = record {
    live = λ k. elim (has_or_not k ks) [
      | inl i ↦ was.here k i
      | inr out ↦ was.else k out ∙ none k out ∙ sym (ap (option_map f) (none k out))
    ];
    count = was.count;
    made = was.made;
  }

-- a walk along a list that changes each cell as it passes
module _ {X : Type 0} (f : X → X) (t : Lists) (p : Contents X) (n : ListName) (g : ℕ) (fills : Fills t p n g) (ks : List ℕ) (turn : ℕ) (at : Option ℕ)
    (w : Walks (λ (k : ℕ). k) number t.named false (list_at t.named n) ks turn at) (q : Contents X) (was : ChangesAt f ks p q) where
  module _ (m : ℕ) (h : IsHere t.named false w.rest m) where
    fresh : Has (number h.x) ks → ⊥
    fresh = not_passed t.named false (list_at t.named n) ks turn at w fills.once m h

    pub still_live : HasLive q (number h.x)
    still_live =
        let c = fills.live h.x (walk_has (λ (k : ℕ). k) number t.named false (list_at t.named n) ks turn at w m h) in
        (c.0, (was.else (number h.x) fresh ∙ c.1.0, c.1.1, subst (λ n. number h.x ≤ n) (sym was.made) c.1.2))

    pub turns_more : (j : ℕ) (r : Contents X) → j ≡ number h.x → ((c : X) → map.get q.live j ≡ Some c → r.live ≡ map.insert q.live j (f c)) → r.made ≡ q.made → ChangesAt f (ks ++ j ∷ []) p r
    turns_more j r is live made =
        let c = still_live in
        let at' = ap (map.get q.live) is ∙ c.1.0 in
        changes_more f p ks q r j c.0 was (λ i. fresh (subst (λ k. Has k ks) is i)) at' (live c.0 at') made

  pub turns_all : length (list_at t.named n) ≤ turn → Changes f p q
  turns_all le =
      let all = passed_all t.named false (list_at t.named n) ks turn at w le in
      changes_all f p ks q was (λ k out. fills.all k (λ i. out (subst (Has k) (sym all) i)))

pub changes_nothing : {X : Type 0} (f : X → X) (p : Contents X) → ((k : ℕ) → map.get p.live k ≡ None) → Changes f p p
changes_nothing f p none = record { live = λ k. none k ∙ sym (ap (option_map f) (none k)); count = refl; made = refl }

same_cell : (o : Option NodeCell) → o ≡ option_map (node_turned false) o
same_cell None = refl
same_cell (Some c) = refl

pub changes_not : (p : Contents NodeCell) → Changes (node_turned false) p p
changes_not p = record { live = λ k. same_cell (map.get p.live k); count = refl; made = refl }

-- the node list and the edge list have all cells
module _ (s : GraphState) (t : Lists) (top : Option Heads) (p : Contents NodeCell) (q : Contents EdgeCell) (k : IsKept s t top p.live q.live) (made : (p.made ≡ s.made_nodes) × (q.made ≡ s.made_edges)) where
  node_numbers_are : list.map number (list_at t.named Nodes) ≡ s.nodes
  node_numbers_are = ap (list.map number) (k.lists Nodes) ∙ node_numbers s.nodes

  edge_numbers_are : list.map number (list_at t.named Edges) ≡ s.edges
  edge_numbers_are = ap (list.map number) (k.lists Edges) ∙ edge_numbers s.edges

  no_cell : (v : ℕ) → (Has v s.nodes → ⊥) → map.get p.live v ≡ None
  no_cell v out = elim (some_or_none (map.get p.live v)) [ inl n ↦ n | inr c ↦ absurd (out (node_cell s t top p.live q.live k v c.0 c.1).listed) ]

  no_edge_cell : (e : ℕ) → (Has e s.edges → ⊥) → map.get q.live e ≡ None
  no_edge_cell e out = elim (some_or_none (map.get q.live e)) [ inl n ↦ n | inr c ↦ absurd (out (edge_cell s t top p.live q.live k e c.0 c.1).listed) ]

  pub has_cells : HasCells t top p q
  has_cells = record {
    nodes = λ h is. record {
      head = (h.nodes, (k.heads Nodes ∙ ap (option_map (λ (h : Heads). h.nodes)) is, refl));
      live = λ x i. node_live s t top p q.live k made.0 x s.nodes (λ v j. j) (subst (Has x) (k.lists Nodes) i);
      once = subst IsOnce (sym node_numbers_are) (once_mapped Node s.nodes (k.formed.once Nodes));
      all = λ v out. no_cell v (λ i. out (subst (Has v) (sym node_numbers_are) i));
    };
    edges = λ h is. record {
      head = (h.edges, (k.heads Edges ∙ ap (option_map (λ (h : Heads). h.edges)) is, refl));
      live = λ x i. edge_live s t top p.live q k made.1 x s.edges (λ e j. j) (subst (Has x) (k.lists Edges) i);
      once = subst IsOnce (sym edge_numbers_are) (once_mapped Edge s.edges (k.formed.once Edges));
      all = λ e out. no_edge_cell e (λ i. out (subst (Has e) (sym edge_numbers_are) i));
    };
    no_nodes = λ e v. no_cell v (has_none s.nodes (k.headed e) v);
    no_edges = λ e i. no_edge_cell i (has_none s.edges (no_edges s t top p.live q k made.1 e) i);
  }

-- the cells of a turned graph, where there are any
outs_of : (d : Bool) (o : Option NodeCell) → option_map (λ (c : NodeCell). cond d c.ins c.outs) o ≡ option_map (λ (c : NodeCell). c.outs) (option_map (node_turned d) o)
outs_of d None = refl
outs_of d (Some c) = refl

ins_of : (d : Bool) (o : Option NodeCell) → option_map (λ (c : NodeCell). cond d c.outs c.ins) o ≡ option_map (λ (c : NodeCell). c.ins) (option_map (node_turned d) o)
ins_of d None = refl
ins_of d (Some c) = refl

node_hook_of : (d : Bool) (o : Option NodeCell) → option_map (λ (c : NodeCell). c.hook) o ≡ option_map (λ (c : NodeCell). c.hook) (option_map (node_turned d) o)
node_hook_of d None = refl
node_hook_of d (Some c) = refl

edge_hook_of : (o : Option EdgeCell) → option_map (λ (c : EdgeCell). c.hook) o ≡ option_map (λ (c : EdgeCell). c.hook) (option_map edge_turned o)
edge_hook_of None = refl
edge_hook_of (Some c) = refl

end_hook_of : (b : Bool) (o : Option EdgeCell) → option_map (end_hook (not b)) o ≡ option_map (end_hook b) (option_map edge_turned o)
end_hook_of b None = refl
end_hook_of true (Some c) = refl
end_hook_of false (Some c) = refl

outs_either : (d : Bool) (top : Option Heads) (p : NodeCells) (v : ℕ) → heads_of top p (cond d (In v) (Out v)) ≡ option_map (λ (c : NodeCell). cond d c.ins c.outs) (map.get p v)
outs_either true top p v = refl
outs_either false top p v = refl

ins_either : (d : Bool) (top : Option Heads) (p : NodeCells) (v : ℕ) → heads_of top p (cond d (Out v) (In v)) ≡ option_map (λ (c : NodeCell). cond d c.outs c.ins) (map.get p v)
ins_either true top p v = refl
ins_either false top p v = refl

module _ (s : GraphState) (t : Lists) (top : Option Heads) (p : NodeCells) (q : EdgeCells) (k : IsKept s t top p q) (u : Lists) (p' : NodeCells) (q' : EdgeCells)
    (nodes : (v : ℕ) → map.get p' v ≡ option_map (node_turned s.directed) (map.get p v)) (edges : (e : ℕ) → map.get q' e ≡ option_map edge_turned (map.get q e))
    (named : u.named ≡ turned s.directed t.named) where
  heads_other : (l : ListName) → heads_of top p (turned_list s.directed l) ≡ heads_of top p' l
  heads_other Nodes = refl
  heads_other Edges = refl
  heads_other (Out v) = outs_either s.directed top p v ∙ outs_of s.directed (map.get p v) ∙ ap (option_map (λ (c : NodeCell). c.outs)) (sym (nodes v))
  heads_other (In v) = ins_either s.directed top p v ∙ ins_of s.directed (map.get p v) ∙ ap (option_map (λ (c : NodeCell). c.ins)) (sym (nodes v))

  hooks_other : (x : Element) → hook_of p q (turned_element x) ≡ hook_of p' q' x
  hooks_other (Node v) = node_hook_of s.directed (map.get p v) ∙ ap (option_map (λ (c : NodeCell). c.hook)) (sym (nodes v))
  hooks_other (Edge e) = edge_hook_of (map.get q e) ∙ ap (option_map (λ (c : EdgeCell). c.hook)) (sym (edges e))
  hooks_other (End d) = end_hook_of d.back (map.get q d.edge) ∙ ap (option_map (end_hook d.back)) (sym (edges d.edge))

  node_other : (v : ℕ) (o : Option NodeCell) → IsNode s v o → IsNode (all_reversed s) v (option_map (node_turned s.directed) o)
  unfolding all_reversed
  node_other v None i = i
  node_other v (Some c) i = record { listed = i.listed; label = i.label; hidden = i.hidden }

  edge_other : (e : ℕ) (o : Option EdgeCell) → IsEdge s e o → IsEdge (all_reversed s) e (option_map edge_turned o)
  unfolding all_reversed
  edge_other e None i = i
  edge_other e (Some c) i =
      let is = ends_are s k.formed e c i in
      record {
        listed = i.listed;
        ends = reversed_ends s k.formed e i.listed ∙ ap (λ (p : ℕ × ℕ). Some (p.1, p.0)) is;
        label = i.label;
        reversal = i.reversal;
        hidden = i.hidden;
      }

  shown_other : (x : Element) → IsLive (all_reversed s) x → shows_at u.named x ≡ shows (all_reversed s) x
  shown_other x i =
      ap (λ n. shows_at n x) named ∙ shown_turned s.directed t.named x ∙ k.shown (turned_element x) (live_turned s x (live_reversed s x i))
      ∙ sym (reversed_shows s k.formed (turned_element x) (live_turned s x (live_reversed s x i))) ∙ ap (shows (all_reversed s)) (element_twice x)

  pub kept_reversed : map.len p' ≡ map.len p → map.len q' ≡ map.len q → SameRoom t u → IsKept (all_reversed s) u top p' q'
  unfolding all_reversed
  kept_reversed plen qlen room = record {
    heads = λ l. ap (λ n. head_at n l) named ∙ heads_turned s.directed t.named l ∙ k.heads (turned_list s.directed l) ∙ heads_other l;
    hooks = λ x. ap (λ n. hook_at n x) named ∙ hooks_turned s.directed t.named x ∙ k.hooks (turned_element x) ∙ hooks_other x;
    lists = λ l. ap (λ n. list_at n l) named ∙ lists_turned s.directed t.named l ∙ ap (list.map turned_element) (k.lists (turned_list s.directed l)) ∙ sym (reversed_lists s k.formed l);
    shown = shown_other;
    loose = ap (λ (n : Named). n.loose) named ∙ ap (list.map turned_element) k.loose;
    nodes = λ v. subst (IsNode (all_reversed s) v) (sym (nodes v)) (node_other v (map.get p v) (k.nodes v));
    edges = λ e. subst (IsEdge (all_reversed s) e) (sym (edges e)) (edge_other e (map.get q e) (k.edges e));
    headed = k.headed;
    few_heads = subst (λ n. n ≤ top_heads top + 4 * map.len p') (sym room.heads) (subst (λ n. t.heads ≤ top_heads top + 4 * n) (sym plen) k.few_heads);
    few_members = subst (λ n. n ≤ 2 * map.len p' + 6 * map.len q') (sym room.members)
        (subst (λ n. t.members ≤ 2 * n + 6 * map.len q') (sym plen) (subst (λ n. t.members ≤ 2 * map.len p + 6 * n) (sym qlen) k.few_members));
    counted = (plen ∙ k.counted.0, qlen ∙ k.counted.1);
    formed = formed_reversed s k.formed;
    rise = k.rise;
  }
