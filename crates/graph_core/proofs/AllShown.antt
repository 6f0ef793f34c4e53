-- Everything is restored, list by list, and every mark is cleared.
use Rattle.std.proofs.Common.{◌≡◌, ℕ, ◌≤◌, Bool, true, false, cond, not, ◌&&◌, List, [], ◌∷◌, ◌++◌, Option, Some, None, option_map, refl, sym, ap, subst, ◌∙◌, ◌⊎◌, inl, inr}
use Rattle.std.specs.Ordering.{nat_cmp}
use Rattle.std.specs.Cmp.{nat_cmp_total}
use Rattle.std.specs.FinMap as map
use Rattle.std.specs.FinSet as set
use Rattle.std.specs.FinSet.{nat_cmp-IsAntisymmetric, same_set, contains-empty}
use Rattle.item_pool.specs.Contents.{Contents, HasLive}
use Rattle.graph_state.specs.declared.name.ListName.TheVariants.{Nodes, Edges, Out, In}
use Rattle.graph_state.specs.declared.name.Element.{Element}
use Rattle.graph_state.specs.declared.name.Element.TheVariants.{Node, Edge, End}
use Rattle.graph_state.specs.State.{GraphState, source, target}
use Rattle.graph_state.specs.Names.{Has, number, shows, IsLive, home, back_row}
use Rattle.graph_state.specs.Formed.{IsFormed}
use Rattle.graph_state.specs.Edits.{all_restored}
use Rattle.graph_state.proofs.Has.{truth, not_both, has_last, has_mapped, has_none, some_or_none, none_some}
use Rattle.graph_state.proofs.Same.{nat_tells, element_tells}
use Rattle.graph_state.proofs.Maps.{put_here, put_else, len_kept}
use Rattle.graph_state.proofs.Marked.{with_marks}
use Rattle.graph_lists.specs.Named.{Lists, Named, list_at, shows_at, SameRoom}
use Rattle.graph_core.specs.declared.cell.Heads.{Heads}
use Rattle.graph_core.specs.declared.cell.NodeCell.{NodeCell}
use Rattle.graph_core.specs.declared.cell.EdgeCell.{EdgeCell}
use Rattle.graph_core.specs.Kept.{NodeCells, EdgeCells, IsKept}
use Rattle.graph_core.specs.Marks.{IsSame, Marks}
use Rattle.graph_core.specs.Restores.{ShowsAll, ShowsRows, IsListed, ShowsWhole, HasRows, CanShowAll, bare_node, bare_edge, Clears}
use Rattle.graph_core.proofs.Kept.{node_cell, has_node, edge_cell, has_edge, out_head, in_head, stands}
use Rattle.graph_core.proofs.Remarked.{remark_node, remark_edge, AreRemarked, nodes_as_before, kept_remarked}
use Rattle.graph_core.proofs.Hiding.{same_on}
use Rattle.graph_core.proofs.Showing.{same_list_at, same_head_at, all_tokens}
use Rattle.graph_core.proofs.NodeMarks.{same_self_named}

-- the set of nothing
abbrev pub nobody : set.FinSet nat_cmp
nobody = set.empty

pub shows_none : (n : Named) → ShowsAll n n []
shows_none n = record { same = same_self_named n; stays = λ x i. i; all = λ x i. absurd i }

mark_stays : (m o : Named) (z : Element) → Marks m o z true → (x : Element) → shows_at m x ≡ true → shows_at o x ≡ true
mark_stays m o z one x is = elim (element_tells x z) [
  | inl y ↦ ap (shows_at o) y.1 ∙ one.here
  | inr ne ↦ one.else x ne.1 ∙ is
]

pub shows_more : (n m o : Named) (xs : List Element) (z : Element) → ShowsAll n m xs → Marks m o z true → ShowsAll n o (xs ++ z ∷ [])
shows_more n m o xs z all one = record {
  same = same_on n m o all.same one.same;
  stays = λ x i. mark_stays m o z one x (all.stays x i);
  all = λ x i. elim (has_last x z xs i) [
    | inl j ↦ mark_stays m o z one x (all.all x j)
    | inr e ↦ ap (shows_at o) e ∙ one.here
  ];
}

pub rows_none : (n : Named) → ShowsRows n n []
rows_none n = record { same = same_self_named n; stays = λ x i. i; all = λ y x i. absurd i }

pub rows_more : (n m o r : Named) (ys : List Element) (z : Element) → ShowsRows n m ys → ShowsAll m o (list_at m (Out (number z))) → ShowsAll o r (list_at o (In (number z))) → ShowsRows n r (ys ++ z ∷ [])
rows_more n m o r ys z rows outs ins =
    let to_o = same_on n m o rows.same outs.same in
    record {
      same = same_on n o r to_o ins.same;
      stays = λ x i. ins.stays x (outs.stays x (rows.stays x i));
      all = λ y x i j. elim (has_last y z ys i) [
        | inl h ↦ ins.stays x (outs.stays x (rows.all y x h j))
        | inr e ↦ elim (subst (λ y. Has x (list_at n (Out (number y))) ⊎ Has x (list_at n (In (number y)))) e j) [
          | inl a ↦ ins.stays x (outs.all x (subst (Has x) (sym (same_list_at n m rows.same (Out (number z)))) a))
          | inr b ↦ ins.all x (subst (Has x) (sym (same_list_at n o to_o (In (number z)))) b)
        ]
      ];
    }

-- the node list, the edge list and the lists of all nodes
pub whole_shown : (n m o r : Named) → ShowsAll n m (list_at n Nodes) → ShowsAll m o (list_at m Edges) → ShowsRows o r (list_at o Nodes) → ShowsWhole n r
whole_shown n m o r nodes edges rows =
    let to_o = same_on n m o nodes.same edges.same in
    let row : (v : ℕ) → Has (Node v) (list_at n Nodes) → Has (Node v) (list_at o Nodes) = λ v i. subst (Has (Node v)) (sym (same_list_at n o to_o Nodes)) i in
    record {
      same = same_on n o r to_o rows.same;
      all = λ l. elim l as (λ l. IsListed n l → (x : Element) → Has x (list_at n l) → shows_at r x ≡ true) [
        | Nodes ↦ λ _ x i. rows.stays x (edges.stays x (nodes.all x i))
        | Edges ↦ λ _ x i. rows.stays x (edges.all x (subst (Has x) (sym (same_list_at n m nodes.same Edges)) i))
        | Out v ↦ λ h x i. rows.all (Node v) x (row v h) (inl (subst (Has x) (sym (same_list_at n o to_o (Out v))) i))
        | In v ↦ λ h x i. rows.all (Node v) x (row v h) (inr (subst (Has x) (sym (same_list_at n o to_o (In v))) i))
      ];
    }

pub clears_none : {C : Type 0} (bare : C → C) (p : map.FinMap nat_cmp C) → Clears bare p p []
clears_none bare p = record { here = λ x i. absurd i; alike = λ k. refl; len = refl }

module _ {C : Type 0} (bare : C → C) (idle : (c : C) → bare (bare c) ≡ bare c) (p : map.FinMap nat_cmp C) where
  module _ (q r : map.FinMap nat_cmp C) (xs : List Element) (z : Element) (h : Clears bare p q xs) (c : C) (at : map.get q (number z) ≡ Some c) (is : r ≡ map.insert q (number z) (bare c)) where
    got_here : (k : ℕ) → k ≡ number z → map.get r k ≡ option_map bare (map.get p k)
    got_here k e =
        ap (λ m. map.get m k) is ∙ put_here q (number z) (bare c) k e
        ∙ sym (ap (option_map bare) (ap (map.get q) e ∙ at)) ∙ h.alike k

    bare_twice : (o : Option C) → option_map bare (option_map bare o) ≡ option_map bare o
    bare_twice None = refl
    bare_twice (Some c) = ap Some (idle c)

    got_else : (k : ℕ) → (k ≡ number z → ⊥) → map.get r k ≡ map.get q k
    got_else k ne = ap (λ m. map.get m k) is ∙ put_else q (number z) (bare c) k ne

    pub clears_more : Clears bare p r (xs ++ z ∷ [])
    clears_more = record {
      here = λ x i. elim (nat_tells (number x) (number z)) [
        | inl y ↦ got_here (number x) y.1
        | inr n ↦ elim (has_last x z xs i) [ inl j ↦ got_else (number x) n.1 ∙ h.here x j | inr e ↦ absurd (n.1 (ap number e)) ]
      ];
      alike = λ k. elim (nat_tells k (number z)) [
        | inl y ↦ ap (option_map bare) (got_here k y.1) ∙ bare_twice (map.get p k)
        | inr n ↦ ap (option_map bare) (got_else k n.1) ∙ h.alike k
      ];
      len = ap map.len is ∙ len_kept q (number z) (bare c) c at ∙ h.len;
    }

-- cells of which all marks are cleared
module _ {C : Type 0} (remark : Bool → C → C) (p q : map.FinMap nat_cmp C) (xs : List Element) (h : Clears (remark false) p q xs) (all : (k : ℕ) (c : C) → map.get p k ≡ Some c → (x : Element) × (Has x xs × (number x ≡ k))) where
  none_stays : (o : Option C) → option_map (remark false) o ≡ None → o ≡ None
  none_stays None e = refl
  none_stays (Some c) e = cc

  pub are_cleared : AreRemarked remark nobody p q
  are_cleared i =
      let unmarked : set.contains nobody i ≡ false = contains-empty nat_cmp i in
      elim (some_or_none (map.get p i)) [
        | inl n ↦ none_stays (map.get q i) (h.alike i ∙ ap (option_map (remark false)) n) ∙ sym (ap (option_map (remark (set.contains nobody i))) n)
        | inr c ↦
            let x = all i c.0 c.1 in
            subst (λ k. map.get q k ≡ option_map (remark false) (map.get p k)) x.1.1 (h.here x.0 x.1.0) ∙ ap (λ b. option_map (remark b) (map.get p i)) (sym unmarked)
      ]

-- nothing is hidden where there is nothing
pub nothing_hidden : (s : GraphState) → IsFormed s → s.nodes ≡ [] → all_restored s ≡ s
unfolding all_restored
nothing_hidden s f none =
    let out : (v : ℕ) → set.contains nobody v ≡ set.contains s.hidden_nodes v = λ v. contains-empty nat_cmp v ∙ elim (truth (set.contains s.hidden_nodes v)) [ inl t ↦ absurd (has_none s.nodes none v (f.hidden_nodes v t)) | inr n ↦ sym n ] in
    let out_edges : (e : ℕ) → set.contains nobody e ≡ set.contains s.hidden_edges e = λ e. contains-empty nat_cmp e ∙ elim (truth (set.contains s.hidden_edges e)) [
      | inl t ↦ absurd (has_none s.nodes none (source s e) (f.ends e (f.hidden_edges e t)).0)
      | inr n ↦ sym n
    ] in
    (λ j. record s { hidden_nodes = same_set nat_cmp_total nat_cmp-IsAntisymmetric nobody s.hidden_nodes out j; hidden_edges = same_set nat_cmp_total nat_cmp-IsAntisymmetric nobody s.hidden_edges out_edges j })

module _ (s : GraphState) (t : Lists) (top : Option Heads) (p : Contents NodeCell) (q : Contents EdgeCell) (k : IsKept s t top p.live q.live) where
  rows_at : (v : ℕ) → Has v s.nodes → HasRows t.named p v
  rows_at v i =
      let c = has_node s t top p.live q.live k v i in
      (c.0, (c.1, (out_head s t top p.live q.live k v c.0 c.1, in_head s t top p.live q.live k v c.0 c.1)))

  node_at : (x : Element) → Has x (list_at t.named Nodes) → Has (number x) s.nodes
  node_at x i = let h = has_mapped Node x s.nodes (subst (Has x) (k.lists Nodes) i) in subst (λ x. Has (number x) s.nodes) (sym h.1.1) h.1.0

  edge_at : (x : Element) → Has x (list_at t.named Edges) → Has (number x) s.edges
  edge_at x i = let h = has_mapped Edge x s.edges (subst (Has x) (k.lists Edges) i) in subst (λ x. Has (number x) s.edges) (sym h.1.1) h.1.0

  pub can_show_all : (h : Heads) → top ≡ Some h → CanShowAll t.named p q h
  can_show_all h is = record {
    nodes = k.heads Nodes ∙ ap (option_map (λ (h : Heads). h.nodes)) is;
    edges = k.heads Edges ∙ ap (option_map (λ (h : Heads). h.edges)) is;
    tokens = all_tokens s t top p.live q k p s.hidden_nodes (nodes_as_before s t top p.live q.live k);
    rows = λ x i. rows_at (number x) (node_at x i);
  }

  pub nodes_there : p.made ≡ s.made_nodes → (x : Element) → Has x (list_at t.named Nodes) → HasLive p (number x)
  nodes_there made x i =
      let j = node_at x i in
      let c = has_node s t top p.live q.live k (number x) j in
      let g = k.formed.given_nodes (number x) j in
      (c.0, (c.1, g.0, subst (λ n. number x ≤ n) (sym made) g.1))

  pub edges_there : q.made ≡ s.made_edges → (x : Element) → Has x (list_at t.named Edges) → HasLive q (number x)
  edges_there made x i =
      let j = edge_at x i in
      let c = has_edge s t top p.live q.live k (number x) j in
      let g = k.formed.given_edges (number x) j in
      (c.0, (c.1, g.0, subst (λ n. number x ≤ n) (sym made) g.1))

  row_listed : (d : Bool) (w : ℕ) → Has (Node w) (list_at t.named Nodes) → IsListed t.named (back_row d w)
  row_listed true w i = i
  row_listed false w i = i

  end_listed : (d b : Bool) (v w : ℕ) → Has (Node v) (list_at t.named Nodes) → Has (Node w) (list_at t.named Nodes) → IsListed t.named (cond b (back_row d w) (Out v))
  end_listed d true v w i j = row_listed d w j
  end_listed d false v w i j = i

  node_listed : (v : ℕ) → Has v s.nodes → Has (Node v) (list_at t.named Nodes)
  node_listed v i = stands s t top p.live q.live k (Node v) i

  home_listed : (x : Element) → IsLive s x → IsListed t.named (home s x)
  home_listed (Node v) i = tt
  home_listed (Edge e) i = tt
  home_listed (End d) i = let h = k.formed.ends d.edge i in end_listed s.directed d.back (source s d.edge) (target s d.edge) (node_listed (source s d.edge) h.0) (node_listed (target s d.edge) h.1)

  module _ (u : Lists) (p' : NodeCells) (q' : EdgeCells) (whole : ShowsWhole t.named u.named) (room : SameRoom t u) (nodes : Clears bare_node p.live p' (list_at t.named Nodes)) (edges : Clears bare_edge q.live q' (list_at t.named Edges)) where
    nothing : (i : ℕ) → set.contains nobody i ≡ false
    nothing i = contains-empty nat_cmp i

    all_show : (x : Element) → shows (with_marks s nobody nobody) x ≡ true
    all_show (Node v) = ap not (nothing v)
    all_show (Edge e) = (λ j. not (nothing e j) && (not (nothing (source s e) j) && not (nothing (target s e) j)))
    all_show (End d) = (λ j. not (nothing d.edge j) && (not (nothing (source s d.edge) j) && not (nothing (target s d.edge) j)))

    pub kept_whole : IsKept (with_marks s nobody nobody) u top p' q'
    kept_whole =
        kept_remarked s t top p.live q.live k nobody nobody u p' q' whole.same room
        (are_cleared remark_node p.live p' (list_at t.named Nodes) nodes (λ v c i. (Node v, (node_listed v (node_cell s t top p.live q.live k v c i).listed, refl))))
        (are_cleared remark_edge q.live q' (list_at t.named Edges) edges (λ e c i. (Edge e, (stands s t top p.live q.live k (Edge e) (edge_cell s t top p.live q.live k e c i).listed, refl))))
        (nodes.len, edges.len)
        (λ v i. absurd (not_both i (nothing v))) (λ e i. absurd (not_both i (nothing e)))
        (λ x i. whole.all (home s x) (home_listed x i) x (stands s t top p.live q.live k x i) ∙ sym (all_show x))

-- a live cell stays live
pub clears_live : {C : Type 0} (bare : C → C) (p q : Contents C) (xs : List Element) → Clears bare p.live q.live xs → q.made ≡ p.made → (i : ℕ) → HasLive p i → HasLive q i
clears_live bare p q xs h made i live = elim (some_or_none (map.get q.live i)) [
  | inl n ↦ absurd (none_some (sym (ap (option_map bare) n) ∙ h.alike i ∙ ap (option_map bare) live.1.0))
  | inr c ↦ (c.0, (c.1, live.1.1, subst (λ n. i ≤ n) (sym made) live.1.2))
]

-- the heads of lists that are as before
pub rows_stay : (n m : Named) → IsSame n m → (p : Contents NodeCell) (v : ℕ) → HasRows n p v → HasRows m p v
rows_stay n m same p v r = (r.0, (r.1.0, (same_head_at n m same (Out v) ∙ r.1.1.0, same_head_at n m same (In v) ∙ r.1.1.1)))
