-- An edge whose mark is changed: the cells and the lists say what the state says.
use Rattle.std.proofs.Common.{◌≡◌, ℕ, ◌==◌, Bool, true, false, cond, not, ◌&&◌, Option, Some, refl, sym, ap, subst, ◌∙◌, inl, inr}
use Rattle.std.specs.Ordering.{nat_cmp}
use Rattle.std.specs.FinMap as map
use Rattle.std.specs.FinSet as set
use Rattle.graph_defs.specs.declared.dart.Dart.{Dart}
use Rattle.graph_state.specs.declared.name.ListName.TheVariants.{Edges, Out}
use Rattle.graph_state.specs.declared.name.Element.{Element}
use Rattle.graph_state.specs.declared.name.Element.TheVariants.{Node, Edge, End}
use Rattle.graph_state.specs.State.{GraphState, front, back, source, target, ends_of, shows_ends}
use Rattle.graph_state.specs.Names.{Has, shows, IsLive, back_row}
use Rattle.graph_state.proofs.Maps.{len_kept}
use Rattle.graph_state.proofs.Added.{IsOf}
use Rattle.graph_state.proofs.Marked.{with_marks, shows_marked, shows_unmarked, marked_listed, of_or_not}
use Rattle.graph_lists.specs.Named.{Lists, Named, shows_at, SameRoom}
use Rattle.graph_core.specs.declared.cell.Heads.{Heads}
use Rattle.graph_core.specs.declared.cell.EdgeCell.{EdgeCell}
use Rattle.graph_core.specs.Kept.{NodeCells, EdgeCells, IsKept}
use Rattle.graph_core.specs.Marks.{IsSame, Marks, PartsShow, IsNoPart, MarksParts, HasParts}
use Rattle.graph_core.proofs.Kept.{edge_cell, edge_hook, front_hook, back_hook, stands}
use Rattle.graph_core.proofs.Remarked.{remark_edge, nodes_as_before, one_edge, kept_remarked}

pub same_on : (n m o : Named) → IsSame n m → IsSame m o → IsSame n o
same_on n m o a b = record { heads = b.heads ∙ a.heads; hooks = b.hooks ∙ a.hooks; lists = b.lists ∙ a.lists; loose = b.loose ∙ a.loose }

abbrev is_end : Element → Bool
is_end (Node v) = false
is_end (Edge e) = false
is_end (End d) = true

abbrev is_back : Element → Bool
is_back (Node v) = false
is_back (Edge e) = false
is_back (End d) = d.back

edge_end : (e : ℕ) (d : Dart) → Edge e ≡ End d → ⊥
edge_end e d i = let f = ap is_end i in cc

pub front_back : (e : ℕ) → End (front e) ≡ End (back e) → ⊥
front_back e i = let f = ap is_back i in cc

-- three marks, one after the other
pub three_marks : (n m o p : Named) (e : ℕ) (b : Bool) → Marks n m (Edge e) b → Marks m o (End (front e)) b → Marks o p (End (back e)) b → MarksParts n p e b
three_marks n m o p e b first second third = record {
  same = same_on n o p (same_on n m o first.same second.same) third.same;
  here = record {
    edge = third.else (Edge e) (edge_end e (back e)) ∙ second.else (Edge e) (edge_end e (front e)) ∙ first.here;
    first = third.else (End (front e)) (front_back e) ∙ second.here;
    second = third.here;
  };
  else = λ y none. third.else y none.second ∙ second.else y none.first ∙ first.else y none.edge;
}

-- what shows then
module _ (m : Named) (e : ℕ) (b : Bool) (show : PartsShow m e b) where
  end_shows : (g : Bool) (i : ℕ) → i ≡ e → shows_at m (End (record { edge = i; back = g })) ≡ b
  end_shows true i is = ap (λ i. shows_at m (End (back i))) is ∙ show.second
  end_shows false i is = ap (λ i. shows_at m (End (front i))) is ∙ show.first

  pub part_shows : (x : Element) → IsOf e x → shows_at m x ≡ b
  part_shows (Node v) is = absurd is
  part_shows (Edge i) is = ap (λ i. shows_at m (Edge i)) is ∙ show.edge
  part_shows (End d) is = end_shows d.back d.edge is

pub no_part : (e : ℕ) (x : Element) → (IsOf e x → ⊥) → IsNoPart e x
no_part e x ne = record {
  edge = λ f. ne (subst (IsOf e) (sym f) refl);
  first = λ f. ne (subst (IsOf e) (sym f) refl);
  second = λ f. ne (subst (IsOf e) (sym f) refl);
}

module _ (s : GraphState) (t : Lists) (top : Option Heads) (p : NodeCells) (q : EdgeCells) (k : IsKept s t top p q) (e : ℕ) (c : EdgeCell) (at : map.get q e ≡ Some c) where
  -- the edge stands in the edge list, and its darts where they belong
  pub has_parts : HasParts t.named e c Edges (Out (source s e)) (back_row s.directed (target s e))
  has_parts =
      let live = (edge_cell s t top p q k e c at).listed in
      record {
        hook = edge_hook s t top p q k e c at;
        first = front_hook s t top p q k e c at;
        second = back_hook s t top p q k e c at;
        edge_in = stands s t top p q k (Edge e) live;
        first_in = stands s t top p q k (End (front e)) live;
        second_in = stands s t top p q k (End (back e)) live;
      }

  -- the cell gets another mark, and so does the edge in the state
  module _ (u : Lists) (q' : EdgeCells) (b : Bool) (h : set.FinSet nat_cmp) (marks : (i : ℕ) → set.contains h i ≡ cond (i == e) b (set.contains s.hidden_edges i)) (cells : q' ≡ map.insert q e (remark_edge b c)) (same : IsSame t.named u.named) (room : SameRoom t u) where
    abbrev z : GraphState
    z = with_marks s s.hidden_nodes h

    pub kept_marked : ((x : Element) → IsLive s x → shows_at u.named x ≡ shows z x) → IsKept z u top p q'
    kept_marked shown =
        kept_remarked s t top p q k s.hidden_nodes h u p q' same room (nodes_as_before s t top p q k) (one_edge s t top p q k e c b h q' at marks cells)
        (refl, ap map.len cells ∙ len_kept q e (remark_edge b c) c at) k.formed.hidden_nodes
        (marked_listed s.hidden_edges h e b marks (λ i. Has i s.edges) (edge_cell s t top p q k e c at).listed k.formed.hidden_edges) shown

    -- what shows, where the marks of the parts say what the state says
    pub parts_shown : (w : Bool) → w ≡ (not b && shows_ends s (ends_of s e)) → MarksParts t.named u.named e w → (x : Element) → IsLive s x → shows_at u.named x ≡ shows z x
    parts_shown w is m x i = elim (of_or_not e x) [
      | inl n ↦ part_shows u.named e w m.here x n ∙ is ∙ sym (shows_marked s h e b marks x n)
      | inr ne ↦ m.else x (no_part e x ne) ∙ k.shown x i ∙ sym (shows_unmarked s h e b marks x ne)
    ]
