-- A state in which an edge that has no reversal goes elsewhere: its lists, and that it is
-- well-formed.
use Rattle.std.proofs.Common.{◌≡◌, ℕ, Bool, true, false, cond, not, ◌&&◌, List, ◌++◌, filter, None, unwrap_or, refl, sym, ap, subst, ◌∙◌, ◌⊎◌, inl, inr}
use Rattle.std.specs.FinMap as map
use Rattle.std.specs.FinSet as set
use Rattle.graph_state.specs.declared.name.ListName.{ListName}
use Rattle.graph_state.specs.declared.name.ListName.TheVariants.{Nodes, Edges, Out, In}
use Rattle.graph_state.specs.declared.name.Element.{Element}
use Rattle.graph_state.specs.declared.name.Element.TheVariants.{Node, Edge, End}
use Rattle.graph_state.specs.State.{GraphState, front, back, ends_of, shows_node, shows_ends, shows_edge}
use Rattle.graph_state.specs.Names.{Has, IsOnce, list_of, IsLive, home, shows, same_list, back_row}
use Rattle.graph_state.specs.Formed.{IsFormed}
use Rattle.graph_state.specs.Parts.{is_dart}
use Rattle.graph_state.specs.Edits.{darts_out, front_to_rear, back_to_rear, unpaired, moved}
use Rattle.graph_state.proofs.Has.{truth, not_both, has_left, has_right, has_either, has_filter, filter_has, once_filter}
use Rattle.graph_state.proofs.Same.{nat_tells}
use Rattle.graph_state.proofs.Maps.{put_here, put_else}
use Rattle.graph_state.proofs.Lists.{one, front_lists, back_lists}
use Rattle.graph_state.proofs.Added.{has_one, one_has, once_one, list_is, same_is_true}
use Rattle.graph_state.proofs.Removed.{not_equal, lists_out, pair_spared}

-- the state with other ends of e, which has no reversal
abbrev ends_put : ℕ → ℕ → ℕ → GraphState → GraphState
ends_put e v w s = record s { ends = map.insert s.ends e (v, w) }

unfoldable pub edge_moved : ℕ → ℕ → ℕ → GraphState → GraphState
edge_moved e v w s = back_to_rear w e (front_to_rear v e (ends_put e v w (darts_out e s)))

-- to move an edge is to take its reversal from it, and then to move it
pub moved_is : (e v w : ℕ) (s : GraphState) → moved e v w s ≡ edge_moved e v w (unpaired e s)
unfolding moved edge_moved
moved_is e v w s = refl

abbrev is_back : Element → Bool
is_back (Node v) = false
is_back (Edge e) = false
is_back (End d) = d.back

module _ (s : GraphState) (f : IsFormed s) (e v w : ℕ) (here : Has e s.edges) where
  abbrev z : GraphState
  z = edge_moved e v w s

  abbrev first : ListName → List Element
  first l = filter (λ x. not (is_dart e x)) (list_of s l)

  abbrev second : ListName → List Element
  second l = first l ++ one (same_list (Out v) l) (End (front e))

  abbrev third : ListName → List Element
  third l = second l ++ one (same_list (back_row s.directed w) l) (End (back e))

  same_lists : (t : GraphState) (l : ListName) → list_of (ends_put e v w t) l ≡ list_of t l
  same_lists t Nodes = refl
  same_lists t Edges = refl
  same_lists t (Out u) = refl
  same_lists t (In u) = refl

  pub lists_moved : (l : ListName) → list_of z l ≡ third l
  unfolding edge_moved
  lists_moved l =
      let t = ends_put e v w (darts_out e s) in
      back_lists w e (front_to_rear v e t) l
      ∙ ap (λ xs. xs ++ one (same_list (back_row s.directed w) l) (End (back e)))
      (front_lists v e t l ∙ ap (λ xs. xs ++ one (same_list (Out v) l) (End (front e))) (same_lists (darts_out e s) l ∙ lists_out s f e here l))

  -- the ends of e are new, and those of the others stay
  pub ends_here : (k : ℕ) → k ≡ e → ends_of z k ≡ (v, w)
  unfolding edge_moved
  ends_here k n = ap (λ o. unwrap_or o (0, 0)) (put_here s.ends e (v, w) k n)

  pub ends_else : (k : ℕ) → (k ≡ e → ⊥) → ends_of z k ≡ ends_of s k
  unfolding edge_moved
  ends_else k ne = ap (λ o. unwrap_or o (0, 0)) (put_else s.ends e (v, w) k ne)

  pub live_moved : (x : Element) → IsLive z x → IsLive s x
  unfolding edge_moved
  live_moved (Node u) i = i
  live_moved (Edge k) i = i
  live_moved (End d) i = i

  moved_live : (x : Element) → IsLive s x → IsLive z x
  unfolding edge_moved
  moved_live (Node u) i = i
  moved_live (Edge k) i = i
  moved_live (End d) i = i

  home_else : (x : Element) → not (is_dart e x) ≡ true → home z x ≡ home s x
  unfolding edge_moved
  home_else (Node u) n = refl
  home_else (Edge k) n = refl
  home_else (End d) n = ap (λ (p : ℕ × ℕ). cond d.back (back_row s.directed p.1) (Out p.0)) (ends_else d.edge (not_equal d.edge e n))

  home_front : home z (End (front e)) ≡ Out v
  unfolding edge_moved
  home_front = ap (λ (p : ℕ × ℕ). Out p.0) (ends_here e refl)

  home_back : home z (End (back e)) ≡ back_row s.directed w
  unfolding edge_moved
  home_back = ap (λ (p : ℕ × ℕ). back_row s.directed p.1) (ends_here e refl)

  -- a visible edge that goes between visible nodes still shows, and all else as before
  module _ (seen : shows_edge s e ≡ true) (shown : shows_ends s (v, w) ≡ true) where
    unhidden : not (set.contains s.hidden_edges e) ≡ true
    unhidden = elim (truth (not (set.contains s.hidden_edges e))) [
      | inl t ↦ t
      | inr n ↦ absurd (not_both seen (ap (λ b. b && shows_ends s (ends_of s e)) n))
    ]

    shows_edge_moved : (k : ℕ) → shows z (Edge k) ≡ shows s (Edge k)
    unfolding edge_moved
    shows_edge_moved k = elim (nat_tells k e) [
      | inl y ↦
          (λ j. not (set.contains s.hidden_edges (y.1 j)) && (shows_node s (ends_here k y.1 j).0 && shows_node s (ends_here k y.1 j).1))
          ∙ (λ j. unhidden j && shown j) ∙ sym (ap (shows_edge s) y.1 ∙ seen)
      | inr n ↦ (λ j. not (set.contains s.hidden_edges k) && (shows_node s (ends_else k n.1 j).0 && shows_node s (ends_else k n.1 j).1))
    ]

    pub shows_moved : (x : Element) → shows z x ≡ shows s x
    unfolding edge_moved
    shows_moved (Node u) = refl
    shows_moved (Edge k) = shows_edge_moved k
    shows_moved (End d) = shows_edge_moved d.edge

  -- x is a dart of e, in the list where it goes
  abbrev IsMoved : ListName → Element → Type 0
  IsMoved l x = ((x ≡ End (front e)) × (Out v ≡ l)) ⊎ ((x ≡ End (back e)) × (back_row s.directed w ≡ l))

  found : (l : ListName) (x : Element) → Has x (third l) → (Has x (list_of s l) × (not (is_dart e x) ≡ true)) ⊎ IsMoved l x
  found l x i = elim (has_either x (second l) (one (same_list (back_row s.directed w) l) (End (back e))) i) [
    | inl j ↦ elim (has_either x (first l) (one (same_list (Out v) l) (End (front e))) j) [
      | inl h ↦ inl (has_filter (λ x. not (is_dart e x)) x (list_of s l) h)
      | inr h ↦ let o = has_one (same_list (Out v) l) x (End (front e)) h in inr (inl (o.1, list_is (Out v) l o.0))
    ]
    | inr j ↦ let o = has_one (same_list (back_row s.directed w) l) x (End (back e)) j in inr (inr (o.1, list_is (back_row s.directed w) l o.0))
  ]

  in_first : (l : ListName) (x : Element) → Has x (list_of s l) → not (is_dart e x) ≡ true → Has x (third l)
  in_first l x i n = has_left x (second l) _ (has_left x (first l) _ (filter_has (λ x. not (is_dart e x)) x (list_of s l) i n))

  front_there : Has (End (front e)) (third (Out v))
  front_there = has_left _ (second (Out v)) _ (has_right _ (first (Out v)) _ (one_has (same_list (Out v) (Out v)) _ (same_is_true (Out v))))

  back_there : Has (End (back e)) (third (back_row s.directed w))
  back_there = has_right _ (second (back_row s.directed w)) _ (one_has (same_list (back_row s.directed w) (back_row s.directed w)) _ (same_is_true (back_row s.directed w)))

  end_there : (b : Bool) (k : ℕ) → k ≡ e → Has (End (record { edge = k; back = b })) (third (home z (End (record { edge = k; back = b }))))
  end_there true k n = subst (λ k. Has (End (back k)) (third (home z (End (back k))))) (sym n) (subst (λ l. Has (End (back e)) (third l)) (sym home_back) back_there)
  end_there false k n = subst (λ k. Has (End (front k)) (third (home z (End (front k))))) (sym n) (subst (λ l. Has (End (front e)) (third l)) (sym home_front) front_there)

  dart_there : (x : Element) → is_dart e x ≡ true → Has x (third (home z x))
  dart_there (Node u) t = absurd (not_both t refl)
  dart_there (Edge k) t = absurd (not_both t refl)
  dart_there (End d) t = end_there d.back d.edge (elim (nat_tells d.edge e) [ inl y ↦ y.1 | inr n ↦ absurd (not_both t n.0) ])

  taken_out : (b : Bool) (l : ListName) → Has (End (record { edge = e; back = b })) (first l) → ⊥
  taken_out b l i = not_equal e e (has_filter (λ x. not (is_dart e x)) (End (record { edge = e; back = b })) (list_of s l) i).1 refl

  once_moved : (l : ListName) → IsOnce (third l)
  once_moved l =
      let back_out : Has (End (back e)) (second l) → ⊥ = λ i. elim (has_either (End (back e)) (first l) (one (same_list (Out v) l) (End (front e))) i) [
        | inl j ↦ taken_out true l j
        | inr j ↦ let n = ap is_back (has_one (same_list (Out v) l) (End (back e)) (End (front e)) j).1 in cc
      ] in
      once_one (same_list (back_row s.directed w) l) (End (back e)) (second l) back_out
      (once_one (same_list (Out v) l) (End (front e)) (first l) (taken_out false l) (once_filter (λ x. not (is_dart e x)) (list_of s l) (f.once l)))

  module _ (hv : Has v s.nodes) (hw : Has w s.nodes) where
    moved_home : (l : ListName) (x : Element) → IsMoved l x → IsLive z x × (home z x ≡ l)
    moved_home l x (inl m) = subst (λ x. IsLive z x × (home z x ≡ l)) (sym m.0) (moved_live (End (front e)) here, home_front ∙ m.1)
    moved_home l x (inr m) = subst (λ x. IsLive z x × (home z x ≡ l)) (sym m.0) (moved_live (End (back e)) here, home_back ∙ m.1)

    pub formed_moved : map.get s.reversals e ≡ None → IsFormed z
    unfolding edge_moved
    formed_moved none = record {
      homes = λ l x i. elim (found l x (subst (Has x) (lists_moved l) i)) [
        | inl j ↦ let h = f.homes l x j.0 in (moved_live x h.0, home_else x j.1 ∙ h.1)
        | inr m ↦ moved_home l x m
      ];
      housed = λ x i. subst (Has x) (sym (lists_moved (home z x))) (elim (truth (is_dart e x)) [
        | inl t ↦ dart_there x t
        | inr n ↦ in_first (home z x) x (subst (λ l. Has x (list_of s l)) (sym (home_else x (ap not n))) (f.housed x (live_moved x i))) (ap not n)
      ]);
      once = λ l. subst IsOnce (sym (lists_moved l)) (once_moved l);
      ends = λ k i. elim (nat_tells k e) [
        | inl y ↦ subst (λ (p : ℕ × ℕ). Has p.0 s.nodes × Has p.1 s.nodes) (sym (ends_here k y.1)) (hv, hw)
        | inr n ↦ subst (λ (p : ℕ × ℕ). Has p.0 s.nodes × Has p.1 s.nodes) (sym (ends_else k n.1)) (f.ends k i)
      ];
      reversals = λ k g r. pair_spared s z f e none ends_else (λ k i n. i) k g r refl;
      hidden_nodes = f.hidden_nodes;
      hidden_edges = f.hidden_edges;
      given_nodes = f.given_nodes;
      given_edges = f.given_edges;
      node_labels = f.node_labels;
      edge_labels = f.edge_labels;
      few = f.few;
      made = f.made;
      types = f.types;
    }
