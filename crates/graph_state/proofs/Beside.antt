-- A state with a new edge whose front dart stands next to another one is well-formed.
use Rattle.std.proofs.Common.{◌≡◌, ℕ, ◌+◌, Bool, true, false, cond, ◌==◌, List, [], ◌∷◌, ◌++◌, Some, unwrap_or, refl, sym, ap, subst, ◌∙◌, ◌⊎◌, inl, inr}
use Rattle.std.proofs.Common as list
use Rattle.graph_defs.specs.declared.dart.Dart.{Dart}
use Rattle.graph_state.specs.declared.kind.Side.{Side}
use Rattle.graph_state.specs.declared.kind.Side.TheVariants.{Before, Behind}
use Rattle.graph_state.specs.declared.name.ListName.{ListName}
use Rattle.graph_state.specs.declared.name.ListName.TheVariants.{Nodes, Edges, Out, In}
use Rattle.graph_state.specs.declared.name.Element.{Element}
use Rattle.graph_state.specs.declared.name.Element.TheVariants.{Node, Edge, End}
use Rattle.graph_state.specs.State.{GraphState, front, back, ends_of, source, out_list}
use Rattle.graph_state.specs.Names.{Has, IsOnce, list_of, home, same_dart, same_element, same_list, back_row, behind, before}
use Rattle.graph_state.specs.Formed.{IsFormed}
use Rattle.graph_state.specs.Edits.{with_out, enters, back_to_rear, with_edge_before, with_edge_behind}
use Rattle.graph_state.specs.Beside.{beside, with_edge_beside}
use Rattle.graph_state.proofs.Has.{has_left, has_right, has_either}
use Rattle.graph_state.proofs.Same.{nat_tells, list_tells, element_tells, behind_out, before_out, has_behind, has_before, new_behind, new_before, behind_has, before_has, once_behind, once_before}
use Rattle.graph_state.proofs.Maps.{put_here, list_put}
use Rattle.graph_state.proofs.Lists.{one, back_lists, enters_lists}
use Rattle.graph_state.proofs.Added.{IsOf, AddsEdge, has_one, one_has, once_one, list_is, same_is_true, nowhere}

-- the same of both sides
beside_out : (side : Side) (x y : Element) (zs : List Element) → (Has x zs → ⊥) → beside same_element side x y zs ≡ zs
beside_out Before = before_out same_element element_tells
beside_out Behind = behind_out same_element element_tells

has_beside : (side : Side) (x y k : Element) (zs : List Element) → Has k zs → Has k (beside same_element side x y zs)
has_beside Before = has_before same_element element_tells
has_beside Behind = has_behind same_element element_tells

new_beside : (side : Side) (x y : Element) (zs : List Element) → Has x zs → Has y (beside same_element side x y zs)
new_beside Before = new_before same_element element_tells
new_beside Behind = new_behind same_element element_tells

beside_has : (side : Side) (x y k : Element) (zs : List Element) → Has k (beside same_element side x y zs) → Has k zs ⊎ (k ≡ y)
beside_has Before = before_has same_element element_tells
beside_has Behind = behind_has same_element element_tells

once_beside : (side : Side) (x y : Element) (zs : List Element) → (Has y zs → ⊥) → IsOnce zs → IsOnce (beside same_element side x y zs)
once_beside Before = once_before same_element element_tells
once_beside Behind = once_behind same_element element_tells

-- darts, and the ends that they are
end_before : (x y : Dart) (zs : List Dart) → list.map End (before same_dart x y zs) ≡ before same_element (End x) (End y) (list.map End zs)
end_before x y [] = refl
end_before x y (z ∷ zs) = elim (same_dart z x) as (λ b. list.map End (cond b (y ∷ z ∷ zs) (z ∷ before same_dart x y zs)) ≡ cond b (End y ∷ End z ∷ list.map End zs) (End z ∷ before same_element (End x) (End y) (list.map End zs))) [
  | true ↦ refl
  | false ↦ ap (λ ys. End z ∷ ys) (end_before x y zs)
]

end_behind : (x y : Dart) (zs : List Dart) → list.map End (behind same_dart x y zs) ≡ behind same_element (End x) (End y) (list.map End zs)
end_behind x y [] = refl
end_behind x y (z ∷ zs) = elim (same_dart z x) as (λ b. list.map End (cond b (z ∷ y ∷ zs) (z ∷ behind same_dart x y zs)) ≡ cond b (End z ∷ End y ∷ list.map End zs) (End z ∷ behind same_element (End x) (End y) (list.map End zs))) [
  | true ↦ refl
  | false ↦ ap (λ ys. End z ∷ ys) (end_behind x y zs)
]

end_beside : (side : Side) (x y : Dart) (zs : List Dart) → list.map End (beside same_dart side x y zs) ≡ beside same_element side (End x) (End y) (list.map End zs)
end_beside Before = end_before
end_beside Behind = end_behind

abbrev is_end : Element → Bool
is_end (Node v) = false
is_end (Edge e) = false
is_end (End d) = true

abbrev is_back : Element → Bool
is_back (Node v) = false
is_back (Edge e) = false
is_back (End d) = d.back

abbrev is_out : ListName → Bool
is_out Nodes = false
is_out Edges = false
is_out (Out u) = true
is_out (In u) = false

abbrev node_in : ListName → ℕ
node_in Nodes = 0
node_in Edges = 0
node_in (Out u) = u
node_in (In u) = u

-- a new edge from the source of e
module _ (s : GraphState) (f : IsFormed s) (side : Side) (e w : ℕ) (label : List ℕ) (he : Has e s.edges) where
  abbrev entered : GraphState
  entered = enters (source s e) w label s

  abbrev middle : GraphState
  middle = with_out (source s e) (beside same_dart side (front e) (front (s.made_edges + 1)) (out_list s (source s e))) entered

  abbrev last : GraphState
  last = back_to_rear w (s.made_edges + 1) middle

  state_is : (side' : Side) → with_edge_beside side' e w label s ≡ back_to_rear w (s.made_edges + 1) (with_out (source s e) (beside same_dart side' (front e) (front (s.made_edges + 1)) (out_list s (source s e))) (enters (source s e) w label s))
  unfolding with_edge_before with_edge_behind
  state_is Before = refl
  state_is Behind = refl

  abbrev first : ListName → List Element
  first l = list_of s l ++ one (same_list Edges l) (Edge (s.made_edges + 1))

  abbrev second : ListName → List Element
  second l = beside same_element side (End (front e)) (End (front (s.made_edges + 1))) (first l)

  abbrev third : ListName → List Element
  third l = second l ++ one (same_list (back_row s.directed w) l) (End (back (s.made_edges + 1)))

  -- the front dart of e stands in one list alone
  only_out : (l : ListName) → Has (End (front e)) (list_of entered l) → l ≡ Out (source s e)
  only_out l i = elim (has_either (End (front e)) (list_of s l) (one (same_list Edges l) (Edge (s.made_edges + 1))) (subst (Has (End (front e))) (enters_lists (source s e) w label s l) i)) [
    | inl j ↦ sym (f.homes l (End (front e)) j).1
    | inr j ↦ let n = ap is_end (has_one (same_list Edges l) (End (front e)) (Edge (s.made_edges + 1)) j).1 in cc
  ]

  abbrev placed : ListName → List Element
  placed l = beside same_element side (End (front e)) (End (front (s.made_edges + 1))) (list_of entered l)

  same_as : (l : ListName) → (l ≡ Out (source s e) → ⊥) → list_of entered l ≡ placed l
  same_as l ne = sym (beside_out side (End (front e)) (End (front (s.made_edges + 1))) (list_of entered l) (λ i. ne (only_out l i)))

  front_beside : (l : ListName) → list_of middle l ≡ placed l
  front_beside Nodes = same_as Nodes (λ n. let o = ap is_out n in cc)
  front_beside Edges = same_as Edges (λ n. let o = ap is_out n in cc)
  front_beside (In u) = same_as (In u) (λ n. let o = ap is_out n in cc)
  front_beside (Out u) =
      let ds = beside same_dart side (front e) (front (s.made_edges + 1)) (out_list s (source s e)) in
      ap (list.map End) (list_put s.outs (source s e) ds u) ∙ elim (nat_tells u (source s e)) [
        | inl y ↦
            ap (λ b. list.map End (cond b ds (out_list s u))) y.0 ∙ end_beside side (front e) (front (s.made_edges + 1)) (out_list s (source s e))
            ∙ ap (λ v. placed (Out v)) (sym y.1)
        | inr n ↦ ap (λ b. list.map End (cond b ds (out_list s u))) n.0 ∙ same_as (Out u) (λ o. n.1 (ap node_in o))
      ]

  pub beside_lists : (l : ListName) → list_of last l ≡ third l
  beside_lists l =
      back_lists w (s.made_edges + 1) middle l
      ∙ ap (λ xs. xs ++ one (same_list (back_row s.directed w) l) (End (back (s.made_edges + 1))))
      (front_beside l ∙ ap (beside same_element side (End (front e)) (End (front (s.made_edges + 1)))) (enters_lists (source s e) w label s l))

  ends_k : ends_of last (s.made_edges + 1) ≡ (source s e, w)
  ends_k = ap (λ o. unwrap_or o (0, 0)) (put_here s.ends (s.made_edges + 1) (source s e, w) (s.made_edges + 1) refl)

  home_front : home last (End (front (s.made_edges + 1))) ≡ Out (source s e)
  home_front = ap (λ (p : ℕ × ℕ). Out p.0) ends_k

  home_back : home last (End (back (s.made_edges + 1))) ≡ back_row s.directed w
  home_back = ap (λ (p : ℕ × ℕ). back_row s.directed p.1) ends_k

  -- the front dart of e stands in its list before the new one comes
  stands_first : Has (End (front e)) (first (Out (source s e)))
  stands_first = has_left (End (front e)) (list_of s (Out (source s e))) _ (f.housed (End (front e)) he)

  stands_only : (l : ListName) → Has (End (front (s.made_edges + 1))) (second l) → (Has (End (front e)) (first l) → ⊥) → Has (End (front (s.made_edges + 1))) (first l)
  stands_only l i out = subst (Has (End (front (s.made_edges + 1)))) (beside_out side (End (front e)) (End (front (s.made_edges + 1))) (first l) out) i

  new_first : (l : ListName) (x : Element) → Has x (first l) → Has x (list_of s l) ⊎ (IsOf (s.made_edges + 1) x × (home last x ≡ l))
  new_first l x i = elim (has_either x (list_of s l) (one (same_list Edges l) (Edge (s.made_edges + 1))) i) [
    | inl g ↦ inl g
    | inr g ↦ let o = has_one (same_list Edges l) x (Edge (s.made_edges + 1)) g in
        inr (subst (IsOf (s.made_edges + 1)) (sym o.1) refl, ap (home last) o.1 ∙ list_is Edges l o.0)
  ]

  -- no new dart stands in a list before
  no_end : (b : Bool) (l : ListName) → Has (End (record { edge = s.made_edges + 1; back = b })) (first l) → ⊥
  no_end b l i = elim (has_either (End (record { edge = s.made_edges + 1; back = b })) (list_of s l) (one (same_list Edges l) (Edge (s.made_edges + 1))) i) [
    | inl j ↦ nowhere s f l (End (record { edge = s.made_edges + 1; back = b })) refl j
    | inr j ↦ let n = ap is_end (has_one (same_list Edges l) (End (record { edge = s.made_edges + 1; back = b })) (Edge (s.made_edges + 1)) j).1 in cc
  ]

  found_front : (l : ListName) → Has (End (front (s.made_edges + 1))) (second l) → l ≡ Out (source s e)
  found_front l i = elim (list_tells l (Out (source s e))) [
    | inl y ↦ y.1
    | inr n ↦ absurd (no_end false l (stands_only l i (λ j. elim (has_either (End (front e)) (list_of s l) (one (same_list Edges l) (Edge (s.made_edges + 1))) j) [
      | inl h ↦ n.1 (sym (f.homes l (End (front e)) h).1)
      | inr h ↦ let m = ap is_end (has_one (same_list Edges l) (End (front e)) (Edge (s.made_edges + 1)) h).1 in cc
    ])))
  ]

  found_edge : (l : ListName) (x : Element) → Has x (third l) → Has x (list_of s l) ⊎ (IsOf (s.made_edges + 1) x × (home last x ≡ l))
  found_edge l x i = elim (has_either x (second l) (one (same_list (back_row s.directed w) l) (End (back (s.made_edges + 1)))) i) [
    | inl j ↦ elim (beside_has side (End (front e)) (End (front (s.made_edges + 1))) x (first l) j) [
      | inl h ↦ new_first l x h
      | inr n ↦ inr (subst (IsOf (s.made_edges + 1)) (sym n) refl, ap (home last) n ∙ home_front ∙ sym (found_front l (subst (λ x. Has x (second l)) n j)))
    ]
    | inr j ↦ let o = has_one (same_list (back_row s.directed w) l) x (End (back (s.made_edges + 1))) j in
        inr (subst (IsOf (s.made_edges + 1)) (sym o.1) refl, ap (home last) o.1 ∙ home_back ∙ list_is (back_row s.directed w) l o.0)
  ]

  in_first : (l : ListName) (x : Element) → Has x (first l) → Has x (third l)
  in_first l x i = has_left x (second l) _ (has_beside side (End (front e)) (End (front (s.made_edges + 1))) x (first l) i)

  front_there : Has (End (front (s.made_edges + 1))) (third (Out (source s e)))
  front_there = has_left _ (second (Out (source s e))) _ (new_beside side (End (front e)) (End (front (s.made_edges + 1))) (first (Out (source s e))) stands_first)

  back_there : Has (End (back (s.made_edges + 1))) (third (back_row s.directed w))
  back_there = has_right _ (second (back_row s.directed w)) _ (one_has (same_list (back_row s.directed w) (back_row s.directed w)) _ (same_is_true (back_row s.directed w)))

  there_end : (b : Bool) (i : ℕ) → i ≡ s.made_edges + 1 → Has (End (record { edge = i; back = b })) (third (home last (End (record { edge = i; back = b }))))
  there_end true i n = subst (λ i. Has (End (back i)) (third (home last (End (back i))))) (sym n) (subst (λ l. Has (End (back (s.made_edges + 1))) (third l)) (sym home_back) back_there)
  there_end false i n = subst (λ i. Has (End (front i)) (third (home last (End (front i))))) (sym n) (subst (λ l. Has (End (front (s.made_edges + 1))) (third l)) (sym home_front) front_there)

  there_edge : (x : Element) → IsOf (s.made_edges + 1) x → Has x (third (home last x))
  there_edge (Node u) n = absurd n
  there_edge (Edge i) n = in_first Edges (Edge i) (has_right (Edge i) (list_of s Edges) _ (inl (ap Edge n)))
  there_edge (End d) n = there_end d.back d.edge n

  no_back : (l : ListName) → Has (End (back (s.made_edges + 1))) (second l) → ⊥
  no_back l i = elim (beside_has side (End (front e)) (End (front (s.made_edges + 1))) (End (back (s.made_edges + 1))) (first l) i) [
    | inl j ↦ no_end true l j
    | inr n ↦ let m = ap is_back n in cc
  ]

  once_edge : (l : ListName) → IsOnce (third l)
  once_edge l =
      once_one (same_list (back_row s.directed w) l) (End (back (s.made_edges + 1))) (second l) (no_back l)
      (once_beside side (End (front e)) (End (front (s.made_edges + 1))) (first l) (no_end false l)
      (once_one (same_list Edges l) (Edge (s.made_edges + 1)) (list_of s l) (nowhere s f l (Edge (s.made_edges + 1)) refl) (f.once l)))

  adds_last : AddsEdge s last (source s e) w label
  adds_last = record {
    directed = refl;
    nodes = refl;
    edges = refl;
    ends = refl;
    reversals = refl;
    node_labels = refl;
    edge_labels = refl;
    hidden_nodes = refl;
    hidden_edges = refl;
    made_nodes = refl;
    made_edges = refl;
    types = (refl, refl);
    found = λ l x i. found_edge l x (subst (Has x) (beside_lists l) i);
    kept = λ l x i. subst (Has x) (sym (beside_lists l)) (in_first l x (has_left x (list_of s l) _ i));
    there = λ x n. subst (Has x) (sym (beside_lists (home last x))) (there_edge x n);
    once = λ l. subst IsOnce (sym (beside_lists l)) (once_edge l);
  }

  pub adds_beside : AddsEdge s (with_edge_beside side e w label s) (source s e) w label
  adds_beside = subst (λ z. AddsEdge s z (source s e) w label) (sym (state_is side)) adds_last

  pub lists_beside : (l : ListName) → list_of (with_edge_beside side e w label s) l ≡ third l
  lists_beside l = ap (λ z. list_of z l) (state_is side) ∙ beside_lists l
