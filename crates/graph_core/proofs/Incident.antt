-- The edges at a node, as its lists have them.
use Rattle.std.proofs.Common.{◌≡◌, ℕ, ◌==◌, ◌||◌, Bool, true, false, cond, List, [], ◌∷◌, Option, Some, None, option_map, refl, sym, ap, subst, ◌∙◌, inl, inr}
use Rattle.std.proofs.Common as list
use Rattle.graph_state.specs.declared.name.ListName.TheVariants.{Nodes, Out, In}
use Rattle.graph_state.specs.declared.name.Element.{Element}
use Rattle.graph_state.specs.declared.name.Element.TheVariants.{Node, End}
use Rattle.graph_state.specs.State.{GraphState, front, back, source, target, out_list, in_list}
use Rattle.graph_state.specs.Names.{Has, list_of, number, first_of, back_row}
use Rattle.graph_state.specs.Parts.{IsAlone}
use Rattle.graph_state.specs.Edits.{has_end}
use Rattle.graph_state.proofs.Has.{truth, has_map, has_mapped, has_none, none_has}
use Rattle.graph_state.proofs.Same.{nat_tells}
use Rattle.graph_state.proofs.Removed.{at_out, at_in}
use Rattle.graph_lists.specs.Named.{Lists, Named, head_at, list_at}
use Rattle.graph_lists.specs.Heads.{IsMemberOf, Finds}
use Rattle.graph_core.specs.declared.cell.Heads.{Heads}
use Rattle.graph_core.specs.Kept.{NodeCells, EdgeCells, IsKept}
use Rattle.graph_core.specs.Removal.{IsEndAt}

has_source : (s : GraphState) (v e : ℕ) → v ≡ source s e → has_end s v e ≡ true
has_source s v e n = elim (nat_tells (source s e) v) [ inl y ↦ ap (λ b. b || (target s e == v)) y.0 | inr m ↦ absurd (m.1 (sym n)) ]

has_target : (s : GraphState) (v e : ℕ) → v ≡ target s e → has_end s v e ≡ true
has_target s v e n = elim (nat_tells (target s e) v) [
  | inl y ↦ elim (source s e == v) as (λ b. (b || (target s e == v)) ≡ true) [ true ↦ refl | false ↦ y.0 ]
  | inr m ↦ absurd (m.1 (sym n))
]

-- the first of a list, whose member is found
found_first : (n : Named) (xs : List Element) (m : ℕ) → Finds n false (Some m) (first_of xs) → (x : Element) × (Has x xs × IsMemberOf n false x m)
found_first n [] m f = absurd f
found_first n (x ∷ xs) m f = (x, (inl refl, f))

found_none : (n : Named) (xs : List Element) → Finds n false None (first_of xs) → xs ≡ []
found_none n [] f = refl
found_none n (x ∷ xs) f = absurd f

module _ (s : GraphState) (t : Lists) (top : Option Heads) (p : NodeCells) (q : EdgeCells) (k : IsKept s t top p q) (v : ℕ) where
  out_end : (x : Element) → Has x (list_of s (Out v)) → Has (number x) s.edges × (has_end s v (number x) ≡ true)
  out_end x i =
      let d = has_mapped End x (out_list s v) i in
      let h = k.formed.homes (Out v) (End d.0) (subst (λ x. Has x (list_of s (Out v))) d.1.1 i) in
      let e = d.0.edge in
      subst (λ x. Has (number x) s.edges × (has_end s v (number x) ≡ true)) (sym d.1.1)
      (h.0, elim (at_out d.0.back s.directed (target s e) (source s e) v h.1) [ inl n ↦ has_source s v e n | inr n ↦ has_target s v e n.1 ])

  in_end : (x : Element) → Has x (list_of s (In v)) → Has (number x) s.edges × (has_end s v (number x) ≡ true)
  in_end x i =
      let d = has_mapped End x (in_list s v) i in
      let h = k.formed.homes (In v) (End d.0) (subst (λ x. Has x (list_of s (In v))) d.1.1 i) in
      let e = d.0.edge in
      subst (λ x. Has (number x) s.edges × (has_end s v (number x) ≡ true)) (sym d.1.1)
      (h.0, has_target s v e (at_in d.0.back s.directed (target s e) (source s e) v h.1).1)

  -- the member found is that of an end of an edge at v
  pub found_out : (m : ℕ) → Finds t.named false (Some m) (first_of (list_at t.named (Out v))) → IsEndAt s t.named v m
  found_out m f =
      let h = found_first t.named (list_at t.named (Out v)) m f in
      (h.0, (h.1.1, out_end h.0 (subst (Has h.0) (k.lists (Out v)) h.1.0)))

  pub found_in : (m : ℕ) → Finds t.named false (Some m) (first_of (list_at t.named (In v))) → IsEndAt s t.named v m
  found_in m f =
      let h = found_first t.named (list_at t.named (In v)) m f in
      (h.0, (h.1.1, in_end h.0 (subst (Has h.0) (k.lists (In v)) h.1.0)))

  row_empty : (g : Bool) → list_of s (Out v) ≡ [] → list_of s (In v) ≡ [] → list_of s (back_row g v) ≡ []
  row_empty true outs ins = ins
  row_empty false outs ins = outs

  -- where both lists are empty, no edge has an end at v
  pub found_alone : Finds t.named false None (first_of (list_at t.named (Out v))) → Finds t.named false None (first_of (list_at t.named (In v))) → IsAlone s v
  found_alone f g e i =
      let outs : list_of s (Out v) ≡ [] = sym (k.lists (Out v)) ∙ found_none t.named (list_at t.named (Out v)) f in
      let ins : list_of s (In v) ≡ [] = sym (k.lists (In v)) ∙ found_none t.named (list_at t.named (In v)) g in
      elim (truth (has_end s v e)) [
        | inr n ↦ n
        | inl y ↦ absurd (elim (nat_tells (source s e) v) [
          | inl a ↦ has_none (list_of s (Out v)) outs (End (front e)) (subst (λ u. Has (End (front e)) (list_of s (Out u))) a.1 (k.formed.housed (End (front e)) i))
          | inr a ↦ elim (nat_tells (target s e) v) [
            | inl b ↦ has_none (list_of s (back_row s.directed v)) (row_empty s.directed outs ins) (End (back e))
                (subst (λ u. Has (End (back e)) (list_of s (back_row s.directed u))) b.1 (k.formed.housed (End (back e)) i))
            | inr b ↦ let n : true ≡ false = sym y ∙ ap (λ c. c || (target s e == v)) a.0 ∙ b.0 in cc
          ]
        ])
      ]

-- the first node, as the node list has it
module _ (s : GraphState) (t : Lists) (top : Option Heads) (p : NodeCells) (q : EdgeCells) (k : IsKept s t top p q) where
  pub nodes_head : (h : Heads) → top ≡ Some h → head_at t.named Nodes ≡ Some h.nodes
  nodes_head h is = k.heads Nodes ∙ ap (option_map (λ (h : Heads). h.nodes)) is

  pub found_node : (m : ℕ) → Finds t.named false (Some m) (first_of (list_at t.named Nodes)) → (x : Element) × (IsMemberOf t.named false x m × Has (number x) s.nodes)
  found_node m f =
      let h = found_first t.named (list_at t.named Nodes) m f in
      let v = has_mapped Node h.0 s.nodes (subst (Has h.0) (k.lists Nodes) h.1.0) in
      (h.0, (h.1.1, subst (λ x. Has (number x) s.nodes) (sym v.1.1) v.1.0))

  pub no_nodes : Finds t.named false None (first_of (list_at t.named Nodes)) → s.nodes ≡ []
  no_nodes f =
      let none : list.map Node s.nodes ≡ [] = sym (k.lists Nodes) ∙ found_none t.named (list_at t.named Nodes) f in
      none_has s.nodes (λ v i. has_none (list.map Node s.nodes) none (Node v) (has_map Node v s.nodes i))
