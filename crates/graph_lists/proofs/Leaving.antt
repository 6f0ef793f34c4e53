-- An element that is unlinked leaves its list, and no other list changes.
use Rattle.std.proofs.Common.{◌≡◌, not, List, [], ◌∷◌, ◌++◌, refl, sym, ap, subst, ◌∙◌, inl}
use Rattle.item_ring.specs.RingLists.{RingLists}
use Rattle.graph_state.specs.declared.name.Element.{Element}
use Rattle.graph_state.specs.Names.{Has, IsOnce, same_element, same_list, without}
use Rattle.graph_state.proofs.Has.{has_right}
use Rattle.graph_state.proofs.Same.{element_tells, same_self, without_out}
use Rattle.graph_lists.specs.Named.{Named, list_at, unlinked, Leaves}
use Rattle.graph_lists.specs.Tied.{AreTied}
use Rattle.graph_lists.proofs.Numbers.{look_each}
use Rattle.graph_lists.proofs.Rows.{some_head, one_list, once_list}
use Rattle.graph_lists.proofs.Shown.{once_cut, filter_cut_out}

without_cut : (x : Element) (before behind : List Element) → (Has x before → ⊥) × (Has x behind → ⊥) → without same_element x (before ++ x ∷ behind) ≡ before ++ behind
without_cut x before behind out =
    filter_cut_out (λ z. not (same_element z x)) x before behind (ap not (same_self same_element element_tells x))
    ∙ (λ i. without_out same_element element_tells x before out.0 i ++ without_out same_element element_tells x behind out.1 i)

pub leaves : (v : Named) (r : RingLists) → AreTied v r → (x : Element) → Leaves v (unlinked x v) x
leaves v r k x l before behind is =
    let has : Has x (list_at v l) = subst (Has x) (sym is) (has_right x before (x ∷ behind) (inl refl)) in
    let h = some_head v r k l x has in
    let out = once_cut x before behind (subst IsOnce is (once_list v r k l h.0 h.1)) in (
      look_each same_list [] (without same_element x) v.lists l refl ∙ ap (without same_element x) is ∙ without_cut x before behind out,
      λ n ne. look_each same_list [] (without same_element x) v.lists n refl ∙ without_out same_element element_tells x (list_at v n) (λ i. ne (one_list v r k n l x i has)),
    )
