-- Elements that leave their lists, and are gone.
use Rattle.std.proofs.Common.{◌≡◌, ℕ, ◌+◌, Bool, true, false, not, ◌&&◌, ◌||◌, List, [], filter, None, refl, sym, ap, subst, ◌∙◌, inl, inr, arith}
use Rattle.graph_state.specs.declared.name.ListName.{ListName}
use Rattle.graph_state.specs.declared.name.Element.{Element}
use Rattle.graph_state.specs.declared.name.Element.TheVariants.{Node, Edge, End}
use Rattle.graph_state.specs.State.{front, back}
use Rattle.graph_state.specs.Names.{Has, same_element, same_list, without}
use Rattle.graph_state.specs.Parts.{is_part}
use Rattle.graph_state.proofs.Has.{truth, not_both, filter_has, filter_twice, filter_same}
use Rattle.graph_state.proofs.Same.{element_tells, same_is}
use Rattle.graph_lists.specs.Named.{Lists, Named, hook_at, list_at, SameRoom, unlinked, unhooked}
use Rattle.graph_lists.proofs.Numbers.{look_new, look_else, look_each}
use Rattle.graph_core.specs.Removal.{is_it, Drops}
use Rattle.graph_core.proofs.Names.{taken}

is_same : (x y : Element) → is_it x y ≡ true → y ≡ x
is_same x y t = elim (element_tells y x) [ inl e ↦ e.1 | inr n ↦ absurd (not_both t n.0) ]

is_other : (x y : Element) → is_it x y ≡ false → y ≡ x → ⊥
is_other x y f e = not_both (same_is same_element element_tells y x e) f

-- one element leaves its list, and is gone
pub drops_one : (t m u : Lists) (x : Element) → m.named ≡ unlinked x t.named → SameRoom t m → u.named ≡ unhooked x m.named → u.members + 2 ≡ m.members → u.heads ≡ m.heads → Drops t u (is_it x) 2
drops_one t m u x first room second fewer same = record {
  heads = ap (λ (n : Named). n.heads) second ∙ ap (λ (n : Named). n.heads) first;
  lists = λ l. ap (λ n. list_at n l) second ∙ ap (λ n. list_at n l) first ∙ look_each same_list [] (without same_element x) t.named.lists l refl;
  gone = λ y e. ap (λ n. hook_at n y) second ∙ subst (λ y. hook_at (unhooked x m.named) y ≡ None) (sym (is_same x y e)) (look_new same_element element_tells None x None m.named.hooks);
  hooks = λ y e. ap (λ n. hook_at n y) second ∙ look_else same_element element_tells None x y None m.named.hooks (is_other x y e) ∙ ap (λ n. hook_at n y) first;
  shown = ap (λ (n : Named). n.shown) second ∙ ap (λ (n : Named). n.shown) first;
  loose = ap (λ (n : Named). n.loose) second ∙ ap (λ (n : Named). without same_element x n.loose) first ∙ taken x t.named.loose;
  same = same ∙ room.heads;
  fewer = fewer ∙ room.members;
}

neither : (a b : Bool) → (not a && not b) ≡ not (a || b)
neither true b = refl
neither false b = refl

left_of : (a b : Bool) → (a || b) ≡ true → b ≡ false → a ≡ true
left_of true b t f = refl
left_of false b t f = absurd (not_both t f)

none_of : (a b : Bool) → (a || b) ≡ false → (a ≡ false) × (b ≡ false)
none_of true b f = absurd (not_both refl f)
none_of false b f = (refl, f)

both_out : (p q : Element → Bool) (xs : List Element) → filter (λ x. not (q x)) (filter (λ x. not (p x)) xs) ≡ filter (λ x. not (p x || q x)) xs
both_out p q xs = filter_twice (λ x. not (q x)) (λ x. not (p x)) xs ∙ filter_same (λ x. not (p x) && not (q x)) (λ x. not (p x || q x)) xs (λ x i. neither (p x) (q x))

pub still_there : (t u : Lists) (x y : Element) (l : ListName) → Drops t u (is_it x) 2 → is_it x y ≡ false → Has y (list_at t.named l) → Has y (list_at u.named l)
still_there t u x y l d n i = subst (Has y) (sym (d.lists l)) (filter_has (λ y. not (is_it x y)) y (list_at t.named l) i (ap not n))

-- some leave, and then others
pub drops_on : (t m u : Lists) (p q : Element → Bool) (a b : ℕ) → Drops t m p a → Drops m u q b → Drops t u (λ x. p x || q x) (a + b)
drops_on t m u p q a b first second = record {
  heads = second.heads ∙ first.heads;
  lists = λ l. second.lists l ∙ ap (filter (λ x. not (q x))) (first.lists l) ∙ both_out p q (list_at t.named l);
  gone = λ x e. elim (truth (q x)) [
    | inl y ↦ second.gone x y
    | inr n ↦ second.hooks x n ∙ first.gone x (left_of (p x) (q x) e n)
  ];
  hooks = λ x e. let n = none_of (p x) (q x) e in second.hooks x n.1 ∙ first.hooks x n.0;
  shown = second.shown ∙ first.shown;
  loose = second.loose ∙ ap (filter (λ x. not (q x))) first.loose ∙ both_out p q t.named.loose;
  same = second.same ∙ first.same;
  fewer = let m = first.fewer in let n = second.fewer in omega (arith, m, n);
}

pub drops_as : (t u : Lists) (p q : Element → Bool) (n : ℕ) → ((x : Element) → p x ≡ q x) → Drops t u p n → Drops t u q n
drops_as t u p q n is d = record {
  heads = d.heads;
  lists = λ l. d.lists l ∙ filter_same (λ x. not (p x)) (λ x. not (q x)) (list_at t.named l) (λ x i. ap not (is x));
  gone = λ x e. d.gone x (is x ∙ e);
  hooks = λ x e. d.hooks x (is x ∙ e);
  shown = d.shown;
  loose = d.loose ∙ filter_same (λ x. not (p x)) (λ x. not (q x)) t.named.loose (λ x i. ap not (is x));
  same = d.same;
  fewer = d.fewer;
}

end_is : (e k : ℕ) (b : Bool) → let d = End (record { edge = k; back = b }) in ((is_it (Edge e) d || is_it (End (front e)) d) || is_it (End (back e)) d) ≡ is_part e d
end_is e k true = refl
end_is e k false = elim (is_part e (Edge k)) as (λ b. (b || false) ≡ b) [ true ↦ refl | false ↦ refl ]

parts_are : (e : ℕ) (x : Element) → ((is_it (Edge e) x || is_it (End (front e)) x) || is_it (End (back e)) x) ≡ is_part e x
parts_are e (Node v) = refl
parts_are e (Edge k) = elim (is_part e (Edge k)) as (λ b. ((b || false) || false) ≡ b) [ true ↦ refl | false ↦ refl ]
parts_are e (End d) = end_is e d.edge d.back

-- an edge and its darts
pub drops_parts : (t m n u : Lists) (e : ℕ) → Drops t m (is_it (Edge e)) 2 → Drops m n (is_it (End (front e))) 2 → Drops n u (is_it (End (back e))) 2 → Drops t u (is_part e) 6
drops_parts t m n u e first second third =
    drops_as t u _ (is_part e) 6 (parts_are e) (drops_on t n u (λ x. is_it (Edge e) x || is_it (End (front e)) x) (is_it (End (back e))) 4 2 (drops_on t m n (is_it (Edge e)) (is_it (End (front e))) 2 2 first second) third)
