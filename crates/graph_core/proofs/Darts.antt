-- The darts that a walk along a visible out list finds.
use Rattle.std.proofs.Common.{◌≡◌, ℕ, ◌==◌, Bool, true, false, not, List, [], ◌∷◌, Option, Some, None, refl, sym, ap, subst, ◌∙◌, inl, inr}
use Rattle.std.proofs.Common as list
use Rattle.std.specs.FinMap as map
use Rattle.item_pool.specs.Contents.{Contents}
use Rattle.graph_defs.specs.declared.dart.Dart.{Dart}
use Rattle.graph_state.specs.declared.name.ListName.TheVariants.{Out}
use Rattle.graph_state.specs.declared.name.Element.{Element}
use Rattle.graph_state.specs.declared.name.Element.TheVariants.{Node, Edge, End}
use Rattle.graph_state.specs.State.{GraphState, front, back, visible_out, out_list, shows_dart}
use Rattle.graph_state.specs.Names.{Has, number}
use Rattle.graph_state.proofs.Has.{some_same, not_both, has_map, has_mapped, has_filter}
use Rattle.graph_state.proofs.Same.{nat_tells}
use Rattle.graph_lists.specs.declared.token.Hook.{Hook}
use Rattle.graph_lists.specs.Named.{Lists, Named, hook_at, seen_list}
use Rattle.graph_lists.specs.Heads.{IsMemberOf}
use Rattle.graph_core.specs.declared.cell.Heads.{Heads}
use Rattle.graph_core.specs.declared.cell.EdgeCell.{EdgeCell}
use Rattle.graph_core.specs.Kept.{NodeCells, IsKept}
use Rattle.graph_core.specs.Darts.{IsDart}
use Rattle.graph_core.proofs.Kept.{has_edge, front_hook}
use Rattle.graph_core.proofs.Found.{seen_out}

pub map_itself : {X : Type 0} (xs : List X) → list.map (λ x. x) xs ≡ xs
map_itself [] = refl
map_itself (x ∷ xs) = ap (λ ys. x ∷ ys) (map_itself xs)

abbrev dart_of : Element → Dart
dart_of (Node v) = front v
dart_of (Edge e) = front e
dart_of (End d) = d

darts_back : (ds : List Dart) → list.map dart_of (list.map End ds) ≡ ds
darts_back [] = refl
darts_back (d ∷ ds) = ap (λ es. d ∷ es) (darts_back ds)

pub same_darts : (cs ds : List Dart) → list.map End cs ≡ list.map End ds → cs ≡ ds
same_darts cs ds e = sym (darts_back cs) ∙ ap (list.map dart_of) e ∙ darts_back ds

abbrev end_flag : Element → Bool
end_flag (Node v) = false
end_flag (Edge e) = false
end_flag (End d) = d.back

pub not_not : (b : Bool) → not (not b) ≡ b
not_not true = refl
not_not false = refl

same_not : (a b : Bool) → not a ≡ not b → a ≡ b
same_not true true e = refl
same_not true false e = cc
same_not false true e = cc
same_not false false e = refl

-- a member is that of the front dart, or not
module _ (n : Named) (q : Contents EdgeCell) (m e : ℕ) (cell : EdgeCell) (at : map.get q.live e ≡ Some cell)
    (one : (b c : Bool) (x y : Element) → IsMemberOf n b x m → IsMemberOf n c y m → x ≡ y) where
  hook_first : (d : Dart) → e ≡ d.edge → IsDart n q (End d) → hook_at n (End (front e)) ≡ Some cell.front
  hook_first d is t =
      let edge : t.dart.edge ≡ e = sym (is ∙ ap (λ x. number x) t.is) in
      let same : t.cell ≡ cell = some_same (sym t.live ∙ ap (map.get q.live) edge ∙ at) in
      ap (λ i. hook_at n (End (front i))) (sym edge) ∙ t.first ∙ ap (λ (c : EdgeCell). Some c.front) same

  flag_is : (d : Dart) (f : Bool) → e ≡ d.edge → IsDart n q (End d) → IsMemberOf n true (End d) m → d.back ≡ f → (cell.front.shown == m) ≡ not f
  flag_is d true is t w back = elim (nat_tells cell.front.shown m) [
    | inl y ↦ absurd (not_both back (sym (ap end_flag (one true true (End (front e)) (End d) (cell.front, (hook_first d is t, y.1)) w))))
    | inr ne ↦ ne.0
  ]
  flag_is d false is t w back = elim (nat_tells cell.front.shown m) [
    | inl y ↦ y.0
    | inr ne ↦
        let same : d ≡ front e = (λ i. record { edge = sym is i; back = back i }) in
        let hook : w.0 ≡ cell.front = some_same (sym w.1.0 ∙ ap (λ d. hook_at n (End d)) same ∙ hook_first d is t) in
        absurd (ne.1 (ap (λ (p : Hook). p.shown) (sym hook) ∙ w.1.1))
  ]

  pub dart_is : (x : Element) (f : Bool) → e ≡ number x → IsDart n q x → IsMemberOf n true x m → (cell.front.shown == m) ≡ not f → End (record { edge = e; back = f }) ≡ x
  dart_is x f is t w eq =
      let x_is = t.is in
      let t' = subst (IsDart n q) x_is t in
      let w' = subst (λ x. IsMemberOf n true x m) x_is w in
      let is' : e ≡ t.dart.edge = is ∙ ap (λ x. number x) x_is in
      let flag : t.dart.back ≡ f = same_not t.dart.back f (sym (flag_is t.dart t.dart.back is' t' w' refl) ∙ eq) in
      (λ i. End (record { edge = is' i; back = sym flag i })) ∙ sym x_is

-- what shows of an out list is darts
module _ (s : GraphState) (t : Lists) (top : Option Heads) (p : NodeCells) (pool : Contents EdgeCell) (k : IsKept s t top p pool.live) (made : pool.made ≡ s.made_edges) where
  pub out_dart_at : (v : ℕ) (x : Element) → Has x (seen_list t.named true (Out v)) → IsDart t.named pool x
  out_dart_at v x i =
      let d = has_mapped End x (visible_out s v) (subst (Has x) (seen_out s t top p pool k made v) i) in
      let live = (k.formed.homes (Out v) (End d.0) (has_map End d.0 (out_list s v) (has_filter (shows_dart s) d.0 (out_list s v) d.1.0).0)).0 in
      let c = has_edge s t top p pool.live k d.0.edge live in
      record { dart = d.0; is = d.1.1; cell = c.0; live = c.1; first = front_hook s t top p pool.live k d.0.edge c.0 c.1 }
