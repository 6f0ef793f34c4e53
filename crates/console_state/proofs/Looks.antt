-- What looks at neighbours find, as replies.
use Rattle.std.proofs.Common.{◌≡◌, ℕ, true, false, List, [], ◌∷◌, ◌++◌, if◌then◌else◌, map, option_map, refl, sym, ap, subst, ◌∙◌, inl, inr}
use Rattle.std.specs.Prelude.{Bool, Option, Some, None, cond, unwrap_or}
use Rattle.std.specs.FinMap as fin
use Rattle.leda_base.specs.declared.ItemName.TheVariants as items
use Rattle.graph_defs.specs.declared.dart.Dart.{Dart}
use Rattle.graph_state.specs.declared.item.NodeItem.{NodeItem}
use Rattle.graph_state.specs.declared.item.EdgeItem.{EdgeItem}
use Rattle.graph_state.specs.declared.name.Element.{Element}
use Rattle.graph_state.specs.declared.name.Element.TheVariants.{Node, Edge, End}
use Rattle.graph_state.specs.State.{GraphState, front, source, out_list, visible_out, shows_dart, shows_edge}
use Rattle.graph_state.specs.Reversals.{if_shown, visible_reversal}
use Rattle.graph_state.specs.Names.{Has, first_of, last_of}
use Rattle.graph_state.specs.Formed.{IsFormed}
use Rattle.graph_state.specs.Refusals.{AreVisible}
use Rattle.graph_state.proofs.Same.{dart_tells}
use Rattle.graph_state.proofs.Has.{has_mapped, filter_has}
use Rattle.graph_core.specs.Looks.{IsEdgeOf, StandsBetween, IsBehind, IsBefore, IsCyclicBehind, IsCyclicBefore}
use Rattle.graph_rev.specs.Reversals.{IsFaceSucc}
use Rattle.console_state.specs.Look.{edge_line, edge_name, number_line, before, behind, darts_before, darts_behind, cyclic_pred, face_succ, tells}

-- a list is what stands before a dart in it, the dart, and what stands behind it
split_at : (d : Dart) (ds : List Dart) → Has d ds → ds ≡ before d ds ++ d ∷ behind d ds
split_at d [] i = absurd i
split_at d (c ∷ cs) i = elim (dart_tells c d) [
  | inl y ↦ subst (λ b. c ∷ cs ≡ (if b then [] else c ∷ before d cs) ++ d ∷ (if b then cs else behind d cs)) (sym y.0) (ap (λ x. x ∷ cs) y.1)
  | inr n ↦ subst (λ b. c ∷ cs ≡ (if b then [] else c ∷ before d cs) ++ d ∷ (if b then cs else behind d cs)) (sym n.0)
      (ap (λ xs. c ∷ xs) (split_at d cs (elim i [ inl e ↦ absurd (n.1 (sym e)) | inr j ↦ j ])))
]

abbrev dart_of : Element → Dart
dart_of (Node v) = front v
dart_of (Edge e) = front e
dart_of (End d) = d

-- the front dart of a visible edge stands in the visible out list where the edge begins
pub between : (g : GraphState) (e : ℕ) → IsFormed g → AreVisible g (items.Edge e ∷ []) → StandsBetween g e (darts_before e g) (darts_behind e g)
between g e formed see =
    let list = out_list g (source g e) in
    let h = has_mapped End (End (front e)) list (formed.housed (End (front e)) see.0) in
    split_at (front e) (visible_out g (source g e))
    (filter_has (shows_dart g) (front e) list (subst (λ d. Has d list) (sym (ap dart_of h.1.1)) h.1.0) see.1)

pub line_of : (r : Option EdgeItem) (o : Option Dart) → IsEdgeOf r o → edge_line o ≡ number_line (option_map (λ (e : EdgeItem). e.0.serial) r)
line_of r None is = ap number_line (sym is)
line_of r (Some d) is = ap number_line (sym is)

-- the names of edges, by their numbers and by their darts
names_by : (es : List EdgeItem) → map (λ (e : EdgeItem). items.Edge e.0.serial) es ≡ map items.Edge (map (λ (e : EdgeItem). e.0.serial) es)
names_by [] = refl
names_by (e ∷ es) = ap (λ xs. items.Edge e.0.serial ∷ xs) (names_by es)

names_of : (ds : List Dart) → map edge_name ds ≡ map items.Edge (map (λ (d : Dart). d.edge) ds)
names_of [] = refl
names_of (d ∷ ds) = ap (λ xs. edge_name d ∷ xs) (names_of ds)

pub dart_names : (es : List EdgeItem) (ds : List Dart) → map (λ (e : EdgeItem). e.0.serial) es ≡ map (λ (d : Dart). d.edge) ds → map (λ (e : EdgeItem). items.Edge e.0.serial) es ≡ map edge_name ds
dart_names es ds is = names_by es ∙ ap (map items.Edge) is ∙ sym (names_of ds)

node_names_by : (vs : List NodeItem) → map (λ (v : NodeItem). items.Node v.0.serial) vs ≡ map items.Node (map (λ (v : NodeItem). v.0.serial) vs)
node_names_by [] = refl
node_names_by (v ∷ vs) = ap (λ xs. items.Node v.0.serial ∷ xs) (node_names_by vs)

pub node_names : (vs : List NodeItem) (numbers : List ℕ) → map (λ (v : NodeItem). v.0.serial) vs ≡ numbers → map (λ (v : NodeItem). items.Node v.0.serial) vs ≡ map items.Node numbers
node_names vs numbers is = node_names_by vs ∙ ap (map items.Node) is

pub edge_names : (es : List EdgeItem) (numbers : List ℕ) → map (λ (e : EdgeItem). e.0.serial) es ≡ numbers → map (λ (e : EdgeItem). items.Edge e.0.serial) es ≡ map items.Edge numbers
edge_names es numbers is = names_by es ∙ ap (map items.Edge) is

-- the neighbours of a visible edge, as lines
module _ (g : GraphState) (e k : ℕ) (formed : IsFormed g) (see : AreVisible g (items.Edge e ∷ [])) (same : k ≡ e) where
  pub succ_line : (next : Option EdgeItem) → IsBehind g k next → edge_line (first_of (darts_behind e g)) ≡ number_line (option_map (λ (e : EdgeItem). e.0.serial) next)
  succ_line next is = line_of next _ (subst (λ k. IsBehind g k next) same is (darts_before e g) (darts_behind e g) (between g e formed see))

  pub pred_line : (next : Option EdgeItem) → IsBefore g k next → edge_line (last_of (darts_before e g)) ≡ number_line (option_map (λ (e : EdgeItem). e.0.serial) next)
  pred_line next is = line_of next _ (subst (λ k. IsBefore g k next) same is (darts_before e g) (darts_behind e g) (between g e formed see))

  pub cyclic_succ_line : (next : EdgeItem) → IsCyclicBehind g k next → edge_line (first_of (darts_behind e g ++ darts_before e g ++ front e ∷ [])) ≡ number_line (option_map (λ (e : EdgeItem). e.0.serial) (Some next))
  cyclic_succ_line next is = line_of (Some next) _ (subst (λ k. IsCyclicBehind g k next) same is (darts_before e g) (darts_behind e g) (between g e formed see))

  pub cyclic_pred_line : (next : EdgeItem) → IsCyclicBefore g k next → cyclic_pred e g ≡ number_line (option_map (λ (e : EdgeItem). e.0.serial) (Some next))
  cyclic_pred_line next is = line_of (Some next) _ (subst (λ k. IsCyclicBefore g k next) same is (darts_before e g) (darts_behind e g) (between g e formed see))

-- the reversal of a visible edge, where it shows, is a visible edge
shown_one : (g : GraphState) (e f : ℕ) (o : Option ℕ) → IsFormed g → fin.get g.reversals e ≡ o → if_shown g o ≡ Some f → AreVisible g (items.Edge f ∷ [])
shown_one g e f None formed at is = cc
shown_one g e f (Some h) formed at is = by (shows_edge g h) refl is
  where
    by : (b : Bool) → shows_edge g h ≡ b → cond b (Some h) None ≡ Some f → AreVisible g (items.Edge f ∷ [])
    by false shows is = cc
    by true shows is =
        subst (λ k. AreVisible g (items.Edge k ∷ [])) (ap (λ o. unwrap_or o 0) is)
        ((formed.reversals h e (formed.reversals e h at).both).listed, shows, tt)

-- the edge behind another one round its face, as a line
pub face_line : (g : GraphState) (e k : ℕ) (next : EdgeItem) → IsFormed g → k ≡ e → IsFaceSucc g k next → Some (face_succ (visible_reversal g e) e g) ≡ tells (number_line (option_map (λ (e : EdgeItem). e.0.serial) (Some next)))
face_line g e k next formed same is =
    let f = is.0 in
    let at : visible_reversal g e ≡ Some f = subst (λ k. visible_reversal g k ≡ Some f) same is.1.0 in
    let see = shown_one g e f (fin.get g.reversals e) formed refl at in
    subst (λ o. Some (face_succ o e g) ≡ tells (number_line (option_map (λ (e : EdgeItem). e.0.serial) (Some next)))) (sym at)
    (ap tells (cyclic_pred_line g f f formed see refl next is.1.1))
