-- A state whose edges all go the other way: its lists, what shows, and that it is well-formed.
use Rattle.std.proofs.Common.{◌≡◌, ℕ, Bool, true, false, cond, not, ◌&&◌, List, [], ◌∷◌, Some, unwrap_or, refl, sym, ap, subst, ◌∙◌}
use Rattle.std.proofs.Common as list
use Rattle.std.specs.Ordering.{nat_cmp}
use Rattle.std.specs.FinMap as map
use Rattle.std.specs.FinSet as set
use Rattle.graph_defs.specs.declared.dart.Dart.{Dart}
use Rattle.graph_state.specs.declared.name.ListName.{ListName}
use Rattle.graph_state.specs.declared.name.ListName.TheVariants.{Nodes, Edges, Out, In}
use Rattle.graph_state.specs.declared.name.Element.{Element}
use Rattle.graph_state.specs.declared.name.Element.TheVariants.{Node, Edge, End}
use Rattle.graph_state.specs.State.{GraphState, ends_of, source, target, out_list, in_list, shows_node, shows_ends}
use Rattle.graph_state.specs.Names.{Has, IsOnce, list_of, IsLive, home, shows, back_row}
use Rattle.graph_state.specs.Formed.{IsFormed}
use Rattle.graph_state.specs.Edits.{at_each, flipped, all_reversed}
use Rattle.graph_state.specs.Turned.{turned_list, turned_element}
use Rattle.graph_state.proofs.Has.{has_map, has_mapped, map_on, once_map}
use Rattle.graph_state.proofs.Each.{each_in, each_list}
use Rattle.graph_state.proofs.Added.{bare_out, bare_in}
use Rattle.graph_state.proofs.Relisted.{relisted, IsRelisted, formed_relisted}

-- to turn twice changes nothing
pub list_twice : (d : Bool) (l : ListName) → turned_list d (turned_list d l) ≡ l
list_twice d Nodes = refl
list_twice d Edges = refl
list_twice true (Out v) = refl
list_twice true (In v) = refl
list_twice false (Out v) = refl
list_twice false (In v) = refl

not_twice : (b : Bool) → not (not b) ≡ b
not_twice true = refl
not_twice false = refl

pub element_twice : (x : Element) → turned_element (turned_element x) ≡ x
element_twice (Node v) = refl
element_twice (Edge e) = refl
element_twice (End d) = ap (λ b. End (record { edge = d.edge; back = b })) (not_twice d.back)

pub element_once : (x y : Element) → turned_element x ≡ turned_element y → x ≡ y
element_once x y e = sym (element_twice x) ∙ ap turned_element e ∙ element_twice y

-- the darts of one list, whose names are changed
darts_turned : (ds : List Dart) → list.map End (list.map flipped ds) ≡ list.map turned_element (list.map End ds)
darts_turned ds = map_on flipped End ds ∙ sym (map_on End turned_element ds)

and_swapped : (a b : Bool) → (a && b) ≡ (b && a)
and_swapped true true = refl
and_swapped true false = refl
and_swapped false true = refl
and_swapped false false = refl

pub live_turned : (s : GraphState) (x : Element) → IsLive s x → IsLive s (turned_element x)
live_turned s (Node v) i = i
live_turned s (Edge e) i = i
live_turned s (End d) i = i

pub live_reversed : (s : GraphState) (x : Element) → IsLive (all_reversed s) x → IsLive s x
unfolding all_reversed
live_reversed s (Node v) i = i
live_reversed s (Edge e) i = i
live_reversed s (End d) i = i

module _ (s : GraphState) (f : IsFormed s) where
  abbrev ends : map.FinMap nat_cmp (ℕ × ℕ)
  ends = at_each s.edges (λ e. (target s e, source s e))

  abbrev out_darts : ℕ → List Dart
  out_darts v = list.map flipped (cond s.directed (in_list s v) (out_list s v))

  abbrev in_darts : ℕ → List Dart
  in_darts v = list.map flipped (cond s.directed (out_list s v) (in_list s v))

  abbrev z : GraphState
  z = relisted s s.directed ends (at_each s.nodes out_darts) (at_each s.nodes in_darts)

  either_bare : (d : Bool) (cs ds : List Dart) → cs ≡ [] → ds ≡ [] → list.map flipped (cond d cs ds) ≡ []
  either_bare true cs ds a b = ap (list.map flipped) a
  either_bare false cs ds a b = ap (list.map flipped) b

  either_out : (d : Bool) (v : ℕ) → list.map turned_element (list.map End (cond d (in_list s v) (out_list s v))) ≡ list.map turned_element (list_of s (turned_list d (Out v)))
  either_out true v = refl
  either_out false v = refl

  either_in : (d : Bool) (v : ℕ) → list.map turned_element (list.map End (cond d (out_list s v) (in_list s v))) ≡ list.map turned_element (list_of s (turned_list d (In v)))
  either_in true v = refl
  either_in false v = refl

  turned_lists : (l : ListName) → list_of z l ≡ list.map turned_element (list_of s (turned_list s.directed l))
  turned_lists Nodes = sym (map_on Node turned_element s.nodes)
  turned_lists Edges = sym (map_on Edge turned_element s.edges)
  turned_lists (Out v) =
      ap (list.map End) (each_list out_darts s.nodes v (λ out. either_bare s.directed (in_list s v) (out_list s v) (bare_in s f v out) (bare_out s f v out)))
      ∙ darts_turned (cond s.directed (in_list s v) (out_list s v)) ∙ either_out s.directed v
  turned_lists (In v) =
      ap (list.map End) (each_list in_darts s.nodes v (λ out. either_bare s.directed (out_list s v) (in_list s v) (bare_out s f v out) (bare_in s f v out)))
      ∙ darts_turned (cond s.directed (out_list s v) (in_list s v)) ∙ either_in s.directed v

  turned_ends : (e : ℕ) → Has e s.edges → ends_of z e ≡ (target s e, source s e)
  turned_ends e i = ap (λ o. unwrap_or o (0, 0)) (each_in (λ e. (target s e, source s e)) s.edges e i)

  turned_source : (e : ℕ) → Has e s.edges → source z e ≡ target s e
  turned_source e i = ap (λ (p : ℕ × ℕ). p.0) (turned_ends e i)

  turned_target : (e : ℕ) → Has e s.edges → target z e ≡ source s e
  turned_target e i = ap (λ (p : ℕ × ℕ). p.1) (turned_ends e i)

  -- a front dart stands where the back dart stood, and a back dart where the front dart stood
  home_turned_end : (directed b : Bool) (v w : ℕ) → cond (not b) (back_row directed v) (Out w) ≡ turned_list directed (cond b (back_row directed w) (Out v))
  home_turned_end true true v w = refl
  home_turned_end true false v w = refl
  home_turned_end false true v w = refl
  home_turned_end false false v w = refl

  home_turned : (x : Element) → IsLive s x → home z (turned_element x) ≡ turned_list s.directed (home s x)
  home_turned (Node v) i = refl
  home_turned (Edge e) i = refl
  home_turned (End d) i =
      (λ j. cond (not d.back) (back_row s.directed (turned_target d.edge i j)) (Out (turned_source d.edge i j)))
      ∙ home_turned_end s.directed d.back (source s d.edge) (target s d.edge)

  turned_edge_shows : (e : ℕ) → Has e s.edges → (not (set.contains s.hidden_edges e) && shows_ends s (ends_of z e)) ≡ (not (set.contains s.hidden_edges e) && shows_ends s (ends_of s e))
  turned_edge_shows e i =
      ap (λ p. not (set.contains s.hidden_edges e) && shows_ends s p) (turned_ends e i)
      ∙ ap (λ b. not (set.contains s.hidden_edges e) && b) (and_swapped (shows_node s (target s e)) (shows_node s (source s e)))

  turned_shows : (x : Element) → IsLive s x → shows z (turned_element x) ≡ shows s x
  turned_shows (Node v) i = refl
  turned_shows (Edge e) i = turned_edge_shows e i
  turned_shows (End d) i = turned_edge_shows d.edge i

  homes_turned : (l : ListName) (x : Element) → Has x (list_of z l) → IsLive s x × (home z x ≡ l)
  homes_turned l x i =
      let y = has_mapped turned_element x (list_of s (turned_list s.directed l)) (subst (Has x) (turned_lists l) i) in
      let h = f.homes (turned_list s.directed l) y.0 y.1.0 in
      subst (λ x. IsLive s x × (home z x ≡ l)) (sym y.1.1) (live_turned s y.0 h.0, home_turned y.0 h.0 ∙ ap (turned_list s.directed) h.1 ∙ list_twice s.directed l)

  housed_turned : (x : Element) → IsLive s x → Has x (list_of z (home z x))
  housed_turned x i =
      let y = turned_element x in
      let live = live_turned s x i in
      let is : home z x ≡ turned_list s.directed (home s y) = ap (home z) (sym (element_twice x)) ∙ home_turned y live in
      let there : turned_list s.directed (home z x) ≡ home s y = ap (turned_list s.directed) is ∙ list_twice s.directed (home s y) in
      subst (Has x) (sym (turned_lists (home z x)))
      (subst (λ l. Has x (list.map turned_element (list_of s l))) (sym there)
      (subst (λ x. Has x (list.map turned_element (list_of s (home s y)))) (element_twice x) (has_map turned_element y (list_of s (home s y)) (f.housed y live))))

  is_turned : IsRelisted s s.directed ends (at_each s.nodes out_darts) (at_each s.nodes in_darts)
  is_turned = record {
    homes = homes_turned;
    housed = housed_turned;
    once = λ l. subst IsOnce (sym (turned_lists l)) (once_map turned_element (list_of s (turned_list s.directed l)) element_once (f.once (turned_list s.directed l)));
    ends_listed = λ e i. let h = f.ends e i in (subst (λ v. Has v s.nodes) (sym (turned_source e i)) h.1, subst (λ v. Has v s.nodes) (sym (turned_target e i)) h.0);
    opposite = λ e g i j o. (turned_source e i ∙ o.1 ∙ sym (turned_target g j), turned_target e i ∙ o.0 ∙ sym (turned_source g j));
  }

  -- of the edit itself
  pub reversed_lists : (l : ListName) → list_of (all_reversed s) l ≡ list.map turned_element (list_of s (turned_list s.directed l))
  unfolding all_reversed
  reversed_lists = turned_lists

  pub reversed_shows : (x : Element) → IsLive s x → shows (all_reversed s) (turned_element x) ≡ shows s x
  unfolding all_reversed
  reversed_shows = turned_shows

  pub reversed_ends : (e : ℕ) → Has e s.edges → map.get (all_reversed s).ends e ≡ Some (target s e, source s e)
  unfolding all_reversed
  reversed_ends e i = each_in (λ e. (target s e, source s e)) s.edges e i

  pub formed_reversed : IsFormed (all_reversed s)
  unfolding all_reversed
  formed_reversed = formed_relisted s s.directed ends (at_each s.nodes out_darts) (at_each s.nodes in_darts) f is_turned
