-- A state of the other kind: the back darts of each node go to the rear of its other list.
use Rattle.std.proofs.Common.{◌≡◌, ℕ, Bool, true, false, cond, not, List, [], ◌∷◌, ◌++◌, filter, unwrap_or, refl, sym, ap, subst, ◌∙◌, inl, inr}
use Rattle.std.proofs.Common as list
use Rattle.graph_defs.specs.declared.dart.Dart.{Dart}
use Rattle.graph_state.specs.declared.name.ListName.{ListName}
use Rattle.graph_state.specs.declared.name.ListName.TheVariants.{Nodes, Edges, Out, In}
use Rattle.graph_state.specs.declared.name.Element.{Element}
use Rattle.graph_state.specs.declared.name.Element.TheVariants.{Node, Edge, End}
use Rattle.graph_state.specs.State.{GraphState, front, source, target, out_list, in_list}
use Rattle.graph_state.specs.Names.{Has, IsOnce, list_of, IsLive, home, shows, back_row}
use Rattle.graph_state.specs.Formed.{IsFormed}
use Rattle.graph_state.specs.Edits.{at_each, made_undirected, made_directed}
use Rattle.graph_state.specs.Turned.{is_back, kind_changed}
use Rattle.graph_state.proofs.Has.{truth, not_both, has_left, has_right, has_either, has_map, has_mapped, has_filter, filter_has, filter_all, filter_none, filter_map_is, map_join, none_has, once_map, once_mapped, once_filter, once_join}
use Rattle.graph_state.proofs.Each.{each_list}
use Rattle.graph_state.proofs.Added.{bare_out, bare_in}
use Rattle.graph_state.proofs.Relisted.{relisted, formed_relisted}

abbrev dart_of : Element → Dart
dart_of (Node v) = front v
dart_of (Edge e) = front e
dart_of (End d) = d

abbrev node_of : ListName → ℕ
node_of Nodes = 0
node_of Edges = 0
node_of (Out v) = v
node_of (In v) = v

end_once : (c d : Dart) → End c ≡ End d → c ≡ d
end_once c d e = ap dart_of e

has_dart : (d : Dart) (ds : List Dart) → Has (End d) (list.map End ds) → Has d ds
has_dart d ds i = let m = has_mapped End (End d) ds i in subst (λ c. Has c ds) (sym (end_once d m.0 m.1.1)) m.1.0

-- in a directed graph a back dart stands in an in list and a front dart in an out list
back_of : (b : Bool) (t u v : ℕ) → cond b (In t) (Out u) ≡ In v → (b ≡ true) × (t ≡ v)
back_of true t u v e = (refl, ap node_of e)
back_of false t u v e = let f : Out u ≡ In v = e in absurd cc

front_of : (b : Bool) (t u v : ℕ) → cond b (In t) (Out u) ≡ Out v → (b ≡ false) × (u ≡ v)
front_of true t u v e = let f : In t ≡ Out v = e in absurd cc
front_of false t u v e = (refl, ap node_of e)

-- in an undirected one all stand in out lists
no_in : (b : Bool) (t u v : ℕ) → cond b (Out t) (Out u) ≡ In v → ⊥
no_in true t u v e = let f : Out t ≡ In v = e in cc
no_in false t u v e = let f : Out u ≡ In v = e in cc

either_of : (b : Bool) (t u v : ℕ) → cond b (Out t) (Out u) ≡ Out v → cond b t u ≡ v
either_of true t u v e = ap node_of e
either_of false t u v e = ap node_of e

module _ (s : GraphState) where
  abbrev with_kind : Bool → GraphState
  with_kind b = relisted s (not b) s.ends
      (at_each s.nodes (λ v. cond b (out_list s v ++ in_list s v) (filter (λ d. not d.back) (out_list s v))))
      (at_each s.nodes (λ v. cond b [] (filter (λ d. d.back) (out_list s v))))

  abbrev outs : ℕ → List Dart
  outs v = cond s.directed (out_list s v ++ in_list s v) (filter (λ d. not d.back) (out_list s v))

  abbrev ins : ℕ → List Dart
  ins v = cond s.directed [] (filter (λ d. d.back) (out_list s v))

  abbrev z : GraphState
  z = with_kind s.directed

  either_kind : (b : Bool) → cond b (cond b (with_kind true) s) (cond b s (with_kind false)) ≡ with_kind b
  either_kind true = refl
  either_kind false = refl

  kind_is : kind_changed s ≡ z
  unfolding made_undirected made_directed
  kind_is = either_kind s.directed

  module _ (f : IsFormed s) where
    bare_outs : (b : Bool) (v : ℕ) → (Has v s.nodes → ⊥) → cond b (out_list s v ++ in_list s v) (filter (λ (d : Dart). not d.back) (out_list s v)) ≡ []
    bare_outs true v out = (λ i. bare_out s f v out i ++ bare_in s f v out i)
    bare_outs false v out = ap (filter (λ (d : Dart). not d.back)) (bare_out s f v out)

    bare_ins : (b : Bool) (v : ℕ) → (Has v s.nodes → ⊥) → cond b [] (filter (λ (d : Dart). d.back) (out_list s v)) ≡ []
    bare_ins true v out = refl
    bare_ins false v out = ap (filter (λ (d : Dart). d.back)) (bare_out s f v out)

    outs_are : (v : ℕ) → out_list z v ≡ outs v
    outs_are v = each_list outs s.nodes v (bare_outs s.directed v)

    ins_are : (v : ℕ) → in_list z v ≡ ins v
    ins_are v = each_list ins s.nodes v (bare_ins s.directed v)

    module _ (t : s.directed ≡ true) where
      home_before : (d : Dart) → home s (End d) ≡ cond d.back (In (target s d.edge)) (Out (source s d.edge))
      home_before d = ap (λ b. cond d.back (back_row b (target s d.edge)) (Out (source s d.edge))) t

      home_after : (d : Dart) → home z (End d) ≡ cond d.back (Out (target s d.edge)) (Out (source s d.edge))
      home_after d = ap (λ b. cond d.back (back_row (not b) (target s d.edge)) (Out (source s d.edge))) t

      outs_joined : (v : ℕ) → out_list z v ≡ out_list s v ++ in_list s v
      outs_joined v = outs_are v ∙ ap (λ b. cond b (out_list s v ++ in_list s v) (filter (λ d. not d.back) (out_list s v))) t

      ins_emptied : (v : ℕ) → in_list z v ≡ []
      ins_emptied v = ins_are v ∙ ap (λ b. cond b [] (filter (λ d. d.back) (out_list s v))) t

      in_back : (v : ℕ) (d : Dart) → Has d (in_list s v) → Has d.edge s.edges × (d.back ≡ true) × (target s d.edge ≡ v)
      in_back v d i =
          let h = f.homes (In v) (End d) (has_map End d (in_list s v) i) in
          let b = back_of d.back (target s d.edge) (source s d.edge) v (sym (home_before d) ∙ h.1) in
          (h.0, b.0, b.1)

      out_front : (v : ℕ) (d : Dart) → Has d (out_list s v) → Has d.edge s.edges × (d.back ≡ false) × (source s d.edge ≡ v)
      out_front v d i =
          let h = f.homes (Out v) (End d) (has_map End d (out_list s v) i) in
          let b = front_of d.back (target s d.edge) (source s d.edge) v (sym (home_before d) ∙ h.1) in
          (h.0, b.0, b.1)

      joined_home : (v : ℕ) (d : Dart) → Has d (out_list z v) → Has d.edge s.edges × (home z (End d) ≡ Out v)
      joined_home v d i = elim (has_either d (out_list s v) (in_list s v) (subst (Has d) (outs_joined v) i)) [
        | inl j ↦ let o = out_front v d j in (o.0, home_after d ∙ ap (λ b. cond b (Out (target s d.edge)) (Out (source s d.edge))) o.1 ∙ ap Out o.2)
        | inr j ↦ let o = in_back v d j in (o.0, home_after d ∙ ap (λ b. cond b (Out (target s d.edge)) (Out (source s d.edge))) o.1 ∙ ap Out o.2)
      ]

      joined_in : (v : ℕ) (d : Dart) → Has d (in_list z v) → Has d.edge s.edges × (home z (End d) ≡ In v)
      joined_in v d i = absurd (subst (Has d) (ins_emptied v) i)

      joined_housed : (b : Bool) (e : ℕ) → Has e s.edges → let d : Dart = record { edge = e; back = b } in Has (End d) (list_of z (home z (End d)))
      joined_housed true e i =
          let d : Dart = record { edge = e; back = true } in
          let there = subst (λ l. Has (End d) (list_of s l)) (home_before d) (f.housed (End d) i) in
          subst (λ l. Has (End d) (list_of z l)) (sym (home_after d))
          (has_map End d (out_list z (target s e)) (subst (Has d) (sym (outs_joined (target s e))) (has_right d (out_list s (target s e)) (in_list s (target s e)) (has_dart d (in_list s (target s e)) there))))
      joined_housed false e i =
          let d : Dart = record { edge = e; back = false } in
          let there = f.housed (End d) i in
          subst (λ l. Has (End d) (list_of z l)) (sym (home_after d))
          (has_map End d (out_list z (source s e)) (subst (Has d) (sym (outs_joined (source s e))) (has_left d (out_list s (source s e)) (in_list s (source s e)) (has_dart d (out_list s (source s e)) there))))

      joined_once : (l : ListName) → IsOnce (list_of z l)
      joined_once Nodes = f.once Nodes
      joined_once Edges = f.once Edges
      joined_once (Out v) = subst (λ ds. IsOnce (list.map End ds)) (sym (outs_joined v)) (once_map End (out_list s v ++ in_list s v) end_once
          (once_join (out_list s v) (in_list s v) (once_mapped End (out_list s v) (f.once (Out v))) (once_mapped End (in_list s v) (f.once (In v)))
          (λ d i j. not_both (in_back v d j).1 (out_front v d i).1)))
      joined_once (In v) = subst (λ ds. IsOnce (list.map End ds)) (sym (ins_emptied v)) tt

      -- what was in the in list is at the rear of the out list
      joined_to : (v : ℕ) → list_of z (Out v) ≡ list_of s (Out v) ++ filter is_back (list_of s (In v))
      joined_to v =
          ap (list.map End) (outs_joined v) ∙ map_join End (out_list s v) (in_list s v)
          ∙ ap (λ xs. list.map End (out_list s v) ++ xs) (sym (filter_map_is End is_back (in_list s v) ∙ ap (list.map End) (filter_all (λ d. d.back) (in_list s v) (λ d i. (in_back v d i).1))))

      joined_from : (v : ℕ) → list_of z (In v) ≡ filter (λ x. not (is_back x)) (list_of s (In v))
      joined_from v =
          ap (list.map End) (ins_emptied v)
          ∙ sym (filter_map_is End (λ x. not (is_back x)) (in_list s v) ∙ ap (list.map End) (filter_none (λ d. not d.back) (in_list s v) (λ d i. ap not (in_back v d i).1)))

    module _ (n : s.directed ≡ false) where
      home_both : (d : Dart) → home s (End d) ≡ cond d.back (Out (target s d.edge)) (Out (source s d.edge))
      home_both d = ap (λ b. cond d.back (back_row b (target s d.edge)) (Out (source s d.edge))) n

      home_parted : (d : Dart) → home z (End d) ≡ cond d.back (In (target s d.edge)) (Out (source s d.edge))
      home_parted d = ap (λ b. cond d.back (back_row (not b) (target s d.edge)) (Out (source s d.edge))) n

      outs_parted : (v : ℕ) → out_list z v ≡ filter (λ d. not d.back) (out_list s v)
      outs_parted v = outs_are v ∙ ap (λ b. cond b (out_list s v ++ in_list s v) (filter (λ d. not d.back) (out_list s v))) n

      ins_parted : (v : ℕ) → in_list z v ≡ filter (λ d. d.back) (out_list s v)
      ins_parted v = ins_are v ∙ ap (λ b. cond b [] (filter (λ d. d.back) (out_list s v))) n

      no_ins_before : (v : ℕ) → in_list s v ≡ []
      no_ins_before v = none_has (in_list s v) (λ d i. no_in d.back (target s d.edge) (source s d.edge) v (sym (home_both d) ∙ (f.homes (In v) (End d) (has_map End d (in_list s v) i)).1))

      out_either : (v : ℕ) (d : Dart) → Has d (out_list s v) → Has d.edge s.edges × (cond d.back (target s d.edge) (source s d.edge) ≡ v)
      out_either v d i =
          let h = f.homes (Out v) (End d) (has_map End d (out_list s v) i) in
          (h.0, either_of d.back (target s d.edge) (source s d.edge) v (sym (home_both d) ∙ h.1))

      not_back : (b : Bool) → not b ≡ true → b ≡ false
      not_back true e = sym e
      not_back false e = refl

      parted_out : (v : ℕ) (d : Dart) → Has d (out_list z v) → Has d.edge s.edges × (home z (End d) ≡ Out v)
      parted_out v d i =
          let j = has_filter (λ d. not d.back) d (out_list s v) (subst (Has d) (outs_parted v) i) in
          let o = out_either v d j.0 in
          let b = not_back d.back j.1 in
          (o.0, home_parted d ∙ ap (λ b. cond b (In (target s d.edge)) (Out (source s d.edge))) b ∙ ap Out (sym (ap (λ b. cond b (target s d.edge) (source s d.edge)) b) ∙ o.1))

      parted_in : (v : ℕ) (d : Dart) → Has d (in_list z v) → Has d.edge s.edges × (home z (End d) ≡ In v)
      parted_in v d i =
          let j = has_filter (λ d. d.back) d (out_list s v) (subst (Has d) (ins_parted v) i) in
          let o = out_either v d j.0 in
          (o.0, home_parted d ∙ ap (λ b. cond b (In (target s d.edge)) (Out (source s d.edge))) j.1 ∙ ap In (sym (ap (λ b. cond b (target s d.edge) (source s d.edge)) j.1) ∙ o.1))

      parted_housed : (b : Bool) (e : ℕ) → Has e s.edges → let d : Dart = record { edge = e; back = b } in Has (End d) (list_of z (home z (End d)))
      parted_housed true e i =
          let d : Dart = record { edge = e; back = true } in
          let there = subst (λ l. Has (End d) (list_of s l)) (home_both d) (f.housed (End d) i) in
          subst (λ l. Has (End d) (list_of z l)) (sym (home_parted d))
          (has_map End d (in_list z (target s e)) (subst (Has d) (sym (ins_parted (target s e))) (filter_has (λ d. d.back) d (out_list s (target s e)) (has_dart d (out_list s (target s e)) there) refl)))
      parted_housed false e i =
          let d : Dart = record { edge = e; back = false } in
          let there = f.housed (End d) i in
          subst (λ l. Has (End d) (list_of z l)) (sym (home_parted d))
          (has_map End d (out_list z (source s e)) (subst (Has d) (sym (outs_parted (source s e))) (filter_has (λ d. not d.back) d (out_list s (source s e)) (has_dart d (out_list s (source s e)) there) refl)))

      parted_once : (l : ListName) → IsOnce (list_of z l)
      parted_once Nodes = f.once Nodes
      parted_once Edges = f.once Edges
      parted_once (Out v) = subst (λ ds. IsOnce (list.map End ds)) (sym (outs_parted v)) (once_map End (filter (λ d. not d.back) (out_list s v)) end_once (once_filter (λ d. not d.back) (out_list s v) (once_mapped End (out_list s v) (f.once (Out v)))))
      parted_once (In v) = subst (λ ds. IsOnce (list.map End ds)) (sym (ins_parted v)) (once_map End (filter (λ d. d.back) (out_list s v)) end_once (once_filter (λ d. d.back) (out_list s v) (once_mapped End (out_list s v) (f.once (Out v)))))

      -- the back darts of the out list are in the in list
      parted_to : (v : ℕ) → list_of z (In v) ≡ list_of s (In v) ++ filter is_back (list_of s (Out v))
      parted_to v =
          ap (list.map End) (ins_parted v) ∙ sym (filter_map_is End is_back (out_list s v)) ∙ ap (λ ds. list.map End ds ++ filter is_back (list_of s (Out v))) (sym (no_ins_before v))

      parted_from : (v : ℕ) → list_of z (Out v) ≡ filter (λ x. not (is_back x)) (list_of s (Out v))
      parted_from v = ap (list.map End) (outs_parted v) ∙ sym (filter_map_is End (λ x. not (is_back x)) (out_list s v))

    kind_out : (v : ℕ) (d : Dart) → Has d (out_list z v) → Has d.edge s.edges × (home z (End d) ≡ Out v)
    kind_out v d i = elim (truth s.directed) [ inl t ↦ joined_home t v d i | inr n ↦ parted_out n v d i ]

    kind_in : (v : ℕ) (d : Dart) → Has d (in_list z v) → Has d.edge s.edges × (home z (End d) ≡ In v)
    kind_in v d i = elim (truth s.directed) [ inl t ↦ joined_in t v d i | inr n ↦ parted_in n v d i ]

    kind_homes : (l : ListName) (x : Element) → Has x (list_of z l) → IsLive s x × (home z x ≡ l)
    kind_homes Nodes x i =
        let v = has_mapped Node x s.nodes i in subst (λ x. IsLive s x × (home z x ≡ Nodes)) (sym v.1.1) (v.1.0, refl)
    kind_homes Edges x i =
        let e = has_mapped Edge x s.edges i in subst (λ x. IsLive s x × (home z x ≡ Edges)) (sym e.1.1) (e.1.0, refl)
    kind_homes (Out v) x i =
        let d = has_mapped End x (out_list z v) i in subst (λ x. IsLive s x × (home z x ≡ Out v)) (sym d.1.1) (kind_out v d.0 d.1.0)
    kind_homes (In v) x i =
        let d = has_mapped End x (in_list z v) i in subst (λ x. IsLive s x × (home z x ≡ In v)) (sym d.1.1) (kind_in v d.0 d.1.0)

    kind_housed : (x : Element) → IsLive s x → Has x (list_of z (home z x))
    kind_housed (Node v) i = has_map Node v s.nodes i
    kind_housed (Edge e) i = has_map Edge e s.edges i
    kind_housed (End d) i = elim (truth s.directed) [ inl t ↦ joined_housed t d.back d.edge i | inr n ↦ parted_housed n d.back d.edge i ]

    kind_formed : IsFormed z
    kind_formed = formed_relisted s (not s.directed) s.ends (at_each s.nodes outs) (at_each s.nodes ins) f (record {
      homes = kind_homes;
      housed = kind_housed;
      once = λ l. elim (truth s.directed) [ inl t ↦ joined_once t l | inr n ↦ parted_once n l ];
      ends_listed = f.ends;
      opposite = λ e g i j o. o;
    })

    kind_to : (v : ℕ) → list_of z (back_row (not s.directed) v) ≡ list_of s (back_row (not s.directed) v) ++ filter is_back (list_of s (back_row s.directed v))
    kind_to v = elim (truth s.directed) [
      | inl t ↦ subst (λ b. list_of z (back_row (not b) v) ≡ list_of s (back_row (not b) v) ++ filter is_back (list_of s (back_row b v))) (sym t) (joined_to t v)
      | inr n ↦ subst (λ b. list_of z (back_row (not b) v) ≡ list_of s (back_row (not b) v) ++ filter is_back (list_of s (back_row b v))) (sym n) (parted_to n v)
    ]

    kind_from : (v : ℕ) → list_of z (back_row s.directed v) ≡ filter (λ x. not (is_back x)) (list_of s (back_row s.directed v))
    kind_from v = elim (truth s.directed) [
      | inl t ↦ subst (λ b. list_of z (back_row b v) ≡ filter (λ x. not (is_back x)) (list_of s (back_row b v))) (sym t) (joined_from t v)
      | inr n ↦ subst (λ b. list_of z (back_row b v) ≡ filter (λ x. not (is_back x)) (list_of s (back_row b v))) (sym n) (parted_from n v)
    ]

    kind_shows : (x : Element) → shows z x ≡ shows s x
    kind_shows (Node v) = refl
    kind_shows (Edge e) = refl
    kind_shows (End d) = refl

-- the edits change the kind, or nothing
pub undirected_is : (s : GraphState) → s.directed ≡ true → made_undirected s ≡ kind_changed s
undirected_is s t = sym (ap (λ b. cond b (made_undirected s) (made_directed s)) t)

pub directed_is : (s : GraphState) → s.directed ≡ false → made_directed s ≡ kind_changed s
directed_is s n = sym (ap (λ b. cond b (made_undirected s) (made_directed s)) n)

pub undirected_stays : (s : GraphState) → s.directed ≡ false → made_undirected s ≡ s
unfolding made_undirected
undirected_stays s n = ap (λ b. cond b (with_kind s true) s) n

pub directed_stays : (s : GraphState) → s.directed ≡ true → made_directed s ≡ s
unfolding made_directed
directed_stays s t = ap (λ b. cond b s (with_kind s false)) t

-- what the change of kind leaves of a state
pub record ChangesKind (s z : GraphState) : Type 0 where
  pub directed : z.directed ≡ not s.directed
  pub nodes : z.nodes ≡ s.nodes
  pub edges : z.edges ≡ s.edges
  pub ends : z.ends ≡ s.ends
  pub reversals : z.reversals ≡ s.reversals
  pub node_labels : z.node_labels ≡ s.node_labels
  pub edge_labels : z.edge_labels ≡ s.edge_labels
  pub hidden_nodes : z.hidden_nodes ≡ s.hidden_nodes
  pub hidden_edges : z.hidden_edges ≡ s.hidden_edges
  pub made : (z.made_nodes ≡ s.made_nodes) × (z.made_edges ≡ s.made_edges)
  pub types : (z.node_type ≡ s.node_type) × (z.edge_type ≡ s.edge_type)
  pub from : (v : ℕ) → list_of z (back_row s.directed v) ≡ filter (λ x. not (is_back x)) (list_of s (back_row s.directed v))
  pub to : (v : ℕ) → list_of z (back_row (not s.directed) v) ≡ list_of s (back_row (not s.directed) v) ++ filter is_back (list_of s (back_row s.directed v))
  pub shown : (x : Element) → shows z x ≡ shows s x
  pub formed : IsFormed z

pub changes_kind : (s : GraphState) → IsFormed s → ChangesKind s (kind_changed s)
changes_kind s f = subst (ChangesKind s) (sym (kind_is s)) (record {
  directed = refl;
  nodes = refl;
  edges = refl;
  ends = refl;
  reversals = refl;
  node_labels = refl;
  edge_labels = refl;
  hidden_nodes = refl;
  hidden_edges = refl;
  made = (refl, refl);
  types = (refl, refl);
  from = kind_from s f;
  to = kind_to s f;
  shown = kind_shows s f;
  formed = kind_formed s f;
})
