-- What looks at neighbours find.
use Rattle.std.proofs.Common.{◌≡◌, ℕ, ◌<◌, ◌≤◌, Bool, true, false, cond, List, [], ◌∷◌, ◌++◌, filter, Option, Some, None, option_map, refl, sym, ap, subst, ◌∙◌, ◌⊎◌, inl, inr}
use Rattle.std.proofs.Common as list
use Rattle.std.specs.Prelude.{IfOk, Result, Ok, Err}
use Rattle.std.specs.FinMap as map
use Rattle.item_pool.specs.Contents.{Contents, HasLive}
use Rattle.leda_base.specs.declared.name.ItemName.TheVariants as names
use Rattle.graph_defs.specs.declared.dart.Dart.{Dart}
use Rattle.graph_state.specs.declared.name.ListName.{ListName}
use Rattle.graph_state.specs.declared.name.ListName.TheVariants.{Nodes, Edges, Out, In}
use Rattle.graph_state.specs.declared.name.Element.{Element}
use Rattle.graph_state.specs.declared.name.Element.TheVariants.{Node, Edge, End}
use Rattle.graph_state.specs.State.{GraphState, front, source, visible_nodes, visible_edges, visible_out, visible_in, out_list, in_list, shows_node, shows_edge, shows_dart}
use Rattle.graph_state.specs.Names.{Has, list_of, shows, number, first_of, last_of}
use Rattle.graph_state.specs.Refusals.{AreVisible}
use Rattle.graph_state.proofs.Has.{has_none, none_has, has_left, has_right, has_either, has_map, has_mapped, has_filter, filter_has, filter_same, filter_map_is, map_join}
use Rattle.graph_lists.specs.Named.{Lists, Named, list_at, shows_at, seen_list}
use Rattle.graph_lists.specs.Heads.{IsMemberOf, Finds}
use Rattle.graph_lists.specs.Heads as heads
use Rattle.graph_core.specs.declared.cell.Heads.{Heads}
use Rattle.graph_core.specs.declared.cell.NodeCell.{NodeCell}
use Rattle.graph_core.specs.declared.cell.EdgeCell.{EdgeCell}
use Rattle.graph_core.specs.Kept.{NodeCells, EdgeCells, IsKept}
use Rattle.graph_core.specs.Members.{MayHaveEdge}
use Rattle.graph_core.specs.Looks.{StandsBetween}
use Rattle.graph_core.proofs.Kept.{is_live, has_node, has_edge, front_hook}

pub found_edge : (n : Named) (b : Bool) (m r : ℕ) (o : Option Element) → ((b : Bool) (x : Element) → IsMemberOf n b x m → r ≡ number x) → Finds n b (Some m) o → Some r ≡ option_map number o
found_edge n b m r None is f = absurd f
found_edge n b m r (Some x) is f = ap Some (is b x f)

pub may_have : (t : Lists) (q : Contents EdgeCell) (b : Bool) (r : Option ℕ) (o : Option Element) → Finds t.named b r o → ((x : Element) → o ≡ Some x → HasLive q (number x)) → MayHaveEdge t q r
may_have t q b None o f live = tt
may_have t q b (Some m) None f live = absurd f
may_have t q b (Some m) (Some x) f live = (b, (x, (f, live x refl)))

-- the dart that an end is
abbrev dart_of : Element → Dart
dart_of (Node v) = front v
dart_of (Edge e) = front e
dart_of (End d) = d

module _ {X : Type 0} where
  pub first_has : (xs : List X) (x : X) → first_of xs ≡ Some x → Has x xs
  first_has [] x e = cc
  first_has (y ∷ ys) x e = inl cc

  pub last_has : (xs : List X) (x : X) → last_of xs ≡ Some x → Has x xs
  last_has [] x e = cc
  last_has (y ∷ []) x e = inl cc
  last_has (y ∷ z ∷ zs) x e = inr (last_has (z ∷ zs) x e)

  pub cut : (x : X) (xs : List X) → Has x xs → (before : List X) × ((behind : List X) × (xs ≡ before ++ x ∷ behind))
  cut x [] i = absurd i
  cut x (y ∷ ys) (inl e) = ([], (ys, ap (λ z. z ∷ ys) (sym e)))
  cut x (y ∷ ys) (inr i) = let r = cut x ys i in (y ∷ r.0, (r.1.0, ap (λ zs. y ∷ zs) r.1.1))

pub first_number : (ds : List Dart) → option_map number (first_of (list.map End ds)) ≡ option_map (λ (d : Dart). d.edge) (first_of ds)
first_number [] = refl
first_number (d ∷ ds) = refl

pub last_number : (ds : List Dart) → option_map number (last_of (list.map End ds)) ≡ option_map (λ (d : Dart). d.edge) (last_of ds)
last_number [] = refl
last_number (d ∷ []) = refl
last_number (d ∷ c ∷ cs) = last_number (c ∷ cs)

pub round_number : (e : ℕ) (before behind : List Dart) → option_map number (first_of ((list.map End behind ++ list.map End before) ++ End (front e) ∷ [])) ≡ option_map (λ (d : Dart). d.edge) (first_of ((behind ++ before) ++ front e ∷ []))
round_number e before behind =
    ap (λ xs. option_map number (first_of xs)) (ap (λ xs. xs ++ End (front e) ∷ []) (sym (map_join End behind before)) ∙ sym (map_join End (behind ++ before) (front e ∷ [])))
    ∙ first_number ((behind ++ before) ++ front e ∷ [])

pub round_back_number : (e : ℕ) (before behind : List Dart) → option_map number (last_of (End (front e) ∷ list.map End behind ++ list.map End before)) ≡ option_map (λ (d : Dart). d.edge) (last_of (front e ∷ behind ++ before))
round_back_number e before behind =
    ap (λ xs. option_map number (last_of (End (front e) ∷ xs))) (sym (map_join End behind before)) ∙ last_number (front e ∷ behind ++ before)

pub end_numbers : (ds : List Dart) → list.map number (list.map End ds) ≡ list.map (λ (d : Dart). d.edge) ds
end_numbers [] = refl
end_numbers (d ∷ ds) = ap (λ ns. d.edge ∷ ns) (end_numbers ds)

pub edge_numbers : (es : List ℕ) → list.map number (list.map Edge es) ≡ es
edge_numbers [] = refl
edge_numbers (e ∷ es) = ap (λ ns. e ∷ ns) (edge_numbers es)

pub node_numbers : (vs : List ℕ) → list.map number (list.map Node vs) ≡ vs
node_numbers [] = refl
node_numbers (v ∷ vs) = ap (λ ns. v ∷ ns) (node_numbers vs)

pub if_ok_map : {A E : Type 0} (r : Result A E) (P Q : A → Type 0) → ((x : A) → P x → Q x) → IfOk r P → IfOk r Q
if_ok_map (Ok x) P Q f h = f x h
if_ok_map (Err e) P Q f h = h

module _ (s : GraphState) (t : Lists) (top : Option Heads) (p : NodeCells) (pool : Contents EdgeCell) (k : IsKept s t top p pool.live) (made : pool.made ≡ s.made_edges) where
  -- what shows of a list is what shows of it in the state
  pub seen : (l : ListName) → seen_list t.named true l ≡ filter (shows s) (list_of s l)
  seen l = filter_same (shows_at t.named) (shows s) (list_at t.named l) (λ x i. k.shown x (is_live s t top p pool.live k l x i)) ∙ ap (filter (shows s)) (k.lists l)

  pub seen_out : (v : ℕ) → seen_list t.named true (Out v) ≡ list.map End (visible_out s v)
  seen_out v = seen (Out v) ∙ filter_map_is End (shows s) (out_list s v)

  pub seen_in : (v : ℕ) → seen_list t.named true (In v) ≡ list.map End (visible_in s v)
  seen_in v = seen (In v) ∙ filter_map_is End (shows s) (in_list s v)

  pub has_live : (e : ℕ) → Has e s.edges → HasLive pool e
  has_live e i =
      let c = has_edge s t top p pool.live k e i in
      let g = k.formed.given_edges e i in
      (c.0, (c.1, g.0, subst (λ n. e ≤ n) (sym made) g.1))

  out_dart : (v : ℕ) (d : Dart) → Has d (visible_out s v) → HasLive pool d.edge
  out_dart v d i = has_live d.edge (k.formed.homes (Out v) (End d) (has_map End d (out_list s v) (has_filter (shows_dart s) d (out_list s v) i).0)).0

  -- what stands in a visible out list is there
  pub out_live : (v : ℕ) (xs : List Element) → ((x : Element) → Has x xs → Has x (list.map End (visible_out s v))) → (x : Element) → Has x xs → HasLive pool (number x)
  out_live v xs all x i =
      let d = has_mapped End x (visible_out s v) (all x i) in
      subst (λ x. HasLive pool (number x)) (sym d.1.1) (out_dart v d.0 d.1.0)

  -- what stands in a visible in list, or in the edge list, is there
  pub in_live : (v : ℕ) (x : Element) → Has x (list.map End (visible_in s v)) → HasLive pool (number x)
  in_live v x i =
      let d = has_mapped End x (visible_in s v) i in
      subst (λ x. HasLive pool (number x)) (sym d.1.1) (has_live d.0.edge (k.formed.homes (In v) (End d.0) (has_map End d.0 (in_list s v) (has_filter (shows_dart s) d.0 (in_list s v) d.1.0).0)).0)

  pub seen_edges : seen_list t.named true Edges ≡ list.map Edge (visible_edges s)
  seen_edges = seen Edges ∙ filter_map_is Edge (shows s) s.edges

  pub seen_nodes : seen_list t.named true Nodes ≡ list.map Node (visible_nodes s)
  seen_nodes = seen Nodes ∙ filter_map_is Node (shows s) s.nodes

  -- what stands in a part of the edge list is there
  pub edge_live : (x : Element) (es : List ℕ) → ((e : ℕ) → Has e es → Has e s.edges) → Has x (list.map Edge es) → HasLive pool (number x)
  edge_live x es all i =
      let e = has_mapped Edge x es i in
      subst (λ x. HasLive pool (number x)) (sym e.1.1) (has_live e.0 (all e.0 e.1.0))

  pub shown_edge_live : (x : Element) → Has x (list.map Edge (visible_edges s)) → HasLive pool (number x)
  shown_edge_live x i = edge_live x (visible_edges s) (λ e j. (has_filter (shows_edge s) e s.edges j).0) i

  -- without the heads there is nothing
  pub no_edges : top ≡ None → s.edges ≡ []
  no_edges e = none_has s.edges (λ i j. has_none s.nodes (k.headed e) (source s i) (k.formed.ends i j).0)

  -- a visible edge stands in the out list of its source
  module _ (e : ℕ) (c : EdgeCell) (at : map.get pool.live e ≡ Some c) (see : AreVisible s (names.Edge e ∷ [])) where
    pub shown_front : Has (front e) (visible_out s (source s e))
    shown_front =
        let h = has_mapped End (End (front e)) (out_list s (source s e)) (k.formed.housed (End (front e)) see.0) in
        filter_has (shows_dart s) (front e) (out_list s (source s e)) (subst (λ d. Has d (out_list s (source s e))) (ap dart_of (sym h.1.1)) h.1.0) see.1

    pub front_member : IsMemberOf t.named true (End (front e)) c.front.shown
    front_member = (c.front, (front_hook s t top p pool.live k e c at, refl))

    pub front_linked : heads.IsLinked t.named c.front.shown
    front_linked = (true, (Out (source s e), (End (front e), (subst (Has (End (front e))) (sym (seen_out (source s e))) (has_map End (front e) (visible_out s (source s e)) shown_front), front_member))))

    module _ (before behind : List Dart) (is : StandsBetween s e before behind) where
      pub seen_between : seen_list t.named true (Out (source s e)) ≡ list.map End before ++ End (front e) ∷ list.map End behind
      seen_between = seen_out (source s e) ∙ ap (list.map End) is ∙ map_join End before (front e ∷ behind)

      in_out : (x : Element) → Has x (list.map End before ++ End (front e) ∷ list.map End behind) → Has x (list.map End (visible_out s (source s e)))
      in_out x i = subst (Has x) (sym seen_between ∙ seen_out (source s e)) i

      pub behind_live : (x : Element) → Has x (list.map End behind) → HasLive pool (number x)
      behind_live x i = out_live (source s e) (list.map End behind) (λ x i. in_out x (has_right x (list.map End before) (End (front e) ∷ list.map End behind) (inr i))) x i

      pub before_live : (x : Element) → Has x (list.map End before) → HasLive pool (number x)
      before_live x i = out_live (source s e) (list.map End before) (λ x i. in_out x (has_left x (list.map End before) (End (front e) ∷ list.map End behind) i)) x i

      pub own_live : HasLive pool e
      own_live = has_live e see.0

      -- the same round the ends
      pub round_live : (x : Element) → Has x ((list.map End behind ++ list.map End before) ++ End (front e) ∷ []) → HasLive pool (number x)
      round_live x i = elim (has_either x (list.map End behind ++ list.map End before) (End (front e) ∷ []) i) [
        | inl j ↦ elim (has_either x (list.map End behind) (list.map End before) j) [ inl b ↦ behind_live x b | inr b ↦ before_live x b ]
        | inr j ↦ elim j [ inl n ↦ subst (λ x. HasLive pool (number x)) (sym n) own_live | inr n ↦ absurd n ]
      ]

      pub round_back_live : (x : Element) → Has x (End (front e) ∷ list.map End behind ++ list.map End before) → HasLive pool (number x)
      round_back_live x i = elim i [
        | inl n ↦ subst (λ x. HasLive pool (number x)) (sym n) own_live
        | inr j ↦ elim (has_either x (list.map End behind) (list.map End before) j) [ inl b ↦ behind_live x b | inr b ↦ before_live x b ]
      ]

    pub between : (before : List Dart) × ((behind : List Dart) × StandsBetween s e before behind)
    between = cut (front e) (visible_out s (source s e)) shown_front

module _ (s : GraphState) (t : Lists) (top : Option Heads) (pool : Contents NodeCell) (q : EdgeCells) (k : IsKept s t top pool.live q) (made : pool.made ≡ s.made_nodes) where
  pub node_live : (x : Element) (vs : List ℕ) → ((v : ℕ) → Has v vs → Has v s.nodes) → Has x (list.map Node vs) → HasLive pool (number x)
  node_live x vs all i =
      let v = has_mapped Node x vs i in
      let j = all v.0 v.1.0 in
      let c = has_node s t top pool.live q k v.0 j in
      let g = k.formed.given_nodes v.0 j in
      subst (λ x. HasLive pool (number x)) (sym v.1.1) (c.0, (c.1, g.0, subst (λ n. v.0 ≤ n) (sym made) g.1))

  pub shown_node_live : (x : Element) → Has x (list.map Node (visible_nodes s)) → HasLive pool (number x)
  shown_node_live x i = node_live x (visible_nodes s) (λ v j. (has_filter (shows_node s) v s.nodes j).0) i
