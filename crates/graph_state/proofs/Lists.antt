-- The lists of a state after the parts of an edit.
use Rattle.std.proofs.Common.{◌≡◌, ℕ, ◌+◌, Bool, true, false, cond, ◌==◌, List, [], ◌∷◌, ◌++◌, Option, Some, None, unwrap_or, refl, sym, ap, subst, ◌∙◌, ◌⊎◌, inl, inr}
use Rattle.std.proofs.Common as list
use Rattle.std.proofs.lemmas.List.{append-nil}
use Rattle.std.specs.Ordering.{nat_cmp}
use Rattle.std.specs.FinMap as map
use Rattle.graph_defs.specs.declared.dart.Dart.{Dart}
use Rattle.graph_state.specs.declared.name.ListName.{ListName}
use Rattle.graph_state.specs.declared.name.ListName.TheVariants.{Nodes, Edges, Out, In}
use Rattle.graph_state.specs.declared.name.Element.{Element}
use Rattle.graph_state.specs.declared.name.Element.TheVariants.{Node, Edge, End}
use Rattle.graph_state.specs.State.{GraphState, front, back, out_list, in_list}
use Rattle.graph_state.specs.Names.{list_of, same_list, back_row}
use Rattle.graph_state.specs.Edits.{front_to_rear, back_to_rear, enters, with_edge, with_node}
use Rattle.graph_state.proofs.Has.{map_join}
use Rattle.graph_state.proofs.Same.{nat_tells}
use Rattle.graph_state.proofs.Maps.{list_put}

-- the element alone, where the flag is true
abbrev pub one : Bool → Element → List Element
one b x = cond b (x ∷ []) []

-- a list with a dart at its rear, or another one
pushed_dart : (b : Bool) (ds es : List Dart) (d : Dart) → (b ≡ true → es ≡ ds) → list.map End (cond b (ds ++ d ∷ []) es) ≡ list.map End es ++ one b (End d)
pushed_dart true ds es d e = map_join End ds (d ∷ []) ∙ ap (λ ys. list.map End ys ++ End d ∷ []) (sym (e refl))
pushed_dart false ds es d e = sym (append-nil (list.map End es))

same_number : (a b : ℕ) → (a == b) ≡ (b == a)
same_number a b = elim (nat_tells a b) [
  | inl y ↦ y.0 ∙ elim (nat_tells b a) [ inl z ↦ sym z.0 | inr n ↦ absurd (n.1 (sym y.1)) ]
  | inr n ↦ n.0 ∙ elim (nat_tells b a) [ inl z ↦ absurd (n.1 (sym z.1)) | inr m ↦ sym m.0 ]
]

equal_if : (a b : ℕ) → (a == b) ≡ true → a ≡ b
equal_if a b t = elim (nat_tells a b) [ inl y ↦ y.1 | inr n ↦ let f : true ≡ false = sym t ∙ n.0 in cc ]

pub put_dart : (m : map.FinMap nat_cmp (List Dart)) (v : ℕ) (d : Dart) (u : ℕ)
    → list.map End (unwrap_or (map.get (map.insert m v (unwrap_or (map.get m v) [] ++ d ∷ [])) u) []) ≡ list.map End (unwrap_or (map.get m u) []) ++ one (v == u) (End d)
put_dart m v d u =
    ap (list.map End) (list_put m v (unwrap_or (map.get m v) [] ++ d ∷ []) u)
    ∙ pushed_dart (u == v) (unwrap_or (map.get m v) []) (unwrap_or (map.get m u) []) d (λ t. ap (λ k. unwrap_or (map.get m k) []) (equal_if u v t))
    ∙ ap (λ b. list.map End (unwrap_or (map.get m u) []) ++ one b (End d)) (same_number u v)

pub front_lists : (v e : ℕ) (s : GraphState) (l : ListName) → list_of (front_to_rear v e s) l ≡ list_of s l ++ one (same_list (Out v) l) (End (front e))
front_lists v e s Nodes = sym (append-nil (list.map Node s.nodes))
front_lists v e s Edges = sym (append-nil (list.map Edge s.edges))
front_lists v e s (Out u) = put_dart s.outs v (front e) u
front_lists v e s (In u) = sym (append-nil (list.map End (in_list s u)))

pub back_lists : (w e : ℕ) (s : GraphState) (l : ListName) → list_of (back_to_rear w e s) l ≡ list_of s l ++ one (same_list (back_row s.directed w) l) (End (back e))
back_lists w e s Nodes =
    elim s.directed as (λ d. list.map Node s.nodes ≡ list.map Node s.nodes ++ one (same_list (back_row d w) Nodes) (End (back e))) [ true ↦ sym (append-nil (list.map Node s.nodes)) | false ↦ sym (append-nil (list.map Node s.nodes)) ]
back_lists w e s Edges =
    elim s.directed as (λ d. list.map Edge s.edges ≡ list.map Edge s.edges ++ one (same_list (back_row d w) Edges) (End (back e))) [ true ↦ sym (append-nil (list.map Edge s.edges)) | false ↦ sym (append-nil (list.map Edge s.edges)) ]
back_lists w e s (Out u) =
    elim s.directed as (λ d. list.map End (unwrap_or (map.get (cond d s.outs (map.insert s.outs w (cond d (in_list s w) (out_list s w) ++ back e ∷ []))) u) []) ≡ list.map End (out_list s u) ++ one (same_list (back_row d w) (Out u)) (End (back e))) [
      | true ↦ sym (append-nil (list.map End (out_list s u)))
      | false ↦ put_dart s.outs w (back e) u
    ]
back_lists w e s (In u) =
    elim s.directed as (λ d. list.map End (unwrap_or (map.get (cond d (map.insert s.ins w (cond d (in_list s w) (out_list s w) ++ back e ∷ [])) s.ins) u) []) ≡ list.map End (in_list s u) ++ one (same_list (back_row d w) (In u)) (End (back e))) [
      | true ↦ put_dart s.ins w (back e) u
      | false ↦ sym (append-nil (list.map End (in_list s u)))
    ]

pub enters_lists : (v w : ℕ) (label : List ℕ) (s : GraphState) (l : ListName) → list_of (enters v w label s) l ≡ list_of s l ++ one (same_list Edges l) (Edge (s.made_edges + 1))
enters_lists v w label s Nodes = sym (append-nil (list.map Node s.nodes))
enters_lists v w label s Edges = map_join Edge s.edges ((s.made_edges + 1) ∷ [])
enters_lists v w label s (Out u) = sym (append-nil (list.map End (out_list s u)))
enters_lists v w label s (In u) = sym (append-nil (list.map End (in_list s u)))

pub edge_lists : (v w : ℕ) (label : List ℕ) (s : GraphState) (l : ListName) → let k = s.made_edges + 1 in
    list_of (with_edge v w label s) l ≡ ((list_of s l ++ one (same_list Edges l) (Edge k)) ++ one (same_list (Out v) l) (End (front k))) ++ one (same_list (back_row s.directed w) l) (End (back k))
unfolding with_edge
edge_lists v w label s l =
    let k = s.made_edges + 1 in
    back_lists w k (front_to_rear v k (enters v w label s)) l
    ∙ ap (λ xs. xs ++ one (same_list (back_row s.directed w) l) (End (back k))) (front_lists v k (enters v w label s) l ∙ ap (λ xs. xs ++ one (same_list (Out v) l) (End (front k))) (enters_lists v w label s l))

-- a list of a new node is empty, and the others are as they were
put_none : (m : map.FinMap nat_cmp (List Dart)) (k u : ℕ) → unwrap_or (map.get m k) [] ≡ [] → unwrap_or (map.get (map.insert m k []) u) [] ≡ unwrap_or (map.get m u) []
put_none m k u none = list_put m k [] u ∙ elim (nat_tells u k) [
  | inl y ↦ ap (λ b. cond b [] (unwrap_or (map.get m u) [])) y.0 ∙ sym (ap (λ k. unwrap_or (map.get m k) []) y.1 ∙ none)
  | inr n ↦ ap (λ b. cond b [] (unwrap_or (map.get m u) [])) n.0
]

pub node_lists : (label : List ℕ) (s : GraphState) → let k = s.made_nodes + 1 in out_list s k ≡ [] → in_list s k ≡ [] → (l : ListName)
    → list_of (with_node label s) l ≡ list_of s l ++ one (same_list Nodes l) (Node k)
unfolding with_node
node_lists label s outs ins Nodes = map_join Node s.nodes ((s.made_nodes + 1) ∷ [])
node_lists label s outs ins Edges = sym (append-nil (list.map Edge s.edges))
node_lists label s outs ins (Out u) = ap (list.map End) (put_none s.outs (s.made_nodes + 1) u outs) ∙ sym (append-nil (list.map End (out_list s u)))
node_lists label s outs ins (In u) = ap (list.map End) (put_none s.ins (s.made_nodes + 1) u ins) ∙ sym (append-nil (list.map End (in_list s u)))
