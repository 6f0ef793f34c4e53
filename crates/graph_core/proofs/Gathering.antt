-- The back darts of a list go to the end of another, and so do those of all nodes.
use Rattle.std.proofs.Common.{◌≡◌, ℕ, ◌+◌, ◌<◌, ◌≤◌, Bool, true, false, cond, not, List, [], ◌∷◌, ◌++◌, length, Option, Some, None, refl, sym, ap, subst, ◌∙◌, inl, inr, arith, length-append}
use Rattle.std.proofs.lemmas.List.{append-nil, append_assoc}
use Rattle.item_pool.specs.Contents.{Contents, HasLive}
use Rattle.graph_state.specs.declared.name.ListName.{ListName}
use Rattle.graph_state.specs.declared.name.ListName.TheVariants.{Nodes, Edges, Out, In}
use Rattle.graph_state.specs.declared.name.Element.{Element}
use Rattle.graph_state.specs.declared.name.Element.TheVariants.{End}
use Rattle.graph_state.specs.State.{front}
use Rattle.graph_state.specs.Names.{Has, number, first_of, back_row, same_element, same_list, without}
use Rattle.graph_state.specs.Turned.{is_back}
use Rattle.graph_state.proofs.Has.{has_left, has_right, has_either, has_last, has_filter, filter_join, filter_one, filter_no}
use Rattle.graph_state.proofs.Same.{nat_tells, list_tells, same_is, same_not}
use Rattle.graph_state.proofs.Lists.{one}
use Rattle.graph_lists.specs.declared.token.ListHead.{ListHead}
use Rattle.graph_lists.specs.Named.{Lists, Named, head_at, list_at, pushed, unlinked, Leaves}
use Rattle.graph_lists.specs.Table.{look}
use Rattle.graph_lists.specs.Heads.{IsMemberOf, Finds}
use Rattle.graph_core.specs.declared.cell.NodeCell.{NodeCell}
use Rattle.graph_core.specs.declared.cell.EdgeCell.{EdgeCell}
use Rattle.graph_core.specs.Marks.{IsToken, IsTokenIn, HasTokens}
use Rattle.graph_core.specs.Members.{Walks}
use Rattle.graph_core.specs.Gathers.{stay, go, GoesIf, CanGather, Gathers, Gathering, from_list, to_list, CanGatherAt, GathersAt, GathersAll, CanGatherEach}
use Rattle.graph_core.proofs.Names.{pushed_list, taken}
use Rattle.graph_core.proofs.Walks.{IsHere, here_at, none_left, no_rest}

-- where the hooks are the same, the same is found
pub member_same : (n m : Named) → m.hooks ≡ n.hooks → (x : Element) (k : ℕ) → IsMemberOf n false x k → IsMemberOf m false x k
member_same n m e x k w = (w.0, (ap (λ ps. look same_element None ps x) e ∙ w.1.0, w.1.1))

pub finds_same : (n m : Named) → m.hooks ≡ n.hooks → (at : Option ℕ) (o : Option Element) → Finds n false at o → Finds m false at o
finds_same n m e None None f = f
finds_same n m e None (Some x) f = absurd f
finds_same n m e (Some k) None f = absurd f
finds_same n m e (Some k) (Some x) f = member_same n m e x k f

edge_token_same : (n m : Named) (q : Contents EdgeCell) (l : ListName) (x : Element) → m.hooks ≡ n.hooks → IsToken n q l x → IsToken m q l x
edge_token_same n m q l x e t = record {
  cell = t.cell;
  live = t.live;
  hook = ap (λ ps. look same_element None ps x) e ∙ t.hook;
  first = ap (λ ps. look same_element None ps (End (front (number x)))) e ∙ t.first;
  fits = t.fits;
}

token_same : (n m : Named) (p : Contents NodeCell) (q : Contents EdgeCell) (l : ListName) (x : Element) → m.hooks ≡ n.hooks → IsTokenIn n p q l x → IsTokenIn m p q l x
token_same n m p q Nodes x e t = record { cell = t.cell; live = t.live; hook = ap (λ ps. look same_element None ps x) e ∙ t.hook; fits = t.fits }
token_same n m p q Edges x e t = edge_token_same n m q Edges x e t
token_same n m p q (Out v) x e t = edge_token_same n m q (Out v) x e t
token_same n m p q (In v) x e t = edge_token_same n m q (In v) x e t

pub tokens_same : (n m : Named) (p : Contents NodeCell) (q : Contents EdgeCell) (l : ListName) → m.hooks ≡ n.hooks → ((x : Element) → Has x (list_at m l) → Has x (list_at n l)) → HasTokens n p q l → HasTokens m p q l
tokens_same n m p q l e still all x i = token_same n m p q l x e (all x (still x i))

abbrev pub walk_moved : (n m : Named) → m.hooks ≡ n.hooks → (xs : List Element) (ks : List ℕ) (turn : ℕ) (at : Option ℕ) → Walks (λ (k : ℕ). k) number n false xs ks turn at → Walks (λ (k : ℕ). k) number m false xs ks turn at
walk_moved n m e xs ks turn at w = record {
  taken = w.taken;
  rest = w.rest;
  is = w.is;
  values = w.values;
  counted = w.counted;
  finds = finds_same n m e at (first_of w.rest) w.finds;
}

-- one list
module _ (n : Named) (p : Contents NodeCell) (q : Contents EdgeCell) (from to : ListName) (head rear : ListHead) (can : CanGather n p q from to head rear) where
  pub gathering_none : (at : Option ℕ) → Finds n false at (first_of (list_at n from)) → Gathering n n from to 0 at
  gathering_none at f = record {
    passed = [];
    rest = list_at n from;
    is = refl;
    counted = refl;
    finds = f;
    gathers = record {
      keeps = record { heads = refl; hooks = refl; shown = refl; loose = can.loose };
      left = refl;
      gone = sym (append-nil (list_at n to));
      else = λ l nf nt. refl;
    };
  }

  module _ (m : Named) (turn : ℕ) (at : Option ℕ) (g : Gathering n m from to turn at) where
    long : length (list_at n from) ≡ turn + length g.rest
    long = ap length g.is ∙ length-append g.passed g.rest ∙ ap (λ i. i + length g.rest) g.counted

    pub gathering_goes : at ≡ None → turn < length (list_at n from) → ⊥
    gathering_goes e lt =
        let none = ap length (none_left m false g.rest (subst (λ a. Finds m false a (first_of g.rest)) e g.finds)) in
        let i = long in
        omega (arith, lt, i, none)

    pub gathering_here : (k : ℕ) → at ≡ Some k → IsHere m false g.rest k
    gathering_here k e = here_at m false g.rest k (subst (λ a. Finds m false a (first_of g.rest)) e g.finds)

    pub gathering_tokens : HasTokens m p q from
    gathering_tokens = tokens_same n m p q from g.gathers.keeps.hooks
        (λ x i. subst (Has x) (sym g.is) (elim (has_either x (stay g.passed) g.rest (subst (Has x) g.gathers.left i)) [
          | inl j ↦ has_left x g.passed g.rest (has_filter (λ x. not (is_back x)) x g.passed j).0
          | inr j ↦ has_right x g.passed g.rest j
        ])) can.tokens

    module _ (k : ℕ) (h : IsHere m false g.rest k) where
      pub here_is : list_at m from ≡ stay g.passed ++ h.x ∷ h.behind
      here_is = g.gathers.left ∙ ap (λ ys. stay g.passed ++ ys) h.is

      pub here_in : Has h.x (list_at m from)
      here_in = subst (Has h.x) (sym here_is) (has_right h.x (stay g.passed) (h.x ∷ h.behind) (inl refl))

      stays : is_back h.x ≡ false → Gathers n m from to (g.passed ++ h.x ∷ []) h.behind
      stays b = record {
        keeps = g.gathers.keeps;
        left = here_is ∙ sym (append_assoc (stay g.passed) (h.x ∷ []) h.behind)
            ∙ ap (λ ys. (stay g.passed ++ ys) ++ h.behind) (sym (filter_one (λ x. not (is_back x)) h.x (ap not b)))
            ∙ ap (λ ys. ys ++ h.behind) (sym (filter_join (λ x. not (is_back x)) g.passed (h.x ∷ [])));
        gone = g.gathers.gone ∙ ap (λ ys. list_at n to ++ ys)
            (sym (filter_join is_back g.passed (h.x ∷ []) ∙ ap (λ ys. go g.passed ++ ys) (filter_no is_back h.x b) ∙ append-nil (go g.passed)));
        else = g.gathers.else;
      }

      module _ (o : Named) (is : o ≡ pushed to h.x (unlinked h.x m)) (lv : Leaves m (unlinked h.x m) h.x) where
        moved_list : (l : ListName) → list_at o l ≡ list_at (unlinked h.x m) l ++ one (same_list to l) h.x
        moved_list l = ap (λ o. list_at o l) is ∙ pushed_list to h.x (unlinked h.x m) l

        left_out : list_at (unlinked h.x m) from ≡ stay g.passed ++ h.behind
        left_out = (lv from (stay g.passed) h.behind here_is).0

        other : (l : ListName) → (l ≡ from → ⊥) → list_at (unlinked h.x m) l ≡ list_at m l
        other l = (lv from (stay g.passed) h.behind here_is).1 l

        no_more : (l : ListName) → (l ≡ to → ⊥) → list_at o l ≡ list_at (unlinked h.x m) l
        no_more l ne = moved_list l ∙ ap (λ b. list_at (unlinked h.x m) l ++ one b h.x) (same_not same_list list_tells to l (λ e. ne (sym e))) ∙ append-nil (list_at (unlinked h.x m) l)

        goes : is_back h.x ≡ true → Gathers n o from to (g.passed ++ h.x ∷ []) h.behind
        goes b = record {
          keeps = record {
            heads = ap (λ (o : Named). o.heads) is ∙ g.gathers.keeps.heads;
            hooks = ap (λ (o : Named). o.hooks) is ∙ g.gathers.keeps.hooks;
            shown = ap (λ (o : Named). o.shown) is ∙ g.gathers.keeps.shown;
            loose = ap (λ (o : Named). o.loose) is ∙ taken h.x m.loose ∙ ap (without same_element h.x) g.gathers.keeps.loose;
          };
          left = no_more from can.apart ∙ left_out ∙ ap (λ ys. ys ++ h.behind)
              (sym (filter_join (λ x. not (is_back x)) g.passed (h.x ∷ []) ∙ ap (λ ys. stay g.passed ++ ys) (filter_no (λ x. not (is_back x)) h.x (ap not b)) ∙ append-nil (stay g.passed)));
          gone = moved_list to ∙ ap (λ b. list_at (unlinked h.x m) to ++ one b h.x) (same_is same_list list_tells to to refl)
              ∙ ap (λ ys. ys ++ h.x ∷ []) (other to (λ e. can.apart (sym e)) ∙ g.gathers.gone) ∙ append_assoc (list_at n to) (go g.passed) (h.x ∷ [])
              ∙ ap (λ ys. list_at n to ++ ys) (ap (λ ys. go g.passed ++ ys) (sym (filter_one is_back h.x b)) ∙ sym (filter_join is_back g.passed (h.x ∷ [])));
          else = λ l nf nt. no_more l nt ∙ other l nf ∙ g.gathers.else l nf nt;
        }

      either : (o : Named) (b : Bool) → is_back h.x ≡ b → GoesIf b m o to h.x → Gathers n o from to (g.passed ++ h.x ∷ []) h.behind
      either o true e r = goes o r.0 r.1 e
      either o false e r = subst (λ o. Gathers n o from to (g.passed ++ h.x ∷ []) h.behind) (sym r) (stays e)

      same_hooks : (o : Named) (b : Bool) → GoesIf b m o to h.x → o.hooks ≡ m.hooks
      same_hooks o true r = ap (λ (o : Named). o.hooks) r.0
      same_hooks o false r = ap (λ (o : Named). o.hooks) r

      pub gathering_more : (o : Named) (next : Option ℕ) → GoesIf (is_back h.x) m o to h.x → Finds m false next (first_of h.behind) → Gathering n o from to (turn + 1) next
      gathering_more o next r f = record {
        passed = g.passed ++ h.x ∷ [];
        rest = h.behind;
        is = g.is ∙ ap (λ ys. g.passed ++ ys) h.is ∙ sym (append_assoc g.passed (h.x ∷ []) h.behind);
        counted = length-append g.passed (h.x ∷ []) ∙ ap (λ i. i + 1) g.counted;
        finds = finds_same m o (same_hooks o (is_back h.x) r) next (first_of h.behind) f;
        gathers = either o (is_back h.x) refl r;
      }

    pub gathering_ends : length (list_at n from) ≤ turn → Gathers n m from to (list_at n from) []
    gathering_ends le =
        let i = long in
        let none = no_rest g.rest (omega (arith, le, i)) in
        let all = g.is ∙ ap (λ ys. g.passed ++ ys) none ∙ append-nil g.passed in
        subst (λ ps. Gathers n m from to ps []) (sym all) (subst (λ r. Gathers n m from to g.passed r) none g.gathers)

-- the lists of nodes differ from each other, and from the node list and the edge list
abbrev node_in : ListName → ℕ
node_in Nodes = 0
node_in Edges = 0
node_in (Out v) = v
node_in (In v) = v

node_in_row : (b : Bool) (v : ℕ) → node_in (back_row b v) ≡ v
node_in_row true v = refl
node_in_row false v = refl

pub row_node : (b c : Bool) (v w : ℕ) → back_row b v ≡ back_row c w → v ≡ w
row_node b c v w e = sym (node_in_row b v) ∙ ap node_in e ∙ node_in_row c w

pub row_sides : (b : Bool) (v w : ℕ) → back_row b v ≡ back_row (not b) w → ⊥
row_sides true v w e = let f : In v ≡ Out w = e in cc
row_sides false v w e = let f : Out v ≡ In w = e in cc

pub row_nodes : (b : Bool) (v : ℕ) → Nodes ≡ back_row b v → ⊥
row_nodes true v e = let f : Nodes ≡ In v = e in cc
row_nodes false v e = let f : Nodes ≡ Out v = e in cc

pub row_edges : (b : Bool) (v : ℕ) → Edges ≡ back_row b v → ⊥
row_edges true v e = let f : Edges ≡ In v = e in cc
row_edges false v e = let f : Edges ≡ Out v = e in cc

-- all nodes
module _ (n : Named) (directed : Bool) where
  pub all_none : n.loose ≡ [] → GathersAll n n directed []
  all_none loose = record {
    keeps = record { heads = refl; hooks = refl; shown = refl; loose = loose };
    left = λ v i. absurd i;
    gone = λ v i. absurd i;
    else_left = λ v out. refl;
    else_gone = λ v out. refl;
    nodes = refl;
    edges = refl;
  }

  module _ (m : Named) (vs : List ℕ) (g : GathersAll n m directed vs) (v : ℕ) (out : Has v vs → ⊥) where
    pub can_at : (t : Lists) (p : Contents NodeCell) (q : Contents EdgeCell) → t.named ≡ n → CanGatherEach t p q → HasLive p v → CanGatherAt m p q directed v
    can_at t p q is each live =
        let heads : (b : Bool) → head_at n (back_row b v) ≡ Some (cond b live.0.ins live.0.outs) = λ b. elim b as (λ b. head_at n (back_row b v) ≡ Some (cond b live.0.ins live.0.outs)) [
          | true ↦ ap (λ n. head_at n (In v)) (sym is) ∙ each.ins v live.0 live.1.0
          | false ↦ ap (λ n. head_at n (Out v)) (sym is) ∙ each.outs v live.0 live.1.0
        ] in
        record {
          cell = live.0;
          live = live.1.0;
          can = record {
            at_from = ap (λ hs. look same_list None hs (back_row directed v)) g.keeps.heads ∙ heads directed;
            at_to = ap (λ hs. look same_list None hs (back_row (not directed) v)) g.keeps.heads ∙ heads (not directed);
            apart = row_sides directed v v;
            loose = g.keeps.loose;
            tokens = tokens_same n m p q (back_row directed v) g.keeps.hooks (λ x i. subst (Has x) (g.else_left v out) i)
                (subst (λ n. HasTokens n p q (back_row directed v)) is (each.tokens (back_row directed v)));
          };
        }

    pub all_more : (o : Named) → GathersAt m o directed v → GathersAll n o directed (vs ++ v ∷ [])
    all_more o r =
        let else_from : (w : ℕ) → (w ≡ v → ⊥) → list_at o (from_list directed w) ≡ list_at m (from_list directed w) = λ w ne.
        r.else (from_list directed w) (λ e. ne (row_node directed directed w v e)) (λ e. row_sides directed w v e) in
        let else_to : (w : ℕ) → (w ≡ v → ⊥) → list_at o (to_list directed w) ≡ list_at m (to_list directed w) = λ w ne.
        r.else (to_list directed w) (λ e. row_sides directed v w (sym e)) (λ e. ne (row_node (not directed) (not directed) w v e)) in
        let before : (w : ℕ) → (w ≡ v → ⊥) → Has w (vs ++ v ∷ []) → Has w vs = λ w ne i. elim (has_last w v vs i) [ inl j ↦ j | inr e ↦ absurd (ne e) ] in
        let not_here : (w : ℕ) → (Has w (vs ++ v ∷ []) → ⊥) → w ≡ v → ⊥ = λ w no e. no (has_right w vs (v ∷ []) (inl e)) in
        let not_before : (w : ℕ) → (Has w (vs ++ v ∷ []) → ⊥) → Has w vs → ⊥ = λ w no i. no (has_left w vs (v ∷ []) i) in
        record {
          keeps = record {
            heads = r.keeps.heads ∙ g.keeps.heads;
            hooks = r.keeps.hooks ∙ g.keeps.hooks;
            shown = r.keeps.shown ∙ g.keeps.shown;
            loose = r.keeps.loose;
          };
          left = λ w i. elim (nat_tells w v) [
            | inl y ↦ subst (λ w. list_at o (from_list directed w) ≡ stay (list_at n (from_list directed w))) (sym y.1)
                (r.left ∙ append-nil (stay (list_at m (from_list directed v))) ∙ ap stay (g.else_left v out))
            | inr ne ↦ else_from w ne.1 ∙ g.left w (before w ne.1 i)
          ];
          gone = λ w i. elim (nat_tells w v) [
            | inl y ↦ subst (λ w. list_at o (to_list directed w) ≡ list_at n (to_list directed w) ++ go (list_at n (from_list directed w))) (sym y.1)
                (r.gone ∙ (λ j. g.else_gone v out j ++ go (g.else_left v out j)))
            | inr ne ↦ else_to w ne.1 ∙ g.gone w (before w ne.1 i)
          ];
          else_left = λ w no. else_from w (not_here w no) ∙ g.else_left w (not_before w no);
          else_gone = λ w no. else_to w (not_here w no) ∙ g.else_gone w (not_before w no);
          nodes = r.else Nodes (row_nodes directed v) (row_nodes (not directed) v) ∙ g.nodes;
          edges = r.else Edges (row_edges directed v) (row_edges (not directed) v) ∙ g.edges;
        }
