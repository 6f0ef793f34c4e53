-- Lists and elements with their other names: the rings stay as they are.
use Rattle.std.proofs.Common.{◌≡◌, ℕ, Bool, true, false, cond, List, [], ◌∷◌, map, filter, option_map, Some, None, refl, sym, ap, subst, ◌∙◌, inl, inr}
use Rattle.item_ring.specs.RingLists.{RingLists}
use Rattle.graph_state.specs.declared.name.ListName.{ListName}
use Rattle.graph_state.specs.declared.name.Element.{Element}
use Rattle.graph_state.specs.declared.name.Element.TheVariants.{Node, Edge, End}
use Rattle.graph_state.specs.Names.{Has, number, same_element, same_list}
use Rattle.graph_state.specs.Turned.{turned_list, turned_element}
use Rattle.graph_state.proofs.Has.{has_mapped, map_on, map_same, filter_map_is, filter_same}
use Rattle.graph_state.proofs.Same.{Tells, list_tells, element_tells, same_is, same_not}
use Rattle.graph_state.proofs.Turned.{list_twice, element_twice}
use Rattle.graph_lists.specs.Named.{Named, head_at, hook_at, list_at, shows_at, seen_list}
use Rattle.graph_lists.specs.Table.{look, each, renamed}
use Rattle.graph_lists.specs.Tied.{owner_of, who_is, member_in, member, IsOut, AreTied}
use Rattle.graph_lists.specs.Turned.{list_owner, element_owner, turned}
use Rattle.graph_lists.proofs.Numbers.{look_each}
use Rattle.graph_lists.proofs.Rows.{row_at, member_at}

-- an entry is found under its other name
module _ {K V : Type 0} (same : K → K → Bool) (tells : (a b : K) → Tells same a b) (other : V) (f : K → K) (twice : (k : K) → f (f k) ≡ k) where
  same_turned : (a k : K) → same (f a) k ≡ same a (f k)
  same_turned a k = elim (tells (f a) k) [
    | inl y ↦ y.0 ∙ sym (same_is same tells a (f k) (sym (twice a) ∙ ap f y.1))
    | inr n ↦ n.0 ∙ sym (same_not same tells a (f k) (λ e. n.1 (ap f e ∙ twice k)))
  ]

  look_renamed : (es : List (K × V)) (k : K) → look same other (renamed f es) k ≡ look same other es (f k)
  look_renamed [] k = refl
  look_renamed (e ∷ es) k = (λ i. cond (same_turned e.0 k i) e.1 (look_renamed es k i))

number_turned : (x : Element) → number (turned_element x) ≡ number x
number_turned (Node v) = refl
number_turned (Edge e) = refl
number_turned (End d) = refl

module _ (d : Bool) (v : Named) where
  pub heads_turned : (l : ListName) → head_at (turned d v) l ≡ head_at v (turned_list d l)
  heads_turned l = look_renamed same_list list_tells None (turned_list d) (list_twice d) v.heads l

  pub hooks_turned : (x : Element) → hook_at (turned d v) x ≡ hook_at v (turned_element x)
  hooks_turned x = look_renamed same_element element_tells None turned_element element_twice v.hooks x

  pub shown_turned : (x : Element) → shows_at (turned d v) x ≡ shows_at v (turned_element x)
  shown_turned x = look_renamed same_element element_tells false turned_element element_twice v.shown x

  pub lists_turned : (l : ListName) → list_at (turned d v) l ≡ map turned_element (list_at v (turned_list d l))
  lists_turned l =
      look_renamed same_list list_tells [] (turned_list d) (list_twice d) (each (map turned_element) v.lists) l
      ∙ look_each same_list [] (map turned_element) v.lists (turned_list d l) refl

  shows_back : (x : Element) → shows_at (turned d v) (turned_element x) ≡ shows_at v x
  shows_back x = shown_turned (turned_element x) ∙ ap (shows_at v) (element_twice x)

  seen_turned : (b : Bool) (l : ListName) → seen_list (turned d v) b l ≡ map turned_element (seen_list v b (turned_list d l))
  seen_turned true l =
      ap (filter (shows_at (turned d v))) (lists_turned l)
      ∙ filter_map_is turned_element (shows_at (turned d v)) (list_at v (turned_list d l))
      ∙ ap (map turned_element) (filter_same (λ x. shows_at (turned d v) (turned_element x)) (shows_at v) (list_at v (turned_list d l)) (λ x _. shows_back x))
  seen_turned false l = lists_turned l

  member_back : (b : Bool) (x : Element) → member (turned d v) b (turned_element x) ≡ member v b x
  member_back b x = ap (member_in b) (hooks_turned (turned_element x) ∙ ap (hook_at v) (element_twice x))

  members_back : (b : Bool) (l : ListName) → map (member v b) (seen_list v b (turned_list d l)) ≡ map (member (turned d v) b) (seen_list (turned d v) b l)
  members_back b l =
      let xs = seen_list v b (turned_list d l) in
      map_same (member v b) (λ x. member (turned d v) b (turned_element x)) xs (λ x _. sym (member_back b x))
      ∙ sym (map_on turned_element (member (turned d v) b) xs) ∙ ap (map (member (turned d v) b)) (sym (seen_turned b l))

  owner_turned : (h : ℕ) (b : Bool) (l : ListName) → owner_of v h ≡ Some (row_at b (turned_list d l)) → owner_of (turned d v) h ≡ Some (row_at b l)
  owner_turned h b l e =
      look_each _ None (option_map (list_owner d)) v.owner h refl ∙ ap (option_map (list_owner d)) e ∙ ap (λ l. Some (row_at b l)) (list_twice d l)

  who_turned : (m : ℕ) (b : Bool) (x : Element) → who_is v m ≡ Some (member_at b (turned_element x)) → who_is (turned d v) m ≡ Some (member_at b x)
  who_turned m b x e =
      look_each _ None (option_map element_owner) v.who m refl ∙ ap (option_map element_owner) e ∙ ap (λ x. Some (member_at b x)) (element_twice x)

  -- what has a name in a list has the other one in the list from which that came
  has_back : (x : Element) (xs : List Element) → Has x (map turned_element xs) → Has (turned_element x) xs
  has_back x xs i =
      let y = has_mapped turned_element x xs i in
      subst (λ z. Has z xs) (sym (ap turned_element y.1.1 ∙ element_twice y.0)) y.1.0

  out_back : (b : Bool) (x : Element) → IsOut (turned d v) b x → IsOut v b (turned_element x)
  out_back true x i = elim i [ inl s ↦ inl (sym (shown_turned x) ∙ s) | inr j ↦ inr (has_back x v.loose j) ]
  out_back false x i = has_back x v.loose i

  pub tied_turned : (r : RingLists) → AreTied v r → AreTied (turned d v) r
  tied_turned r k = record {
    rows = λ b l h at. let i = k.rows b (turned_list d l) h (sym (heads_turned l) ∙ at) in record {
      is = i.is ∙ ap Some (members_back b l);
      name = owner_turned _ b l i.name;
    };
    members = λ b x w at. let i = k.members b (turned_element x) w (sym (hooks_turned x) ∙ at) in record {
      tag = i.tag ∙ ap Some (number_turned x);
      name = who_turned _ b x i.name;
    };
    loose = λ b x w at out. k.loose b (turned_element x) w (sym (hooks_turned x) ∙ at) (out_back b x out);
    standing = λ l x i.
        let s = k.standing (turned_list d l) (turned_element x) (has_back x (list_at v (turned_list d l)) (subst (Has x) (lists_turned l) i)) in
        (s.0, hooks_turned x ∙ s.1);
    headed = λ l e. lists_turned l ∙ ap (map turned_element) (k.headed (turned_list d l) (sym (heads_turned l) ∙ e));
    apart = k.apart;
  }
