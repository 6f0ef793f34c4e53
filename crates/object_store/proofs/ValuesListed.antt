-- The values that the array or the map of a name has for elements, one by one.
use Rattle.std.proofs.Common.{◌≡◌, ℕ, zero, suc, ◌+◌, ◌<◌, true, false, cond, List, [], ◌∷◌, ◌++◌, length, get_or, map, take, Some, None, is_some, inl, inr, refl, sym, ap, subst, ◌∙◌, arith}
use Rattle.std.specs.Prelude.{ℤ, option_and_then, MatchResult, Result, Ok, Err}
use Rattle.std.proofs.lemmas.List.{take_more}
use Rattle.graph_state.specs.Names.{Has}
use Rattle.graph_state.specs.State.{GraphState}
use Rattle.graph_state.proofs.Has.{map_join}
use Rattle.object_store.specs.declared.kind.Sort.{Sort}
use Rattle.object_store.specs.declared.kind.Sort.TheVariants.{Nodes, Edges}
use Rattle.object_store.specs.declared.listed.ValuesRefusal.{ValuesRefusal}
use Rattle.object_store.specs.declared.listed.ValuesRefusal.TheVariants.{Object as NoObject, Covered, NoMemory}
use Rattle.object_store.specs.declared.object.Object.{Object as Held}
use Rattle.object_store.specs.declared.object.Object.TheVariants as held
use Rattle.object_store.specs.declared.values.SortValues.{SortValues}
use Rattle.object_store.specs.declared.values.SortValues.TheVariants as sorted
use Rattle.object_store.specs.declared.values.Values.{Values}
use Rattle.object_store.specs.State.{Object, ObjectState, Valuation}
use Rattle.object_store.specs.Inner.{kind_of, kind_of_sort, sort_values}
use Rattle.object_store.specs.Listed.{kinds_over, AreValues, HoldsValues, IsFirstUncovered, ListsValues, RefusesElements, RefusesValues}
use Rattle.object_store.specs.Served.{AllServe}
use Rattle.object_store.specs.Serving.{IsServing, IsTold}
use Rattle.object_store.specs.Values.{covers, elements, name_of, of_array}
use Rattle.object_store.specs.Views.{has_object, is_of, object_at, of_kinds}
use Rattle.object_store.proofs.Lists.{cond_true}
use Rattle.object_store.proofs.Valued.{serving}

-- ---- a row, an element more at a time
values_more : (v : Valuation) (ns : List ℕ) (row : List ℤ) (n : ℕ) (x : ℤ) → AreValues v ns row → IsTold v n (Some x) → AreValues v (ns ++ n ∷ []) (row ++ x ∷ [])
values_more v [] [] n x are told = (told, tt)
values_more v [] (y ∷ row) n x are told = absurd are
values_more v (m ∷ ns) [] n x are told = absurd are
values_more v (m ∷ ns) (y ∷ row) n x are told = (are.0, values_more v ns row n x are.1 told)

module _ {X : Type 0} (f : X → ℕ) where
  pub number_at_index : (xs : List X) (i : ℕ) (x : X) → i < length xs → x ≡ get_or xs i x → Has (f x) (map f xs)
  number_at_index [] i x lt is = absurd (omega (arith, lt))
  number_at_index (y ∷ ys) zero x lt is = inl (ap f is)
  number_at_index (y ∷ ys) (suc i) x lt is = inr (number_at_index ys i x (omega (arith, lt)) is)

  module _ (v : Valuation) where
    pub values_next : (xs : List X) (i : ℕ) (x : X) (row next : List ℤ) (y z : ℤ) → i < length xs → x ≡ get_or xs i x
        → AreValues v (map f (take i xs)) row → IsTold v (f x) (Some y) → z ≡ y → next ≡ row ++ z ∷ [] → AreValues v (map f (take (i + 1) xs)) next
    values_next xs i x row next y z lt is are told same made =
        subst (AreValues v (map f (take (i + 1) xs))) (sym (made ∙ ap (λ (u : ℤ). row ++ u ∷ []) same))
        (subst (λ ns. AreValues v ns (row ++ y ∷ []))
        (sym (ap (map f) (take_more xs i x lt ∙ ap (λ (u : X). take i xs ++ u ∷ []) (sym is)) ∙ map_join f (take i xs) (x ∷ [])))
        (values_more v (map f (take i xs)) row (f x) y are told))

    pub uncovered_at : (xs : List X) (i : ℕ) (x : X) (row : List ℤ) → i < length xs → x ≡ get_or xs i x
        → AreValues v (map f (take i xs)) row → covers v (f x) ≡ false → IsFirstUncovered v (map f xs) (f x)
    uncovered_at [] i x row lt is are bad = absurd (omega (arith, lt))
    uncovered_at (y ∷ ys) zero x row lt is are bad = inl (ap f is, subst (λ k. covers v k ≡ false) (ap f is) bad)
    uncovered_at (y ∷ ys) (suc i) x [] lt is are bad = absurd are
    uncovered_at (y ∷ ys) (suc i) x (z ∷ row) lt is are bad = inr (are.0.0, uncovered_at ys i x row (omega (arith, lt)) is are.1 bad)

-- ---- the array or the map of a name
over_sort : {E : Type 0} (sort : Sort) (w : SortValues E) → is_of (kinds_over sort) (kind_of_sort sort w) ≡ true
over_sort Nodes (sorted.Array a) = refl
over_sort Nodes (sorted.Map m) = refl
over_sort Edges (sorted.Array a) = refl
over_sort Edges (sorted.Map m) = refl

pub no_nodes : {E : Type 0} (w : SortValues E) → is_of (kinds_over Nodes) (kind_of_sort Edges w) ≡ false
no_nodes (sorted.Array a) = refl
no_nodes (sorted.Map m) = refl

pub no_edges : {E : Type 0} (w : SortValues E) → is_of (kinds_over Edges) (kind_of_sort Nodes w) ≡ false
no_edges (sorted.Array a) = refl
no_edges (sorted.Map m) = refl

-- a container has no values
pub no_container : (sort : Sort) (o : Held) → ((v : Values) → o ≡ held.Values v → ⊥) → is_of (kinds_over sort) (kind_of o) ≡ false
no_container sort (held.Values v) none = absurd (none v refl)
no_container Nodes (held.List l) none = refl
no_container Nodes (held.Dict d) none = refl
no_container Nodes (held.Queue q) none = refl
no_container Edges (held.List l) none = refl
no_container Edges (held.Dict d) none = refl
no_container Edges (held.Queue q) none = refl

-- an object of other kinds
pub has_other : (s : ObjectState) (sort : Sort) (name : List ℕ) (o : Object) → object_at s name ≡ Some o → is_of (kinds_over sort) o.kind ≡ false → has_object s (kinds_over sort) name ≡ false
has_other s sort name o at other =
    ap (λ found. is_some (option_and_then (of_kinds (kinds_over sort)) found)) at
    ∙ ap (λ b. is_some (cond b (Some o) None)) other

none_covered : (n : ℕ) → None ≡ Some n → ⊥
none_covered n e = cc

module _ {E : Type 0} (s : ObjectState) (sort : Sort) (name : List ℕ) (w : SortValues E) (o : Object) (at : object_at s name ≡ Some o) (kind : o.kind ≡ kind_of_sort sort w) (has : o.values ≡ Some (sort_values w)) where
  pub name_serves : (g : GraphState) → AllServe g s → IsServing (sort_values w) (elements sort g)
  name_serves g all = elim w as (λ (u : SortValues E). o.kind ≡ kind_of_sort sort u → o.values ≡ Some (sort_values u) → IsServing (sort_values u) (elements sort g)) [
    | sorted.Array a ↦ λ k h. serving g o sort (of_array a) (all name o at) k h
    | sorted.Map m ↦ λ k h a is. absurd (none_covered a.made (ap (λ (v : Valuation). v.covered) is))
  ] kind has

  holds : HoldsValues s sort name (sort_values w)
  holds = (
    o,
    ap (λ found. option_and_then (of_kinds (kinds_over sort)) found) at
        ∙ cond_true (is_of (kinds_over sort) o.kind) (Some o) None (ap (λ k. is_of (kinds_over sort) k) kind ∙ over_sort sort w),
    has,
  )

  pub name_told : (ns : List ℕ) (r : Result (List ℤ) ValuesRefusal) → MatchResult r (AreValues (sort_values w) ns) (RefusesElements (sort_values w) ns (name_of sort))
      → MatchResult r (ListsValues s sort name ns) (RefusesValues s sort name ns)
  name_told ns (Ok row) are = (sort_values w, holds, are)
  name_told ns (Err NoObject) never = absurd never
  name_told ns (Err (Covered x)) first = (sort_values w, holds, first)
  name_told ns (Err NoMemory) lacks = (sort_values w, holds, lacks)
