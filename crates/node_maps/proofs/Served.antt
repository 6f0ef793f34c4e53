-- Arrays that serve a graph.
use Rattle.std.proofs.Common.{◌≡◌, ℕ, ◌+◌, ◌<◌, ◌≤◌, false, inl, inr, List, length, get_or, take, Option, Some, IsSome, is_some, refl, sym, ap, subst, ◌∙◌}
use Rattle.std.proofs.Common as list
use Rattle.std.specs.Prelude.{ℤ}
use Rattle.std.specs.FinMap as map
use Rattle.graph_state.specs.Names.{Has}
use Rattle.graph_state.proofs.Has.{has_last, not_both}
use Rattle.graph_state.proofs.Same.{nat_tells}
use Rattle.graph_state.proofs.Maps.{put_here, put_else}
use Rattle.node_maps.specs.Contents.{Values, ArrayContents, array_contents, IsTable, IsServed, with_value}
use Rattle.node_maps.proofs.Tables.{numbers_next}

some_is : (o : Option ℤ) (x : ℤ) → o ≡ Some x → IsSome o
some_is o x e = subst (λ (o : Option ℤ). IsSome o) (sym e) refl

pub table_serves : (made : ℕ) (values : Values) (live : List ℕ) (R : ℕ → ℤ → Type 0) → IsTable values live R → IsServed (array_contents made values) live
table_serves made values live R t n has covered = let e = t.each n has in some_is (map.get values n) e.0 e.1.0

pub set_serves : (a : ArrayContents) (live : List ℕ) (k : ℕ) (x : ℤ) → IsServed a live → IsServed (with_value k x a) live
unfolding with_value
set_serves a live k x served n has covered = elim (nat_tells n k) [
  | inl y ↦ some_is (map.get (map.insert a.values k x) n) x (put_here a.values k x n y.1)
  | inr o ↦ subst (λ (o : Option ℤ). IsSome o) (sym (put_else a.values k x n o.1)) (served n has covered)
]

-- an array with another value
pub value_put : (made : ℕ) (values rows : Values) (k : ℕ) (x : ℤ) → rows ≡ map.insert values k x → array_contents made rows ≡ with_value k x (array_contents made values)
unfolding with_value
value_put made values rows k x put = ap (array_contents made) put

-- an element that has no value
pub not_served : (a : ArrayContents) (live : List ℕ) (n : ℕ) → Has n live → n ≤ a.made → is_some (map.get a.values n) ≡ false → IsServed a live → ⊥
not_served a live n has covered none served = not_both (served n has covered) none

-- the first i elements have their values, and so has the next
pub served_more : {X : Type 0} (f : X → ℕ) (xs : List X) (i : ℕ) (x : X) → i < length xs → x ≡ get_or xs i x → (a : ArrayContents)
    → IsServed a (list.map f (take i xs)) → (f x ≤ a.made → IsSome (map.get a.values (f x))) → IsServed a (list.map f (take (i + 1) xs))
served_more f xs i x lt is a served last n has covered = elim (has_last n (f x) (list.map f (take i xs)) (subst (Has n) (numbers_next f xs i x lt is) has)) [
  | inl h ↦ served n h covered
  | inr e ↦ subst (λ m. IsSome (map.get a.values m)) (sym e) (last (subst (λ m. m ≤ a.made) e covered))
]
