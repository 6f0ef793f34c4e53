-- A hash table as a finite map.
use Rattle.std.proofs.Common.{◌≡◌, ℕ, cond, ◌==◌, nat_eq, List, [], ◌∷◌, Some, refl, sym, ap, ◌∙◌}
use Rattle.std.specs.Prelude.{ℤ}
use Rattle.std.specs.Ordering.{nat_cmp}
use Rattle.std.specs.Cmp.{nat_cmp_total, nat_eq_equiv}
use Rattle.std.specs.HashMap as hash
use Rattle.std.specs.HashMap.{HashMap}
use Rattle.std.specs.Map.{lookup}
use Rattle.std.specs.FinMap as map
use Rattle.graph_state.proofs.Maps.{ties, get_put}
use Rattle.node_maps.specs.Contents.{map_contents, with_set}
use Rattle.node_maps.specs.PrivateTable.{values_set}

found_by : (q : ℕ) (es : List (ℕ × ℤ)) → map.find nat_cmp q es ≡ lookup (nat_eq q) es
found_by q [] = refl
found_by q (e ∷ es) = ap (λ b. cond b (Some e.1) (map.find nat_cmp q es)) (ties q e.0) ∙ ap (cond (q == e.0) (Some e.1)) (found_by q es)

module _ {S : Type 0} where
  pub get_set : (m : HashMap ℕ ℤ S) (q : ℕ) → map.get (values_set m.entries) q ≡ hash.get nat_eq m q
  get_set m q = map.get-from_entries nat_cmp_total m.entries q ∙ found_by q m.entries

  pub set_put : (m n : HashMap ℕ ℤ S) (k : ℕ) (x : ℤ) → hash.Updates nat_eq m n k (Some x) → values_set n.entries ≡ map.insert (values_set m.entries) k x
  set_put m n k x u = map.same_map nat_cmp_total map.nat_cmp-IsAntisymmetric (values_set n.entries) (map.insert (values_set m.entries) k x) (λ q.
      get_set n q ∙ u.0 q ∙ ap (λ b. cond b (Some x) (hash.get nat_eq m q)) (nat_eq_equiv.symm k q)
      ∙ sym (get_put (values_set m.entries) k x q ∙ ap (cond (q == k) (Some x)) (get_set m q)))

  pub put_is : (default : ℤ) (m n : HashMap ℕ ℤ S) (k : ℕ) (x : ℤ) → hash.Updates nat_eq m n k (Some x)
      → map_contents default (values_set n.entries) ≡ with_set k x (map_contents default (values_set m.entries))
  unfolding with_set
  put_is default m n k x u = ap (map_contents default) (set_put m n k x u)
