-- Private: what contracts see of the rings, and what the proofs see beside.
use Rattle.std.specs.Prelude.{ℕ, List, [], refl}
use Rattle.std.specs.Coded.{Coded, code_by, coded×, coded_ℕ, coded_list}
use Rattle.std.specs.Ordering.{nat_cmp}
use Rattle.std.specs.FinMap as map

-- the rings by their heads, the loose members, the tag of each member, and the free slots in the
-- order of their chain
pub record View : Type 0 where
  pub rings : map.FinMap nat_cmp (List ℕ)
  pub loose : List ℕ
  pub tags : map.FinMap nat_cmp ℕ
  pub free : List ℕ

abbrev pub view_code : Coded View
view_code = code_by (map.FinMap nat_cmp (List ℕ) × (List ℕ × (map.FinMap nat_cmp ℕ × List ℕ)))
    (coded× (map.code coded_ℕ (coded_list coded_ℕ))
    (coded× (coded_list coded_ℕ) (coded× (map.code coded_ℕ coded_ℕ) (coded_list coded_ℕ))))
    (λ v. (v.rings, (v.loose, (v.tags, v.free))))
    (λ p. record { rings = p.0; loose = p.1.0; tags = p.1.1.0; free = p.1.1.1 }) (λ _. refl)

abbrev pub nothing_seen : View
nothing_seen = record { rings = map.empty; loose = []; tags = map.empty; free = [] }
