-- What the objects of a session are.
use Rattle.std.specs.Prelude.{◌≡◌, ℕ, zero, suc, ℤ, List, Option, refl}
use Rattle.std.specs.Coded.{Coded, code_by, coded×, coded_ℕ, coded_ℤ, coded_list, coded_option}
use Rattle.std.specs.Ordering.{nat_cmp}
use Rattle.std.specs.Cmp.Lexicographic.{slice_cmp}
use Rattle.std.specs.FinMap as map
use Rattle.object_store.specs.declared.kind.ObjectKind.{ObjectKind}
use Rattle.object_store.specs.declared.kind.ObjectKind.TheVariants.{List as ListKind, Dict, Queue, Array, Map}
use Rattle.object_store.specs.declared.kind.Sort.TheVariants.{Nodes, Edges}
use Rattle.node_maps.specs.Contents.{Values}

-- An item of a container: its number, and what it holds. An item of a list holds a value, one of a
-- dictionary a key and an information, and one of a queue a priority and an information.
abbrev pub Cell : Type 0
Cell = ℕ × List ℤ

-- What an array or a map holds. An array covers the elements that were made up to a number, and has
-- a value for each; a map covers every element, and has a default for those without a value.
pub record Valuation : Type 0 where
  pub covered : Option ℕ
  pub default : Option ℤ
  pub values : Values

-- a container has items, those of a list in its order, those of a dictionary in the order of their
-- keys, and those of a queue in the order in which they came in; an array or a map has values
pub record Object : Type 0 where
  pub kind : ObjectKind
  pub cells : List Cell
  pub values : Option Valuation

-- the objects by their names, and how many numbers were given to items: the numbers up to this one
pub record ObjectState : Type 0 where
  pub objects : map.FinMap (slice_cmp nat_cmp) Object
  pub made : ℕ

-- a kind is coded by a number
abbrev pub kind_number : ObjectKind → ℕ
kind_number ListKind = 0
kind_number Dict = 1
kind_number Queue = 2
kind_number (Array Nodes) = 3
kind_number (Array Edges) = 4
kind_number (Map Nodes) = 5
kind_number (Map Edges) = 6

abbrev pub kind_of_number : ℕ → ObjectKind
kind_of_number zero = ListKind
kind_of_number (suc zero) = Dict
kind_of_number (suc (suc zero)) = Queue
kind_of_number (suc (suc (suc zero))) = Array Nodes
kind_of_number (suc (suc (suc (suc zero)))) = Array Edges
kind_of_number (suc (suc (suc (suc (suc zero))))) = Map Nodes
kind_of_number (suc (suc (suc (suc (suc (suc n)))))) = Map Edges

abbrev pub kind_back : (kind : ObjectKind) → kind_of_number (kind_number kind) ≡ kind
kind_back ListKind = refl
kind_back Dict = refl
kind_back Queue = refl
kind_back (Array Nodes) = refl
kind_back (Array Edges) = refl
kind_back (Map Nodes) = refl
kind_back (Map Edges) = refl

abbrev pub cells_code : Coded (List Cell)
cells_code = coded_list (coded× coded_ℕ (coded_list coded_ℤ))

abbrev pub valuation_code : Coded Valuation
valuation_code = code_by (Option ℕ × (Option ℤ × Values))
    (coded× (coded_option coded_ℕ) (coded× (coded_option coded_ℤ) (map.code coded_ℕ coded_ℤ)))
    (λ v. (v.covered, (v.default, v.values)))
    (λ p. record { covered = p.0; default = p.1.0; values = p.1.1 }) (λ _. refl)

abbrev pub object_code : Coded Object
object_code = code_by (ℕ × (List Cell × Option Valuation))
    (coded× coded_ℕ (coded× cells_code (coded_option valuation_code)))
    (λ o. (kind_number o.kind, (o.cells, o.values)))
    (λ p. record { kind = kind_of_number p.0; cells = p.1.0; values = p.1.1 })
    (λ o. λ i. record { kind = kind_back o.kind i; cells = o.cells; values = o.values })

abbrev pub objects_code : Coded ObjectState
objects_code = code_by (map.FinMap (slice_cmp nat_cmp) Object × ℕ)
    (coded× (map.code (coded_list coded_ℕ) object_code) coded_ℕ) (λ s. (s.objects, s.made))
    (λ p. record { objects = p.0; made = p.1 }) (λ _. refl)

-- how a session begins: with no objects
abbrev pub no_objects : ObjectState
no_objects = record { objects = map.empty; made = 0 }
