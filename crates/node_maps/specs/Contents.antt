-- What contracts see of arrays and maps, and when an item is refused.
use Rattle.std.specs.Prelude.{◌≡◌, ℕ, ℤ, ◌<◌, ◌≤◌, List, Some, None, IsSome, unwrap_or, refl}
use Rattle.std.specs.Coded.{Coded, code_by, coded×, coded_ℕ, coded_ℤ}
use Rattle.std.specs.Ordering.{nat_cmp}
use Rattle.std.specs.FinMap as map
use Rattle.item_pool.specs.declared.pool.Gone.{Gone}
use Rattle.item_pool.specs.Contents.{WhyGone}
use Rattle.graph_state.specs.Names.{Has}
use Rattle.node_maps.specs.declared.array.ValueRefusal.{ValueRefusal}
use Rattle.node_maps.specs.declared.array.ValueRefusal.TheVariants as values
use Rattle.node_maps.specs.declared.map.MapRefusal.{MapRefusal}
use Rattle.node_maps.specs.declared.map.MapRefusal.TheVariants as maps

abbrev pub Values : Type 0
Values = map.FinMap nat_cmp ℤ

-- an array: how many elements were made before it, and the values
pub record ArrayContents : Type 0 where
  pub made : ℕ
  pub values : Values

abbrev pub array_contents : ℕ → Values → ArrayContents
array_contents made values = record { made = made; values = values }

abbrev pub array_code : Coded ArrayContents
array_code = code_by (ℕ × Values) (coded× coded_ℕ (map.code coded_ℕ coded_ℤ))
    (λ a. (a.made, a.values)) (λ p. array_contents p.0 p.1) (λ _. refl)

-- a map: the default, and the values that were set
pub record MapContents : Type 0 where
  pub default : ℤ
  pub values : Values

abbrev pub map_contents : ℤ → Values → MapContents
map_contents default values = record { default = default; values = values }

abbrev pub map_code : Coded MapContents
map_code = code_by (ℤ × Values) (coded× coded_ℤ (map.code coded_ℕ coded_ℤ))
    (λ m. (m.default, m.values)) (λ p. map_contents p.0 p.1) (λ _. refl)

-- just the elements in the list have values, and the value of each meets the condition
pub record IsTable (values : Values) (live : List ℕ) (R : ℕ → ℤ → Type 0) : Type 0 where
  pub each : (n : ℕ) → Has n live → (x : ℤ) × ((map.get values n ≡ Some x) × R n x)
  pub others : (n : ℕ) → (Has n live → ⊥) → map.get values n ≡ None

-- every live element that the array covers has a value in it
abbrev pub IsServed : ArrayContents → List ℕ → Type 0
IsServed a live = (n : ℕ) → Has n live → n ≤ a.made → IsSome (map.get a.values n)

-- the element is live, and the array covers it
abbrev pub IsCovered : ArrayContents → List ℕ → ℕ → Type 0
IsCovered a live n = Has n live × (n ≤ a.made)

-- the element isn't live: dead or unknown by the numbers that were given
abbrev pub IsGone : List ℕ → ℕ → ℕ → Gone → Type 0
IsGone live made n why = (Has n live → ⊥) × WhyGone made n why

-- why an array doesn't serve the element n, where so many were made
abbrev pub RefusesValue : ArrayContents → List ℕ → ℕ → ℕ → ValueRefusal → Type 0
RefusesValue a live made n (values.Gone why) = IsGone live made n why
RefusesValue a live made n values.NotCovered = Has n live × (a.made < n)

-- the array with the value at n
unfoldable pub with_value : ℕ → ℤ → ArrayContents → ArrayContents
with_value n x a = record a { values = map.insert a.values n x }

-- the map in which no value was set
abbrev pub empty_map : ℤ → MapContents
empty_map default = map_contents default map.empty

-- the value of n: the one that was set, and else the default
abbrev pub value_in : MapContents → ℕ → ℤ
value_in m n = unwrap_or (map.get m.values n) m.default

-- why a map doesn't take a value of n: memory lacks only where none was set before
abbrev pub RefusesChange : MapContents → List ℕ → ℕ → ℕ → MapRefusal → Type 0
RefusesChange m live made n (maps.Gone why) = IsGone live made n why
RefusesChange m live made n maps.NoMemory = Has n live × (map.get m.values n ≡ None)

-- the map with the value at n
unfoldable pub with_set : ℕ → ℤ → MapContents → MapContents
with_set n x m = record m { values = map.insert m.values n x }
