-- Private: what a hash table says.
use Rattle.std.specs.Prelude.{ℕ, ℤ, List}
use Rattle.std.specs.FinMap as map
use Rattle.node_maps.specs.Contents.{Values}

abbrev pub values_set : List (ℕ × ℤ) → Values
values_set entries = map.from_entries entries
