-- Private: what a table has at a serial.
use Rattle.std.specs.Prelude.{ℕ, nat_eq, Option}
use Rattle.std.specs.Option.{option_or}
use Rattle.std.specs.HashMap.{get}
use Rattle.item_pool.specs.declared.table.Table.{Table}
use Rattle.item_pool.specs.Homes.{at_home}

-- the slot of the serial s: in its home, or else among the others
abbrev pub slot_of : Table → ℕ → Option ℕ
slot_of t s = option_or (at_home t.homes s) (get nat_eq t.others s)
