-- One refusal as another.
use Rattle.item_pool.specs.declared.pool.Gone.{Gone}
use Rattle.node_maps.specs.declared.array.LabelRefusal.{LabelRefusal}
use Rattle.node_maps.specs.declared.array.LabelRefusal.TheVariants as labels
use Rattle.node_maps.specs.declared.array.ValueRefusal.{ValueRefusal}
use Rattle.node_maps.specs.declared.array.ValueRefusal.TheVariants as values
use Rattle.node_maps.specs.declared.map.MapRefusal.{MapRefusal}
use Rattle.node_maps.specs.declared.map.MapRefusal.TheVariants as maps

-- an item that is gone has no value, and gets none
abbrev pub gone_value : Gone → ValueRefusal
gone_value why = values.Gone why

abbrev pub gone_change : Gone → MapRefusal
gone_change why = maps.Gone why

-- want of memory while labels are read
abbrev pub no_memory : LabelRefusal
no_memory = labels.NoMemory
