-- The item is one of the object, or isn't.
use Rattle.std.proofs.Common.{Option, sym, ap, ◌∙◌}
use Rattle.std.specs.Prelude.{option_and_then}
use Rattle.item_pool.specs.declared.pool.Item.{Item}
use Rattle.item_list.specs.Items.{serial_of}
use Rattle.object_store.specs.Inner.{inner}
use Rattle.object_store.specs.Near.{number_at}
use Rattle.object_store.proofs.object.Object.number_of.Goals as goal

pub returns-in-Ok : goal.returns-in-Ok
returns-in-Ok c = sym (ap (λ (r : Option Item). option_and_then (number_at (inner c.args.self.now)) (serial_of r)) c.in-Some.is ∙ c.in-Ok.ensures)

pub returns-in-Err : goal.returns-in-Err
returns-in-Err c = sym (ap (λ (r : Option Item). option_and_then (number_at (inner c.args.self.now)) (serial_of r)) c.in-Some.is ∙ c.in-Err.ensures)
