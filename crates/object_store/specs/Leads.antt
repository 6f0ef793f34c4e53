-- What a command leads to, by its row.
use Rattle.std.specs.Prelude.{◌≡◌, ◌⊎◌, Bool, Option, Some}
use Rattle.reply_text.specs.declared.reply.Reply.{Reply}
use Rattle.reply_text.specs.Outcome.{Outcome, LacksMemory}
use Rattle.object_store.specs.State.{ObjectState}

-- the state s leads to the next one, and to the reply, as the row gives; or, where the command is
-- free to, it lacks memory
abbrev pub Leads : Bool → Option (Outcome ObjectState) → ObjectState → Reply → ObjectState → Type 0
Leads free given s reply next = LacksMemory free s reply next ⊎ (given ≡ Some (next, reply))
