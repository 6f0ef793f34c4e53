-- Private: what stands in a command's way, as the code has it before it owns a name.
use Rattle.std.specs.Prelude.{◌≡◌, Bool, true, ⊤}
use Rattle.leda_base.specs.Name.{IsShortName}
use Rattle.reply_text.specs.declared.refusal.ObjectName.TheVariants as objects
use Rattle.reply_text.specs.declared.refusal.Refusal.{Refusal}
use Rattle.reply_text.specs.declared.refusal.Refusal.TheVariants as refusals
use Rattle.console_state.specs.declared.order.Obstacle.{Obstacle}
use Rattle.console_state.specs.declared.order.Obstacle.TheVariants as obstacles

-- the refusal that tells of it
abbrev pub refusal_of : Obstacle → Refusal
refusal_of (obstacles.Absent name) = refusals.Object (objects.Name name.now)
refusal_of (obstacles.Unknown x) = refusals.Unknown x
refusal_of (obstacles.Dead x) = refusals.Dead x
refusal_of (obstacles.Stray i) = refusals.Object (objects.Cell i)
refusal_of (obstacles.Hidden x) = refusals.Hidden x
refusal_of obstacles.Undirected = refusals.Undirected
refusal_of (obstacles.Taken name) = refusals.Taken name.now

-- it has the name of an object
abbrev pub HasName : Obstacle → Type 0
HasName (obstacles.Absent name) = ⊤
HasName (obstacles.Taken name) = ⊤
HasName obstacle = ⊥

-- its name, if it has one, is no longer than a name may be, and was kept with the arguments
abbrev pub IsNameOf : Bool → Obstacle → Type 0
IsNameOf keeps (obstacles.Absent name) = IsShortName name.now × (keeps ≡ true)
IsNameOf keeps (obstacles.Taken name) = IsShortName name.now × (keeps ≡ true)
IsNameOf keeps obstacle = ⊤
