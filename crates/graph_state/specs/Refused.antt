-- A refusal of a look, as one of an edit.
use Rattle.graph_state.specs.declared.refusal.EditRefusal.{EditRefusal}
use Rattle.graph_state.specs.declared.refusal.EditRefusal.TheVariants as edits
use Rattle.graph_state.specs.declared.refusal.LookRefusal.{LookRefusal}
use Rattle.graph_state.specs.declared.refusal.LookRefusal.TheVariants as looks

abbrev pub edit_of : LookRefusal → EditRefusal
edit_of (looks.Gone x why) = edits.Gone x why
edit_of (looks.Hidden x) = edits.Hidden x

abbrev pub no_memory : EditRefusal
no_memory = edits.NoMemory
