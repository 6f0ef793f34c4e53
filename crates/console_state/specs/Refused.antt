-- Private: what the graph, a store and looks refuse, as it is replied.
use Rattle.std.specs.Prelude.{◌≡◌, ◌⊎◌, true, List, Some, Err}
use Rattle.item_pool.specs.declared.pool.Gone.{Gone}
use Rattle.item_pool.specs.declared.pool.Gone.TheVariants.{Dead, Unknown}
use Rattle.leda_base.specs.declared.ItemName.{ItemName}
use Rattle.leda_edge.specs.declared.store.LoadFault.{LoadFault}
use Rattle.leda_edge.specs.declared.store.LoadFault.TheVariants as loads
use Rattle.graph_state.specs.declared.refusal.EditRefusal.{EditRefusal}
use Rattle.graph_state.specs.declared.refusal.EditRefusal.TheVariants as edits
use Rattle.graph_state.specs.State.{GraphState}
use Rattle.script_text.specs.declared.argument.Arg.{Arg}
use Rattle.script_text.specs.declared.word.LookWord.{LookWord}
use Rattle.script_text.specs.declared.word.Word.TheVariants.{Look}
use Rattle.script_text.specs.Table.{may_lack_memory}
use Rattle.reply_text.specs.declared.refusal.Refusal.{Refusal}
use Rattle.reply_text.specs.declared.refusal.Refusal.TheVariants as refusals
use Rattle.reply_text.specs.Refusals.{IsRefusalNamed}
use Rattle.console_state.specs.declared.order.Standing.{Standing}
use Rattle.console_state.specs.declared.order.Standing.TheVariants as stands
use Rattle.console_state.specs.Look.{graph_looked}

abbrev pub gone_refusal : ItemName → Gone → Refusal
gone_refusal x Dead = refusals.Dead x
gone_refusal x Unknown = refusals.Unknown x

-- how an item stands that is gone
abbrev pub standing_of : Gone → Standing
standing_of Dead = stands.Dead
standing_of Unknown = stands.Unknown

abbrev pub edit_refusal : EditRefusal → Refusal
edit_refusal (edits.Gone x why) = gone_refusal x why
edit_refusal (edits.Hidden x) = refusals.Hidden x
edit_refusal edits.FullNodes = refusals.FullNodes
edit_refusal edits.FullEdges = refusals.FullEdges
edit_refusal edits.Spent = refusals.Spent
edit_refusal edits.NoMemory = refusals.Memory

-- why a file isn't loaded
abbrev pub load_refusal : LoadFault → Refusal
load_refusal loads.Absent = refusals.Absent
load_refusal loads.TooBig = refusals.Big
load_refusal loads.Failed = refusals.Store
load_refusal loads.NoMemory = refusals.Memory

-- a look lacks memory, which it is free to, or is refused as its row says
abbrev pub IsLookRefused : LookWord → List Arg → GraphState → Refusal → Type 0
IsLookRefused word args g refusal = IsRefusalNamed refusal
    × (((refusal ≡ refusals.Memory) × (may_lack_memory (Look word) ≡ true))
    ⊎ (graph_looked word args g ≡ Some (Err refusal)))
