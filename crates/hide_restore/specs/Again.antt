-- The visible graph, written as a file has it and read again.
use Rattle.std.specs.Prelude.{◌≡◌, ℕ}
use Rattle.graph_state.specs.State.{GraphState}
use Rattle.graph_state.specs.Formed.{IsFormed}
use Rattle.graph_state.specs.Built.{built}
use Rattle.hide_restore.specs.Canon.{plain_of}

-- behind however many nodes and edges that were made, the graph that is read is written the same
abbrev pub ReadsAgain : Type 0
ReadsAgain = (s : GraphState) (nodes edges : ℕ) → IsFormed s
    → plain_of (built (plain_of s) nodes edges) ≡ plain_of s
