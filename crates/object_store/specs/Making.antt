-- Private: which words make arrays and maps, and when labels make none.
use Rattle.std.specs.Prelude.{⊤}
use Rattle.graph_state.specs.State.{GraphState}
use Rattle.node_maps.specs.declared.array.LabelRefusal.{LabelRefusal}
use Rattle.node_maps.specs.declared.array.LabelRefusal.TheVariants.{Label, NoMemory}
use Rattle.script_text.specs.declared.word.ValueWord.{ValueWord}
use Rattle.script_text.specs.declared.word.ValueWord.TheVariants as words
use Rattle.object_store.specs.Values.{IsUnread}

abbrev pub MakesValues : ValueWord → Type 0
MakesValues words.MakeNodeArray = ⊤
MakesValues words.MakeEdgeArray = ⊤
MakesValues words.MakeNodeMap = ⊤
MakesValues words.MakeEdgeMap = ⊤
MakesValues word = ⊥

abbrev pub MakesArray : ValueWord → Type 0
MakesArray words.MakeNodeArray = ⊤
MakesArray words.MakeEdgeArray = ⊤
MakesArray word = ⊥

abbrev pub IsLabelRefused : ValueWord → GraphState → LabelRefusal → Type 0
IsLabelRefused word g (Label x) = IsUnread word g x
IsLabelRefused word g NoMemory = ⊤
