-- Private: the element that an argument names.
use Rattle.std.specs.Prelude.{◌≡◌, ℕ, ⊤}
use Rattle.graph_state.specs.State.{GraphState}
use Rattle.graph_state.specs.Names.{Has}
use Rattle.script_text.specs.declared.argument.Arg.{Arg}
use Rattle.script_text.specs.declared.argument.Arg.TheVariants as args
use Rattle.script_text.specs.declared.form.Kinds.{Kinds}
use Rattle.script_text.specs.declared.form.Kinds.TheVariants as kinds
use Rattle.object_store.specs.declared.kind.Sort.{Sort}
use Rattle.object_store.specs.declared.kind.Sort.TheVariants as sorts
use Rattle.object_store.specs.declared.values.GraphElement.{GraphElement}
use Rattle.object_store.specs.declared.values.GraphElement.TheVariants.{Node, Edge}
use Rattle.object_store.specs.Values.{elements}

abbrev pub element_sort : GraphElement → Sort
element_sort (Node v) = sorts.Nodes
element_sort (Edge e) = sorts.Edges

abbrev pub element_number : GraphElement → ℕ
element_number (Node v) = v.0.serial
element_number (Edge e) = e.0.serial

-- the objects that have values for it
abbrev pub element_kinds : GraphElement → Kinds
element_kinds (Node v) = kinds.NodeValues
element_kinds (Edge e) = kinds.EdgeValues

abbrev pub IsLiveElement : GraphState → GraphElement → Type 0
IsLiveElement g element = Has (element_number element) (elements (element_sort element) g)

-- the argument names a node or an edge
abbrev pub IsElement : Arg → Type 0
IsElement (args.Node v) = ⊤
IsElement (args.Edge e) = ⊤
IsElement arg = ⊥

-- it names this one
abbrev pub Names : Arg → GraphElement → Type 0
Names (args.Node v) (Node it) = it.0.serial ≡ v
Names (args.Edge e) (Edge it) = it.0.serial ≡ e
Names arg element = ⊥
