-- In which order arguments are refused, whatever the command: by the forms that its word asks for.
use Rattle.std.specs.Prelude.{Bool, true, false, not, ◌&&◌, if◌then◌else◌, List, [], ◌∷◌, Option, Some, None, option_and_then}
use Rattle.std.specs.Option.{option_or}
use Rattle.leda_base.specs.declared.ItemName.{ItemName}
use Rattle.leda_base.specs.declared.ItemName.TheVariants as items
use Rattle.script_text.specs.declared.argument.Arg.{Arg}
use Rattle.script_text.specs.declared.argument.Arg.TheVariants as args
use Rattle.script_text.specs.declared.form.Form.{Form}
use Rattle.script_text.specs.declared.form.Form.TheVariants as forms
use Rattle.script_text.specs.declared.form.Kinds.TheVariants as kinds
use Rattle.script_text.specs.declared.form.Sight.TheVariants as sights
use Rattle.script_text.specs.declared.word.LookWord.TheVariants as looks
use Rattle.script_text.specs.declared.word.QueryWord.TheVariants as queries
use Rattle.script_text.specs.declared.word.Word.{Word}
use Rattle.script_text.specs.declared.word.Word.TheVariants.{Edit, Look, File, Object, Value, Query}
use Rattle.script_text.specs.Said.{Said}
use Rattle.script_text.specs.Table.{forms_of}
use Rattle.reply_text.specs.declared.refusal.ObjectName.TheVariants as objects
use Rattle.reply_text.specs.declared.refusal.Refusal.{Refusal}
use Rattle.reply_text.specs.declared.refusal.Refusal.TheVariants as refusals
use Rattle.object_store.specs.Met.{asked}
use Rattle.console_state.specs.declared.order.Rule.{Rule}
use Rattle.console_state.specs.declared.order.Rule.TheVariants as rules
use Rattle.console_state.specs.declared.order.Standing.{Standing}
use Rattle.console_state.specs.declared.order.Standing.TheVariants as stands
use Rattle.console_state.specs.State.{State}
use Rattle.console_state.specs.Views.{standing, has_object, holds_cell, is_directed}

-- no object of the kinds that are asked for has the name
abbrev pub absent_object : State → Form → Arg → List Arg → Option Refusal
absent_object s (forms.Object kinds) (args.Name name) later =
    if has_object s (asked kinds later) name then None
    else Some (refusals.Object (objects.Name name))
absent_object s form arg later = None

-- the item that an argument names
abbrev pub item_of : Arg → Option ItemName
item_of (args.Node v) = Some (items.Node v)
item_of (args.Edge e) = Some (items.Edge e)
item_of (args.Cell i) = Some (items.Cell i)
item_of arg = None

-- the item is unknown or dead
abbrev pub gone : Standing → ItemName → Option Refusal
gone stands.Unknown x = Some (refusals.Unknown x)
gone stands.Dead x = Some (refusals.Dead x)
gone stands.Hidden x = None
gone stands.Visible x = None

abbrev pub gone_item : State → Arg → Option Refusal
gone_item s arg = option_and_then (λ x. gone (standing s x) x) (item_of arg)

-- the item is one of a container of another kind
abbrev pub stray_cell : State → Form → Arg → Option Refusal
stray_cell s (forms.Cell kinds) (args.Cell i) =
    if holds_cell s kinds i then None else Some (refusals.Object (objects.Cell i))
stray_cell s form arg = None

-- the item has to be visible
abbrev pub asks_visible : Form → Bool
asks_visible (forms.Node sights.Visible) = true
asks_visible (forms.Edge sights.Visible) = true
asks_visible (forms.Element sights.Visible) = true
asks_visible form = false

-- the item is hidden
abbrev pub hidden : Standing → ItemName → Option Refusal
hidden stands.Hidden x = Some (refusals.Hidden x)
hidden standing x = None

abbrev pub hidden_item : State → Form → Arg → Option Refusal
hidden_item s form arg =
    if asks_visible form then option_and_then (λ x. hidden (standing s x) x) (item_of arg) else None

-- an object has the name that a new one is to get
abbrev pub taken_name : State → Form → Arg → Option Refusal
taken_name s forms.NewName (args.Name name) =
    if has_object s kinds.Any name then Some (refusals.Taken name) else None
taken_name s form arg = None

-- what the rule refuses of an argument, which comes before others
abbrev pub refusal_by : State → Rule → Form → Arg → List Arg → Option Refusal
refusal_by s rules.Absent form arg later = absent_object s form arg later
refusal_by s rules.Gone form arg later = gone_item s arg
refusal_by s rules.Stray form arg later = stray_cell s form arg
refusal_by s rules.Hidden form arg later = hidden_item s form arg
refusal_by s rules.Taken form arg later = taken_name s form arg

-- what the rule refuses of the leftmost argument of which it refuses something
abbrev pub leftmost : State → Rule → List Form → List Arg → Option Refusal
leftmost s rule (form ∷ forms) (arg ∷ later) =
    option_or (refusal_by s rule form arg later) (leftmost s rule forms later)
leftmost s rule forms args = None

-- commands that ask for a directed graph
abbrev pub asks_directed : Word → Bool
asks_directed (Edit word) = false
asks_directed (Look looks.InEdges) = true
asks_directed (Look looks.FaceSucc) = true
asks_directed (Look word) = false
asks_directed (File word) = false
asks_directed (Object word) = false
asks_directed (Value word) = false
asks_directed (Query queries.Reach) = true
asks_directed (Query queries.Sp) = true
asks_directed (Query queries.Dijkstra) = true
asks_directed (Query queries.Maxflow) = true
asks_directed (Query queries.Matching) = false
asks_directed (Query queries.Check) = false

-- the graph is of the wrong kind
abbrev pub wrong_kind : State → Word → Option Refusal
wrong_kind s word =
    if asks_directed word && not (is_directed s) then Some refusals.Undirected else None

-- the first of them, if there is one
abbrev pub first_of : {A : Type 0} → List (Option A) → Option A
first_of [] = None
first_of (one ∷ more) = option_or one (first_of more)

-- The first refusal of arguments of these forms: an object, an item that isn't there, an item of
-- another kind of container, a hidden item, the kind of graph, a name that is taken.
abbrev pub refusal_among : State → Word → List Form → List Arg → Option Refusal
refusal_among s word forms args =
    let first = λ (rule : Rule). leftmost s rule forms args in
    first_of (
    first rules.Absent ∷ first rules.Gone ∷ first rules.Stray ∷ first rules.Hidden
    ∷ wrong_kind s word ∷ first rules.Taken ∷ [])

-- the first refusal of a command, before the conditions that it has of its own
abbrev pub first_refusal : State → Said → Option Refusal
first_refusal s said = refusal_among s said.word (forms_of said.word) said.args
