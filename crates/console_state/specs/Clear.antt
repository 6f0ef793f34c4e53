-- Private: what the arguments of a command meet where nothing stands in its way.
use Rattle.std.specs.Prelude.{◌≡◌, true, List, [], ◌∷◌, None, ⊤}
use Rattle.std.specs.Bool.{MatchBool, OnTrue}
use Rattle.leda_base.specs.declared.ItemName.{ItemName}
use Rattle.leda_base.specs.declared.ItemName.TheVariants as items
use Rattle.graph_state.specs.State.{GraphState}
use Rattle.graph_state.specs.Refusals.{IsThere, AreVisible}
use Rattle.script_text.specs.declared.argument.Arg.{Arg}
use Rattle.script_text.specs.declared.argument.Arg.TheVariants as args
use Rattle.script_text.specs.declared.form.Form.{Form}
use Rattle.script_text.specs.declared.word.Word.{Word}
use Rattle.console_state.specs.declared.order.Rule.{Rule}
use Rattle.console_state.specs.declared.order.Standing.{Standing}
use Rattle.console_state.specs.declared.order.Standing.TheVariants.{Unknown, Dead, Hidden, Visible}
use Rattle.console_state.specs.State.{State}
use Rattle.console_state.specs.Order.{asks_visible, asks_directed, refusal_by}

-- the item is visible where the form asks that, and there at least
abbrev pub StandsIn : GraphState → Form → ItemName → Type 0
StandsIn g form x = MatchBool (asks_visible form) (AreVisible g (x ∷ [])) (IsThere g x)

-- what the form asks of an argument that names a node or an edge holds
abbrev pub IsMet : GraphState → Form → Arg → Type 0
IsMet g form (args.Node v) = StandsIn g form (items.Node v)
IsMet g form (args.Edge e) = StandsIn g form (items.Edge e)
IsMet g form arg = ⊤

-- what each form asks holds
abbrev pub AreMet : GraphState → List Form → List Arg → Type 0
AreMet g (form ∷ forms) (arg ∷ later) = IsMet g form arg × AreMet g forms later
AreMet g forms args = ⊤

-- the graph is of the kind that the command asks for
abbrev pub IsOfKind : GraphState → Word → Type 0
IsOfKind g word = OnTrue (asks_directed word) (g.directed ≡ true)

-- the item is there
abbrev pub IsLive : Standing → Type 0
IsLive Unknown = ⊥
IsLive Dead = ⊥
IsLive Hidden = ⊤
IsLive Visible = ⊤

-- it stands as the form asks
abbrev pub StandsFor : Form → Standing → Type 0
StandsFor form standing = MatchBool (asks_visible form) (standing ≡ Visible) (IsLive standing)

-- no rule refuses anything of the argument, which comes before others
abbrev pub IsClear : State → Form → Arg → List Arg → Type 0
IsClear s form arg later = (rule : Rule) → refusal_by s rule form arg later ≡ None

-- no rule refuses anything of any argument
abbrev pub AreClear : State → List Form → List Arg → Type 0
AreClear s (form ∷ forms) (arg ∷ later) = IsClear s form arg later × AreClear s forms later
AreClear s forms args = ⊤
