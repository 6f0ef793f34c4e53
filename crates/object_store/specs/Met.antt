-- What arguments meet where nothing stands in a command's way.
use Rattle.std.specs.Prelude.{◌≡◌, true, false, List, ◌∷◌, ⊤}
use Rattle.script_text.specs.declared.argument.Arg.{Arg}
use Rattle.script_text.specs.declared.argument.Arg.TheVariants as args
use Rattle.script_text.specs.declared.form.Form.{Form}
use Rattle.script_text.specs.declared.form.Form.TheVariants as forms
use Rattle.script_text.specs.declared.form.Kinds.{Kinds}
use Rattle.script_text.specs.declared.form.Kinds.TheVariants as kinds
use Rattle.object_store.specs.State.{ObjectState}
use Rattle.object_store.specs.Views.{has_object, holds_cell}

-- the kinds that are asked for: where these are those of values of the next argument, by what that
-- is
abbrev pub asked : Kinds → List Arg → Kinds
asked kinds.ElementValues (args.Node v ∷ later) = kinds.NodeValues
asked kinds.ElementValues (args.Edge e ∷ later) = kinds.EdgeValues
asked kinds later = kinds

-- an object of the kinds that are asked for has the name; the item is one of a container of these
-- kinds; no object has the new name
abbrev pub IsMet : ObjectState → Form → Arg → List Arg → Type 0
IsMet s (forms.Object kinds) (args.Name x) later = has_object s (asked kinds later) x ≡ true
IsMet s (forms.Cell kinds) (args.Cell i) later = holds_cell s kinds i ≡ true
IsMet s forms.NewName (args.Name x) later = has_object s kinds.Any x ≡ false
IsMet s form arg later = ⊤

-- what each form asks holds
abbrev pub AreMet : ObjectState → List Form → List Arg → Type 0
AreMet s (form ∷ forms) (arg ∷ later) = IsMet s form arg later × AreMet s forms later
AreMet s forms args = ⊤
