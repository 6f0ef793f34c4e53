-- That arrays serve a graph: the one that they were made of, and each later state of it.
use Rattle.std.specs.Prelude.{◌≡◌, ℕ, ◌≤◌, List, [], ◌∷◌, Some, ⊤}
use Rattle.leda_base.specs.declared.name.ItemName.TheVariants as items
use Rattle.graph_state.specs.State.{GraphState}
use Rattle.graph_state.specs.Refusals.{IsThere}
use Rattle.node_maps.specs.Contents.{ArrayContents, IsServed}
use Rattle.script_text.specs.declared.argument.Arg.{Arg}
use Rattle.script_text.specs.declared.argument.Arg.TheVariants as args
use Rattle.object_store.specs.declared.kind.ObjectKind.TheVariants.{Array}
use Rattle.object_store.specs.declared.kind.Sort.{Sort}
use Rattle.object_store.specs.State.{Object, ObjectState}
use Rattle.object_store.specs.Views.{object_at}
use Rattle.object_store.specs.Values.{elements, made_of, of_array}

-- an array has a value for each live element that it covers
abbrev pub Serves : GraphState → Object → Type 0
Serves g o = (sort : Sort) (a : ArrayContents) → o.kind ≡ Array sort → o.values ≡ Some (of_array a)
    → (a.made ≤ made_of sort g) × IsServed a (elements sort g)

-- each array does
abbrev pub AllServe : GraphState → ObjectState → Type 0
AllServe g s = (name : List ℕ) (o : Object) → object_at s name ≡ Some o → Serves g o

-- each node and each edge that is named is live
abbrev pub AreLive : GraphState → List Arg → Type 0
AreLive g [] = ⊤
AreLive g (args.Node v ∷ later) = IsThere g (items.Node v) × AreLive g later
AreLive g (args.Edge e ∷ later) = IsThere g (items.Edge e) × AreLive g later
AreLive g (arg ∷ later) = AreLive g later
