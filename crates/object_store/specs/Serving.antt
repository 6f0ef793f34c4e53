-- Private: what an array or a map of one sort answers.
use Rattle.std.specs.Prelude.{◌≡◌, ℕ, ℤ, true, false, List, Option, Some, None, ⊤}
use Rattle.node_maps.specs.Contents.{ArrayContents, IsServed}
use Rattle.object_store.specs.declared.values.SetRefusal.{SetRefusal}
use Rattle.object_store.specs.declared.values.SetRefusal.TheVariants.{NotCovered, NoMemory}
use Rattle.graph_state.specs.State.{GraphState}
use Rattle.object_store.specs.declared.object.Object.{Object as Held}
use Rattle.object_store.specs.declared.values.GraphElement.{GraphElement}
use Rattle.object_store.specs.State.{Valuation}
use Rattle.object_store.specs.Elements.{element_kinds, element_number}
use Rattle.object_store.specs.Inner.{inner, kind_of, made_in, seen, values_in}
use Rattle.object_store.specs.Served.{Serves}
use Rattle.object_store.specs.Views.{is_of}
use Rattle.object_store.specs.Values.{of_array, covers, value_for, with_value_for}

-- an array has a value for each live element that it covers
abbrev pub IsServing : Valuation → List ℕ → Type 0
IsServing v live = (a : ArrayContents) → v ≡ of_array a → IsServed a live

-- that is the value of the element, or there is none, since it isn't covered
abbrev pub IsTold : Valuation → ℕ → Option ℤ → Type 0
IsTold v n None = covers v n ≡ false
IsTold v n (Some x) = (covers v n ≡ true) × (value_for v n ≡ Some x)

-- the element, which is covered, has this value
abbrev pub IsSet : Valuation → Valuation → ℕ → ℤ → Type 0
IsSet v w n x = (covers v n ≡ true) × (w ≡ with_value_for n x v)

-- why the element has no other value
abbrev pub IsUnset : Valuation → ℕ → SetRefusal → Type 0
IsUnset v n NotCovered = covers v n ≡ false
IsUnset v n NoMemory = ⊤

-- the object has values for the sort of the element, and serves the graph
pub record CanTell (g : GraphState) (e : GraphElement) (o : Held) : Type 0 where
  pub kind : is_of (element_kinds e) (kind_of o) ≡ true
  pub serves : Serves g (seen o)

-- that is what the object tells of the element
pub record Tells (e : GraphElement) (o : Held) (r : Option ℤ) : Type 0 where
  pub values : Valuation
  pub has : values_in o ≡ Some values
  pub told : IsTold values (element_number e) r

-- why it takes no value for the element
pub record Untold (e : GraphElement) (o : Held) (why : SetRefusal) : Type 0 where
  pub values : Valuation
  pub has : values_in o ≡ Some values
  pub unset : IsUnset values (element_number e) why

-- the element, which is covered, has this value in the object, and nothing else has changed
pub record IsGiven (e : GraphElement) (x : ℤ) (o t : Held) : Type 0 where
  pub before : Valuation
  pub was : values_in o ≡ Some before
  pub covered : covers before (element_number e) ≡ true
  pub is : values_in t ≡ Some (with_value_for (element_number e) x before)
  pub kind : kind_of t ≡ kind_of o
  pub inner : inner t ≡ inner o
  pub made : made_in t ≡ made_in o
