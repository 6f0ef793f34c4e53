-- The values that the array or the map of a name has for elements, one by one.
use Rattle.std.specs.Prelude.{◌≡◌, ◌⊎◌, ℕ, ℤ, true, false, List, [], ◌∷◌, Some, ⊤}
use Rattle.leda_base.specs.declared.name.ItemName.{ItemName}
use Rattle.script_text.specs.declared.form.Kinds.{Kinds}
use Rattle.script_text.specs.declared.form.Kinds.TheVariants as kinds
use Rattle.object_store.specs.declared.kind.Sort.{Sort}
use Rattle.object_store.specs.declared.kind.Sort.TheVariants.{Nodes, Edges}
use Rattle.object_store.specs.declared.listed.ValuesRefusal.{ValuesRefusal}
use Rattle.object_store.specs.declared.listed.ValuesRefusal.TheVariants.{Object as NoObject, Covered, NoMemory}
use Rattle.object_store.specs.State.{Object, ObjectState, Valuation}
use Rattle.object_store.specs.Values.{covers, name_of, value_for}
use Rattle.object_store.specs.Views.{has_object, object_of}

-- arrays and maps over the elements of the sort
abbrev pub kinds_over : Sort → Kinds
kinds_over Nodes = kinds.NodeValues
kinds_over Edges = kinds.EdgeValues

-- that is what the array or the map of the name holds, which is over elements of the sort
abbrev pub HoldsValues : ObjectState → Sort → List ℕ → Valuation → Type 0
HoldsValues s sort name v =
    (o : Object) × (object_of s (kinds_over sort) name ≡ Some o) × (o.values ≡ Some v)

-- the row has the value of each of the elements, which are covered, in their order
abbrev pub AreValues : Valuation → List ℕ → List ℤ → Type 0
AreValues v [] [] = ⊤
AreValues v (n ∷ ns) (x ∷ row) =
    ((covers v n ≡ true) × (value_for v n ≡ Some x)) × AreValues v ns row
AreValues v ns row = ⊥

-- n is the first of the elements that isn't covered
abbrev pub IsFirstUncovered : Valuation → List ℕ → ℕ → Type 0
IsFirstUncovered v [] n = ⊥
IsFirstUncovered v (k ∷ ks) n = ((n ≡ k) × (covers v k ≡ false))
    ⊎ ((covers v k ≡ true) × IsFirstUncovered v ks n)

-- why the values of elements, which have these names, aren't given by what there is
abbrev pub RefusesElements : Valuation → List ℕ → (ℕ → ItemName) → ValuesRefusal → Type 0
RefusesElements v ns called NoObject = ⊥
RefusesElements v ns called (Covered x) = (n : ℕ) × (x ≡ called n) × IsFirstUncovered v ns n
RefusesElements v ns called NoMemory = ⊤

-- the row has the values that the array or the map of the name has for the elements
abbrev pub ListsValues : ObjectState → Sort → List ℕ → List ℕ → List ℤ → Type 0
ListsValues s sort name ns row = (v : Valuation) × HoldsValues s sort name v × AreValues v ns row

-- why there is no such row: no array and no map over elements of the sort has the name, or one has
-- it, which doesn't cover an element, or memory lacks
abbrev pub RefusesValues : ObjectState → Sort → List ℕ → List ℕ → ValuesRefusal → Type 0
RefusesValues s sort name ns NoObject = has_object s (kinds_over sort) name ≡ false
RefusesValues s sort name ns why =
    (v : Valuation) × HoldsValues s sort name v × RefusesElements v ns (name_of sort) why
