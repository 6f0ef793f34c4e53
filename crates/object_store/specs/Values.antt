-- What each command on arrays and maps does to the objects, and what it is answered.
use Rattle.std.specs.Prelude.{◌≡◌, ◌⊎◌, ℕ, ℤ, Bool, true, nat_le, List, [], ◌∷◌, Option, Some, None, option_map, option_and_then, if◌then◌else◌}
use Rattle.std.specs.Option.{option_or, option_map_or}
use Rattle.std.specs.FinMap as map
use Rattle.leda_base.specs.declared.name.ItemName.{ItemName}
use Rattle.leda_base.specs.declared.name.ItemName.TheVariants as items
use Rattle.graph_state.specs.State.{GraphState, node_label, edge_label}
use Rattle.node_maps.specs.Contents.{ArrayContents, MapContents, IsTable, empty_map}
use Rattle.node_maps.specs.Labels.{Reads, IsFirstUnread}
use Rattle.script_text.specs.declared.argument.Arg.{Arg}
use Rattle.script_text.specs.declared.argument.Arg.TheVariants as args
use Rattle.script_text.specs.declared.word.ValueWord.{ValueWord}
use Rattle.script_text.specs.declared.word.ValueWord.TheVariants as words
use Rattle.reply_text.specs.declared.reply.Reply.{Reply}
use Rattle.reply_text.specs.declared.reply.ReplyLine.TheVariants.{Empty, Num}
use Rattle.reply_text.specs.declared.refusal.Refusal.TheVariants.{Covered, Label}
use Rattle.reply_text.specs.Outcome.{Outcome, done, refused}
use Rattle.object_store.specs.declared.kind.ObjectKind.TheVariants.{Array, Map}
use Rattle.object_store.specs.declared.kind.Sort.{Sort}
use Rattle.object_store.specs.declared.kind.Sort.TheVariants.{Nodes, Edges}
use Rattle.object_store.specs.State.{Object, ObjectState, Valuation}
use Rattle.object_store.specs.Views.{object_at}
use Rattle.object_store.specs.Commands.{with_object, comes_in}

-- the live elements of a sort, how many were made, and their names
abbrev pub elements : Sort → GraphState → List ℕ
elements Nodes g = g.nodes
elements Edges g = g.edges

abbrev pub made_of : Sort → GraphState → ℕ
made_of Nodes g = g.made_nodes
made_of Edges g = g.made_edges

abbrev pub name_of : Sort → ℕ → ItemName
name_of Nodes n = items.Node n
name_of Edges n = items.Edge n

-- what an array holds, and what a map holds
abbrev pub of_array : ArrayContents → Valuation
of_array a = record { covered = Some a.made; default = None; values = a.values }

abbrev pub of_map : MapContents → Valuation
of_map m = record { covered = None; default = Some m.default; values = m.values }

-- an array over the live elements, whose values meet the condition
pub record IsArray (sort : Sort) (g : GraphState) (R : ℕ → ℤ → Type 0) (o : Object) : Type 0 where
  pub kind : o.kind ≡ Array sort
  pub cells : o.cells ≡ []
  pub array : ArrayContents
  pub values : o.values ≡ Some (of_array array)
  pub made : array.made ≡ made_of sort g
  pub table : IsTable array.values (elements sort g) R

-- the map with the default
abbrev pub map_object : Sort → ℤ → Object
map_object sort x = record { kind = Map sort; cells = []; values = Some (of_map (empty_map x)) }

-- what a word makes of a number
abbrev pub IsNew : ValueWord → ℤ → GraphState → Object → Type 0
IsNew words.MakeNodeArray x g o = IsArray Nodes g (λ _ y. y ≡ x) o
IsNew words.MakeEdgeArray x g o = IsArray Edges g (λ _ y. y ≡ x) o
IsNew words.MakeNodeMap x g o = o ≡ map_object Nodes x
IsNew words.MakeEdgeMap x g o = o ≡ map_object Edges x
IsNew word x g o = ⊥

-- an object that P holds of comes in
abbrev pub ComesIn : (Object → Type 0) → List ℕ → ObjectState → Reply → ObjectState → Type 0
ComesIn P name s reply t = (o : Object) × P o × ((t, reply) ≡ comes_in name o s)

-- n is the first element whose label writes no number
abbrev pub IsUnread : ValueWord → GraphState → ItemName → Type 0
IsUnread words.MakeNodeArray g x =
    (n : ℕ) × (x ≡ items.Node n) × IsFirstUnread (node_label g) g.nodes n
IsUnread words.MakeEdgeArray g x =
    (n : ℕ) × (x ≡ items.Edge n) × IsFirstUnread (edge_label g) g.edges n
IsUnread word g x = ⊥

-- what a word makes of the labels
abbrev pub IsOfLabels : ValueWord → GraphState → Object → Type 0
IsOfLabels words.MakeNodeArray g o = IsArray Nodes g (λ n. Reads (node_label g n)) o
IsOfLabels words.MakeEdgeArray g o = IsArray Edges g (λ n. Reads (edge_label g n)) o
IsOfLabels word g o = ⊥

-- the first element whose label writes no number is named before it is asked how many objects there
-- are
abbrev pub FromLabels : ValueWord → GraphState → List ℕ → ObjectState → Reply → ObjectState → Type 0
FromLabels word g name s reply t =
    ((x : ItemName) × IsUnread word g x × ((t, reply) ≡ refused s (Label x)))
    ⊎ ComesIn (IsOfLabels word g) name s reply t

-- the element is one that has a value
abbrev pub covers : Valuation → ℕ → Bool
covers v n = option_map_or (nat_le n) v.covered true

-- its value
abbrev pub value_for : Valuation → ℕ → Option ℤ
value_for v n = option_or (map.get v.values n) v.default

-- the values with this one for the element
abbrev pub with_value_for : ℕ → ℤ → Valuation → Valuation
with_value_for n x v = record v { values = map.insert v.values n x }

-- what is named doesn't cover the element, or f tells what follows
abbrev pub if_covered : Sort → ℕ → Valuation → ObjectState → Option (Outcome ObjectState)
    → Option (Outcome ObjectState)
if_covered sort n v s given =
    if covers v n then given else Some (refused s (Covered (name_of sort n)))

-- `get X v` and `get X e`
abbrev pub gets : Sort → List ℕ → ℕ → ObjectState → Option (Outcome ObjectState)
gets sort name n s =
    option_and_then (λ (o : Object). option_and_then (λ v. if_covered sort n v s
    (option_map (λ x. done s (Num x)) (value_for v n))) o.values) (object_at s name)

-- `set X v x` and `set X e x`
abbrev pub sets : Sort → List ℕ → ℕ → ℤ → ObjectState → Option (Outcome ObjectState)
sets sort name n x s =
    option_and_then (λ (o : Object). option_and_then (λ v. if_covered sort n v s
    (Some (done (with_object name (record o { values = Some (with_value_for n x v) }) s) Empty)))
    o.values) (object_at s name)

-- a command by its word, where these are arguments that the word takes, leads from the objects s to
-- the objects t, with this reply
abbrev pub ValuesDone : ValueWord → List Arg → GraphState → ObjectState → Reply → ObjectState
    → Type 0
ValuesDone word (args.Name x ∷ args.Num v ∷ []) g s reply t = ComesIn (IsNew word v g) x s reply t
ValuesDone word (args.Name x ∷ args.Labels ∷ []) g s reply t = FromLabels word g x s reply t
ValuesDone words.Get (args.Name x ∷ args.Node v ∷ []) g s reply t =
    gets Nodes x v s ≡ Some (t, reply)
ValuesDone words.Get (args.Name x ∷ args.Edge e ∷ []) g s reply t =
    gets Edges x e s ≡ Some (t, reply)
ValuesDone words.Set (args.Name x ∷ args.Node v ∷ args.Num y ∷ []) g s reply t =
    sets Nodes x v y s ≡ Some (t, reply)
ValuesDone words.Set (args.Name x ∷ args.Edge e ∷ args.Num y ∷ []) g s reply t =
    sets Edges x e y s ≡ Some (t, reply)
ValuesDone word args g s reply t = ⊥
