-- Arrays and maps among the objects: what they tell, and that arrays serve the graph.
use Rattle.std.proofs.Common.{◌≡◌, ℕ, ◌<◌, ◌≤◌, true, false, cond, nat_le, List, [], Option, Some, None, refl, sym, ap, subst, ◌∙◌, inl, inr, le-leb, leb-true, arith}
use Rattle.std.specs.Prelude.{ℤ, ◌==◌, unwrap_or, IsSome}
use Rattle.std.specs.Option.{option_or}
use Rattle.std.specs.Ordering.{nat_cmp, eq_by_cmp}
use Rattle.std.specs.Cmp.{nat_cmp_total}
use Rattle.std.specs.FinMap as finmap
use Rattle.graph_state.specs.State.{GraphState}
use Rattle.graph_state.specs.Names.{Has}
use Rattle.node_maps.specs.Contents.{ArrayContents, MapContents, array_contents, IsServed, IsTable, value_in, with_set, with_value}
use Rattle.reply_text.specs.declared.reply.Reply.{Reply}
use Rattle.reply_text.specs.declared.refusal.Refusal.TheVariants.{FullObjects}
use Rattle.reply_text.specs.declared.reply.ReplyLine.TheVariants.{Empty}
use Rattle.reply_text.specs.Outcome.{Outcome, Gives, done, refused}
use Rattle.object_store.specs.declared.objects.TheConstants.{OBJECT_LIMIT}
use Rattle.object_store.specs.declared.kind.ObjectKind.TheVariants as sorts
use Rattle.object_store.specs.declared.kind.Sort.{Sort}
use Rattle.object_store.specs.declared.kind.Sort.TheVariants.{Nodes, Edges}
use Rattle.object_store.specs.declared.object.Object.{Object as Held}
use Rattle.object_store.specs.declared.object.Object.TheVariants as held
use Rattle.object_store.specs.declared.values.GraphElement.{GraphElement}
use Rattle.object_store.specs.declared.values.GraphElement.TheVariants.{Node, Edge}
use Rattle.script_text.specs.declared.form.Kinds.TheVariants as kinds
use Rattle.object_store.specs.declared.values.SortValues.{SortValues}
use Rattle.object_store.specs.declared.values.SortValues.TheVariants as sorted
use Rattle.object_store.specs.declared.values.Values.{Values}
use Rattle.object_store.specs.declared.values.Values.TheVariants as values
use Rattle.object_store.specs.State.{Object, ObjectState, Valuation}
use Rattle.object_store.specs.Commands.{comes_in, with_object}
use Rattle.object_store.specs.Elements.{element_kinds, element_number, element_sort}
use Rattle.object_store.specs.Inner.{inner, kind_of, kind_of_sort, kind_of_values, made_in, seen, sort_values, valuation, values_in}
use Rattle.object_store.specs.Served.{Serves, AllServe}
use Rattle.object_store.specs.Serving.{IsGiven, IsServing, IsSet, IsTold}
use Rattle.object_store.specs.Slots.{same_name}
use Rattle.object_store.specs.Values.{elements, made_of, of_array, of_map, with_value_for, IsArray}
use Rattle.object_store.specs.Views.{is_of, object_at}
use Rattle.object_store.proofs.Names.{total}

some_same : {A : Type 0} (a b : A) → Some a ≡ Some b → a ≡ b
some_same a b e = cc

-- ---- what is told
pub array_told : (a : ArrayContents) (n : ℕ) (x : ℤ) → n ≤ a.made → finmap.get a.values n ≡ Some x → IsTold (of_array a) n (Some x)
array_told a n x le has = (le-leb n a.made le, ap (λ (o : Option ℤ). option_or o None) has)

pub array_untold : (a : ArrayContents) (n : ℕ) → a.made < n → IsTold (of_array a) n None
array_untold a n less = elim (nat_le n a.made) as (λ b. nat_le n a.made ≡ b → b ≡ false) [
  | true ↦ λ e. let le : n ≤ a.made = leb-true n a.made e in absurd (let no : ⊥ = omega (arith, le, less) in no)
  | false ↦ λ e. refl
] refl

pub map_told : (m : MapContents) (n : ℕ) (x : ℤ) → x ≡ value_in m n → IsTold (of_map m) n (Some x)
map_told m n x is = (
  refl,
  elim (finmap.get m.values n) as (λ o. finmap.get m.values n ≡ o → option_or o (Some m.default) ≡ Some x) [
    | None ↦ λ e. ap Some (sym (is ∙ ap (λ (o : Option ℤ). unwrap_or o m.default) e))
    | Some y ↦ λ e. ap Some (sym (is ∙ ap (λ (o : Option ℤ). unwrap_or o m.default) e))
  ] refl,
)

-- ---- of_array keeps its array apart
pub array_same : (a b : ArrayContents) → of_array a ≡ of_array b → a ≡ b
array_same a b e =
    let made : a.made ≡ b.made = some_same a.made b.made (ap (λ (v : Valuation). v.covered) e) in
    let values : a.values ≡ b.values = ap (λ (v : Valuation). v.values) e in
    λ i. record { made = made i; values = values i }

sort_same : (s t : Sort) → sorts.Array s ≡ sorts.Array t → s ≡ t
sort_same s t e = cc

-- an array that covers no more than was made, and has the values, serves
pub array_serves : (sort : Sort) (g : GraphState) (a : ArrayContents) (o : Object) → o.kind ≡ sorts.Array sort → o.values ≡ Some (of_array a)
    → a.made ≤ made_of sort g → IsServed a (elements sort g) → Serves g o
array_serves sort g a o kind values few served other b kind_is values_is =
    let same : sort ≡ other = sort_same sort other (sym kind ∙ kind_is) in
    let one : a ≡ b = array_same a b (some_same (of_array a) (of_array b) (sym values ∙ values_is)) in
    subst (λ (t : Sort). (b.made ≤ made_of t g) × IsServed b (elements t g)) same
    (subst (λ (c : ArrayContents). (c.made ≤ made_of sort g) × IsServed c (elements sort g)) one (few, served))

-- a map does anyway
pub map_serves : (sort : Sort) (g : GraphState) (o : Object) → o.kind ≡ sorts.Map sort → Serves g o
map_serves sort g o kind other b kind_is values_is = let no : sorts.Map sort ≡ sorts.Array other = sym kind ∙ kind_is in cc

-- what serves has a value for each live element that it covers
pub serving : (g : GraphState) (o : Object) (sort : Sort) (v : Valuation) → Serves g o → o.kind ≡ sorts.Array sort → o.values ≡ Some v → IsServing v (elements sort g)
serving g o sort v serves kind values a is = (serves sort a kind (values ∙ ap Some is)).1

-- ---- one object more
pub serve_with : (g : GraphState) (name : List ℕ) (o : Object) (s : ObjectState) → AllServe g s → Serves g o → AllServe g (with_object name o s)
serve_with g name o s all new x p at =
    elim (same_name x name) as (λ b. cond b (Some o) (object_at s x) ≡ Some p → Serves g p) [
      | true ↦ λ h. subst (Serves g) (some_same o p h) new
      | false ↦ λ h. all x p h
    ] (sym (finmap.get-insert total s.objects name o x) ∙ at)

-- the new object comes in, or nothing changes
pub come_serves : (g : GraphState) (name : List ℕ) (o : Object) (s t : ObjectState) (reply : Reply) → Gives true (comes_in name o s) s reply t → AllServe g s → Serves g o → AllServe g t
come_serves g name o s t reply gives all new = elim gives [
  | inl lacks ↦ subst (AllServe g) (sym lacks.state) all
  | inr is ↦ elim (finmap.len s.objects == OBJECT_LIMIT) as (λ b. (t, reply) ≡ cond b (refused s FullObjects) (done (with_object name o s) Empty) → AllServe g t) [
    | true ↦ λ h. subst (AllServe g) (sym (ap (λ (w : Outcome ObjectState). w.0) h)) all
    | false ↦ λ h. subst (AllServe g) (sym (ap (λ (w : Outcome ObjectState). w.0) h)) (serve_with g name o s all new)
  ] is
]

-- ---- an object that has values for a sort of elements is no container
pub held_values : (e : GraphElement) (o : Held) → is_of (element_kinds e) (kind_of o) ≡ true → (v : Values) × (o ≡ held.Values v)
held_values e (held.Values v) is = (v, refl)
held_values (Node v) (held.List l) is = let no : false ≡ true = is in cc
held_values (Node v) (held.Dict d) is = let no : false ≡ true = is in cc
held_values (Node v) (held.Queue q) is = let no : false ≡ true = is in cc
held_values (Edge e) (held.List l) is = let no : false ≡ true = is in cc
held_values (Edge e) (held.Dict d) is = let no : false ≡ true = is in cc
held_values (Edge e) (held.Queue q) is = let no : false ≡ true = is in cc

-- ---- an array over the elements of a sort
pub is_array : (sort : Sort) (g : GraphState) (R : ℕ → ℤ → Type 0) (a : ArrayContents) → a.made ≡ made_of sort g → IsTable a.values (elements sort g) R
    → IsArray sort g R (record { kind = sorts.Array sort; cells = []; values = Some (of_array a) })
is_array sort g R a made table = record { kind = refl; cells = refl; array = a; values = refl; made = made; table = table }

-- ---- what is set
pub array_set : {E : Type 0} (s : SortValues E) (a b : ArrayContents) (n : ℕ) (x : ℤ) → s ≡ sorted.Array a → n ≤ a.made → b ≡ with_value n x a → IsSet (sort_values s) (of_array b) n x
unfolding with_value
array_set {E} s a b n x is le same = subst (λ (t : SortValues E). IsSet (sort_values t) (of_array b) n x) (sym is) (le-leb n a.made le, ap of_array same)

pub map_set : {E : Type 0} (s : SortValues E) (m k : MapContents) (n : ℕ) (x : ℤ) → s ≡ sorted.Map m → k ≡ with_set n x m → IsSet (sort_values s) (of_map k) n x
unfolding with_set
map_set {E} s m k n x is same = subst (λ (t : SortValues E). IsSet (sort_values t) (of_map k) n x) (sym is) (refl, ap of_map same)

pub value_given : (e : GraphElement) (x : ℤ) (o : Held) (v w : Values) → o ≡ held.Values v → kind_of_values w ≡ kind_of_values v → IsSet (valuation v) (valuation w) (element_number e) x → IsGiven e x o (held.Values w)
value_given e x o v w is kind set = record {
  before = valuation v;
  was = ap values_in is;
  covered = set.0;
  is = ap Some set.1;
  kind = kind ∙ sym (ap kind_of is);
  inner = sym (ap inner is);
  made = sym (ap made_in is);
}

-- ---- arrays that serve the graph have what is asked for
map_apart : (m : MapContents) (b : ArrayContents) → of_map m ≡ of_array b → ⊥
map_apart m b e = let no : None ≡ Some b.made = ap (λ (v : Valuation). v.covered) e in cc

pub serving_values : (g : GraphState) (e : GraphElement) (v : Values) → is_of (element_kinds e) (kind_of_values v) ≡ true → Serves g (seen (held.Values v)) → IsServing (valuation v) (elements (element_sort e) g)
serving_values g (Node n) (values.Nodes (sorted.Array a)) is serves b same = (serves Nodes b refl (ap Some same)).1
serving_values g (Node n) (values.Nodes (sorted.Map m)) is serves b same = absurd (map_apart m b same)
serving_values g (Edge n) (values.Edges (sorted.Array a)) is serves b same = (serves Edges b refl (ap Some same)).1
serving_values g (Edge n) (values.Edges (sorted.Map m)) is serves b same = absurd (map_apart m b same)
serving_values g (Node n) (values.Edges (sorted.Array a)) is serves b same = let no : false ≡ true = is in cc
serving_values g (Node n) (values.Edges (sorted.Map m)) is serves b same = let no : false ≡ true = is in cc
serving_values g (Edge n) (values.Nodes (sorted.Array a)) is serves b same = let no : false ≡ true = is in cc
serving_values g (Edge n) (values.Nodes (sorted.Map m)) is serves b same = let no : false ≡ true = is in cc

pub no_node : {E : Type 0} (v : SortValues E) → is_of kinds.NodeValues (kind_of_sort Edges v) ≡ true → ⊥
no_node (sorted.Array a) is = let no : false ≡ true = is in cc
no_node (sorted.Map m) is = let no : false ≡ true = is in cc

pub no_edge : {E : Type 0} (v : SortValues E) → is_of kinds.EdgeValues (kind_of_sort Nodes v) ≡ true → ⊥
no_edge (sorted.Array a) is = let no : false ≡ true = is in cc
no_edge (sorted.Map m) is = let no : false ≡ true = is in cc

-- ---- an array in which a value was set goes on to serve
some_set : (m : finmap.FinMap nat_cmp ℤ) (n k : ℕ) (x : ℤ) → IsSome (finmap.get m k) → IsSome (finmap.get (finmap.insert m n x) k)
some_set m n k x has = subst (λ (o : Option ℤ). IsSome o) (sym (finmap.get-insert nat_cmp_total m n x k))
    (elim (eq_by_cmp nat_cmp k n) as (λ b. IsSome (cond b (Some x) (finmap.get m k))) [ true ↦ refl | false ↦ has ])

pub serves_set : (g : GraphState) (o : Object) (v : Valuation) (n : ℕ) (x : ℤ) → o.values ≡ Some v → Serves g o → Serves g (record o { values = Some (with_value_for n x v) })
serves_set g o v n x has serves sort a kind is =
    let same : with_value_for n x v ≡ of_array a = some_same (with_value_for n x v) (of_array a) is in
    let covered : v.covered ≡ Some a.made = ap (λ (w : Valuation). w.covered) same in
    let default : v.default ≡ None = ap (λ (w : Valuation). w.default) same in
    let values : finmap.insert v.values n x ≡ a.values = ap (λ (w : Valuation). w.values) same in
    let b : ArrayContents = array_contents a.made v.values in
    let whole : v ≡ of_array b = λ i. record { covered = covered i; default = default i; values = v.values } in
    let old = serves sort b kind (has ∙ ap Some whole) in
    (old.0, subst (λ (m : finmap.FinMap nat_cmp ℤ). (k : ℕ) → Has k (elements sort g) → k ≤ a.made → IsSome (finmap.get m k)) values (λ k live le. some_set v.values n k x (old.1 k live le)))

pub serve_set : (g : GraphState) (name : List ℕ) (o : Object) (v : Valuation) (n : ℕ) (x : ℤ) (s : ObjectState) → object_at s name ≡ Some o → o.values ≡ Some v → AllServe g s
    → AllServe g (with_object name (record o { values = Some (with_value_for n x v) }) s)
serve_set g name o v n x s at has all = serve_with g name (record o { values = Some (with_value_for n x v) }) s all (serves_set g o v n x has (all name o at))
