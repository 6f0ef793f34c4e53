-- The kinds of objects.
use Rattle.std.proofs.Common.{◌≡◌, true, false, refl}
use Rattle.script_text.specs.declared.form.Kinds.TheVariants as kinds
use Rattle.object_store.specs.declared.kind.ObjectKind.{ObjectKind}
use Rattle.object_store.specs.declared.kind.ObjectKind.TheVariants as sorts
use Rattle.object_store.specs.declared.values.SortValues.TheVariants as sorted
use Rattle.object_store.specs.declared.values.Values.{Values}
use Rattle.object_store.specs.declared.values.Values.TheVariants as values
use Rattle.object_store.specs.Inner.{kind_of_values}
use Rattle.object_store.specs.Views.{is_of}

pub list_kind : (kind : ObjectKind) → is_of kinds.List kind ≡ true → kind ≡ sorts.List
list_kind sorts.List is = refl
list_kind sorts.Dict is = let no : false ≡ true = is in cc
list_kind sorts.Queue is = let no : false ≡ true = is in cc
list_kind (sorts.Array sort) is = let no : false ≡ true = is in cc
list_kind (sorts.Map sort) is = let no : false ≡ true = is in cc

pub queue_kind : (kind : ObjectKind) → is_of kinds.Queue kind ≡ true → kind ≡ sorts.Queue
queue_kind sorts.List is = let no : false ≡ true = is in cc
queue_kind sorts.Dict is = let no : false ≡ true = is in cc
queue_kind sorts.Queue is = refl
queue_kind (sorts.Array sort) is = let no : false ≡ true = is in cc
queue_kind (sorts.Map sort) is = let no : false ≡ true = is in cc

-- an array or a map is no container
never : false ≡ true → ⊥
never e = cc

pub no_list : (v : Values) → is_of kinds.List (kind_of_values v) ≡ true → ⊥
no_list (values.Nodes (sorted.Array a)) e = never e
no_list (values.Nodes (sorted.Map m)) e = never e
no_list (values.Edges (sorted.Array a)) e = never e
no_list (values.Edges (sorted.Map m)) e = never e

pub no_dict : (v : Values) → is_of kinds.Dict (kind_of_values v) ≡ true → ⊥
no_dict (values.Nodes (sorted.Array a)) e = never e
no_dict (values.Nodes (sorted.Map m)) e = never e
no_dict (values.Edges (sorted.Array a)) e = never e
no_dict (values.Edges (sorted.Map m)) e = never e

pub no_queue : (v : Values) → is_of kinds.Queue (kind_of_values v) ≡ true → ⊥
no_queue (values.Nodes (sorted.Array a)) e = never e
no_queue (values.Nodes (sorted.Map m)) e = never e
no_queue (values.Edges (sorted.Array a)) e = never e
no_queue (values.Edges (sorted.Map m)) e = never e
