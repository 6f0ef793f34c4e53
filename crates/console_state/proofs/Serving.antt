-- Each array goes on to serve the graph, whatever is done to the objects, and as the graph goes on.
use Rattle.std.proofs.Common.{◌≡◌, ℕ, Bool, true, false, cond, List, [], ◌∷◌, Option, Some, None, ◌⊎◌, ⊎_elim, inl, inr, refl, sym, subst, ◌∙◌, arith}
use Rattle.std.specs.Prelude.{ℤ, ◌==◌, int_lt, IfSome, option_map, option_and_then}
use Rattle.std.specs.FinMap as finmap
use Rattle.std.specs.Ordering.{nat_cmp, eq_by_cmp}
use Rattle.std.specs.Cmp.Lexicographic.{slice_cmp, nat_list_cmp_total}
use Rattle.graph_state.specs.State.{GraphState}
use Rattle.script_text.specs.declared.argument.Arg.{Arg}
use Rattle.script_text.specs.declared.argument.Arg.TheVariants as args
use Rattle.script_text.specs.declared.form.Kinds.{Kinds}
use Rattle.script_text.specs.declared.form.Kinds.TheVariants as kinds
use Rattle.script_text.specs.declared.word.ObjectWord.{ObjectWord}
use Rattle.script_text.specs.declared.word.ObjectWord.TheVariants as words
use Rattle.reply_text.specs.declared.refusal.Refusal.{Refusal}
use Rattle.reply_text.specs.declared.reply.Reply.{Reply}
use Rattle.reply_text.specs.Outcome.{Outcome, unless, LacksMemory}
use Rattle.object_store.specs.declared.objects.TheConstants.{OBJECT_LIMIT}
use Rattle.object_store.specs.declared.kind.ObjectKind.{ObjectKind}
use Rattle.object_store.specs.declared.kind.ObjectKind.TheVariants as sorts
use Rattle.object_store.specs.declared.kind.Sort.{Sort}
use Rattle.object_store.specs.declared.kind.Sort.TheVariants.{Nodes, Edges}
use Rattle.object_store.specs.State.{Cell, Object, ObjectState, no_objects}
use Rattle.object_store.specs.Cells.{head_of, listed, placed, with_key}
use Rattle.object_store.specs.Views.{is_of, object_at, of_kinds, object_of, holder, holder_of}
use Rattle.object_store.specs.Commands.{with_object, without_object, with_cells, full_cell, comes_in, container, enters, next, dict_insert, leaves, head_cell, decrease, on_object, on_cell, objects_done}
use Rattle.object_store.specs.Served.{Serves, AllServe}
use Rattle.object_store.specs.Values.{elements, made_of}
use Rattle.console_state.proofs.Later.{Follows, GoesOn}

some_same : {A : Type 0} {a b : A} → Some a ≡ Some b → a ≡ b
some_same {A} {a} {b} e = cc

-- an object that is found under a name, of any kinds, and that of which an item is found
of_name : (kinds : Kinds) (found : Option Object) (o : Object) → option_and_then (of_kinds kinds) found ≡ Some o → found ≡ Some o
of_name kinds None o e = cc
of_name kinds (Some p) o e = elim (is_of kinds p.kind) as (λ b. cond b (Some p) None ≡ Some o → Some p ≡ Some o) [
  | true ↦ λ is. is
  | false ↦ λ is. cc
] e

module _ (s : ObjectState) (kinds : Kinds) where
  found_at : (name : List ℕ) (o : Object) → object_of s kinds name ≡ Some o → object_at s name ≡ Some o
  found_at name o e = of_name kinds (object_at s name) o e

  with_name : (name : List ℕ) (found : Option Object) (h : List ℕ × Object) → object_of s kinds name ≡ found
      → option_map (λ (o : Object). (name, o)) found ≡ Some h → object_at s h.0 ≡ Some h.1
  with_name name None h at e = cc
  with_name name (Some o) h at e =
      subst (λ (p : List ℕ × Object). object_at s p.0 ≡ Some p.1) (some_same e) (found_at name o at)

  held_at : (found : Option (List ℕ)) (h : List ℕ × Object)
      → option_and_then (λ name. option_map (λ o. (name, o)) (object_of s kinds name)) found ≡ Some h → object_at s h.0 ≡ Some h.1
  held_at None h e = cc
  held_at (Some name) h e = with_name name (object_of s kinds name) h refl e

module _ (g : GraphState) where
  abbrev Serving : Outcome ObjectState → Type 0
  Serving outcome = AllServe g outcome.0

  chosen : (test : Bool) (o p : Object) (old : Option Object) → Serves g o → (old ≡ Some p → Serves g p)
      → cond test (Some o) old ≡ Some p → Serves g p
  chosen true o p old new other e = subst (Serves g) (some_same e) new
  chosen false o p old new other e = other e

  left : (test : Bool) (p : Object) (old : Option Object) → (old ≡ Some p → Serves g p) → cond test None old ≡ Some p → Serves g p
  left true p old other e = cc
  left false p old other e = other e

  module _ (s : ObjectState) (all : AllServe g s) where
    pub put : (name : List ℕ) (o : Object) → Serves g o → AllServe g (with_object name o s)
    put name o new = λ other p at.
        chosen (eq_by_cmp (slice_cmp nat_cmp) other name) o p (finmap.get s.objects other) new (all other p)
        (sym (finmap.get-insert nat_list_cmp_total s.objects name o other) ∙ at)

    out : (name : List ℕ) → AllServe g (without_object name s)
    out name = λ other p at.
        left (eq_by_cmp (slice_cmp nat_cmp) other name) p (finmap.get s.objects other) (all other p)
        (sym (finmap.get-remove nat_list_cmp_total s.objects name other) ∙ at)

    -- an object with other items is of its kind, and holds the same values
    celled : (name : List ℕ) (o : Object) (cells : List Cell) → object_at s name ≡ Some o → AllServe g (with_cells name o cells s)
    celled name o cells at = put name (record o { cells = cells }) (all name o at)

    unless_serves : (refusal : Option Refusal) (outcome : Outcome ObjectState) → Serving outcome → Serving (unless refusal s outcome)
    unless_serves None outcome h = h
    unless_serves (Some refusal) outcome h = all

    either : (test : Bool) (a b : Outcome ObjectState) → Serving a → Serving b → Serving (cond test a b)
    either true a b h k = h
    either false a b h k = k

    entered : (name : List ℕ) (o : Object) (cells : List Cell) → object_at s name ≡ Some o → Serving (enters name o cells s)
    entered name o cells at = unless_serves (full_cell s) _ (celled name o cells at)

    keyed : (name : List ℕ) (key inf : ℤ) (o : Object) (c : Option Cell) → object_at s name ≡ Some o → Serving (dict_insert name key inf o s c)
    keyed name key inf o None at = entered name o (placed (next (key ∷ inf ∷ []) s) o.cells) at
    keyed name key inf o (Some c) at = celled name o _ at

    gone : (name : List ℕ) (o : Object) (c : Option Cell) → object_at s name ≡ Some o → AllServe g (leaves name o c s)
    gone name o None at = all
    gone name o (Some c) at = celled name o _ at

    made : (name : List ℕ) (kind : ObjectKind) → Serving (comes_in name (container kind) s)
    made name kind = either (finmap.len s.objects == OBJECT_LIMIT) _ _ all (put name (container kind) (λ sort a of values. cc))

    lowered : (i : ℕ) (name : List ℕ) (o : Object) (values : List ℤ) (p : ℤ) → object_at s name ≡ Some o → Serving (decrease i name o values p s)
    lowered i name o values p at = either (int_lt (head_of values) p) _ _ all (celled name o _ at)

  mapped : {A : Type 0} (found : Option A) (f : A → Outcome ObjectState) → ((a : A) → found ≡ Some a → Serving (f a)) → IfSome (option_map f found) Serving
  mapped None f h = tt
  mapped (Some a) f h = h a refl

  then : {A : Type 0} (found : Option A) (f : A → Option (Outcome ObjectState)) → ((a : A) → found ≡ Some a → IfSome (f a) Serving) → IfSome (option_and_then f found) Serving
  then None f h = tt
  then (Some a) f h = h a refl

  named : (s : ObjectState) (kinds : Kinds) (name : List ℕ) (f : Object → Outcome ObjectState)
      → ((o : Object) → object_at s name ≡ Some o → Serving (f o)) → IfSome (on_object s kinds name f) Serving
  named s kinds name f h = mapped (object_of s kinds name) f (λ o at. h o (found_at s kinds name o at))

  listed_in : (s : ObjectState) (kinds : Kinds) (i : ℕ) (f : List ℕ → Object → List ℤ → Outcome ObjectState)
      → ((name : List ℕ) (o : Object) (values : List ℤ) → object_at s name ≡ Some o → Serving (f name o values)) → IfSome (on_cell s kinds i f) Serving
  listed_in s kinds i f h =
      then (holder_of s kinds i) _
      (λ p at. mapped _ (f p.0 p.1) (λ values is. h p.0 p.1 values (held_at s kinds (holder s i) p at)))

  -- what a command on objects leads to
  objects_serve : (word : ObjectWord) (args : List Arg) (s : ObjectState) → AllServe g s → IfSome (objects_done word args s) Serving
  objects_serve words.MakeList (args.Name x ∷ []) s all = made s all x sorts.List
  objects_serve words.MakeDict (args.Name x ∷ []) s all = made s all x sorts.Dict
  objects_serve words.MakeQueue (args.Name x ∷ []) s all = made s all x sorts.Queue
  objects_serve words.DropObject (args.Name x ∷ []) s all = named s kinds.Any x _ (λ o at. out s all x)
  objects_serve words.Size (args.Name x ∷ []) s all = named s kinds.Container x _ (λ o at. all)
  objects_serve words.Items (args.Name x ∷ []) s all = named s kinds.Container x _ (λ o at. all)
  objects_serve words.Push (args.Name x ∷ args.Num v ∷ []) s all = named s kinds.List x _ (λ o at. entered s all x o _ at)
  objects_serve words.Append (args.Name x ∷ args.Num v ∷ []) s all = named s kinds.List x _ (λ o at. entered s all x o _ at)
  objects_serve words.InsertBefore (args.Cell i ∷ args.Num v ∷ []) s all = listed_in s kinds.List i _ (λ x o w at. entered s all x o _ at)
  objects_serve words.InsertBehind (args.Cell i ∷ args.Num v ∷ []) s all = listed_in s kinds.List i _ (λ x o w at. entered s all x o _ at)
  objects_serve words.Contents (args.Cell i ∷ []) s all = listed_in s kinds.List i _ (λ x o v at. all)
  objects_serve words.Assign (args.Cell i ∷ args.Num v ∷ []) s all = listed_in s kinds.List i _ (λ x o w at. celled s all x o _ at)
  objects_serve words.First (args.Name x ∷ []) s all = named s kinds.ListOrDict x _ (λ o at. all)
  objects_serve words.Last (args.Name x ∷ []) s all = named s kinds.ListOrDict x _ (λ o at. all)
  objects_serve words.Succ (args.Cell i ∷ []) s all = listed_in s kinds.ListOrDict i _ (λ x o v at. all)
  objects_serve words.Pred (args.Cell i ∷ []) s all = listed_in s kinds.ListOrDict i _ (λ x o v at. all)
  objects_serve words.CyclicSucc (args.Cell i ∷ []) s all = listed_in s kinds.List i _ (λ x o v at. all)
  objects_serve words.CyclicPred (args.Cell i ∷ []) s all = listed_in s kinds.List i _ (λ x o v at. all)
  objects_serve words.MoveToFront (args.Cell i ∷ []) s all = listed_in s kinds.List i _ (λ x o v at. celled s all x o _ at)
  objects_serve words.MoveToRear (args.Cell i ∷ []) s all = listed_in s kinds.List i _ (λ x o v at. celled s all x o _ at)
  objects_serve words.ReverseItems (args.Name x ∷ []) s all = named s kinds.List x _ (λ o at. celled s all x o _ at)
  objects_serve words.DictInsert (args.Name x ∷ args.Num k ∷ args.Num v ∷ []) s all = named s kinds.Dict x _ (λ o at. keyed s all x k v o (with_key k o.cells) at)
  objects_serve words.Lookup (args.Name x ∷ args.Num k ∷ []) s all = named s kinds.Dict x _ (λ o at. all)
  objects_serve words.Del (args.Name x ∷ args.Num k ∷ []) s all = named s kinds.Dict x _ (λ o at. gone s all x o (with_key k o.cells) at)
  objects_serve words.Key (args.Cell i ∷ []) s all = listed_in s kinds.Dict i _ (λ x o v at. all)
  objects_serve words.QueueInsert (args.Name x ∷ args.Num p ∷ args.Num v ∷ []) s all = named s kinds.Queue x _ (λ o at. entered s all x o _ at)
  objects_serve words.FindMin (args.Name x ∷ []) s all = named s kinds.Queue x _ (λ o at. all)
  objects_serve words.DelMin (args.Name x ∷ []) s all = named s kinds.Queue x _ (λ o at. gone s all x o (head_cell (listed o)) at)
  objects_serve words.Prio (args.Cell i ∷ []) s all = listed_in s kinds.Queue i _ (λ x o v at. all)
  objects_serve words.Decrease (args.Cell i ∷ args.Num p ∷ []) s all = listed_in s kinds.Queue i _ (λ x o v at. lowered s all i x o v p at)
  objects_serve words.Inf (args.Cell i ∷ []) s all = listed_in s kinds.DictOrQueue i _ (λ x o v at. all)
  objects_serve words.ChangeInf (args.Cell i ∷ args.Num v ∷ []) s all = listed_in s kinds.DictOrQueue i _ (λ x o w at. celled s all x o _ at)
  objects_serve words.DelItem (args.Cell i ∷ []) s all = listed_in s kinds.Container i _ (λ x o v at. celled s all x o _ at)
  objects_serve word args s all = tt

-- of nodes, or of edges
sort_follows : (sort : Sort) (g h : GraphState) → GoesOn g h → Follows (elements sort g) (made_of sort g) (elements sort h) (made_of sort h)
sort_follows Nodes g h on = on.0
sort_follows Edges g h on = on.1

pub goes_on_served : (g h : GraphState) (s : ObjectState) → GoesOn g h → AllServe g s → AllServe h s
goes_on_served g h s on all = λ name o at sort a kind values.
    let f = sort_follows sort g h on in
    let old = all name o at sort a kind values in (
      omega (arith, old.0, f.given),
      λ n has covered. elim (f.older n has) [
        | inl live ↦ old.1 n live covered
        | inr new ↦ absurd (omega (arith, old.0, covered, new))
      ],
    )

-- a command on objects, or want of memory for it
pub changed_served : (free : Bool) (word : ObjectWord) (args : List Arg) (g : GraphState) (s t : ObjectState) (reply : Reply)
    → LacksMemory free s reply t ⊎ (objects_done word args s ≡ Some (t, reply)) → AllServe g s → AllServe g t
changed_served free word args g s t reply does all = ⊎_elim
    (λ (lacks : LacksMemory free s reply t). subst (AllServe g) (sym lacks.state) all)
    (λ (is : objects_done word args s ≡ Some (t, reply)).
    subst (λ (given : Option (Outcome ObjectState)). IfSome given (λ outcome. AllServe g outcome.0)) is
    (objects_serve g word args s all))
    does

-- where there are no objects, there is no array
pub none_serve : (g : GraphState) (s : ObjectState) → s ≡ no_objects → AllServe g s
none_serve g s e = subst (AllServe g) (sym e) (λ name o at.
    let none : None ≡ Some o = sym (finmap.get-empty {X = Object} (slice_cmp nat_cmp) name) ∙ at in
    cc)
