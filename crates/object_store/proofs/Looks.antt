-- What is asked of objects by name and by item, as the places have it.
use Rattle.std.proofs.Common.{◌≡◌, ℕ, ◌≢◌, Bool, true, false, cond, List, Option, Some, None, is_some, refl, ap, ◌∙◌}
use Rattle.std.specs.Prelude.{slice_get, option_map, option_and_then}
use Rattle.std.specs.FinMap as finmap
use Rattle.item_pool.specs.Contents.{Contents}
use Rattle.item_list.specs.Items.{value_at}
use Rattle.reply_text.specs.declared.refusal.Refusal.TheVariants.{FullObjects}
use Rattle.reply_text.specs.declared.reply.ReplyLine.TheVariants.{Empty}
use Rattle.reply_text.specs.Outcome.{done, refused}
use Rattle.script_text.specs.declared.form.Kinds.{Kinds}
use Rattle.object_store.specs.declared.objects.Place.{Place}
use Rattle.object_store.specs.declared.objects.TheConstants.{OBJECT_LIMIT}
use Rattle.object_store.specs.declared.slots.Named.{Named}
use Rattle.object_store.specs.State.{Cell, Object, ObjectState}
use Rattle.object_store.specs.Views.{is_of, of_kinds, has_object, object_of, holder_of, holds_cell}
use Rattle.object_store.specs.Commands.{comes_in, with_object}
use Rattle.object_store.specs.Inner.{inner, kind_of, seen}
use Rattle.object_store.specs.Slots.{found}
use Rattle.object_store.specs.Kept.{Places, state_of, IsKept}
use Rattle.object_store.proofs.Found.{get_objects}
use Rattle.object_store.proofs.Holders.{object_there, holder_there, nobody_holds}
use Rattle.object_store.proofs.Pairs.{number_of, number_not}

some_if : {A : Type 0} (b : Bool) (x : A) → is_some (cond b (Some x) None) ≡ b
some_if true x = refl
some_if false x = refl

some_map : {A B : Type 0} (f : A → B) (o : Option A) → is_some (option_map f o) ≡ is_some o
some_map f None = refl
some_map f (Some x) = refl

module _ (ps : Places) (cells : Contents Place) (kept : IsKept ps cells) where
  abbrev state : ObjectState
  state = state_of ps cells

  -- the object at a place, by its name
  pub object_of_there : (kinds : Kinds) (k : ℕ) (n : Named) → slice_get ps k ≡ Some (Some n) → object_of state kinds n.name ≡ of_kinds kinds (seen n.object)
  object_of_there kinds k n at = ap (λ o. option_and_then (of_kinds kinds) o) (object_there ps cells kept k n at)

  pub has_there : (kinds : Kinds) (k : ℕ) (n : Named) → slice_get ps k ≡ Some (Some n) → has_object state kinds n.name ≡ is_of kinds (kind_of n.object)
  has_there kinds k n at = ap (λ o. is_some o) (object_of_there kinds k n at) ∙ some_if (is_of kinds (kind_of n.object)) (seen n.object)

  pub has_none : (kinds : Kinds) (name : List ℕ) → found name ps ≡ None → has_object state kinds name ≡ false
  has_none kinds name none = ap (λ o. is_some (option_and_then (of_kinds kinds) o)) (get_objects ps name ∙ none)

  -- the object of an item
  pub holder_of_there : (kinds : Kinds) (k s i : ℕ) (n : Named) (c : Cell) → slice_get ps k ≡ Some (Some n) → value_at s (inner n.object) ≡ Some c → c.0 ≡ i
      → holder_of state kinds i ≡ option_map (λ (o : Object). (n.name, o)) (of_kinds kinds (seen n.object))
  holder_of_there kinds k s i n c at has is =
      ap (λ h. option_and_then (λ name. option_map (λ (o : Object). (name, o)) (object_of state kinds name)) h) (holder_there ps cells kept k s i n c at has is)
      ∙ ap (λ o. option_map (λ (q : Object). (n.name, q)) o) (object_of_there kinds k n at)

  pub holds_there : (kinds : Kinds) (k s i : ℕ) (n : Named) (c : Cell) → slice_get ps k ≡ Some (Some n) → value_at s (inner n.object) ≡ Some c → c.0 ≡ i
      → holds_cell state kinds i ≡ is_of kinds (kind_of n.object)
  holds_there kinds k s i n c at has is =
      ap (λ o. is_some o) (holder_of_there kinds k s i n c at has is)
      ∙ some_map (λ (o : Object). (n.name, o)) (of_kinds kinds (seen n.object))
      ∙ some_if (is_of kinds (kind_of n.object)) (seen n.object)

  pub holds_none : (kinds : Kinds) (i : ℕ) → finmap.get cells.live i ≡ None → holds_cell state kinds i ≡ false
  holds_none kinds i none =
      ap (λ h. is_some {T = List ℕ × Object} (option_and_then (λ name. option_map (λ (o : Object). (name, o)) (object_of state kinds name)) h)) (nobody_holds ps cells kept i none)

-- ---- a new object
pub come_full : (name : List ℕ) (o : Object) (s : ObjectState) → finmap.len s.objects ≡ OBJECT_LIMIT → comes_in name o s ≡ refused s FullObjects
come_full name o s full = ap (λ b. cond b (refused s FullObjects) (done (with_object name o s) Empty)) (number_of (finmap.len s.objects) OBJECT_LIMIT full)

pub come_done : (name : List ℕ) (o : Object) (s : ObjectState) → finmap.len s.objects ≢ OBJECT_LIMIT → comes_in name o s ≡ done (with_object name o s) Empty
come_done name o s not = ap (λ b. cond b (refused s FullObjects) (done (with_object name o s) Empty)) (number_not (finmap.len s.objects) OBJECT_LIMIT not)
