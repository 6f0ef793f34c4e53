-- From what a command finds to what its row says.
use Rattle.std.proofs.Common.{◌≡◌, ℕ, Bool, true, false, List, Option, Some, None, refl, sym, ap, subst, ◌∙◌, inl, inr, ⊎_elim}
use Rattle.std.specs.Prelude.{ℤ, slice_get, option_map, option_and_then}
use Rattle.std.specs.FinMap as finmap
use Rattle.item_pool.specs.Contents.{Contents}
use Rattle.item_list.specs.Items.{value_at}
use Rattle.reply_text.specs.declared.reply.Reply.{Reply}
use Rattle.reply_text.specs.Outcome.{Outcome, Gives}
use Rattle.script_text.specs.declared.form.Kinds.{Kinds}
use Rattle.object_store.specs.declared.objects.Place.{Place}
use Rattle.object_store.specs.declared.slots.Named.{Named}
use Rattle.object_store.specs.State.{Cell, Object, ObjectState}
use Rattle.object_store.specs.Views.{is_of, has_object, object_of, holds_cell}
use Rattle.script_text.specs.declared.argument.Arg.{Arg}
use Rattle.script_text.specs.declared.word.ObjectWord.{ObjectWord}
use Rattle.object_store.specs.Commands.{objects_done, on_object, on_cell}
use Rattle.object_store.specs.Inner.{inner, kind_of, seen}
use Rattle.object_store.specs.Slots.{found}
use Rattle.object_store.specs.Kept.{Places, state_of, IsKept}
use Rattle.object_store.specs.Leads.{Leads}
use Rattle.object_store.proofs.Holders.{value_there}
use Rattle.object_store.proofs.Lists.{cond_true}
use Rattle.object_store.proofs.Looks.{object_of_there, has_there, has_none, holder_of_there, holds_there, holds_none}

pub leads : (free : Bool) (given : Option (Outcome ObjectState)) (g : Outcome ObjectState) (s : ObjectState) (reply : Reply) (next : ObjectState)
    → given ≡ Some g → Gives free g s reply next → Leads free given s reply next
leads free given g s reply next is h = ⊎_elim (λ l. inl l) (λ e. inr (is ∙ ap Some (sym e))) h

-- the item of the number is in an object of these kinds, at this place
pub record CellAt (ps : Places) (kinds : Kinds) (p : Place) (i : ℕ) : Type 0 where
  pub object : Named
  pub cell : Cell
  pub at : slice_get ps p.slot ≡ Some (Some object)
  pub has : value_at p.item.serial (inner object.object) ≡ Some cell
  pub is : cell.0 ≡ i
  pub kind : is_of kinds (kind_of object.object) ≡ true

module _ (ps : Places) (cells : Contents Place) (kept : IsKept ps cells) where
  abbrev state : ObjectState
  state = state_of ps cells

  pub kind_there : (kinds : Kinds) (k : ℕ) (n : Named) (name : List ℕ) → slice_get ps k ≡ Some (Some n) → n.name ≡ name → has_object state kinds name ≡ true → is_of kinds (kind_of n.object) ≡ true
  kind_there kinds k n name at is has = sym (has_there ps cells kept kinds k n at) ∙ ap (λ x. has_object state kinds x) is ∙ has

  pub on_object_there : (kinds : Kinds) (k : ℕ) (n : Named) (name : List ℕ) (f : Object → Outcome ObjectState) → slice_get ps k ≡ Some (Some n) → n.name ≡ name → has_object state kinds name ≡ true
      → on_object state kinds name f ≡ Some (f (seen n.object))
  on_object_there kinds k n name f at is has =
      ap (λ x. option_map f (object_of state kinds x)) (sym is)
      ∙ ap (λ o. option_map f o) (object_of_there ps cells kept kinds k n at ∙ cond_true (is_of kinds (kind_of n.object)) (Some (seen n.object)) None (kind_there kinds k n name at is has))

  -- a name that an object has is found
  pub name_found : (kinds : Kinds) (name : List ℕ) → has_object state kinds name ≡ true → found name ps ≡ None → ⊥
  name_found kinds name has none = let no : false ≡ true = sym (has_none ps cells kept kinds name none) ∙ has in cc

  pub cell_found : (kinds : Kinds) (i : ℕ) → holds_cell state kinds i ≡ true → finmap.get cells.live i ≡ None → ⊥
  cell_found kinds i has none = let no : false ≡ true = sym (holds_none ps cells kept kinds i none) ∙ has in cc

  pub cell_at : (kinds : Kinds) (i : ℕ) (p : Place) → holds_cell state kinds i ≡ true → finmap.get cells.live i ≡ Some p → CellAt ps kinds p i
  cell_at kinds i p has e =
      let w = kept.there p.slot p.item.serial i (p, e, refl, refl) in
      record {
        object = w.0;
        cell = w.1;
        at = w.2;
        has = w.3;
        is = w.4;
        kind = sym (holds_there ps cells kept kinds p.slot p.item.serial i w.0 w.1 w.2 w.3 w.4) ∙ has;
      }

  pub on_cell_there : (kinds : Kinds) (i : ℕ) (p : Place) (w : CellAt ps kinds p i) (f : List ℕ → Object → List ℤ → Outcome ObjectState)
      → on_cell state kinds i f ≡ Some (f w.object.name (seen w.object.object) w.cell.1)
  on_cell_there kinds i p w f =
      ap (λ h. option_and_then (λ (u : List ℕ × Object). option_map (f u.0 u.1) (value_at i u.1.cells)) h)
      (holder_of_there ps cells kept kinds p.slot p.item.serial i w.object w.cell w.at w.has w.is
      ∙ ap (λ o. option_map (λ (q : Object). (w.object.name, q)) o) (cond_true (is_of kinds (kind_of w.object.object)) (Some (seen w.object.object)) None w.kind))
      ∙ ap (λ v. option_map (f w.object.name (seen w.object.object)) v) (value_there ps cells kept p.slot p.item.serial i w.object w.cell w.at w.has w.is)

-- the same, of equal states
pub led : (free : Bool) (word : ObjectWord) (args : List Arg) (s t next after : ObjectState) (reply : Reply)
    → s ≡ t → next ≡ after → Leads free (objects_done word args s) s reply next → Leads free (objects_done word args t) t reply after
led free word args s t next after reply is same h =
    subst (λ (u : ObjectState). Leads free (objects_done word args t) t reply u) same
    (subst (λ (u : ObjectState). Leads free (objects_done word args u) u reply next) is h)
