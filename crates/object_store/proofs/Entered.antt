-- An item has come in: what the session has, and what is answered.
use Rattle.std.proofs.Common.{◌≡◌, ℕ, ◌+◌, List, [], ◌∷◌, Some, None, refl, sym, ap, subst, ◌∙◌}
use Rattle.std.specs.Prelude.{option_map, slice_get}
use Rattle.item_list.specs.Items.{value_at}
use Rattle.item_pool.specs.Contents.{Contents}
use Rattle.leda_base.specs.declared.ItemName.TheVariants.{Cell as CellName}
use Rattle.reply_text.specs.declared.reply.Reply.TheVariants.{Line}
use Rattle.reply_text.specs.declared.reply.ReplyLine.TheVariants.{Name}
use Rattle.reply_text.specs.Outcome.{done, unless}
use Rattle.object_store.specs.declared.entrance.Entrance.{Entrance}
use Rattle.object_store.specs.declared.entrance.Entrance.TheVariants.{At, Key, Priority}
use Rattle.object_store.specs.declared.entrance.Spot.TheVariants.{Front, Rear, Before, Behind}
use Rattle.object_store.specs.declared.object.Entry.{Entry}
use Rattle.object_store.specs.declared.object.Object.{Object as Held}
use Rattle.object_store.specs.declared.object.Object.TheVariants as held
use Rattle.object_store.specs.declared.objects.Place.{Place}
use Rattle.object_store.specs.declared.slots.Named.{Named}
use Rattle.object_store.specs.State.{Cell, ObjectState}
use Rattle.object_store.specs.Commands.{with_cells, full_cell, enters}
use Rattle.object_store.specs.Inner.{inner, list_cell, seen}
use Rattle.object_store.specs.Kept.{Places, state_of}
use Rattle.object_store.specs.Entrance.{Fits, IsNamedThere}
use Rattle.object_store.proofs.Pairs.{value_of, keeps}

-- what a list has under a serial, the object has
pub list_value : (s : ℕ) (ps : List (ℕ × Entry)) (x : Entry) → value_at s ps ≡ Some x → value_at s (inner (held.List (record { pairs = ps; made = 0 }))) ≡ Some (x.number, x.value ∷ [])
list_value s ps x e = value_of list_cell s s (λ (x : Entry). (x.number, x.value ∷ [])) (λ p. refl) ps (keeps list_cell (λ p. refl) s ps) ∙ ap (λ o. option_map (λ (x : Entry). (x.number, x.value ∷ [])) o) e

pub fits_there : (entrance : Entrance) (o : Held) → Fits entrance o → IsNamedThere entrance (inner o)
fits_there (At Front) (held.List l) h = tt
fits_there (At Rear) (held.List l) h = tt
fits_there (At (Before it)) (held.List l) h = ((h.0.number, h.0.value ∷ []), list_value it.serial l.pairs h.0 h.1)
fits_there (At (Behind it)) (held.List l) h = ((h.0.number, h.0.value ∷ []), list_value it.serial l.pairs h.0 h.1)
fits_there (At spot) (held.Dict d) h = absurd h
fits_there (At spot) (held.Queue q) h = absurd h
fits_there (At spot) (held.Values v) h = absurd h
fits_there (Key k) o h = tt
fits_there (Priority r) o h = tt

pub fits_old : (entrance : Entrance) (ps : Places) (k : ℕ) (n m : Named) → slice_get ps k ≡ Some (Some n) → slice_get ps k ≡ Some (Some m) → Fits entrance n.object → IsNamedThere entrance (inner m.object)
fits_old entrance ps k n m a b fits =
    let both : Some (Some n) ≡ Some (Some m) = sym a ∙ b in
    let is : n ≡ m = cc in
    fits_there entrance m.object (subst (λ (o : Named). Fits entrance o.object) is fits)

pub entered_reply : (ps qs : Places) (cells more : Contents Place) (n : Named) (cs : List Cell) (number : ℕ)
    → full_cell (state_of ps cells) ≡ None → state_of qs more ≡ record (with_cells n.name (seen n.object) cs (state_of ps cells)) { made = cells.made + 1 } → number ≡ cells.made + 1
    → (state_of qs more, Line (Name (CellName number))) ≡ enters n.name (seen n.object) cs (state_of ps cells)
entered_reply ps qs cells more n cs number free state is =
    let s : ObjectState = state_of ps cells in
    (λ i. (state i, Line (Name (CellName (is i)))))
    ∙ sym (ap (λ f. unless f s (done (record (with_cells n.name (seen n.object) cs s) { made = s.made + 1 }) (Name (CellName (s.made + 1))))) free)
