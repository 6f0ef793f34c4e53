-- What is sought in an object of a name, as its row says.
use Rattle.std.proofs.Common.{◌≡◌, ℕ, true, false, cond, is_some, List, [], ◌∷◌, Option, Some, None, refl, sym, ap, ◌∙◌, inl, inr}
use Rattle.std.specs.Prelude.{ℤ, slice_get, option_map, option_and_then}
use Rattle.std.specs.declared.cmp.Ordering.TheVariants.{Equal}
use Rattle.std.specs.Ordering.{int_cmp, int_eq}
use Rattle.std.specs.Cmp.{int_ranked}
use Rattle.item_pool.specs.Contents.{Contents}
use Rattle.item_list.specs.Items.{value_at}
use Rattle.script_text.specs.declared.argument.Arg.TheVariants as args
use Rattle.script_text.specs.declared.form.Kinds.{Kinds}
use Rattle.reply_text.specs.declared.reply.Reply.TheVariants.{Line}
use Rattle.reply_text.specs.Outcome.{Outcome, done}
use Rattle.object_store.specs.declared.kind.ObjectKind.{ObjectKind}
use Rattle.object_store.specs.declared.kind.ObjectKind.TheVariants as sorts
use Rattle.object_store.specs.declared.near.Sought.{Sought}
use Rattle.object_store.specs.declared.near.Sought.TheVariants.{First, Last, WithKey, Least}
use Rattle.object_store.specs.declared.objects.Place.{Place}
use Rattle.object_store.specs.declared.slots.Named.{Named}
use Rattle.object_store.specs.State.{Cell, Object, ObjectState}
use Rattle.object_store.specs.Cells.{first_of, head_of, in_order, last_of, listed, listed_by, with_key}
use Rattle.object_store.specs.Commands.{head_cell, number_of, number_line, objects_done, on_cell}
use Rattle.object_store.specs.Finds.{Finds, last_cell, sought_cell}
use Rattle.object_store.specs.Inner.{Inner, inner, kind_of, cells_in, seen}
use Rattle.object_store.specs.Kept.{Places, state_of, IsKept}
use Rattle.object_store.specs.Near.{near_sought, near_kinds, IsNumber, IsPlaced}
use Rattle.object_store.specs.Views.{is_of, of_kinds, has_object, object_at, object_of, holder, holder_of, holds_cell}
use Rattle.object_store.specs.Words.{sought_args, sought_kinds, sought_word}
use Rattle.object_store.proofs.Holders.{holder_there, value_there}
use Rattle.object_store.proofs.ByKind.{queue_kind}
use Rattle.object_store.proofs.Leads.{kind_there}
use Rattle.object_store.proofs.Lists.{cond_true}
use Rattle.object_store.proofs.Looks.{object_of_there}
use Rattle.object_store.proofs.Ordered.{AmongCells, among_order, first_number_is, serial_of_cell, equal_is}
use Rattle.object_store.proofs.Standing.{all_in}

some_same : {A : Type 0} (a b : A) → Some a ≡ Some b → a ≡ b
some_same a b e = cc

none_some : {A : Type 0} (a : A) → None ≡ Some a → ⊥
none_some a e = cc

-- ---- what is sought is an item of the object
among_head : (c : Cell) (cs : List Cell) → head_cell cs ≡ Some c → AmongCells c cs
among_head c [] e = absurd (none_some c e)
among_head c (d ∷ ds) e = inl (sym (some_same d c e))

among_last : (c : Cell) (cs : List Cell) → last_cell cs ≡ Some c → AmongCells c cs
among_last c [] e = absurd (none_some c e)
among_last c (d ∷ []) e = inl (sym (some_same d c e))
among_last c (d ∷ f ∷ fs) e = inr (among_last c (f ∷ fs) e)

among_key : (k : ℤ) (c : Cell) (cs : List Cell) → with_key k cs ≡ Some c → AmongCells c cs
among_key k c [] e = absurd (none_some c e)
among_key k c (d ∷ ds) e = elim (int_eq (head_of d.1) k) as (λ b. cond b (Some d) (with_key k ds) ≡ Some c → AmongCells c (d ∷ ds)) [
  | true ↦ λ h. inl (sym (some_same d c h))
  | false ↦ λ h. inr (among_key k c ds h)
] e

among_listed : (kind : ObjectKind) (c : Cell) (cs : List Cell) → AmongCells c (listed_by kind cs) → AmongCells c cs
among_listed sorts.List c cs m = m
among_listed sorts.Dict c cs m = m
among_listed sorts.Queue c cs m = among_order c cs m
among_listed (sorts.Array sort) c cs m = m
among_listed (sorts.Map sort) c cs m = m

among_sought : (what : Sought) (o : Object) (c : Cell) → sought_cell what o ≡ Some c → AmongCells c o.cells
among_sought First o c e = among_head c o.cells e
among_sought Last o c e = among_last c o.cells e
among_sought (WithKey k) o c e = among_key k c o.cells e
among_sought Least o c e = among_listed o.kind c o.cells (among_head c (listed o) e)

-- it has the key
pub key_is : (k : ℤ) (c : Cell) (cs : List Cell) → with_key k cs ≡ Some c → head_of c.1 ≡ k
key_is k c [] e = absurd (none_some c e)
key_is k c (d ∷ ds) e = elim (int_eq (head_of d.1) k) as (λ b. int_eq (head_of d.1) k ≡ b → cond b (Some d) (with_key k ds) ≡ Some c → head_of c.1 ≡ k) [
  | true ↦ λ t h. ap (λ (x : Cell). head_of x.1) (sym (some_same d c h)) ∙ int_ranked (head_of d.1) k Equal (sym (equal_is (int_cmp (head_of d.1) k) t))
  | false ↦ λ t h. key_is k c ds h
] refl e

last_number : (cs : List Cell) → last_of cs ≡ number_of (last_cell cs)
last_number [] = refl
last_number (c ∷ []) = refl
last_number (c ∷ d ∷ ds) = last_number (d ∷ ds)

-- ---- from the places to the objects
module _ (ps : Places) (cells : Contents Place) (kept : IsKept ps cells) (k : ℕ) (n : Named) (name : List ℕ) (at : slice_get ps k ≡ Some (Some n)) (is : n.name ≡ name) where
  abbrev s : ObjectState
  s = state_of ps cells

  held : (c : Cell) → AmongCells c (cells_in n.object) → (value_at c.0 (cells_in n.object) ≡ Some c.1) × (holder s c.0 ≡ Some name)
  held c m =
      let w = serial_of_cell c (inner n.object) (inner n.object) (all_in (inner n.object) (kept.sound k n at).distinct) m in
      (value_there ps cells kept k w.0 c.0 n c at w.1 refl, holder_there ps cells kept k w.0 c.0 n c at w.1 refl ∙ ap Some is)

  number_is : (what : Sought) → is_of (sought_kinds what) (kind_of n.object) ≡ true → (r : Option ℕ) → IsNumber (near_sought what) n.object r → r ≡ number_of (sought_cell what (seen n.object))
  number_is First kind r h = h ∙ first_number_is (cells_in n.object)
  number_is Last kind r h = h ∙ last_number (cells_in n.object)
  number_is (WithKey key) kind r h = h
  number_is Least kind r h =
      h ∙ first_number_is (in_order (cells_in n.object))
      ∙ ap (λ (sort : ObjectKind). number_of (head_cell (listed_by sort (cells_in n.object)))) (sym (queue_kind (kind_of n.object) kind))

  pub finds : (what : Sought) (r : Option ℕ) → has_object s (sought_kinds what) name ≡ true → IsNumber (near_sought what) n.object r → Finds s what name r
  finds what r has h =
      let kind = kind_there ps cells kept (sought_kinds what) k n name at is has in
      record {
        object = seen n.object;
        there =
            ap (λ x. object_of s (sought_kinds what) x) (sym is)
            ∙ object_of_there ps cells kept (sought_kinds what) k n at
            ∙ cond_true (is_of (sought_kinds what) (kind_of n.object)) (Some (seen n.object)) None kind;
        number = number_is what kind r h;
        held = λ c e. held c (among_sought what (seen n.object) c e);
      }

-- what is asked for is there, in an object that has such a place
pub placed_sought : (what : Sought) (xs : List Inner) → IsPlaced (near_sought what) xs
placed_sought First xs = tt
placed_sought Last xs = tt
placed_sought (WithKey k) xs = tt
placed_sought Least xs = tt

pub kind_sought : (what : Sought) (kind : ObjectKind) → is_of (sought_kinds what) kind ≡ true → is_of (near_kinds (near_sought what)) kind ≡ true
kind_sought First kind h = h
kind_sought Last kind h = h
kind_sought (WithKey k) kind h = h
kind_sought Least kind h = h

-- ---- the row of a look
abbrev sought_row : Sought → ObjectState → Object → Outcome ObjectState
sought_row what s o = done s (number_line (number_of (sought_cell what o)))

row_is : (what : Sought) (name : List ℕ) (s : ObjectState) (o : Object) → object_of s (sought_kinds what) name ≡ Some o → objects_done (sought_word what) (args.Name name ∷ sought_args what) s ≡ Some (sought_row what s o)
row_is First name s o there = ap (λ z. option_map (λ (p : Object). done s (number_line (first_of p.cells))) z) there ∙ ap (λ z. Some (done s (number_line z))) (first_number_is o.cells)
row_is Last name s o there = ap (λ z. option_map (λ (p : Object). done s (number_line (last_of p.cells))) z) there ∙ ap (λ z. Some (done s (number_line z))) (last_number o.cells)
row_is (WithKey k) name s o there = ap (λ z. option_map (λ (p : Object). done s (number_line (number_of (with_key k p.cells)))) z) there
row_is Least name s o there = ap (λ z. option_map (λ (p : Object). done s (number_line (first_of (listed p)))) z) there ∙ ap (λ z. Some (done s (number_line z))) (first_number_is (listed o))

pub found_row : (s : ObjectState) (what : Sought) (name : List ℕ) (r : Option ℕ) → Finds s what name r → objects_done (sought_word what) (args.Name name ∷ sought_args what) s ≡ Some (s, Line (number_line r))
found_row s what name r f = row_is what name s f.object f.there ∙ ap (λ z. Some (s, Line (number_line z))) (sym f.number)

-- ---- an item that was found, in the rows that name an item
pub of_some : (asked : Kinds) (v : Option Object) (o : Object) → option_and_then (of_kinds asked) v ≡ Some o → (v ≡ Some o) × (is_of asked o.kind ≡ true)
of_some asked None o e = absurd (none_some o e)
of_some asked (Some p) o e = elim (is_of asked p.kind) as (λ b. is_of asked p.kind ≡ b → cond b (Some p) None ≡ Some o → (Some p ≡ Some o) × (is_of asked o.kind ≡ true)) [
  | true ↦ λ t h. (h, ap (λ (q : Object). is_of asked q.kind) (sym (some_same p o h)) ∙ t)
  | false ↦ λ t h. absurd (none_some o h)
] refl e

module _ (s : ObjectState) (what : Sought) (name : List ℕ) (r : Option ℕ) (f : Finds s what name r) (c : Cell) (sought : sought_cell what f.object ≡ Some c) (wide : Kinds) (kind : is_of wide f.object.kind ≡ true) where
  object_is : object_of s wide name ≡ Some f.object
  object_is =
      ap (λ v. option_and_then (of_kinds wide) v) (of_some (sought_kinds what) (object_at s name) f.object f.there).0
      ∙ cond_true (is_of wide f.object.kind) (Some f.object) None kind

  holder_is : holder_of s wide c.0 ≡ Some (name, f.object)
  holder_is =
      ap (λ h. option_and_then (λ x. option_map (λ (o : Object). (x, o)) (object_of s wide x)) h) (f.held c sought).1
      ∙ ap (λ o. option_map (λ (p : Object). (name, p)) o) object_is

  pub found_holds : holds_cell s wide c.0 ≡ true
  found_holds = ap (λ h. is_some h) holder_is

  pub found_cell : (g : List ℕ → Object → List ℤ → Outcome ObjectState) → on_cell s wide c.0 g ≡ Some (g name f.object c.1)
  found_cell g =
      ap (λ h. option_and_then (λ (u : List ℕ × Object). option_map (g u.0 u.1) (value_at c.0 u.1.cells)) h) holder_is
      ∙ ap (λ v. option_map (g name f.object) v) (f.held c sought).0

-- the kind of the object
pub found_kind : (s : ObjectState) (what : Sought) (name : List ℕ) (r : Option ℕ) (f : Finds s what name r) → is_of (sought_kinds what) f.object.kind ≡ true
found_kind s what name r f = (of_some (sought_kinds what) (object_at s name) f.object f.there).1

-- the item of a number, and none
pub found_some : (s : ObjectState) (what : Sought) (name : List ℕ) (i : ℕ) (f : Finds s what name (Some i)) → (c : Cell) × (sought_cell what f.object ≡ Some c) × (c.0 ≡ i)
found_some s what name i f = elim (sought_cell what f.object) as (λ v. sought_cell what f.object ≡ v → Some i ≡ number_of v → (c : Cell) × (sought_cell what f.object ≡ Some c) × (c.0 ≡ i)) [
  | None ↦ λ e h. absurd (none_some i (sym h))
  | Some c ↦ λ e h. (c, e, sym (some_same i c.0 h))
] refl f.number

pub found_none : (s : ObjectState) (what : Sought) (name : List ℕ) (f : Finds s what name None) → sought_cell what f.object ≡ None
found_none s what name f = elim (sought_cell what f.object) as (λ v. None ≡ number_of v → v ≡ None) [
  | None ↦ λ h. refl
  | Some c ↦ λ h. absurd (none_some c.0 h)
] f.number
