-- The object of an item, as the pool says and as the objects say.
use Rattle.std.proofs.Common.{◌≡◌, ℕ, Bool, true, false, cond, List, [], ◌∷◌, map, Some, None, is_some, refl, sym, ap, ◌∙◌, inl, inr}
use Rattle.std.specs.Prelude.{ℤ, ◌==◌, ◌||◌, find, option_map, slice_get}
use Rattle.std.specs.List.{list_any}
use Rattle.std.specs.Option.{option_map_or}
use Rattle.std.specs.FinMap as finmap
use Rattle.std.proofs.lemmas.Bool.Decides.{eqb_tells}
use Rattle.item_pool.specs.Contents.{Contents}
use Rattle.item_ring.specs.RingLists.{IsDistinct}
use Rattle.item_list.specs.Items.{serials, value_at}
use Rattle.object_store.specs.declared.objects.Place.{Place}
use Rattle.object_store.specs.declared.slots.Named.{Named}
use Rattle.object_store.specs.State.{Cell, Object, ObjectState}
use Rattle.object_store.specs.Views.{has_cell, is_in, holder, is_live, object_at}
use Rattle.object_store.specs.Inner.{Inner, inner, cell_in, cells_in, seen}
use Rattle.object_store.specs.Slots.{same_name, found}
use Rattle.object_store.specs.Kept.{Places, state_of, IsSaid, IsKept}
use Rattle.object_store.proofs.Names.{name_is}
use Rattle.object_store.proofs.Pairs.{Agrees, value_of, value_first, value_later, number_of, number_not}
use Rattle.object_store.proofs.Found.{get_objects, get_found, found_place}

some_same : {A : Type 0} (a b : A) → Some a ≡ Some b → a ≡ b
some_same a b e = cc

none_some : {A : Type 0} (a : A) → None ≡ Some a → ⊥
none_some a e = cc

-- ---- one object
-- where the item i has the serial s, and no other item has either
pub agree_all : (s i : ℕ) (ps : List Inner) → IsDistinct (serials ps) → ((t : ℕ) (c : Cell) → value_at t ps ≡ Some c → (c.0 == i) ≡ (t == s)) → Agrees cell_in s i ps
agree_all s i [] apart each = tt
agree_all s i (p ∷ ps) apart each = (each p.0 p.1 (value_first p ps), agree_all s i ps apart.1 (λ t c e. each t c (value_later t p ps c apart e)))

-- an item of the object has a serial
pub has_serial : (i : ℕ) (ps : List Inner) (values : List ℤ) → IsDistinct (serials ps) → value_at i (map cell_in ps) ≡ Some values → (t : ℕ) × (c : Cell) × (value_at t ps ≡ Some c) × (c.0 ≡ i)
has_serial i [] values apart e = absurd (none_some values e)
has_serial i (p ∷ ps) values apart e = elim (eqb_tells p.1.0 i) [
  | inl h ↦ (p.0, p.1, value_first p ps, h.1)
  | inr h ↦
      let w = has_serial i ps values apart.1 (sym (ap (λ b. cond b (Some p.1.1) (value_at i (map cell_in ps))) h.0) ∙ e) in
      (w.0, w.1, value_later w.0 p ps w.1 apart w.2, w.3)
]

-- ---- searches among names
pub find_alone : (test : List ℕ → Bool) (x : List ℕ) (names : List (List ℕ)) → ((y : List ℕ) → test y ≡ true → y ≡ x) → test x ≡ true → list_any (same_name x) names ≡ true → find test names ≡ Some x
find_alone test x [] only here any = let no : false ≡ true = any in cc
find_alone test x (y ∷ names) only here any = elim (test y) as (λ b. test y ≡ b → cond b (Some y) (find test names) ≡ Some x) [
  | true ↦ λ e. ap Some (only y e)
  | false ↦ λ e. elim (same_name x y) as (λ b. same_name x y ≡ b → b || list_any (same_name x) names ≡ true → find test names ≡ Some x) [
    | true ↦ λ is h. let no : true ≡ false = sym here ∙ ap test (name_is x y is) ∙ e in cc
    | false ↦ λ is h. find_alone test x names only here h
  ] refl any
] refl

pub find_nobody : (test : List ℕ → Bool) (names : List (List ℕ)) → ((y : List ℕ) → test y ≡ false) → find test names ≡ None
find_nobody test [] none = refl
find_nobody test (y ∷ names) none = ap (λ b. cond b (Some y) (find test names)) (none y) ∙ find_nobody test names none

-- ---- all objects
module _ (ps : Places) (cells : Contents Place) (kept : IsKept ps cells) where
  abbrev state : ObjectState
  state = state_of ps cells

  -- the pool says one thing of an item
  said_once : (k l s t i : ℕ) → IsSaid cells k s i → IsSaid cells l t i → (k ≡ l) × (s ≡ t)
  said_once k l s t i a b =
      let is : a.0 ≡ b.0 = some_same a.0 b.0 (sym a.1 ∙ b.1) in
      (sym a.2 ∙ ap (λ (p : Place). p.slot) is ∙ b.2, sym a.3 ∙ ap (λ (p : Place). p.item.serial) is ∙ b.3)

  one_object : (k : ℕ) (n m : Named) → slice_get ps k ≡ Some (Some n) → slice_get ps k ≡ Some (Some m) → n ≡ m
  one_object k n m a b = let both : Some (Some n) ≡ Some (Some m) = sym a ∙ b in cc

  -- the object of a name
  pub object_there : (k : ℕ) (n : Named) → slice_get ps k ≡ Some (Some n) → object_at state n.name ≡ Some (seen n.object)
  object_there k n e = get_objects ps n.name ∙ get_found k n ps kept.apart e

  module _ (k s i : ℕ) (n : Named) (c : Cell) (at : slice_get ps k ≡ Some (Some n)) (has : value_at s (inner n.object) ≡ Some c) (is : c.0 ≡ i) where
    said : IsSaid cells k s i
    said = kept.said k s i (n, c, at, has, is)

    same_test : (t : ℕ) (d : Cell) → value_at t (inner n.object) ≡ Some d → (d.0 == i) ≡ (t == s)
    same_test t d e = elim (eqb_tells t s) [
      | inl h ↦
          let one : d ≡ c = some_same d c (sym e ∙ ap (λ z. value_at z (inner n.object)) h.1 ∙ has) in
          number_of d.0 i (ap (λ (z : Cell). z.0) one ∙ is) ∙ sym h.0
      | inr h ↦
          number_not d.0 i (λ same. h.1 (said_once k k t s i (kept.said k t i (n, d, at, e, same)) said).1) ∙ sym h.0
    ]

    -- in this object the serial s and the number i name one item
    pub agrees : Agrees cell_in s i (inner n.object)
    agrees = agree_all s i (inner n.object) (kept.sound k n at).distinct same_test

    pub value_there : value_at i (cells_in n.object) ≡ Some c.1
    value_there = value_of cell_in s i (λ (d : Cell). d.1) (λ p. refl) (inner n.object) agrees ∙ ap (λ o. option_map (λ (d : Cell). d.1) o) has

    here : is_in state i n.name ≡ true
    here = ap (λ o. option_map_or (has_cell i) o false) (object_there k n at) ∙ ap (λ o. is_some o) value_there

    -- no other object has the item
    only : (y : List ℕ) → is_in state i y ≡ true → y ≡ n.name
    only y e = elim (found y ps) as (λ o. found y ps ≡ o → option_map_or (has_cell i) o false ≡ true → y ≡ n.name) [
      | None ↦ λ f h. let no : false ≡ true = h in cc
      | Some o ↦ λ f h.
          let w = found_place y ps o f in
          let has_it : has_cell i (seen w.1.object) ≡ true = ap (has_cell i) w.4 ∙ h in
          elim (value_at i (cells_in w.1.object)) as (λ v. value_at i (cells_in w.1.object) ≡ v → is_some v ≡ true → y ≡ n.name) [
            | None ↦ λ g no. let not : false ≡ true = no in cc
            | Some values ↦ λ g yes.
                let t = has_serial i (inner w.1.object) values (kept.sound w.0 w.1 w.2).distinct g in
                let place = said_once w.0 k t.0 s i (kept.said w.0 t.0 i (w.1, t.1, w.2, t.2, t.3)) said in
                sym w.3 ∙ ap (λ (m : Named). m.name) (one_object k w.1 n (ap (λ z. slice_get ps z) (sym place.0) ∙ w.2) at)
          ] refl has_it
    ] refl (ap (λ o. option_map_or (has_cell i) o false) (sym (get_objects ps y)) ∙ e)

    pub holder_there : holder state i ≡ Some n.name
    holder_there = find_alone (is_in state i) n.name (finmap.keys state.objects) only here
        (sym (finmap.contains_key-keys state.objects n.name) ∙ ap (λ o. is_some o) (object_there k n at))

  -- where the pool has no such item, no object has it
  pub nobody_holds : (i : ℕ) → finmap.get cells.live i ≡ None → holder state i ≡ None
  nobody_holds i none = find_nobody (is_in state i) (finmap.keys state.objects) (λ y.
      ap (λ o. option_map_or (has_cell i) o false) (get_objects ps y)
      ∙ elim (found y ps) as (λ o. found y ps ≡ o → option_map_or (has_cell i) o false ≡ false) [
        | None ↦ λ f. refl
        | Some o ↦ λ f.
            let w = found_place y ps o f in
            elim (value_at i o.cells) as (λ v. value_at i o.cells ≡ v → is_some v ≡ false) [
              | None ↦ λ g. refl
              | Some values ↦ λ g.
                  let t = has_serial i (inner w.1.object) values (kept.sound w.0 w.1 w.2).distinct (ap (λ (z : Object). value_at i z.cells) w.4 ∙ g) in
                  let p = kept.said w.0 t.0 i (w.1, t.1, w.2, t.2, t.3) in
                  absurd (none_some p.0 (sym none ∙ p.1))
            ] refl
      ] refl)

  -- the item is there exactly where the pool has it
  pub live_is : (i : ℕ) → is_live state i ≡ is_some (finmap.get cells.live i)
  live_is i = elim (finmap.get cells.live i) as (λ o. finmap.get cells.live i ≡ o → is_live state i ≡ is_some o) [
    | None ↦ λ e. ap (λ o. is_some o) (nobody_holds i e)
    | Some p ↦ λ e.
        let w = kept.there p.slot p.item.serial i (p, e, refl, refl) in
        ap (λ o. is_some o) (holder_there p.slot p.item.serial i w.0 w.1 w.2 w.3 w.4)
  ] refl
