-- An item goes out of the object at a place, and out of the pool.
use Rattle.std.proofs.Common.{◌≡◌, ℕ, ◌+◌, ◌<◌, ◌≤◌, ◌≢◌, cond, List, map, Some, None, refl, sym, ap, subst, ◌∙◌, inl, inr, ⊎_elim, arith}
use Rattle.std.specs.Prelude.{◌==◌, slice_get}
use Rattle.std.proofs.lemmas.Bool.{cases_eq}
use Rattle.std.specs.Ordering.{nat_cmp}
use Rattle.std.specs.Cmp.{nat_cmp_total}
use Rattle.std.specs.FinMap as finmap
use Rattle.item_pool.specs.Contents.{Contents}
use Rattle.item_dict.proofs.Maps.{gone_here, gone_there, inserted, len_more}
use Rattle.item_ring.specs.RingLists.{IsDistinct}
use Rattle.item_list.specs.Items.{serials, value_at, pairs_without}
use Rattle.object_store.specs.declared.objects.Place.{Place}
use Rattle.object_store.specs.declared.slots.Named.{Named}
use Rattle.object_store.specs.State.{Cell}
use Rattle.object_store.specs.Commands.{with_cells}
use Rattle.object_store.specs.Inner.{Inner, inner, made_in, kind_of, cell_in, cells_in, seen, values_in}
use Rattle.object_store.specs.Slots.{objects_in}
use Rattle.object_store.specs.Kept.{Places, state_of, IsAt, IsSaid, IsSound, IsKept, Replaces}
use Rattle.object_store.specs.Entrance.{Leaves}
use Rattle.object_store.proofs.Goes.{value_without, distinct_without}
use Rattle.object_store.proofs.Holders.{agrees}
use Rattle.object_store.proofs.Lists.{cond_true, cond_false}
use Rattle.object_store.proofs.Pairs.{without_of, number_of, number_not}
use Rattle.object_store.proofs.Steps.{apart_now, objects_now, stands_now, there_now, else_now, one_old}

some_same : {A : Type 0} (a b : A) → Some a ≡ Some b → a ≡ b
some_same a b e = cc

none_some : {A : Type 0} (a : A) → None ≡ Some a → ⊥
none_some a e = cc

module _ (ps qs : Places) (cells less : Contents Place) (kept : IsKept ps cells) (i : ℕ) (place : Place) (here : finmap.get cells.live i ≡ Some place)
    (r : Replaces ps qs place.slot (Leaves place.item.serial)) (live : less.live ≡ finmap.remove cells.live i) (made : less.made ≡ cells.made) where
  old_sound : IsSound cells.made r.old
  old_sound = kept.sound place.slot r.old r.was

  -- what is left of the items of the object
  value_left : (t : ℕ) → value_at t (inner r.new.object) ≡ cond (place.item.serial == t) None (value_at t (inner r.old.object))
  value_left t = ap (value_at t) r.changed.inner ∙ value_without place.item.serial t (inner r.old.object)

  value_kept : (t : ℕ) (d : Cell) → place.item.serial ≢ t → value_at t (inner r.old.object) ≡ Some d → value_at t (inner r.new.object) ≡ Some d
  value_kept t d ne e = value_left t ∙ cond_false (place.item.serial == t) None (value_at t (inner r.old.object)) (number_not place.item.serial t ne) ∙ e

  value_was : (t : ℕ) (d : Cell) → value_at t (inner r.new.object) ≡ Some d → (place.item.serial ≢ t) × (value_at t (inner r.old.object) ≡ Some d)
  value_was t d e = ⊎_elim
      (λ (is : place.item.serial ≡ t). absurd (none_some d (sym (cond_true (place.item.serial == t) None (value_at t (inner r.old.object)) (number_of place.item.serial t is)) ∙ sym (value_left t) ∙ e)))
      (λ (ne : place.item.serial ≢ t). (ne, sym (cond_false (place.item.serial == t) None (value_at t (inner r.old.object)) (number_not place.item.serial t ne)) ∙ sym (value_left t) ∙ e))
      (cases_eq place.item.serial t)

  -- what is left in the pool
  place_kept : (j : ℕ) (p : Place) → j ≢ i → finmap.get cells.live j ≡ Some p → finmap.get less.live j ≡ Some p
  place_kept j p ne e = ap (λ m. finmap.get m j) live ∙ gone_there nat_cmp_total finmap.nat_cmp-IsAntisymmetric cells.live i j ne ∙ e

  place_was : (j : ℕ) (p : Place) → finmap.get less.live j ≡ Some p → (j ≢ i) × (finmap.get cells.live j ≡ Some p)
  place_was j p e = ⊎_elim
      (λ (is : j ≡ i). absurd (none_some p (sym (gone_here nat_cmp_total finmap.nat_cmp-IsAntisymmetric cells.live i) ∙ ap (λ k. finmap.get (finmap.remove cells.live i) k) (sym is) ∙ ap (λ m. finmap.get m j) (sym live) ∙ e)))
      (λ (ne : j ≢ i). (ne, sym (gone_there nat_cmp_total finmap.nat_cmp-IsAntisymmetric cells.live i j ne) ∙ ap (λ m. finmap.get m j) (sym live) ∙ e))
      (cases_eq j i)

  still_said : (k t j : ℕ) → j ≢ i → IsSaid cells k t j → IsSaid less k t j
  still_said k t j ne h = (h.0, place_kept j h.0 ne h.1, h.2, h.3)

  -- whatever the pool says of the number, it says of the place
  same_place : (k t j : ℕ) → IsSaid cells k t j → j ≡ i → (k ≡ place.slot) × (t ≡ place.item.serial)
  same_place k t j h is =
      let one : h.0 ≡ place = some_same h.0 place (sym h.1 ∙ ap (λ l. finmap.get cells.live l) is ∙ here) in
      (sym h.2 ∙ ap (λ (p : Place). p.slot) one, sym h.3 ∙ ap (λ (p : Place). p.item.serial) one)

  here_at : IsAt ps place.slot place.item.serial i
  here_at = kept.there place.slot place.item.serial i (place, here, refl, refl)

  old_here : here_at.0 ≡ r.old
  old_here = one_old ps qs place.slot r.old r.new r.was r.is r.name here_at.0 here_at.2

  value_here : value_at place.item.serial (inner r.old.object) ≡ Some here_at.1
  value_here = ap (λ (o : Named). value_at place.item.serial (inner o.object)) (sym old_here) ∙ here_at.3

  pub kept_leaves : IsKept qs less
  kept_leaves = record {
    apart = apart_now ps qs place.slot r.old r.new r.was r.is r.name kept.apart;
    said = λ k t j h. elim (stands_now ps qs place.slot r.old r.new r.was r.is r.name k h.0 h.2) [
      | inl e ↦
          let v = value_was t h.1 (ap (λ (o : Named). value_at t (inner o.object)) (sym e.1) ∙ h.3) in
          let old = kept.said place.slot t j (r.old, h.1, r.was, v.1, h.4) in
          let ne : j ≢ i = λ is. v.0 (sym (same_place place.slot t j old is).1) in
          still_said k t j ne (subst (λ (l : ℕ). IsSaid cells l t j) (sym e.0) old)
      | inr e ↦
          let old = kept.said k t j (h.0, h.1, e.1, h.3, h.4) in
          still_said k t j (λ is. e.0 (same_place k t j old is).0) old
    ];
    there = λ k t j h.
        let p = place_was j h.0 h.1 in
        let w = kept.there k t j (h.0, p.1, h.2, h.3) in
        ⊎_elim
        (λ (is : k ≡ place.slot).
        let old : w.0 ≡ r.old = one_old ps qs place.slot r.old r.new r.was r.is r.name w.0 (ap (λ l. slice_get ps l) (sym is) ∙ w.2) in
        let was : value_at t (inner r.old.object) ≡ Some w.1 = ap (λ (o : Named). value_at t (inner o.object)) (sym old) ∙ w.3 in
        let ne : place.item.serial ≢ t = λ same. p.0 (
        let one : w.1 ≡ here_at.1 = some_same w.1 here_at.1 (sym was ∙ ap (λ u. value_at u (inner r.old.object)) (sym same) ∙ value_here) in
        sym w.4 ∙ ap (λ (c : Cell). c.0) one ∙ here_at.4) in
        (r.new, w.1, ap (λ l. slice_get qs l) is ∙ there_now ps qs place.slot r.old r.new r.was r.is r.name, value_kept t w.1 ne was, w.4))
        (λ (ne : k ≢ place.slot). (w.0, w.1, else_now ps qs place.slot r.old r.new r.was r.is r.name k ne ∙ w.2, w.3, w.4))
        (cases_eq k place.slot);
    sound = λ k w e. elim (stands_now ps qs place.slot r.old r.new r.was r.is r.name k w e) [
      | inl h ↦ subst (IsSound less.made) (sym h.1) (record {
        few = let le : made_in r.old.object ≤ cells.made = old_sound.few in let a = r.changed.made in omega (arith, le, a, made);
        distinct = subst (λ (xs : List Inner). IsDistinct (serials xs)) (sym r.changed.inner) (distinct_without place.item.serial (inner r.old.object) old_sound.distinct);
        given = λ t d v. let le : t ≤ made_in r.old.object = old_sound.given t d (value_was t d v).1 in let a = r.changed.made in omega (arith, le, a);
        rising = λ t u d f v x lt. old_sound.rising t u d f (value_was t d v).1 (value_was u f x).1 lt;
      })
      | inr h ↦ subst (λ (z : ℕ). IsSound z w) (sym made) (kept.sound k w h.1)
    ];
  }

  -- the object has the items without that of the number
  pub state_leaves : state_of qs less ≡ with_cells r.old.name (seen r.old.object) (pairs_without i (cells_in r.old.object)) (state_of ps cells)
  state_leaves =
      (λ j. record { objects = objects_now ps qs place.slot r.old r.new r.was r.is r.name kept.apart j; made = made j })
      ∙ (λ j. record { objects = finmap.insert (objects_in ps) r.old.name (record { kind = r.changed.kind j; cells = map cell_in (r.changed.inner j); values = r.changed.values j }); made = cells.made })
      ∙ ap (λ cs. record { objects = finmap.insert (objects_in ps) r.old.name (record { kind = kind_of r.old.object; cells = cs; values = values_in r.old.object }); made = cells.made })
      (without_of cell_in place.item.serial i (inner r.old.object) (agrees ps cells kept place.slot place.item.serial i r.old here_at.1 r.was value_here here_at.4))

-- the pool has one item less
pub fewer : (m n : finmap.FinMap nat_cmp Place) (i : ℕ) (p : Place) → finmap.get m i ≡ Some p → n ≡ finmap.remove m i → finmap.len n < finmap.len m
fewer m n i p has is =
    let less = finmap.remove m i in
    let here : finmap.get less i ≡ None = gone_here nat_cmp_total finmap.nat_cmp-IsAntisymmetric m i in
    let whole : m ≡ finmap.insert less i p = inserted nat_cmp_total finmap.nat_cmp-IsAntisymmetric less i m p has (λ q ne. sym (gone_there nat_cmp_total finmap.nat_cmp-IsAntisymmetric m i q ne)) in
    let l : finmap.len m ≡ finmap.len less + 1 = ap (λ (o : finmap.FinMap nat_cmp Place). finmap.len o) whole ∙ len_more nat_cmp_total finmap.nat_cmp-IsAntisymmetric less i p here in
    let k : finmap.len n ≡ finmap.len less = ap (λ (o : finmap.FinMap nat_cmp Place). finmap.len o) is in
    omega (arith, l, k)
