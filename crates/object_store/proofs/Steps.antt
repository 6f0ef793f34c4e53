-- What a change of the object at one place leaves of the objects and of the pool.
use Rattle.std.proofs.Common.{◌≡◌, ℕ, ◌+◌, ◌<◌, ◌≤◌, ◌≢◌, cond, List, map, length, Some, None, refl, sym, ap, subst, ◌∙◌, ◌⊎◌, inl, inr, ⊎_elim, arith}
use Rattle.std.specs.Prelude.{◌==◌, slice_get, slice_set}
use Rattle.std.proofs.lemmas.Bool.{cases_eq}
use Rattle.std.specs.Cmp.{nat_cmp_total}
use Rattle.std.specs.FinMap as finmap
use Rattle.item_pool.specs.Contents.{Contents, Inserts, IsWithin}
use Rattle.item_pool.specs.declared.pool.Item.{Item}
use Rattle.item_dict.proofs.Maps.{get_here, get_there, inserted}
use Rattle.item_ring.specs.RingLists.{IsDistinct}
use Rattle.item_list.specs.Items.{serials, value_at}
use Rattle.object_store.specs.declared.entrance.Entrance.{Entrance}
use Rattle.object_store.specs.declared.object.Object.{Object as Held}
use Rattle.object_store.specs.declared.objects.Place.{Place}
use Rattle.object_store.specs.declared.slots.Named.{Named}
use Rattle.object_store.specs.State.{Cell}
use Rattle.object_store.specs.Commands.{with_cells}
use Rattle.object_store.specs.Inner.{Inner, inner, made_in, cell_in, seen}
use Rattle.object_store.specs.Slots.{objects_in, AreApart}
use Rattle.object_store.specs.Kept.{Places, state_of, IsSaid, IsSound, IsKept, Replaces}
use Rattle.object_store.specs.Entrance.{entered, IsNamedThere, Enters, IsLike}
use Rattle.object_store.proofs.Names.{total, tells}
use Rattle.object_store.proofs.Places.{at_within, at_else, at_set, from_set}
use Rattle.object_store.proofs.Found.{Alone, alone_there, apart_set, objects_with, get_objects, get_found}
use Rattle.object_store.proofs.Lists.{Splits, split_entered, value_in, distinct_in, cond_true, cond_false}
use Rattle.object_store.proofs.Pairs.{number_of, number_not, number_itself}

some_none : {A : Type 0} (a : A) → Some a ≡ None → ⊥
some_none a e = cc

some_same : {A : Type 0} (a b : A) → Some a ≡ Some b → a ≡ b
some_same a b e = cc

-- ---- a pool that says the same
pub kept_room : (ps : Places) (p q : Contents Place) → q.live ≡ p.live → q.made ≡ p.made → IsKept ps p → IsKept ps q
kept_room ps p q live made kept = record {
  apart = kept.apart;
  said = λ k s i h. let w = kept.said k s i h in (w.0, ap (λ m. finmap.get m i) live ∙ w.1, w.2, w.3);
  there = λ k s i h. kept.there k s i (h.0, ap (λ m. finmap.get m i) (sym live) ∙ h.1, h.2, h.3);
  sound = λ k n at. subst (λ (m : ℕ). IsSound m n) (sym made) (kept.sound k n at);
}

pub state_room : (ps : Places) (p q : Contents Place) → q.made ≡ p.made → state_of ps q ≡ state_of ps p
state_room ps p q made = ap (λ m. record { objects = objects_in ps; made = m }) made

-- ---- one object is another one
-- the same items with the same serials
pub record SameItems (o t : Held) : Type 0 where
  pub made : made_in t ≡ made_in o
  pub distinct : IsDistinct (serials (inner t))
  pub to : (s : ℕ) (c : Cell) → value_at s (inner o) ≡ Some c → (d : Cell) × (value_at s (inner t) ≡ Some d) × (d.0 ≡ c.0)
  pub from : (s : ℕ) (c : Cell) → value_at s (inner t) ≡ Some c → (d : Cell) × (value_at s (inner o) ≡ Some d) × (d.0 ≡ c.0)

module _ (ps qs : Places) (k : ℕ) (n m : Named) (at : slice_get ps k ≡ Some (Some n)) (set : qs ≡ slice_set ps k (Some m)) (name : m.name ≡ n.name) where
  within : k < length ps
  within = at_within k (Some n) ps at

  pub there_now : slice_get qs k ≡ Some (Some m)
  there_now = ap (λ xs. slice_get xs k) set ∙ at_set k (Some m) ps within

  pub else_now : (j : ℕ) → j ≢ k → slice_get qs j ≡ slice_get ps j
  else_now j ne = ap (λ xs. slice_get xs j) set ∙ at_else j k (Some m) ps ne

  pub one_old : (w : Named) → slice_get ps k ≡ Some (Some w) → w ≡ n
  one_old w e = let both : Some (Some w) ≡ Some (Some n) = sym e ∙ at in cc

  -- what stands at a place now
  pub stands_now : (j : ℕ) (w : Named) → slice_get qs j ≡ Some (Some w) → ((j ≡ k) × (w ≡ m)) ⊎ ((j ≢ k) × (slice_get ps j ≡ Some (Some w)))
  stands_now j w e = elim (from_set j k (Some m) (Some w) ps (ap (λ xs. slice_get xs j) (sym set) ∙ e)) [
    | inl h ↦ let is : w ≡ m = let some : Some w ≡ Some m = h.1 in cc in inl (h.0, is)
    | inr h ↦ inr h
  ]

  module _ (apart : AreApart ps) where
    pub apart_now : AreApart qs
    apart_now = subst AreApart (sym set) (apart_set n.name k (Some m) ps within apart (alone_there k n ps apart at) name)

    pub objects_now : objects_in qs ≡ finmap.insert (objects_in ps) n.name (seen m.object)
    objects_now =
        ap objects_in set
        ∙ objects_with k m ps within (subst (λ x. Alone x k ps) (sym name) (alone_there k n ps apart at))
        ∙ ap (λ x. finmap.insert (objects_in ps) x (seen m.object)) name

    -- the object is as it was, as contracts see it
    pub objects_like : seen m.object ≡ seen n.object → objects_in qs ≡ objects_in ps
    objects_like like =
        objects_now ∙ ap (λ o. finmap.insert (objects_in ps) n.name o) like
        ∙ sym (inserted total tells (objects_in ps) n.name (objects_in ps) (seen n.object) (get_objects ps n.name ∙ get_found k n ps apart at) (λ q ne. refl))

  module _ (cells : Contents Place) (kept : IsKept ps cells) where
    pub kept_same : SameItems n.object m.object → IsKept qs cells
    kept_same same = record {
      apart = apart_now kept.apart;
      said = λ j s i h. elim (stands_now j h.0 h.2) [
        | inl e ↦
            let w = same.from s h.1 (ap (λ (o : Named). value_at s (inner o.object)) (sym e.1) ∙ h.3) in
            subst (λ (l : ℕ). IsSaid cells l s i) (sym e.0) (kept.said k s i (n, w.0, at, w.1, w.2 ∙ h.4))
        | inr e ↦ kept.said j s i (h.0, h.1, e.1, h.3, h.4)
      ];
      there = λ j s i h.
          let w = kept.there j s i h in
          ⊎_elim
          (λ (e : j ≡ k).
          let old : w.0 ≡ n = one_old w.0 (ap (λ l. slice_get ps l) (sym e) ∙ w.2) in
          let v = same.to s w.1 (ap (λ (o : Named). value_at s (inner o.object)) (sym old) ∙ w.3) in
          (m, v.0, ap (λ l. slice_get qs l) e ∙ there_now, v.1, v.2 ∙ w.4))
          (λ (ne : j ≢ k). (w.0, w.1, else_now j ne ∙ w.2, w.3, w.4))
          (cases_eq j k);
      sound = λ j w e. elim (stands_now j w e) [
        | inl h ↦
            let old = kept.sound k n at in
            subst (IsSound cells.made) (sym h.1) (record {
              few = subst (λ (x : ℕ). x ≤ cells.made) (sym same.made) old.few;
              distinct = same.distinct;
              given = λ s c v. let u = same.from s c v in subst (λ (x : ℕ). s ≤ x) (sym same.made) (old.given s u.0 u.1);
              rising = λ s t c d v u lt.
                  let a = same.from s c v in
                  let b = same.from t d u in
                  let r : a.0.0 < b.0.0 = old.rising s t a.0 b.0 a.1 b.1 lt in
                  omega (arith, r, a.2, b.2);
            })
        | inr h ↦ kept.sound j w h.1
      ];
    }

-- an object that is like another one has its items
pub like_items : (o t : Held) → IsDistinct (serials (inner o)) → IsLike o t → SameItems o t
like_items o t apart like = record {
  made = like.made;
  distinct = subst (λ (xs : List Inner). IsDistinct (serials xs)) (sym like.inner) apart;
  to = λ s c e. (c, ap (value_at s) like.inner ∙ e, refl);
  from = λ s c e. (c, ap (value_at s) (sym like.inner) ∙ e, refl);
}

pub like_seen : (o t : Held) → IsLike o t → seen t ≡ seen o
like_seen o t like = λ i. record { kind = like.kind i; cells = map cell_in (like.inner i); values = like.values i }

module _ (ps qs : Places) (k : ℕ) (cells : Contents Place) (kept : IsKept ps cells) (r : Replaces ps qs k IsLike) where
  pub kept_like : IsKept qs cells
  kept_like = kept_same ps qs k r.old r.new r.was r.is r.name cells kept (like_items r.old.object r.new.object (kept.sound k r.old r.was).distinct r.changed)

  pub state_like : state_of qs cells ≡ state_of ps cells
  state_like = ap (λ o. record { objects = o; made = cells.made }) (objects_like ps qs k r.old r.new r.was r.is r.name kept.apart (like_seen r.old.object r.new.object r.changed))

-- ---- an item comes in
module _ (ps qs : Places) (k : ℕ) (cells more : Contents Place) (kept : IsKept ps cells) (range : IsWithin cells)
    (entrance : Entrance) (it : Item) (at_pool : Item) (c : Cell) (place : Place)
    (r : Replaces ps qs k (λ o t. Enters entrance o t it.serial c)) (fits : IsNamedThere entrance (inner r.old.object))
    (pool : Inserts cells more at_pool place) (slot : place.slot ≡ k) (item : place.item.serial ≡ it.serial) (number : c.0 ≡ cells.made + 1) where
  abbrev next : ℕ
  next = made_in r.old.object + 1

  old_sound : IsSound cells.made r.old
  old_sound = kept.sound k r.old r.was

  absent : value_at next (inner r.old.object) ≡ None
  absent = elim (value_at next (inner r.old.object)) as (λ v. value_at next (inner r.old.object) ≡ v → v ≡ None) [
    | None ↦ λ e. refl
    | Some d ↦ λ e. let le : next ≤ made_in r.old.object = old_sound.given next d e in absurd (omega (arith, le))
  ] refl

  cut : Splits (inner r.old.object) (inner r.new.object) (next, c)
  cut = subst (λ (xs : List Inner). Splits (inner r.old.object) xs (next, c)) (sym r.changed.inner) (split_entered entrance (next, c) (inner r.old.object) fits)

  value_now : (t : ℕ) → value_at t (inner r.new.object) ≡ cond (next == t) (Some c) (value_at t (inner r.old.object))
  value_now t = value_in (inner r.old.object) (inner r.new.object) (next, c) cut absent t

  new_value : value_at next (inner r.new.object) ≡ Some c
  new_value = value_now next ∙ cond_true (next == next) (Some c) (value_at next (inner r.old.object)) (number_itself next)

  old_value : (t : ℕ) (d : Cell) → value_at t (inner r.old.object) ≡ Some d → value_at t (inner r.new.object) ≡ Some d
  old_value t d e =
      let le : t ≤ made_in r.old.object = old_sound.given t d e in
      let ne : next ≢ t = λ is. absurd (omega (arith, le, is)) in
      value_now t ∙ cond_false (next == t) (Some c) (value_at t (inner r.old.object)) (number_not next t ne) ∙ e

  value_cases : (t : ℕ) (d : Cell) → value_at t (inner r.new.object) ≡ Some d → ((t ≡ next) × (d ≡ c)) ⊎ (value_at t (inner r.old.object) ≡ Some d)
  value_cases t d e = ⊎_elim
      (λ (is : next ≡ t). inl (sym is, some_same d c (sym e ∙ value_now t ∙ cond_true (next == t) (Some c) (value_at t (inner r.old.object)) (number_of next t is))))
      (λ (ne : next ≢ t). inr (sym (cond_false (next == t) (Some c) (value_at t (inner r.old.object)) (number_not next t ne)) ∙ sym (value_now t) ∙ e))
      (cases_eq next t)

  new_place : finmap.get more.live (cells.made + 1) ≡ Some place
  new_place = ap (λ p. finmap.get p (cells.made + 1)) pool.live ∙ get_here nat_cmp_total finmap.nat_cmp-IsAntisymmetric cells.live (cells.made + 1) place

  old_place : (i : ℕ) (p : Place) → finmap.get cells.live i ≡ Some p → finmap.get more.live i ≡ Some p
  old_place i p e =
      let le : i ≤ cells.made = (range.0 i p e).1 in
      let ne : i ≢ cells.made + 1 = λ is. absurd (omega (arith, le, is)) in
      ap (λ q. finmap.get q i) pool.live ∙ get_there nat_cmp_total finmap.nat_cmp-IsAntisymmetric cells.live (cells.made + 1) place i ne ∙ e

  place_cases : (i : ℕ) (p : Place) → finmap.get more.live i ≡ Some p → ((i ≡ cells.made + 1) × (p ≡ place)) ⊎ (finmap.get cells.live i ≡ Some p)
  place_cases i p e = ⊎_elim
      (λ (is : i ≡ cells.made + 1). inl (is, some_same p place (sym e ∙ ap (λ j. finmap.get more.live j) is ∙ new_place)))
      (λ (ne : i ≢ cells.made + 1). inr (sym (get_there nat_cmp_total finmap.nat_cmp-IsAntisymmetric cells.live (cells.made + 1) place i ne) ∙ ap (λ q. finmap.get q i) (sym pool.live) ∙ e))
      (cases_eq i (cells.made + 1))

  still_said : (j s i : ℕ) → IsSaid cells j s i → IsSaid more j s i
  still_said j s i h = (h.0, old_place i h.0 h.1, h.2, h.3)

  new_sound : IsSound more.made r.new
  new_sound = record {
    few = let le : made_in r.old.object ≤ cells.made = old_sound.few in let a = r.changed.made in let b = pool.made in omega (arith, le, a, b);
    distinct = distinct_in (inner r.old.object) (inner r.new.object) (next, c) cut absent old_sound.distinct;
    given = λ s d e. elim (value_cases s d e) [
      | inl h ↦ let a = r.changed.made in let b = h.0 in omega (arith, a, b)
      | inr h ↦ let le : s ≤ made_in r.old.object = old_sound.given s d h in let a = r.changed.made in omega (arith, le, a)
    ];
    rising = λ s t d f e g lt. elim (value_cases s d e) [
      | inl h ↦ elim (value_cases t f g) [
        | inl l ↦ let a = h.0 in let b = l.0 in absurd (omega (arith, a, b, lt))
        | inr l ↦ let a = h.0 in let le : t ≤ made_in r.old.object = old_sound.given t f l in absurd (omega (arith, a, le, lt))
      ]
      | inr h ↦ elim (value_cases t f g) [
        | inl l ↦
            let p = kept.said k s d.0 (r.old, d, r.was, h, refl) in
            let le : d.0 ≤ cells.made = (range.0 d.0 p.0 p.1).1 in
            let a : f.0 ≡ c.0 = ap (λ (x : Cell). x.0) l.1 in
            omega (arith, le, a, number)
        | inr l ↦ old_sound.rising s t d f h l lt
      ]
    ];
  }

  pub kept_enters : IsKept qs more
  kept_enters = record {
    apart = apart_now ps qs k r.old r.new r.was r.is r.name kept.apart;
    said = λ j s i h. elim (stands_now ps qs k r.old r.new r.was r.is r.name j h.0 h.2) [
      | inl e ↦ elim (value_cases s h.1 (ap (λ (o : Named). value_at s (inner o.object)) (sym e.1) ∙ h.3)) [
        | inl v ↦
            let is : cells.made + 1 ≡ i = sym number ∙ ap (λ (x : Cell). x.0) (sym v.1) ∙ h.4 in
            (place, ap (λ l. finmap.get more.live l) (sym is) ∙ new_place, slot ∙ sym e.0, item ∙ r.changed.serial ∙ sym v.0)
        | inr v ↦ still_said j s i (subst (λ (l : ℕ). IsSaid cells l s i) (sym e.0) (kept.said k s i (r.old, h.1, r.was, v, h.4)))
      ]
      | inr e ↦ still_said j s i (kept.said j s i (h.0, h.1, e.1, h.3, h.4))
    ];
    there = λ j s i h. elim (place_cases i h.0 h.1) [
      | inl e ↦
          let at_k : j ≡ k = sym h.2 ∙ ap (λ (p : Place). p.slot) e.1 ∙ slot in
          let serial : next ≡ s = sym (item ∙ r.changed.serial) ∙ ap (λ (p : Place). p.item.serial) (sym e.1) ∙ h.3 in
          (r.new, c, ap (λ l. slice_get qs l) at_k ∙ there_now ps qs k r.old r.new r.was r.is r.name, ap (λ t. value_at t (inner r.new.object)) (sym serial) ∙ new_value, number ∙ sym e.0)
      | inr e ↦
          let w = kept.there j s i (h.0, e, h.2, h.3) in
          ⊎_elim
          (λ (is : j ≡ k).
          let old : w.0 ≡ r.old = one_old ps qs k r.old r.new r.was r.is r.name w.0 (ap (λ l. slice_get ps l) (sym is) ∙ w.2) in
          (r.new, w.1, ap (λ l. slice_get qs l) is ∙ there_now ps qs k r.old r.new r.was r.is r.name, old_value s w.1 (ap (λ (o : Named). value_at s (inner o.object)) (sym old) ∙ w.3), w.4))
          (λ (ne : j ≢ k). (w.0, w.1, else_now ps qs k r.old r.new r.was r.is r.name j ne ∙ w.2, w.3, w.4))
          (cases_eq j k)
    ];
    sound = λ j w e. elim (stands_now ps qs k r.old r.new r.was r.is r.name j w e) [
      | inl h ↦ subst (IsSound more.made) (sym h.1) new_sound
      | inr h ↦
          let old = kept.sound j w h.1 in
          record {
            few = let le : made_in w.object ≤ cells.made = old.few in let b = pool.made in omega (arith, le, b);
            distinct = old.distinct;
            given = old.given;
            rising = old.rising;
          }
    ];
  }

  pub state_enters : state_of qs more ≡ record (with_cells r.old.name (seen r.old.object) (map cell_in (entered entrance (next, c) (inner r.old.object))) (state_of ps cells)) { made = cells.made + 1 }
  state_enters =
      (λ i. record { objects = objects_now ps qs k r.old r.new r.was r.is r.name kept.apart i; made = pool.made i })
      ∙ (λ i. record { objects = finmap.insert (objects_in ps) r.old.name (record { kind = r.changed.kind i; cells = map cell_in (r.changed.inner i); values = r.changed.values i }); made = cells.made + 1 })
