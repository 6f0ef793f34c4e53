-- An item goes out of its container.
use Rattle.std.proofs.Common.{◌≡◌, ℕ, ◌≢◌, Bool, true, false, cond, List, [], ◌∷◌, map, Some, None, refl, sym, ap, subst, ◌∙◌, inl, inr, ⊎_elim}
use Rattle.std.specs.Prelude.{ℤ, ◌==◌, ◌&&◌, ⊤, T, option_map}
use Rattle.std.proofs.lemmas.Bool.{cases_eq}
use Rattle.std.proofs.lemmas.Bool.Decides.{eqb_tells}
use Rattle.std.specs.declared.cmp.Ordering.TheVariants.{Less, Equal, Greater}
use Rattle.std.specs.Ordering.{nat_cmp, int_cmp, is_lt, is_eq, eq_by_cmp}
use Rattle.std.specs.Cmp.{nat_cmp_total, int_cmp_total, tied_itself}
use Rattle.std.specs.FinMap as finmap
use Rattle.std.specs.FinMap.Entries.{find, is_sorted, below_all}
use Rattle.item_dict.proofs.Maps.{untied, same_or_not}
use Rattle.item_list.specs.Items.{Items, value_at, Removes as ListRemoves}
use Rattle.item_dict.specs.Contents.{Contents as DictOf, HasNo, Removes as DictRemoves}
use Rattle.item_queue.specs.Contents.{Queued, Removes as QueueRemoves}
use Rattle.object_store.specs.declared.object.Entry.{Entry}
use Rattle.object_store.specs.declared.object.Object.{Object as Held}
use Rattle.object_store.specs.declared.object.Object.TheVariants as held
use Rattle.object_store.specs.State.{Cell}
use Rattle.object_store.specs.Inner.{inner, list_cell, dict_cell, queue_cell}
use Rattle.object_store.specs.Entrance.{HasIt, Leaves}
use Rattle.object_store.proofs.Goes.{AllTests, filter_without, entries_remove}
use Rattle.object_store.proofs.Lists.{cond_true, cond_false}
use Rattle.object_store.proofs.Pairs.{keeps, without_of, number_of, number_not}
use Rattle.object_store.proofs.Rows.{pair_there}

some_none : {A : Type 0} (a : A) → Some a ≡ None → ⊥
some_none a e = cc

none_some : {A : Type 0} (a : A) → None ≡ Some a → ⊥
none_some a e = cc

-- ---- lists
pub list_has : (s : ℕ) (o : Held) (l : Items Entry) → o ≡ held.List l → HasIt s o → value_at s l.pairs ≡ None → ⊥
list_has s o l is h none =
    let x = pair_there s l.pairs h.0 (ap (λ (p : Held). value_at s (inner p)) (sym is) ∙ h.1) in
    some_none x.0 (sym x.1 ∙ none)

pub list_leaves : (s : ℕ) (o : Held) (l t : Items Entry) (x : Entry) → o ≡ held.List l → ListRemoves l t s x → Leaves s o (held.List t)
list_leaves s o l t x is h = subst (λ (p : Held). Leaves s p (held.List t)) (sym is) (record {
  kind = refl;
  values = refl;
  made = ap (λ (u : Items Entry). u.made) h.1;
  inner = ap (λ (u : Items Entry). map list_cell u.pairs) h.1 ∙ without_of list_cell s s l.pairs (keeps list_cell (λ p. refl) s l.pairs);
})

-- ---- queues
same_key : (s t : ℕ) → (t == s) ≡ eq_by_cmp nat_cmp s t
same_key s t = ⊎_elim
    (λ (e : t ≡ s). number_of t s e ∙ sym (ap (λ z. eq_by_cmp nat_cmp s z) e ∙ ap is_eq (tied_itself nat_cmp_total s)))
    (λ (ne : t ≢ s). number_not t s ne ∙ sym (untied nat_cmp_total finmap.nat_cmp-IsAntisymmetric s t (λ e. ne (sym e))))
    (cases_eq t s)

abbrev pub queue_holds : ℤ × Entry → Cell
queue_holds v = (v.1.number, v.0 ∷ v.1.value ∷ [])

queue_find : (s : ℕ) (es : List (ℕ × (ℤ × Entry))) → value_at s (map queue_cell es) ≡ option_map queue_holds (find nat_cmp s es)
queue_find s [] = refl
queue_find s (e ∷ es) =
    (λ i. cond (same_key s e.0 i) (Some (queue_holds e.1)) (queue_find s es i))
    ∙ elim (eq_by_cmp nat_cmp s e.0) as (λ b. cond b (Some (queue_holds e.1)) (option_map queue_holds (find nat_cmp s es)) ≡ option_map queue_holds (cond b (Some e.1) (find nat_cmp s es))) [ true ↦ refl | false ↦ refl ]

pub queue_value : (s : ℕ) (q : Queued Entry) → value_at s (inner (held.Queue q)) ≡ option_map queue_holds (finmap.get q.live s)
queue_value s q = queue_find s (finmap.entries q.live) ∙ ap (λ o. option_map queue_holds o) (sym (finmap.get-entries q.live s))

pub queue_has : (s : ℕ) (o : Held) (q : Queued Entry) → o ≡ held.Queue q → HasIt s o → finmap.get q.live s ≡ None → ⊥
queue_has s o q is h none = none_some h.0 (ap (λ v. option_map queue_holds v) (sym none) ∙ sym (queue_value s q) ∙ ap (λ (p : Held). value_at s (inner p)) (sym is) ∙ h.1)

pub queue_tests : (s : ℕ) (es : List (ℕ × (ℤ × Entry))) → AllTests queue_cell (λ e. eq_by_cmp nat_cmp s e.0) s es
queue_tests s [] = tt
queue_tests s (e ∷ es) = (same_key s e.0, queue_tests s es)

pub queue_leaves : (s : ℕ) (o : Held) (q t : Queued Entry) (p : ℤ) (x : Entry) → o ≡ held.Queue q → QueueRemoves q t s p x → Leaves s o (held.Queue t)
queue_leaves s o q t p x is h = subst (λ (w : Held). Leaves s w (held.Queue t)) (sym is) (record {
  kind = refl;
  values = refl;
  made = h.made;
  inner =
      ap (λ m. map queue_cell (finmap.entries m)) h.live
      ∙ ap (map queue_cell) (entries_remove nat_cmp_total finmap.nat_cmp-IsAntisymmetric q.live s)
      ∙ filter_without queue_cell (λ e. eq_by_cmp nat_cmp s e.0) s (finmap.entries q.live) (queue_tests s (finmap.entries q.live));
})

-- ---- dictionaries
abbrev pub DictEntry : Type 0
DictEntry = ℤ × (ℕ × Entry)

pub both_front : (a b : Bool) → T (a && b) → T a
both_front true b h = tt
both_front false b h = h

pub both_rear : (a b : Bool) → T (a && b) → T b
both_rear true b h = h
both_rear false b h = absurd h

less_untied : (k j : ℤ) → T (is_lt (int_cmp k j)) → eq_by_cmp int_cmp k j ≡ false
less_untied k j h = elim (int_cmp k j) as (λ r. T (is_lt r) → is_eq r ≡ false) [ Less ↦ λ t. refl | Equal ↦ λ t. absurd t | Greater ↦ λ t. refl ] h

below_absent : (k : ℤ) (es : List DictEntry) → T (below_all int_cmp k es) → find int_cmp k es ≡ None
below_absent k [] h = refl
below_absent k (e ∷ es) h =
    cond_false (eq_by_cmp int_cmp k e.0) (Some e.1) (find int_cmp k es) (less_untied k e.0 (both_front (is_lt (int_cmp k e.0)) (below_all int_cmp k es) h))
    ∙ below_absent k es (both_rear (is_lt (int_cmp k e.0)) (below_all int_cmp k es) h)

-- behind the first of sorted entries
find_later : (k : ℤ) (v : ℕ × Entry) (e : DictEntry) (es : List DictEntry) → T (is_sorted int_cmp (e ∷ es)) → find int_cmp k es ≡ Some v → find int_cmp k (e ∷ es) ≡ Some v
find_later k v e es sorted h = ⊎_elim
    (λ (is : k ≡ e.0). absurd (none_some v (sym (below_absent e.0 es (both_front (below_all int_cmp e.0 es) (is_sorted int_cmp es) sorted)) ∙ ap (λ j. find int_cmp j es) (sym is) ∙ h)))
    (λ (ne : k ≢ e.0). cond_false (eq_by_cmp int_cmp k e.0) (Some e.1) (find int_cmp k es) (untied int_cmp_total finmap.int_cmp-IsAntisymmetric k e.0 ne) ∙ h)
    (same_or_not int_cmp_total finmap.int_cmp-IsAntisymmetric k e.0)

find_first : (e : DictEntry) (es : List DictEntry) → find int_cmp e.0 (e ∷ es) ≡ Some e.1
find_first e es = cond_true (eq_by_cmp int_cmp e.0 e.0) (Some e.1) (find int_cmp e.0 es) (ap is_eq (tied_itself int_cmp_total e.0))

-- the key and the information of a serial
pub dict_find : (s : ℕ) (c : Cell) (es : List DictEntry) → T (is_sorted int_cmp es) → value_at s (map dict_cell es) ≡ Some c
    → (k : ℤ) × (x : Entry) × (find int_cmp k es ≡ Some (s, x)) × (c ≡ (x.number, k ∷ x.value ∷ []))
dict_find s c [] sorted h = absurd (none_some c h)
dict_find s c (e ∷ es) sorted h = elim (eqb_tells e.1.0 s) [
  | inl t ↦
      let whole : Some (e.1.1.number, e.0 ∷ e.1.1.value ∷ []) ≡ Some c = sym (cond_true (e.1.0 == s) (Some (e.1.1.number, e.0 ∷ e.1.1.value ∷ [])) (value_at s (map dict_cell es)) t.0) ∙ h in
      let is : (e.1.1.number, e.0 ∷ e.1.1.value ∷ []) ≡ c = cc in
      (e.0, e.1.1, find_first e es ∙ ap (λ z. Some (z, e.1.1)) t.1, sym is)
  | inr t ↦
      let w = dict_find s c es (both_rear (below_all int_cmp e.0 es) (is_sorted int_cmp es) sorted) (sym (cond_false (e.1.0 == s) (Some (e.1.1.number, e.0 ∷ e.1.1.value ∷ [])) (value_at s (map dict_cell es)) t.0) ∙ h) in
      (w.0, w.1, find_later w.0 (s, w.1) e es sorted w.2, w.3)
]

pub dict_value : (s : ℕ) (d : DictOf Entry) (c : Cell) → value_at s (inner (held.Dict d)) ≡ Some c → (k : ℤ) × (x : Entry) × (finmap.get d.triples k ≡ Some (s, x)) × (c ≡ (x.number, k ∷ x.value ∷ []))
dict_value s d c h =
    let w = dict_find s c (finmap.entries d.triples) (finmap.entries_sorted d.triples) h in
    (w.0, w.1, finmap.get-entries d.triples w.0 ∙ w.2, w.3)

pub dict_has : (s : ℕ) (o : Held) (d : DictOf Entry) → o ≡ held.Dict d → HasIt s o → HasNo d s → ⊥
dict_has s o d is h none =
    let w = dict_value s d h.0 (ap (λ (p : Held). value_at s (inner p)) (sym is) ∙ h.1) in
    none w.0 w.1 w.2

-- each entry is found by its key
abbrev pub AllFound : List DictEntry → List DictEntry → Type 0
AllFound whole [] = ⊤
AllFound whole (e ∷ es) = (find int_cmp e.0 whole ≡ Some e.1) × AllFound whole es

later_found : (e : DictEntry) (whole es : List DictEntry) → T (is_sorted int_cmp (e ∷ whole)) → AllFound whole es → AllFound (e ∷ whole) es
later_found e whole [] sorted h = tt
later_found e whole (f ∷ es) sorted h = (find_later f.0 f.1 e whole sorted h.0, later_found e whole es sorted h.1)

pub all_found : (es : List DictEntry) → T (is_sorted int_cmp es) → AllFound es es
all_found [] sorted = tt
all_found (e ∷ es) sorted = (find_first e es, later_found e es es sorted (all_found es (both_rear (below_all int_cmp e.0 es) (is_sorted int_cmp es) sorted)))

module _ (d : DictOf Entry) (s : ℕ) (k : ℤ) (x : Entry) (held_there : finmap.get d.triples k ≡ Some (s, x)) (alone : (j : ℤ) (y : Entry) → finmap.get d.triples j ≡ Some (s, y) → j ≡ k) where
  one_test : (e : DictEntry) → find int_cmp e.0 (finmap.entries d.triples) ≡ Some e.1 → (e.1.0 == s) ≡ eq_by_cmp int_cmp k e.0
  one_test e found =
      let got : finmap.get d.triples e.0 ≡ Some e.1 = finmap.get-entries d.triples e.0 ∙ found in
      ⊎_elim
      (λ (is : k ≡ e.0).
      let both : Some e.1 ≡ Some (s, x) = sym got ∙ ap (λ j. finmap.get d.triples j) (sym is) ∙ held_there in
      let one : e.1 ≡ (s, x) = cc in
      number_of e.1.0 s (ap (λ (p : ℕ × Entry). p.0) one)
      ∙ sym (ap (λ z. eq_by_cmp int_cmp k z) (sym is) ∙ ap is_eq (tied_itself int_cmp_total k)))
      (λ (ne : k ≢ e.0).
      number_not e.1.0 s (λ same. ne (sym (alone e.0 e.1.1 (got ∙ ap (λ z. Some (z, e.1.1)) same))))
      ∙ sym (untied int_cmp_total finmap.int_cmp-IsAntisymmetric k e.0 ne))
      (same_or_not int_cmp_total finmap.int_cmp-IsAntisymmetric k e.0)

  pub dict_tests : (es : List DictEntry) → AllFound (finmap.entries d.triples) es → AllTests dict_cell (λ e. eq_by_cmp int_cmp k e.0) s es
  dict_tests [] h = tt
  dict_tests (e ∷ es) h = (one_test e h.0, dict_tests es h.1)

pub dict_leaves : (s : ℕ) (o : Held) (d t : DictOf Entry) (k : ℤ) (x : Entry) → o ≡ held.Dict d → DictRemoves d t s k x → Leaves s o (held.Dict t)
dict_leaves s o d t k x is h = subst (λ (w : Held). Leaves s w (held.Dict t)) (sym is) (record {
  kind = refl;
  values = refl;
  made = ap (λ (u : DictOf Entry). u.made) h.after;
  inner =
      ap (λ (u : DictOf Entry). map dict_cell (finmap.entries u.triples)) h.after
      ∙ ap (map dict_cell) (entries_remove int_cmp_total finmap.int_cmp-IsAntisymmetric d.triples k)
      ∙ filter_without dict_cell (λ e. eq_by_cmp int_cmp k e.0) s (finmap.entries d.triples) (dict_tests d s k x h.held h.alone (finmap.entries d.triples) (all_found (finmap.entries d.triples) (finmap.entries_sorted d.triples)));
})

-- ---- what an object has, its container doesn't lack
pub list_lacks : (s : ℕ) (l : Items Entry) (c : Cell) → value_at s (inner (held.List l)) ≡ Some c → value_at s l.pairs ≡ None → ⊥
list_lacks s l c at none = list_has s (held.List l) l refl (c, at) none

pub dict_lacks : (s : ℕ) (d : DictOf Entry) (c : Cell) → value_at s (inner (held.Dict d)) ≡ Some c → HasNo d s → ⊥
dict_lacks s d c at none = dict_has s (held.Dict d) d refl (c, at) none

pub queue_lacks : (s : ℕ) (q : Queued Entry) (c : Cell) → value_at s (inner (held.Queue q)) ≡ Some c → finmap.get q.live s ≡ None → ⊥
queue_lacks s q c at none = queue_has s (held.Queue q) q refl (c, at) none
