-- What is read of an item, as the object has it.
use Rattle.std.proofs.Common.{◌≡◌, ℕ, ◌≢◌, true, false, List, [], ◌∷◌, map, Some, None, refl, sym, ap, subst, ◌∙◌, ◌⊎◌, inl, inr, ⊎_elim}
use Rattle.std.specs.Prelude.{ℤ, option_map}
use Rattle.std.specs.Ordering.{nat_cmp, int_cmp, is_eq, eq_by_cmp}
use Rattle.std.specs.Cmp.{int_cmp_total, tied_itself}
use Rattle.std.specs.FinMap as finmap
use Rattle.std.specs.FinMap.Entries.{find}
use Rattle.item_dict.proofs.Maps.{untied, same_or_not}
use Rattle.item_ring.specs.RingLists.{IsDistinct, front}
use Rattle.item_list.specs.Items.{Items, serials, value_at}
use Rattle.item_dict.specs.Contents.{Contents as DictOf, HasNo}
use Rattle.item_queue.specs.Contents.{Queued}
use Rattle.object_store.specs.declared.object.Entry.{Entry}
use Rattle.object_store.specs.declared.object.Object.{Object as Held}
use Rattle.object_store.specs.declared.object.Object.TheVariants as held
use Rattle.object_store.specs.declared.kind.ObjectKind.TheVariants as sorts
use Rattle.object_store.specs.declared.part.Reading.{Reading}
use Rattle.object_store.specs.declared.part.Reading.TheVariants as readings
use Rattle.object_store.specs.State.{Cell}
use Rattle.object_store.specs.Cells.{head_of}
use Rattle.object_store.specs.Views.{is_of}
use Rattle.object_store.specs.Words.{read, reading_kinds}
use Rattle.object_store.specs.Inner.{inner, list_cell, dict_cell, queue_cell}
use Rattle.object_store.specs.Entrance.{HasNumber}
use Rattle.object_store.proofs.Entered.{list_value}
use Rattle.object_store.proofs.Entries.{entries_empty}
use Rattle.object_store.proofs.Going.{dict_lacks, queue_holds, queue_value}
use Rattle.object_store.proofs.Lists.{cond_true, cond_false}
use Rattle.object_store.proofs.Pairs.{value_of, keeps, value_first, value_later}

none_some : {A : Type 0} (a : A) → None ≡ Some a → ⊥
none_some a e = cc

some_none : {A : Type 0} (a : A) → Some a ≡ None → ⊥
some_none a e = cc

-- ---- lists
pub first_there : (ps : List (ℕ × Entry)) (s : ℕ) → Some s ≡ front (serials ps) → (x : Entry) × (value_at s ps ≡ Some x)
first_there [] s e = absurd (some_none s e)
first_there (p ∷ ps) s e =
    let is : s ≡ p.0 = cc in
    (p.1, ap (λ z. value_at z (p ∷ ps)) is ∙ value_first p ps)

pub first_none : (ps : List (ℕ × Entry)) → None ≡ front (serials ps) → ps ≡ []
first_none [] e = refl
first_none (p ∷ ps) e = absurd (none_some p.0 e)

pub list_at : (l : Items Entry) (s : ℕ) (x : Entry) → value_at s l.pairs ≡ Some x → value_at s (inner (held.List l)) ≡ Some (x.number, x.value ∷ [])
list_at l s x e = list_value s l.pairs x e

-- ---- dictionaries
find_at : (k : ℤ) (s : ℕ) (x : Entry) (es : List (ℤ × (ℕ × Entry))) → IsDistinct (serials (map dict_cell es)) → find int_cmp k es ≡ Some (s, x) → value_at s (map dict_cell es) ≡ Some (x.number, k ∷ x.value ∷ [])
find_at k s x [] apart h = absurd (none_some (s, x) h)
find_at k s x (e ∷ es) apart h = ⊎_elim
    (λ (is : k ≡ e.0).
    let both : Some e.1 ≡ Some (s, x) = sym (cond_true (eq_by_cmp int_cmp k e.0) (Some e.1) (find int_cmp k es) (ap (λ z. eq_by_cmp int_cmp k z) (sym is) ∙ ap is_eq (tied_itself int_cmp_total k))) ∙ h in
    let one : e.1 ≡ (s, x) = cc in
    subst (λ (p : ℕ × Entry). value_at p.0 (map dict_cell (e ∷ es)) ≡ Some (p.1.number, k ∷ p.1.value ∷ [])) one
    (value_first (dict_cell e) (map dict_cell es) ∙ ap (λ z. Some (e.1.1.number, z ∷ e.1.1.value ∷ [])) (sym is)))
    (λ (ne : k ≢ e.0).
    value_later s (dict_cell e) (map dict_cell es) (x.number, k ∷ x.value ∷ []) apart
    (find_at k s x es apart.1 (sym (cond_false (eq_by_cmp int_cmp k e.0) (Some e.1) (find int_cmp k es) (untied int_cmp_total finmap.int_cmp-IsAntisymmetric k e.0 ne)) ∙ h)))
    (same_or_not int_cmp_total finmap.int_cmp-IsAntisymmetric k e.0)

pub dict_at : (d : DictOf Entry) (k : ℤ) (s : ℕ) (x : Entry) → IsDistinct (serials (inner (held.Dict d))) → finmap.get d.triples k ≡ Some (s, x) → value_at s (inner (held.Dict d)) ≡ Some (x.number, k ∷ x.value ∷ [])
dict_at d k s x apart h = find_at k s x (finmap.entries d.triples) apart (sym (finmap.get-entries d.triples k) ∙ h)

pub dict_bare : (d : DictOf Entry) → d.triples ≡ finmap.empty → inner (held.Dict d) ≡ []
dict_bare d is = ap (λ m. map dict_cell (finmap.entries m)) is ∙ ap (map dict_cell) (entries_empty int_cmp)

-- ---- queues
pub queue_at : (q : Queued Entry) (s : ℕ) (p : ℤ) (x : Entry) → finmap.get q.live s ≡ Some (p, x) → value_at s (inner (held.Queue q)) ≡ Some (x.number, p ∷ x.value ∷ [])
queue_at q s p x h = queue_value s q ∙ ap (λ o. option_map queue_holds o) h

pub queue_bare : (q : Queued Entry) → q.live ≡ finmap.empty → inner (held.Queue q) ≡ []
queue_bare q is = ap (λ m. map queue_cell (finmap.entries m)) is ∙ ap (map queue_cell) (entries_empty nat_cmp)

-- the items of an object, where that is known to be this one
pub number_at : (o p : Held) (s i : ℕ) (c : Cell) → o ≡ p → value_at s (inner p) ≡ Some c → c.0 ≡ i → HasNumber o i
number_at o p s i c is at same = (s, c, ap (λ (q : Held). value_at s (inner q)) is ∙ at, same)

-- ---- what is read
pub list_read : (what : Reading) (x : ℤ) → is_of (reading_kinds what) sorts.List ≡ true → x ≡ read what (x ∷ [])
list_read readings.Contents x is = refl
list_read readings.Key x is = let no : false ≡ true = is in cc
list_read readings.Priority x is = let no : false ≡ true = is in cc
list_read readings.Information x is = let no : false ≡ true = is in cc

pub head_read : (what : Reading) (vs : List ℤ) → (what ≡ readings.Contents) ⊎ ((what ≡ readings.Key) ⊎ (what ≡ readings.Priority)) → head_of vs ≡ read what vs
head_read what vs h = elim h [
  | inl e ↦ ap (λ w. read w vs) (sym e)
  | inr k ↦ elim k [
    | inl e ↦ ap (λ w. read w vs) (sym e)
    | inr e ↦ ap (λ w. read w vs) (sym e)
  ]
]

pub list_gone : (l : Items Entry) (s : ℕ) → value_at s l.pairs ≡ None → value_at s (inner (held.List l)) ≡ None
list_gone l s none = value_of list_cell s s (λ (x : Entry). (x.number, x.value ∷ [])) (λ p. refl) l.pairs (keeps list_cell (λ p. refl) s l.pairs) ∙ ap (λ o. option_map (λ (x : Entry). (x.number, x.value ∷ [])) o) none

pub dict_gone : (d : DictOf Entry) (s : ℕ) → HasNo d s → value_at s (inner (held.Dict d)) ≡ None
dict_gone d s lacks = elim (value_at s (inner (held.Dict d))) as (λ v. value_at s (inner (held.Dict d)) ≡ v → v ≡ None) [
  | None ↦ λ e. refl
  | Some c ↦ λ e. absurd (dict_lacks s d c e lacks)
] refl

pub queue_gone : (q : Queued Entry) (s : ℕ) → finmap.get q.live s ≡ None → value_at s (inner (held.Queue q)) ≡ None
queue_gone q s none = queue_value s q ∙ ap (λ o. option_map queue_holds o) none
