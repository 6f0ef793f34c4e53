-- A container changes and keeps its items: what it then has, and what the session has.
use Rattle.std.proofs.Common.{◌≡◌, ℕ, ◌≢◌, Bool, true, false, cond, List, [], ◌∷◌, ◌++◌, map, Option, Some, None, refl, sym, ap, subst, ◌∙◌, inl, inr, ⊎_elim}
use Rattle.std.specs.Prelude.{ℤ, ◌≤ℤ◌, ◌<ℤ◌, ◌==◌, option_map, reverse}
use Rattle.std.specs.Int.Signed.{clash_ℤ}
use Rattle.std.proofs.lemmas.Bool.{cases_eq}
use Rattle.std.proofs.lemmas.Bool.Decides.{eqb_tells}
use Rattle.std.proofs.lemmas.List.{reverse-append, reverse-reverse}
use Rattle.std.specs.Cmp.{nat_cmp_total, int_cmp_total}
use Rattle.std.specs.FinMap as finmap
use Rattle.item_pool.specs.declared.pool.Item.{Item}
use Rattle.item_pool.specs.Contents.{Contents}
use Rattle.item_ring.specs.RingLists.{IsDistinct}
use Rattle.item_list.specs.Items.{Items, serials, value_at, pairs_with, pairs_without, Assigns, MovesToFront, MovesToRear}
use Rattle.item_list.proofs.Turned.{holds_turned, distinct_turned, serials_turned}
use Rattle.item_dict.specs.Contents.{Contents as DictOf, Changes as DictChanges}
use Rattle.item_queue.specs.Contents.{Queued, Changes as QueueChanges, HoldsPriority}
use Rattle.object_store.specs.declared.change.Change.{Change}
use Rattle.object_store.specs.declared.change.Change.TheVariants.{Write, Move, Turn, Lower}
use Rattle.object_store.specs.declared.entrance.End.{End}
use Rattle.object_store.specs.declared.entrance.End.TheVariants as ends
use Rattle.object_store.specs.declared.entrance.Spot.TheVariants.{Front, Rear}
use Rattle.object_store.specs.declared.object.Entry.{Entry}
use Rattle.object_store.specs.declared.object.Object.{Object as Held}
use Rattle.object_store.specs.declared.object.Object.TheVariants as held
use Rattle.object_store.specs.declared.objects.Place.{Place}
use Rattle.object_store.specs.State.{Cell}
use Rattle.object_store.specs.Cells.{head_of, inf_of, written}
use Rattle.object_store.specs.Commands.{with_cells}
use Rattle.object_store.specs.Inner.{Inner, inner, kind_of, list_cell, dict_cell, queue_cell, cells_in, seen}
use Rattle.object_store.specs.Entrance.{with_end}
use Rattle.object_store.specs.Change.{Allows, IsChanged}
use Rattle.object_store.specs.Kept.{Places, state_of, IsKept, Replaces}
use Rattle.object_store.proofs.Entered.{list_value}
use Rattle.object_store.proofs.Goes.{value_without, distinct_without}
use Rattle.object_store.proofs.Going.{dict_value, dict_tests, all_found, queue_value, queue_holds, queue_tests}
use Rattle.object_store.proofs.Lists.{Splits, splits, value_in, distinct_in, map_more, cond_true, cond_false}
use Rattle.object_store.proofs.Pairs.{keeps, with_of, without_of, number_itself, number_of, same_number, number_not}
use Rattle.object_store.proofs.Puts.{put_with}
use Rattle.object_store.proofs.Steps.{SameItems, kept_same, objects_now}

some_same : {A : Type 0} (a b : A) → Some a ≡ Some b → a ≡ b
some_same a b e = cc

none_some : {A : Type 0} (a : A) → None ≡ Some a → ⊥
none_some a e = cc

pub map_turned : {A B : Type 0} (f : A → B) (xs : List A) → map f (reverse xs) ≡ reverse (map f xs)
map_turned f [] = refl
map_turned f (x ∷ xs) =
    ap (map f) (reverse-append (x ∷ []) xs) ∙ map_more f (reverse xs) (x ∷ [])
    ∙ ap (λ ys. ys ++ f x ∷ []) (map_turned f xs) ∙ sym (reverse-append (f x ∷ []) (map f xs))

-- ---- lists
pub list_written : (it : Item) (e old : Entry) (l t : Items Entry) → Assigns l t it.serial old e → IsChanged (Write it e) (held.List l) (held.List t)
list_written it e old l t h = record {
  kind = refl;
  values = refl;
  made = ap (λ (u : Items Entry). u.made) h.1;
  items = (
    (old.number, old.value ∷ []),
    list_value it.serial l.pairs old h.0,
    ap (λ (u : Items Entry). map list_cell u.pairs) h.1
        ∙ with_of list_cell it.serial it.serial e (e.number, e.value ∷ []) refl l.pairs (keeps list_cell (λ p. refl) it.serial l.pairs),
  );
}

left : (s : ℕ) (l : Items Entry) → map list_cell (pairs_without s l.pairs) ≡ pairs_without s (map list_cell l.pairs)
left s l = without_of list_cell s s l.pairs (keeps list_cell (λ p. refl) s l.pairs)

pub list_moved_front : (it : Item) (l t : Items Entry) → MovesToFront l t it.serial → IsChanged (Move it ends.Front) (held.List l) (held.List t)
list_moved_front it l t h = record {
  kind = refl;
  values = refl;
  made = ap (λ (u : Items Entry). u.made) h.1.1;
  items = (
    (h.0.number, h.0.value ∷ []),
    list_value it.serial l.pairs h.0 h.1.0,
    ap (λ (u : Items Entry). map list_cell u.pairs) h.1.1 ∙ ap (λ ps. list_cell (it.serial, h.0) ∷ ps) (left it.serial l),
  );
}

pub list_moved_rear : (it : Item) (l t : Items Entry) → MovesToRear l t it.serial → IsChanged (Move it ends.Rear) (held.List l) (held.List t)
list_moved_rear it l t h = record {
  kind = refl;
  values = refl;
  made = ap (λ (u : Items Entry). u.made) h.1.1;
  items = (
    (h.0.number, h.0.value ∷ []),
    list_value it.serial l.pairs h.0 h.1.0,
    ap (λ (u : Items Entry). map list_cell u.pairs) h.1.1
        ∙ map_more list_cell (pairs_without it.serial l.pairs) ((it.serial, h.0) ∷ [])
        ∙ ap (λ ps. ps ++ list_cell (it.serial, h.0) ∷ []) (left it.serial l),
  );
}

pub list_turned : (l t : Items Entry) → t.pairs ≡ reverse l.pairs → t.made ≡ l.made → IsChanged Turn (held.List l) (held.List t)
list_turned l t pairs made = record { kind = refl; values = refl; made = made; items = ap (map list_cell) pairs ∙ map_turned list_cell l.pairs }

-- ---- dictionaries
pub dict_written : (it : Item) (x old : Entry) (d t : DictOf Entry) (k : ℤ) → Allows (Write it x) (held.Dict d) → DictChanges d t it.serial k x old → IsChanged (Write it x) (held.Dict d) (held.Dict t)
dict_written it x old d t k allows h =
    let w = dict_value it.serial d allows.0 allows.1 in
    let key : head_of allows.0.1 ≡ k = ap (λ (c : Cell). head_of c.1) w.3 ∙ h.alone w.0 w.1 w.2 in
    let es = finmap.entries d.triples in
    record {
      kind = refl;
      values = refl;
      made = ap (λ (u : DictOf Entry). u.made) h.after;
      items = (
        allows.0,
        allows.1,
        ap (λ (u : DictOf Entry). map dict_cell (finmap.entries u.triples)) h.after
            ∙ ap (map dict_cell) (finmap.entries-insert int_cmp_total d.triples k (it.serial, x))
            ∙ put_with int_cmp_total finmap.int_cmp-IsAntisymmetric dict_cell it.serial (x.number, k ∷ x.value ∷ []) k (it.serial, x) refl (it.serial, old) es (finmap.entries_sorted d.triples) (sym (finmap.get-entries d.triples k) ∙ h.held)
            (dict_tests d it.serial k old h.held h.alone es (all_found es (finmap.entries_sorted d.triples)))
            ∙ ap (λ z. pairs_with it.serial (x.number, z ∷ x.value ∷ []) (map dict_cell es)) (sym key),
      );
    }

-- ---- queues
queue_put : (q t : Queued Entry) (s : ℕ) (o : ℤ) (y : Entry) (p : ℤ) (x : Entry) → QueueChanges q t s o y p x → inner (held.Queue t) ≡ pairs_with s (x.number, p ∷ x.value ∷ []) (inner (held.Queue q))
queue_put q t s o y p x h =
    let es = finmap.entries q.live in
    ap (λ m. map queue_cell (finmap.entries m)) h.live
    ∙ ap (map queue_cell) (finmap.entries-insert nat_cmp_total q.live s (p, x))
    ∙ put_with nat_cmp_total finmap.nat_cmp-IsAntisymmetric queue_cell s (x.number, p ∷ x.value ∷ []) s (p, x) refl (o, y) es (finmap.entries_sorted q.live) (sym (finmap.get-entries q.live s) ∙ h.held.0) (queue_tests s es)

queue_there : (q : Queued Entry) (s : ℕ) (p : ℤ) (x : Entry) → finmap.get q.live s ≡ Some (p, x) → value_at s (inner (held.Queue q)) ≡ Some (x.number, p ∷ x.value ∷ [])
queue_there q s p x h = queue_value s q ∙ ap (λ o. option_map queue_holds o) h

pub queue_written : (it : Item) (x old : Entry) (q t : Queued Entry) (p : ℤ) → QueueChanges q t it.serial p old p x → IsChanged (Write it x) (held.Queue q) (held.Queue t)
queue_written it x old q t p h = record {
  kind = refl;
  values = refl;
  made = h.made;
  items = ((old.number, p ∷ old.value ∷ []), queue_there q it.serial p old h.held.0, queue_put q t it.serial p old p x h);
}

pub queue_lowered : (it : Item) (q t : Queued Entry) (p o : ℤ) (x : Entry) → QueueChanges q t it.serial o x p x → IsChanged (Lower it p) (held.Queue q) (held.Queue t)
queue_lowered it q t p o x h = record {
  kind = refl;
  values = refl;
  made = h.made;
  items = ((x.number, o ∷ x.value ∷ []), queue_there q it.serial o x h.held.0, queue_put q t it.serial o x p x h);
}

pub not_larger : (q : Queued Entry) (it : Item) (p o : ℤ) → Allows (Lower it p) (held.Queue q) → HoldsPriority q it.serial o → o <ℤ p → ⊥
not_larger q it p o allows h lt =
    let one : allows.0 ≡ (h.0.number, o ∷ h.0.value ∷ []) = some_same allows.0 (h.0.number, o ∷ h.0.value ∷ []) (sym allows.1 ∙ queue_there q it.serial o h.0 h.1.0) in
    let le : p ≤ℤ o = subst (λ (c : Cell). p ≤ℤ head_of c.1) one allows.3 in
    clash_ℤ lt le

-- ---- the items stay
module _ {X : Type 0} where
  pick : (b : Bool) (x d : X) (v : Option X) → cond b (Some x) (option_map (λ y. cond b x y) v) ≡ option_map (λ y. cond b x y) (cond b (Some d) v)
  pick true x d v = refl
  pick false x d v = refl

  past : (a b : Bool) (x d : X) (v : Option X) → (a ≡ true → b ≡ false) → cond a (Some d) (option_map (λ y. cond b x y) v) ≡ option_map (λ y. cond b x y) (cond a (Some d) v)
  past true b x d v h = ap (λ z. Some (cond z x d)) (sym (h refl))
  past false b x d v h = refl

  value_with : (s : ℕ) (x : X) (t : ℕ) (ps : List (ℕ × X)) → value_at t (pairs_with s x ps) ≡ option_map (λ y. cond (s == t) x y) (value_at t ps)
  value_with s x t [] = refl
  value_with s x t (p ∷ ps) = elim (eqb_tells p.0 s) [
    | inl h ↦
        ap (value_at t) (cond_true (p.0 == s) ((s, x) ∷ pairs_with s x ps) (p ∷ pairs_with s x ps) h.0)
        ∙ ap (λ v. cond (s == t) (Some x) v) (value_with s x t ps)
        ∙ pick (s == t) x p.1 (value_at t ps)
        ∙ ap (λ z. option_map (λ y. cond (s == t) x y) (cond (z == t) (Some p.1) (value_at t ps))) (sym h.1)
    | inr h ↦
        ap (value_at t) (cond_false (p.0 == s) ((s, x) ∷ pairs_with s x ps) (p ∷ pairs_with s x ps) h.0)
        ∙ ap (λ v. cond (p.0 == t) (Some p.1) v) (value_with s x t ps)
        ∙ past (p.0 == t) (s == t) x p.1 (value_at t ps) (λ a. number_not s t (λ e. h.1 (same_number p.0 t a ∙ sym e)))
  ]

  serials_with : (s : ℕ) (x : X) (ps : List (ℕ × X)) → serials (pairs_with s x ps) ≡ serials ps
  serials_with s x [] = refl
  serials_with s x (p ∷ ps) = elim (eqb_tells p.0 s) [
    | inl h ↦
        ap serials (cond_true (p.0 == s) ((s, x) ∷ pairs_with s x ps) (p ∷ pairs_with s x ps) h.0)
        ∙ (λ i. sym h.1 i ∷ serials_with s x ps i)
    | inr h ↦
        ap serials (cond_false (p.0 == s) ((s, x) ∷ pairs_with s x ps) (p ∷ pairs_with s x ps) h.0)
        ∙ ap (λ r. p.0 ∷ r) (serials_with s x ps)
  ]

  -- an item that goes and comes back at an end
  module _ (s : ℕ) (x : X) (ps qs : List (ℕ × X)) (cut : Splits (pairs_without s ps) qs (s, x)) (there : value_at s ps ≡ Some x) where
    gone : value_at s (pairs_without s ps) ≡ None
    gone = value_without s s ps ∙ cond_true (s == s) None (value_at s ps) (number_itself s)

    pub value_moved : (t : ℕ) → value_at t qs ≡ value_at t ps
    value_moved t =
        value_in (pairs_without s ps) qs (s, x) cut gone t
        ∙ ap (λ v. cond (s == t) (Some x) v) (value_without s t ps)
        ∙ ⊎_elim
        (λ (e : s ≡ t). cond_true (s == t) (Some x) (cond (s == t) None (value_at t ps)) (number_of s t e) ∙ sym there ∙ ap (λ u. value_at u ps) e)
        (λ (ne : s ≢ t). cond_false (s == t) (Some x) (cond (s == t) None (value_at t ps)) (number_not s t ne) ∙ cond_false (s == t) None (value_at t ps) (number_not s t ne))
        (cases_eq s t)

    pub distinct_moved : IsDistinct (serials ps) → IsDistinct (serials qs)
    distinct_moved apart = distinct_in (pairs_without s ps) qs (s, x) cut gone (distinct_without s ps apart)

cut_end : (end : End) (p : Inner) (ps : List Inner) → Splits ps (with_end end p ps) p
cut_end ends.Front p ps = splits Front p ps tt
cut_end ends.Rear p ps = splits Rear p ps tt

-- the same items, under the same numbers
pub record SameList (xs ys : List Inner) : Type 0 where
  pub distinct : IsDistinct (serials ys)
  pub to : (s : ℕ) (c : Cell) → value_at s xs ≡ Some c → (d : Cell) × (value_at s ys ≡ Some d) × (d.0 ≡ c.0)
  pub from : (s : ℕ) (c : Cell) → value_at s ys ≡ Some c → (d : Cell) × (value_at s xs ≡ Some d) × (d.0 ≡ c.0)

from_map : {A B : Type 0} (f : A → B) (o : Option A) (y : B) → option_map f o ≡ Some y → (x : A) × (o ≡ Some x) × (f x ≡ y)
from_map f None y e = let no : None ≡ Some y = e in cc
from_map f (Some x) y e = (x, refl, some_same (f x) y e)

same_with : (s : ℕ) (x c : Cell) (xs : List Inner) → IsDistinct (serials xs) → value_at s xs ≡ Some c → x.0 ≡ c.0 → SameList xs (pairs_with s x xs)
same_with s x c xs apart at is =
    let keep : (t : ℕ) (d : Cell) → value_at t xs ≡ Some d → (cond (s == t) x d).0 ≡ d.0 = λ t d e. ⊎_elim
    (λ (same : s ≡ t).
    let one : d ≡ c = some_same d c (sym e ∙ ap (λ u. value_at u xs) (sym same) ∙ at) in
    ap (λ (b : Bool). (cond b x d).0) (number_of s t same) ∙ is ∙ ap (λ (z : Cell). z.0) (sym one))
    (λ (ne : s ≢ t). ap (λ (b : Bool). (cond b x d).0) (number_not s t ne))
    (cases_eq s t) in
    record {
      distinct = subst IsDistinct (sym (serials_with s x xs)) apart;
      to = λ t d e. (cond (s == t) x d, value_with s x t xs ∙ ap (λ v. option_map (λ y. cond (s == t) x y) v) e, keep t d e);
      from = λ t d e.
          let w = from_map (λ y. cond (s == t) x y) (value_at t xs) d (sym (value_with s x t xs) ∙ e) in
          (w.0, w.1, sym (keep t w.0 w.1) ∙ ap (λ (z : Cell). z.0) w.2);
    }

same_all : (xs ys : List Inner) → IsDistinct (serials ys) → ((t : ℕ) → value_at t ys ≡ value_at t xs) → SameList xs ys
same_all xs ys apart all = record {
  distinct = apart;
  to = λ t c e. (c, all t ∙ e, refl);
  from = λ t c e. (c, sym (all t) ∙ e, refl);
}

same_turned : (xs : List Inner) → IsDistinct (serials xs) → SameList xs (reverse xs)
same_turned xs apart =
    let turned : IsDistinct (serials (reverse xs)) = subst IsDistinct (sym (serials_turned xs)) (distinct_turned (serials xs) apart) in
    record {
      distinct = turned;
      to = λ t c e. (c, holds_turned t c xs apart e, refl);
      from = λ t c e. (c, ap (value_at t) (sym (reverse-reverse xs)) ∙ holds_turned t c (reverse xs) turned e, refl);
    }

same_list : (change : Change) (o t : Held) → IsDistinct (serials (inner o)) → Allows change o → IsChanged change o t → SameList (inner o) (inner t)
same_list (Write it e) o t apart allows h =
    let one : h.items.0 ≡ allows.0 = some_same h.items.0 allows.0 (sym h.items.1 ∙ allows.1) in
    subst (SameList (inner o)) (sym h.items.2)
    (same_with it.serial (e.number, written (kind_of o) e.value h.items.0.1) h.items.0 (inner o) apart h.items.1 (sym allows.2 ∙ ap (λ (c : Cell). c.0) (sym one)))
same_list (Move it end) o t apart allows h =
    let qs : List Inner = with_end end (it.serial, h.items.0) (pairs_without it.serial (inner o)) in
    let cut = cut_end end (it.serial, h.items.0) (pairs_without it.serial (inner o)) in
    subst (SameList (inner o)) (sym h.items.2)
    (same_all (inner o) qs (distinct_moved it.serial h.items.0 (inner o) qs cut h.items.1 apart) (value_moved it.serial h.items.0 (inner o) qs cut h.items.1))
same_list Turn o t apart allows h = subst (SameList (inner o)) (sym h.items) (same_turned (inner o) apart)
same_list (Lower it p) o t apart allows h =
    subst (SameList (inner o)) (sym h.items.2)
    (same_with it.serial (h.items.0.0, p ∷ inf_of h.items.0.1 ∷ []) h.items.0 (inner o) apart h.items.1 refl)

pub same_changed : (change : Change) (o t : Held) → IsDistinct (serials (inner o)) → Allows change o → IsChanged change o t → SameItems o t
same_changed change o t apart allows h =
    let l = same_list change o t apart allows h in
    record { made = h.made; distinct = l.distinct; to = l.to; from = l.from }

-- ---- the session
module _ (ps qs : Places) (k : ℕ) (cells : Contents Place) (kept : IsKept ps cells) (change : Change) (r : Replaces ps qs k (IsChanged change)) where
  pub kept_changed : Allows change r.old.object → IsKept qs cells
  kept_changed allows = kept_same ps qs k r.old r.new r.was r.is r.name cells kept (same_changed change r.old.object r.new.object (kept.sound k r.old r.was).distinct allows r.changed)

  pub state_changed : state_of qs cells ≡ with_cells r.old.name (seen r.old.object) (cells_in r.new.object) (state_of ps cells)
  state_changed =
      ap (λ o. record { objects = o; made = cells.made }) (objects_now ps qs k r.old r.new r.was r.is r.name kept.apart)
      ∙ (λ j. with_cells r.old.name (record { kind = r.changed.kind j; cells = cells_in r.old.object; values = r.changed.values j }) (cells_in r.new.object) (state_of ps cells))
