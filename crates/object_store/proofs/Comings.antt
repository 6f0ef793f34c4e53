-- What comes into a container by its key or its priority, with serials and without.
use Rattle.std.proofs.Common.{◌≡◌, ℕ, ◌+◌, ◌≤◌, ◌<◌, Bool, true, false, cond, List, [], ◌∷◌, ◌++◌, map, Option, Some, None, refl, sym, ap, subst, ◌∙◌, arith}
use Rattle.std.specs.Prelude.{ℤ, ◌||◌, ◌&&◌, ⊤, int_lt, nat_lt, option_map}
use Rattle.std.specs.declared.cmp.Ordering.TheVariants.{Less, Equal, Greater}
use Rattle.std.specs.Ordering.{int_cmp, int_eq, nat_cmp, is_eq, eq_by_cmp}
use Rattle.std.specs.Cmp.{nat_cmp_total, int_cmp_total, nat_cmp_is, tied_itself}
use Rattle.std.specs.FinMap as finmap
use Rattle.std.specs.FinMap.Entries.{find, put, by_order}
use Rattle.item_list.specs.Items.{value_at}
use Rattle.item_dict.specs.Contents.{Contents as DictOf, Adds as DictAdds}
use Rattle.item_queue.specs.Contents.{Queued, Inserts as QueueInserts}
use Rattle.item_pool.specs.declared.pool.Item.{Item}
use Rattle.object_store.specs.declared.entrance.Entrance.{Entrance}
use Rattle.object_store.specs.declared.entrance.Entrance.TheVariants.{At, Key, Priority}
use Rattle.object_store.specs.declared.entrance.Spot.TheVariants.{Front, Rear, Before, Behind}
use Rattle.object_store.specs.declared.object.Entry.{Entry}
use Rattle.object_store.specs.declared.object.Object.{Object as Held}
use Rattle.object_store.specs.declared.object.Object.TheVariants as held
use Rattle.object_store.specs.State.{Cell}
use Rattle.object_store.specs.Cells.{goes_before, head_of, placed, with_key}
use Rattle.object_store.specs.Views.{is_of}
use Rattle.object_store.specs.Inner.{Inner, inner, kind_of, made_in, cell_in, cells_in, dict_cell, queue_cell}
use Rattle.object_store.specs.Entrance.{entered, entrance_kinds, placed_in, put_in, AreGiven, Enters, Fits, IsOpen}
use Rattle.object_store.proofs.Going.{DictEntry}
use Rattle.object_store.proofs.ItemsRead.{queue_at}
use Rattle.object_store.proofs.Keyed.{key_held}
use Rattle.object_store.proofs.Lists.{map_more}
use Rattle.object_store.proofs.Standing.{key_in}
use Rattle.object_store.proofs.ByKind.{no_list, no_dict, no_queue}

some_none : {A : Type 0} (a : A) → Some a ≡ None → ⊥
some_none a e = cc

-- ---- without serials
cells_placed : (s : ℕ) (c : Cell) (xs : List Inner) → map cell_in (placed_in (s, c) xs) ≡ placed c (map cell_in xs)
cells_placed s c [] = refl
cells_placed s c (x ∷ xs) =
    elim (goes_before c x.1) as (λ b. map cell_in (cond b ((s, c) ∷ x ∷ xs) (x ∷ placed_in (s, c) xs)) ≡ cond b (c ∷ x.1 ∷ map cell_in xs) (x.1 ∷ placed c (map cell_in xs))) [
      | true ↦ refl
      | false ↦ ap (λ ys. x.1 ∷ ys) (cells_placed s c xs)
    ]

pub cells_put : (entrance : Entrance) (s : ℕ) (c : Cell) (xs : List Inner) → IsOpen entrance (map cell_in xs) → map cell_in (entered entrance (s, c) xs) ≡ put_in entrance c (map cell_in xs)
cells_put (At Front) s c xs free = refl
cells_put (At Rear) s c xs free = map_more cell_in xs ((s, c) ∷ [])
cells_put (At (Before it)) s c xs free = absurd free
cells_put (At (Behind it)) s c xs free = absurd free
cells_put (Key k) s c xs free = cells_placed s c xs
cells_put (Priority p) s c xs free = map_more cell_in xs ((s, c) ∷ [])

-- ---- into a dictionary
-- the key is less than that of e, more, or the same, and then it isn't absent
put_step : (a b n : Bool) (v : ℕ × Entry) (k : ℤ) (e : DictEntry) (es : List DictEntry)
    → (find int_cmp k es ≡ None → map dict_cell (put int_cmp k v es) ≡ placed_in (dict_cell (k, v)) (map dict_cell es))
    → cond (is_eq (cond a Less (cond b Greater Equal))) (Some e.1) (find int_cmp k es) ≡ None
    → map dict_cell (by_order (cond a Less (cond b Greater Equal)) ((k, v) ∷ e ∷ es) ((e.0, v) ∷ es) (e ∷ put int_cmp k v es))
    ≡ cond (a || (is_eq (cond a Less (cond b Greater Equal)) && n)) (dict_cell (k, v) ∷ dict_cell e ∷ map dict_cell es) (dict_cell e ∷ placed_in (dict_cell (k, v)) (map dict_cell es))
put_step true b n v k e es rest absent = refl
put_step false true n v k e es rest absent = ap (λ ys. dict_cell e ∷ ys) (rest absent)
put_step false false n v k e es rest absent = absurd (some_none e.1 absent)

dict_put : (k : ℤ) (v : ℕ × Entry) (es : List DictEntry) → find int_cmp k es ≡ None → map dict_cell (put int_cmp k v es) ≡ placed_in (dict_cell (k, v)) (map dict_cell es)
dict_put k v [] absent = refl
dict_put k v (e ∷ es) absent = put_step (int_lt k e.0) (int_lt e.0 k) (nat_lt v.1.number e.1.1.number) v k e es (dict_put k v es) absent

pub dict_enters : (k : ℤ) (x : Entry) (o : Held) (d t : DictOf Entry) (s : ℕ) → o ≡ held.Dict d → DictAdds d t k x s → Enters (Key k) o (held.Dict t) s (x.number, k ∷ x.value ∷ [])
dict_enters k x o d t s is h = subst (λ (w : Held). Enters (Key k) w (held.Dict t) s (x.number, k ∷ x.value ∷ [])) (sym is) (record {
  serial = h.serial;
  made = ap (λ (u : DictOf Entry). u.made) h.after ∙ h.serial;
  kind = refl;
  values = refl;
  inner =
      ap (λ (u : DictOf Entry). map dict_cell (finmap.entries u.triples)) h.after
      ∙ ap (map dict_cell) (finmap.entries-insert int_cmp_total d.triples k (s, x))
      ∙ dict_put k (s, x) (finmap.entries d.triples) (sym (finmap.get-entries d.triples k) ∙ h.absent)
      ∙ ap (λ z. placed_in (z, (x.number, k ∷ x.value ∷ [])) (inner (held.Dict d))) h.serial;
})

-- ---- into a queue
abbrev QueueEntry : Type 0
QueueEntry = ℕ × (ℤ × Entry)

abbrev AllBelow : ℕ → List QueueEntry → Type 0
AllBelow s [] = ⊤
AllBelow s (e ∷ es) = (e.0 < s) × AllBelow s es

all_below : (made : ℕ) (es : List QueueEntry) → ((t : ℕ) (v : ℤ × Entry) → find nat_cmp t es ≡ Some v → t ≤ made) → AllBelow (made + 1) es
all_below made [] given = tt
all_below made (e ∷ es) given = (
  let le : e.0 ≤ made = given e.0 e.1 (ap (λ r. cond (is_eq r) (Some e.1) (find nat_cmp e.0 es)) (tied_itself nat_cmp_total e.0)) in omega (arith, le),
  all_below made es (λ t v h. elim (eq_by_cmp nat_cmp t e.0) as (λ b. eq_by_cmp nat_cmp t e.0 ≡ b → t ≤ made) [
    | true ↦ λ b. given t e.1 (ap (λ c. cond c (Some e.1) (find nat_cmp t es)) b)
    | false ↦ λ b. given t v (ap (λ c. cond c (Some e.1) (find nat_cmp t es)) b ∙ h)
  ] refl),
)

queue_put : (s : ℕ) (v : ℤ × Entry) (es : List QueueEntry) → AllBelow s es → map queue_cell (put nat_cmp s v es) ≡ map queue_cell es ++ queue_cell (s, v) ∷ []
queue_put s v [] below = refl
queue_put s v (e ∷ es) below =
    ap (λ r. map queue_cell (by_order r ((s, v) ∷ e ∷ es) ((e.0, v) ∷ es) (e ∷ put nat_cmp s v es))) (sym (nat_cmp_is s e.0 Greater below.0))
    ∙ ap (λ ys. queue_cell e ∷ ys) (queue_put s v es below.1)

pub queue_enters : (p : ℤ) (x : Entry) (o : Held) (q t : Queued Entry) (it : Item) → o ≡ held.Queue q → AreGiven q → QueueInserts q t it p x → Enters (Priority p) o (held.Queue t) it.serial (x.number, p ∷ x.value ∷ [])
queue_enters p x o q t it is given h = subst (λ (w : Held). Enters (Priority p) w (held.Queue t) it.serial (x.number, p ∷ x.value ∷ [])) (sym is) (record {
  serial = h.serial;
  made = h.made;
  kind = refl;
  values = refl;
  inner =
      ap (λ m. map queue_cell (finmap.entries m)) h.live
      ∙ ap (map queue_cell) (finmap.entries-insert nat_cmp_total q.live (q.made + 1) (p, x))
      ∙ queue_put (q.made + 1) (p, x) (finmap.entries q.live)
      (all_below q.made (finmap.entries q.live) (λ s v e. given s v (finmap.get-entries q.live s ∙ e)));
})

-- ---- the container has such an entrance
cell_key : (k : ℤ) (xs : List Inner) → with_key k (map cell_in xs) ≡ option_map cell_in (key_in k xs)
cell_key k [] = refl
cell_key k (x ∷ xs) =
    elim (int_eq (head_of x.1.1) k) as (λ b. cond b (Some x.1) (with_key k (map cell_in xs)) ≡ option_map cell_in (cond b (Some x) (key_in k xs))) [
      | true ↦ refl
      | false ↦ cell_key k xs
    ]

none_of : {A B : Type 0} (f : A → B) (o : Option A) → option_map f o ≡ None → o ≡ None
none_of f None e = refl
none_of f (Some a) e = absurd (some_none (f a) e)

pub fits_open : (entrance : Entrance) (o : Held) → is_of (entrance_kinds entrance) (kind_of o) ≡ true → IsOpen entrance (cells_in o)
    → ((s : ℕ) (c : Cell) → value_at s (inner o) ≡ Some c → s ≤ made_in o) → Fits entrance o
fits_open (At Front) (held.List l) kind free given = tt
fits_open (At Rear) (held.List l) kind free given = tt
fits_open (At (Before it)) o kind free given = absurd free
fits_open (At (Behind it)) o kind free given = absurd free
fits_open (At spot) (held.Dict d) kind free given = let no : false ≡ true = kind in cc
fits_open (At spot) (held.Queue q) kind free given = let no : false ≡ true = kind in cc
fits_open (At spot) (held.Values v) kind free given = absurd (no_list v kind)
fits_open (Key k) (held.Dict d) kind free given =
    none_of (λ (v : ℕ × Entry). dict_cell (k, v)) (finmap.get d.triples k)
    (sym (key_held d k) ∙ none_of cell_in (key_in k (inner (held.Dict d))) (sym (cell_key k (inner (held.Dict d))) ∙ free))
fits_open (Key k) (held.List l) kind free given = let no : false ≡ true = kind in cc
fits_open (Key k) (held.Queue q) kind free given = let no : false ≡ true = kind in cc
fits_open (Key k) (held.Values v) kind free given = absurd (no_dict v kind)
fits_open (Priority p) (held.Queue q) kind free given = λ s v h. given s (v.1.number, v.0 ∷ v.1.value ∷ []) (queue_at q s v.0 v.1 h)
fits_open (Priority p) (held.List l) kind free given = let no : false ≡ true = kind in cc
fits_open (Priority p) (held.Dict d) kind free given = let no : false ≡ true = kind in cc
fits_open (Priority p) (held.Values v) kind free given = absurd (no_queue v kind)
