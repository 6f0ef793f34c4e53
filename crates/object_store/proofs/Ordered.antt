-- The item of a queue that goes first, by priority and then by number.
use Rattle.std.proofs.Common.{◌≡◌, ℕ, ◌<◌, ◌≤◌, Bool, true, false, cond, List, [], ◌∷◌, map, Option, Some, None, refl, sym, ap, subst, ◌∙◌, ◌⊎◌, inl, inr, ⊎_elim, arith}
use Rattle.std.proofs.lemmas.Int.{ints}
use Rattle.std.specs.Prelude.{ℤ, ◌<ℤ◌, ◌==◌, ◌||◌, ◌&&◌, int_lt, nat_lt, option_map, option_and_then, MatchOption}
use Rattle.std.proofs.lemmas.Bool.{cases_eq}
use Rattle.std.specs.declared.cmp.Ordering.{Ordering}
use Rattle.std.specs.declared.cmp.Ordering.TheVariants.{Less, Equal, Greater}
use Rattle.std.specs.Ordering.{int_cmp, int_eq, is_eq}
use Rattle.std.specs.Cmp.{int_cmp_is, int_ranked, nat_cmp_is, ranked}
use Rattle.std.specs.Int.Signed.{<ℤ_irrefl}
use Rattle.std.specs.FinMap as finmap
use Rattle.item_pool.specs.declared.pool.Item.{Item}
use Rattle.item_ring.specs.RingLists.{IsDistinct}
use Rattle.item_list.specs.Items.{serials, serial_of, value_at}
use Rattle.item_queue.specs.Contents.{Queued, IsLeastItem}
use Rattle.object_store.specs.declared.kind.ObjectKind.TheVariants as sorts
use Rattle.object_store.specs.declared.near.Near.{Near}
use Rattle.object_store.specs.declared.near.Near.TheVariants.{First, Last, WithKey, Least, Behind, Before, RoundBehind, RoundBefore}
use Rattle.object_store.specs.declared.object.Entry.{Entry}
use Rattle.object_store.specs.declared.object.Object.{Object as Held}
use Rattle.object_store.specs.declared.object.Object.TheVariants as held
use Rattle.object_store.specs.State.{Cell}
use Rattle.object_store.specs.Cells.{first_of, goes_before, head_of, in_order, placed}
use Rattle.object_store.specs.Commands.{head_cell, number_of}
use Rattle.object_store.specs.Inner.{Inner, inner, cell_in, cells_in}
use Rattle.object_store.specs.Near.{near_kinds, number_at, CanFind, IsNumber, IsRising}
use Rattle.object_store.specs.Views.{is_of}
use Rattle.object_store.proofs.Going.{queue_holds, queue_value}
use Rattle.object_store.proofs.ItemsRead.{queue_at, queue_bare}
use Rattle.object_store.proofs.Standing.{AllIn, all_in}

some_same : {A : Type 0} (a b : A) → Some a ≡ Some b → a ≡ b
some_same a b e = cc

none_some : {A : Type 0} (a : A) → None ≡ Some a → ⊥
none_some a e = cc

-- ---- cells among others
abbrev pub AmongCells : Cell → List Cell → Type 0
AmongCells c [] = ⊥
AmongCells c (d ∷ ds) = (c ≡ d) ⊎ AmongCells c ds

-- each has a serial
pub serial_of_cell : (c : Cell) (xs ys : List Inner) → AllIn xs ys → AmongCells c (map cell_in ys) → (s : ℕ) × (value_at s xs ≡ Some c)
serial_of_cell c xs [] h m = absurd m
serial_of_cell c xs (y ∷ ys) h m = ⊎_elim
    (λ (is : c ≡ y.1). (y.0, h.0 ∙ ap Some (sym is)))
    (λ later. serial_of_cell c xs ys h.1 later)
    m

pub cell_of_serial : (s : ℕ) (c : Cell) (xs : List Inner) → value_at s xs ≡ Some c → AmongCells c (map cell_in xs)
cell_of_serial s c [] e = absurd (none_some c e)
cell_of_serial s c (x ∷ xs) e = elim (x.0 == s) as (λ b. cond b (Some x.1) (value_at s xs) ≡ Some c → AmongCells c (map cell_in (x ∷ xs))) [
  | true ↦ λ h. inl (sym (some_same x.1 c h))
  | false ↦ λ h. inr (cell_of_serial s c xs h)
] e

pub among_placed : (c d : Cell) (cs : List Cell) → AmongCells c (placed d cs) → (c ≡ d) ⊎ AmongCells c cs
among_placed c d [] m = ⊎_elim (λ is. inl is) (λ no. absurd no) m
among_placed c d (e ∷ es) m = elim (goes_before d e) as (λ b. AmongCells c (cond b (d ∷ e ∷ es) (e ∷ placed d es)) → (c ≡ d) ⊎ AmongCells c (e ∷ es)) [
  | true ↦ λ h. h
  | false ↦ λ h. ⊎_elim (λ is. inr (inl is)) (λ later. ⊎_elim (λ is. inl is) (λ l. inr (inr l)) (among_placed c d es later)) h
] m

pub among_order : (c : Cell) (cs : List Cell) → AmongCells c (in_order cs) → AmongCells c cs
among_order c [] m = m
among_order c (d ∷ ds) m = ⊎_elim (λ is. inl is) (λ later. inr (among_order c ds later)) (among_placed c d (in_order ds) m)

-- ---- what goes before, as a relation
abbrev pub Precedes : Cell → Cell → Type 0
Precedes c d = (head_of c.1 <ℤ head_of d.1) ⊎ ((head_of c.1 ≡ head_of d.1) × (c.0 < d.0))

-- a test says so
less_yes : (a b : Bool) → Less ≡ cond a Less (cond b Greater Equal) → a ≡ true
less_yes true b e = refl
less_yes false true e = let no : Less ≡ Greater = e in cc
less_yes false false e = let no : Less ≡ Equal = e in cc

nat_less_yes : (a b : Bool) → Less ≡ cond a Less (cond b Equal Greater) → a ≡ true
nat_less_yes true b e = refl
nat_less_yes false true e = let no : Less ≡ Equal = e in cc
nat_less_yes false false e = let no : Less ≡ Greater = e in cc

pub int_less : (x y : ℤ) → x <ℤ y → int_lt x y ≡ true
int_less x y h = less_yes (int_lt x y) (int_lt y x) (int_cmp_is x y Less h)

int_less_is : (x y : ℤ) → int_lt x y ≡ true → x <ℤ y
int_less_is x y e = int_ranked x y Less (sym (ap (λ b. cond b Less (cond (int_lt y x) Greater Equal)) e))

nat_less : (x y : ℕ) → x < y → nat_lt x y ≡ true
nat_less x y h = nat_less_yes (nat_lt x y) (x == y) (nat_cmp_is x y Less h)

nat_less_is : (x y : ℕ) → nat_lt x y ≡ true → x < y
nat_less_is x y e = ranked x y Less (sym (ap (λ b. cond b Less (cond (x == y) Equal Greater)) e))

pub equal_is : (r : Ordering) → is_eq r ≡ true → r ≡ Equal
equal_is Less e = let no : false ≡ true = e in cc
equal_is Equal e = refl
equal_is Greater e = let no : false ≡ true = e in cc

or_true : (a b : Bool) → (a || b) ≡ true → (a ≡ true) ⊎ (b ≡ true)
or_true true b e = inl refl
or_true false b e = inr e

and_true : (a b : Bool) → (a && b) ≡ true → (a ≡ true) × (b ≡ true)
and_true true b e = (refl, e)
and_true false b e = let no : false ≡ true = e in cc

or_left : (a b : Bool) → a ≡ true → (a || b) ≡ true
or_left a b e = ap (λ c. c || b) e

or_right : (a b : Bool) → b ≡ true → (a || b) ≡ true
or_right true b e = refl
or_right false b e = e

pub precedes_is : (c d : Cell) → goes_before c d ≡ true → Precedes c d
precedes_is c d e = ⊎_elim
    (λ l. inl (int_less_is (head_of c.1) (head_of d.1) l))
    (λ r.
    let both = and_true (int_eq (head_of c.1) (head_of d.1)) (nat_lt c.0 d.0) r in
    inr (int_ranked (head_of c.1) (head_of d.1) Equal (sym (equal_is (int_cmp (head_of c.1) (head_of d.1)) both.0)), nat_less_is c.0 d.0 both.1))
    (or_true (int_lt (head_of c.1) (head_of d.1)) (int_eq (head_of c.1) (head_of d.1) && nat_lt c.0 d.0) e)

pub precedes : (c d : Cell) → Precedes c d → goes_before c d ≡ true
precedes c d h = ⊎_elim
    (λ l. or_left (int_lt (head_of c.1) (head_of d.1)) (int_eq (head_of c.1) (head_of d.1) && nat_lt c.0 d.0) (int_less (head_of c.1) (head_of d.1) l))
    (λ r. or_right (int_lt (head_of c.1) (head_of d.1)) (int_eq (head_of c.1) (head_of d.1) && nat_lt c.0 d.0)
    ((λ j. is_eq (sym (int_cmp_is (head_of c.1) (head_of d.1) Equal r.0) j) && nat_lt c.0 d.0) ∙ nat_less c.0 d.0 r.1))
    h

no_turn : (x y : ℤ) → x <ℤ y → y <ℤ x → ⊥
no_turn x y a b = omega (arith, ints, a, b)

pub not_both : (c d : Cell) → goes_before c d ≡ true → goes_before d c ≡ true → ⊥
not_both c d a b = ⊎_elim
    (λ l. ⊎_elim
    (λ m. no_turn (head_of c.1) (head_of d.1) l m)
    (λ m. <ℤ_irrefl (subst (λ z. head_of c.1 <ℤ z) m.0 l))
    (precedes_is d c b))
    (λ l. ⊎_elim
    (λ m. <ℤ_irrefl (subst (λ z. head_of d.1 <ℤ z) l.0 m))
    (λ m. let x = l.1 in let y = m.1 in omega (arith, x, y))
    (precedes_is d c b))
    (precedes_is c d a)

before_rest : (c e : Cell) → c ≡ e → (fs : List Cell) → ((d : Cell) → AmongCells d fs → (d ≡ c) ⊎ (goes_before c d ≡ true)) → head_cell (placed e fs) ≡ Some c
before_rest c e is [] least = ap Some (sym is)
before_rest c e is (f ∷ fs) least = elim (goes_before e f) as (λ b. goes_before e f ≡ b → head_cell (cond b (e ∷ f ∷ fs) (f ∷ placed e fs)) ≡ Some c) [
  | true ↦ λ h. ap Some (sym is)
  | false ↦ λ h. ⊎_elim
      (λ (same : f ≡ c). ap Some same)
      (λ (first : goes_before c f ≡ true). let no : false ≡ true = sym h ∙ ap (λ x. goes_before x f) (sym is) ∙ first in cc)
      (least f (inl refl))
] refl

behind_first : (c e : Cell) (es : List Cell) → (e ≡ c) ⊎ (goes_before c e ≡ true) → head_cell (in_order es) ≡ Some c → head_cell (placed e (in_order es)) ≡ Some c
behind_first c e es least h = elim (in_order es) as (λ fs. head_cell fs ≡ Some c → head_cell (placed e fs) ≡ Some c) [
  | [] ↦ λ none. absurd (none_some c none)
  | f ∷ fs ↦ λ some.
      let one : f ≡ c = some_same f c some in
      elim (goes_before e f) as (λ b. goes_before e f ≡ b → head_cell (cond b (e ∷ f ∷ fs) (f ∷ placed e fs)) ≡ Some c) [
        | true ↦ λ t. ⊎_elim
            (λ (same : e ≡ c). ap Some same)
            (λ (first : goes_before c e ≡ true). absurd (not_both c e first (sym (ap (λ x. goes_before e x) one) ∙ t)))
            least
        | false ↦ λ t. some
      ] refl
] h

-- the one that goes before all others is the first in order
first_in_order : (c : Cell) (cs : List Cell) → AmongCells c cs → ((d : Cell) → AmongCells d cs → (d ≡ c) ⊎ (goes_before c d ≡ true)) → head_cell (in_order cs) ≡ Some c
first_in_order c [] m least = absurd m
first_in_order c (e ∷ es) m least = ⊎_elim
    (λ (is : c ≡ e). before_rest c e is (in_order es) (λ d a. least d (inr (among_order d es a))))
    (λ later. behind_first c e es (least e (inl refl)) (first_in_order c es later (λ d a. least d (inr a))))
    m

pub first_number_is : (cs : List Cell) → first_of cs ≡ number_of (head_cell cs)
first_number_is [] = refl
first_number_is (c ∷ cs) = refl

-- ---- the least item of a queue
module _ (q : Queued Entry) (apart : IsDistinct (serials (inner (held.Queue q)))) (rising : IsRising (inner (held.Queue q))) where
  abbrev xs : List Inner
  xs = inner (held.Queue q)

  pub from_holds : (v : Option (ℤ × Entry)) (d : Cell) → option_map queue_holds v ≡ Some d → (r : ℤ × Entry) × (v ≡ Some r) × (d ≡ queue_holds r)
  from_holds None d e = absurd (none_some d e)
  from_holds (Some r) d e = (r, refl, sym (some_same (queue_holds r) d e))

  -- each other item goes behind it
  goes_behind : (s : ℕ) (least : IsLeastItem q s) (d : Cell) → AmongCells d (map cell_in xs)
      → (d ≡ (least.1.number, least.0 ∷ least.1.value ∷ [])) ⊎ (goes_before (least.1.number, least.0 ∷ least.1.value ∷ []) d ≡ true)
  goes_behind s least d m =
      let x = least.1 in
      let c : Cell = (x.number, least.0 ∷ x.value ∷ []) in
      let there : value_at s xs ≡ Some c = queue_at q s least.0 x least.2.held.0 in
      let t = serial_of_cell d xs xs (all_in xs apart) m in
      let r = from_holds (finmap.get q.live t.0) d (sym (queue_value t.0 q) ∙ t.1) in
      let head : head_of d.1 ≡ r.0.0 = ap (λ (e : Cell). head_of e.1) r.2 in
      ⊎_elim
      (λ (below : least.0 <ℤ r.0.0). inr (precedes c d (inl (subst (λ z. least.0 <ℤ z) (sym head) below))))
      (λ tie. ⊎_elim
      (λ (same : s ≡ t.0). inl (some_same d c (sym t.1 ∙ ap (λ z. value_at z xs) (sym same) ∙ there)))
      (λ ne. inr (precedes c d (inr (tie.0 ∙ sym head, rising s t.0 c d there t.1 (let le : s ≤ t.0 = tie.1 in omega (arith, le, ne))))))
      (cases_eq s t.0))
      (least.2.least t.0 r.0.0 r.0.1 r.1)

  pub least_number : (s : ℕ) → IsLeastItem q s → number_at xs s ≡ first_of (in_order (cells_in (held.Queue q)))
  least_number s least =
      let x = least.1 in
      let c : Cell = (x.number, least.0 ∷ x.value ∷ []) in
      let there : value_at s xs ≡ Some c = queue_at q s least.0 x least.2.held.0 in
      ap number_of there
      ∙ ap number_of (sym (first_in_order c (map cell_in xs) (cell_of_serial s c xs there) (goes_behind s least)))
      ∙ sym (first_number_is (in_order (map cell_in xs)))

  pub none_least : q.live ≡ finmap.empty → None ≡ first_of (in_order (cells_in (held.Queue q)))
  none_least none = ap (λ ys. first_of (in_order (map cell_in ys))) (sym (queue_bare q none))

of_least : (q : Queued Entry) (apart : IsDistinct (serials (inner (held.Queue q)))) (rising : IsRising (inner (held.Queue q))) (r : Option Item) → MatchOption r (q.live ≡ finmap.empty) (λ it. IsLeastItem q it.serial)
    → option_and_then (number_at (inner (held.Queue q))) (serial_of r) ≡ first_of (in_order (cells_in (held.Queue q)))
of_least q apart rising None h = none_least q apart rising h
of_least q apart rising (Some it) h = least_number q apart rising it.serial h

-- a queue has one such place
queue_near : (near : Near) → is_of (near_kinds near) sorts.Queue ≡ true → near ≡ Least
queue_near First h = let no : false ≡ true = h in cc
queue_near Last h = let no : false ≡ true = h in cc
queue_near (WithKey k) h = let no : false ≡ true = h in cc
queue_near Least h = refl
queue_near (Behind it) h = let no : false ≡ true = h in cc
queue_near (Before it) h = let no : false ≡ true = h in cc
queue_near (RoundBehind it) h = let no : false ≡ true = h in cc
queue_near (RoundBefore it) h = let no : false ≡ true = h in cc

pub least_there : (o : Held) (q : Queued Entry) → o ≡ held.Queue q → (near : Near) → CanFind near o → (r : Option Item) (n : Option ℕ) → n ≡ option_and_then (number_at (inner o)) (serial_of r)
    → MatchOption r (q.live ≡ finmap.empty) (λ it. IsLeastItem q it.serial) → IsNumber near o n
least_there o q is near can r n number h =
    let there : CanFind near (held.Queue q) = subst (λ (p : Held). CanFind near p) is can in
    subst (λ (p : Held). IsNumber near p n) (sym is)
    (subst (λ (place : Near). IsNumber place (held.Queue q) n) (sym (queue_near near there.kind))
    ((number ∙ ap (λ (p : Held). option_and_then (number_at (inner p)) (serial_of r)) is) ∙ of_least q there.distinct there.rising r h))
