-- A list of cells that rises is what it holds in order, and what a queue lists rises.
use Rattle.std.proofs.Common.{◌≡◌, ℕ, zero, suc, ◌<◌, ◌≤◌, true, false, cond, List, [], ◌∷◌, map, length, take, Some, None, Ok, Err, refl, sym, ap, subst, ◌∙◌, ◌⊎◌, inl, inr, ⊎_elim, arith}
use Rattle.std.proofs.lemmas.Int.{ints}
use Rattle.std.specs.Prelude.{ℤ, ◌<ℤ◌, ⊤, slice_index, slice_index_or, Contains, MatchResult, Result, is_err}
use Rattle.std.specs.declared.cmp.Ordering.{Ordering}
use Rattle.std.specs.declared.cmp.Ordering.TheVariants.{Less, Equal, Greater}
use Rattle.std.specs.Ordering.{int_cmp}
use Rattle.std.specs.Cmp.{int_ranked}
use Rattle.std.specs.FinMap as finmap
use Rattle.item_pool.specs.declared.pool.Item.{Item}
use Rattle.item_ring.specs.RingLists.{IsIn, IsDistinct}
use Rattle.item_list.specs.Items.{serials, value_at}
use Rattle.item_queue.specs.Contents.{Queued, HoldsPriority}
use Rattle.item_queue.specs.Listing.{IsListing, serials_of}
use Rattle.item_queue.specs.Order.{Below}
use Rattle.reply_text.specs.declared.reply.CellShow.{CellShow}
use Rattle.object_store.specs.declared.object.Entry.{Entry}
use Rattle.object_store.specs.declared.object.Object.TheVariants as held
use Rattle.object_store.specs.State.{Cell}
use Rattle.object_store.specs.Cells.{goes_before, head_of, in_order, placed, shown}
use Rattle.object_store.specs.Inner.{Inner, inner, cell_in, cells_in}
use Rattle.object_store.specs.Near.{IsRising}
use Rattle.object_store.specs.Shown.{IsShowable}
use Rattle.object_store.proofs.Going.{queue_holds, queue_value}
use Rattle.object_store.proofs.ItemsRead.{queue_at}
use Rattle.object_store.proofs.Listings.{Picks, ShowsSerials, at_serial, serials_long, take_whole}
use Rattle.object_store.proofs.Ordered.{AmongCells, among_order, among_placed, cell_of_serial, from_holds, not_both, precedes, precedes_is, serial_of_cell}
use Rattle.object_store.proofs.Pairs.{in_list, value_first, value_later}
use Rattle.object_store.proofs.Standing.{all_in}

some_same : {A : Type 0} (a b : A) → Some a ≡ Some b → a ≡ b
some_same a b e = cc

none_some : {A : Type 0} (a : A) → None ≡ Some a → ⊥
none_some a e = cc

-- ---- cells that rise
abbrev pub BeforeAll : Cell → List Cell → Type 0
BeforeAll c [] = ⊤
BeforeAll c (d ∷ ds) = (goes_before c d ≡ true) × BeforeAll c ds

abbrev pub Rises : List Cell → Type 0
Rises [] = ⊤
Rises (c ∷ cs) = BeforeAll c cs × Rises cs

each_before : (c : Cell) (ds : List Cell) → BeforeAll c ds → (d : Cell) → AmongCells d ds → goes_before c d ≡ true
each_before c [] h d m = absurd m
each_before c (e ∷ es) h d m = ⊎_elim (λ (is : d ≡ e). ap (λ z. goes_before c z) is ∙ h.0) (λ later. each_before c es h.1 d later) m

all_before : (c : Cell) (ds : List Cell) → ((d : Cell) → AmongCells d ds → goes_before c d ≡ true) → BeforeAll c ds
all_before c [] h = tt
all_before c (d ∷ ds) h = (h d (inl refl), all_before c ds (λ e m. h e (inr m)))

less_through : (x y z : ℤ) → x <ℤ y → y <ℤ z → x <ℤ z
less_through x y z a b = omega (arith, ints, a, b)

passes : (c d e : Cell) → goes_before c d ≡ true → goes_before d e ≡ true → goes_before c e ≡ true
passes c d e a b = precedes c e (⊎_elim
    (λ l. ⊎_elim
    (λ m. inl (less_through (head_of c.1) (head_of d.1) (head_of e.1) l m))
    (λ m. inl (subst (λ z. head_of c.1 <ℤ z) m.0 l))
    (precedes_is d e b))
    (λ l. ⊎_elim
    (λ m. inl (subst (λ z. z <ℤ head_of e.1) (sym l.0) m))
    (λ m. inr (l.0 ∙ m.0, (let x = l.1 in let y = m.1 in omega (arith, x, y))))
    (precedes_is d e b))
    (precedes_is c d a))

-- one of two cells goes before the other
abbrev AreOrdered : Cell → Cell → Type 0
AreOrdered c d = (goes_before c d ≡ true) ⊎ (goes_before d c ≡ true)

abbrev pub AllOrdered : List Cell → Type 0
AllOrdered [] = ⊤
AllOrdered (c ∷ cs) = ((d : Cell) → AmongCells d cs → AreOrdered c d) × AllOrdered cs

placed_rises : (c : Cell) (cs : List Cell) → Rises cs → ((d : Cell) → AmongCells d cs → AreOrdered c d) → Rises (placed c cs)
placed_rises c [] rise apart = (tt, tt)
placed_rises c (d ∷ ds) rise apart = elim (goes_before c d) as (λ b. goes_before c d ≡ b → Rises (cond b (c ∷ d ∷ ds) (d ∷ placed c ds))) [
  | true ↦ λ h. ((h, all_before c ds (λ e m. passes c d e h (each_before d ds rise.0 e m))), rise)
  | false ↦ λ h.
      let turned : goes_before d c ≡ true = ⊎_elim
      (λ (yes : goes_before c d ≡ true). absurd (let no : false ≡ true = sym h ∙ yes in cc))
      (λ (yes : goes_before d c ≡ true). yes)
      (apart d (inl refl)) in (
        all_before d (placed c ds) (λ e m. ⊎_elim
            (λ (is : e ≡ c). ap (λ z. goes_before d z) is ∙ turned)
            (λ later. each_before d ds rise.0 e later)
            (among_placed e c ds m)),
        placed_rises c ds rise.1 (λ e m. apart e (inr m)),
      )
] refl

order_rises : (cs : List Cell) → AllOrdered cs → Rises (in_order cs)
order_rises [] h = tt
order_rises (c ∷ cs) h = placed_rises c (in_order cs) (order_rises cs h.1) (λ d m. h.0 d (among_order d cs m))

-- ---- what is in order is all that there is
placed_itself : (c : Cell) (cs : List Cell) → AmongCells c (placed c cs)
placed_itself c [] = inl refl
placed_itself c (d ∷ ds) = elim (goes_before c d) as (λ b. AmongCells c (cond b (c ∷ d ∷ ds) (d ∷ placed c ds))) [
  | true ↦ inl refl
  | false ↦ inr (placed_itself c ds)
]

placed_keeps : (c d : Cell) (cs : List Cell) → AmongCells c cs → AmongCells c (placed d cs)
placed_keeps c d [] m = absurd m
placed_keeps c d (e ∷ es) m = elim (goes_before d e) as (λ b. AmongCells c (cond b (d ∷ e ∷ es) (e ∷ placed d es))) [
  | true ↦ inr m
  | false ↦ ⊎_elim (λ is. inl is) (λ later. inr (placed_keeps c d es later)) m
]

order_keeps : (c : Cell) (cs : List Cell) → AmongCells c cs → AmongCells c (in_order cs)
order_keeps c [] m = m
order_keeps c (d ∷ ds) m = ⊎_elim
    (λ (is : c ≡ d). subst (λ z. AmongCells z (placed d (in_order ds))) (sym is) (placed_itself d (in_order ds)))
    (λ later. placed_keeps c d (in_order ds) (order_keeps c ds later))
    m

-- two lists that rise are equal where they have the same cells
behind_head : (x y c : Cell) (xs ys : List Cell) → x ≡ y → Rises (x ∷ xs) → AmongCells c xs → AmongCells c (y ∷ ys) → AmongCells c ys
behind_head x y c xs ys same rise m n = ⊎_elim
    (λ (is : c ≡ y).
    let first : goes_before x c ≡ true = each_before x xs rise.0 c m in
    let self : goes_before c c ≡ true = ap (λ z. goes_before z c) (is ∙ sym same) ∙ first in
    absurd (not_both c c self self))
    (λ later. later)
    n

same_heads : (x y : Cell) (xs ys : List Cell) → Rises (x ∷ xs) → Rises (y ∷ ys) → AmongCells x (y ∷ ys) → AmongCells y (x ∷ xs) → x ≡ y
same_heads x y xs ys a b m n = ⊎_elim
    (λ (is : x ≡ y). is)
    (λ later. ⊎_elim
    (λ (is : y ≡ x). sym is)
    (λ other. absurd (not_both x y (each_before x xs a.0 y other) (each_before y ys b.0 x later)))
    n)
    m

pub one_order : (xs ys : List Cell) → Rises xs → Rises ys → ((c : Cell) → AmongCells c xs → AmongCells c ys) → ((c : Cell) → AmongCells c ys → AmongCells c xs) → xs ≡ ys
one_order [] [] a b to from = refl
one_order [] (y ∷ ys) a b to from = absurd (from y (inl refl))
one_order (x ∷ xs) [] a b to from = absurd (to x (inl refl))
one_order (x ∷ xs) (y ∷ ys) a b to from =
    let is : x ≡ y = same_heads x y xs ys a b (to x (inl refl)) (from y (inl refl)) in
    let rest : xs ≡ ys = one_order xs ys a.1 b.1
    (λ c m. behind_head x y c xs ys is a m (to c (inr m)))
    (λ c m. behind_head y x c ys xs (sym is) b m (from c (inr m))) in
    λ j. is j ∷ rest j

-- ---- items whose numbers rise with their serials
ranked_cells : (c d : Cell) → (c.0 < d.0) ⊎ (d.0 < c.0) → (o : Ordering) → o ≡ int_cmp (head_of c.1) (head_of d.1) → AreOrdered c d
ranked_cells c d h Less e = inl (precedes c d (inl (int_ranked (head_of c.1) (head_of d.1) Less e)))
ranked_cells c d h Greater e = inr (precedes d c (inl (int_ranked (head_of c.1) (head_of d.1) Greater e)))
ranked_cells c d h Equal e =
    let same : head_of c.1 ≡ head_of d.1 = int_ranked (head_of c.1) (head_of d.1) Equal e in
    ⊎_elim (λ l. inl (precedes c d (inr (same, l)))) (λ l. inr (precedes d c (inr (sym same, l)))) h

apart_numbers : (s t : ℕ) → (s ≡ t → ⊥) → (s < t) ⊎ (t < s)
apart_numbers zero zero ne = absurd (ne refl)
apart_numbers zero (suc t) ne = inl (omega arith)
apart_numbers (suc s) zero ne = inr (omega arith)
apart_numbers (suc s) (suc t) ne = ⊎_elim
    (λ (l : s < t). inl (omega (arith, l)))
    (λ (l : t < s). inr (omega (arith, l)))
    (apart_numbers s t (λ e. ne (ap suc e)))

all_ordered : (xs : List Inner) → IsDistinct (serials xs) → IsRising xs → AllOrdered (map cell_in xs)
all_ordered [] apart rising = tt
all_ordered (x ∷ xs) apart rising = (
  λ d m.
      let w = serial_of_cell d xs xs (all_in xs apart.1) m in
      let there : value_at w.0 (x ∷ xs) ≡ Some d = value_later w.0 x xs d apart w.1 in
      let first : value_at x.0 (x ∷ xs) ≡ Some x.1 = value_first x xs in
      let ne : x.0 ≡ w.0 → ⊥ = λ is. apart.0 (subst (λ z. IsIn z (serials xs)) (sym is) (in_list w.0 xs d w.1)) in
      ranked_cells x.1 d (⊎_elim
      (λ (l : x.0 < w.0). inl (rising x.0 w.0 x.1 d first there l))
      (λ (l : w.0 < x.0). inr (rising w.0 x.0 d x.1 there first l))
      (apart_numbers x.0 w.0 ne)) (int_cmp (head_of x.1.1) (head_of d.1)) refl,
  all_ordered xs apart.1 (λ s t c d a b l. rising s t c d (value_later s x xs c apart a) (value_later t x xs d apart b) l),
)

-- ---- what a queue lists
module _ (q : Queued Entry) (ok : IsShowable (held.Queue q)) (zero_free : finmap.get q.live 0 ≡ None) where
  abbrev xs : List Inner
  xs = inner (held.Queue q)

  live_later : (s : ℕ) (v : ℤ × Entry) → finmap.get q.live s ≡ Some v → 0 < s
  live_later zero v e = absurd (none_some v (sym zero_free ∙ e))
  live_later (suc s) v e = omega arith

  -- a listed item, and what it holds
  holds : (s : ℕ) (c : Cell) → value_at s xs ≡ Some c → (r : ℤ × Entry) × HoldsPriority q s r.0 × (c ≡ queue_holds r)
  holds s c at =
      let w = from_holds q ok.distinct ok.rising (finmap.get q.live s) c (sym (queue_value s q) ∙ at) in
      (w.0, (w.0.1, (w.1, live_later s w.0 w.1, ok.given s c at)), w.2)

  abbrev AreBelow : ℕ → ℕ → Type 0
  AreBelow s t = (p r : ℤ) → HoldsPriority q s p → HoldsPriority q t r → Below p s r t

  abbrev AllBelow : ℕ → List ℕ → Type 0
  AllBelow s [] = ⊤
  AllBelow s (t ∷ ts) = AreBelow s t × AllBelow s ts

  abbrev Listed : List ℕ → Type 0
  Listed [] = ⊤
  Listed (s ∷ ss) = AllBelow s ss × Listed ss

  all_below : (s : ℕ) (ts : List ℕ) → ((k : ℕ) → k < length ts → AreBelow s (slice_index ts k)) → AllBelow s ts
  all_below s [] h = tt
  all_below s (t ∷ ts) h = (h 0 (omega arith), all_below s ts (λ k l. h (suc k) (omega (arith, l))))

  listed : (ss : List ℕ) → ((j k : ℕ) → j < k → k < length ss → AreBelow (slice_index ss j) (slice_index ss k)) → Listed ss
  listed [] h = tt
  listed (s ∷ ss) h = (
    all_below s ss (λ k l. h 0 (suc k) (omega arith) (omega (arith, l))),
    listed ss (λ j k a b. h (suc j) (suc k) (omega (arith, a)) (omega (arith, b))),
  )

  goes : (s t : ℕ) (c d : Cell) → value_at s xs ≡ Some c → value_at t xs ≡ Some d → AreBelow s t → goes_before c d ≡ true
  goes s t c d a b below =
      let u = holds s c a in
      let v = holds t d b in
      let first : head_of c.1 ≡ u.0.0 = ap (λ (e : Cell). head_of e.1) u.2 in
      let second : head_of d.1 ≡ v.0.0 = ap (λ (e : Cell). head_of e.1) v.2 in
      precedes c d (⊎_elim
      (λ less. inl (subst (λ z. z <ℤ head_of d.1) (sym first) (subst (λ z. u.0.0 <ℤ z) (sym second) less)))
      (λ tie. inr (first ∙ tie.0 ∙ sym second, ok.rising s t c d a b tie.1))
      (below u.0.0 v.0.0 u.1 v.1))

  goes_all : (s : ℕ) (c : Cell) (ts : List ℕ) (ds : List Cell) → value_at s xs ≡ Some c → Picks xs ts ds → AllBelow s ts → BeforeAll c ds
  goes_all s c [] [] at picks below = tt
  goes_all s c [] (d ∷ ds) at picks below = absurd picks
  goes_all s c (t ∷ ts) [] at picks below = absurd picks
  goes_all s c (t ∷ ts) (d ∷ ds) at picks below = (goes s t c d at picks.0 below.0, goes_all s c ts ds at picks.1 below.1)

  picks_rise : (ss : List ℕ) (cs : List Cell) → Picks xs ss cs → Listed ss → Rises cs
  picks_rise [] [] picks h = tt
  picks_rise [] (c ∷ cs) picks h = absurd picks
  picks_rise (s ∷ ss) [] picks h = absurd picks
  picks_rise (s ∷ ss) (c ∷ cs) picks h = (goes_all s c ss cs picks.0 picks.1 h.0, picks_rise ss cs picks.1 h.1)

  picks_among : (ss : List ℕ) (cs : List Cell) → Picks xs ss cs → (c : Cell) → AmongCells c cs → AmongCells c (map cell_in xs)
  picks_among ss [] picks c m = absurd m
  picks_among [] (d ∷ ds) picks c m = absurd picks
  picks_among (s ∷ ss) (d ∷ ds) picks c m = ⊎_elim
      (λ (is : c ≡ d). cell_of_serial s c xs (picks.0 ∙ ap Some (sym is)))
      (λ later. picks_among ss ds picks.1 c later)
      m

  among_picks : (ss : List ℕ) (cs : List Cell) → Picks xs ss cs → (s : ℕ) (c : Cell) → value_at s xs ≡ Some c → (k : ℕ) → k < length ss → slice_index_or ss k s ≡ s → AmongCells c cs
  among_picks [] cs picks s c at k less is = absurd (omega (arith, less))
  among_picks (t ∷ ts) [] picks s c at k less is = absurd picks
  among_picks (t ∷ ts) (d ∷ ds) picks s c at zero less is = inl (some_same c d (sym at ∙ ap (λ z. value_at z xs) (sym is) ∙ picks.0))
  among_picks (t ∷ ts) (d ∷ ds) picks s c at (suc k) less is = inr (among_picks ts ds picks.1 s c at k (omega (arith, less)) is)

  pub listing_is : (ss : List ℕ) (cs : List Cell) → IsListing q ss → Picks xs ss cs → cs ≡ in_order (map cell_in xs)
  listing_is ss cs lists picks =
      let cells = map cell_in xs in
      one_order cs (in_order cells) (picks_rise ss cs picks (listed ss (λ j k a b p r. lists.ordered j k p r a b)))
      (order_rises cells (all_ordered xs ok.distinct ok.rising))
      (λ c m. order_keeps c cells (picks_among ss cs picks c m))
      (λ c m.
      let w = serial_of_cell c xs xs (all_in xs ok.distinct) (among_order c cells m) in
      let h = holds w.0 c w.1 in
      let at : Contains ss w.0 = (lists.each w.0).1 (h.0.0, h.1) in
      among_picks ss cs picks w.0 c w.1 at.0 at.1 at.2)

  pub all_listed : (its : List Item) (k : ℕ) (row : List CellShow) → length its ≤ k → IsListing q (serials_of its) → ShowsSerials xs (serials_of (take k its)) row → row ≡ map shown (in_order (cells_in (held.Queue q)))
  all_listed its k row long lists h =
      let picks : Picks xs (serials_of its) h.cells = subst (λ (ys : List Item). Picks xs (serials_of ys) h.cells) (take_whole k its long) h.picks in
      h.is ∙ ap (map shown) (listing_is (serials_of its) h.cells lists picks)

-- a listed item is there
pub listed_there : (q : Queued Entry) (its : List Item) (k : ℕ) (d : Item) → k < length its → IsListing q (serials_of its) → (c : Cell) × (value_at (slice_index_or its k d).serial (inner (held.Queue q)) ≡ Some c)
listed_there q its k d less lists =
    let s : ℕ = (slice_index_or its k d).serial in
    let long : length (serials_of its) ≡ length its = serials_long its in
    let at : Contains (serials_of its) s = (k, omega (arith, less, long), at_serial its k d s less) in
    let h = (lists.each s).0 at in
    ((h.1.0.number, h.0 ∷ h.1.0.value ∷ []), queue_at q s h.0 h.1.0 h.1.1.0)

-- no item has a serial that is looked up in vain
pub zero_gone : {A E : Type 0} (q : Queued Entry) (P : A → Type 0) (W : E → Type 0) (r : Result A E) → MatchResult r P (λ why. (finmap.get q.live 0 ≡ None) × W why) → is_err r ≡ true → finmap.get q.live 0 ≡ None
zero_gone q P W (Ok x) m e = let twice : false ≡ true = e in cc
zero_gone q P W (Err why) m e = m.0
