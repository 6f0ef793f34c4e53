-- The items of an object that were shown, and those that weren't yet.
use Rattle.std.proofs.Common.{◌≡◌, ℕ, zero, suc, ◌<◌, ◌≤◌, ◌+◌, List, [], ◌∷◌, ◌++◌, map, length, take, Option, Some, None, Ok, Err, refl, sym, ap, subst, ◌∙◌, append_assoc, length-append, arith}
use Rattle.std.proofs.Math.Seq.{take-suc}
use Rattle.std.specs.Prelude.{⊤, IfOk, Result, slice_index_or}
use Rattle.item_pool.specs.declared.pool.Item.{Item}
use Rattle.item_ring.specs.RingLists.{IsDistinct, front}
use Rattle.item_list.specs.Items.{serials, serial_of, value_at}
use Rattle.item_queue.specs.Listing.{serials_of}
use Rattle.reply_text.specs.declared.reply.CellShow.{CellShow}
use Rattle.object_store.specs.State.{Cell}
use Rattle.object_store.specs.declared.kind.ObjectKind.{ObjectKind}
use Rattle.object_store.specs.declared.kind.ObjectKind.TheVariants as sorts
use Rattle.object_store.specs.Cells.{listed_by, shown}
use Rattle.object_store.specs.Inner.{Inner, cell_in}
use Rattle.object_store.specs.Near.{HasThere}
use Rattle.object_store.specs.Shown.{IsShown}
use Rattle.object_store.proofs.Entries.{length_of}
use Rattle.object_store.proofs.Lists.{map_more}
use Rattle.object_store.proofs.Standing.{AllIn, all_in, all_right}

some_none : {A : Type 0} (a : A) → Some a ≡ None → ⊥
some_none a e = cc

none_some : {A : Type 0} (a : A) → None ≡ Some a → ⊥
none_some a e = cc

some_same : {A : Type 0} (a b : A) → Some a ≡ Some b → a ≡ b
some_same a b e = cc

bare_end : {A : Type 0} (xs : List A) → xs ++ [] ≡ xs
bare_end [] = refl
bare_end (x ∷ xs) = ap (λ ys. x ∷ ys) (bare_end xs)

-- ---- the serials stand for these cells
abbrev pub Picks : List Inner → List ℕ → List Cell → Type 0
Picks xs [] [] = ⊤
Picks xs [] (c ∷ cs) = ⊥
Picks xs (s ∷ ss) [] = ⊥
Picks xs (s ∷ ss) (c ∷ cs) = (value_at s xs ≡ Some c) × Picks xs ss cs

pub picks_more : (xs : List Inner) (ss : List ℕ) (cs : List Cell) (s : ℕ) (c : Cell) → Picks xs ss cs → value_at s xs ≡ Some c → Picks xs (ss ++ s ∷ []) (cs ++ c ∷ [])
picks_more xs [] [] s c h at = (at, tt)
picks_more xs [] (d ∷ ds) s c h at = absurd h
picks_more xs (t ∷ ts) [] s c h at = absurd h
picks_more xs (t ∷ ts) (d ∷ ds) s c h at = (h.0, picks_more xs ts ds s c h.1 at)

-- the row shows them
pub record ShowsSerials (xs : List Inner) (ss : List ℕ) (row : List CellShow) : Type 0 where
  pub cells : List Cell
  pub picks : Picks xs ss cells
  pub is : row ≡ map shown cells

pub shows_more : (xs : List Inner) (ss : List ℕ) (row : List CellShow) (s : ℕ) (r : CellShow) → ShowsSerials xs ss row → IsShown xs s r → ShowsSerials xs (ss ++ s ∷ []) (row ++ r ∷ [])
shows_more xs ss row s r h one = record {
  cells = h.cells ++ one.0 ∷ [];
  picks = picks_more xs ss h.cells s one.0 h.picks one.1;
  is = (λ j. h.is j ++ one.2 j ∷ []) ∙ sym (map_more shown h.cells (one.0 ∷ []));
}

-- ---- the row shows the items up to the next one
pub record ShowsUpTo (xs : List Inner) (next : Option Item) (row : List CellShow) : Type 0 where
  pub gone : List Inner
  pub rest : List Inner
  pub whole : xs ≡ gone ++ rest
  pub first : serial_of next ≡ front (serials rest)
  pub is : row ≡ map shown (map cell_in gone)

pub shows_none : (xs : List Inner) (next : Option Item) (row : List CellShow) → row ≡ [] → serial_of next ≡ front (serials xs) → ShowsUpTo xs next row
shows_none xs next row bare first = record { gone = []; rest = xs; whole = refl; first = first; is = bare }

no_rest : (xs gone rest : List Inner) → xs ≡ gone ++ rest → None ≡ front (serials rest) → xs ≡ gone
no_rest xs gone [] whole first = whole ∙ bare_end gone
no_rest xs gone (p ∷ ps) whole first = absurd (none_some p.0 first)

pub shows_all : (xs : List Inner) (next : Option Item) (row : List CellShow) → next ≡ None → ShowsUpTo xs next row → row ≡ map shown (map cell_in xs)
shows_all xs next row last h =
    h.is ∙ ap (λ ys. map shown (map cell_in ys)) (sym (no_rest xs h.gone h.rest h.whole (ap serial_of (sym last) ∙ h.first)))

-- the item that is next, among all
record NextAt (xs : List Inner) (s : ℕ) (gone rest : List Inner) : Type 0 where
  pub cell : Cell
  pub later : List Inner
  pub whole : xs ≡ gone ++ (s, cell) ∷ later

cut_next : (xs : List Inner) (s : ℕ) (gone rest : List Inner) → xs ≡ gone ++ rest → Some s ≡ front (serials rest) → NextAt xs s gone rest
cut_next xs s gone [] whole first = absurd (some_none s first)
cut_next xs s gone (p ∷ ps) whole first =
    let is : p.0 ≡ s = sym (some_same s p.0 first) in
    record { cell = p.1; later = ps; whole = whole ∙ (λ j. gone ++ (is j, p.1) ∷ ps) }

next_at : (xs : List Inner) (next : Option Item) (item : Item) (row : List CellShow) → next ≡ Some item → (h : ShowsUpTo xs next row) → NextAt xs item.serial h.gone h.rest
next_at xs next item row is h = cut_next xs item.serial h.gone h.rest h.whole (ap serial_of (sym is) ∙ h.first)

there_at : (xs : List Inner) (s : ℕ) (gone rest : List Inner) → IsDistinct (serials xs) → (w : NextAt xs s gone rest) → value_at s xs ≡ Some w.cell
there_at xs s gone rest apart w =
    (all_right xs gone ((s, w.cell) ∷ w.later) (subst (λ ys. AllIn xs ys) w.whole (all_in xs apart))).0

pub next_there : (xs : List Inner) (next : Option Item) (item : Item) (row : List CellShow) → IsDistinct (serials xs) → next ≡ Some item → ShowsUpTo xs next row → HasThere item xs
next_there xs next item row apart is h =
    let w = next_at xs next item row is h in
    (w.cell, there_at xs item.serial h.gone h.rest apart w)

pub shows_next : (xs : List Inner) (next after : Option Item) (item : Item) (row : List CellShow) (r : CellShow) → IsDistinct (serials xs) → next ≡ Some item → ShowsUpTo xs next row → IsShown xs item.serial r
    → ((bs rs : List Inner) (c : Cell) → xs ≡ bs ++ (item.serial, c) ∷ rs → serial_of after ≡ front (serials rs)) → ShowsUpTo xs after (row ++ r ∷ [])
shows_next xs next after item row r apart is h one behind =
    let w = next_at xs next item row is h in
    let p : Inner = (item.serial, w.cell) in
    let same : one.0 ≡ w.cell = some_same one.0 w.cell (sym one.1 ∙ there_at xs item.serial h.gone h.rest apart w) in
    record {
      gone = h.gone ++ p ∷ [];
      rest = w.later;
      whole = w.whole ∙ sym (append_assoc h.gone (p ∷ []) w.later);
      first = behind h.gone w.later w.cell w.whole;
      is =
          (λ j. h.is j ++ (one.2 ∙ ap shown same) j ∷ [])
          ∙ sym (ap (map shown) (map_more cell_in h.gone (p ∷ [])) ∙ map_more shown (map cell_in h.gone) (w.cell ∷ []));
    }

pub fewer_left : (xs : List Inner) (next : Option Item) (item : Item) (row : List CellShow) → next ≡ Some item → ShowsUpTo xs next row → length row < length xs
fewer_left xs next item row is h =
    let w = next_at xs next item row is h in
    let p : Inner = (item.serial, w.cell) in
    let left : length row ≡ length h.gone = ap length h.is ∙ length_of shown (map cell_in h.gone) ∙ length_of cell_in h.gone in
    let right : length xs ≡ length h.gone + length (p ∷ w.later) = ap length w.whole ∙ length-append h.gone (p ∷ w.later) in
    omega (arith, left, right)

-- ---- the serials of items
pub at_serial : (its : List Item) (k : ℕ) (d : Item) (x : ℕ) → k < length its → slice_index_or (serials_of its) k x ≡ (slice_index_or its k d).serial
at_serial [] k d x less = absurd (omega (arith, less))
at_serial (it ∷ its) zero d x less = refl
at_serial (it ∷ its) (suc k) d x less = at_serial its k d x (omega (arith, less))

pub serials_long : (its : List Item) → length (serials_of its) ≡ length its
serials_long its = length_of (λ (it : Item). it.serial) its

pub more_serials : (its : List Item) (k : ℕ) (d : Item) → k < length its → serials_of (take (k + 1) its) ≡ serials_of (take k its) ++ (slice_index_or its k d).serial ∷ []
more_serials its k d less =
    let next : k + 1 ≡ suc k = omega arith in
    ap (λ n. serials_of (take n its)) next
    ∙ ap (λ ys. serials_of ys) (take-suc its k d less)
    ∙ map_more (λ (it : Item). it.serial) (take k its) (slice_index_or its k d ∷ [])

pub take_whole : {A : Type 0} (k : ℕ) (xs : List A) → length xs ≤ k → take k xs ≡ xs
take_whole zero [] long = refl
take_whole (suc k) [] long = refl
take_whole zero (x ∷ xs) long = absurd (omega (arith, long))
take_whole (suc k) (x ∷ xs) long = ap (λ ys. x ∷ ys) (take_whole k xs (omega (arith, long)))

-- ---- an item that is read
pub shown_if : {E : Type 0} (r : Result CellShow E) (xs : List Inner) (s : ℕ) (c : Cell) → value_at s xs ≡ Some c → IfOk r (λ x. x ≡ shown c) → IfOk r (λ x. IsShown xs s x)
shown_if (Ok x) xs s c at h = (c, at, h)
shown_if (Err e) xs s c at h = tt

-- ---- no items
pub none_listed : (kind : ObjectKind) → listed_by kind [] ≡ []
none_listed sorts.List = refl
none_listed sorts.Dict = refl
none_listed sorts.Queue = refl
none_listed (sorts.Array sort) = refl
none_listed (sorts.Map sort) = refl
