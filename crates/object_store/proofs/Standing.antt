-- Where an item stands among others, said with serials and with numbers.
use Rattle.std.proofs.Common.{◌≡◌, ℕ, true, false, cond, List, [], ◌∷◌, ◌++◌, map, Option, Some, None, refl, sym, ap, subst, ◌∙◌, inl, inr}
use Rattle.std.specs.Prelude.{ℤ, ◌==◌, ⊤, option_map, option_and_then, find as first_such}
use Rattle.std.specs.Ordering.{int_eq}
use Rattle.std.proofs.lemmas.Bool.Decides.{eqb_tells}
use Rattle.item_pool.specs.declared.pool.Item.{Item}
use Rattle.item_ring.specs.RingLists.{IsDistinct, front, back}
use Rattle.item_list.specs.Items.{Items, serials, serial_of, value_at}
use Rattle.item_list.proofs.Turned.{serials_join}
use Rattle.object_store.specs.declared.near.Near.{Near}
use Rattle.object_store.specs.declared.near.Near.TheVariants.{First, Last, WithKey, Least, Behind, Before, RoundBehind, RoundBefore}
use Rattle.object_store.specs.declared.object.Entry.{Entry}
use Rattle.object_store.specs.declared.object.Object.{Object as Held}
use Rattle.object_store.specs.declared.object.Object.TheVariants as held
use Rattle.object_store.specs.State.{Cell}
use Rattle.object_store.specs.Cells.{head_of, first_of, last_of, before, behind, with_key}
use Rattle.object_store.specs.Commands.{number_of}
use Rattle.object_store.specs.Inner.{Inner, inner, list_cell, cell_in}
use Rattle.object_store.specs.Near.{number_at, IsItem, IsNumber}
use Rattle.object_store.proofs.Lists.{cond_true, cond_false}
use Rattle.object_store.proofs.Pairs.{Agrees, value_first, value_later, number_itself}

none_some : {A : Type 0} (a : A) → None ≡ Some a → ⊥
none_some a e = cc

-- ---- items that are among others
abbrev pub AllIn : List Inner → List Inner → Type 0
AllIn xs [] = ⊤
AllIn xs (p ∷ ps) = (value_at p.0 xs ≡ Some p.1) × AllIn xs ps

later_in : (q : Inner) (xs ys : List Inner) → IsDistinct (serials (q ∷ xs)) → AllIn xs ys → AllIn (q ∷ xs) ys
later_in q xs [] apart h = tt
later_in q xs (y ∷ ys) apart h = (value_later y.0 q xs y.1 apart h.0, later_in q xs ys apart h.1)

pub all_in : (xs : List Inner) → IsDistinct (serials xs) → AllIn xs xs
all_in [] apart = tt
all_in (x ∷ xs) apart = (value_first x xs, later_in x xs xs apart (all_in xs apart.1))

pub all_join : (xs ys zs : List Inner) → AllIn xs ys → AllIn xs zs → AllIn xs (ys ++ zs)
all_join xs [] zs h k = k
all_join xs (y ∷ ys) zs h k = (h.0, all_join xs ys zs h.1 k)

pub all_left : (xs ys zs : List Inner) → AllIn xs (ys ++ zs) → AllIn xs ys
all_left xs [] zs h = tt
all_left xs (y ∷ ys) zs h = (h.0, all_left xs ys zs h.1)

pub all_right : (xs ys zs : List Inner) → AllIn xs (ys ++ zs) → AllIn xs zs
all_right xs [] zs h = h
all_right xs (y ∷ ys) zs h = all_right xs ys zs h.1

-- their numbers
pub first_number : (xs ys : List Inner) → AllIn xs ys → option_and_then (number_at xs) (front (serials ys)) ≡ first_of (map cell_in ys)
first_number xs [] h = refl
first_number xs (y ∷ ys) h = ap (λ v. option_map (λ (c : Cell). c.0) v) h.0

pub last_number : (xs ys : List Inner) → AllIn xs ys → option_and_then (number_at xs) (back (serials ys)) ≡ last_of (map cell_in ys)
last_number xs [] h = refl
last_number xs (y ∷ []) h = ap (λ v. option_map (λ (c : Cell). c.0) v) h.0
last_number xs (y ∷ z ∷ ys) h = last_number xs (z ∷ ys) h.1

-- ---- a list that is cut at an item
abbrev pub HasNone : ℕ → List Inner → Type 0
HasNone s [] = ⊤
HasNone s (p ∷ ps) = ((p.0 == s) ≡ false) × HasNone s ps

pub record Cut (s : ℕ) (c : Cell) (xs : List Inner) : Type 0 where
  pub front : List Inner
  pub rear : List Inner
  pub whole : xs ≡ front ++ (s, c) ∷ rear
  pub none : HasNone s front

pub cut_at : (s : ℕ) (c : Cell) (xs : List Inner) → value_at s xs ≡ Some c → Cut s c xs
cut_at s c [] e = absurd (none_some c e)
cut_at s c (x ∷ xs) e = elim (eqb_tells x.0 s) [
  | inl h ↦
      let one : Some x.1 ≡ Some c = sym (cond_true (x.0 == s) (Some x.1) (value_at s xs) h.0) ∙ e in
      let is : x.1 ≡ c = cc in
      record { front = []; rear = xs; whole = λ i. (h.1 i, is i) ∷ xs; none = tt }
  | inr h ↦
      let r = cut_at s c xs (sym (cond_false (x.0 == s) (Some x.1) (value_at s xs) h.0) ∙ e) in
      record { front = x ∷ r.front; rear = r.rear; whole = ap (λ ys. x ∷ ys) r.whole; none = (h.0, r.none) }
]

module _ (s i : ℕ) (c : Cell) (rs : List Inner) where
  pub behind_cut : (bs : List Inner) → HasNone s bs → Agrees cell_in s i (bs ++ (s, c) ∷ rs) → behind i (map cell_in (bs ++ (s, c) ∷ rs)) ≡ map cell_in rs
  behind_cut [] none h = cond_true (c.0 == i) (map cell_in rs) (behind i (map cell_in rs)) (h.0 ∙ number_itself s)
  behind_cut (b ∷ bs) none h =
      cond_false (b.1.0 == i) (map cell_in (bs ++ (s, c) ∷ rs)) (behind i (map cell_in (bs ++ (s, c) ∷ rs))) (h.0 ∙ none.0)
      ∙ behind_cut bs none.1 h.1

  pub before_cut : (bs : List Inner) → HasNone s bs → Agrees cell_in s i (bs ++ (s, c) ∷ rs) → before i (map cell_in (bs ++ (s, c) ∷ rs)) ≡ map cell_in bs
  before_cut [] none h = cond_true (c.0 == i) [] (c ∷ before i (map cell_in rs)) (h.0 ∙ number_itself s)
  before_cut (b ∷ bs) none h =
      cond_false (b.1.0 == i) [] (b.1 ∷ before i (map cell_in (bs ++ (s, c) ∷ rs))) (h.0 ∙ none.0)
      ∙ ap (λ ys. b.1 ∷ ys) (before_cut bs none.1 h.1)

-- ---- the item there, by its serial
-- the item with the key
abbrev pub key_in : ℤ → List Inner → Option Inner
key_in k xs = first_such (λ (x : Inner). int_eq (head_of x.1.1) k) xs

-- its number
key_number : (k : ℤ) (xs ys : List Inner) → AllIn xs ys → option_and_then (number_at xs) (option_map (λ (x : Inner). x.0) (key_in k ys)) ≡ number_of (with_key k (map cell_in ys))
key_number k xs [] h = refl
key_number k xs (y ∷ ys) h =
    elim (int_eq (head_of y.1.1) k) as (λ b. option_and_then (number_at xs) (option_map (λ (x : Inner). x.0) (cond b (Some y) (key_in k ys))) ≡ number_of (cond b (Some y.1) (with_key k (map cell_in ys)))) [
      | true ↦ ap (λ v. option_map (λ (c : Cell). c.0) v) h.0
      | false ↦ key_number k xs ys h.1
    ]

-- the item is the one that stands there among others
abbrev pub IsSerial : Near → List Inner → Option Item → Type 0
IsSerial First xs r = serial_of r ≡ front (serials xs)
IsSerial Last xs r = serial_of r ≡ back (serials xs)
IsSerial (WithKey k) xs r = serial_of r ≡ option_map (λ (x : Inner). x.0) (key_in k xs)
IsSerial Least xs r = ⊥
IsSerial (Behind it) xs r =
    (bs rs : List Inner) (c : Cell) → xs ≡ bs ++ (it.serial, c) ∷ rs → serial_of r ≡ front (serials rs)
IsSerial (Before it) xs r =
    (bs rs : List Inner) (c : Cell) → xs ≡ bs ++ (it.serial, c) ∷ rs → serial_of r ≡ back (serials bs)
IsSerial (RoundBehind it) xs r =
    (bs rs : List Inner) (c : Cell) → xs ≡ bs ++ (it.serial, c) ∷ rs
    → serial_of r ≡ front (serials (rs ++ bs ++ (it.serial, c) ∷ []))
IsSerial (RoundBefore it) xs r =
    (bs rs : List Inner) (c : Cell) → xs ≡ bs ++ (it.serial, c) ∷ rs
    → serial_of r ≡ back (serials ((it.serial, c) ∷ rs ++ bs))

module _ (o : Held) (r : Option Item) (n : Option ℕ) (apart : IsDistinct (serials (inner o))) (is : n ≡ option_and_then (number_at (inner o)) (serial_of r)) where
  abbrev xs : List Inner
  xs = inner o

  parts : (bs rs : List Inner) (s : ℕ) (c : Cell) → xs ≡ bs ++ (s, c) ∷ rs → AllIn xs bs × (AllIn xs ((s, c) ∷ rs))
  parts bs rs s c e =
      let all : AllIn xs (bs ++ (s, c) ∷ rs) = subst (AllIn xs) e (all_in xs apart) in
      (all_left xs bs ((s, c) ∷ rs) all, all_right xs bs ((s, c) ∷ rs) all)

  of_first : (ys : List Inner) → AllIn xs ys → serial_of r ≡ front (serials ys) → n ≡ first_of (map cell_in ys)
  of_first ys all h = is ∙ ap (option_and_then (number_at xs)) h ∙ first_number xs ys all

  of_last : (ys : List Inner) → AllIn xs ys → serial_of r ≡ back (serials ys) → n ≡ last_of (map cell_in ys)
  of_last ys all h = is ∙ ap (option_and_then (number_at xs)) h ∙ last_number xs ys all

  pub number_there : (near : Near) → IsSerial near xs r → IsNumber near o n
  number_there First h = of_first xs (all_in xs apart) h
  number_there Last h = of_last xs (all_in xs apart) h
  number_there (WithKey k) h = is ∙ ap (option_and_then (number_at xs)) h ∙ key_number k xs xs (all_in xs apart)
  number_there Least h = absurd h
  number_there (Behind it) h = λ bs rs c e. of_first rs (parts bs rs it.serial c e).1.1 (h bs rs c e)
  number_there (Before it) h = λ bs rs c e. of_last bs (parts bs rs it.serial c e).0 (h bs rs c e)
  number_there (RoundBehind it) h = λ bs rs c e.
      let w = parts bs rs it.serial c e in
      of_first (rs ++ bs ++ (it.serial, c) ∷ [])
      (all_join xs (rs ++ bs) ((it.serial, c) ∷ []) (all_join xs rs bs w.1.1 w.0) (w.1.0, tt)) (h bs rs c e)
  number_there (RoundBefore it) h = λ bs rs c e.
      let w = parts bs rs it.serial c e in
      of_last ((it.serial, c) ∷ rs ++ bs) (w.1.0, all_join xs rs bs w.1.1 w.0) (h bs rs c e)

-- ---- lists
serials_map : (ps : List (ℕ × Entry)) → serials (map list_cell ps) ≡ serials ps
serials_map [] = refl
serials_map (p ∷ ps) = ap (λ r. p.0 ∷ r) (serials_map ps)

module _ (l : Items Entry) (r : Option Item) where
  between : (bs rs : List Inner) (s : ℕ) (c : Cell) → inner (held.List l) ≡ bs ++ (s, c) ∷ rs → serials l.pairs ≡ serials bs ++ s ∷ serials rs
  between bs rs s c e = sym (serials_map l.pairs) ∙ ap serials e ∙ serials_join bs ((s, c) ∷ rs)

  pub list_serial : (near : Near) → IsItem near l r → IsSerial near (inner (held.List l)) r
  list_serial First h = h ∙ ap front (sym (serials_map l.pairs))
  list_serial Last h = h ∙ ap back (sym (serials_map l.pairs))
  list_serial (WithKey k) h = absurd h
  list_serial Least h = absurd h
  list_serial (Behind it) h = λ bs rs c e. h (serials bs) (serials rs) (between bs rs it.serial c e)
  list_serial (Before it) h = λ bs rs c e. h (serials bs) (serials rs) (between bs rs it.serial c e)
  list_serial (RoundBehind it) h = λ bs rs c e.
      h (serials bs) (serials rs) (between bs rs it.serial c e)
      ∙ ap front (sym (serials_join (rs ++ bs) ((it.serial, c) ∷ []) ∙ ap (λ zs. zs ++ it.serial ∷ []) (serials_join rs bs)))
  list_serial (RoundBefore it) h = λ bs rs c e.
      h (serials bs) (serials rs) (between bs rs it.serial c e) ∙ ap (λ zs. back (it.serial ∷ zs)) (sym (serials_join rs bs))
