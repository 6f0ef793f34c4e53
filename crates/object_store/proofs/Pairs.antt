-- What a function that gives items other numbers makes of lists of pairs, and of their changes.
use Rattle.std.proofs.Common.{◌≡◌, ℕ, ◌≢◌, Bool, true, false, cond, List, [], ◌∷◌, map, Some, None, refl, sym, ap, subst, ◌∙◌, inl, inr}
use Rattle.std.specs.Prelude.{◌==◌, ⊤, option_map}
use Rattle.std.proofs.lemmas.Bool.Decides.{eqb_tells}
use Rattle.item_ring.specs.RingLists.{IsIn, IsDistinct}
use Rattle.item_list.specs.Items.{serials, value_at, pairs_without, pairs_with, pairs_before, pairs_behind}

some_none : {A : Type 0} (a : A) → Some a ≡ None → ⊥
some_none a e = cc

none_some : {A : Type 0} (a : A) → None ≡ Some a → ⊥
none_some a e = cc

pub same_number : (x y : ℕ) → (x == y) ≡ true → x ≡ y
same_number x y e = elim (eqb_tells x y) [
  | inl h ↦ h.1
  | inr h ↦ let no : false ≡ true = sym h.0 ∙ e in cc
]

pub number_itself : (x : ℕ) → (x == x) ≡ true
number_itself x = elim (eqb_tells x x) [
  | inl h ↦ h.0
  | inr h ↦ absurd (h.1 refl)
]

pub number_of : (x y : ℕ) → x ≡ y → (x == y) ≡ true
number_of x y e = subst (λ (z : ℕ). (x == z) ≡ true) e (number_itself x)

pub number_not : (x y : ℕ) → x ≢ y → (x == y) ≡ false
number_not x y ne = elim (eqb_tells x y) [
  | inl h ↦ absurd (ne h.1)
  | inr h ↦ h.0
]

map_cond : {A B : Type 0} (f : A → B) (b : Bool) (xs ys : List A) → map f (cond b xs ys) ≡ cond b (map f xs) (map f ys)
map_cond f true xs ys = refl
map_cond f false xs ys = refl

-- ---- one list
module _ {X : Type 0} where
  -- what has a value is in the list
  pub in_list : (s : ℕ) (ps : List (ℕ × X)) (x : X) → value_at s ps ≡ Some x → IsIn s (serials ps)
  in_list s [] x e = absurd (none_some x e)
  in_list s (p ∷ ps) x e = elim (eqb_tells p.0 s) [
    | inl h ↦ inl (sym h.1)
    | inr h ↦ inr (in_list s ps x (sym (ap (λ b. cond b (Some p.1) (value_at s ps)) h.0) ∙ e))
  ]

  pub value_first : (p : ℕ × X) (ps : List (ℕ × X)) → value_at p.0 (p ∷ ps) ≡ Some p.1
  value_first p ps = ap (λ b. cond b (Some p.1) (value_at p.0 ps)) (number_itself p.0)

  -- behind the first of distinct items
  pub value_later : (s : ℕ) (p : ℕ × X) (ps : List (ℕ × X)) (x : X) → IsDistinct (serials (p ∷ ps)) → value_at s ps ≡ Some x → value_at s (p ∷ ps) ≡ Some x
  value_later s p ps x apart e =
      let ne : p.0 ≢ s = λ is. apart.0 (subst (λ (z : ℕ). IsIn z (serials ps)) (sym is) (in_list s ps x e)) in
      ap (λ b. cond b (Some p.1) (value_at s ps)) (number_not p.0 s ne) ∙ e

-- ---- two lists: f gives each item another number, where g is what it makes of the values
module _ {X Y : Type 0} (f : ℕ × X → ℕ × Y) (s i : ℕ) where
  -- f gives the number i to the item s, and to no other
  abbrev pub Agrees : List (ℕ × X) → Type 0
  Agrees [] = ⊤
  Agrees (p ∷ ps) = (((f p).0 == i) ≡ (p.0 == s)) × Agrees ps

  pub without_of : (ps : List (ℕ × X)) → Agrees ps → map f (pairs_without s ps) ≡ pairs_without i (map f ps)
  without_of [] h = refl
  without_of (p ∷ ps) h = map_cond f (p.0 == s) (pairs_without s ps) (p ∷ pairs_without s ps)
      ∙ (λ j. cond (sym h.0 j) (without_of ps h.1 j) (f p ∷ without_of ps h.1 j))

  pub before_of : (q : ℕ × X) (ps : List (ℕ × X)) → Agrees ps → map f (pairs_before s q ps) ≡ pairs_before i (f q) (map f ps)
  before_of q [] h = refl
  before_of q (p ∷ ps) h = map_cond f (p.0 == s) (q ∷ p ∷ ps) (p ∷ pairs_before s q ps)
      ∙ (λ j. cond (sym h.0 j) (f q ∷ f p ∷ map f ps) (f p ∷ before_of q ps h.1 j))

  pub behind_of : (q : ℕ × X) (ps : List (ℕ × X)) → Agrees ps → map f (pairs_behind s q ps) ≡ pairs_behind i (f q) (map f ps)
  behind_of q [] h = refl
  behind_of q (p ∷ ps) h = map_cond f (p.0 == s) (p ∷ q ∷ ps) (p ∷ pairs_behind s q ps)
      ∙ (λ j. cond (sym h.0 j) (f p ∷ f q ∷ map f ps) (f p ∷ behind_of q ps h.1 j))

  pub with_of : (x : X) (y : Y) → f (s, x) ≡ (i, y) → (ps : List (ℕ × X)) → Agrees ps → map f (pairs_with s x ps) ≡ pairs_with i y (map f ps)
  with_of x y is [] h = refl
  with_of x y is (p ∷ ps) h = map_cond f (p.0 == s) ((s, x) ∷ pairs_with s x ps) (p ∷ pairs_with s x ps)
      ∙ (λ j. cond (sym h.0 j) (is j ∷ with_of x y is ps h.1 j) (f p ∷ with_of x y is ps h.1 j))

  pub value_of : (g : X → Y) → ((p : ℕ × X) → (f p).1 ≡ g p.1) → (ps : List (ℕ × X)) → Agrees ps → value_at i (map f ps) ≡ option_map g (value_at s ps)
  value_of g is [] h = refl
  value_of g is (p ∷ ps) h =
      (λ j. cond (h.0 j) (Some (is p j)) (value_of g is ps h.1 j))
      ∙ elim (p.0 == s) as (λ b. cond b (Some (g p.1)) (option_map g (value_at s ps)) ≡ option_map g (cond b (Some p.1) (value_at s ps))) [ true ↦ refl | false ↦ refl ]

-- a function that keeps the numbers agrees at each of them
pub keeps : {X Y : Type 0} (f : ℕ × X → ℕ × Y) → ((p : ℕ × X) → (f p).0 ≡ p.0) → (s : ℕ) (ps : List (ℕ × X)) → Agrees f s s ps
keeps f is s [] = tt
keeps f is s (p ∷ ps) = (ap (λ (z : ℕ). z == s) (is p), keeps f is s ps)
