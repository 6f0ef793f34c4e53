-- What an item that comes into a list of pairs makes of it.
use Rattle.std.proofs.Common.{◌≡◌, ℕ, ◌≢◌, Bool, true, false, cond, List, [], ◌∷◌, ◌++◌, map, Some, None, refl, sym, ap, subst, ◌∙◌, ◌⊎◌, inl, inr}
use Rattle.std.specs.Prelude.{◌==◌}
use Rattle.std.proofs.lemmas.Bool.Decides.{eqb_tells}
use Rattle.item_ring.specs.RingLists.{IsIn, IsDistinct}
use Rattle.item_list.specs.Items.{serials, value_at, pairs_before, pairs_behind}
use Rattle.object_store.specs.declared.entrance.Entrance.{Entrance}
use Rattle.object_store.specs.declared.entrance.Entrance.TheVariants.{At, Key, Priority}
use Rattle.object_store.specs.declared.entrance.Spot.{Spot}
use Rattle.object_store.specs.declared.entrance.Spot.TheVariants.{Front, Rear, Before, Behind}
use Rattle.object_store.specs.Cells.{goes_before}
use Rattle.object_store.specs.Inner.{Inner}
use Rattle.object_store.specs.Entrance.{entered, placed_in, spotted, IsNamedThere, IsThere}
use Rattle.object_store.proofs.Pairs.{before_of, behind_of, keeps, same_number}

some_none : {A : Type 0} (a : A) → Some a ≡ None → ⊥
some_none a e = cc

none_some : {A : Type 0} (a : A) → None ≡ Some a → ⊥
none_some a e = cc

pub map_more : {A B : Type 0} (f : A → B) (xs ys : List A) → map f (xs ++ ys) ≡ map f xs ++ map f ys
map_more f [] ys = refl
map_more f (x ∷ xs) ys = ap (λ zs. f x ∷ zs) (map_more f xs ys)

-- a function that keeps the numbers
pub spotted_of : {X Y : Type 0} (f : ℕ × X → ℕ × Y) → ((p : ℕ × X) → (f p).0 ≡ p.0) → (spot : Spot) (p : ℕ × X) (ps : List (ℕ × X)) → map f (spotted spot p ps) ≡ spotted spot (f p) (map f ps)
spotted_of f same Front p ps = refl
spotted_of f same Rear p ps = map_more f ps (p ∷ [])
spotted_of f same (Before it) p ps = before_of f it.serial it.serial p ps (keeps f same it.serial ps)
spotted_of f same (Behind it) p ps = behind_of f it.serial it.serial p ps (keeps f same it.serial ps)

pub cond_true : {A : Type 0} (b : Bool) (x y : A) → b ≡ true → cond b x y ≡ x
cond_true b x y e = ap (λ c. cond c x y) e

pub cond_false : {A : Type 0} (b : Bool) (x y : A) → b ≡ false → cond b x y ≡ y
cond_false b x y e = ap (λ c. cond c x y) e

pub exchange : {A : Type 0} (a b : Bool) (x y z : A) → (a ≡ true → b ≡ true → ⊥) → cond a x (cond b y z) ≡ cond b y (cond a x z)
exchange true true x y z not = absurd (not refl refl)
exchange true false x y z not = refl
exchange false b x y z not = refl

module _ {X : Type 0} where
  -- the list before, and with the pair p
  pub record Splits (ps qs : List (ℕ × X)) (p : ℕ × X) : Type 0 where
    pub front : List (ℕ × X)
    pub rear : List (ℕ × X)
    pub was : ps ≡ front ++ rear
    pub is : qs ≡ front ++ p ∷ rear

  at_end : (ps : List (ℕ × X)) → ps ≡ ps ++ []
  at_end [] = refl
  at_end (p ∷ ps) = ap (λ qs. p ∷ qs) (at_end ps)

  split_before : (s : ℕ) (p : ℕ × X) (ps : List (ℕ × X)) (x : X) → value_at s ps ≡ Some x → Splits ps (pairs_before s p ps) p
  split_before s p [] x e = absurd (none_some x e)
  split_before s p (q ∷ qs) x e = elim (eqb_tells q.0 s) [
    | inl h ↦ record { front = []; rear = q ∷ qs; was = refl; is = cond_true (q.0 == s) (p ∷ q ∷ qs) (q ∷ pairs_before s p qs) h.0 }
    | inr h ↦
        let r = split_before s p qs x (sym (cond_false (q.0 == s) (Some q.1) (value_at s qs) h.0) ∙ e) in
        record {
          front = q ∷ r.front;
          rear = r.rear;
          was = ap (λ rs. q ∷ rs) r.was;
          is = cond_false (q.0 == s) (p ∷ q ∷ qs) (q ∷ pairs_before s p qs) h.0 ∙ ap (λ rs. q ∷ rs) r.is;
        }
  ]

  split_behind : (s : ℕ) (p : ℕ × X) (ps : List (ℕ × X)) (x : X) → value_at s ps ≡ Some x → Splits ps (pairs_behind s p ps) p
  split_behind s p [] x e = absurd (none_some x e)
  split_behind s p (q ∷ qs) x e = elim (eqb_tells q.0 s) [
    | inl h ↦ record { front = q ∷ []; rear = qs; was = refl; is = cond_true (q.0 == s) (q ∷ p ∷ qs) (q ∷ pairs_behind s p qs) h.0 }
    | inr h ↦
        let r = split_behind s p qs x (sym (cond_false (q.0 == s) (Some q.1) (value_at s qs) h.0) ∙ e) in
        record {
          front = q ∷ r.front;
          rear = r.rear;
          was = ap (λ rs. q ∷ rs) r.was;
          is = cond_false (q.0 == s) (q ∷ p ∷ qs) (q ∷ pairs_behind s p qs) h.0 ∙ ap (λ rs. q ∷ rs) r.is;
        }
  ]

  pub splits : (spot : Spot) (p : ℕ × X) (ps : List (ℕ × X)) → IsThere spot ps → Splits ps (spotted spot p ps) p
  splits Front p ps there = record { front = []; rear = ps; was = refl; is = refl }
  splits Rear p ps there = record { front = ps; rear = []; was = at_end ps; is = refl }
  splits (Before it) p ps there = split_before it.serial p ps there.0 there.1
  splits (Behind it) p ps there = split_behind it.serial p ps there.0 there.1

  -- what is absent is in no part
  absent_later : (s : ℕ) (q : ℕ × X) (ps : List (ℕ × X)) → value_at s (q ∷ ps) ≡ None → (q.0 ≢ s) × (value_at s ps ≡ None)
  absent_later s q ps e = elim (eqb_tells q.0 s) [
    | inl h ↦ absurd (some_none q.1 (sym (cond_true (q.0 == s) (Some q.1) (value_at s ps) h.0) ∙ e))
    | inr h ↦ (h.1, sym (cond_false (q.0 == s) (Some q.1) (value_at s ps) h.0) ∙ e)
  ]

  value_split : (front rear : List (ℕ × X)) (p : ℕ × X) (t : ℕ) → value_at p.0 (front ++ rear) ≡ None → value_at t (front ++ p ∷ rear) ≡ cond (p.0 == t) (Some p.1) (value_at t (front ++ rear))
  value_split [] rear p t none = refl
  value_split (q ∷ front) rear p t none =
      let later = absent_later p.0 q (front ++ rear) none in
      ap (λ v. cond (q.0 == t) (Some q.1) v) (value_split front rear p t later.1)
      ∙ exchange (q.0 == t) (p.0 == t) (Some q.1) (Some p.1) (value_at t (front ++ rear)) (λ a b. later.0 (same_number q.0 t a ∙ sym (same_number p.0 t b)))

  not_in : (s : ℕ) (ps : List (ℕ × X)) → value_at s ps ≡ None → IsIn s (serials ps) → ⊥
  not_in s [] none h = h
  not_in s (q ∷ ps) none h =
      let later = absent_later s q ps none in
      elim h [ inl e ↦ later.0 (sym e) | inr i ↦ not_in s ps later.1 i ]

  in_split : (s : ℕ) (front rear : List (ℕ × X)) (p : ℕ × X) → IsIn s (serials (front ++ p ∷ rear)) → (s ≡ p.0) ⊎ IsIn s (serials (front ++ rear))
  in_split s [] rear p h = h
  in_split s (q ∷ front) rear p h = elim h [
    | inl e ↦ inr (inl e)
    | inr i ↦ elim (in_split s front rear p i) [ inl e ↦ inl e | inr j ↦ inr (inr j) ]
  ]

  distinct_split : (front rear : List (ℕ × X)) (p : ℕ × X) → value_at p.0 (front ++ rear) ≡ None → IsDistinct (serials (front ++ rear)) → IsDistinct (serials (front ++ p ∷ rear))
  distinct_split [] rear p none apart = (not_in p.0 rear none, apart)
  distinct_split (q ∷ front) rear p none apart =
      let later = absent_later p.0 q (front ++ rear) none in (
        λ i. elim (in_split q.0 front rear p i) [ inl e ↦ later.0 e | inr j ↦ apart.0 j ],
        distinct_split front rear p later.1 apart.1,
      )

  module _ (ps qs : List (ℕ × X)) (p : ℕ × X) (cut : Splits ps qs p) (none : value_at p.0 ps ≡ None) where
    -- a new item is the only one that comes in
    pub value_in : (t : ℕ) → value_at t qs ≡ cond (p.0 == t) (Some p.1) (value_at t ps)
    value_in t =
        ap (value_at t) cut.is ∙ value_split cut.front cut.rear p t (ap (value_at p.0) (sym cut.was) ∙ none)
        ∙ ap (λ rs. cond (p.0 == t) (Some p.1) (value_at t rs)) (sym cut.was)

    pub distinct_in : IsDistinct (serials ps) → IsDistinct (serials qs)
    distinct_in apart = subst (λ (rs : List (ℕ × X)). IsDistinct (serials rs)) (sym cut.is)
        (distinct_split cut.front cut.rear p (ap (value_at p.0) (sym cut.was) ∙ none) (subst (λ (rs : List (ℕ × X)). IsDistinct (serials rs)) cut.was apart))

-- ---- an item that comes into a container
split_placed : (p : Inner) (xs : List Inner) → Splits xs (placed_in p xs) p
split_placed p [] = record { front = []; rear = []; was = refl; is = refl }
split_placed p (q ∷ qs) = elim (goes_before p.1 q.1) as (λ b. Splits (q ∷ qs) (cond b (p ∷ q ∷ qs) (q ∷ placed_in p qs)) p) [
  | true ↦ record { front = []; rear = q ∷ qs; was = refl; is = refl }
  | false ↦
      let r = split_placed p qs in
      record { front = q ∷ r.front; rear = r.rear; was = ap (λ rs. q ∷ rs) r.was; is = ap (λ rs. q ∷ rs) r.is }
]

pub split_entered : (entrance : Entrance) (p : Inner) (xs : List Inner) → IsNamedThere entrance xs → Splits xs (entered entrance p xs) p
split_entered (At spot) p xs there = splits spot p xs there
split_entered (Key k) p xs there = split_placed p xs
split_entered (Priority r) p xs there = splits Rear p xs tt
