-- What stands in a list, whatever its elements are.
use Rattle.std.proofs.Common.{◌≡◌, Bool, true, false, cond, ◌&&◌, List, [], ◌∷◌, ◌++◌, map, filter, Option, Some, None, refl, sym, ap, subst, ◌∙◌, ◌⊎◌, inl, inr}
use Rattle.graph_state.specs.Names.{Has, IsOnce}

pub truth : (b : Bool) → (b ≡ true) ⊎ (b ≡ false)
truth true = inl refl
truth false = inr refl

pub not_both : {b : Bool} → b ≡ true → b ≡ false → ⊥
not_both {b} t f = let e : true ≡ false = sym t ∙ f in cc

pub some_or_none : {A : Type 0} (o : Option A) → (o ≡ None) ⊎ ((a : A) × (o ≡ Some a))
some_or_none None = inl refl
some_or_none (Some a) = inr (a, refl)

pub some_same : {A : Type 0} {a b : A} → Some a ≡ Some b → a ≡ b
some_same {A} {a} {b} e = cc

pub none_some : {A : Type 0} {a : A} → None ≡ Some a → ⊥
none_some {A} {a} e = cc

module _ {X : Type 0} where
  pub has_left : (x : X) (xs ys : List X) → Has x xs → Has x (xs ++ ys)
  has_left x [] ys i = absurd i
  has_left x (z ∷ xs) ys (inl e) = inl e
  has_left x (z ∷ xs) ys (inr i) = inr (has_left x xs ys i)

  pub has_right : (x : X) (xs ys : List X) → Has x ys → Has x (xs ++ ys)
  has_right x [] ys i = i
  has_right x (z ∷ xs) ys i = inr (has_right x xs ys i)

  pub has_either : (x : X) (xs ys : List X) → Has x (xs ++ ys) → Has x xs ⊎ Has x ys
  has_either x [] ys i = inr i
  has_either x (z ∷ xs) ys (inl e) = inl (inl e)
  has_either x (z ∷ xs) ys (inr i) = elim (has_either x xs ys i) [ inl a ↦ inl (inr a) | inr b ↦ inr b ]

  pub has_last : (x y : X) (xs : List X) → Has x (xs ++ y ∷ []) → Has x xs ⊎ (x ≡ y)
  has_last x y xs i = elim (has_either x xs (y ∷ []) i) [ inl a ↦ inl a | inr b ↦ elim b [ inl e ↦ inr e | inr n ↦ absurd n ] ]

  pub once_push : (x : X) (xs : List X) → (Has x xs → ⊥) → IsOnce xs → IsOnce (xs ++ x ∷ [])
  once_push x [] out o = ((λ i. i), tt)
  once_push x (z ∷ xs) out o = ((λ i. elim (has_last z x xs i) [ inl a ↦ o.0 a | inr e ↦ out (inl (sym e)) ]), once_push x xs (λ i. out (inr i)) o.1)

  pub has_none : (xs : List X) → xs ≡ [] → (x : X) → Has x xs → ⊥
  has_none xs e x i = subst (Has x) e i

  pub none_has : (xs : List X) → ((x : X) → Has x xs → ⊥) → xs ≡ []
  none_has [] out = refl
  none_has (x ∷ xs) out = absurd (out x (inl refl))

  pub once_join : (xs ys : List X) → IsOnce xs → IsOnce ys → ((x : X) → Has x xs → Has x ys → ⊥) → IsOnce (xs ++ ys)
  once_join [] ys o p apart = p
  once_join (x ∷ xs) ys o p apart = ((λ i. elim (has_either x xs ys i) [ inl a ↦ o.0 a | inr b ↦ apart x (inl refl) b ]), once_join xs ys o.1 p (λ z i j. apart z (inr i) j))

module _ {X Y : Type 0} (f : X → Y) where
  pub has_map : (x : X) (xs : List X) → Has x xs → Has (f x) (map f xs)
  has_map x [] i = i
  has_map x (z ∷ xs) (inl e) = inl (ap f e)
  has_map x (z ∷ xs) (inr i) = inr (has_map x xs i)

  pub has_mapped : (y : Y) (xs : List X) → Has y (map f xs) → (x : X) × (Has x xs × (y ≡ f x))
  has_mapped y [] i = absurd i
  has_mapped y (z ∷ xs) (inl e) = (z, (inl refl, e))
  has_mapped y (z ∷ xs) (inr i) = let r = has_mapped y xs i in (r.0, (inr r.1.0, r.1.1))

  pub map_join : (xs ys : List X) → map f (xs ++ ys) ≡ map f xs ++ map f ys
  map_join [] ys = refl
  map_join (x ∷ xs) ys = ap (λ zs. f x ∷ zs) (map_join xs ys)

  pub map_same : (g : X → Y) (xs : List X) → ((x : X) → Has x xs → f x ≡ g x) → map f xs ≡ map g xs
  map_same g [] same = refl
  map_same g (x ∷ xs) same = (λ i. same x (inl refl) i ∷ map_same g xs (λ z k. same z (inr k)) i)

  pub once_map : (xs : List X) → ((x y : X) → f x ≡ f y → x ≡ y) → IsOnce xs → IsOnce (map f xs)
  once_map [] one o = tt
  once_map (x ∷ xs) one o = ((λ i. let r = has_mapped (f x) xs i in o.0 (subst (λ z. Has z xs) (sym (one x r.0 r.1.1)) r.1.0)), once_map xs one o.1)

  pub once_mapped : (xs : List X) → IsOnce (map f xs) → IsOnce xs
  once_mapped [] o = tt
  once_mapped (x ∷ xs) o = ((λ i. o.0 (has_map x xs i)), once_mapped xs o.1)

module _ {X : Type 0} (p : X → Bool) where
  pub has_filter : (x : X) (xs : List X) → Has x (filter p xs) → Has x xs × (p x ≡ true)
  has_filter x [] i = absurd i
  has_filter x (z ∷ xs) i = elim (truth (p z)) [
    | inl t ↦ elim (subst (λ b. Has x (cond b (z ∷ filter p xs) (filter p xs))) t i) [
      | inl e ↦ (inl e, ap p e ∙ t)
      | inr k ↦ let r = has_filter x xs k in (inr r.0, r.1)
    ]
    | inr f ↦ let r = has_filter x xs (subst (λ b. Has x (cond b (z ∷ filter p xs) (filter p xs))) f i) in (inr r.0, r.1)
  ]

  pub filter_has : (x : X) (xs : List X) → Has x xs → p x ≡ true → Has x (filter p xs)
  filter_has x [] i t = i
  filter_has x (z ∷ xs) (inl e) t = subst (λ b. Has x (cond b (z ∷ filter p xs) (filter p xs))) (sym (ap p (sym e) ∙ t)) (inl e)
  filter_has x (z ∷ xs) (inr i) t = elim (truth (p z)) [
    | inl y ↦ subst (λ b. Has x (cond b (z ∷ filter p xs) (filter p xs))) (sym y) (inr (filter_has x xs i t))
    | inr n ↦ subst (λ b. Has x (cond b (z ∷ filter p xs) (filter p xs))) (sym n) (filter_has x xs i t)
  ]

  pub filter_join : (xs ys : List X) → filter p (xs ++ ys) ≡ filter p xs ++ filter p ys
  filter_join [] ys = refl
  filter_join (x ∷ xs) ys = elim (p x) as (λ b. cond b (x ∷ filter p (xs ++ ys)) (filter p (xs ++ ys)) ≡ cond b (x ∷ filter p xs) (filter p xs) ++ filter p ys) [
    | true ↦ ap (λ zs. x ∷ zs) (filter_join xs ys)
    | false ↦ filter_join xs ys
  ]

  pub filter_one : (x : X) → p x ≡ true → filter p (x ∷ []) ≡ x ∷ []
  filter_one x t = ap (λ b. cond b (x ∷ []) []) t

  pub filter_no : (x : X) → p x ≡ false → filter p (x ∷ []) ≡ []
  filter_no x f = ap (λ b. cond b (x ∷ []) []) f

  pub filter_all : (xs : List X) → ((x : X) → Has x xs → p x ≡ true) → filter p xs ≡ xs
  filter_all [] all = refl
  filter_all (x ∷ xs) all = ap (λ b. cond b (x ∷ filter p xs) (filter p xs)) (all x (inl refl)) ∙ ap (λ zs. x ∷ zs) (filter_all xs (λ z i. all z (inr i)))

  pub filter_none : (xs : List X) → ((x : X) → Has x xs → p x ≡ false) → filter p xs ≡ []
  filter_none [] all = refl
  filter_none (x ∷ xs) all = ap (λ b. cond b (x ∷ filter p xs) (filter p xs)) (all x (inl refl)) ∙ filter_none xs (λ z i. all z (inr i))

  pub filter_same : (q : X → Bool) (xs : List X) → ((x : X) → Has x xs → p x ≡ q x) → filter p xs ≡ filter q xs
  filter_same q [] same = refl
  filter_same q (x ∷ xs) same = (λ i. cond (same x (inl refl) i) (x ∷ filter_same q xs (λ z k. same z (inr k)) i) (filter_same q xs (λ z k. same z (inr k)) i))

  pub filter_twice : (q : X → Bool) (xs : List X) → filter p (filter q xs) ≡ filter (λ x. q x && p x) xs
  filter_twice q [] = refl
  filter_twice q (x ∷ xs) = elim (q x) as (λ b. filter p (cond b (x ∷ filter q xs) (filter q xs)) ≡ cond (b && p x) (x ∷ filter (λ x. q x && p x) xs) (filter (λ x. q x && p x) xs)) [
    | true ↦ (λ i. cond (p x) (x ∷ filter_twice q xs i) (filter_twice q xs i))
    | false ↦ filter_twice q xs
  ]

  pub once_filter : (xs : List X) → IsOnce xs → IsOnce (filter p xs)
  once_filter [] o = tt
  once_filter (x ∷ xs) o = elim (p x) as (λ b. IsOnce (cond b (x ∷ filter p xs) (filter p xs))) [
    | true ↦ ((λ i. o.0 (has_filter x xs i).0), once_filter xs o.1)
    | false ↦ once_filter xs o.1
  ]

-- a filter and a map change places
pub filter_map_is : {X Y : Type 0} (f : X → Y) (p : Y → Bool) (xs : List X) → filter p (map f xs) ≡ map f (filter (λ x. p (f x)) xs)
filter_map_is f p [] = refl
filter_map_is f p (x ∷ xs) = elim (p (f x)) as (λ b. cond b (f x ∷ filter p (map f xs)) (filter p (map f xs)) ≡ map f (cond b (x ∷ filter (λ z. p (f z)) xs) (filter (λ z. p (f z)) xs))) [
  | true ↦ ap (λ zs. f x ∷ zs) (filter_map_is f p xs)
  | false ↦ filter_map_is f p xs
]

pub map_on : {X Y Z : Type 0} (f : X → Y) (g : Y → Z) (xs : List X) → map g (map f xs) ≡ map (λ x. g (f x)) xs
map_on f g [] = refl
map_on f g (x ∷ xs) = ap (λ ys. g (f x) ∷ ys) (map_on f g xs)
