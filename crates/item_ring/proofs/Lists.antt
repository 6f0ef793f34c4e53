-- Lists without repetition, and paths of links along them.
use Rattle.std.proofs.Common.{◌≡◌, ℕ, ◌+◌, Bool, cond, List, [], ◌∷◌, ◌++◌, length, Some, refl, sym, ap, subst, ◌∙◌, ◌⊎◌, inl, inr, arith}
use Rattle.std.proofs.lemmas.Bool.Decides.{eqb_tells}
use Rattle.item_ring.specs.RingLists.{IsIn, IsDistinct, back, without, with_after, with_before}
use Rattle.item_ring.specs.Turns.{with_behind}
use Rattle.item_ring.specs.AreRings.{IsPath}

pub in_left : (m : ℕ) (xs ys : List ℕ) → IsIn m xs → IsIn m (xs ++ ys)
in_left m [] ys h = absurd h
in_left m (x ∷ xs) ys (inl e) = inl e
in_left m (x ∷ xs) ys (inr h) = inr (in_left m xs ys h)

pub in_right : (m : ℕ) (xs ys : List ℕ) → IsIn m ys → IsIn m (xs ++ ys)
in_right m [] ys h = h
in_right m (x ∷ xs) ys h = inr (in_right m xs ys h)

pub in_either : (m : ℕ) (xs ys : List ℕ) → IsIn m (xs ++ ys) → IsIn m xs ⊎ IsIn m ys
in_either m [] ys h = inr h
in_either m (x ∷ xs) ys (inl e) = inl (inl e)
in_either m (x ∷ xs) ys (inr h) = elim (in_either m xs ys h) [ inl a ↦ inl (inr a) | inr b ↦ inr b ]

-- m put between two lists
pub in_put : (k m : ℕ) (xs ys : List ℕ) → IsIn k (xs ++ ys) → IsIn k (xs ++ m ∷ ys)
in_put k m xs ys h = elim (in_either k xs ys h) [ inl a ↦ in_left k xs (m ∷ ys) a | inr b ↦ in_right k xs (m ∷ ys) (inr b) ]

pub in_put_new : (m : ℕ) (xs ys : List ℕ) → IsIn m (xs ++ m ∷ ys)
in_put_new m xs ys = in_right m xs (m ∷ ys) (inl refl)

pub in_put_either : (k m : ℕ) (xs ys : List ℕ) → IsIn k (xs ++ m ∷ ys) → (k ≡ m) ⊎ IsIn k (xs ++ ys)
in_put_either k m xs ys h = elim (in_either k xs (m ∷ ys) h) [ inl a ↦ inr (in_left k xs ys a) | inr b ↦ elim b [ inl e ↦ inl e | inr c ↦ inr (in_right k xs ys c) ] ]

pub distinct_put : (m : ℕ) (xs ys : List ℕ) → (IsIn m (xs ++ ys) → ⊥) → IsDistinct (xs ++ ys) → IsDistinct (xs ++ m ∷ ys)
distinct_put m [] ys new d = (new, d)
distinct_put m (x ∷ xs) ys new d = (
  (λ h. elim (in_put_either x m xs ys h) [ inl e ↦ new (inl (sym e)) | inr g ↦ d.0 g ]),
  distinct_put m xs ys (λ h. new (inr h)) d.1,
)

pub distinct_out : (m : ℕ) (xs ys : List ℕ) → IsDistinct (xs ++ m ∷ ys) → IsDistinct (xs ++ ys)
distinct_out m [] ys d = d.1
distinct_out m (x ∷ xs) ys d = ((λ h. d.0 (in_put x m xs ys h)), distinct_out m xs ys d.1)

pub out_apart : (m : ℕ) (xs ys : List ℕ) → IsDistinct (xs ++ m ∷ ys) → IsIn m (xs ++ ys) → ⊥
out_apart m [] ys d h = d.0 h
out_apart m (x ∷ xs) ys d (inl e) = d.0 (subst (λ k. IsIn k (xs ++ m ∷ ys)) e (in_put_new m xs ys))
out_apart m (x ∷ xs) ys d (inr h) = out_apart m xs ys d.1 h

pub length_put : (m : ℕ) (xs ys : List ℕ) → length (xs ++ m ∷ ys) ≡ length (xs ++ ys) + 1
length_put m [] ys = omega arith
length_put m (x ∷ xs) ys = omega (arith, length_put m xs ys)

-- a list is cut at one of its members
pub record IsCutAt (m : ℕ) (xs : List ℕ) : Type 0 where
  pub before : List ℕ
  pub behind : List ℕ
  pub is : xs ≡ before ++ m ∷ behind

pub cut_at : (m : ℕ) (xs : List ℕ) → IsIn m xs → IsCutAt m xs
cut_at m [] h = absurd h
cut_at m (x ∷ xs) (inl e) = record { before = []; behind = xs; is = ap (λ k. k ∷ xs) (sym e) }
cut_at m (x ∷ xs) (inr h) = let c = cut_at m xs h in record { before = x ∷ c.before; behind = c.behind; is = ap (λ l. x ∷ l) c.is }

pub without_out : (m : ℕ) (xs : List ℕ) → (IsIn m xs → ⊥) → without m xs ≡ xs
without_out m [] out = refl
without_out m (x ∷ xs) out = elim (eqb_tells x m) [
  | inl t ↦ absurd (out (inl (sym t.1)))
  | inr f ↦ ap (λ b. cond b (without m xs) (x ∷ without m xs)) f.0 ∙ ap (λ l. x ∷ l) (without_out m xs (λ h. out (inr h)))
]

pub in_without : (k m : ℕ) (xs : List ℕ) → IsIn k (without m xs) → IsIn k xs × (k ≡ m → ⊥)
in_without k m [] h = absurd h
in_without k m (x ∷ xs) h = elim (eqb_tells x m) [
  | inl t ↦
      let g : IsIn k (without m xs) = subst (λ b. IsIn k (cond b (without m xs) (x ∷ without m xs))) t.0 h in
      let r = in_without k m xs g in (inr r.0, r.1)
  | inr f ↦
      let g : (k ≡ x) ⊎ IsIn k (without m xs) = subst (λ b. IsIn k (cond b (without m xs) (x ∷ without m xs))) f.0 h in
      elim g [ inl e ↦ (inl e, λ q. f.1 (sym e ∙ q)) | inr i ↦ (let r = in_without k m xs i in (inr r.0, r.1)) ]
]

pub still_in : (k m : ℕ) (xs : List ℕ) → IsIn k xs → (k ≡ m → ⊥) → IsIn k (without m xs)
still_in k m [] h ne = h
still_in k m (x ∷ xs) h ne = elim (eqb_tells x m) [
  | inl t ↦ subst (λ b. IsIn k (cond b (without m xs) (x ∷ without m xs))) (sym t.0) (elim h [ inl e ↦ absurd (ne (e ∙ t.1)) | inr i ↦ still_in k m xs i ne ])
  | inr f ↦
      let g : (k ≡ x) ⊎ IsIn k (without m xs) = elim h [ inl e ↦ inl e | inr i ↦ inr (still_in k m xs i ne) ] in
      subst (λ b. IsIn k (cond b (without m xs) (x ∷ without m xs))) (sym f.0) g
]

pub without_cut : (m : ℕ) (xs ys : List ℕ) → IsDistinct (xs ++ m ∷ ys) → without m (xs ++ m ∷ ys) ≡ xs ++ ys
without_cut m [] ys d = elim (eqb_tells m m) [
  | inl t ↦ ap (λ b. cond b (without m ys) (m ∷ without m ys)) t.0 ∙ without_out m ys d.0
  | inr f ↦ absurd (f.1 refl)
]
without_cut m (x ∷ xs) ys d = elim (eqb_tells x m) [
  | inl t ↦ absurd (d.0 (subst (λ k. IsIn k (xs ++ m ∷ ys)) (sym t.1) (in_put_new m xs ys)))
  | inr f ↦ ap (λ b. cond b (without m (xs ++ m ∷ ys)) (x ∷ without m (xs ++ m ∷ ys))) f.0 ∙ ap (λ l. x ∷ l) (without_cut m xs ys d.1)
]

pub after_cut : (at m : ℕ) (xs ys : List ℕ) → IsDistinct (xs ++ at ∷ ys) → with_after at m (xs ++ at ∷ ys) ≡ xs ++ at ∷ m ∷ ys
after_cut at m [] ys d = elim (eqb_tells at at) [
  | inl t ↦ ap (λ b. cond b (at ∷ m ∷ ys) (at ∷ with_after at m ys)) t.0
  | inr f ↦ absurd (f.1 refl)
]
after_cut at m (x ∷ xs) ys d = elim (eqb_tells x at) [
  | inl t ↦ absurd (d.0 (subst (λ k. IsIn k (xs ++ at ∷ ys)) (sym t.1) (in_put_new at xs ys)))
  | inr f ↦ ap (λ b. cond b (x ∷ m ∷ (xs ++ at ∷ ys)) (x ∷ with_after at m (xs ++ at ∷ ys))) f.0 ∙ ap (λ l. x ∷ l) (after_cut at m xs ys d.1)
]

pub before_cut : (at m : ℕ) (xs ys : List ℕ) → IsDistinct (xs ++ at ∷ ys) → with_before at m (xs ++ at ∷ ys) ≡ xs ++ m ∷ at ∷ ys
before_cut at m [] ys d = elim (eqb_tells at at) [
  | inl t ↦ ap (λ b. cond b (m ∷ at ∷ ys) (at ∷ with_before at m ys)) t.0
  | inr f ↦ absurd (f.1 refl)
]
before_cut at m (x ∷ xs) ys d = elim (eqb_tells x at) [
  | inl t ↦ absurd (d.0 (subst (λ k. IsIn k (xs ++ at ∷ ys)) (sym t.1) (in_put_new at xs ys)))
  | inr f ↦ ap (λ b. cond b (m ∷ x ∷ (xs ++ at ∷ ys)) (x ∷ with_before at m (xs ++ at ∷ ys))) f.0 ∙ ap (λ l. x ∷ l) (before_cut at m xs ys d.1)
]

-- the last of a list stands in it
last_some : (y : ℕ) (ys : List ℕ) → (z : ℕ) × (back (y ∷ ys) ≡ Some z) × IsIn z (y ∷ ys)
last_some y [] = (y, refl, inl refl)
last_some y (x ∷ xs) = let l = last_some x xs in (l.0, l.1, inr l.2)

pub back_in : (xs : List ℕ) (z : ℕ) → back xs ≡ Some z → IsIn z xs
back_in [] z e = cc
back_in (x ∷ []) z e = let same : z ≡ x = cc in inl same
back_in (x ∷ y ∷ ys) z e = inr (back_in (y ∷ ys) z e)

-- right behind the last of a list is right before what follows
pub behind_back : (m : ℕ) (xs ys : List ℕ) → IsDistinct (xs ++ ys) → with_behind (back xs) m (xs ++ ys) ≡ xs ++ m ∷ ys
behind_back m [] ys d = refl
behind_back m (x ∷ []) ys d = after_cut x m [] ys d
behind_back m (x ∷ y ∷ xs) ys d =
    let l = last_some y xs in
    let rest = y ∷ (xs ++ ys) in
    let apart : x ≡ l.0 → ⊥ = λ e. d.0 (in_left x (y ∷ xs) ys (subst (λ k. IsIn k (y ∷ xs)) (sym e) l.2)) in
    let goes : Bool → List ℕ = λ b. cond b (x ∷ m ∷ rest) (x ∷ with_after l.0 m rest) in
    let on : with_after l.0 m (x ∷ rest) ≡ x ∷ with_after l.0 m rest = elim (eqb_tells x l.0) [ inl t ↦ absurd (apart t.1) | inr f ↦ ap goes f.0 ] in
    ap (λ o. with_behind o m (x ∷ rest)) l.1 ∙ on ∙ ap (λ o. x ∷ with_behind o m rest) (sym l.1) ∙ ap (λ l. x ∷ l) (behind_back m (y ∷ xs) ys d.1)

-- the last of p and the list
abbrev pub last_of : ℕ → List ℕ → ℕ
last_of p [] = p
last_of p (x ∷ xs) = last_of x xs

-- the first of the list, or q
abbrev pub first_of : List ℕ → ℕ → ℕ
first_of [] q = q
first_of (x ∷ xs) q = x

pub last_push : (p x : ℕ) (xs : List ℕ) → last_of p (xs ++ x ∷ []) ≡ x
last_push p x [] = refl
last_push p x (y ∷ ys) = last_push y x ys

pub last_in : (p : ℕ) (xs : List ℕ) → (last_of p xs ≡ p) ⊎ IsIn (last_of p xs) xs
last_in p [] = inl refl
last_in p (x ∷ xs) = elim (last_in x xs) [ inl e ↦ inr (inl e) | inr h ↦ inr (inr h) ]

pub first_in : (q : ℕ) (xs : List ℕ) → (first_of xs q ≡ q) ⊎ IsIn (first_of xs q) xs
first_in q [] = inl refl
first_in q (x ∷ xs) = inr (inl refl)

module _ (N P : ℕ → ℕ) where
  pub path_left : (p x : ℕ) (xs ys : List ℕ) → IsPath N P p (xs ++ x ∷ ys) → IsPath N P p (xs ++ x ∷ [])
  path_left p x [] ys h = (h.0, h.1, tt)
  path_left p x (y ∷ xs) ys h = (h.0, h.1, path_left y x xs ys h.2)

  pub path_right : (p x : ℕ) (xs ys : List ℕ) → IsPath N P p (xs ++ x ∷ ys) → IsPath N P x ys
  path_right p x [] ys h = h.2
  path_right p x (y ∷ xs) ys h = path_right y x xs ys h.2

  pub path_next : (p x : ℕ) (xs ys : List ℕ) → IsPath N P p (xs ++ x ∷ ys) → N (last_of p xs) ≡ x
  path_next p x [] ys h = h.0
  path_next p x (y ∷ xs) ys h = path_next y x xs ys h.2

  pub path_prev : (p x : ℕ) (xs ys : List ℕ) → IsPath N P p (xs ++ x ∷ ys) → P x ≡ last_of p xs
  path_prev p x [] ys h = h.1
  path_prev p x (y ∷ xs) ys h = path_prev y x xs ys h.2

  -- two paths joined
  pub path_join : (p x : ℕ) (xs ys : List ℕ) → IsPath N P p (xs ++ x ∷ []) → IsPath N P x ys → IsPath N P p (xs ++ x ∷ ys)
  path_join p x [] ys h g = (h.0, h.1, g)
  path_join p x (y ∷ xs) ys h g = (h.0, h.1, path_join y x xs ys h.2 g)

  -- a path that ends elsewhere
  pub path_ends : (p x y : ℕ) (xs : List ℕ) → IsPath N P p (xs ++ x ∷ []) → N (last_of p xs) ≡ y → P y ≡ last_of p xs → IsPath N P p (xs ++ y ∷ [])
  path_ends p x y [] h n e = (n, e, tt)
  path_ends p x y (z ∷ xs) h n e = (h.0, h.1, path_ends z x y xs h.2 n e)

-- links that are the same at the nodes of a path keep it
module _ (N P N' P' : ℕ → ℕ) where
  pub path_same : (p q : ℕ) (xs : List ℕ) → ((k : ℕ) → IsIn k (p ∷ xs) → N' k ≡ N k) → ((k : ℕ) → IsIn k xs → P' k ≡ P k) → P' q ≡ P q → IsPath N P p (xs ++ q ∷ []) → IsPath N' P' p (xs ++ q ∷ [])
  path_same p q [] n e ends h = (n p (inl refl) ∙ h.0, ends ∙ h.1, tt)
  path_same p q (x ∷ xs) n e ends h = (n p (inl refl) ∙ h.0, e x (inl refl) ∙ h.1, path_same x q xs (λ k i. n k (inr i)) (λ k i. e k (inr i)) ends h.2)

  -- the links inside p and the list alone
  abbrev pub IsInner : ℕ → List ℕ → Type 0
  IsInner p xs = (k : ℕ) → IsIn k xs → P' k ≡ P k

  -- the links from p along xs, whose last node may lead elsewhere
  pub path_inner : (p q m : ℕ) (xs : List ℕ) → ((k : ℕ) → IsIn k (p ∷ xs) → (k ≡ last_of p xs → ⊥) → N' k ≡ N k) → IsInner p xs
      → IsDistinct (p ∷ xs) → N' (last_of p xs) ≡ m → P' m ≡ last_of p xs → IsPath N P p (xs ++ q ∷ []) → IsPath N' P' p (xs ++ m ∷ [])
  path_inner p q m [] n e d to back h = (to, back, tt)
  path_inner p q m (x ∷ xs) n e d to back h = (
    n p (inl refl) (λ same. elim (last_in x xs) [ inl a ↦ d.0 (inl (same ∙ a)) | inr i ↦ d.0 (inr (subst (λ k. IsIn k xs) (sym same) i)) ]) ∙ h.0,
    e x (inl refl) ∙ h.1,
    path_inner x q m xs (λ k i. n k (inr i)) (λ k i. e k (inr i)) d.1 to back h.2,
  )

  -- the links from m on to b and along ys
  pub path_from : (p m q : ℕ) (ys : List ℕ) → N' m ≡ first_of ys q → P' (first_of ys q) ≡ m → ((k : ℕ) → IsIn k ys → N' k ≡ N k)
      → ((k : ℕ) → IsIn k (ys ++ q ∷ []) → (k ≡ first_of ys q → ⊥) → P' k ≡ P k) → IsDistinct (ys ++ q ∷ []) → IsPath N P p (ys ++ q ∷ []) → IsPath N' P' m (ys ++ q ∷ [])
  path_from p m q [] to back n e d h = (to, back, tt)
  path_from p m q (y ∷ ys) to back n e d h = (
    to,
    back,
    path_same y q ys n
        (λ k i. e k (inr (in_left k ys (q ∷ []) i)) (λ same. d.0 (subst (λ j. IsIn j (ys ++ q ∷ [])) same (in_left k ys (q ∷ []) i))))
        (e q (inr (in_right q ys (q ∷ []) (inl refl))) (λ same. d.0 (subst (λ j. IsIn j (ys ++ q ∷ [])) same (in_right q ys (q ∷ []) (inl refl)))))
        h.2,
  )

pub distinct_right : (xs ys : List ℕ) → IsDistinct (xs ++ ys) → IsDistinct ys
distinct_right [] ys d = d
distinct_right (x ∷ xs) ys d = distinct_right xs ys d.1

pub distinct_left : (xs ys : List ℕ) → IsDistinct (xs ++ ys) → IsDistinct xs
distinct_left [] ys d = tt
distinct_left (x ∷ xs) ys d = ((λ h. d.0 (in_left x xs ys h)), distinct_left xs ys d.1)

pub distinct_between : (k : ℕ) (xs ys : List ℕ) → IsDistinct (xs ++ ys) → IsIn k xs → IsIn k ys → ⊥
distinct_between k [] ys d i j = i
distinct_between k (x ∷ xs) ys d (inl e) j = d.0 (subst (λ n. IsIn n (xs ++ ys)) e (in_right k xs ys j))
distinct_between k (x ∷ xs) ys d (inr i) j = distinct_between k xs ys d.1 i j

pub distinct_push : (h : ℕ) (xs : List ℕ) → (IsIn h xs → ⊥) → IsDistinct xs → IsDistinct (xs ++ h ∷ [])
distinct_push h [] out d = ((λ i. i), tt)
distinct_push h (x ∷ xs) out d = (
  (λ i. elim (in_either x xs (h ∷ []) i) [ inl a ↦ d.0 a | inr b ↦ elim b [ inl e ↦ out (inl (sym e)) | inr no_more ↦ no_more ] ]),
  distinct_push h xs (λ i. out (inr i)) d.1,
)

pub appended : (xs ys zs : List ℕ) → (xs ++ ys) ++ zs ≡ xs ++ (ys ++ zs)
appended [] ys zs = refl
appended (x ∷ xs) ys zs = ap (λ l. x ∷ l) (appended xs ys zs)

pub append_none : (xs : List ℕ) → xs ++ [] ≡ xs
append_none [] = refl
append_none (x ∷ xs) = ap (λ l. x ∷ l) (append_none xs)

-- what comes behind the first of ys and q
abbrev pub tail_to : List ℕ → ℕ → List ℕ
tail_to [] q = []
tail_to (y ∷ ys) q = ys ++ q ∷ []

pub tail_is : (ys : List ℕ) (q : ℕ) → ys ++ q ∷ [] ≡ first_of ys q ∷ tail_to ys q
tail_is [] q = refl
tail_is (y ∷ ys) q = refl

module _ (N P : ℕ → ℕ) where
  pub path_behind : (p : ℕ) (xs ys : List ℕ) → IsPath N P p (xs ++ ys) → IsPath N P (last_of p xs) ys
  path_behind p [] ys h = h
  path_behind p (x ∷ xs) ys h = path_behind x xs ys h.2

  -- the path from the first of ys to q, if that is not q itself
  abbrev pub IsRest : List ℕ → ℕ → Type 0
  IsRest [] q = Unit {0}
  IsRest (y ∷ ys) q = IsPath N P y (ys ++ q ∷ [])

  pub path_over : (p q : ℕ) (xs ys : List ℕ) → IsPath N P p (xs ++ first_of ys q ∷ []) → IsRest ys q → IsPath N P p (xs ++ (ys ++ q ∷ []))
  path_over p q xs [] h rest = h
  path_over p q xs (y ∷ ys) h rest = path_join N P p y xs (ys ++ q ∷ []) h rest

module _ (N P N' P' : ℕ → ℕ) where
  pub rest_same : (p q : ℕ) (ys : List ℕ) → ((k : ℕ) → IsIn k ys → N' k ≡ N k) → ((k : ℕ) → IsIn k (ys ++ q ∷ []) → (k ≡ first_of ys q → ⊥) → P' k ≡ P k)
      → IsDistinct (ys ++ q ∷ []) → IsPath N P p (ys ++ q ∷ []) → IsRest N' P' ys q
  rest_same p q [] n e d h = tt
  rest_same p q (y ∷ ys) n e d h =
      path_same N P N' P' y q ys n
      (λ k i. e k (inr (in_left k ys (q ∷ []) i)) (λ same. d.0 (subst (λ j. IsIn j (ys ++ q ∷ [])) same (in_left k ys (q ∷ []) i))))
      (e q (inr (in_right q ys (q ∷ []) (inl refl))) (λ same. d.0 (subst (λ j. IsIn j (ys ++ q ∷ [])) same (in_right q ys (q ∷ []) (inl refl)))))
      h.2
