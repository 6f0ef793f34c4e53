-- The numbers of nodes in a smaller net, and the node of the larger net that stands for each.
use Rattle.std.proofs.Common.{◌≡◌, ◌⊎◌, inl, inr, ℕ, zero, suc, ◌<◌, ◌≤◌, Bool, true, false, cond, refl, sym, ◌∙◌, ap, arith}
use Rattle.std.proofs.lemmas.Bool.{true≢false, cases_eq}
use Rattle.blossom_lift.specs.Contraction.{rank, image_of}

pub bool_cases : (b : Bool) → (b ≡ true) ⊎ (b ≡ false)
bool_cases true = inl refl
bool_cases false = inr refl

pub less_cases : (a b : ℕ) → (a < b) ⊎ (b ≤ a)
less_cases a zero = inr (omega arith)
less_cases a (suc b) = elim (less_cases a b) [
  | inl l ↦ inl (omega arith)
  | inr g ↦ elim (cases_eq a b) [
    | inl e ↦ inl (omega arith)
    | inr ne ↦ inr (omega arith)
  ]
]

pub rank_le : (p : ℕ → Bool) (n : ℕ) → rank p n ≤ n
rank_le p zero = omega arith
rank_le p (suc n) =
    let i = rank_le p n in
    elim (bool_cases (p n)) [
      | inl t ↦ (let c : cond {A = ℕ} (p n) 0 1 ≡ 0 = ap (λ (b : Bool). cond {A = ℕ} b 0 1) t in omega arith)
      | inr f ↦ (let c : cond {A = ℕ} (p n) 0 1 ≡ 1 = ap (λ (b : Bool). cond {A = ℕ} b 0 1) f in omega arith)
    ]

pub rank_rises : (p : ℕ → Bool) (v m : ℕ) → v ≤ m → rank p v ≤ rank p m
rank_rises p v zero l = let e : v ≡ 0 = omega arith in let r : rank p v ≡ rank p 0 = ap (rank p) e in omega arith
rank_rises p v (suc m) l = elim (cases_eq v (suc m)) [
  | inl e ↦ (let r : rank p v ≡ rank p (suc m) = ap (rank p) e in omega arith)
  | inr ne ↦ (let i = rank_rises p v m (omega arith) in omega arith)
]

pub rank_below : (p : ℕ → Bool) (v m : ℕ) → v < m → p v ≡ false → rank p v < rank p m
rank_below p v m l f =
    let c : cond {A = ℕ} (p v) 0 1 ≡ 1 = ap (λ (b : Bool). cond {A = ℕ} b 0 1) f in
    let r : rank p (suc v) ≤ rank p m = rank_rises p (suc v) m (omega arith) in
    omega arith

-- a node inside leaves fewer outside
pub rank_less : (p : ℕ → Bool) (v n : ℕ) → v < n → p v ≡ true → rank p n < n
rank_less p v zero l t = absurd (omega arith)
rank_less p v (suc n) l t = elim (cases_eq v n) [
  | inl e ↦ (let c : cond {A = ℕ} (p n) 0 1 ≡ 0 = ap (λ (k : ℕ). cond {A = ℕ} (p k) 0 1) (sym e) ∙ ap (λ (b : Bool). cond {A = ℕ} b 0 1) t in
      let i = rank_le p n in omega arith)
  | inr ne ↦ (let i = rank_less p v n (omega arith) t in
      let s : cond {A = ℕ} (p n) 0 1 ≤ 1 = elim (bool_cases (p n)) [
        | inl y ↦ (let c : cond {A = ℕ} (p n) 0 1 ≡ 0 = ap (λ (b : Bool). cond {A = ℕ} b 0 1) y in omega arith)
        | inr f ↦ (let c : cond {A = ℕ} (p n) 0 1 ≡ 1 = ap (λ (b : Bool). cond {A = ℕ} b 0 1) f in omega arith)
      ] in
      omega arith)
]

pub rank_same : (p : ℕ → Bool) (s t : ℕ) → p s ≡ false → p t ≡ false → rank p s ≡ rank p t → s ≡ t
rank_same p s t f g e = elim (less_cases s t) [
  | inl l ↦ (let r = rank_below p s t l f in absurd (omega arith))
  | inr m ↦ elim (cases_eq s t) [
    | inl same ↦ same
    | inr ne ↦ (let r = rank_below p t s (omega arith) g in absurd (omega arith))
  ]
]

pub reached : (p : ℕ → Bool) (m x : ℕ) → x < rank p m → (v : ℕ) × (v < m) × (p v ≡ false) × (rank p v ≡ x)
reached p zero x l = absurd (omega arith)
reached p (suc m) x l = elim (bool_cases (p m)) [
  | inl t ↦ (let c : cond {A = ℕ} (p m) 0 1 ≡ 0 = ap (λ (b : Bool). cond {A = ℕ} b 0 1) t in
      let r = reached p m x (omega arith) in let b : r.0 < m = r.1 in (r.0, omega arith, r.2, r.3))
  | inr f ↦ elim (cases_eq x (rank p m)) [
    | inl e ↦ (m, omega arith, f, sym e)
    | inr ne ↦ (let c : cond {A = ℕ} (p m) 0 1 ≡ 1 = ap (λ (b : Bool). cond {A = ℕ} b 0 1) f in
        let r = reached p m x (omega arith) in let b : r.0 < m = r.1 in (r.0, omega arith, r.2, r.3))
  ]
]

pub image_in : (p : ℕ → Bool) (n v : ℕ) → p v ≡ true → image_of p n v ≡ rank p n
image_in p n v t = ap (λ (b : Bool). cond b (rank p n) (rank p v)) t

pub image_out : (p : ℕ → Bool) (n v : ℕ) → p v ≡ false → image_of p n v ≡ rank p v
image_out p n v f = ap (λ (b : Bool). cond b (rank p n) (rank p v)) f

-- the node that stands for x in the larger net: the base for the hub
pub record IsStanding (p : ℕ → Bool) (n base x v : ℕ) : Type 0 where
  pub below : v < n
  pub sole : p v ≡ true → v ≡ base
  pub image : x ≤ rank p n → image_of p n v ≡ x
  pub only : (u : ℕ) → u < n → (p u ≡ true → u ≡ base) → image_of p n u ≡ x → u ≡ v

outside_only : (p : ℕ → Bool) (n x v u : ℕ) → x < rank p n → p v ≡ false → rank p v ≡ x → u < n → image_of p n u ≡ x → u ≡ v
outside_only p n x v u l f e b i = elim (bool_cases (p u)) [
  | inl t ↦ (let r = image_in p n u t in absurd (omega arith))
  | inr g ↦ (let r = image_out p n u g in rank_same p u v g f (omega arith))
]

base_only : (p : ℕ → Bool) (n base x u : ℕ) → rank p n ≤ x → u < n → (p u ≡ true → u ≡ base) → image_of p n u ≡ x → u ≡ base
base_only p n base x u l b s i = elim (bool_cases (p u)) [
  | inl t ↦ s t
  | inr g ↦ (let r = image_out p n u g in let k = rank_below p u n b g in absurd (omega arith))
]

pub standing : (p : ℕ → Bool) (n base x : ℕ) → base < n → p base ≡ true → (v : ℕ) × IsStanding p n base x v
standing p n base x b t = elim (less_cases x (rank p n)) [
  | inl l ↦ (let r = reached p n x l in (
    r.0,
    record {
      below = r.1;
      sole = λ y. absurd (true≢false (sym y ∙ r.2));
      image = λ _. image_out p n r.0 r.2 ∙ r.3;
      only = λ u k s i. outside_only p n x r.0 u l r.2 r.3 k i;
    },
  ))
  | inr g ↦ (
    base,
    record {
      below = b;
      sole = λ _. refl;
      image = λ k. (let r = image_in p n base t in omega arith);
      only = λ u k s i. base_only p n base x u g k s i;
    },
  )
]
