-- Ends of edges counted, in a list and in what a test leaves of it.
use Rattle.std.proofs.Common.{◌≡◌, ◌⊎◌, inl, inr, ℕ, ◌≤◌, Bool, true, false, ◌||◌, cond, eqb, List, [], ◌∷◌, get_or, refl, sym, ◌∙◌, ap, subst, All, arith}
use Rattle.std.proofs.lemmas.Bool.{true≢false, cases_eq, eq-eqb, eqb-true}
use Rattle.std.proofs.lemmas.List.{get_or_default}
use Rattle.std.specs.List.{filter}
use Rattle.graph_defs.specs.declared.net.Net.{Net}
use Rattle.graph_defs.specs.Count.{times}
use Rattle.graph_defs.specs.Net.{source, target}
use Rattle.graph_defs.specs.Matching.{is_end, degree, IsMatching}
use Rattle.graph_defs.proofs.Counts.{times_same, times_other, times_has, has_times}
use Rattle.blossom_lift.proofs.Ranks.{bool_cases}

pub bit_true : (b : Bool) → b ≡ true → cond {A = ℕ} b 1 0 ≡ 1
bit_true b t = ap (λ (c : Bool). cond {A = ℕ} c 1 0) t

pub bit_false : (b : Bool) → b ≡ false → cond {A = ℕ} b 1 0 ≡ 0
bit_false b t = ap (λ (c : Bool). cond {A = ℕ} c 1 0) t

pub bit_le : (a b : Bool) → (a ≡ true → b ≡ true) → cond {A = ℕ} a 1 0 ≤ cond {A = ℕ} b 1 0
bit_le true b h = let t = bit_true b (h refl) in omega arith
bit_le false b h = omega arith

-- ---- an end of an edge
pub end_cases : (net : Net) (v e : ℕ) → is_end net v e ≡ true → (source net e ≡ v) ⊎ (target net e ≡ v)
end_cases net v e t = elim (bool_cases (eqb (source net e) v)) [
  | inl y ↦ inl (eqb-true (source net e) v y)
  | inr f ↦ inr (eqb-true (target net e) v (ap (λ (b : Bool). b || eqb (target net e) v) (sym f) ∙ t))
]

pub source_end : (net : Net) (v e : ℕ) → source net e ≡ v → is_end net v e ≡ true
source_end net v e s = ap (λ (b : Bool). b || eqb (target net e) v) (eq-eqb (source net e) v s)

or_true : (a b : Bool) → b ≡ true → (a || b) ≡ true
or_true true b t = refl
or_true false b t = t

pub target_end : (net : Net) (v e : ℕ) → target net e ≡ v → is_end net v e ≡ true
target_end net v e s = or_true (eqb (source net e) v) (eqb (target net e) v) (eq-eqb (target net e) v s)

-- ---- entries of a list
pub times_cons : (x y : ℕ) (xs : List ℕ) → times x xs ≤ times x (y ∷ xs)
times_cons x y xs = omega arith

pub times_head : (x : ℕ) (xs : List ℕ) → 1 ≤ times x (x ∷ xs)
times_head x xs = let t = times_same x x xs refl in omega arith

-- what holds at all places holds of each entry
pub All_at : (P : ℕ → Type 0) (xs : List ℕ) (x : ℕ) → All P xs → 1 ≤ times x xs → P x
All_at P xs x h t = let r = times_has x xs t in subst P r.2 (h r.0 0 r.1)

pub All_from : (P : ℕ → Type 0) (xs : List ℕ) → ((x : ℕ) → 1 ≤ times x xs → P x) → All P xs
All_from P xs h k d l = h (get_or xs k d) (has_times (get_or xs k d) xs k l (get_or_default xs k 0 d l))

-- ---- degrees
pub degree_has : (net : Net) (v e : ℕ) (es : List ℕ) → 1 ≤ times e es → is_end net v e ≡ true → 1 ≤ degree net v es
degree_has net v e [] h t = absurd (omega arith)
degree_has net v e (x ∷ es) h t = elim (cases_eq e x) [
  | inl s ↦ (let b = bit_true (is_end net v x) (ap (is_end net v) (sym s) ∙ t) in omega arith)
  | inr ne ↦ (let o = times_other e x es ne in let i = degree_has net v e es (omega arith) t in omega arith)
]

two_cases : (net : Net) (v e f x : ℕ) (es : List ℕ) → (e ≡ f → ⊥) → 1 ≤ times e (x ∷ es) → 1 ≤ times f (x ∷ es) → is_end net v e ≡ true → is_end net v f ≡ true
    → (1 ≤ times e es → 1 ≤ times f es → 2 ≤ degree net v es) → 2 ≤ degree net v (x ∷ es)
two_cases net v e f x es ne he hf te tf i = elim (cases_eq e x) [
  | inl s ↦ (let b = bit_true (is_end net v x) (ap (is_end net v) (sym s) ∙ te) in
      let o = times_other f x es (λ q. ne (s ∙ sym q)) in
      let d = degree_has net v f es (omega arith) tf in omega arith)
  | inr a ↦ elim (cases_eq f x) [
    | inl s ↦ (let b = bit_true (is_end net v x) (ap (is_end net v) (sym s) ∙ tf) in
        let o = times_other e x es a in
        let d = degree_has net v e es (omega arith) te in omega arith)
    | inr c ↦ (let o = times_other e x es a in let q = times_other f x es c in
        let d = i (omega arith) (omega arith) in omega arith)
  ]
]

two_at : (net : Net) (v e f : ℕ) (es : List ℕ) → (e ≡ f → ⊥) → 1 ≤ times e es → 1 ≤ times f es → is_end net v e ≡ true → is_end net v f ≡ true → 2 ≤ degree net v es
two_at net v e f [] ne he hf te tf = absurd (omega arith)
two_at net v e f (x ∷ es) ne he hf te tf = two_cases net v e f x es ne he hf te tf (λ p q. two_at net v e f es ne p q te tf)

pub one_edge_at : (net : Net) (v e f : ℕ) (es : List ℕ) → IsMatching net es → 1 ≤ times e es → 1 ≤ times f es → is_end net v e ≡ true → is_end net v f ≡ true → e ≡ f
one_edge_at net v e f es m he hf te tf = elim (cases_eq e f) [
  | inl s ↦ s
  | inr ne ↦ (let a = m.apart v in let t = two_at net v e f es ne he hf te tf in absurd (omega arith))
]

pub degree_le : (net other : Net) (v w : ℕ) (es : List ℕ) → ((e : ℕ) → 1 ≤ times e es → is_end net v e ≡ true → is_end other w e ≡ true) → degree net v es ≤ degree other w es
degree_le net other v w [] h = omega arith
degree_le net other v w (e ∷ es) h =
    let i = degree_le net other v w es (λ f t. h f (omega arith)) in
    let b = bit_le (is_end net v e) (is_end other w e) (h e (times_head e es)) in
    omega arith

-- ---- what a test leaves
pub times_filter : (q : ℕ → Bool) (x : ℕ) (xs : List ℕ) → times x (filter q xs) ≤ times x xs
times_filter q x [] = omega arith
times_filter q x (y ∷ xs) =
    let i = times_filter q x xs in
    let P : Bool → Type 0 = λ b. times x (cond b (y ∷ filter q xs) (filter q xs)) ≤ times x (y ∷ xs) in
    elim (bool_cases (q y)) [
      | inl t ↦ subst P (sym t) (omega arith)
      | inr f ↦ subst P (sym f) (omega arith)
    ]

pub filter_passed : (q : ℕ → Bool) (x : ℕ) (xs : List ℕ) → 1 ≤ times x (filter q xs) → q x ≡ true
filter_passed q x [] h = absurd (omega arith)
filter_passed q x (y ∷ xs) h =
    let P : Bool → Type 0 = λ b. 1 ≤ times x (cond b (y ∷ filter q xs) (filter q xs)) in
    elim (bool_cases (q y)) [
      | inl t ↦ elim (cases_eq x y) [
        | inl e ↦ ap q e ∙ t
        | inr ne ↦ (let k : 1 ≤ times x (y ∷ filter q xs) = subst P t h in
            let o = times_other x y (filter q xs) ne in filter_passed q x xs (omega arith))
      ]
      | inr f ↦ filter_passed q x xs (subst P f h)
    ]

pub filter_has : (q : ℕ → Bool) (x : ℕ) (xs : List ℕ) → 1 ≤ times x xs → q x ≡ true → 1 ≤ times x (filter q xs)
filter_has q x [] h t = absurd (omega arith)
filter_has q x (y ∷ xs) h t =
    let P : Bool → Type 0 = λ b. 1 ≤ times x (cond b (y ∷ filter q xs) (filter q xs)) in
    elim (cases_eq x y) [
      | inl e ↦ (let k = times_same x y (filter q xs) e in subst P (sym (ap q (sym e) ∙ t)) (omega arith))
      | inr ne ↦ (let o = times_other x y xs ne in let i = filter_has q x xs (omega arith) t in
          elim (bool_cases (q y)) [
            | inl s ↦ subst P (sym s) (omega arith)
            | inr f ↦ subst P (sym f) i
          ])
    ]

pub degree_filter : (net : Net) (v : ℕ) (q : ℕ → Bool) (es : List ℕ) → degree net v (filter q es) ≤ degree net v es
degree_filter net v q [] = omega arith
degree_filter net v q (e ∷ es) =
    let i = degree_filter net v q es in
    let P : Bool → Type 0 = λ b. degree net v (cond b (e ∷ filter q es) (filter q es)) ≤ degree net v (e ∷ es) in
    elim (bool_cases (q e)) [
      | inl t ↦ subst P (sym t) (omega arith)
      | inr f ↦ subst P (sym f) (omega arith)
    ]

pub degree_kept : (net : Net) (v : ℕ) (q : ℕ → Bool) (es : List ℕ) → ((e : ℕ) → 1 ≤ times e es → is_end net v e ≡ true → q e ≡ true) → degree net v es ≤ degree net v (filter q es)
degree_kept net v q [] h = omega arith
degree_kept net v q (e ∷ es) h =
    let i = degree_kept net v q es (λ f t. h f (omega arith)) in
    let P : Bool → Type 0 = λ b. degree net v (e ∷ es) ≤ degree net v (cond b (e ∷ filter q es) (filter q es)) in
    elim (bool_cases (q e)) [
      | inl t ↦ subst P (sym t) (omega arith)
      | inr f ↦ elim (bool_cases (is_end net v e)) [
        | inl y ↦ absurd (true≢false (sym (h e (times_head e es) y) ∙ f))
        | inr n ↦ (let b = bit_false (is_end net v e) n in subst P (sym f) (omega arith))
      ]
    ]
