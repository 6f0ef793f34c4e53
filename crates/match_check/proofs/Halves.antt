-- The size of a cover, label by label.
use Rattle.std.proofs.Common.{◌≡◌, inl, inr, ℕ, zero, suc, ◌+◌, ◌/◌, ◌%◌, ◌<◌, ◌≤◌, max, Bool, true, false, not, ◌&&◌, cond, eqb, ltb, sum_by, List, [], ◌∷◌, length, take, set, get_or, replicate, refl, sym, ◌∙◌, ap, subst, arith, length-set, get_or-set_same, get_or-set_other}
use Rattle.std.specs.List.Sorted.{IsNonDecreasing, IsPermutation}
use Rattle.std.proofs.lemmas.Bool.{true≢false, eqb-true, cases_eq, eq-eqb, ne_eqb}
use Rattle.std.proofs.lemmas.List.Sums.{sum_by-cons}
use Rattle.std.proofs.lemmas.List.Sorted.{sum_by-IsPermutation}
use Rattle.std.proofs.lemmas.List.{take_all, length-replicate}
use Rattle.std.proofs.lemmas.Bool.Decides.{nat_tests}
use Rattle.graph_defs.specs.Count.{times}
use Rattle.graph_defs.specs.Matching.{greatest, halves, cover_size}
use Rattle.graph_defs.proofs.Counts.{times_more}
use Rattle.graph_defs.proofs.Sums.{total_same, total_zero}
use Rattle.match_check.specs.Passes.{share, AreCounted, AreRuns}

-- ---- the greatest label
greatest_later : (y : ℕ) (xs : List ℕ) (k : ℕ) → greatest (take (k + 1) xs) ≡ max (greatest (take k xs)) (get_or xs k 0)
    → greatest (take (suc k + 1) (y ∷ xs)) ≡ max (greatest (take (suc k) (y ∷ xs))) (get_or xs k 0)
greatest_later y xs k h =
    let e : suc k + 1 ≡ suc (k + 1) = omega arith in
    let P : ℕ → Type 0 = λ j. greatest (take j (y ∷ xs)) ≡ max (greatest (take (suc k) (y ∷ xs))) (get_or xs k 0) in
    subst P (sym e) (omega arith)

pub greatest_more : (xs : List ℕ) (k : ℕ) → k < length xs → greatest (take (k + 1) xs) ≡ max (greatest (take k xs)) (get_or xs k 0)
greatest_more [] k l = absurd (omega arith)
greatest_more (x ∷ xs) zero l = omega arith
greatest_more (x ∷ xs) (suc k) l = greatest_later x xs k (greatest_more xs k (omega arith))

pub at_most : (xs : List ℕ) (k : ℕ) → k < length xs → get_or xs k 0 ≤ greatest xs
at_most [] k l = absurd (omega arith)
at_most (x ∷ xs) zero l = omega arith
at_most (x ∷ xs) (suc k) l = let i = at_most xs k (omega arith) in omega arith

-- ---- one label more: ys has x once more than xs
abbrev HasOneMore : ℕ → List ℕ → List ℕ → Type 0
HasOneMore x xs ys = (label : ℕ) → times label ys ≡ times label xs + cond {A = ℕ} (eqb label x) 1 0

one_more : (x : ℕ) (xs ys : List ℕ) → HasOneMore x xs ys → times x ys ≡ times x xs + 1
one_more x xs ys h =
    let o : cond {A = ℕ} (eqb x x) 1 0 ≡ 1 = ap (λ (b : Bool). cond {A = ℕ} b 1 0) (eq-eqb x x refl) in
    let m = h x in
    omega arith

no_more : (label x : ℕ) (xs ys : List ℕ) → HasOneMore x xs ys → (label ≡ x → ⊥) → times label ys ≡ times label xs
no_more label x xs ys h ne =
    let z : cond {A = ℕ} (eqb label x) 1 0 ≡ 0 = ap (λ (b : Bool). cond {A = ℕ} b 1 0) (ne_eqb label x ne) in
    let m = h label in
    omega arith

halves_out : (n x : ℕ) (xs ys : List ℕ) → HasOneMore x xs ys → (2 ≤ x → n + 2 ≤ x) → halves ys n ≡ halves xs n
halves_out n x xs ys h out =
    total_same (λ label. times (label + 2) ys / 2) (λ label. times (label + 2) xs / 2) n
    (λ i l. ap (λ (c : ℕ). c / 2) (no_more (i + 2) x xs ys h (λ e. let o = out (omega arith) in absurd (omega arith))))

halves_step : (n x : ℕ) (xs ys : List ℕ) → HasOneMore x xs ys → 2 ≤ x → x < suc n + 2
    → (x < n + 2 → halves ys n ≡ halves xs n + times x xs % 2) → halves ys (suc n) ≡ halves xs (suc n) + times x xs % 2
halves_step n x xs ys h later below before = elim (cases_eq (n + 2) x) [
  | inl e ↦ (let o = halves_out n x xs ys h (λ t. omega arith) in
      let m = one_more x xs ys h in
      let a : times (n + 2) ys ≡ times x ys = ap (λ (l : ℕ). times l ys) e in
      let b : times (n + 2) xs ≡ times x xs = ap (λ (l : ℕ). times l xs) e in
      omega arith)
  | inr ne ↦ (let i = before (omega arith) in
      let m = no_more (n + 2) x xs ys h ne in
      let d : times (n + 2) ys / 2 ≡ times (n + 2) xs / 2 = ap (λ (c : ℕ). c / 2) m in
      omega arith)
]

halves_in : (n x : ℕ) (xs ys : List ℕ) → HasOneMore x xs ys → 2 ≤ x → x < n + 2 → halves ys n ≡ halves xs n + times x xs % 2
halves_in zero x xs ys h later below = absurd (omega arith)
halves_in (suc n) x xs ys h later below = halves_step n x xs ys h later below (λ b. halves_in n x xs ys h later b)

-- ---- one node more
turn_over : (o : Bool) (c : ℕ) → cond {A = ℕ} o 1 0 ≡ c % 2 → cond {A = ℕ} (not o) 1 0 ≡ (c + 1) % 2
turn_over true c h = omega arith
turn_over false c h = omega arith

bit_small : (b : Bool) → cond {A = ℕ} b 1 0 ≤ 1
bit_small true = omega arith
bit_small false = omega arith

early_total : (n x size : ℕ) (xs ys : List ℕ) → HasOneMore x xs ys → x < 2 → size ≡ times 1 xs + halves xs n → size + x ≡ times 1 ys + halves ys n
early_total n x size xs ys more early h =
    let o = halves_out n x xs ys more (λ t. absurd (omega arith)) in
    elim (cases_eq 1 x) [
      | inl e ↦ (let m = one_more x xs ys more in
          let a : times 1 ys ≡ times x ys = ap (λ (i : ℕ). times i ys) e in
          let b : times 1 xs ≡ times x xs = ap (λ (i : ℕ). times i xs) e in
          omega arith)
      | inr ne ↦ (let m = no_more 1 x xs ys more ne in omega arith)
    ]

later_total : (n x size : ℕ) (xs ys : List ℕ) (was : Bool) → HasOneMore x xs ys → 2 ≤ x → x < n + 2 → size ≡ times 1 xs + halves xs n → cond {A = ℕ} was 1 0 ≡ times x xs % 2
    → size + cond {A = ℕ} was 1 0 ≡ times 1 ys + halves ys n
later_total n x size xs ys was more later below h parity =
    let i = halves_in n x xs ys more later below in
    let m = no_more 1 x xs ys more (λ e. absurd (omega arith)) in
    omega arith

total_cases : (n x size : ℕ) (xs ys : List ℕ) (was early : Bool) → ltb x 2 ≡ early → HasOneMore x xs ys → x < n + 2 → size ≡ times 1 xs + halves xs n → cond {A = ℕ} was 1 0 ≡ times x xs % 2
    → (size + cond early x (cond {A = ℕ} was 1 0) ≡ times 1 ys + halves ys n) × (cond early x (cond {A = ℕ} was 1 0) ≤ 1)
total_cases n x size xs ys was true e more below h parity =
    let l : x < 2 = grind (arith, nat_tests) in (early_total n x size xs ys more l h, omega arith)
total_cases n x size xs ys was false e more below h parity =
    (later_total n x size xs ys was more (grind (arith, nat_tests)) below h parity, bit_small was)

total_more : (n x size : ℕ) (xs ys : List ℕ) (was : Bool) → HasOneMore x xs ys → x < n + 2 → size ≡ times 1 xs + halves xs n → cond {A = ℕ} was 1 0 ≡ times x xs % 2
    → (size + share x was ≡ times 1 ys + halves ys n) × (share x was ≤ 1)
total_more n x size xs ys was more below h parity = total_cases n x size xs ys was (ltb x 2) refl more below h parity

-- ---- by a table
pub counted_more : (labels : List ℕ) (k size r : ℕ) (odd after : List Bool) → AreCounted labels k size odd → k < length labels
    → r ≡ share (get_or labels k 0) (get_or odd (get_or labels k 0) false) → after ≡ set odd (get_or labels k 0) (not (get_or odd (get_or labels k 0) false))
    → AreCounted labels (k + 1) (size + r) after
counted_more labels k size r odd after h l er ea =
    let x : ℕ = get_or labels k 0 in
    let o : Bool = get_or odd x false in
    let xs : List ℕ = take k labels in
    let ys : List ℕ = take (k + 1) labels in
    let more : HasOneMore x xs ys = λ label. times_more label labels k l in
    let top = at_most labels k l in
    let t = total_more (greatest labels) x size xs ys o more (omega arith) h.total (h.parity x) in
    let same = t.0 in
    let small = t.1 in
    let s = h.small in
    record {
      long = ap length ea ∙ length-set odd x (not o) ∙ h.long;
      total = omega arith;
      small = omega arith;
      parity = λ label. ap (λ (bs : List Bool). cond {A = ℕ} (get_or bs label false) 1 0) ea ∙ elim (cases_eq label x) [
        | inl e ↦ (
            let P : ℕ → Type 0 = λ j. cond {A = ℕ} (get_or (set odd x (not o)) j false) 1 0 ≡ times j ys % 2 in
            let a : get_or (set odd x (not o)) x false ≡ not o = get_or-set_same odd x (not o) false (omega (arith, h.long)) in
            subst P (sym e) (ap (λ (b : Bool). cond {A = ℕ} b 1 0) a ∙ turn_over o (times x xs) (h.parity x) ∙ ap (λ (c : ℕ). c % 2) (sym (one_more x xs ys more))))
        | inr ne ↦ (
            let a : get_or (set odd x (not o)) label false ≡ get_or odd label false = get_or-set_other odd x label (not o) false ne in
            ap (λ (b : Bool). cond {A = ℕ} b 1 0) a ∙ h.parity label ∙ ap (λ (c : ℕ). c % 2) (sym (no_more label x xs ys more ne)))
      ];
    }

get_none : (n i : ℕ) → get_or (replicate n false) i false ≡ false
get_none zero i = refl
get_none (suc n) zero = refl
get_none (suc n) (suc i) = get_none n i

pub counted_none : (labels : List ℕ) → AreCounted labels 0 0 (replicate (greatest labels + 1) false)
counted_none labels =
    record {
      long = length-replicate (greatest labels + 1) false;
      total = (let z = total_zero (λ label. times (label + 2) (take 0 labels) / 2) (greatest labels) (λ i l. refl) in omega arith);
      small = omega arith;
      parity = λ label. ap (λ (b : Bool). cond {A = ℕ} b 1 0) (get_none (greatest labels + 1) label);
    }

pub counted_all : (labels : List ℕ) (k size : ℕ) → size ≡ times 1 (take k labels) + halves (take k labels) (greatest labels) → length labels ≤ k → size ≡ cover_size labels
counted_all labels k size h le =
    h ∙ ap (λ (xs : List ℕ). times 1 xs + halves xs (greatest labels)) (take_all k labels le)

-- ---- by order
run_parity : (odd same : Bool) (x last c : ℕ) → eqb x last ≡ same → last ≤ x → (last < x → c ≡ 0) → (x ≡ last → cond {A = ℕ} odd 1 0 ≡ c % 2) → cond {A = ℕ} (odd && same) 1 0 ≡ c % 2
run_parity true true x last c e le none here = here (eqb-true x last e)
run_parity false true x last c e le none here = here (eqb-true x last e)
run_parity true false x last c e le none here =
    let ne : x ≡ last → ⊥ = λ f. true≢false (sym (eq-eqb x last f) ∙ e) in
    let z = none (elim (cases_eq last x) [ inl f ↦ absurd (ne (sym f)) | inr d ↦ omega arith ]) in omega arith
run_parity false false x last c e le none here =
    let ne : x ≡ last → ⊥ = λ f. true≢false (sym (eq-eqb x last f) ∙ e) in
    let z = none (elim (cases_eq last x) [ inl f ↦ absurd (ne (sym f)) | inr d ↦ omega arith ]) in omega arith

pub runs_more : (sorted : List ℕ) (k size last r : ℕ) (odd was : Bool) → IsNonDecreasing sorted → AreRuns sorted k size last odd → k < length sorted
    → was ≡ (odd && eqb (get_or sorted k 0) last) → r ≡ share (get_or sorted k 0) was → AreRuns sorted (k + 1) (size + r) (get_or sorted k 0) (not was)
runs_more sorted k size last r odd was up h l ew er =
    let x : ℕ = get_or sorted k 0 in
    let xs : List ℕ = take k sorted in
    let ys : List ℕ = take (k + 1) sorted in
    let more : HasOneMore x xs ys = λ label. times_more label sorted k l in
    let top = at_most sorted k l in
    let le = h.rest k (omega arith) l in
    let parity : cond {A = ℕ} was 1 0 ≡ times x xs % 2 =
    ap (λ (b : Bool). cond {A = ℕ} b 1 0) ew
    ∙ run_parity odd (eqb x last) x last (times x xs) refl le (h.later x)
    (λ e. h.parity ∙ ap (λ (i : ℕ). times i xs % 2) (sym e)) in
    let t = total_more (greatest sorted) x size xs ys was more (omega arith) h.total parity in
    let same = t.0 in
    let small = t.1 in
    let s = h.small in
    record {
      total = omega arith;
      small = omega arith;
      parity = turn_over was (times x xs) parity ∙ ap (λ (c : ℕ). c % 2) (sym (one_more x xs ys more));
      later = λ label past. no_more label x xs ys more (λ e. absurd (omega arith)) ∙ h.later label (omega arith);
      rest = λ i from below. up k i 0 (omega arith) below;
    }

pub runs_none : (sorted : List ℕ) → AreRuns sorted 0 0 0 false
runs_none sorted =
    record {
      total = (let z = total_zero (λ label. times (label + 2) (take 0 sorted) / 2) (greatest sorted) (λ i l. refl) in omega arith);
      small = omega arith;
      parity = refl;
      later = λ label past. refl;
      rest = λ i from below. omega arith;
    }

-- ---- the same labels in another order
times_sum : (label : ℕ) (xs : List ℕ) → times label xs ≡ sum_by (λ (y : ℕ). cond {A = ℕ} (eqb label y) 1 0) xs
times_sum label [] = refl
times_sum label (x ∷ xs) = let i = times_sum label xs in let c = sum_by-cons (λ (y : ℕ). cond {A = ℕ} (eqb label y) 1 0) x xs in omega arith

times_moved : (label : ℕ) (xs ys : List ℕ) → IsPermutation xs ys → times label ys ≡ times label xs
times_moved label xs ys p =
    times_sum label ys ∙ sum_by-IsPermutation (λ (y : ℕ). cond {A = ℕ} (eqb label y) 1 0) xs ys p ∙ sym (times_sum label xs)

past_greatest : (label : ℕ) (xs : List ℕ) → greatest xs < label → times label xs ≡ 0
past_greatest label [] l = refl
past_greatest label (x ∷ xs) l =
    let i = past_greatest label xs (omega arith) in
    let z : cond {A = ℕ} (eqb label x) 1 0 ≡ 0 = ap (λ (b : Bool). cond {A = ℕ} b 1 0) (ne_eqb label x (λ e. absurd (omega arith))) in
    omega arith

-- labels past the greatest add nothing
halves_past : (xs : List ℕ) (more : ℕ) → halves xs (more + greatest xs) ≡ halves xs (greatest xs)
halves_past xs zero = let e : 0 + greatest xs ≡ greatest xs = omega arith in ap (halves xs) e
halves_past xs (suc more) =
    let i = halves_past xs more in
    let s : suc more + greatest xs ≡ suc (more + greatest xs) = omega arith in
    let t : halves xs (suc more + greatest xs) ≡ halves xs (suc (more + greatest xs)) = ap (halves xs) s in
    let z = past_greatest (more + greatest xs + 2) xs (omega arith) in
    let e : times (more + greatest xs + 2) xs / 2 ≡ 0 = ap (λ (c : ℕ). c / 2) z in
    omega arith

halves_moved : (xs ys : List ℕ) (n : ℕ) → IsPermutation xs ys → halves ys n ≡ halves xs n
halves_moved xs ys n p =
    total_same (λ label. times (label + 2) ys / 2) (λ label. times (label + 2) xs / 2) n
    (λ i l. ap (λ (c : ℕ). c / 2) (times_moved (i + 2) xs ys p))

pub size_moved : (xs ys : List ℕ) → IsPermutation xs ys → cover_size ys ≡ cover_size xs
size_moved xs ys p =
    let t = times_moved 1 xs ys p in
    let a = halves_past xs (greatest ys) in
    let b = halves_past ys (greatest xs) in
    let c : greatest xs + greatest ys ≡ greatest ys + greatest xs = omega arith in
    let d : halves ys (greatest xs + greatest ys) ≡ halves ys (greatest ys + greatest xs) = ap (λ (n : ℕ). halves ys n) c in
    let m = halves_moved xs ys (greatest ys + greatest xs) p in
    omega arith
