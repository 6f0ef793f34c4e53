-- A cover lifted covers, and its size grows by half of the blossom's other nodes.
use Rattle.std.proofs.Common.{◌≡◌, ◌⊎◌, inl, inr, ℕ, zero, suc, ◌+◌, ◌-◌, ◌/◌, ◌<◌, ◌≤◌, leb, Bool, true, false, ◌&&◌, ◌||◌, cond, eqb, List, [], ◌∷◌, length, map, take, get_or, refl, sym, ◌∙◌, ap, subst, All, arith}
use Rattle.std.proofs.lemmas.Bool.{true≢false, cases_eq, eq-eqb, eqb-true, ne_eqb}
use Rattle.std.proofs.lemmas.Bool.Decides.{nat_tests}
use Rattle.std.proofs.lemmas.List.{take_all, get_or-map, length-map}
use Rattle.graph_defs.specs.declared.net.Net.{Net}
use Rattle.graph_defs.specs.Count.{times}
use Rattle.graph_defs.specs.Net.{Ends, EndsBelow}
use Rattle.graph_defs.specs.Sum.{total_below}
use Rattle.graph_defs.specs.Matching.{covers, IsOddSetCover, greatest, halves, cover_size}
use Rattle.graph_defs.proofs.Counts.{times_more, times_has, times_same}
use Rattle.graph_defs.proofs.Covers.{greatest_is}
use Rattle.graph_defs.proofs.Sums.{total_same, total_add, total_only, total_more, total_zero}
use Rattle.match_core.specs.Path.{IsSimple}
use Rattle.blossom_lift.specs.Contraction.{inside, rank, image_of, image_ends, IsContracted}
use Rattle.blossom_lift.specs.Passes.{IsFitLabel}
use Rattle.blossom_lift.proofs.Ranks.{bool_cases, rank_below, rank_same, image_in, image_out}
use Rattle.blossom_lift.proofs.Degrees.{bit_true, bit_false}
use Rattle.blossom_lift.proofs.Contracting.{inside_has, has_inside}

-- ---- covering read and made
either : (a b : Bool) → (a || b) ≡ true → (a ≡ true) ⊎ (b ≡ true)
either true b e = inl refl
either false b e = inr e

left_or : (a b : Bool) → a ≡ true → (a || b) ≡ true
left_or true b e = refl
left_or false b e = absurd (true≢false (sym e))

right_or : (a b : Bool) → b ≡ true → (a || b) ≡ true
right_or true b e = refl
right_or false b e = e

both : (a b : Bool) → a ≡ true → b ≡ true → (a && b) ≡ true
both true b e f = f
both false b e f = absurd (true≢false (sym e))

first_of_both : (a b : Bool) → (a && b) ≡ true → a ≡ true
first_of_both true b e = refl
first_of_both false b e = absurd (true≢false (sym e))

second_of_both : (a b : Bool) → (a && b) ≡ true → b ≡ true
second_of_both true b e = e
second_of_both false b e = absurd (true≢false (sym e))

pub data IsCovered (s t x y : ℕ) : Type 0 where
  loop : s ≡ t → IsCovered s t x y
  begins : x ≡ 1 → IsCovered s t x y
  finishes : y ≡ 1 → IsCovered s t x y
  pair : x ≡ y → 2 ≤ x → IsCovered s t x y

pub cover_read : (labels : List ℕ) (s t : ℕ) → covers labels (s, t) ≡ true → IsCovered s t (get_or labels s 0) (get_or labels t 0)
cover_read labels s t c =
    let x : ℕ = get_or labels s 0 in
    let y : ℕ = get_or labels t 0 in
    elim (either (eqb s t || eqb x 1) (eqb y 1 || (eqb x y && leb 2 x)) c) [
      | inl p ↦ elim (either (eqb s t) (eqb x 1) p) [
        | inl e ↦ loop (eqb-true s t e)
        | inr e ↦ begins (eqb-true x 1 e)
      ]
      | inr p ↦ elim (either (eqb y 1) (eqb x y && leb 2 x) p) [
        | inl e ↦ finishes (eqb-true y 1 e)
        | inr q ↦ (let later = second_of_both (eqb x y) (leb 2 x) q in pair (eqb-true x y (first_of_both (eqb x y) (leb 2 x) q)) (grind (arith, nat_tests)))
      ]
    ]

pub cover_make : (labels : List ℕ) (s t : ℕ) → IsCovered s t (get_or labels s 0) (get_or labels t 0) → covers labels (s, t) ≡ true
cover_make labels s t (loop e) = left_or (eqb s t || eqb (get_or labels s 0) 1) (eqb (get_or labels t 0) 1 || (eqb (get_or labels s 0) (get_or labels t 0) && leb 2 (get_or labels s 0)))
    (left_or (eqb s t) (eqb (get_or labels s 0) 1) (eq-eqb s t e))
cover_make labels s t (begins e) = left_or (eqb s t || eqb (get_or labels s 0) 1) (eqb (get_or labels t 0) 1 || (eqb (get_or labels s 0) (get_or labels t 0) && leb 2 (get_or labels s 0)))
    (right_or (eqb s t) (eqb (get_or labels s 0) 1) (eq-eqb (get_or labels s 0) 1 e))
cover_make labels s t (finishes e) = right_or (eqb s t || eqb (get_or labels s 0) 1) (eqb (get_or labels t 0) 1 || (eqb (get_or labels s 0) (get_or labels t 0) && leb 2 (get_or labels s 0)))
    (left_or (eqb (get_or labels t 0) 1) (eqb (get_or labels s 0) (get_or labels t 0) && leb 2 (get_or labels s 0)) (eq-eqb (get_or labels t 0) 1 e))
cover_make labels s t (pair e l) = right_or (eqb s t || eqb (get_or labels s 0) 1) (eqb (get_or labels t 0) 1 || (eqb (get_or labels s 0) (get_or labels t 0) && leb 2 (get_or labels s 0)))
    (right_or (eqb (get_or labels t 0) 1) (eqb (get_or labels s 0) (get_or labels t 0) && leb 2 (get_or labels s 0))
    (both (eqb (get_or labels s 0) (get_or labels t 0)) (leb 2 (get_or labels s 0)) (eq-eqb (get_or labels s 0) (get_or labels t 0) e) (grind (arith, nat_tests))))

-- ---- labels lifted: b inside, and outside those of the images
pub record AreLifted (n : ℕ) (p : ℕ → Bool) (b : ℕ) (small large : List ℕ) : Type 0 where
  pub long : length large ≡ n
  pub each : (v : ℕ) → v < n → get_or large v 0 ≡ cond (p v) b (get_or small (rank p v) 0)

label_kept : (n : ℕ) (p : ℕ → Bool) (b : ℕ) (small large : List ℕ) (v : ℕ) → AreLifted n p b small large → IsFitLabel small (rank p n) b → v < n → 1 ≤ get_or small (image_of p n v) 0
    → get_or large v 0 ≡ get_or small (image_of p n v) 0
label_kept n p b small large v a f l h = elim (bool_cases (p v)) [
  | inr o ↦ a.each v l ∙ ap (λ (c : Bool). cond c b (get_or small (rank p v) 0)) o ∙ ap (λ (x : ℕ). get_or small x 0) (sym (image_out p n v o))
  | inl t ↦ (let e : get_or small (image_of p n v) 0 ≡ get_or small (rank p n) 0 = ap (λ (x : ℕ). get_or small x 0) (image_in p n v t) in
      let g : get_or large v 0 ≡ b = a.each v l ∙ ap (λ (c : Bool). cond c b (get_or small (rank p v) 0)) t in
      elim f.fits [ inl q ↦ g ∙ sym q ∙ sym e | inr q ↦ (let z : get_or small (rank p n) 0 ≡ 0 = q.0 in absurd (omega arith)) ])
]

one_image : (n : ℕ) (p : ℕ → Bool) (b : ℕ) (small large : List ℕ) (s t : ℕ) → AreLifted n p b small large → IsFitLabel small (rank p n) b → s < n → t < n → image_of p n s ≡ image_of p n t
    → IsCovered s t (get_or large s 0) (get_or large t 0)
one_image n p b small large s t a f ls lt e = elim (bool_cases (p s)) [
  | inl ts ↦ elim (bool_cases (p t)) [
    | inl tt2 ↦ (let g : get_or large s 0 ≡ b = a.each s ls ∙ ap (λ (c : Bool). cond c b (get_or small (rank p s) 0)) ts in
        let h : get_or large t 0 ≡ b = a.each t lt ∙ ap (λ (c : Bool). cond c b (get_or small (rank p t) 0)) tt2 in
        let later = f.later in
        pair (g ∙ sym h) (omega arith))
    | inr ft ↦ (let i = image_in p n s ts in let o = image_out p n t ft in let r = rank_below p t n lt ft in absurd (omega arith))
  ]
  | inr fs ↦ elim (bool_cases (p t)) [
    | inl tt2 ↦ (let i = image_in p n t tt2 in let o = image_out p n s fs in let r = rank_below p s n ls fs in absurd (omega arith))
    | inr ft ↦ (let i = image_out p n s fs in let o = image_out p n t ft in loop (rank_same p s t fs ft (omega arith)))
  ]
]

arc_lifted : (n : ℕ) (p : ℕ → Bool) (b : ℕ) (small large : List ℕ) (s t : ℕ) → AreLifted n p b small large → IsFitLabel small (rank p n) b → s < n → t < n
    → IsCovered (image_of p n s) (image_of p n t) (get_or small (image_of p n s) 0) (get_or small (image_of p n t) 0) → IsCovered s t (get_or large s 0) (get_or large t 0)
arc_lifted n p b small large s t a f ls lt (loop e) = one_image n p b small large s t a f ls lt e
arc_lifted n p b small large s t a f ls lt (begins e) = begins (label_kept n p b small large s a f ls (omega arith) ∙ e)
arc_lifted n p b small large s t a f ls lt (finishes e) = finishes (label_kept n p b small large t a f lt (omega arith) ∙ e)
arc_lifted n p b small large s t a f ls lt (pair e l) =
    let x = label_kept n p b small large s a f ls (omega arith) in
    let y = label_kept n p b small large t a f lt (omega arith) in
    pair (x ∙ e ∙ sym y) (omega arith)

map_long : (g : Ends → Ends) (arcs : List Ends) (i : ℕ) → i < length arcs → i < length (map g arcs)
map_long g arcs i l = (let e = length-map arcs g in omega arith)

pub lifted_covers : (net small : Net) (edges left : List ℕ) (p : ℕ → Bool) (b : ℕ) (cover large : List ℕ) → EndsBelow net.n net.arcs → IsContracted net edges p small left → IsOddSetCover small cover
    → AreLifted net.n p b cover large → IsFitLabel cover (rank p net.n) b → IsOddSetCover net large
lifted_covers net small edges left p b cover large ends c o a f =
    let g : Ends → Ends = image_ends p net.n in
    let all : All (λ (arc : Ends). covers cover arc ≡ true) (map g net.arcs) = subst (All (λ (arc : Ends). covers cover arc ≡ true)) c.arcs o.all in
    record {
      long = a.long;
      all = λ i d l.
          let arc : Ends = get_or net.arcs i d in
          let e = ends i d l in
          let m : covers cover (get_or (map g net.arcs) i (0, 0)) ≡ true = all i (0, 0) (map_long g net.arcs i l) in
          let r : covers cover (g arc) ≡ true = subst (λ (x : Ends). covers cover x ≡ true) (get_or-map g net.arcs i d (0, 0) l) m in
          cover_make large arc.0 arc.1 (arc_lifted net.n p b cover large arc.0 arc.1 a f e.0 e.1 (cover_read cover (image_of p net.n arc.0) (image_of p net.n arc.1) r));
    }

-- ---- labels counted over the nodes
has : ℕ → List ℕ → ℕ → ℕ
has label labels v = cond (eqb label (get_or labels v 0)) 1 0

times_below : (labels : List ℕ) (label k : ℕ) → k ≤ length labels → times label (take k labels) ≡ total_below (has label labels) k
unfolding has
times_below [] label zero h = refl
times_below (l ∷ labels) label zero h = refl
times_below labels label (suc k) h =
    let e : k + 1 ≡ suc k = omega arith in
    let P : ℕ → Type 0 = λ j. times label (take j labels) ≡ total_below (has label labels) k + has label labels k in
    let i = times_below labels label k (omega arith) in
    let m = times_more label labels k (omega arith) in
    subst P e (omega arith)

times_nodes : (labels : List ℕ) (label n : ℕ) → length labels ≡ n → times label labels ≡ total_below (has label labels) n
times_nodes labels label n e =
    let t = times_below labels label n (omega arith) in
    let a = ap (times label) (take_all n labels (omega arith)) in
    omega arith

pub size_in : (ℕ → Bool) → ℕ → ℕ
size_in p n = total_below (λ v. cond (p v) 1 0) n

split_in : (c : Bool) (s x : ℕ) → x ≡ 1 → cond c (s + x) 0 ≡ cond c s 0 + cond {A = ℕ} c 1 0
split_in true s x e = omega arith
split_in false s x e = omega arith

split_sum : (p : ℕ → Bool) (c : Bool) (g : ℕ → ℕ) (m : ℕ) → total_below (λ v. cond (p v) (cond c 1 0) (g (rank p v))) m ≡ cond c (size_in p m) 0 + total_below g (rank p m)
unfolding size_in
split_sum p true g zero = refl
split_sum p false g zero = refl
split_sum p c g (suc m) =
    let i = split_sum p c g m in
    elim (bool_cases (p m)) [
      | inl t ↦ (let k : cond {A = ℕ} (p m) 0 1 ≡ 0 = ap (λ (b : Bool). cond {A = ℕ} b 0 1) t in
          let r : rank p (suc m) ≡ rank p m = omega arith in
          let e : total_below g (rank p (suc m)) ≡ total_below g (rank p m) = ap (total_below g) r in
          let h : cond (p m) (cond {A = ℕ} c 1 0) (g (rank p m)) ≡ cond c 1 0 = ap (λ (b : Bool). cond b (cond {A = ℕ} c 1 0) (g (rank p m))) t in
          let s = bit_true (p m) t in
          let q = split_in c (total_below (λ v. cond (p v) 1 0) m) (cond (p m) 1 0) s in
          omega arith)
      | inr f ↦ (let k : cond {A = ℕ} (p m) 0 1 ≡ 1 = ap (λ (b : Bool). cond {A = ℕ} b 0 1) f in
          let r : rank p (suc m) ≡ suc (rank p m) = omega arith in
          let e : total_below g (rank p (suc m)) ≡ total_below g (suc (rank p m)) = ap (total_below g) r in
          let h : cond (p m) (cond {A = ℕ} c 1 0) (g (rank p m)) ≡ g (rank p m) = ap (λ (b : Bool). cond b (cond {A = ℕ} c 1 0) (g (rank p m))) f in
          let s = bit_false (p m) f in
          let q : cond c (total_below (λ v. cond (p v) 1 0) m + cond (p m) 1 0) 0 ≡ cond c (total_below (λ v. cond (p v) 1 0) m) 0 = ap (λ (x : ℕ). cond c x 0) (omega arith) in
          omega arith)
    ]

case_in : (p : ℕ → Bool) (b x label : ℕ) (v : Bool) → cond {A = ℕ} (eqb label (cond v b x)) 1 0 ≡ cond v (cond (eqb label b) 1 0) (cond (eqb label x) 1 0)
case_in p b x label true = refl
case_in p b x label false = refl

pub grown : (n : ℕ) (p : ℕ → Bool) (b : ℕ) (small large : List ℕ) (label : ℕ) → length small ≡ rank p n + 1 → AreLifted n p b small large
    → times label large + cond (eqb label (get_or small (rank p n) 0)) 1 0 ≡ times label small + cond (eqb label b) (size_in p n) 0
unfolding has
grown n p b small large label long a =
    let s = times_nodes small label (rank p n + 1) long in
    let l = times_nodes large label n a.long in
    let m = total_more (has label small) (rank p n) in
    let e = total_same (has label large) (λ v. cond (p v) (cond (eqb label b) 1 0) (has label small (rank p v))) n
    (λ v k. ap (λ (x : ℕ). cond {A = ℕ} (eqb label x) 1 0) (a.each v k) ∙ case_in p b (get_or small (rank p v) 0) label (p v)) in
    let q = split_sum p (eqb label b) (has label small) n in
    omega arith

-- ---- halves
half_more : (c d k : ℕ) → c ≡ d + (k + k) → c / 2 ≡ d / 2 + k
half_more c d k e = omega arith

other_same : (n : ℕ) (p : ℕ → Bool) (b : ℕ) (small large : List ℕ) (label : ℕ) → length small ≡ rank p n + 1 → AreLifted n p b small large → IsFitLabel small (rank p n) b → 1 ≤ label → (label ≡ b → ⊥)
    → times label large ≡ times label small
other_same n p b small large label long a f l ne =
    let g = grown n p b small large label long a in
    let z : cond (eqb label b) (size_in p n) 0 ≡ 0 = ap (λ (c : Bool). cond c (size_in p n) 0) (ne_eqb label b ne) in
    let y : cond {A = ℕ} (eqb label (get_or small (rank p n) 0)) 1 0 ≡ 0 = ap (λ (c : Bool). cond {A = ℕ} c 1 0) (ne_eqb label (get_or small (rank p n) 0) (λ e. elim f.fits [
      | inl q ↦ ne (e ∙ q)
      | inr q ↦ (let w : get_or small (rank p n) 0 ≡ 0 = q.0 in absurd (omega arith))
    ])) in
    omega arith

half_grown : (n : ℕ) (p : ℕ → Bool) (b : ℕ) (small large : List ℕ) (k : ℕ) → length small ≡ rank p n + 1 → AreLifted n p b small large → IsFitLabel small (rank p n) b → size_in p n ≡ k + k + 1
    → times b large / 2 ≡ times b small / 2 + k
half_grown n p b small large k long a f size =
    let g = grown n p b small large b long a in
    let z : cond (eqb b b) (size_in p n) 0 ≡ size_in p n = ap (λ (c : Bool). cond c (size_in p n) 0) (eq-eqb b b refl) in
    elim f.fits [
      | inl q ↦ (let y : cond {A = ℕ} (eqb b (get_or small (rank p n) 0)) 1 0 ≡ 1 = ap (λ (c : Bool). cond {A = ℕ} c 1 0) (eq-eqb b (get_or small (rank p n) 0) (sym q)) in
          half_more (times b large) (times b small) k (omega arith))
      | inr q ↦ (let w : get_or small (rank p n) 0 ≡ 0 = q.0 in
          let t : times b small ≡ 0 = q.1 in
          let later = f.later in
          let y : cond {A = ℕ} (eqb b (get_or small (rank p n) 0)) 1 0 ≡ 0 = ap (λ (c : Bool). cond {A = ℕ} c 1 0) (ne_eqb b (get_or small (rank p n) 0) (λ e. absurd (omega arith))) in
          let c : times b large ≡ k + k + 1 = omega arith in
          omega arith)
    ]

total_pad : (f : ℕ → ℕ) (a n : ℕ) → a ≤ n → ((i : ℕ) → a ≤ i → f i ≡ 0) → total_below f n ≡ total_below f a
total_pad f a zero l h = (let e : 0 ≡ a = omega arith in ap (total_below f) e)
total_pad f a (suc n) l h = elim (cases_eq a (suc n)) [
  | inl e ↦ ap (total_below f) (sym e)
  | inr ne ↦ (let i = total_pad f a n (omega arith) h in let z = h n (omega arith) in omega arith)
]

times_past : (label : ℕ) (xs : List ℕ) → greatest xs < label → times label xs ≡ 0
times_past label xs l = elim (cases_eq (times label xs) 0) [
  | inl e ↦ e
  | inr ne ↦ (let h = times_has label xs (omega arith) in
      let e : get_or xs h.0 0 ≡ label = h.2 in
      let g = greatest_is xs h.0 in absurd (omega arith))
]

halves_at : (xs : List ℕ) (n : ℕ) → greatest xs ≤ n → halves xs n ≡ halves xs (greatest xs)
halves_at xs n l = total_pad (λ label. times (label + 2) xs / 2) (greatest xs) n l
    (λ i h. let t = times_past (i + 2) xs (omega arith) in omega arith)

half_cases : (b i k x y : ℕ) → ((i + 2 ≡ b → ⊥) → x ≡ y) → (i + 2 ≡ b → x / 2 ≡ y / 2 + k) → x / 2 ≡ y / 2 + cond (eqb (i + 2) b) k 0
half_cases b i k x y o e = elim (cases_eq (i + 2) b) [
  | inl s ↦ (let c : cond (eqb (i + 2) b) k 0 ≡ k = ap (λ (z : Bool). cond z k 0) (eq-eqb (i + 2) b s) in let q = e s in omega arith)
  | inr ne ↦ (let c : cond (eqb (i + 2) b) k 0 ≡ 0 = ap (λ (z : Bool). cond z k 0) (ne_eqb (i + 2) b ne) in let q = ap (λ (z : ℕ). z / 2) (o ne) in omega arith)
]

halves_grown : (n : ℕ) (p : ℕ → Bool) (b : ℕ) (small large : List ℕ) (k m : ℕ) → length small ≡ rank p n + 1 → AreLifted n p b small large → IsFitLabel small (rank p n) b → size_in p n ≡ k + k + 1
    → b ≤ m → halves large m ≡ halves small m + k
halves_grown n p b small large k m long a f size l =
    let later = f.later in
    let j : ℕ = b - 2 in
    let je : j + 2 ≡ b = omega arith in
    let d : ℕ → ℕ = λ i. cond (eqb (i + 2) b) k 0 in
    let s = total_same (λ i. times (i + 2) large / 2) (λ i. times (i + 2) small / 2 + d i) m (λ i _. half_cases b i k (times (i + 2) large) (times (i + 2) small)
    (λ ne. other_same n p b small large (i + 2) long a f (omega arith) ne)
    (λ e. subst (λ (x : ℕ). times x large / 2 ≡ times x small / 2 + k) (sym e) (half_grown n p b small large k long a f size))) in
    let t = total_add (λ i. times (i + 2) small / 2) d m in
    let o = total_only d m j (omega arith) (λ i _ ne. ap (λ (z : Bool). cond z k 0) (ne_eqb (i + 2) b (λ e. ne (omega arith)))) in
    let v : d j ≡ k = ap (λ (z : Bool). cond z k 0) (eq-eqb (j + 2) b je) in
    omega arith

lifted_size : (n : ℕ) (p : ℕ → Bool) (b : ℕ) (small large : List ℕ) (k : ℕ) → length small ≡ rank p n + 1 → AreLifted n p b small large → IsFitLabel small (rank p n) b → size_in p n ≡ k + k + 1
    → cover_size large ≡ cover_size small + k
lifted_size n p b small large k long a f size =
    let m : ℕ = greatest small + greatest large + b in
    let h = halves_grown n p b small large k m long a f size (omega arith) in
    let s = halves_at small m (omega arith) in
    let l = halves_at large m (omega arith) in
    let later = f.later in
    let o = other_same n p b small large 1 long a f (omega arith) (λ e. absurd (omega arith)) in
    omega arith

-- ---- how many are inside
total_times : (nodes : List ℕ) (n : ℕ) → ((v : ℕ) → 1 ≤ times v nodes → v < n) → total_below (λ v. times v nodes) n ≡ length nodes
total_times [] n h = total_zero (λ v. times v []) n (λ i l. refl)
total_times (x ∷ nodes) n h =
    let i = total_times nodes n (λ v t. h v (omega arith)) in
    let t = total_add (λ v. cond (eqb v x) 1 0) (λ v. times v nodes) n in
    let l : x < n = h x (let s = times_same x x nodes refl in omega arith) in
    let o = total_only (λ v. cond (eqb v x) 1 0) n x l (λ v _ ne. bit_false (eqb v x) (ne_eqb v x ne)) in
    let y = bit_true (eqb x x) (eq-eqb x x refl) in
    omega arith

size_inside : (nodes : List ℕ) (n : ℕ) → IsSimple nodes → ((v : ℕ) → 1 ≤ times v nodes → v < n) → size_in (inside nodes) n ≡ length nodes
unfolding size_in
size_inside nodes n s h =
    let e = total_same (λ v. cond (inside nodes v) 1 0) (λ v. times v nodes) n (λ v _. elim (bool_cases (inside nodes v)) [
      | inl t ↦ (let k = inside_has nodes v t in let b = bit_true (inside nodes v) t in let o = s v in omega arith)
      | inr f ↦ (let b = bit_false (inside nodes v) f in elim (cases_eq (times v nodes) 0) [
        | inl z ↦ omega arith
        | inr ne ↦ absurd (true≢false (sym (has_inside nodes v (omega arith)) ∙ f))
      ])
    ]) in
    e ∙ total_times nodes n h

half_is : (n k : ℕ) → n ≡ k + k + 1 → (n - 1) / 2 ≡ k
half_is n k e = omega arith

pub cover_lifted_size : (nodes : List ℕ) (n b : ℕ) (small large : List ℕ) (k : ℕ) → length small ≡ rank (inside nodes) n + 1 → AreLifted n (inside nodes) b small large → IsFitLabel small (rank (inside nodes) n) b
    → IsSimple nodes → ((v : ℕ) → 1 ≤ times v nodes → v < n) → length nodes ≡ k + k + 1 → cover_size large ≡ cover_size small + (length nodes - 1) / 2
cover_lifted_size nodes n b small large k long a f s h odd =
    let i = size_inside nodes n s h in
    let l = lifted_size n (inside nodes) b small large k long a f (omega arith) in
    let e : (length nodes - 1) / 2 ≡ k = half_is (length nodes) k odd in
    omega arith

-- ---- some label from 2 on is unused
one_label : (x n : ℕ) → total_below (λ i. cond (eqb (i + 2) x) 1 0) n ≤ 1
one_label x zero = omega arith
one_label x (suc n) = elim (cases_eq (n + 2) x) [
  | inl e ↦ (let z = total_zero (λ i. cond (eqb (i + 2) x) 1 0) n (λ i l. bit_false (eqb (i + 2) x) (ne_eqb (i + 2) x (λ q. absurd (omega arith)))) in
      let b = bit_true (eqb (n + 2) x) (eq-eqb (n + 2) x e) in omega arith)
  | inr ne ↦ (let i = one_label x n in let b = bit_false (eqb (n + 2) x) (ne_eqb (n + 2) x ne) in omega arith)
]

labels_within : (labels : List ℕ) (n : ℕ) → total_below (λ i. times (i + 2) labels) n ≤ length labels
labels_within [] n = (let z = total_zero (λ i. times (i + 2) []) n (λ i l. refl) in omega arith)
labels_within (x ∷ labels) n =
    let i = labels_within labels n in
    let a = total_add (λ i. cond (eqb (i + 2) x) 1 0) (λ i. times (i + 2) labels) n in
    let o = one_label x n in
    omega arith

total_ones : (f : ℕ → ℕ) (n : ℕ) → ((i : ℕ) → i < n → 1 ≤ f i) → n ≤ total_below f n
total_ones f zero h = omega arith
total_ones f (suc n) h = (let i = total_ones f n (λ i l. h i (omega arith)) in let k = h n (omega arith) in omega arith)

pub not_all_used : (labels : List ℕ) → ((label : ℕ) → 2 ≤ label → label < length labels + 3 → 1 ≤ times label labels) → ⊥
not_all_used labels h =
    let w = labels_within labels (length labels + 1) in
    let o = total_ones (λ i. times (i + 2) labels) (length labels + 1) (λ i l. h (i + 2) (omega arith) (omega arith)) in
    omega arith
