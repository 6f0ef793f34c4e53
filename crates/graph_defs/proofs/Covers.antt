-- No matching has more edges than an odd-set cover's size: sums over nodes and over edges.
use Rattle.std.proofs.Common.{◌≡◌, ◌≢◌, ◌⊎◌, inl, inr, ℕ, zero, suc, ◌+◌, ◌-◌, ◌*◌, ◌/◌, ◌<◌, ◌≤◌, leb, Bool, true, false, ◌&&◌, ◌||◌, cond, eqb, List, [], ◌∷◌, length, take, get_or, refl, sym, ◌∙◌, ap, subst, All, arith}
use Rattle.std.proofs.lemmas.Bool.{true≢false, cases_eq, eq-eqb, eqb-true, ne_eqb}
use Rattle.std.proofs.lemmas.List.{take_all}
use Rattle.std.proofs.lemmas.List.Elements.{All-tail}
use Rattle.std.proofs.lemmas.Bool.Decides.{nat_tests}
use Rattle.graph_defs.specs.declared.net.Net.{Net}
use Rattle.graph_defs.specs.Count.{times}
use Rattle.graph_defs.specs.Net.{IsValid, source, target}
use Rattle.graph_defs.specs.Sum.{total_below}
use Rattle.graph_defs.specs.Matching.{is_end, degree, IsMatching, covers, IsOddSetCover, greatest, halves, cover_size}
use Rattle.graph_defs.proofs.Counts.{times_more}
use Rattle.graph_defs.proofs.Sums.{total_same, total_le, total_add, total_zero, total_only}

-- ---- one edge in a sum over nodes
either_bit : (a b : Bool) (x : ℕ) → (a ≡ true → b ≡ true → ⊥) → cond (a || b) x 0 ≡ cond a x 0 + cond b x 0
either_bit true true x h = absurd (h refl refl)
either_bit true false x h = omega arith
either_bit false b x h = omega arith

at_one : (w : ℕ → ℕ) (s n : ℕ) → s < n → total_below (λ v. cond (eqb s v) (w v) 0) n ≡ w s
at_one w s n l =
    total_only (λ v. cond (eqb s v) (w v) 0) n s l
    (λ i m ne. ap (λ (b : Bool). cond b (w i) 0) (ne_eqb s i (λ (e : s ≡ i). ne (sym e))))
    ∙ ap (λ (b : Bool). cond b (w s) 0) (eq-eqb s s refl)

one_edge : (net : Net) (w : ℕ → ℕ) (arc : ℕ) → source net arc < net.n → target net arc < net.n → (source net arc ≡ target net arc → ⊥)
    → total_below (λ v. cond (is_end net v arc) (w v) 0) net.n ≡ w (source net arc) + w (target net arc)
one_edge net w arc ls lt ne =
    total_same (λ v. cond (is_end net v arc) (w v) 0) (λ v. cond (eqb (source net arc) v) (w v) 0 + cond (eqb (target net arc) v) (w v) 0) net.n
    (λ v m. either_bit (eqb (source net arc) v) (eqb (target net arc) v) (w v) (λ p q. ne (eqb-true (source net arc) v p ∙ sym (eqb-true (target net arc) v q))))
    ∙ total_add (λ v. cond (eqb (source net arc) v) (w v) 0) (λ v. cond (eqb (target net arc) v) (w v) 0) net.n
    ∙ (let a = at_one w (source net arc) net.n ls in let b = at_one w (target net arc) net.n lt in omega arith)

-- ---- weights of nodes, once for each end of an edge that they are
weighed : Net → (ℕ → ℕ) → ℕ → List ℕ → ℕ
weighed net w v [] = 0
weighed net w v (arc ∷ arcs) = cond (is_end net v arc) (w v) 0 + weighed net w v arcs

pub ends_weight : Net → (ℕ → ℕ) → List ℕ → ℕ
ends_weight net w [] = 0
ends_weight net w (arc ∷ arcs) = w (source net arc) + w (target net arc) + ends_weight net w arcs

weighed_cases : (b : Bool) (x d r : ℕ) → cond {A = ℕ} b 1 0 + d ≤ 1 → (d ≡ 0 → r ≡ 0) → (d ≤ 1 → r ≤ x) → cond b x 0 + r ≤ x
weighed_cases true x d r h none some = let z = none (omega arith) in omega arith
weighed_cases false x d r h none some = let z = some (omega arith) in omega arith

none_cases : (b : Bool) (x d r : ℕ) → cond {A = ℕ} b 1 0 + d ≡ 0 → (d ≡ 0 → r ≡ 0) → cond b x 0 + r ≡ 0
none_cases true x d r h none = absurd (omega arith)
none_cases false x d r h none = let z = none (omega arith) in omega arith

weighed_none : (net : Net) (w : ℕ → ℕ) (v : ℕ) (arcs : List ℕ) → degree net v arcs ≡ 0 → weighed net w v arcs ≡ 0
unfolding weighed
weighed_none net w v [] h = refl
weighed_none net w v (arc ∷ arcs) h = none_cases (is_end net v arc) (w v) (degree net v arcs) (weighed net w v arcs) h (λ z. weighed_none net w v arcs z)

weighed_once : (net : Net) (w : ℕ → ℕ) (v : ℕ) (arcs : List ℕ) → degree net v arcs ≤ 1 → weighed net w v arcs ≤ w v
unfolding weighed
weighed_once net w v [] h = omega arith
weighed_once net w v (arc ∷ arcs) h =
    weighed_cases (is_end net v arc) (w v) (degree net v arcs) (weighed net w v arcs) h (λ z. weighed_none net w v arcs z) (λ s. weighed_once net w v arcs s)

all_edges : (net : Net) (w : ℕ → ℕ) (arcs : List ℕ) → IsValid net → All (λ arc. arc < length net.arcs) arcs → All (λ arc. source net arc ≢ target net arc) arcs
    → total_below (λ v. weighed net w v arcs) net.n ≡ ends_weight net w arcs
unfolding weighed ends_weight
all_edges net w [] valid among loops = total_zero (λ v. 0) net.n (λ i l. refl)
all_edges net w (arc ∷ arcs) valid among loops =
    let ends = valid.ends arc (0, 0) (among 0 0 (omega arith)) in
    let i = all_edges net w arcs valid (All-tail (λ a. a < length net.arcs) arc arcs among) (All-tail (λ a. source net a ≢ target net a) arc arcs loops) in
    let o = one_edge net w arc ends.0 ends.1 (loops 0 0 (omega arith)) in
    let s = total_add (λ v. cond (is_end net v arc) (w v) 0) (λ v. weighed net w v arcs) net.n in
    omega arith

-- a weight of the ends of a matching's edges is at most that of the nodes
pub ends_within : (net : Net) (w : ℕ → ℕ) (edges : List ℕ) → IsValid net → IsMatching net edges → ends_weight net w edges ≤ total_below w net.n
ends_within net w edges valid m =
    let a = all_edges net w edges valid m.among m.loops in
    let l = total_le (λ v. weighed net w v edges) w net.n (λ v k. weighed_once net w v edges (m.apart v)) in
    omega arith

-- ---- labels counted by nodes
pub has_label : List ℕ → ℕ → ℕ → ℕ
has_label labels label v = cond (eqb label (get_or labels v 0)) 1 0

times_below : (labels : List ℕ) (label k : ℕ) → k ≤ length labels → times label (take k labels) ≡ total_below (has_label labels label) k
unfolding has_label
times_below [] label zero h = refl
times_below (l ∷ labels) label zero h = refl
times_below labels label (suc k) h =
    let e : k + 1 ≡ suc k = omega arith in
    let P : ℕ → Type 0 = λ j. times label (take j labels) ≡ total_below (has_label labels label) k + has_label labels label k in
    let i = times_below labels label k (omega arith) in
    let m = times_more label labels k (omega arith) in
    subst P e (omega arith)

pub times_nodes : (labels : List ℕ) (label n : ℕ) → length labels ≡ n → times label labels ≡ total_below (has_label labels label) n
times_nodes labels label n e =
    let t = times_below labels label n (omega arith) in
    let a = ap (times label) (take_all n labels (omega arith)) in
    omega arith

-- ---- edges by the labels of their ends
both_have : Net → List ℕ → ℕ → ℕ → ℕ
both_have net labels label arc = cond (eqb label (get_or labels (source net arc) 0) && eqb label (get_or labels (target net arc) 0)) 1 0

both : Net → List ℕ → ℕ → List ℕ → ℕ
both net labels label [] = 0
both net labels label (arc ∷ arcs) = both_have net labels label arc + both net labels label arcs

and_twice : (a b : Bool) → 2 * cond {A = ℕ} (a && b) 1 0 ≤ cond {A = ℕ} a 1 0 + cond {A = ℕ} b 1 0
and_twice true true = omega arith
and_twice true false = omega arith
and_twice false b = omega arith

twice_both : (net : Net) (labels : List ℕ) (label : ℕ) (arcs : List ℕ) → 2 * both net labels label arcs ≤ ends_weight net (has_label labels label) arcs
unfolding both both_have ends_weight has_label
twice_both net labels label [] = omega arith
twice_both net labels label (arc ∷ arcs) =
    let i = twice_both net labels label arcs in
    let a = and_twice (eqb label (get_or labels (source net arc) 0)) (eqb label (get_or labels (target net arc) 0)) in
    omega arith

-- the edges whose ends have one same label from 2 to n + 1
pairs : Net → List ℕ → List ℕ → ℕ → ℕ
pairs net labels arcs n = total_below (λ i. both net labels (i + 2) arcs) n

pairs_within : (net : Net) (labels edges : List ℕ) (n : ℕ) → IsValid net → IsMatching net edges → length labels ≡ net.n → pairs net labels edges n ≤ halves labels n
unfolding pairs
pairs_within net labels edges n valid m long =
    total_le (λ i. both net labels (i + 2) edges) (λ i. times (i + 2) labels / 2) n
    (λ i l. let t = twice_both net labels (i + 2) edges in
    let e = ends_within net (has_label labels (i + 2)) edges valid m in
    let s = times_nodes labels (i + 2) net.n long in
    omega arith)

-- ---- each edge of the matching is held: an end labelled 1, or a pair
pub record IsPaired (net : Net) (labels : List ℕ) (n arc : ℕ) : Type 0 where
  pub label : ℕ
  pub later : 2 ≤ label
  pub small : label < n + 2
  pub first : get_or labels (source net arc) 0 ≡ label
  pub second : get_or labels (target net arc) 0 ≡ label

abbrev pub IsHeld : Net → List ℕ → ℕ → ℕ → Type 0
IsHeld net labels n arc = (get_or labels (source net arc) 0 ≡ 1) ⊎ ((get_or labels (target net arc) 0 ≡ 1) ⊎ IsPaired net labels n arc)

label_is : (label x : ℕ) → x ≡ label → cond {A = ℕ} (eqb label x) 1 0 ≡ 1
label_is label x e = ap (λ (b : Bool). cond {A = ℕ} b 1 0) (eq-eqb label x (sym e))

both_are : (label x y : ℕ) → x ≡ label → y ≡ label → cond {A = ℕ} (eqb label x && eqb label y) 1 0 ≡ 1
both_are label x y e f = ap (λ (b : Bool). cond {A = ℕ} (b && eqb label y) 1 0) (eq-eqb label x (sym e)) ∙ label_is label y f

pairs_more : (net : Net) (labels : List ℕ) (arc : ℕ) (arcs : List ℕ) (n : ℕ) → pairs net labels arcs n ≤ pairs net labels (arc ∷ arcs) n
unfolding pairs both
pairs_more net labels arc arcs n =
    total_le (λ i. both net labels (i + 2) arcs) (λ i. both net labels (i + 2) (arc ∷ arcs)) n (λ i l. omega arith)

at_least : (f : ℕ → ℕ) (n i : ℕ) → i < n → f i ≤ total_below f n
at_least f zero i l = absurd (omega arith)
at_least f (suc n) i l = elim (cases_eq i n) [
  | inl e ↦ (let v : f i ≡ f n = ap f e in omega arith)
  | inr ne ↦ (let h = at_least f n i (omega arith) in omega arith)
]

pairs_pair : (net : Net) (labels : List ℕ) (arc : ℕ) (arcs : List ℕ) (n : ℕ) → IsPaired net labels n arc → pairs net labels arcs n + 1 ≤ pairs net labels (arc ∷ arcs) n
unfolding pairs both both_have
pairs_pair net labels arc arcs n p =
    let f : ℕ → ℕ = λ i. both_have net labels (i + 2) arc in
    let s = total_add f (λ i. both net labels (i + 2) arcs) n in
    let j : ℕ = p.label - 2 in
    let e : j + 2 ≡ p.label = omega (arith, p.later) in
    let a = at_least f n j (omega (arith, p.later, p.small)) in
    let o : f j ≡ 1 = both_are (j + 2) (get_or labels (source net arc) 0) (get_or labels (target net arc) 0) (p.first ∙ sym e) (p.second ∙ sym e) in
    omega arith

held_cases : (net : Net) (labels : List ℕ) (arc : ℕ) (arcs : List ℕ) (n : ℕ) → IsHeld net labels n arc
    → length arcs ≤ ends_weight net (has_label labels 1) arcs + pairs net labels arcs n
    → length arcs + 1 ≤ ends_weight net (has_label labels 1) (arc ∷ arcs) + pairs net labels (arc ∷ arcs) n
unfolding ends_weight has_label
held_cases net labels arc arcs n (inl e) h = let l = label_is 1 (get_or labels (source net arc) 0) e in let p = pairs_more net labels arc arcs n in omega arith
held_cases net labels arc arcs n (inr (inl e)) h = let l = label_is 1 (get_or labels (target net arc) 0) e in let p = pairs_more net labels arc arcs n in omega arith
held_cases net labels arc arcs n (inr (inr p)) h = let m = pairs_pair net labels arc arcs n p in omega arith

held_all : (net : Net) (labels arcs : List ℕ) (n : ℕ) → All (IsHeld net labels n) arcs → length arcs ≤ ends_weight net (has_label labels 1) arcs + pairs net labels arcs n
unfolding ends_weight
held_all net labels [] n h = omega arith
held_all net labels (arc ∷ arcs) n h =
    let c = held_cases net labels arc arcs n (h 0 0 (omega arith)) (held_all net labels arcs n (All-tail (IsHeld net labels n) arc arcs h)) in
    omega arith

-- the bound, for labels that hold the matching's own edges
pub bound_held : (net : Net) (edges labels : List ℕ) (n : ℕ) → IsValid net → IsMatching net edges → length labels ≡ net.n → All (IsHeld net labels n) edges
    → length edges ≤ times 1 labels + halves labels n
bound_held net edges labels n valid m long h =
    let a = held_all net labels edges n h in
    let e = ends_within net (has_label labels 1) edges valid m in
    let t = times_nodes labels 1 net.n long in
    let p = pairs_within net labels edges n valid m long in
    omega arith

-- ---- a cover holds every edge
pub greatest_is : (labels : List ℕ) (k : ℕ) → get_or labels k 0 ≤ greatest labels
greatest_is [] k = omega arith
greatest_is (l ∷ labels) zero = omega arith
greatest_is (l ∷ labels) (suc k) = let i = greatest_is labels k in omega arith

or_cases : (a b : Bool) → (a || b) ≡ true → (a ≡ true) ⊎ (b ≡ true)
or_cases true b e = inl refl
or_cases false b e = inr e

and_cases : (a b : Bool) → (a && b) ≡ true → (a ≡ true) × (b ≡ true)
and_cases true b e = (refl, e)
and_cases false b e = absurd (true≢false (sym e))

pub held_by : (net : Net) (labels : List ℕ) (arc : ℕ) → (source net arc ≡ target net arc → ⊥) → covers labels (source net arc, target net arc) ≡ true → IsHeld net labels (greatest labels) arc
held_by net labels arc ne c =
    let x : ℕ = get_or labels (source net arc) 0 in
    let y : ℕ = get_or labels (target net arc) 0 in
    elim (or_cases (eqb (source net arc) (target net arc) || eqb x 1) (eqb y 1 || (eqb x y && leb 2 x)) c) [
      | inl p ↦ elim (or_cases (eqb (source net arc) (target net arc)) (eqb x 1) p) [
        | inl same ↦ absurd (ne (eqb-true (source net arc) (target net arc) same))
        | inr one ↦ inl (eqb-true x 1 one)
      ]
      | inr p ↦ elim (or_cases (eqb y 1) (eqb x y && leb 2 x) p) [
        | inl one ↦ inr (inl (eqb-true y 1 one))
        | inr pair ↦ (let q = and_cases (eqb x y) (leb 2 x) pair in
            let later : 2 ≤ x = grind (arith, nat_tests) in
            let g = greatest_is labels (source net arc) in
            inr (inr (record { label = x; later = later; small = omega arith; first = refl; second = sym (eqb-true x y q.0) })))
      ]
    ]

covered : (net : Net) (labels : List ℕ) (edges : List ℕ) → IsOddSetCover net labels → All (λ edge. edge < length net.arcs) edges → All (λ edge. source net edge ≢ target net edge) edges → All (IsHeld net labels (greatest labels)) edges
covered net labels edges cover among loops k d l =
    held_by net labels (get_or edges k d) (loops k d l) (cover.all (get_or edges k d) (0, 0) (among k d l))

pub covers_bound_matchings : (net : Net) (edges labels : List ℕ) → IsValid net → IsMatching net edges → IsOddSetCover net labels → length edges ≤ cover_size labels
covers_bound_matchings net edges labels valid m cover =
    bound_held net edges labels (greatest labels) valid m cover.long (covered net labels edges cover m.among m.loops)
