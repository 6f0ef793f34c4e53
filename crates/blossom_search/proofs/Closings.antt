-- The labels of closed sets are a cover of the matching's size.
use Rattle.std.proofs.Common.{◌≡◌, ◌≢◌, ◌⊎◌, inl, inr, ℕ, zero, suc, ◌+◌, ◌*◌, ◌/◌, ◌<◌, ◌≤◌, Bool, true, false, ◌||◌, cond, eqb, List, [], ◌∷◌, length, get_or, take, refl, sym, ◌∙◌, ap, subst, arith}
use Rattle.std.proofs.lemmas.Bool.{true≢false, cases_eq, eq-eqb, ne_eqb}
use Rattle.std.proofs.lemmas.List.{take_all}
use Rattle.graph_defs.specs.declared.net.Net.{Net}
use Rattle.graph_defs.specs.Count.{times}
use Rattle.graph_defs.specs.Net.{Ends, IsValid, source, target}
use Rattle.graph_defs.specs.Sum.{total_below}
use Rattle.graph_defs.specs.Matching.{is_end, degree, IsMatching, IsOddSetCover, covers, greatest, halves, cover_size}
use Rattle.graph_defs.proofs.Counts.{times_more, times_has}
use Rattle.graph_defs.proofs.Covers.{greatest_is}
use Rattle.graph_defs.proofs.Sums.{total_same, total_add, total_only, total_zero}
use Rattle.blossom_lift.proofs.Ranks.{bool_cases}
use Rattle.blossom_lift.proofs.Degrees.{All_at, times_head, bit_true, bit_false}
use Rattle.blossom_lift.proofs.Views.{ends_below}
use Rattle.blossom_lift.proofs.LiftedCovers.{loop, begins, finishes, pair, cover_make}
use Rattle.blossom_search.specs.Closed.{AreClosed, AreLabels, label_of}

-- ---- covering
label_cases : (es os et ot : Bool) → (es ≡ true → ot ≡ true) → (et ≡ true → os ≡ true) → (label_of es os ≡ 1) ⊎ ((label_of et ot ≡ 1) ⊎ ((label_of es os ≡ label_of et ot) × (2 ≤ label_of es os)))
label_cases true true true true a b = inr (inr (refl, omega arith))
label_cases true true true false a b = absurd (true≢false (sym (a refl)))
label_cases true true false true a b = inr (inl refl)
label_cases true true false false a b = absurd (true≢false (sym (a refl)))
label_cases true false true ot a b = absurd (true≢false (sym (b refl)))
label_cases true false false true a b = inr (inl refl)
label_cases true false false false a b = absurd (true≢false (sym (a refl)))
label_cases false true et ot a b = inl refl
label_cases false false true ot a b = absurd (true≢false (sym (b refl)))
label_cases false false false true a b = inr (inl refl)
label_cases false false false false a b = inr (inr (refl, omega arith))

default : (arcs : List Ends) (k : ℕ) (d : Ends) → k < length arcs → get_or arcs k (0, 0) ≡ get_or arcs k d
default [] k d l = absurd (omega arith)
default (a ∷ arcs) zero d l = refl
default (a ∷ arcs) (suc k) d l = default arcs k d (omega arith)

pub closed_cover : (net : Net) (edges : List ℕ) (even odd : ℕ → Bool) (labels : List ℕ) → IsValid net → AreClosed net edges even odd → AreLabels net.n even odd labels → IsOddSetCover net labels
closed_cover net edges even odd labels valid c a = record {
  long = a.long;
  all = λ k d l.
      let arc : Ends = get_or net.arcs k (0, 0) in
      let b = valid.ends k (0, 0) l in
      let s = a.each arc.0 b.0 in
      let t = a.each arc.1 b.1 in
      let same : covers labels (get_or net.arcs k (0, 0)) ≡ true = cover_make labels arc.0 arc.1 (elim (cases_eq arc.0 arc.1) [
        | inl e ↦ loop e
        | inr ne ↦ elim (label_cases (even arc.0) (odd arc.0) (even arc.1) (odd arc.1) (c.near_source k l ne) (c.near_target k l ne)) [
          | inl q ↦ begins (s ∙ q)
          | inr r ↦ elim r [
            | inl q ↦ finishes (t ∙ q)
            | inr q ↦ pair (s ∙ q.0 ∙ sym t) (let w : 2 ≤ label_of (even arc.0) (odd arc.0) = q.1 in omega arith)
          ]
        ]
      ]) in
      subst (λ (x : Ends). covers labels x ≡ true) (default net.arcs k d l) same;
}

-- ---- twice the matching is what the labels cost
cost : ℕ → ℕ
cost label = cond (eqb label 1) 2 (cond (eqb label 2) 1 0)

node_cost : Net → List ℕ → (ℕ → ℕ) → ℕ → ℕ
node_cost net [] w v = 0
node_cost net (e ∷ es) w v = cond (is_end net v e) (w v) 0 + node_cost net es w v

edge_costs : Net → List ℕ → (ℕ → ℕ) → ℕ
edge_costs net [] w = 0
edge_costs net (e ∷ es) w = w (source net e) + w (target net e) + edge_costs net es w

either_cost : (a b : Bool) (x : ℕ) → (a ≡ true → b ≡ true → ⊥) → cond (a || b) x 0 ≡ cond a x 0 + cond b x 0
either_cost true true x h = absurd (h refl refl)
either_cost true false x h = omega arith
either_cost false b x h = omega arith

eqb_true : (x y : ℕ) → eqb x y ≡ true → x ≡ y
eqb_true x y t = elim (cases_eq x y) [ inl e ↦ e | inr ne ↦ absurd (true≢false (sym t ∙ ne_eqb x y ne)) ]

at_one : (w : ℕ → ℕ) (s n : ℕ) → s < n → total_below (λ v. cond (eqb s v) (w v) 0) n ≡ w s
at_one w s n l =
    total_only (λ v. cond (eqb s v) (w v) 0) n s l (λ i m ne. ap (λ (b : Bool). cond b (w i) 0) (ne_eqb s i (λ (e : s ≡ i). ne (sym e))))
    ∙ ap (λ (b : Bool). cond b (w s) 0) (eq-eqb s s refl)

one_edge : (net : Net) (w : ℕ → ℕ) (e n : ℕ) → source net e < n → target net e < n → (source net e ≡ target net e → ⊥) → total_below (λ v. cond (is_end net v e) (w v) 0) n ≡ w (source net e) + w (target net e)
one_edge net w e n ls lt ne =
    let s : ℕ = source net e in
    let t : ℕ = target net e in
    let q = total_same (λ v. cond (is_end net v e) (w v) 0) (λ v. cond (eqb s v) (w v) 0 + cond (eqb t v) (w v) 0) n
    (λ v _. either_cost (eqb s v) (eqb t v) (w v) (λ x y. ne (eqb_true s v x ∙ sym (eqb_true t v y)))) in
    let a = total_add (λ v. cond (eqb s v) (w v) 0) (λ v. cond (eqb t v) (w v) 0) n in
    let o1 = at_one w s n ls in
    let o2 = at_one w t n lt in
    omega arith

all_edges : (net : Net) (w : ℕ → ℕ) (es : List ℕ) → IsValid net → ((e : ℕ) → 1 ≤ times e es → (e < length net.arcs) × (source net e ≡ target net e → ⊥))
    → total_below (node_cost net es w) net.n ≡ edge_costs net es w
unfolding node_cost edge_costs
all_edges net w [] valid h = total_zero (λ v. 0) net.n (λ i l. refl)
all_edges net w (e ∷ es) valid h =
    let i = all_edges net w es valid (λ f t. h f (omega arith)) in
    let g = h e (times_head e es) in
    let b = ends_below net e valid.ends g.0 in
    let o = one_edge net w e net.n b.0 b.1 g.1 in
    let a = total_add (λ v. cond (is_end net v e) (w v) 0) (node_cost net es w) net.n in
    omega arith

node_none : (net : Net) (es : List ℕ) (w : ℕ → ℕ) (v : ℕ) → (degree net v es ≡ 0) ⊎ (w v ≡ 0) → node_cost net es w v ≡ 0
unfolding node_cost
node_none net [] w v h = refl
node_none net (e ∷ es) w v h = elim (bool_cases (is_end net v e)) [
  | inl t ↦ (let b = bit_true (is_end net v e) t in
      let c : cond (is_end net v e) (w v) 0 ≡ w v = ap (λ (x : Bool). cond x (w v) 0) t in
      elim h [ inl z ↦ absurd (omega arith) | inr z ↦ (let i = node_none net es w v (inr z) in omega arith) ])
  | inr f ↦ (let b = bit_false (is_end net v e) f in
      let c : cond (is_end net v e) (w v) 0 ≡ 0 = ap (λ (x : Bool). cond x (w v) 0) f in
      elim h [ inl z ↦ (let i = node_none net es w v (inl (omega arith)) in omega arith) | inr z ↦ (let i = node_none net es w v (inr z) in omega arith) ])
]

node_one : (net : Net) (es : List ℕ) (w : ℕ → ℕ) (v : ℕ) → degree net v es ≡ 1 → node_cost net es w v ≡ w v
unfolding node_cost
node_one net [] w v h = absurd (omega arith)
node_one net (e ∷ es) w v h = elim (bool_cases (is_end net v e)) [
  | inl t ↦ (let b = bit_true (is_end net v e) t in
      let c : cond (is_end net v e) (w v) 0 ≡ w v = ap (λ (x : Bool). cond x (w v) 0) t in
      let i = node_none net es w v (inl (omega arith)) in omega arith)
  | inr f ↦ (let b = bit_false (is_end net v e) f in
      let c : cond (is_end net v e) (w v) 0 ≡ 0 = ap (λ (x : Bool). cond x (w v) 0) f in
      let i = node_one net es w v (omega arith) in omega arith)
]

cost_two : (es os et ot : Bool) → (es ≡ true → ot ≡ true) → (et ≡ true → os ≡ true) → (os ≡ true → et ≡ true) → (ot ≡ true → es ≡ true) → cost (label_of es os) + cost (label_of et ot) ≡ 2
unfolding cost
cost_two true true true true a b c d = refl
cost_two true true true false a b c d = absurd (true≢false (sym (a refl)))
cost_two true true false ot a b c d = absurd (true≢false (sym (c refl)))
cost_two true false true ot a b c d = absurd (true≢false (sym (b refl)))
cost_two true false false true a b c d = refl
cost_two true false false false a b c d = absurd (true≢false (sym (a refl)))
cost_two false true true true a b c d = absurd (true≢false (sym (d refl)))
cost_two false true true false a b c d = refl
cost_two false true false ot a b c d = absurd (true≢false (sym (c refl)))
cost_two false false true ot a b c d = absurd (true≢false (sym (b refl)))
cost_two false false false true a b c d = absurd (true≢false (sym (d refl)))
cost_two false false false false a b c d = refl

-- a node that costs something is met
cost_met : (e o : Bool) → (cost (label_of e o) ≡ 0) ⊎ ((o ≡ true) ⊎ (e ≡ false))
unfolding cost
cost_met true true = inr (inl refl)
cost_met true false = inl refl
cost_met false o = inr (inr refl)

edges_twice : (net : Net) (w : ℕ → ℕ) (es : List ℕ) → ((e : ℕ) → 1 ≤ times e es → w (source net e) + w (target net e) ≡ 2) → edge_costs net es w ≡ 2 * length es
unfolding edge_costs
edges_twice net w [] h = refl
edges_twice net w (e ∷ es) h =
    let i = edges_twice net w es (λ f t. h f (omega arith)) in
    let g = h e (times_head e es) in
    omega arith

costs : (net : Net) (edges : List ℕ) (even odd : ℕ → Bool) → IsValid net → IsMatching net edges → AreClosed net edges even odd → total_below (λ v. cost (label_of (even v) (odd v))) net.n ≡ 2 * length edges
costs net edges even odd valid m c =
    let w : ℕ → ℕ = λ v. cost (label_of (even v) (odd v)) in
    let a = all_edges net w edges valid (λ e t. (All_at (λ edge. edge < length net.arcs) edges e m.among t, All_at (λ edge. source net edge ≢ target net edge) edges e m.loops t)) in
    let n = total_same (node_cost net edges w) w net.n (λ v l. elim (cases_eq (degree net v edges) 0) [
      | inl z ↦ elim (cost_met (even v) (odd v)) [
        | inl k ↦ node_none net edges w v (inl z) ∙ sym k
        | inr r ↦ elim r [
          | inl o ↦ absurd (c.met v l o z)
          | inr e ↦ absurd (true≢false (sym (c.free v l z) ∙ e))
        ]
      ]
      | inr nz ↦ node_one net edges w v (let h = m.apart v in omega arith)
    ]) in
    let t = edges_twice net w edges (λ e t.
    let l = All_at (λ edge. edge < length net.arcs) edges e m.among t in
    let ne = All_at (λ edge. source net edge ≢ target net edge) edges e m.loops t in
    cost_two (even (source net e)) (odd (source net e)) (even (target net e)) (odd (target net e)) (c.near_source e l ne) (c.near_target e l ne) (c.mate_source e t) (c.mate_target e t)) in
    omega arith

-- ---- the labels counted
has : ℕ → List ℕ → ℕ → ℕ
has label labels v = cond (eqb label (get_or labels v 0)) 1 0

times_below : (labels : List ℕ) (label k : ℕ) → k ≤ length labels → times label (take k labels) ≡ total_below (has label labels) k
unfolding has
times_below [] label zero h = refl
times_below (l ∷ labels) label zero h = refl
times_below labels label (suc k) h =
    let e : k + 1 ≡ suc k = omega arith in
    let P : ℕ → Type 0 = λ j. times label (take j labels) ≡ total_below (has label labels) k + has label labels k in
    let i = times_below labels label k (omega arith) in
    let m = times_more label labels k (omega arith) in
    subst P e (omega arith)

times_nodes : (labels : List ℕ) (label n : ℕ) → length labels ≡ n → times label labels ≡ total_below (has label labels) n
times_nodes labels label n e =
    let t = times_below labels label n (omega arith) in
    let a = ap (times label) (take_all n labels (omega arith)) in
    omega arith

small_label : (e o : Bool) → label_of e o ≤ 2
small_label true true = omega arith
small_label true false = omega arith
small_label false true = omega arith
small_label false false = omega arith

split_cost : (e o : Bool) → cost (label_of e o) ≡ (cond {A = ℕ} (eqb 1 (label_of e o)) 1 0 + cond {A = ℕ} (eqb 1 (label_of e o)) 1 0) + cond {A = ℕ} (eqb 2 (label_of e o)) 1 0
unfolding cost
split_cost true true = refl
split_cost true false = refl
split_cost false true = refl
split_cost false false = refl

counted_cost : (n : ℕ) (even odd : ℕ → Bool) (labels : List ℕ) → AreLabels n even odd labels → total_below (λ v. cost (label_of (even v) (odd v))) n ≡ times 1 labels + times 1 labels + times 2 labels
unfolding has
counted_cost n even odd labels a =
    let e : (x v : ℕ) → v < n → cond {A = ℕ} (eqb x (label_of (even v) (odd v))) 1 0 ≡ has x labels v = λ x v l. ap (λ (y : ℕ). cond {A = ℕ} (eqb x y) 1 0) (sym (a.each v l)) in
    let s = total_same (λ v. cost (label_of (even v) (odd v))) (λ v. (has 1 labels v + has 1 labels v) + has 2 labels v) n
    (λ v l. let c = split_cost (even v) (odd v) in let x = e 1 v l in let y = e 2 v l in omega arith) in
    let p = total_add (λ v. has 1 labels v + has 1 labels v) (has 2 labels) n in
    let q = total_add (has 1 labels) (has 1 labels) n in
    let t1 = times_nodes labels 1 n a.long in
    let t2 = times_nodes labels 2 n a.long in
    omega arith

times_past : (label : ℕ) (n : ℕ) (even odd : ℕ → Bool) (labels : List ℕ) → AreLabels n even odd labels → 2 < label → times label labels ≡ 0
times_past label n even odd labels a l = elim (cases_eq (times label labels) 0) [
  | inl e ↦ e
  | inr ne ↦ (let h = times_has label labels (omega arith) in
      let k : h.0 < length labels = h.1 in
      let e : get_or labels h.0 0 ≡ label = h.2 in
      let long = a.long in
      let g = a.each h.0 (omega arith) in
      let s = small_label (even h.0) (odd h.0) in absurd (omega arith))
]

greatest_small : (labels : List ℕ) → 1 ≤ times 2 labels → 2 ≤ greatest labels
greatest_small labels t = (let h = times_has 2 labels t in let e : get_or labels h.0 0 ≡ 2 = h.2 in let g = greatest_is labels h.0 in omega arith)

one_half : (n : ℕ) (even odd : ℕ → Bool) (labels : List ℕ) → AreLabels n even odd labels → halves labels (greatest labels) ≡ times 2 labels / 2
one_half n even odd labels a =
    let f : ℕ → ℕ = λ i. times (i + 2) labels / 2 in
    elim (cases_eq (times 2 labels) 0) [
      | inl z ↦ (let t = total_zero f (greatest labels) (λ i l. elim (cases_eq i 0) [
        | inl e ↦ ap (λ (j : ℕ). times (j + 2) labels / 2) e ∙ ap (λ (x : ℕ). x / 2) z
        | inr ne ↦ ap (λ (x : ℕ). x / 2) (times_past (i + 2) n even odd labels a (omega arith))
      ]) in t ∙ sym (ap (λ (x : ℕ). x / 2) z))
      | inr nz ↦ (let g = greatest_small labels (omega arith) in
          total_only f (greatest labels) 0 (omega arith) (λ i l ne. ap (λ (x : ℕ). x / 2) (times_past (i + 2) n even odd labels a (omega arith))))
    ]

half_of : (e a b : ℕ) → 2 * e ≡ a + a + b → e ≡ a + b / 2
half_of e a b h = omega arith

pub closed_size : (net : Net) (edges : List ℕ) (even odd : ℕ → Bool) (labels : List ℕ) → IsValid net → IsMatching net edges → AreClosed net edges even odd → AreLabels net.n even odd labels → length edges ≡ cover_size labels
closed_size net edges even odd labels valid m c a =
    let t = costs net edges even odd valid m c in
    let k = counted_cost net.n even odd labels a in
    let h = one_half net.n even odd labels a in
    half_of (length edges) (times 1 labels) (times 2 labels) (omega arith) ∙ omega arith
