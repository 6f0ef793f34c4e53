-- The steps of the passes: sums of flows, marks, capacities.
use Rattle.std.proofs.Common.{◌≡◌, ◌≢◌, ◌↔◌, ◌⊎◌, inl, inr, ℕ, zero, suc, ◌+◌, ◌-◌, ◌*◌, ◌^◌, ◌<◌, ◌≤◌, ℤ, pos, neg_ℤ, ◌+ℤ◌, ◌-ℤ◌, ◌≤ℤ◌, Bool, true, false, not, cond, ◌&&◌, ◌||◌, eqb, List, [], ◌∷◌, ◌++◌, length, take, set, get_or, replicate, refl, sym, ◌∙◌, ap, subst, All, arith, length-set, get_or-set_same, get_or-set_other, FitsSigned}
use borrow.Author.Differences.{ints}
use mir.Syntax.{w64, w128}
use Rattle.std.proofs.lemmas.Bool.{true≢false, cases_eq, eq-eqb, ne_eqb}
use Rattle.std.proofs.lemmas.List.{take_more, get_or_read, length-replicate}
use Rattle.graph_defs.specs.declared.net.Net.{Net}
use Rattle.graph_defs.specs.Flow.{share, outflow_below, capacity_below, capacity}
use Rattle.graph_defs.specs.Net.{IsValid, source, target}
use Rattle.graph_defs.specs.Set.{is_in, leaves}
use Rattle.graph_defs.specs.Sum.{sum_below, at, when}
use Rattle.graph_defs.proofs.Sums.{sum_more, sum_same}
use Rattle.flow_check.specs.Passes.{IsSmall, AreBalances, AreMarks, IsAtRest, marked}

-- ---- rows of sums
row_same : (rows : List ℤ) (i : ℕ) (x : ℤ) → i < length rows → at (set rows i x) i ≡ x
row_same rows i x l = get_or-set_same rows i x (pos 0) l

row_other : (rows : List ℤ) (i v : ℕ) (x : ℤ) → (v ≡ i → ⊥) → at (set rows i x) v ≡ at rows v
row_other rows i v x ne = get_or-set_other rows i v x (pos 0) ne

pub add_at : (rows : List ℤ) (i v : ℕ) (x : ℤ) → i < length rows → at (set rows i (at rows i +ℤ x)) v ≡ (at rows v +ℤ when (eqb i v) x)
add_at rows i v x l = elim (cases_eq v i) [
  | inl e ↦ (let P : ℕ → Type 0 = λ u. at (set rows i (at rows i +ℤ x)) u ≡ (at rows u +ℤ when (eqb i u) x) in
      subst P (sym e) (row_same rows i (at rows i +ℤ x) l ∙ ap (λ (b : Bool). at rows i +ℤ when b x) (sym (eq-eqb i i refl))))
  | inr ne ↦ (row_other rows i v (at rows i +ℤ x) ne ∙ (let z : (at rows v +ℤ pos 0) ≡ at rows v = omega (arith, ints) in sym z)
      ∙ ap (λ (b : Bool). at rows v +ℤ when b x) (sym (ne_eqb i v (λ (e : i ≡ v). ne (sym e)))))
]

pub sub_at : (rows : List ℤ) (i v : ℕ) (x : ℤ) → i < length rows → at (set rows i (at rows i -ℤ x)) v ≡ (at rows v -ℤ when (eqb i v) x)
sub_at rows i v x l = elim (cases_eq v i) [
  | inl e ↦ (let P : ℕ → Type 0 = λ u. at (set rows i (at rows i -ℤ x)) u ≡ (at rows u -ℤ when (eqb i u) x) in
      subst P (sym e) (row_same rows i (at rows i -ℤ x) l ∙ ap (λ (b : Bool). at rows i -ℤ when b x) (sym (eq-eqb i i refl))))
  | inr ne ↦ (row_other rows i v (at rows i -ℤ x) ne ∙ (let z : (at rows v -ℤ pos 0) ≡ at rows v = omega (arith, ints) in sym z)
      ∙ ap (λ (b : Bool). at rows v -ℤ when b x) (sym (ne_eqb i v (λ (e : i ≡ v). ne (sym e)))))
]

-- ---- one arc more in the balances
pub record IsArc (net : Net) (flow : List ℤ) (arc s t : ℕ) (x : ℤ) : Type 0 where
  pub from : s ≡ source net arc
  pub to : t ≡ target net arc
  pub along : x ≡ at flow arc
  pub fits : FitsSigned w64 x

when_small : (b : Bool) (x : ℤ) → FitsSigned w64 x → (neg_ℤ (pos (2 ^ 63)) ≤ℤ when b x) × (when b x ≤ℤ pos (2 ^ 63))
when_small true x f = (omega (arith, ints), omega (arith, ints))
when_small false x f = (omega (arith, ints), omega (arith, ints))

two_small : (k : ℕ) (r p q : ℤ) → IsSmall k r → (neg_ℤ (pos (2 ^ 63)) ≤ℤ p) × (p ≤ℤ pos (2 ^ 63)) → (neg_ℤ (pos (2 ^ 63)) ≤ℤ q) × (q ≤ℤ pos (2 ^ 63))
    → IsSmall (k + 1) (r +ℤ p -ℤ q)
two_small k r p q h hp hq =
    let a = h.low in
    let b = h.high in
    let c = hp.0 in
    let d = hp.1 in
    let e = hq.0 in
    let f = hq.1 in
    record { low = omega (arith, ints); high = omega (arith, ints) }

pub give_fits : (net : Net) (flow : List ℤ) (k : ℕ) (rows : List ℤ) (s t : ℕ) (x : ℤ) → AreBalances net flow k rows → k ≤ 400000 → s < net.n → IsArc net flow k s t x → FitsSigned w128 (at rows s +ℤ x)
give_fits net flow k rows s t x h few l arc =
    let a = (h.small s l).low in
    let b = (h.small s l).high in
    let f = arc.fits in
    omega (arith, ints)

pub take_fits : (net : Net) (flow : List ℤ) (k : ℕ) (rows given : List ℤ) (s t : ℕ) (x : ℤ) → AreBalances net flow k rows → k ≤ 400000 → s < net.n → t < net.n → IsArc net flow k s t x
    → given ≡ set rows s (at rows s +ℤ x) → FitsSigned w128 (at given t -ℤ x)
take_fits net flow k rows given s t x h few ls lt arc e =
    let g = add_at rows s t x (omega (arith, h.long)) in
    let r : at given t ≡ at (set rows s (at rows s +ℤ x)) t = ap (λ (xs : List ℤ). at xs t) e in
    let w = when_small (eqb s t) x arc.fits in
    let a = (h.small t lt).low in
    let b = (h.small t lt).high in
    let c = w.0 in
    let d = w.1 in
    let f = arc.fits in
    omega (arith, ints)

pub balances_more : (net : Net) (flow : List ℤ) (k : ℕ) (rows given taken : List ℤ) (s t : ℕ) (x : ℤ) → AreBalances net flow k rows → s < net.n → t < net.n → IsArc net flow k s t x
    → given ≡ set rows s (at rows s +ℤ x) → taken ≡ set given t (at given t -ℤ x) → AreBalances net flow (k + 1) taken
balances_more net flow k rows given taken s t x h ls lt arc eg et =
    let lg : length given ≡ length rows = ap length eg ∙ length-set rows s (at rows s +ℤ x) in
    let value : (v : ℕ) → at taken v ≡ ((at rows v +ℤ when (eqb s v) x) -ℤ when (eqb t v) x) = λ v.
    ap (λ (xs : List ℤ). at xs v) et ∙ sub_at given t v x (omega (arith, h.long))
    ∙ ap (λ (y : ℤ). y -ℤ when (eqb t v) x) (ap (λ (xs : List ℤ). at xs v) eg ∙ add_at rows s v x (omega (arith, h.long))) in
    record {
      long = ap length et ∙ length-set given t (at given t -ℤ x) ∙ lg ∙ h.long;
      each = λ v l.
          let m = sum_more (share net flow v) k in
          let e = h.each v l in
          let a : when (eqb s v) x ≡ when (eqb (source net k) v) (at flow k) = ap (λ (i : ℕ). when (eqb i v) x) arc.from ∙ ap (when (eqb (source net k) v)) arc.along in
          let b : when (eqb t v) x ≡ when (eqb (target net k) v) (at flow k) = ap (λ (i : ℕ). when (eqb i v) x) arc.to ∙ ap (when (eqb (target net k) v)) arc.along in
          let c = value v in
          omega (arith, ints);
      small = λ v l.
          let P : ℤ → Type 0 = λ y. IsSmall (k + 1) y in
          subst P (sym (value v)) (two_small k (at rows v) (when (eqb s v) x) (when (eqb t v) x) (h.small v l) (when_small (eqb s v) x arc.fits) (when_small (eqb t v) x arc.fits));
    }

-- ---- capacities
pub sum_step : (f : ℕ → ℤ) (k : ℕ) (sum r : ℤ) → (sum ≡ sum_below f k) × IsSmall k sum → r ≡ f k → IsSmall 1 r → k ≤ 400000
    → ((sum +ℤ r) ≡ sum_below f (k + 1)) × IsSmall (k + 1) (sum +ℤ r) × FitsSigned w128 (sum +ℤ r)
sum_step f k sum r h e small few =
    let m = sum_more f k in
    let is = h.0 in
    let a = h.1.low in
    let b = h.1.high in
    let c = small.low in
    let d = small.high in
    (omega (arith, ints), record { low = omega (arith, ints); high = omega (arith, ints) }, omega (arith, ints))

-- the capacity by marks is that by the set
pub capacity_same : (net : Net) (cap : List ℤ) (members : List ℕ) (marks : List Bool) → AreMarks net.n members marks → capacity net cap (marked marks) ≡ capacity net cap (is_in members)
capacity_same net cap members marks h =
    sum_same (λ arc. when (leaves net (marked marks) arc) (at cap arc)) (λ arc. when (leaves net (is_in members) arc) (at cap arc)) (length net.arcs)
    (λ arc l. ap (λ (b : Bool). when (b && not (marked marks (target net arc))) (at cap arc)) (h.each (source net arc))
    ∙ ap (λ (b : Bool). when (is_in members (source net arc) && not b) (at cap arc)) (h.each (target net arc)))
