-- Flow that moves along darts, and sets of nodes that no dart with room leaves.
use Rattle.std.proofs.Common.{◌≡◌, ◌≢◌, ◌⊎◌, inl, inr, ℕ, zero, suc, ◌+◌, ◌-◌, ◌<◌, ◌≤◌, ℤ, pos, ◌+ℤ◌, ◌-ℤ◌, ◌*ℤ◌, ◌≤ℤ◌, ◌<ℤ◌, Bool, true, false, not, ◌&&◌, eqb, List, [], ◌∷◌, ◌++◌, map, length, set, get_or, refl, sym, ◌∙◌, ap, subst, arith, length-set, get_or-set_same, get_or-set_other}
use borrow.Author.Differences.{ints}
use Rattle.std.proofs.lemmas.Bool.{cases_eq, cases_lt, eq-eqb, ne_eqb, both_ways}
use Rattle.std.proofs.lemmas.Int.{by_lt_z}
use Rattle.std.proofs.lemmas.List.{get_or_append_left, get_or-append-add, get_or-map, length-append, length-map}
use Rattle.graph_defs.specs.declared.net.Net.{Net}
use Rattle.graph_defs.specs.Flow.{share, outflow, AreWithin, IsFlow, capacity}
use Rattle.graph_defs.specs.Grouped.{key, other}
use Rattle.graph_defs.specs.Net.{Ends, IsValid, source, target}
use Rattle.graph_defs.specs.Set.{leaves, enters}
use Rattle.graph_defs.specs.Sum.{sum_below, at, when}
use Rattle.graph_defs.proofs.Exchange.{exchange}
use Rattle.graph_defs.proofs.Sums.{sum_same, sum_le, sum_sub, sum_only}
use Rattle.flow_net.specs.Residual.{turned, darts, IsMoved}

-- ---- the ends of darts
pub darts_long : (net : Net) → length (darts net) ≡ length net.arcs + length net.arcs
darts_long net = length-append net.arcs (map turned net.arcs) ∙ ap (λ (k : ℕ). length net.arcs + k) (length-map net.arcs turned)

pub front_ends : (net : Net) (arc : ℕ) → arc < length net.arcs → get_or (darts net) arc (0, 0) ≡ get_or net.arcs arc (0, 0)
front_ends net arc h = get_or_append_left net.arcs (map turned net.arcs) (0, 0) arc h

pub back_ends : (net : Net) (arc : ℕ) → arc < length net.arcs → get_or (darts net) (length net.arcs + arc) (0, 0) ≡ turned (get_or net.arcs arc (0, 0))
back_ends net arc h = get_or-append-add net.arcs (map turned net.arcs) arc (0, 0) ∙ get_or-map turned net.arcs arc (0, 0) (0, 0) h

-- ---- more along an arc
more_when : (b : Bool) (f x : ℤ) → when b (f +ℤ x) ≡ (when b f +ℤ when b x)
more_when true f x = refl
more_when false f x = omega (arith, ints)

share_other : (net : Net) (flow : List ℤ) (a i v : ℕ) (y : ℤ) → (i ≡ a → ⊥) → share net (set flow a y) v i ≡ share net flow v i
share_other net flow a i v y ne =
    ap (λ (x : ℤ). when (eqb (source net i) v) x -ℤ when (eqb (target net i) v) x) (get_or-set_other flow a i y (pos 0) ne)

share_same : (net : Net) (flow : List ℤ) (a v : ℕ) (x : ℤ) → a < length flow
    → share net (set flow a (at flow a +ℤ x)) v a ≡ (share net flow v a +ℤ (when (eqb (source net a) v) x -ℤ when (eqb (target net a) v) x))
share_same net flow a v x h =
    let m = more_when (eqb (source net a) v) (at flow a) x in
    let n = more_when (eqb (target net a) v) (at flow a) x in
    ap (λ (y : ℤ). when (eqb (source net a) v) y -ℤ when (eqb (target net a) v) y) (get_or-set_same flow a (at flow a +ℤ x) (pos 0) h)
    ∙ omega (arith, ints)

outflow_set : (net : Net) (flow : List ℤ) (a v : ℕ) (x : ℤ) → a < length net.arcs → a < length flow
    → outflow net (set flow a (at flow a +ℤ x)) v ≡ (outflow net flow v +ℤ (when (eqb (source net a) v) x -ℤ when (eqb (target net a) v) x))
outflow_set net flow a v x h l =
    let flow' : List ℤ = set flow a (at flow a +ℤ x) in
    let d = sum_sub (share net flow' v) (share net flow v) (length net.arcs) in
    let o = sum_only (λ i. share net flow' v i -ℤ share net flow v i) (length net.arcs) a h
    (λ i m ne. let e = share_other net flow a i v (at flow a +ℤ x) ne in omega (arith, ints)) in
    let s = share_same net flow a v x l in
    omega (arith, ints)

pub moved_none : (net : Net) (flow : List ℤ) (t : ℕ) (x : ℤ) → IsMoved net flow flow t t x
moved_none net flow t x v = omega (arith, ints)

-- along an arc, which ends where the path stands
pub moved_front : (net : Net) (flow0 flow : List ℤ) (a here before t : ℕ) (x : ℤ) → a < length net.arcs → a < length flow → source net a ≡ before → target net a ≡ here
    → IsMoved net flow0 flow here t x → IsMoved net flow0 (set flow a (at flow a +ℤ x)) before t x
moved_front net flow0 flow a here before t x h l es et m v =
    let o = outflow_set net flow a v x h l in
    let b : when (eqb (source net a) v) x ≡ when (eqb before v) x = ap (λ (i : ℕ). when (eqb i v) x) es in
    let c : when (eqb (target net a) v) x ≡ when (eqb here v) x = ap (λ (i : ℕ). when (eqb i v) x) et in
    let e = m v in
    omega (arith, ints)

minus_when : (b : Bool) (x : ℤ) → when b (pos 0 -ℤ x) ≡ (pos 0 -ℤ when b x)
minus_when true x = refl
minus_when false x = omega (arith, ints)

-- against an arc, which begins where the path stands
pub moved_back : (net : Net) (flow0 flow : List ℤ) (a here before t : ℕ) (x : ℤ) → a < length net.arcs → a < length flow → target net a ≡ before → source net a ≡ here
    → IsMoved net flow0 flow here t x → IsMoved net flow0 (set flow a (at flow a -ℤ x)) before t x
moved_back net flow0 flow a here before t x h l et es m v =
    let P : ℤ → Type 0 = λ y. outflow net (set flow a y) v ≡ (outflow net flow v +ℤ (when (eqb (source net a) v) (pos 0 -ℤ x) -ℤ when (eqb (target net a) v) (pos 0 -ℤ x))) in
    let q : (at flow a +ℤ (pos 0 -ℤ x)) ≡ (at flow a -ℤ x) = omega (arith, ints) in
    let o = subst P q (outflow_set net flow a v (pos 0 -ℤ x) h l) in
    let b : when (eqb (source net a) v) x ≡ when (eqb here v) x = ap (λ (i : ℕ). when (eqb i v) x) es in
    let c : when (eqb (target net a) v) x ≡ when (eqb before v) x = ap (λ (i : ℕ). when (eqb i v) x) et in
    let p = minus_when (eqb (source net a) v) x in
    let r = minus_when (eqb (target net a) v) x in
    let e = m v in
    omega (arith, ints)

when_other : (u v : ℕ) (x : ℤ) → (v ≡ u → ⊥) → when (eqb u v) x ≡ pos 0
when_other u v x ne = ap (λ (b : Bool). when b x) (ne_eqb u v (λ (q : u ≡ v). ne (sym q)))

pub moved_is_flow : (net : Net) (s t : ℕ) (cap flow0 flow : List ℤ) (x : ℤ) → IsFlow net s t cap flow0 → length flow ≡ length net.arcs → AreWithin [] cap flow (length net.arcs)
    → IsMoved net flow0 flow s t x → IsFlow net s t cap flow
moved_is_flow net s t cap flow0 flow x f long within m = record {
  long = long;
  bounds = within;
  balance = λ v l ns nt.
      let e = m v in
      let a = when_other s v x ns in
      let b = when_other t v x nt in
      let c = f.balance v l ns nt in
      omega (arith, ints);
}

pub moved_value : (net : Net) (s t : ℕ) (flow0 flow : List ℤ) (x : ℤ) → (s ≡ t → ⊥) → IsMoved net flow0 flow s t x → outflow net flow s ≡ (outflow net flow0 s +ℤ x)
moved_value net s t flow0 flow x ne m =
    let e = m s in
    let a : when (eqb s s) x ≡ x = ap (λ (b : Bool). when b x) (eq-eqb s s refl) in
    let b = when_other t s x ne in
    omega (arith, ints)

-- ---- the value is at most the sum of the capacities
share_term : (a b : Bool) (f c : ℤ) → (pos 0 ≤ℤ f) × (f ≤ℤ c) → (when a f -ℤ when b f) ≤ℤ c
share_term true true f c h = let l = h.0 in let u = h.1 in omega (arith, ints)
share_term true false f c h = let l = h.0 in let u = h.1 in omega (arith, ints)
share_term false true f c h = let l = h.0 in let u = h.1 in omega (arith, ints)
share_term false false f c h = let l = h.0 in let u = h.1 in omega (arith, ints)

pub value_at_most : (net : Net) (s t : ℕ) (cap flow : List ℤ) → IsFlow net s t cap flow → outflow net flow s ≤ℤ sum_below (at cap) (length net.arcs)
value_at_most net s t cap flow f =
    sum_le (share net flow s) (at cap) (length net.arcs) (λ a m. share_term (eqb (source net a) s) (eqb (target net a) s) (at flow a) (at cap a) (f.bounds a m))

-- ---- each capacity is at most their sum
sum_low : (f : ℕ → ℤ) (k : ℕ) → ((j : ℕ) → j < k → pos 0 ≤ℤ f j) → pos 0 ≤ℤ sum_below f k
sum_low f zero h = omega (arith, ints)
sum_low f (suc k) h =
    let a = sum_low f k (λ j l. h j (omega arith)) in
    let b = h k (omega arith) in
    omega (arith, ints)

term_at_most : (f : ℕ → ℤ) (k i : ℕ) → i < k → ((j : ℕ) → j < k → pos 0 ≤ℤ f j) → f i ≤ℤ sum_below f k
term_at_most f zero i l h = absurd (omega arith)
term_at_most f (suc k) i l h = elim (cases_lt i k) [
  | inl m ↦ (
      let a = term_at_most f k i m (λ j n. h j (omega arith)) in
      let b = h k (omega arith) in
      omega (arith, ints))
  | inr m ↦ (
      let e : i ≡ k = omega arith in
      let same : f i ≡ f k = ap f e in
      let a = sum_low f k (λ j n. h j (omega arith)) in
      omega (arith, ints))
]

pub cap_at_most : (net : Net) (s t : ℕ) (cap flow : List ℤ) (arc : ℕ) → IsFlow net s t cap flow → length cap ≡ length net.arcs → arc < length net.arcs → at cap arc ≤ℤ sum_below (at cap) (length cap)
cap_at_most net s t cap flow arc f caps h = term_at_most (at cap) (length cap) arc (omega arith) (λ j l.
    let b = f.bounds j (omega arith) in
    let low : pos 0 ≤ℤ at flow j = b.0 in
    let high : at flow j ≤ℤ at cap j = b.1 in
    omega (arith, ints))

-- ---- a set that no dart with room leaves has the capacity of the value
pub record IsStuck (net : Net) (cap flow : List ℤ) (inside : ℕ → Bool) : Type 0 where
  pub full : (arc : ℕ) → arc < length net.arcs → inside (source net arc) ≡ true → inside (target net arc) ≡ false → at flow arc ≡ at cap arc
  pub empty : (arc : ℕ) → arc < length net.arcs → inside (target net arc) ≡ true → inside (source net arc) ≡ false → at flow arc ≡ pos 0

tight_term : (a b : Bool) (f c : ℤ) → (a ≡ true → b ≡ false → f ≡ c) → (b ≡ true → a ≡ false → f ≡ pos 0) → (f *ℤ (when a (pos 1) -ℤ when b (pos 1))) ≡ when (a && not b) c
tight_term true true f c full empty = omega (arith, ints)
tight_term true false f c full empty = let e = full refl refl in omega (arith, ints)
tight_term false true f c full empty = let e = empty refl refl in omega (arith, ints)
tight_term false false f c full empty = omega (arith, ints)

rest_term : (net : Net) (s t v : ℕ) (w : ℕ → ℤ) (cap flow : List ℤ) → w t ≡ pos 0 → IsFlow net s t cap flow → v < net.n → (v ≡ s → ⊥)
    → (v ≡ t) ⊎ (v ≡ t → ⊥) → (w v *ℤ outflow net flow v) ≡ pos 0
rest_term net s t v w cap flow z f l ne (inl e) =
    let o : w v ≡ pos 0 = ap w e ∙ z in
    let p : (w v *ℤ outflow net flow v) ≡ (pos 0 *ℤ outflow net flow v) = ap (λ (x : ℤ). x *ℤ outflow net flow v) o in
    p ∙ omega (arith, ints)
rest_term net s t v w cap flow z f l ne (inr nt) =
    let p : (w v *ℤ outflow net flow v) ≡ (w v *ℤ pos 0) = ap (λ (x : ℤ). w v *ℤ x) (f.balance v l ne nt) in
    p ∙ omega (arith, ints)

pub stuck_is_tight : (net : Net) (s t : ℕ) (cap flow : List ℤ) (inside : ℕ → Bool) → IsValid net → s < net.n → IsFlow net s t cap flow
    → inside s ≡ true → inside t ≡ false → IsStuck net cap flow inside → capacity net cap inside ≡ outflow net flow s
stuck_is_tight net s t cap flow inside valid l f has lacks stuck =
    let w : ℕ → ℤ = λ v. when (inside v) (pos 1) in
    let one : when (inside s) (pos 1) ≡ pos 1 = ap (λ (b : Bool). when b (pos 1)) has in
    let none : when (inside t) (pos 1) ≡ pos 0 = ap (λ (b : Bool). when b (pos 1)) lacks in
    let sum = sum_only (λ v. w v *ℤ outflow net flow v) net.n s l (λ v m ne. rest_term net s t v w cap flow none f m ne (cases_eq v t)) in
    let x = exchange net w flow (length net.arcs) valid (omega arith) in
    let same = sum_same (λ a. at flow a *ℤ (w (source net a) -ℤ w (target net a))) (λ a. when (leaves net inside a) (at cap a)) (length net.arcs)
    (λ a m. tight_term (inside (source net a)) (inside (target net a)) (at flow a) (at cap a) (stuck.full a m) (stuck.empty a m)) in
    let p : (w s *ℤ outflow net flow s) ≡ (pos 1 *ℤ outflow net flow s) = ap (λ (y : ℤ). y *ℤ outflow net flow s) one in
    omega (arith, ints)
