-- What a node is told as, by its place in the list of all nodes; each condition by it.
use Rattle.std.proofs.Common.{◌≡◌, ◌≢◌, ◌↔◌, ◌⊎◌, inl, inr, ℕ, zero, suc, ◌+◌, ◌-◌, ◌<◌, ◌≤◌, ℤ, pos, ◌+ℤ◌, ◌≤ℤ◌, Bool, true, false, List, length, take, get_or, refl, sym, ◌∙◌, ap, subst, arith}
use Rattle.std.specs.Prelude.{Option, Some, None}
use Rattle.std.proofs.lemmas.Bool.{true≢false}
use Rattle.graph_defs.specs.declared.net.Net.{Net}
use Rattle.graph_defs.specs.declared.shortest.SpAnswer.{SpAnswer}
use Rattle.graph_defs.specs.declared.shortest.Finite.{Finite}
use Rattle.graph_defs.specs.declared.shortest.Why.{Why}
use Rattle.graph_defs.specs.declared.shortest.Why.TheVariants as why
use Rattle.graph_defs.specs.Count.{times}
use Rattle.graph_defs.specs.Net.{source, target}
use Rattle.graph_defs.specs.Sum.{at}
use Rattle.graph_defs.specs.Shortest.{finite_at, low_at, seed_at, listed, IsFinite, IsLow, IsToldUnreached, IsOnce, IsReasonBelow, IsTightBy, IsTight, IsNotShorter, StaysWithin, HasReason, HasItsReason}
use Rattle.graph_defs.proofs.Counts.{times_has}
use Rattle.graph_defs.proofs.Listed.{length_listed, at_finite, at_low, at_unreached, finite_not_low, finite_not_unreached, low_not_unreached, same_finite, same_low}
use Rattle.sp_check.specs.Passes.{HavePlaces, IsPlaced, Wants, on_cycle, AreMarked}

-- ---- the place of a node
pub record StandsAt (a : SpAnswer) (v p : ℕ) : Type 0 where
  pub within : p < length (listed a)
  pub is : get_or (listed a) p 0 ≡ v

pub stands : (net : Net) (cost : List ℤ) (a : SpAnswer) (places : List ℕ) (v p : ℕ) → IsPlaced net cost a places → v < net.n → p ≡ get_or places v 0 → StandsAt a v p
stands net cost a places v p h l r =
    let once : times v (listed a) ≡ 1 = h.once v l in
    let k = times_has v (listed a) (omega arith) in
    let e : get_or places (get_or (listed a) k.0 0) 0 ≡ k.0 = h.stand.stand k.0 k.1 in
    let q : p ≡ k.0 = r ∙ sym (ap (λ (x : ℕ). get_or places x 0) k.2) ∙ e in
    let P : ℕ → Type 0 = λ x. StandsAt a v x in
    subst P (sym q) (record { within = k.1; is = k.2 })

pub stands_finite : (a : SpAnswer) (v p : ℕ) → StandsAt a v p → p < length a.finite → (finite_at a p).node ≡ v
stands_finite a v p s l = at_finite a v p l s.is

pub stands_low : (a : SpAnswer) (v p : ℕ) → StandsAt a v p → length a.finite ≤ p → p - length a.finite < length a.low → (low_at a (p - length a.finite)).node ≡ v
stands_low a v p s f l = at_low a v p f (omega arith) s.is

pub stands_unreached : (a : SpAnswer) (v p : ℕ) → StandsAt a v p → length a.finite ≤ p → length a.low ≤ p - length a.finite → IsToldUnreached a v
stands_unreached a v p s f l = (p - (length a.finite + length a.low), omega (arith, s.within, length_listed a), at_unreached a v p (omega arith) s.is)

pub kind_low : (a : SpAnswer) (v p f : ℕ) → f ≡ length a.finite → StandsAt a v p → f ≤ p → p - f < length a.low → (p - f < length a.low) × ((low_at a (p - f)).node ≡ v)
kind_low a v p f e s h l =
    let P : ℕ → Type 0 = λ x. (low_at a (p - x)).node ≡ v in
    (l, subst P (sym e) (stands_low a v p s (omega arith) (let q : p - length a.finite < length a.low = omega arith in q)))

pub kind_unreached : (a : SpAnswer) (v p f : ℕ) → f ≡ length a.finite → StandsAt a v p → f ≤ p → length a.low ≤ p - f → IsToldUnreached a v
kind_unreached a v p f e s h l = stands_unreached a v p s (omega arith) (omega arith)

-- ---- tight arcs
no_place : (net : Net) (cost : List ℤ) (a : SpAnswer) (v : ℕ) → (IsFinite a v → ⊥) → IsTight net cost a v
no_place net cost a v h k pos_ l e = absurd (h (k, l, e))

pub tight_low : (net : Net) (cost : List ℤ) (a : SpAnswer) (v : ℕ) → IsOnce a v → IsLow a v → IsTight net cost a v
tight_low net cost a v once low = no_place net cost a v (λ f. finite_not_low a v once f low)

pub tight_unreached : (net : Net) (cost : List ℤ) (a : SpAnswer) (v : ℕ) → IsOnce a v → IsToldUnreached a v → IsTight net cost a v
tight_unreached net cost a v once u = no_place net cost a v (λ f. finite_not_unreached a v once f u)

pub tight_first : (net : Net) (cost : List ℤ) (a : SpAnswer) (here : ℕ) → IsOnce a (finite_at a here).node → here < length a.finite → here ≡ 0 → IsTight net cost a (finite_at a here).node
tight_first net cost a here once l z k pos_ lk e =
    let same = same_finite a (finite_at a here).node k here once lk l e refl in
    absurd (omega arith)

some_same : (x y : ℕ) (o : Option ℕ) → o ≡ Some x → o ≡ Some y → x ≡ y
some_same x y o e f =
    let pick : Option ℕ → ℕ = λ p. elim p [ Some z ↦ z | None ↦ 0 ] in
    ap pick (sym e ∙ f)

none_some : (x : ℕ) (o : Option ℕ) → o ≡ None → o ≡ Some x → ⊥
none_some x o e f =
    let P : Option ℕ → Type 0 = λ p. elim p [ Some z ↦ ⊥ | None ↦ Unit {0} ] in
    subst P (sym e ∙ f) tt

pub tight_none : (net : Net) (cost : List ℤ) (a : SpAnswer) (here : ℕ) → here < length a.finite → (here ≡ 0 → ⊥) → (finite_at a here).pred ≡ None → IsTight net cost a (finite_at a here).node → ⊥
tight_none net cost a here l nz e t =
    let by = t here (omega arith) l refl in
    none_some by.0 (finite_at a here).pred e by.2.pred

pub tight_some : (net : Net) (cost : List ℤ) (a : SpAnswer) (here arc : ℕ) → IsOnce a (finite_at a here).node → here < length a.finite → (here ≡ 0 → ⊥) → (finite_at a here).pred ≡ Some arc
    → ((j : ℕ) × IsTightBy net cost a here arc j) ↔ IsTight net cost a (finite_at a here).node
tight_some net cost a here arc once l nz e = (
  λ b k pos_ lk ek.
      let same = same_finite a (finite_at a here).node here k once l lk refl ek in
      let P : ℕ → Type 0 = λ x. (arc : ℕ) × (j : ℕ) × IsTightBy net cost a x arc j in
      subst P same (arc, b.0, b.1),
  λ t.
      let by = t here (omega arith) l refl in
      let same : by.0 ≡ arc = some_same by.0 arc (finite_at a here).pred by.2.pred e in
      let P : ℕ → Type 0 = λ x. IsTightBy net cost a here x by.1 in
      (by.1, subst P same by.2),
)

-- the source of a tight arc is finite
pub tight_by_finite : (net : Net) (cost : List ℤ) (a : SpAnswer) (here arc : ℕ) → here < length a.finite → (j : ℕ) × IsTightBy net cost a here arc j → IsFinite a (source net arc)
tight_by_finite net cost a here arc l b = let lt = b.1.before in (b.0, omega arith, sym b.1.from)

pub tight_by_late : (net : Net) (cost : List ℤ) (a : SpAnswer) (here arc before : ℕ) → IsOnce a (source net arc) → here < length a.finite → before < length a.finite → (finite_at a before).node ≡ source net arc
    → here ≤ before → (j : ℕ) × IsTightBy net cost a here arc j → ⊥
tight_by_late net cost a here arc before once l lb eb late b =
    let lt = b.1.before in
    let same = same_finite a (source net arc) b.0 before once (omega arith) lb (sym b.1.from) eb in
    absurd (omega arith)

pub tight_by_before : (net : Net) (cost : List ℤ) (a : SpAnswer) (here arc before : ℕ) → IsOnce a (source net arc) → here < length a.finite → before < length a.finite → (finite_at a before).node ≡ source net arc
    → before < here → (finite_at a here).pred ≡ Some arc → target net arc ≡ (finite_at a here).node
    → ((finite_at a here).dist ≡ ((finite_at a before).dist +ℤ at cost arc)) ↔ ((j : ℕ) × IsTightBy net cost a here arc j)
tight_by_before net cost a here arc before once l lb eb lt e to = (
  λ d. (before, record { pred = e; to = to; from = sym eb; before = lt; dist = d }),
  λ b.
      let lj = b.1.before in
      let same = same_finite a (source net arc) b.0 before once (omega arith) lb (sym b.1.from) eb in
      let P : ℕ → Type 0 = λ j. (finite_at a here).dist ≡ ((finite_at a j).dist +ℤ at cost arc) in
      subst P same b.1.dist,
)

-- ---- arcs that aren't shorter
pub shorter_from : (net : Net) (cost : List ℤ) (a : SpAnswer) (arc : ℕ) → (IsFinite a (source net arc) → ⊥) → IsNotShorter net cost a arc
shorter_from net cost a arc h j k lj lk ej ek = absurd (h (j, lj, sym ej))

pub shorter_to : (net : Net) (cost : List ℤ) (a : SpAnswer) (arc : ℕ) → (IsFinite a (target net arc) → ⊥) → IsNotShorter net cost a arc
shorter_to net cost a arc h j k lj lk ej ek = absurd (h (k, lk, sym ek))

pub shorter_both : (net : Net) (cost : List ℤ) (a : SpAnswer) (arc from to : ℕ) → IsOnce a (source net arc) → IsOnce a (target net arc)
    → (from < length a.finite) × ((finite_at a from).node ≡ source net arc) → (to < length a.finite) × ((finite_at a to).node ≡ target net arc)
    → ((finite_at a to).dist ≤ℤ ((finite_at a from).dist +ℤ at cost arc)) ↔ IsNotShorter net cost a arc
shorter_both net cost a arc from to os ot f t = (
  λ d j k lj lk ej ek.
      let sj = same_finite a (source net arc) from j os f.0 lj f.1 (sym ej) in
      let sk = same_finite a (target net arc) to k ot t.0 lk t.1 (sym ek) in
      let P : ℕ → Type 0 = λ x. (finite_at a to).dist ≤ℤ ((finite_at a x).dist +ℤ at cost arc) in
      let Q : ℕ → Type 0 = λ x. (finite_at a x).dist ≤ℤ ((finite_at a j).dist +ℤ at cost arc) in
      subst Q sk (subst P sj d),
  λ h. h from to f.0 t.0 (sym f.1) (sym t.1),
)

-- ---- arcs that stay within
pub stays_finite : (net : Net) (a : SpAnswer) (arc : ℕ) → IsOnce a (source net arc) → IsFinite a (source net arc) → (IsToldUnreached a (target net arc) → ⊥) → StaysWithin net a arc
stays_finite net a arc once f h = record {
  finite = λ g u. h u;
  low = λ l u. h u;
  back = λ l g. finite_not_low a (source net arc) once f l;
}

pub stays_low : (net : Net) (a : SpAnswer) (arc : ℕ) → IsOnce a (source net arc) → IsOnce a (target net arc) → IsLow a (target net arc) → StaysWithin net a arc
stays_low net a arc os ot l = record {
  finite = λ g u. low_not_unreached a (target net arc) ot l u;
  low = λ m u. low_not_unreached a (target net arc) ot l u;
  back = λ m g. finite_not_low a (target net arc) ot g l;
}

pub stays_unreached : (net : Net) (a : SpAnswer) (arc : ℕ) → IsOnce a (source net arc) → IsToldUnreached a (source net arc) → StaysWithin net a arc
stays_unreached net a arc once u = record {
  finite = λ g w. finite_not_unreached a (source net arc) once g u;
  low = λ l w. low_not_unreached a (source net arc) once l u;
  back = λ l g. low_not_unreached a (source net arc) once l u;
}

-- ---- reasons of low nodes
pub reason_none : (net : Net) (a : SpAnswer) (v : ℕ) → (IsLow a v → ⊥) → HasItsReason net a v
reason_none net a v h k lk e = absurd (h (k, lk, e))

pub reason_at : (net : Net) (a : SpAnswer) (v here : ℕ) → IsOnce a v → here < length a.low → (low_at a here).node ≡ v
    → HasReason net a here v (low_at a here).why ↔ HasItsReason net a v
reason_at net a v here once l e = (
  λ r k lk ek.
      let same = same_low a v here k once l lk e ek in
      let P : ℕ → Type 0 = λ x. HasReason net a x v (low_at a x).why in
      subst P same r,
  λ h. h here l e,
)

pub wants_none : (a : SpAnswer) (v i : ℕ) → (IsLow a v → ⊥) → Wants a v i → ⊥
wants_none a v i h w = h (w.0, w.1, w.2)

pub wants_at : (a : SpAnswer) (v i here : ℕ) → IsOnce a v → here < length a.low → (low_at a here).node ≡ v → ((low_at a here).why ≡ why.Seed i) ↔ Wants a v i
wants_at a v i here once l e = (
  λ w. (here, l, e, w),
  λ w.
      let same = same_low a v w.0 here once w.1 l w.2 e in
      let P : ℕ → Type 0 = λ x. (low_at a x).why ≡ why.Seed i in
      subst P same w.3,
)

-- a node whose reason is a seed: the marks tell
seed_same : (i j : ℕ) (w : Why) → w ≡ why.Seed i → w ≡ why.Seed j → i ≡ j
seed_same i j w e f =
    let pick : Why → ℕ = λ p. elim p [ why.Seed z ↦ z | why.Arc z ↦ 0 ] in
    ap pick (sym e ∙ f)

pub reason_seed : (net : Net) (cost : List ℤ) (a : SpAnswer) (marks : List Bool) (v i here : ℕ) → IsOnce a v → here < length a.low → (low_at a here).node ≡ v → (low_at a here).why ≡ why.Seed i
    → i < length a.seeds → AreMarked net a (length a.seeds) 0 marks → (get_or marks v false ≡ true) ↔ HasItsReason net a v
reason_seed net cost a marks v i here once l e w li m =
    let at = reason_at net a v here once l e in
    let P : Why → Type 0 = λ x. HasReason net a here v x in (
      λ t.
          let s = m.sound v t in
          let k = s.2 in
          let same_k = same_low a v k.0 here once k.1 l k.2 e in
          let Q : ℕ → Type 0 = λ x. (low_at a x).why ≡ why.Seed s.0 in
          let by : s.0 ≡ i = seed_same s.0 i (low_at a here).why (subst Q same_k k.3) w in
          let R : ℕ → Type 0 = λ x. (t : ℕ) × (t < length (seed_at a x).cycle) × (source net (get_or (seed_at a x).cycle t 0) ≡ v) in
          at.0 (subst P (sym w) (subst R by (s.1, s.3, s.4))),
      λ h.
          let r : HasReason net a here v (why.Seed i) = subst P w (at.1 h) in
          let W : ℕ → Type 0 = λ x. Wants a x i in
          let M : ℕ → Type 0 = λ x. get_or marks x false ≡ true in
          subst M r.2 (m.before i r.0 li r.1 (subst W (sym r.2) (here, l, e, w))),
    )

-- ---- answers by kind
pub stays_from_low : (net : Net) (a : SpAnswer) (arc : ℕ) → IsOnce a (source net arc) → IsOnce a (target net arc) → IsLow a (source net arc)
    → IsFinite a (target net arc) ⊎ (IsLow a (target net arc) ⊎ IsToldUnreached a (target net arc)) → IsLow a (target net arc) ↔ StaysWithin net a arc
stays_from_low net a arc os ot l kind = (
  λ w. stays_low net a arc os ot w,
  λ h. elim kind [
    | inl f ↦ absurd (h.back l f)
    | inr r ↦ elim r [ inl w ↦ w | inr u ↦ absurd (h.low l u) ]
  ],
)

pub stays_from_finite : (net : Net) (a : SpAnswer) (arc : ℕ) → IsOnce a (source net arc) → IsFinite a (source net arc) → (IsToldUnreached a (target net arc) → ⊥) ↔ StaysWithin net a arc
stays_from_finite net a arc once f = (λ h. stays_finite net a arc once f h, λ h u. h.finite f u)

-- ---- equivalences
pub never : (P : Type 0) → (P → ⊥) → (false ≡ true) ↔ P
never P h = (λ t. absurd (true≢false (sym t)), λ p. absurd (h p))

pub always : (P : Type 0) → P → (true ≡ true) ↔ P
always P p = (λ t. p, λ q. refl)

pub iff_trans : {A B C : Type 0} → A ↔ B → B ↔ C → A ↔ C
iff_trans f g = (λ a. g.0 (f.0 a), λ c. f.1 (g.1 c))

-- ---- the reason of a low node by an arc
pub reason_low : (net : Net) (a : SpAnswer) (arc v here before : ℕ) → IsOnce a (source net arc) → here < length a.low → before < length a.low → (low_at a before).node ≡ source net arc → target net arc ≡ v
    → (before < here) ↔ HasReason net a here v (why.Arc arc)
reason_low net a arc v here before once l lb e to = (
  λ lt. (before, lt, sym e, to),
  λ r.
      let lj : r.0 < here = r.1 in
      let same = same_low a (source net arc) r.0 before once (omega arith) lb (sym r.2) e in
      let P : ℕ → Type 0 = λ x. x < here in
      subst P same r.1,
)

-- its source is low
pub reason_from : (net : Net) (a : SpAnswer) (arc v here : ℕ) → here < length a.low → HasReason net a here v (why.Arc arc) → IsLow a (source net arc)
reason_from net a arc v here l r = let lj : r.0 < here = r.1 in (r.0, omega arith, sym r.2)

-- ---- the ends of an arc stand once
pub source_once : (net : Net) (cost : List ℤ) (a : SpAnswer) (places : List ℕ) (arc : ℕ) → IsPlaced net cost a places → arc < length net.arcs → IsOnce a (source net arc)
source_once net cost a places arc h l = h.once (source net arc) (h.valid.ends arc (0, 0) l).0

pub target_once : (net : Net) (cost : List ℤ) (a : SpAnswer) (places : List ℕ) (arc : ℕ) → IsPlaced net cost a places → arc < length net.arcs → IsOnce a (target net arc)
target_once net cost a places arc h l = h.once (target net arc) (h.valid.ends arc (0, 0) l).1

-- what is compared is what stands at the places
pub difference_by : (net : Net) (cost : List ℤ) (a : SpAnswer) (here before arc : ℕ) (x y : Finite) (b : Bool) → x ≡ finite_at a before → y ≡ finite_at a here
    → (b ≡ true) ↔ (y.dist ≡ (x.dist +ℤ at cost arc)) → (b ≡ true) ↔ ((finite_at a here).dist ≡ ((finite_at a before).dist +ℤ at cost arc))
difference_by net cost a here before arc x y b ex ey h =
    let P : Finite → Type 0 = λ z. (b ≡ true) ↔ (y.dist ≡ (z.dist +ℤ at cost arc)) in
    let Q : Finite → Type 0 = λ z. (b ≡ true) ↔ (z.dist ≡ ((finite_at a before).dist +ℤ at cost arc)) in
    subst Q ey (subst P ex h)

pub at_most_by : (net : Net) (cost : List ℤ) (a : SpAnswer) (from to arc : ℕ) (x y : Finite) (b : Bool) → x ≡ finite_at a from → y ≡ finite_at a to
    → (b ≡ true) ↔ (y.dist ≤ℤ (x.dist +ℤ at cost arc)) → (b ≡ true) ↔ ((finite_at a to).dist ≤ℤ ((finite_at a from).dist +ℤ at cost arc))
at_most_by net cost a from to arc x y b ex ey h =
    let P : Finite → Type 0 = λ z. (b ≡ true) ↔ (y.dist ≤ℤ (z.dist +ℤ at cost arc)) in
    let Q : Finite → Type 0 = λ z. (b ≡ true) ↔ (z.dist ≤ℤ ((finite_at a from).dist +ℤ at cost arc)) in
    subst Q ey (subst P ex h)

pub finite_once : (net : Net) (cost : List ℤ) (a : SpAnswer) (places : List ℕ) (k : ℕ) → IsPlaced net cost a places → k < length a.finite → IsOnce a (finite_at a k).node
finite_once net cost a places k h l = h.once (finite_at a k).node (h.range.finite k (record { node = 0; dist = pos 0; pred = None }) l).node

pub seed_in : (net : Net) (cost : List ℤ) (a : SpAnswer) (places : List ℕ) (k i : ℕ) → IsPlaced net cost a places → k < length a.low → (low_at a k).why ≡ why.Seed i → i < length a.seeds
seed_in net cost a places k i h l e =
    let P : Why → Type 0 = λ w. IsReasonBelow (length net.arcs) (length a.seeds) w in
    subst P e (h.range.low k (record { node = 0; why = why.Arc 0 }) l).why

pub reason_arc : (net : Net) (a : SpAnswer) (v here arc : ℕ) (b : Bool) → IsOnce a v → here < length a.low → (low_at a here).node ≡ v → (low_at a here).why ≡ why.Arc arc
    → (b ≡ true) ↔ HasReason net a here (low_at a here).node (why.Arc arc) → (b ≡ true) ↔ HasItsReason net a v
reason_arc net a v here arc b once l e w h =
    let P : ℕ → Type 0 = λ x. (b ≡ true) ↔ HasReason net a here x (why.Arc arc) in
    let Q : Why → Type 0 = λ x. (b ≡ true) ↔ HasReason net a here v x in
    iff_trans (subst Q (sym w) (subst P e h)) (reason_at net a v here once l e)
