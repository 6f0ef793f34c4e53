-- A right answer on shortest paths tells least weights.
use Rattle.std.proofs.Common.{◌≡◌, ◌⊎◌, inl, inr, ℕ, zero, suc, ◌<◌, ℤ, pos, ◌+ℤ◌, ◌-ℤ◌, ◌≤ℤ◌, ◌<ℤ◌, List, [], ◌∷◌, ◌++◌, length, take, get_or, refl, sym, ◌∙◌, ap, subst, arith}
use borrow.Author.Differences.{ints}
use Rattle.std.specs.Prelude.{Option, Some, None, IfSome}
use Rattle.graph_defs.specs.declared.net.Net.{Net}
use Rattle.graph_defs.specs.declared.shortest.SpAnswer.{SpAnswer}
use Rattle.graph_defs.specs.declared.shortest.Low.{Low}
use Rattle.graph_defs.specs.declared.shortest.Why.{Why}
use Rattle.graph_defs.specs.declared.shortest.Why.TheVariants as why
use Rattle.graph_defs.specs.Net.{IsValid, source, target}
use Rattle.graph_defs.specs.Sum.{at}
use Rattle.graph_defs.specs.Walk.{IsWalk}
use Rattle.graph_defs.specs.Shortest.{weight, IsLeastWeight, HasNoLeastWeight, IsUnreached, finite_at, low_at, seed_at, IsFinite, IsLow, IsToldUnreached, IsReasonBelow, IsFirstFinite, IsSource, IsTightBy, IsSeedAt, HasReason, IsShortest, GivesLeastWeights}
use Rattle.graph_defs.proofs.Weights.{arcs_append, arcs_push, arcs_take, weight_append, weight_push, pumped, beyond}
use Rattle.graph_defs.proofs.Listed.{kinds, finite_not_low, finite_not_unreached, low_not_unreached, same_finite}

-- ---- numbers in range
finite_in : (net : Net) (s : ℕ) (cost : List ℤ) (a : SpAnswer) → IsShortest net s cost a → (v : ℕ) → IsFinite a v → v < net.n
finite_in net s cost a h v f =
    let P : ℕ → Type 0 = λ x. x < net.n in
    subst P f.2 (h.range.finite f.0 (record { node = 0; dist = pos 0; pred = None }) f.1).node

low_in : (net : Net) (s : ℕ) (cost : List ℤ) (a : SpAnswer) → IsShortest net s cost a → (v : ℕ) → IsLow a v → v < net.n
low_in net s cost a h v f =
    let P : ℕ → Type 0 = λ x. x < net.n in
    subst P f.2 (h.range.low f.0 (record { node = 0; why = why.Arc 0 }) f.1).node

arc_in : (net : Net) (s : ℕ) (cost : List ℤ) (a : SpAnswer) (k arc : ℕ) → IsShortest net s cost a → k < length a.finite → (finite_at a k).pred ≡ Some arc → arc < length net.arcs
arc_in net s cost a k arc h l e =
    let P : Option ℕ → Type 0 = λ o. IfSome o (λ b. b < length net.arcs) in
    subst P e (h.range.finite k (record { node = 0; dist = pos 0; pred = None }) l).pred

-- ---- a finite node has a walk of its distance
pub walk_to : (net : Net) (s : ℕ) (cost : List ℤ) (a : SpAnswer) → IsShortest net s cost a → IsFirstFinite s a → (m k : ℕ) → k < m → k < length a.finite
    → (walk : List ℕ) × IsWalk net s (finite_at a k).node walk × (weight cost walk ≡ (finite_at a k).dist)
walk_to net s cost a h first zero k l lf = absurd (omega arith)
walk_to net s cost a h first (suc m) zero l lf = ([], sym first.node, sym first.dist)
walk_to net s cost a h first (suc m) (suc k) l lf =
    let t = h.tight (finite_at a (suc k)).node (finite_in net s cost a h (finite_at a (suc k)).node (suc k, lf, refl)) (suc k) (omega arith) lf refl in
    let by : IsTightBy net cost a (suc k) t.0 t.1 = t.2 in
    let b = by.before in
    let w = walk_to net s cost a h first m t.1 (omega arith) (omega arith) in
    let P : ℕ → Type 0 = λ x. IsWalk net s x (w.0 ++ t.0 ∷ []) in (
      w.0 ++ t.0 ∷ [],
      subst P by.to (arcs_push net s (finite_at a t.1).node t.0 w.0 w.1 (arc_in net s cost a (suc k) t.0 h lf by.pred) by.from),
      weight_push cost w.0 t.0 ∙ ap (λ (x : ℤ). x +ℤ at cost t.0) w.2 ∙ sym by.dist,
    )

-- where a node is finite, the source is the first one
first_is : (s : ℕ) (a : SpAnswer) → IsSource s a → 0 < length a.finite → IsFirstFinite s a
first_is s a (inl first) l = first
first_is s a (inr low) l = absurd (let n = low.none in omega arith)

-- ---- walks from low nodes, and from nodes that aren't unreached
low_step : (net : Net) (s : ℕ) (cost : List ℤ) (a : SpAnswer) → IsValid net → IsShortest net s cost a → (arc : ℕ) → arc < length net.arcs → IsLow a (source net arc) → IsLow a (target net arc)
low_step net s cost a valid h arc l low =
    let stays = h.leaves arc l in
    elim (kinds a (target net arc) (h.once (target net arc) (valid.ends arc (0, 0) l).1)) [
      | inl f ↦ absurd (stays.back low f)
      | inr r ↦ elim r [ inl w ↦ w | inr u ↦ absurd (stays.low low u) ]
    ]

pub low_stays : (net : Net) (s : ℕ) (cost : List ℤ) (a : SpAnswer) → IsValid net → IsShortest net s cost a → (u w : ℕ) (walk : List ℕ) → IsLow a u → IsWalk net u w walk → IsLow a w
low_stays net s cost a valid h u w [] low e = let P : ℕ → Type 0 = λ x. IsLow a x in subst P e low
low_stays net s cost a valid h u w (arc ∷ walk) low goes =
    let P : ℕ → Type 0 = λ x. IsLow a x in
    low_stays net s cost a valid h (target net arc) w walk (low_step net s cost a valid h arc goes.0 (subst P (sym goes.1) low)) goes.2

IsReached : SpAnswer → ℕ → Type 0
IsReached a v = IsFinite a v ⊎ IsLow a v

reached_step : (net : Net) (s : ℕ) (cost : List ℤ) (a : SpAnswer) → IsValid net → IsShortest net s cost a → (arc : ℕ) → arc < length net.arcs → IsReached a (source net arc) → IsReached a (target net arc)
unfolding IsReached
reached_step net s cost a valid h arc l (inl f) =
    let stays = h.leaves arc l in
    elim (kinds a (target net arc) (h.once (target net arc) (valid.ends arc (0, 0) l).1)) [
      | inl g ↦ inl g
      | inr r ↦ elim r [ inl w ↦ inr w | inr u ↦ absurd (stays.finite f u) ]
    ]
reached_step net s cost a valid h arc l (inr low) = inr (low_step net s cost a valid h arc l low)

reached_stays : (net : Net) (s : ℕ) (cost : List ℤ) (a : SpAnswer) → IsValid net → IsShortest net s cost a → (u w : ℕ) (walk : List ℕ) → IsReached a u → IsWalk net u w walk → IsReached a w
reached_stays net s cost a valid h u w [] r e = let P : ℕ → Type 0 = λ x. IsReached a x in subst P e r
reached_stays net s cost a valid h u w (arc ∷ walk) r goes =
    let P : ℕ → Type 0 = λ x. IsReached a x in
    reached_stays net s cost a valid h (target net arc) w walk (reached_step net s cost a valid h arc goes.0 (subst P (sym goes.1) r)) goes.2

source_reached : (s : ℕ) (a : SpAnswer) → IsSource s a → IsReached a s
unfolding IsReached
source_reached s a (inl first) = inl (0, first.some, first.node)
source_reached s a (inr low) = inr low.low

not_reached : (net : Net) (s : ℕ) (cost : List ℤ) (a : SpAnswer) (v : ℕ) → IsShortest net s cost a → v < net.n → IsReached a v → IsToldUnreached a v → ⊥
unfolding IsReached
not_reached net s cost a v h l (inl f) u = finite_not_unreached a v (h.once v l) f u
not_reached net s cost a v h l (inr low) u = low_not_unreached a v (h.once v l) low u

reached_in : (net : Net) (s : ℕ) (cost : List ℤ) (a : SpAnswer) → IsShortest net s cost a → (v : ℕ) → IsReached a v → v < net.n
unfolding IsReached
reached_in net s cost a h v (inl f) = finite_in net s cost a h v f
reached_in net s cost a h v (inr low) = low_in net s cost a h v low

pub unreached_is : (net : Net) (s : ℕ) (cost : List ℤ) (a : SpAnswer) → IsValid net → IsShortest net s cost a → (v : ℕ) → IsToldUnreached a v → IsUnreached net s v
unreached_is net s cost a valid h v u walk goes =
    let r = reached_stays net s cost a valid h s v walk (source_reached s a h.source) goes in
    not_reached net s cost a v h (reached_in net s cost a h v r) r u

-- ---- no walk between finite nodes is shorter
least_step : (net : Net) (s : ℕ) (cost : List ℤ) (a : SpAnswer) → IsValid net → IsShortest net s cost a → (j k arc : ℕ) (walk : List ℕ)
    → j < length a.finite → k < length a.finite → arc < length net.arcs → source net arc ≡ (finite_at a j).node → IsWalk net (target net arc) (finite_at a k).node walk
    → ((g : ℕ) → g < length a.finite → IsWalk net (finite_at a g).node (finite_at a k).node walk → (finite_at a k).dist ≤ℤ ((finite_at a g).dist +ℤ weight cost walk))
    → IsFinite a (target net arc) ⊎ (IsLow a (target net arc) ⊎ IsToldUnreached a (target net arc))
    → (finite_at a k).dist ≤ℤ ((finite_at a j).dist +ℤ weight cost (arc ∷ walk))
least_step net s cost a valid h j k arc walk lj lk l e goes before (inl g) =
    let P : ℕ → Type 0 = λ x. IsWalk net x (finite_at a k).node walk in
    let lg : g.0 < length a.finite = g.1 in
    let b = before g.0 lg (subst P (sym g.2) goes) in
    let n = h.shorter arc l j g.0 lj lg e (sym g.2) in
    omega (arith, ints)
least_step net s cost a valid h j k arc walk lj lk l e goes before (inr (inl low)) =
    let there = low_stays net s cost a valid h (target net arc) (finite_at a k).node walk low goes in
    absurd (finite_not_low a (finite_at a k).node (h.once (finite_at a k).node (finite_in net s cost a h (finite_at a k).node (k, lk, refl))) (k, lk, refl) there)
least_step net s cost a valid h j k arc walk lj lk l e goes before (inr (inr u)) =
    absurd ((h.leaves arc l).finite (j, lj, sym e) u)

pub least_from : (net : Net) (s : ℕ) (cost : List ℤ) (a : SpAnswer) → IsValid net → IsShortest net s cost a → (walk : List ℕ) (j k : ℕ) → j < length a.finite → k < length a.finite
    → IsWalk net (finite_at a j).node (finite_at a k).node walk → (finite_at a k).dist ≤ℤ ((finite_at a j).dist +ℤ weight cost walk)
least_from net s cost a valid h [] j k lj lk e =
    let same = same_finite a (finite_at a k).node j k (h.once (finite_at a k).node (finite_in net s cost a h (finite_at a k).node (k, lk, refl))) lj lk e refl in
    let d : (finite_at a j).dist ≡ (finite_at a k).dist = ap (λ (i : ℕ). (finite_at a i).dist) same in
    omega (arith, ints)
least_from net s cost a valid h (arc ∷ walk) j k lj lk goes =
    least_step net s cost a valid h j k arc walk lj lk goes.0 goes.1 goes.2
    (λ g lg on. least_from net s cost a valid h walk g k lg lk on)
    (kinds a (target net arc) (h.once (target net arc) (valid.ends arc (0, 0) goes.0).1))

least_is : (net : Net) (s : ℕ) (cost : List ℤ) (a : SpAnswer) → IsValid net → IsShortest net s cost a → (k : ℕ) → k < length a.finite → IsLeastWeight net s cost (finite_at a k).node (finite_at a k).dist
least_is net s cost a valid h k lk =
    let first = first_is s a h.source (omega arith) in
    record {
      some = walk_to net s cost a h first (suc k) k (omega arith) lk;
      least = λ walk goes.
          let P : ℕ → Type 0 = λ x. IsWalk net x (finite_at a k).node walk in
          let l = least_from net s cost a valid h walk 0 k first.some lk (subst P (sym first.node) goes) in
          let d = first.dist in
          omega (arith, ints);
    }

-- ---- walks to low nodes weigh less than any number
walk_to_start : (net : Net) (s : ℕ) (cost : List ℤ) (a : SpAnswer) → IsShortest net s cost a → (v : ℕ) → (v ≡ s) ⊎ IsFinite a v → (walk : List ℕ) × IsWalk net s v walk
walk_to_start net s cost a h v (inl e) = ([], sym e)
walk_to_start net s cost a h v (inr f) =
    let l : f.0 < length a.finite = f.1 in
    let w = walk_to net s cost a h (first_is s a h.source (omega arith)) (suc f.0) f.0 (omega arith) l in
    let P : ℕ → Type 0 = λ x. IsWalk net s x w.0 in
    (w.0, subst P f.2 w.1)

low_by : (net : Net) (s : ℕ) (cost : List ℤ) (a : SpAnswer) → IsShortest net s cost a → (k v : ℕ)
    → ((j : ℕ) → j < k → HasNoLeastWeight net s cost (low_at a j).node)
    → (w : Why) → IsReasonBelow (length net.arcs) (length a.seeds) w → HasReason net a k v w → HasNoLeastWeight net s cost v
low_by net s cost a h k v earlier (why.Seed i) l r z =
    let seed = h.seeds i l in
    let is : IsSeedAt net s cost a (seed_at a i) seed.0 = seed.1 in
    let start = walk_to_start net s cost a h (seed_at a i).start is.start in
    let front : IsWalk net s seed.0 (start.0 ++ (seed_at a i).walk) = arcs_append net s (seed_at a i).start seed.0 start.0 (seed_at a i).walk start.1 is.walk in
    let back : List ℕ = take r.0 (seed_at a i).cycle in
    let m = beyond (weight cost (start.0 ++ (seed_at a i).walk) +ℤ weight cost back) z in
    let p = pumped net cost s seed.0 (start.0 ++ (seed_at a i).walk) (seed_at a i).cycle front is.cycle is.negative m.0 in
    let P : ℕ → Type 0 = λ x. IsWalk net s x (p.0 ++ back) in
    let w = weight_append cost p.0 back in
    let lp : (weight cost p.0 +ℤ pos m.0) ≤ℤ weight cost (start.0 ++ (seed_at a i).walk) = p.2 in
    let lm : (weight cost (start.0 ++ (seed_at a i).walk) +ℤ weight cost back) <ℤ (z +ℤ pos m.0) = m.1 in (
      p.0 ++ back,
      subst P r.2 (arcs_append net s seed.0 (source net (get_or (seed_at a i).cycle r.0 0)) p.0 back p.1 (arcs_take net seed.0 seed.0 (seed_at a i).cycle r.0 is.cycle r.1)),
      omega (arith, ints),
    )
low_by net s cost a h k v earlier (why.Arc arc) l r z =
    let e = earlier r.0 r.1 (z -ℤ at cost arc) in
    let P : ℕ → Type 0 = λ x. IsWalk net s x (e.0 ++ arc ∷ []) in
    let w = weight_push cost e.0 arc in
    let le : weight cost e.0 <ℤ (z -ℤ at cost arc) = e.2 in (
      e.0 ++ arc ∷ [],
      subst P r.3 (arcs_push net s (low_at a r.0).node arc e.0 e.1 l r.2),
      omega (arith, ints),
    )

low_at_place : (net : Net) (s : ℕ) (cost : List ℤ) (a : SpAnswer) → IsShortest net s cost a → (m k : ℕ) → k < m → k < length a.low → HasNoLeastWeight net s cost (low_at a k).node
low_at_place net s cost a h zero k l lk = absurd (omega arith)
low_at_place net s cost a h (suc m) k l lk =
    let none : Low = record { node = 0; why = why.Arc 0 } in
    low_by net s cost a h k (low_at a k).node
    (λ j lj. low_at_place net s cost a h m j (omega arith) (omega arith))
    (low_at a k).why (h.range.low k none lk).why
    (h.low (low_at a k).node (low_in net s cost a h (low_at a k).node (k, lk, refl)) k lk refl)

pub gives_least_weights : (net : Net) (s : ℕ) (cost : List ℤ) (a : SpAnswer) → IsValid net → IsShortest net s cost a → GivesLeastWeights net s cost a
gives_least_weights net s cost a valid h = record {
  finite = λ k l. least_is net s cost a valid h k l;
  low = λ v f.
      let P : ℕ → Type 0 = λ x. HasNoLeastWeight net s cost x in
      subst P f.2 (low_at_place net s cost a h (suc f.0) f.0 (omega arith) f.1);
  unreached = λ v u. unreached_is net s cost a valid h v u;
  all = λ v l. kinds a v (h.once v l);
}
