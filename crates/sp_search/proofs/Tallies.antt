-- What the arcs of a tree cost together.
use Rattle.std.proofs.Common.{◌≡◌, ◌⊎◌, inl, inr, ℕ, zero, suc, ◌+◌, ◌<◌, ◌≤◌, ◌^◌, ℤ, pos, negsuc, ◌+ℤ◌, ◌-ℤ◌, ◌≤ℤ◌, Bool, true, false, not, eqb, List, [], ◌∷◌, ◌++◌, length, get_or, take, refl, sym, ◌∙◌, ap, subst, arith, rules, w64, FitsSigned}
use borrow.Author.Differences.{ints}
use Rattle.std.specs.Prelude.{None}
use Rattle.std.proofs.lemmas.Bool.{cases_eq, cases_lt, eq-eqb, ne_eqb}
use Rattle.std.proofs.lemmas.List.{length_push, get_or_push, get_or_append_left}
use Rattle.graph_defs.specs.declared.net.Net.{Net}
use Rattle.graph_defs.specs.declared.shortest.Finite.{Finite}
use Rattle.graph_defs.specs.declared.shortest.Why.{Why}
use Rattle.graph_defs.specs.declared.shortest.Why.TheVariants.{Seed, Arc}
use Rattle.graph_defs.specs.Count.{times}
use Rattle.graph_defs.specs.Net.{target}
use Rattle.graph_defs.specs.Sum.{at, sum_below, when}
use Rattle.graph_defs.proofs.Counts.{times_same, times_other, has_times}
use Rattle.graph_defs.proofs.Sums.{sum_same, sum_le, sum_add, sum_zero, sum_only}
use Rattle.sp_search.specs.declared.finding.Found.{Found}
use Rattle.sp_search.specs.Finding.{found_at, found_nodes}
use Rattle.sp_search.specs.Lows.{StandBehind}
use Rattle.sp_search.specs.Settling.{settled_at}
use Rattle.sp_search.specs.Telling.{size, price, paid, KnowCosts, FitsNext, IsTold, AreTold}

pub size_least : (x : ℤ) → pos 0 ≤ℤ size x
size_least (pos k) = omega (arith, ints)
size_least (negsuc k) = omega (arith, ints)

pub size_above : (x : ℤ) → x ≤ℤ size x
size_above (pos k) = omega (arith, ints)
size_above (negsuc k) = omega (arith, ints)

pub size_below : (x : ℤ) → (pos 0 -ℤ size x) ≤ℤ x
size_below (pos k) = omega (arith, ints)
size_below (negsuc k) = omega (arith, ints)

pub size_fits : (x : ℤ) → (pos 0 -ℤ pos (2 ^ 63)) ≤ℤ x → x ≤ℤ pos (2 ^ 63) → size x ≤ℤ pos (2 ^ 63)
size_fits (pos k) low high = omega (arith, ints)
size_fits (negsuc k) low high = omega (arith, ints)

fits_within : (z : ℤ) → (pos 0 -ℤ pos 9223372036854775807) ≤ℤ z → z ≤ℤ pos 9223372036854775807 → FitsSigned w64 z
fits_within z low high = search (rules, ints, arith)

-- ---- a sum over a list of numbers, none of them twice
abbrev tally : (ℕ → ℤ) → List ℕ → ℤ
tally f [] = pos 0
tally f (x ∷ xs) = f x +ℤ tally f xs

tally_same : (f g : ℕ → ℤ) (xs : List ℕ) → ((k : ℕ) → k < length xs → f (get_or xs k 0) ≡ g (get_or xs k 0)) → tally f xs ≡ tally g xs
tally_same f g [] h = refl
tally_same f g (x ∷ xs) h =
    let a : f x ≡ g x = h 0 (omega arith) in
    let i = tally_same f g xs (λ k l. h (suc k) (omega arith)) in
    omega (arith, ints)

split : (b : Bool) (y : ℤ) → y ≡ (when (not b) y +ℤ when b y)
split true y = omega (arith, ints)
split false y = omega (arith, ints)

when_least : (b : Bool) (y : ℤ) → pos 0 ≤ℤ y → pos 0 ≤ℤ when b y
when_least true y h = h
when_least false y h = omega (arith, ints)

sum_without : (f : ℕ → ℤ) (x m : ℕ) → x < m → sum_below f m ≡ (sum_below (λ a. when (not (eqb a x)) (f a)) m +ℤ f x)
sum_without f x m h =
    let g : ℕ → ℤ = λ a. when (eqb a x) (f a) in
    let s = sum_same f (λ a. when (not (eqb a x)) (f a) +ℤ when (eqb a x) (f a)) m (λ a l. split (eqb a x) (f a)) in
    let t = sum_add (λ a. when (not (eqb a x)) (f a)) g m in
    let o = sum_only g m x h (λ a l ne. ap (λ (b : Bool). when b (f a)) (ne_eqb a x ne)) in
    let e : g x ≡ f x = ap (λ (b : Bool). when b (f x)) (eq-eqb x x refl) in
    omega (arith, ints)

apart : (x : ℕ) (xs : List ℕ) (k : ℕ) → times x (x ∷ xs) ≤ 1 → k < length xs → get_or xs k 0 ≡ x → ⊥
apart x xs k h l e =
    let s = times_same x x xs refl in
    let t = has_times x xs k l e in
    absurd (omega arith)

tally_most : (f : ℕ → ℤ) (xs : List ℕ) (m : ℕ) → ((a : ℕ) → pos 0 ≤ℤ f a) → ((a : ℕ) → times a xs ≤ 1) → ((k : ℕ) → k < length xs → get_or xs k 0 < m) → tally f xs ≤ℤ sum_below f m
tally_most f [] m least once below =
    let z = sum_zero (λ (a : ℕ). pos 0) m (λ a l. refl) in
    let l = sum_le (λ (a : ℕ). pos 0) f m (λ a l. least a) in
    omega (arith, ints)
tally_most f (x ∷ xs) m least once below =
    let g : ℕ → ℤ = λ a. when (not (eqb a x)) (f a) in
    let same = tally_same f g xs (λ k l. sym (ap (λ (b : Bool). when (not b) (f (get_or xs k 0))) (ne_eqb (get_or xs k 0) x (apart x xs k (once x) l)))) in
    let i = tally_most g xs m (λ a. when_least (not (eqb a x)) (f a) (least a)) (λ a. (let o = once a in omega arith)) (λ k l. below (suc k) (omega arith)) in
    let s = sum_without f x m (below 0 (omega arith)) in
    omega (arith, ints)

-- ---- the arcs of a queue
abbrev arc_of : Why → List ℕ
arc_of (Seed i) = []
arc_of (Arc arc) = arc ∷ []

abbrev arcs_of : List Found → List ℕ
arcs_of [] = []
arcs_of (f ∷ queue) = arc_of f.why ++ arcs_of queue

abbrev EnterNodes : Net → List Found → Type 0
EnterNodes net queue = (k arc : ℕ) → k < length queue → (found_at queue k).why ≡ Arc arc → (arc < length net.arcs) × (target net arc ≡ (found_at queue k).node)

enter_rest : (net : Net) (f : Found) (queue : List Found) → EnterNodes net (f ∷ queue) → EnterNodes net queue
enter_rest net f queue h k arc l e = h (suc k) arc (omega arith) e

times_first : (net : Net) (f : Found) (queue : List Found) (a : ℕ) (w : Why) → f.why ≡ w → EnterNodes net (f ∷ queue) → times a (arcs_of queue) ≤ times (target net a) (found_nodes queue)
    → times a (arc_of w ++ arcs_of queue) ≤ times (target net a) (found_nodes (f ∷ queue))
times_first net f queue a (Seed i) e h t = omega arith
times_first net f queue a (Arc b) e h t = elim (cases_eq a b) [
  | inl q ↦ (let n = h 0 b (omega arith) e in
      let s = times_same a b (arcs_of queue) q in
      let u = times_same (target net a) f.node (found_nodes queue) (ap (target net) q ∙ n.1) in
      omega arith)
  | inr ne ↦ (let s = times_other a b (arcs_of queue) ne in omega arith)
]

times_arcs : (net : Net) (queue : List Found) (a : ℕ) → EnterNodes net queue → times a (arcs_of queue) ≤ times (target net a) (found_nodes queue)
times_arcs net [] a h = omega arith
times_arcs net (f ∷ queue) a h = times_first net f queue a f.why refl h (times_arcs net queue a (enter_rest net f queue h))

below_first : (net : Net) (f : Found) (queue : List Found) (w : Why) → f.why ≡ w → EnterNodes net (f ∷ queue) → ((k : ℕ) → k < length (arcs_of queue) → get_or (arcs_of queue) k 0 < length net.arcs)
    → (k : ℕ) → k < length (arc_of w ++ arcs_of queue) → get_or (arc_of w ++ arcs_of queue) k 0 < length net.arcs
below_first net f queue (Seed i) e h b k l = b k l
below_first net f queue (Arc arc) e h b zero l = (h 0 arc (omega arith) e).0
below_first net f queue (Arc arc) e h b (suc k) l = b k (omega arith)

below_arcs : (net : Net) (queue : List Found) → EnterNodes net queue → (k : ℕ) → k < length (arcs_of queue) → get_or (arcs_of queue) k 0 < length net.arcs
below_arcs net [] h k l = absurd (omega arith)
below_arcs net (f ∷ queue) h k l = below_first net f queue f.why refl h (below_arcs net queue (enter_rest net f queue h)) k l

paid_first : (cost : List ℤ) (queue : List Found) (w : Why) → paid cost queue ≡ tally (λ a. size (at cost a)) (arcs_of queue)
    → (price cost w +ℤ paid cost queue) ≡ tally (λ a. size (at cost a)) (arc_of w ++ arcs_of queue)
paid_first cost queue (Seed i) h = omega (arith, ints)
paid_first cost queue (Arc arc) h = omega (arith, ints)

paid_is : (cost : List ℤ) (queue : List Found) → paid cost queue ≡ tally (λ a. size (at cost a)) (arcs_of queue)
paid_is cost [] = refl
paid_is cost (f ∷ queue) = paid_first cost queue f.why (paid_is cost queue)

-- they cost no more than all arcs do
pub paid_most : (net : Net) (cost : List ℤ) (queue : List Found) → ((k arc : ℕ) → k < length queue → (found_at queue k).why ≡ Arc arc → (arc < length net.arcs) × (target net arc ≡ (found_at queue k).node))
    → ((v : ℕ) → times v (found_nodes queue) ≤ 1) → paid cost queue ≤ℤ sum_below (λ a. size (at cost a)) (length net.arcs)
paid_most net cost queue h once =
    let p = paid_is cost queue in
    let t = tally_most (λ a. size (at cost a)) (arcs_of queue) (length net.arcs) (λ a. size_least (at cost a))
    (λ a. (let l = times_arcs net queue a h in let o = once (target net a) in omega arith)) (below_arcs net queue h) in
    omega (arith, ints)

-- ---- from place to place
price_least : (cost : List ℤ) (w : Why) → pos 0 ≤ℤ price cost w
price_least cost (Seed i) = omega (arith, ints)
price_least cost (Arc arc) = size_least (at cost arc)

paid_least : (cost : List ℤ) (queue : List Found) → pos 0 ≤ℤ paid cost queue
paid_least cost [] = omega (arith, ints)
paid_least cost (f ∷ queue) = let a = price_least cost f.why in let i = paid_least cost queue in omega (arith, ints)

pub paid_upto : (cost : List ℤ) (queue : List Found) (k : ℕ) → k < length queue → (paid cost (take k queue) +ℤ price cost (found_at queue k).why) ≤ℤ paid cost queue
paid_upto cost [] k h = absurd (omega arith)
paid_upto cost (f ∷ queue) zero h = let i = paid_least cost queue in omega (arith, ints)
paid_upto cost (f ∷ queue) (suc k) h = let i = paid_upto cost queue k (omega arith) in omega (arith, ints)

paid_suc : (cost : List ℤ) (queue : List Found) (k : ℕ) → k < length queue → paid cost (take (suc k) queue) ≡ (paid cost (take k queue) +ℤ price cost (found_at queue k).why)
paid_suc cost [] k h = absurd (omega arith)
paid_suc cost (f ∷ queue) zero h = omega (arith, ints)
paid_suc cost (f ∷ queue) (suc k) h = let i = paid_suc cost queue k (omega arith) in omega (arith, ints)

pub paid_more : (cost : List ℤ) (queue : List Found) (k : ℕ) → k < length queue → paid cost (take (k + 1) queue) ≡ (paid cost (take k queue) +ℤ price cost (found_at queue k).why)
paid_more cost queue k h =
    let P : ℕ → Type 0 = λ j. paid cost (take j queue) ≡ (paid cost (take k queue) +ℤ price cost (found_at queue k).why) in
    let e : suc k ≡ k + 1 = omega arith in
    subst P e (paid_suc cost queue k h)

-- the distances told so far lie within what was paid
pub record IsTelling (cost : List ℤ) (queue : List Found) (k : ℕ) (finite : List Finite) : Type 0 where
  pub told : AreTold cost queue k finite
  pub above : (j : ℕ) → j < k → (pos 0 -ℤ paid cost (take k queue)) ≤ℤ (settled_at finite j).dist
  pub below : (j : ℕ) → j < k → (settled_at finite j).dist ≤ℤ paid cost (take k queue)

pub telling_start : (cost : List ℤ) (queue : List Found) (finite : List Finite) → finite ≡ [] → IsTelling cost queue 0 finite
telling_start cost queue finite e =
    let P : List Finite → Type 0 = λ xs. IsTelling cost queue 0 xs in
    subst P (sym e) (record { told = record { long = refl; each = λ j l. absurd (omega arith) }; above = λ j l. absurd (omega arith); below = λ j l. absurd (omega arith) })

told_old : (finite : List Finite) (x : Finite) (j : ℕ) → j < length finite → settled_at (finite ++ x ∷ []) j ≡ settled_at finite j
told_old finite x j h = get_or_append_left finite (x ∷ []) (record { node = 0; dist = pos 0; pred = None }) j h

told_new : (finite : List Finite) (x : Finite) → settled_at (finite ++ x ∷ []) (length finite) ≡ x
told_new finite x = get_or_push finite x (record { node = 0; dist = pos 0; pred = None }) (length finite) refl

told_kept : (cost : List ℤ) (finite : List Finite) (x : Finite) (f : Found) (w : Why) (y : Finite) → ((arc : ℕ) → w ≡ Arc arc → f.before < length finite) → IsTold cost finite f w y → IsTold cost (finite ++ x ∷ []) f w y
told_kept cost finite x f (Seed i) y h t = t
told_kept cost finite x f (Arc arc) y h t =
    (t.0, t.1 ∙ sym (ap (λ (z : Finite). z.dist +ℤ at cost arc) (told_old finite x f.before (h arc refl))), t.2)

module _ (cost : List ℤ) (queue : List Found) (k : ℕ) (finite : List Finite) (behind : StandBehind queue) (lk : k < length queue) (h : IsTelling cost queue k finite) where
  -- the next one fits
  pub next_fits : (m : ℕ) → KnowCosts m queue → m ≡ length cost → paid cost queue ≤ℤ pos 9223372036854775807 → (w : Why) → (found_at queue k).why ≡ w → FitsNext cost finite (found_at queue k) w
  next_fits m known em fits (Seed i) e = tt
  next_fits m known em fits (Arc arc) e =
      let b : (found_at queue k).before < k = behind k arc lk e in
      let lo = h.above (found_at queue k).before b in
      let hi = h.below (found_at queue k).before b in
      let p = paid_upto cost queue k lk in
      let pe : price cost (found_at queue k).why ≡ size (at cost arc) = ap (price cost) e in
      let sa = size_above (at cost arc) in
      let sb = size_below (at cost arc) in
      let a = known k arc lk e in
      (omega (arith, h.told.long), omega arith, fits_within ((settled_at finite (found_at queue k).before).dist +ℤ at cost arc) (omega (arith, ints)) (omega (arith, ints)))

  module _ (x : Finite) (t : IsTold cost finite (found_at queue k) (found_at queue k).why x) where
    each_cases : (j : ℕ) → (j < k) ⊎ (k ≤ j) → j < k + 1 → IsTold cost (finite ++ x ∷ []) (found_at queue j) (found_at queue j).why (settled_at (finite ++ x ∷ []) j)
    each_cases j (inl l) m =
        let P : Finite → Type 0 = λ y. IsTold cost (finite ++ x ∷ []) (found_at queue j) (found_at queue j).why y in
        subst P (sym (told_old finite x j (omega (arith, h.told.long))))
        (told_kept cost finite x (found_at queue j) (found_at queue j).why (settled_at finite j) (λ arc e. (let b = behind j arc (omega arith) e in omega (arith, h.told.long))) (h.told.each j l))
    each_cases j (inr l) m =
        let q : k ≡ j = omega arith in
        let ql : length finite ≡ k = h.told.long in
        let P : ℕ → Type 0 = λ i. IsTold cost (finite ++ x ∷ []) (found_at queue i) (found_at queue i).why (settled_at (finite ++ x ∷ []) i) in
        let Q : ℕ → Type 0 = λ i. settled_at (finite ++ x ∷ []) i ≡ x in
        let R : Finite → Type 0 = λ y. IsTold cost (finite ++ x ∷ []) (found_at queue k) (found_at queue k).why y in
        subst P q (subst R (sym (subst Q ql (told_new finite x)))
        (told_kept cost finite x (found_at queue k) (found_at queue k).why x (λ arc e. (let b = behind k arc lk e in omega (arith, h.told.long))) t))

    -- how far the new one lies
    within : (w : Why) → (found_at queue k).why ≡ w → IsTold cost finite (found_at queue k) w x
        → ((pos 0 -ℤ (paid cost (take k queue) +ℤ price cost w)) ≤ℤ x.dist) × (x.dist ≤ℤ (paid cost (take k queue) +ℤ price cost w))
    within (Seed i) e t =
        let p = paid_least cost (take k queue) in
        (omega (arith, ints, t.1), omega (arith, ints, t.1))
    within (Arc arc) e t =
        let b : (found_at queue k).before < k = behind k arc lk e in
        let lo = h.above (found_at queue k).before b in
        let hi = h.below (found_at queue k).before b in
        let sa = size_above (at cost arc) in
        let sb = size_below (at cost arc) in
        let d : x.dist ≡ ((settled_at finite (found_at queue k).before).dist +ℤ at cost arc) = t.1 in
        (omega (arith, ints), omega (arith, ints))

    above_cases : (j : ℕ) → (j < k) ⊎ (k ≤ j) → j < k + 1 → (pos 0 -ℤ paid cost (take (k + 1) queue)) ≤ℤ (settled_at (finite ++ x ∷ []) j).dist
    above_cases j (inl l) m =
        let o = ap (λ (y : Finite). y.dist) (told_old finite x j (omega (arith, h.told.long))) in
        let a = h.above j l in
        let p = paid_more cost queue k lk in
        let z = price_least cost (found_at queue k).why in
        omega (arith, ints)
    above_cases j (inr l) m =
        let q : length finite ≡ j = omega (arith, h.told.long) in
        let Q : ℕ → Type 0 = λ i. settled_at (finite ++ x ∷ []) i ≡ x in
        let o = ap (λ (y : Finite). y.dist) (subst Q q (told_new finite x)) in
        let p = paid_more cost queue k lk in
        let w = (within (found_at queue k).why refl t).0 in
        omega (arith, ints)

    below_cases : (j : ℕ) → (j < k) ⊎ (k ≤ j) → j < k + 1 → (settled_at (finite ++ x ∷ []) j).dist ≤ℤ paid cost (take (k + 1) queue)
    below_cases j (inl l) m =
        let o = ap (λ (y : Finite). y.dist) (told_old finite x j (omega (arith, h.told.long))) in
        let a = h.below j l in
        let p = paid_more cost queue k lk in
        let z = price_least cost (found_at queue k).why in
        omega (arith, ints)
    below_cases j (inr l) m =
        let q : length finite ≡ j = omega (arith, h.told.long) in
        let Q : ℕ → Type 0 = λ i. settled_at (finite ++ x ∷ []) i ≡ x in
        let o = ap (λ (y : Finite). y.dist) (subst Q q (told_new finite x)) in
        let p = paid_more cost queue k lk in
        let w = (within (found_at queue k).why refl t).1 in
        omega (arith, ints)

    pub telling_more : (finite' : List Finite) → finite' ≡ finite ++ x ∷ [] → IsTelling cost queue (k + 1) finite'
    telling_more finite' e =
        let P : List Finite → Type 0 = λ xs. IsTelling cost queue (k + 1) xs in
        subst P (sym e) (record {
          told = record { long = omega (arith, length_push finite x, h.told.long); each = λ j l. each_cases j (cases_lt j k) l };
          above = λ j l. above_cases j (cases_lt j k) l;
          below = λ j l. below_cases j (cases_lt j k) l;
        })
