-- From rounds to rounds: closed walks that are told, and the whole answer.
use Rattle.std.proofs.Common.{◌≡◌, ◌⊎◌, inl, inr, ℕ, zero, suc, ◌<◌, ◌≤◌, ℤ, pos, negsuc, ◌≤ℤ◌, ◌<ℤ◌, Bool, true, false, cond, List, [], ◌∷◌, length, replicate, refl, sym, ◌∙◌, ap, subst, All, arith}
use borrow.Author.Differences.{ints}
use Rattle.std.proofs.lemmas.List.{get_or_past}
use Rattle.std.proofs.lemmas.Bool.{cases_lt}
use Rattle.graph_defs.specs.declared.net.Net.{Net}
use Rattle.graph_defs.specs.declared.shortest.Seed.{Seed}
use Rattle.graph_defs.specs.declared.shortest.SpAnswer.{SpAnswer}
use Rattle.graph_defs.specs.declared.shortest.Why.{Why}
use Rattle.graph_defs.specs.declared.shortest.Why.TheVariants as why
use Rattle.graph_defs.specs.Net.{IsValid, target}
use Rattle.graph_defs.specs.Shortest.{weight, AreBelow, IsSpAnswer}
use Rattle.graph_defs.specs.Sum.{at, sum_below}
use Rattle.graph_defs.specs.Walk.{IsWalk}
use Rattle.graph_defs.proofs.Sums.{sum_same}
use Rattle.sp_search.specs.declared.finding.Found.{Found}
use Rattle.sp_search.specs.declared.tags.Tag.{Tag}
use Rattle.sp_search.specs.Finding.{found_at, is_marked, IsFoundBy, IsFinding}
use Rattle.sp_search.specs.Lows.{StandBehind, IsThere, BeginsAt, IsReachOf, CanReach, begin_of, IsLed, IsSeedOf, AreLow}
use Rattle.sp_search.specs.Refusals.{sizes}
use Rattle.sp_search.specs.Rounds.{IsCycle, IsSettledTree}
use Rattle.sp_search.specs.Tags.{IsPriced}
use Rattle.sp_search.specs.Telling.{size, paid, KnowCosts, IsWhole}
use Rattle.sp_search.specs.Wide.{IsWide}
use Rattle.sp_search.proofs.Findings.{place_of}
use Rattle.sp_search.proofs.Reaches.{marked_along, stand_behind}
use Rattle.sp_search.proofs.Tallies.{size_least, size_above, size_below, paid_most}
use Rattle.sp_search.proofs.Truths.{walk_below, answer_right}

all_true : (n v : ℕ) → v < n → is_marked (replicate n true) v ≡ true
all_true zero v h = absurd (omega arith)
all_true (suc n) zero h = refl
all_true (suc n) (suc v) h = all_true n v (omega arith)

-- all arcs are open
pub all_open : (opened : List Bool) (m : ℕ) → opened ≡ replicate m true → (arc : ℕ) → arc < m → is_marked opened arc ≡ true
all_open opened m e arc h = ap (λ (xs : List Bool). is_marked xs arc) e ∙ all_true m arc h

-- ---- costs
one_cases : (f : ℕ → ℤ) (m a : ℕ) → ((i : ℕ) → pos 0 ≤ℤ f i) → pos 0 ≤ℤ sum_below f m → (a < m → f a ≤ℤ sum_below f m) → (a < m) ⊎ (m ≤ a) → a < suc m → f a ≤ℤ sum_below f (suc m)
one_cases f m a least sum before (inl l) h = let b = before l in let z = least m in omega (arith, ints)
one_cases f m a least sum before (inr l) h =
    let e : a ≡ m = omega arith in
    let g = ap f e in
    omega (arith, ints)

sum_least : (f : ℕ → ℤ) (m : ℕ) → ((i : ℕ) → pos 0 ≤ℤ f i) → pos 0 ≤ℤ sum_below f m
sum_least f zero least = omega (arith, ints)
sum_least f (suc m) least = let i = sum_least f m least in let z = least m in omega (arith, ints)

one_size : (f : ℕ → ℤ) (m a : ℕ) → ((i : ℕ) → pos 0 ≤ℤ f i) → a < m → f a ≤ℤ sum_below f m
one_size f zero a least h = absurd (omega arith)
one_size f (suc m) a least h = one_cases f m a least (sum_least f m least) (λ l. one_size f m a least l) (cases_lt a m) h

size_cases : (cost : List ℤ) (arc : ℕ) → (arc < length cost) ⊎ (length cost ≤ arc) → size (at cost arc) ≤ℤ sizes cost
size_cases cost arc (inl l) = one_size (λ a. size (at cost a)) (length cost) arc (λ a. size_least (at cost a)) l
size_cases cost arc (inr l) =
    let e : size (at cost arc) ≡ pos 0 = ap size (get_or_past cost arc (pos 0) l) in
    let z = sum_least (λ a. size (at cost a)) (length cost) (λ a. size_least (at cost a)) in
    omega (arith, ints)

pub priced_is : (net : Net) (cost : List ℤ) → IsWide net → length cost ≡ length net.arcs → sizes cost ≤ℤ pos 9223372036854775807 → IsPriced net cost
priced_is net cost wide long fits = record {
  wide = wide;
  long = long;
  low = λ arc. (let b = size_cases cost arc (cases_lt arc (length cost)) in let z = size_below (at cost arc) in omega (arith, ints));
  high = λ arc. (let b = size_cases cost arc (cases_lt arc (length cost)) in let z = size_above (at cost arc) in omega (arith, ints));
}

-- what is asked of a valid net is met where more is allowed
pub wide_is : (net : Net) → IsValid net → IsWide net
wide_is net valid = record {
  ends = valid.ends;
  limits = record { nodes = (let n = valid.limits.nodes in omega arith); arcs = (let m = valid.limits.arcs in omega arith) };
}

-- costs of at least 0 have no sign
size_same : (x : ℤ) → pos 0 ≤ℤ x → size x ≡ x
size_same (pos k) h = refl
size_same (negsuc k) h = absurd (omega (arith, ints))

pub sum_of_low : (cost : List ℤ) (m : ℕ) → m ≡ length cost → All (λ c. pos 0 ≤ℤ c) cost → sizes cost ≤ℤ pos 4611686018427387903 → sum_below (at cost) m ≤ℤ pos 4611686018427387903
sum_of_low cost m e low h =
    let a = sum_same (λ arc. size (at cost arc)) (at cost) (length cost) (λ i l. size_same (at cost i) (low i (pos 0) l)) in
    let b = ap (sum_below (at cost)) e in
    omega (arith, ints)

-- ---- a closed walk
begins_there : (net : Net) (cost : List ℤ) (v : ℕ) (row : List ℕ) → IsWalk net v v row → weight cost row <ℤ pos 0 → (0 < length row) × (begin_of net row ≡ v)
begins_there net cost v [] w n = absurd (omega (arith, ints))
begins_there net cost v (a ∷ row) w n = (omega arith, w.1)

module _ (net : Net) (s : ℕ) (cost : List ℤ) (shut : List Bool) (row : List ℕ) (c : IsCycle net s cost shut row) where
  pub cycle_some : 0 < length row
  cycle_some = (begins_there net cost c.node row c.closed c.negative).0

  pub cycle_known : AreBelow (length net.arcs) row
  cycle_known = walk_below net c.node c.node row c.closed

  pub cycle_begins : begin_of net row ≡ c.node
  cycle_begins = (begins_there net cost c.node row c.closed c.negative).1

  pub cycle_reached : (opened : List Bool) (queue : List Found) (marks : List Bool) → ((arc : ℕ) → arc < length net.arcs → is_marked opened arc ≡ true) → IsReachOf net opened s queue marks
      → CanReach net s queue marks (begin_of net row)
  cycle_reached opened queue marks all r =
      let m = marked_along net opened marks r.closed all s c.node c.reached.0 c.reached.1 r.has in
      (opened, r, ap (is_marked marks) cycle_begins ∙ m)

  abbrev pub cycle_seed : (seed : Seed) → IsLed net s row seed → IsSeedOf net s cost seed
  cycle_seed seed led =
      let P : ℕ → Type 0 = λ v. IsWalk net s v seed.walk in
      let Q : List ℕ → Type 0 = λ xs. IsWalk net c.node c.node xs × (weight cost xs <ℤ pos 0) in
      let b = subst Q (sym led.cycle_is) (c.closed, c.negative) in
      record { start_is = led.start_is; node = c.node; walk = subst P cycle_begins led.walk; cycle = b.0; negative = b.1 }

  pub seed_free : (seed : Seed) (led : IsLed net s row seed) → is_marked shut (cycle_seed seed led).node ≡ false
  seed_free seed led = c.free

  pub seed_known : (seed : Seed) → IsLed net s row seed → AreBelow (length net.arcs) seed.cycle
  seed_known seed led = let P : List ℕ → Type 0 = λ xs. AreBelow (length net.arcs) xs in subst P (sym led.cycle_is) cycle_known

-- ---- a tree
at_most_one : (b : Bool) → cond {A = ℕ} b 1 0 ≤ 1
at_most_one true = omega arith
at_most_one false = omega arith

module _ (net : Net) (s : ℕ) (cost : List ℤ) (shut : List Bool) (queue : List Found) (marks : List Bool) (tags : List Tag) (st : IsSettledTree net s cost shut queue marks tags) where
  tree_found : (k arc : ℕ) → k < length queue → (found_at queue k).why ≡ why.Arc arc → (arc < length net.arcs) × (target net arc ≡ (found_at queue k).node)
  tree_found k arc h e =
      let P : Why → Type 0 = λ w. IsFoundBy net st.tree.opened queue k (found_at queue k) w in
      let f = subst P e (st.tree.is.why k h) in
      (f.0, f.2)

  pub tree_behind : StandBehind queue
  tree_behind = stand_behind net st.tree.opened queue marks st.tree.is

  pub tree_known : length cost ≡ length net.arcs → KnowCosts (length cost) queue
  tree_known long k arc h e = let l = (tree_found k arc h e).0 in omega arith

  pub tree_paid : length cost ≡ length net.arcs → paid cost queue ≤ℤ sizes cost
  tree_paid long =
      let p = paid_most net cost queue tree_found (λ v. (let o = st.tree.is.once v in let m = at_most_one (is_marked marks v) in omega arith)) in
      let e = ap (sum_below (λ a. size (at cost a))) long in
      omega (arith, ints)

pub whole_right : (net : Net) (s : ℕ) (cost : List ℤ) → IsPriced net cost → s < net.n → (opened : List Bool) → ((arc : ℕ) → arc < length net.arcs → is_marked opened arc ≡ true)
    → (lq : List Found) (lm : List Bool) (seeds : List Seed) → AreLow net s cost opened lq lm seeds
    → (queue : List Found) (marks : List Bool) (tags : List Tag) → IsSettledTree net s cost lm queue marks tags
    → (a : SpAnswer) → IsWhole cost queue marks lq lm seeds a → IsSpAnswer net s cost a
whole_right net s cost q hs opened all lq lm seeds low queue marks tags st a w =
    let P : List Seed → Type 0 = λ xs. IsSpAnswer net s cost (record { finite = a.finite; seeds = xs; low = a.low; unreached = a.unreached }) in
    subst P (sym w.seeds_are) (answer_right net s cost q hs opened all lq lm seeds low queue marks tags st a.finite w.told a.low a.unreached w.low_are w.unreached_are)

-- ---- the walk to a closed walk
module _ (net : Net) (s : ℕ) (queue : List Found) (marks : List Bool) (v : ℕ) (r : CanReach net s queue marks v) (queue' : List Found) (eq : queue' ≡ queue) where
  pub led_behind : StandBehind queue'
  led_behind = let P : List Found → Type 0 = λ xs. StandBehind xs in subst P (sym eq) (stand_behind net r.0 queue marks r.1.is)

  pub led_there : (node : ℕ) → node ≡ v → IsThere queue' node
  led_there node en =
      let P : List Found → Type 0 = λ xs. IsThere xs node in
      let p = place_of queue marks r.1.is.once v r.2 in
      subst P (sym eq) (p.0, p.1, p.2 ∙ sym en)

  pub led_walk : (node : ℕ) (walk : List ℕ) → node ≡ v
      → ((n : Net) (opened others : List Bool) (u : ℕ) → IsFinding n opened queue' others → BeginsAt queue' u → IsWalk n u node walk) → IsWalk net s v walk
  led_walk node walk en goes =
      let P : List Found → Type 0 = λ xs. IsFinding net r.0 xs marks in
      let Q : List Found → Type 0 = λ xs. BeginsAt xs s in
      let R : ℕ → Type 0 = λ u. IsWalk net s u walk in
      subst R en (goes net r.0 marks s (subst P (sym eq) r.1.is) (subst Q (sym eq) r.1.begins))
