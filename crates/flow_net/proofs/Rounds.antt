-- Rounds of augmenting paths: what each begins with, that they end, and what the last one shows.
use Rattle.std.proofs.Common.{◌≡◌, ◌≢◌, ◌⊎◌, inl, inr, ℕ, zero, suc, ◌+◌, ◌-◌, ◌<◌, ◌≤◌, ◌^◌, ℤ, pos, negsuc, ◌+ℤ◌, ◌-ℤ◌, ◌≤ℤ◌, ◌<ℤ◌, Bool, true, false, not, ◌&&◌, eqb, List, [], length, get_or, replicate, refl, sym, ◌∙◌, ap, subst, All, arith}
use borrow.Author.Differences.{ints}
use Rattle.std.specs.List.{Contains, filter, range_with_len}
use Rattle.std.proofs.lemmas.Bool.{cases_lt, both_ways}
use Rattle.std.proofs.lemmas.Int.{by_lt_z}
use Rattle.std.proofs.lemmas.List.{get_or_default}
use Rattle.std.proofs.lemmas.List.Elements.{All-contains}
use Rattle.graph_defs.specs.declared.grouped.Incidence.{Incidence}
use Rattle.graph_defs.specs.declared.net.Net.{Net}
use Rattle.graph_defs.specs.Flow.{share, outflow, IsFlow, IsCutOf, capacity}
use Rattle.graph_defs.specs.Grouped.{grouped, incidence, key, other}
use Rattle.graph_defs.specs.Net.{Ends, IsValid, source, target}
use Rattle.graph_defs.specs.Set.{is_in, leaves}
use Rattle.graph_defs.specs.Sum.{sum_below, at, when}
use Rattle.graph_defs.proofs.Incidences.{grouped_only, grouped_has}
use Rattle.graph_defs.proofs.Numbers.{filter_has, filter_below, filter_only, filter_rises}
use Rattle.graph_defs.proofs.Rows.{grouped_length}
use Rattle.graph_defs.proofs.Sets.{has_in, in_has}
use Rattle.graph_defs.proofs.Sums.{sum_same, sum_zero}
use Rattle.flow_net.specs.declared.breadth_first.Found.{Found}
use Rattle.flow_net.specs.Refusals.{sum_of, AreLow}
use Rattle.flow_net.specs.Residual.{darts, row_at, HasRoom, IsResidual}
use Rattle.flow_net.specs.Search.{found_at, is_visited, nodes_visited, LeadsOn, LeadToVisited, IsDone}
use Rattle.flow_net.proofs.Flows.{darts_long, front_ends, back_ends, value_at_most, IsStuck, stuck_is_tight}

-- ---- the ends of all darts are nodes
pub dart_ends : (net : Net) (d : ℕ) → IsValid net → d < length net.arcs + length net.arcs → (key (darts net) d < net.n) × (other (darts net) d < net.n)
dart_ends net d valid h = elim (cases_lt d (length net.arcs)) [
  | inl l ↦ (
      let P : Ends → Type 0 = λ p. (p.0 < net.n) × (p.1 < net.n) in
      subst P (sym (front_ends net d l)) (valid.ends d (0, 0) l))
  | inr l ↦ (
      let P : Ends → Type 0 = λ p. (p.0 < net.n) × (p.1 < net.n) in
      let arc = d - length net.arcs in
      let m : arc < length net.arcs = omega arith in
      let q : length net.arcs + arc ≡ d = omega arith in
      let e = ap (λ (i : ℕ). get_or (darts net) i (0, 0)) (sym q) ∙ back_ends net arc m in
      let b = valid.ends arc (0, 0) m in
      subst P (sym e) (b.1, b.0))
]

pub dart_keys : (net : Net) (pairs : List Ends) → IsValid net → pairs ≡ darts net → All (λ (pair : Ends). pair.0 < net.n) pairs
dart_keys net pairs valid e =
    let P : List Ends → Type 0 = λ xs. All (λ (pair : Ends). pair.0 < net.n) xs in
    let all : All (λ (pair : Ends). pair.0 < net.n) (darts net) = λ k d h.
    let long = darts_long net in
    let R : Ends → Type 0 = λ p. p.0 < net.n in
    subst R (get_or_default (darts net) k (0, 0) d h) (dart_ends net k valid (omega arith)).0 in
    subst P (sym e) all

pub dart_count : (net : Net) (pairs : List Ends) → IsValid net → pairs ≡ darts net → length pairs < 2 ^ 31
dart_count net pairs valid e =
    let long = ap length e ∙ darts_long net in
    let few = valid.limits.arcs in
    omega arith

pub residual_is : (net : Net) (s t : ℕ) (cap flow : List ℤ) (rows : List (List Incidence)) → IsValid net → rows ≡ grouped net.n (darts net) → length cap ≡ length net.arcs
    → IsFlow net s t cap flow → IsResidual rows cap flow
residual_is net s t cap flow rows valid e caps f =
    let n = grouped_length net.n (darts net) rows e in
    let fl : length flow ≡ length net.arcs = f.long in
    record {
      long = caps ∙ sym f.long;
      few = (let l = valid.limits.arcs in omega arith);
      nodes = (let l = valid.limits.nodes in omega arith);
      within = λ arc h. f.bounds arc (omega arith);
      ends = λ v k d.
          let P : List (List Incidence) → Type 0 = λ all. k < length (row_at all v) → ((get_or (row_at all v) k d).end < length rows) × ((get_or (row_at all v) k d).number < length flow + length flow) in
          let all : k < length (row_at (grouped net.n (darts net)) v) → ((get_or (row_at (grouped net.n (darts net)) v) k d).end < length rows) × ((get_or (row_at (grouped net.n (darts net)) v) k d).number < length flow + length flow) = λ h.
          let entry : Incidence = get_or (row_at (grouped net.n (darts net)) v) k d in
          let is = grouped_only net.n (darts net) v entry (k, h, get_or_default (row_at (grouped net.n (darts net)) v) k entry d h) in
          let long = darts_long net in
          let below : entry.number < length (darts net) = is.below in
          let end = (dart_ends net entry.number valid (omega arith)).1 in
          let end_is = is.end_is in
          (omega arith, omega arith) in
          subst P (sym e) all;
    }

-- ---- the flow that is nowhere
zero_share : (net : Net) (flow : List ℤ) (v i : ℕ) → at flow i ≡ pos 0 → share net flow v i ≡ pos 0
zero_share net flow v i e =
    ap (λ (x : ℤ). when (eqb (source net i) v) x -ℤ when (eqb (target net i) v) x) e ∙ zero_ends (eqb (source net i) v) (eqb (target net i) v)
  where
    zero_ends : (a b : Bool) → (when a (pos 0) -ℤ when b (pos 0)) ≡ pos 0
    zero_ends true true = refl
    zero_ends true false = refl
    zero_ends false true = refl
    zero_ends false false = refl

pub zero_flow : (net : Net) (s t : ℕ) (cap flow : List ℤ) → length cap ≡ length net.arcs → AreLow cap → length flow ≡ length net.arcs → ((i : ℕ) → at flow i ≡ pos 0)
    → IsFlow net s t cap flow × (pos 0 ≡ outflow net flow s)
zero_flow net s t cap flow caps low long none = (
  record {
    long = long;
    bounds = λ arc h.
        let z = none arc in
        let l : pos 0 ≤ℤ at cap arc = low arc (pos 0) (omega arith) in
        (omega (arith, ints), omega (arith, ints));
    balance = λ v l ns nt. sum_zero (share net flow v) (length net.arcs) (λ i h. zero_share net flow v i (none i));
  },
  sym (sum_zero (share net flow s) (length net.arcs) (λ i h. zero_share net flow s i (none i))),
)

pub zeros : (n i : ℕ) → at (replicate n (pos 0)) i ≡ pos 0
zeros zero i = refl
zeros (suc n) zero = refl
zeros (suc n) (suc i) = zeros n i

-- ---- rounds end: how much the value can still rise
nat_of : ℤ → ℕ
nat_of (pos k) = k
nat_of (negsuc k) = 0

nat_less : (x y : ℤ) → x <ℤ y → pos 0 <ℤ y → nat_of x < nat_of y
unfolding nat_of
nat_less (pos j) (pos k) h some = omega (arith, ints)
nat_less (negsuc j) (pos k) h some = omega (arith, ints)
nat_less x (negsuc k) h some = absurd (omega (arith, ints))

pub left : Net → ℕ → List ℤ → List ℤ → ℕ
left net s cap flow = nat_of (sum_of cap -ℤ outflow net flow s)

pub sum_bounds : (net : Net) (s t : ℕ) (cap flow : List ℤ) → length cap ≡ length net.arcs → IsFlow net s t cap flow → outflow net flow s ≤ℤ sum_of cap
sum_bounds net s t cap flow caps f =
    let P : ℕ → Type 0 = λ m. outflow net flow s ≤ℤ sum_below (at cap) m in
    subst P (sym caps) (value_at_most net s t cap flow f)

pub left_falls : (net : Net) (s t : ℕ) (cap flow flow' : List ℤ) (x : ℤ) → length cap ≡ length net.arcs → IsFlow net s t cap flow' → pos 1 ≤ℤ x
    → outflow net flow' s ≡ (outflow net flow s +ℤ x) → left net s cap flow' < left net s cap flow
unfolding left
left_falls net s t cap flow flow' x caps f some e =
    let b = sum_bounds net s t cap flow' caps f in
    nat_less (sum_of cap -ℤ outflow net flow' s) (sum_of cap -ℤ outflow net flow s) (omega (arith, ints)) (omega (arith, ints))

-- ---- the end: no dart with room leaves the visited nodes
lead_dart : (net : Net) (rows : List (List Incidence)) (cap flow : List ℤ) (visited : List Bool) (d : ℕ) → IsValid net → rows ≡ grouped net.n (darts net)
    → ((v : ℕ) → is_visited visited v ≡ true → LeadToVisited cap flow visited (row_at rows v)) → d < length net.arcs + length net.arcs
    → is_visited visited (key (darts net) d) ≡ true → HasRoom cap flow d (pos 1) → is_visited visited (other (darts net) d) ≡ true
lead_dart net rows cap flow visited d valid e spread h here has =
    let long = darts_long net in
    let c = grouped_has net.n (darts net) d (dart_ends net d valid h).0 (omega arith) in
    let P : List (List Incidence) → Type 0 = λ all. LeadToVisited cap flow visited (row_at all (key (darts net) d)) in
    All-contains (LeadsOn cap flow visited) (row_at (grouped net.n (darts net)) (key (darts net) d)) (incidence (darts net) d) (subst P e (spread (key (darts net) d) here)) c has

lead_front : (net : Net) (rows : List (List Incidence)) (cap flow : List ℤ) (visited : List Bool) (arc : ℕ) → IsValid net → rows ≡ grouped net.n (darts net) → length flow ≡ length net.arcs
    → ((v : ℕ) → is_visited visited v ≡ true → LeadToVisited cap flow visited (row_at rows v)) → arc < length net.arcs
    → is_visited visited (source net arc) ≡ true → at flow arc <ℤ at cap arc → is_visited visited (target net arc) ≡ true
lead_front net rows cap flow visited arc valid e long spread h here less =
    let ends = front_ends net arc h in
    let P : Ends → Type 0 = λ p. is_visited visited p.0 ≡ true in
    let Q : Ends → Type 0 = λ p. is_visited visited p.1 ≡ true in
    subst Q ends (lead_dart net rows cap flow visited arc valid e spread (omega arith) (subst P (sym ends) here)
    (record { front = λ l. omega (arith, ints); back = λ l. absurd (omega arith) }))

lead_back : (net : Net) (rows : List (List Incidence)) (cap flow : List ℤ) (visited : List Bool) (arc : ℕ) → IsValid net → rows ≡ grouped net.n (darts net) → length flow ≡ length net.arcs
    → ((v : ℕ) → is_visited visited v ≡ true → LeadToVisited cap flow visited (row_at rows v)) → arc < length net.arcs
    → is_visited visited (target net arc) ≡ true → pos 0 <ℤ at flow arc → is_visited visited (source net arc) ≡ true
lead_back net rows cap flow visited arc valid e long spread h here less =
    let ends = back_ends net arc h in
    let P : Ends → Type 0 = λ p. is_visited visited p.0 ≡ true in
    let Q : Ends → Type 0 = λ p. is_visited visited p.1 ≡ true in
    let R : ℕ → Type 0 = λ i. pos 1 ≤ℤ at flow i in
    let q : arc ≡ (length net.arcs + arc) - length flow = omega arith in
    subst Q ends (lead_dart net rows cap flow visited (length net.arcs + arc) valid e spread (omega arith) (subst P (sym ends) here)
    (record { front = λ l. absurd (omega arith); back = λ l. subst R q (omega (arith, ints)) }))

pub stuck_of : (net : Net) (s t : ℕ) (rows : List (List Incidence)) (cap flow : List ℤ) (visited : List Bool) (queue : List Found) → IsValid net → rows ≡ grouped net.n (darts net)
    → IsFlow net s t cap flow → IsDone rows cap flow s visited queue → IsStuck net cap flow (is_visited visited)
stuck_of net s t rows cap flow visited queue valid e f d = record {
  full = λ arc h here there. by_lt_z (at flow arc) (at cap arc)
      (λ less. absurd (both_ways (is_visited visited (target net arc)) there (lead_front net rows cap flow visited arc valid e f.long d.spread h here less)))
      (λ more. let b = (f.bounds arc h).1 in omega (arith, ints));
  empty = λ arc h here there. by_lt_z (pos 0) (at flow arc)
      (λ less. absurd (both_ways (is_visited visited (source net arc)) there (lead_back net rows cap flow visited arc valid e f.long d.spread h here less)))
      (λ more. let b : pos 0 ≤ℤ at flow arc = (f.bounds arc h).0 in omega (arith, ints));
}

in_visited : (visited : List Bool) (n v : ℕ) → v < n → is_visited visited v ≡ true → is_in (filter (is_visited visited) (range_with_len 0 n)) v ≡ true
in_visited visited n v h t =
    let c = filter_has (is_visited visited) n v h t in
    let l : c.0 < length (filter (is_visited visited) (range_with_len 0 n)) = c.1 in
    has_in (filter (is_visited visited) (range_with_len 0 n)) c.0 v l (get_or_default (filter (is_visited visited) (range_with_len 0 n)) c.0 0 v l ∙ c.2)

visited_in : (visited : List Bool) (n v : ℕ) → is_in (filter (is_visited visited) (range_with_len 0 n)) v ≡ true → is_visited visited v ≡ true
visited_in visited n v t =
    let k = in_has (filter (is_visited visited) (range_with_len 0 n)) v t in
    let l : k.0 < length (filter (is_visited visited) (range_with_len 0 n)) = k.1 in
    filter_only (is_visited visited) n v (k.0, l, get_or_default (filter (is_visited visited) (range_with_len 0 n)) k.0 v 0 l ∙ k.2)

same_truth : (a b : Bool) → (a ≡ true → b ≡ true) → (b ≡ true → a ≡ true) → a ≡ b
same_truth true b f g = sym (f refl)
same_truth false true f g = g refl
same_truth false false f g = refl

isnt : (b : Bool) → (b ≡ true → ⊥) → b ≡ false
isnt true h = absurd (h refl)
isnt false h = refl

pub cut_is : (net : Net) (s t : ℕ) (rows : List (List Incidence)) (cap flow : List ℤ) (visited : List Bool) (queue : List Found) (cut : List ℕ) → IsValid net → s < net.n
    → rows ≡ grouped net.n (darts net) → IsFlow net s t cap flow → IsDone rows cap flow s visited queue
    → ((k : ℕ) → k < length queue → (found_at queue k).node ≡ t → ⊥) → cut ≡ nodes_visited visited → IsCutOf net s t cap cut (outflow net flow s)
cut_is net s t rows cap flow visited queue cut valid hs e f d missing ce =
    let p : ℕ → Bool = is_visited visited in
    let n : length visited ≡ net.n = d.is.long ∙ grouped_length net.n (darts net) rows e in
    let set_is : List ℕ = filter p (range_with_len 0 net.n) in
    let all : nodes_visited visited ≡ set_is = ap (λ (k : ℕ). filter p (range_with_len 0 k)) n in
    let P : List ℕ → Type 0 = λ xs. IsCutOf net s t cap xs (outflow net flow s) in
    let S : ℕ → Type 0 = λ v. p v ≡ true in
    let has : p s ≡ true = subst S d.is.root (d.is.nodes 0 d.is.some).1 in
    let lacks : p t ≡ false = isnt (p t) (λ y. let k = d.is.places t y in missing k.0 k.1 k.2) in
    let same : (v : ℕ) → v < net.n → is_in set_is v ≡ p v = λ v h. same_truth (is_in set_is v) (p v) (visited_in visited net.n v) (in_visited visited net.n v h) in
    let sums : capacity net cap (is_in set_is) ≡ capacity net cap p =
    sum_same (λ arc. when (leaves net (is_in set_is) arc) (at cap arc)) (λ arc. when (leaves net p arc) (at cap arc)) (length net.arcs)
    (λ arc h. ap (λ (b : Bool). when (b && not (is_in set_is (target net arc))) (at cap arc)) (same (source net arc) (valid.ends arc (0, 0) h).0)
    ∙ ap (λ (b : Bool). when (p (source net arc) && not b) (at cap arc)) (same (target net arc) (valid.ends arc (0, 0) h).1)) in
    subst P (sym (ce ∙ all)) (record {
      is = record {
        nodes = record { order = filter_rises p net.n; among = filter_below p net.n };
        has = in_visited visited net.n s hs has;
        lacks = isnt (is_in set_is t) (λ y. both_ways (p t) lacks (visited_in visited net.n t y));
      };
      capacity_is = sums ∙ stuck_is_tight net s t cap flow p valid hs f has lacks (stuck_of net s t rows cap flow visited queue valid e f d);
    })
