-- The steps of the passes: nodes listed and counted, places written, walks gone along, marks set.
use Rattle.std.proofs.Common.{◌≡◌, ◌≢◌, ◌↔◌, ◌⊎◌, inl, inr, ℕ, zero, suc, ◌+◌, ◌-◌, ◌*◌, ◌^◌, ◌<◌, ◌≤◌, min, ℤ, pos, ◌+ℤ◌, ◌-ℤ◌, ◌≤ℤ◌, ◌<ℤ◌, Bool, true, false, cond, eqb, List, [], ◌∷◌, ◌++◌, length, map, take, drop, set, get_or, replicate, refl, sym, ◌∙◌, ap, subst, All, arith, length-set, get_or-set_same, get_or-set_other}
use borrow.Author.Differences.{ints}
use Rattle.std.specs.Prelude.{Option, Some, None, IsSome}
use Rattle.std.proofs.lemmas.Bool.{true≢false, cases_eq, cases_lt, eq-eqb, ne_eqb}
use Rattle.std.proofs.lemmas.List.Elements.{All-append, All-map}
use Rattle.std.proofs.lemmas.List.{take_more, map-append, get_or_read, get_or_default, length-replicate}
use Rattle.graph_defs.specs.declared.net.Net.{Net}
use Rattle.graph_defs.specs.declared.shortest.SpAnswer.{SpAnswer}
use Rattle.graph_defs.specs.declared.shortest.Finite.{Finite}
use Rattle.graph_defs.specs.declared.shortest.Low.{Low}
use Rattle.graph_defs.specs.declared.shortest.Seed.{Seed}
use Rattle.graph_defs.specs.Count.{times}
use Rattle.graph_defs.specs.Net.{IsValid, source, target}
use Rattle.graph_defs.specs.Sum.{at}
use Rattle.graph_defs.specs.Walk.{IsWalk}
use Rattle.graph_defs.specs.Shortest.{weight, seed_at, AreBelow, IsFinite, IsInRange, IsSeed, IsSeedAt, listed}
use Rattle.graph_defs.proofs.Counts.{times_more, same_place}
use Rattle.graph_defs.proofs.Listed.{finite_nodes, low_nodes}
use Rattle.graph_defs.proofs.Weights.{arcs_push, arcs_take, arcs_end, weight_push}
use Rattle.sp_check.specs.Passes.{AreCounts, HavePlaces, Wants, on_cycle, AreMarked}

-- ---- sums in 128 bits
pub record IsTotal (cost : List ℤ) (walk : List ℕ) (k : ℕ) (total : ℤ) : Type 0 where
  pub is : total ≡ weight cost (take k walk)
  pub above : total ≤ℤ pos (k * 2 ^ 63)
  pub below : (pos 0 -ℤ pos (k * 2 ^ 63)) ≤ℤ total

pub total_more_at : (cost : List ℤ) (walk : List ℕ) (k : ℕ) (total x : ℤ) → k < length walk → IsTotal cost walk k total → x ≡ at cost (get_or walk k 0)
    → x ≤ℤ pos (2 ^ 63) → (pos 0 -ℤ pos (2 ^ 63)) ≤ℤ x → IsTotal cost walk (k + 1) (total +ℤ x)
total_more_at cost walk k total x l t e above below =
    let w = weight_push cost (take k walk) (get_or walk k 0) in
    let m : weight cost (take (k + 1) walk) ≡ weight cost (take k walk ++ get_or walk k 0 ∷ []) = ap (weight cost) (take_more walk k 0 l) in
    let is = t.is in
    let a = t.above in
    let b = t.below in
    record { is = omega (arith, ints); above = omega (arith, ints); below = omega (arith, ints) }

-- ---- walks
pub walk_more : (net : Net) (from here k : ℕ) (walk : List ℕ) (s t : ℕ) → k < length walk → AreBelow (length net.arcs) walk → IsWalk net from here (take k walk)
    → s ≡ source net (get_or walk k 0) → t ≡ target net (get_or walk k 0) → s ≡ here → IsWalk net from t (take (k + 1) walk)
walk_more net from here k walk s t l below goes es et e =
    let P : List ℕ → Type 0 = λ xs. IsWalk net from (target net (get_or walk k 0)) xs in
    let Q : ℕ → Type 0 = λ x. IsWalk net from x (take (k + 1) walk) in
    subst Q (sym et) (subst P (sym (take_more walk k 0 l)) (arcs_push net from here (get_or walk k 0) (take k walk) goes (below k 0 l) (sym es ∙ e)))

pub walk_broken : (net : Net) (from here w k : ℕ) (walk : List ℕ) (s : ℕ) → k < length walk → IsWalk net from here (take k walk) → IsWalk net from w walk
    → s ≡ source net (get_or walk k 0) → (s ≡ here → ⊥) → ⊥
walk_broken net from here w k walk s l goes whole es ne =
    ne (es ∙ arcs_end net from (source net (get_or walk k 0)) here (take k walk) (arcs_take net from w walk k whole l) goes)

-- ---- counts
min_more : (c m : ℕ) → m ≡ min 2 c → min 2 (m + 1) ≡ min 2 (c + 1)
min_more c m e = omega arith

min_same : (c m : ℕ) → m ≡ min 2 c → m ≡ min 2 (c + 0)
min_same c m e = omega arith

counts_cases : (n : ℕ) (nodes : List ℕ) (k v y : ℕ) (counts : List ℕ) → AreCounts n nodes k counts → k < length nodes → get_or nodes k 0 < n → v < n → y ≡ get_or counts (get_or nodes k 0) 0
    → (v ≡ get_or nodes k 0) ⊎ (v ≡ get_or nodes k 0 → ⊥)
    → get_or (set counts (get_or nodes k 0) (min 2 (y + 1))) v 0 ≡ min 2 (times v (take k nodes) + cond {A = ℕ} (eqb v (get_or nodes k 0)) 1 0)
counts_cases n nodes k v y counts h l b lv r (inl e) =
    let x : ℕ = get_or nodes k 0 in
    let lt : x < length counts = omega (arith, h.long) in
    let P : ℕ → Type 0 = λ u. get_or (set counts x (min 2 (y + 1))) u 0 ≡ min 2 (times u (take k nodes) + cond {A = ℕ} (eqb u x) 1 0) in
    let one : cond {A = ℕ} (eqb x x) 1 0 ≡ 1 = ap (λ (t : Bool). cond {A = ℕ} t 1 0) (eq-eqb x x refl) in
    let m = min_more (times x (take k nodes)) y (r ∙ h.each x b) in
    subst P (sym e) (get_or-set_same counts x (min 2 (y + 1)) 0 lt ∙ m ∙ ap (λ (z : ℕ). min 2 (times x (take k nodes) + z)) (sym one))
counts_cases n nodes k v y counts h l b lv r (inr ne) =
    let x : ℕ = get_or nodes k 0 in
    let none : cond {A = ℕ} (eqb v x) 1 0 ≡ 0 = ap (λ (t : Bool). cond {A = ℕ} t 1 0) (ne_eqb v x ne) in
    get_or-set_other counts x v (min 2 (y + 1)) 0 ne ∙ min_same (times v (take k nodes)) (get_or counts v 0) (h.each v lv)
    ∙ ap (λ (z : ℕ). min 2 (times v (take k nodes) + z)) (sym none)

pub counts_more : (n : ℕ) (nodes : List ℕ) (k y z : ℕ) (counts : List ℕ) → AreCounts n nodes k counts → k < length nodes → AreBelow n nodes
    → y ≡ get_or counts (get_or nodes k 0) y → z ≡ min 2 (y + 1) → AreCounts n nodes (k + 1) (set counts (get_or nodes k 0) z)
counts_more n nodes k y z counts h l below r e =
    let x : ℕ = get_or nodes k 0 in
    let b : x < n = below k 0 l in
    let lt : x < length counts = omega (arith, h.long) in
    let ry : y ≡ get_or counts x 0 = get_or_read counts x y lt r 0 in
    let P : ℕ → Type 0 = λ w. AreCounts n nodes (k + 1) (set counts x w) in
    subst P (sym e) (record {
      long = length-set counts x (min 2 (y + 1)) ∙ h.long;
      each = λ v lv. counts_cases n nodes k v y counts h l b lv ry (cases_eq v x) ∙ ap (min 2) (sym (times_more v nodes k l));
    })

-- ---- places
places_cases : (n : ℕ) (nodes : List ℕ) (k i : ℕ) (places : List ℕ) → HavePlaces n nodes k places → ((v : ℕ) → v < n → times v nodes ≡ 1) → k < length nodes → get_or nodes k 0 < n
    → i < k → (get_or nodes i 0 ≡ get_or nodes k 0) ⊎ (get_or nodes i 0 ≡ get_or nodes k 0 → ⊥) → get_or (set places (get_or nodes k 0) k) (get_or nodes i 0) 0 ≡ i
places_cases n nodes k i places h once l b li (inl e) =
    let o = once (get_or nodes k 0) b in
    let same = same_place (get_or nodes k 0) nodes i k (omega arith) (omega arith) l e refl in
    absurd (omega arith)
places_cases n nodes k i places h once l b li (inr ne) = get_or-set_other places (get_or nodes k 0) (get_or nodes i 0) k 0 ne ∙ h.stand i li

pub places_more : (n : ℕ) (nodes : List ℕ) (k : ℕ) (places : List ℕ) → HavePlaces n nodes k places → ((v : ℕ) → v < n → times v nodes ≡ 1) → AreBelow n nodes → k < length nodes
    → HavePlaces n nodes (k + 1) (set places (get_or nodes k 0) k)
places_more n nodes k places h once below l =
    let b : get_or nodes k 0 < n = below k 0 l in
    let lt : get_or nodes k 0 < length places = omega (arith, h.long) in
    record {
      long = length-set places (get_or nodes k 0) k ∙ h.long;
      stand = λ i li. elim (cases_lt i k) [
        | inl m ↦ places_cases n nodes k i places h once l b m (cases_eq (get_or nodes i 0) (get_or nodes k 0))
        | inr m ↦ (let e : k ≡ i = omega arith in
            let P : ℕ → Type 0 = λ j. get_or (set places (get_or nodes k 0) k) (get_or nodes j 0) 0 ≡ j in
            subst P e (get_or-set_same places (get_or nodes k 0) k 0 lt))
      ];
    }

-- ---- seeds
pub seed_by : (net : Net) (s : ℕ) (cost : List ℤ) (a : SpAnswer) (place : ℕ) (seed : Seed) (walk cycle : List ℕ) (v : ℕ) (b : Bool) → seed ≡ seed_at a place → walk ≡ seed.walk → cycle ≡ seed.cycle
    → (seed.start ≡ s) ⊎ IsFinite a seed.start → IsWalk net seed.start v walk → (b ≡ true) ↔ (IsWalk net v v cycle × (weight cost cycle <ℤ pos 0)) → (b ≡ true) ↔ IsSeed net s cost a place
seed_by net s cost a place seed walk cycle v b es ew ec start goes h =
    let P : Seed → Type 0 = λ x. (b ≡ true) ↔ ((u : ℕ) × IsSeedAt net s cost a x u) in
    let W : List ℕ → Type 0 = λ xs. IsWalk net seed.start v xs in
    let C : List ℕ → Type 0 = λ xs. (b ≡ true) ↔ (IsWalk net v v xs × (weight cost xs <ℤ pos 0)) in
    let on = subst W ew goes in
    let round = subst C ec h in
    subst P es (
      λ t. let r = round.0 t in (v, record { start = start; walk = on; cycle = r.0; negative = r.1 }),
      λ x.
          let e : x.0 ≡ v = arcs_end net seed.start x.0 v seed.walk x.1.walk on in
          let D : ℕ → Type 0 = λ u. IsWalk net u u seed.cycle in
          round.1 (subst D e x.1.cycle, x.1.negative),
    )

-- ---- the list of all nodes is in range
pub listed_below : (net : Net) (a : SpAnswer) → IsInRange net a → AreBelow net.n (listed a)
listed_below net a r =
    All-append (λ v. v < net.n) (finite_nodes a) (low_nodes a ++ a.unreached)
    (All-map (λ v. v < net.n) (λ (f : Finite). f.node) a.finite (λ k d l. (r.finite k d l).node))
    (All-append (λ v. v < net.n) (low_nodes a) a.unreached (All-map (λ v. v < net.n) (λ (w : Low). w.node) a.low (λ k d l. (r.low k d l).node)) r.unreached)
