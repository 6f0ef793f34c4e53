-- The passes over the edges of a matching: the least loop, and degrees.
use Rattle.std.proofs.Common.{◌≡◌, ◌≢◌, ◌⊎◌, inl, inr, ℕ, zero, suc, ◌+◌, ◌<◌, ◌≤◌, min, Bool, true, false, not, ◌||◌, cond, eqb, List, [], ◌∷◌, length, take, set, get_or, refl, sym, ◌∙◌, ap, subst, All, arith, length-set, get_or-set_same, get_or-set_other}
use Rattle.std.specs.Prelude.{Option, Some, None, is_some}
use Rattle.std.proofs.lemmas.Bool.{true≢false, cases_eq, cases_lt, eq-eqb, ne_eqb, eqb-true}
use Rattle.std.proofs.lemmas.List.{get_or_default}
use Rattle.graph_defs.specs.declared.net.Net.{Net}
use Rattle.graph_defs.specs.Count.{times}
use Rattle.graph_defs.specs.Matching.{is_end, degree, IsMatching}
use Rattle.graph_defs.specs.Net.{source, target}
use Rattle.graph_defs.specs.Verdict.{Finds}
use Rattle.graph_defs.proofs.Counts.{times_more, times_has, has_times}
use Rattle.match_core.specs.Passes.{IsLeastLoop, AreDegrees}

-- ---- what a search found
pub found_some : (P : ℕ → Type 0) (found : Option ℕ) → is_some found ≡ true → Finds P found → ((place : ℕ) → P place) → ⊥
found_some P None e h all = true≢false (sym e)
found_some P (Some place) e h all = h.broken (all place)

pub found_none : (P : ℕ → Type 0) (found : Option ℕ) → is_some found ≡ false → Finds P found → (place : ℕ) → P place
found_none P None e h = h
found_none P (Some place) e h = absurd (true≢false e)

pub none_found : (P : ℕ → Type 0) (found : Option ℕ) (none : Bool) → is_some found ≡ not none → Finds P found → ((place : ℕ) → P place) → none ≡ true
none_found P found true e h all = refl
none_found P found false e h all = absurd (found_some P found e h all)

-- ---- arcs listed, by arcs and by places
pub listed_below : (m arc : ℕ) (edges : List ℕ) → All (λ edge. edge < m) edges → 1 ≤ times arc edges → arc < m
listed_below m arc edges below some =
    let r = times_has arc edges some in
    let P : ℕ → Type 0 = λ e. e < m in
    subst P r.2 (below r.0 0 r.1)

pub loops_listed : (net : Net) (edges : List ℕ) → ((arc : ℕ) → 1 ≤ times arc edges → source net arc ≢ target net arc) → All (λ edge. source net edge ≢ target net edge) edges
loops_listed net edges h k d l =
    h (get_or edges k d) (has_times (get_or edges k d) edges k l (get_or_default edges k 0 d l))

pub loops_by_arc : (net : Net) (edges : List ℕ) → All (λ edge. source net edge ≢ target net edge) edges → (arc : ℕ) → 1 ≤ times arc edges → source net arc ≢ target net arc
loops_by_arc net edges h arc some =
    let r = times_has arc edges some in
    let P : ℕ → Type 0 = λ e. source net e ≢ target net e in
    subst P r.2 (h r.0 0 r.1)

-- ---- the least loop
stays_least : (net : Net) (edges : List ℕ) (k least : ℕ) → IsLeastLoop net (take k edges) least → k < length edges
    → (get_or edges k 0 < least → source net (get_or edges k 0) ≢ target net (get_or edges k 0))
    → IsLeastLoop net (take (k + 1) edges) least
stays_least net edges k least h l other =
    record {
      bound = h.bound;
      there = λ b. let t = h.there b in let m = times_more least edges k l in omega arith;
      loop = h.loop;
      before = λ arc below some. elim (cases_eq arc (get_or edges k 0)) [
        | inl e ↦ (let P : ℕ → Type 0 = λ a. a < least → source net a ≢ target net a in subst P (sym e) other below)
        | inr ne ↦ (let m = times_more arc edges k l in
            let z : cond {A = ℕ} (eqb arc (get_or edges k 0)) 1 0 ≡ 0 = ap (λ (b : Bool). cond {A = ℕ} b 1 0) (ne_eqb arc (get_or edges k 0) ne) in
            h.before arc below (omega arith))
      ];
    }

this_least : (net : Net) (edges : List ℕ) (k least : ℕ) → IsLeastLoop net (take k edges) least → k < length edges → get_or edges k 0 < least
    → source net (get_or edges k 0) ≡ target net (get_or edges k 0)
    → IsLeastLoop net (take (k + 1) edges) (get_or edges k 0)
this_least net edges k least h l lt same =
    let edge : ℕ = get_or edges k 0 in
    record {
      bound = (let b = h.bound in omega arith);
      there = λ b.
          let m = times_more edge edges k l in
          let o : cond {A = ℕ} (eqb edge edge) 1 0 ≡ 1 = ap (λ (b : Bool). cond {A = ℕ} b 1 0) (eq-eqb edge edge refl) in
          omega arith;
      loop = λ b. same;
      before = λ arc below some.
          let ne : arc ≡ edge → ⊥ = λ e. absurd (omega arith) in
          let m = times_more arc edges k l in
          let z : cond {A = ℕ} (eqb arc edge) 1 0 ≡ 0 = ap (λ (b : Bool). cond {A = ℕ} b 1 0) (ne_eqb arc edge ne) in
          h.before arc (omega arith) (omega arith);
    }

pub least_more : (net : Net) (edges : List ℕ) (k least next : ℕ) → IsLeastLoop net (take k edges) least → k < length edges
    → (source net (get_or edges k 0) ≡ target net (get_or edges k 0) → next ≡ min least (get_or edges k 0))
    → (source net (get_or edges k 0) ≢ target net (get_or edges k 0) → next ≡ least)
    → IsLeastLoop net (take (k + 1) edges) next
least_more net edges k least next h l loop other =
    let edge : ℕ = get_or edges k 0 in
    let P : ℕ → Type 0 = λ x. IsLeastLoop net (take (k + 1) edges) x in
    elim (cases_eq (source net edge) (target net edge)) [
      | inl same ↦ (let e = loop same in
          elim (cases_lt edge least) [
            | inl lt ↦ (let is : edge ≡ next = omega arith in subst P is (this_least net edges k least h l lt same))
            | inr ge ↦ (let is : least ≡ next = omega arith in subst P is (stays_least net edges k least h l (λ lt. absurd (omega arith))))
          ])
      | inr ne ↦ subst P (sym (other ne)) (stays_least net edges k least h l (λ lt. ne))
    ]

pub no_loops : (net : Net) (edges : List ℕ) (least : ℕ) → IsLeastLoop net edges least → All (λ edge. edge < length net.arcs) edges → length net.arcs ≤ least
    → (arc : ℕ) → 1 ≤ times arc edges → source net arc ≢ target net arc
no_loops net edges least h among le arc some =
    let b = listed_below (length net.arcs) arc edges among some in
    h.before arc (omega arith) some

-- ---- degrees
degree_later : (net : Net) (node e : ℕ) (edges : List ℕ) (k : ℕ)
    → degree net node (take (k + 1) edges) ≡ degree net node (take k edges) + cond {A = ℕ} (is_end net node (get_or edges k 0)) 1 0
    → degree net node (take (suc k + 1) (e ∷ edges)) ≡ degree net node (take (suc k) (e ∷ edges)) + cond {A = ℕ} (is_end net node (get_or edges k 0)) 1 0
degree_later net node e edges k h =
    let s : suc k + 1 ≡ suc (k + 1) = omega arith in
    let P : ℕ → Type 0 = λ j. degree net node (take j (e ∷ edges)) ≡ degree net node (take (suc k) (e ∷ edges)) + cond {A = ℕ} (is_end net node (get_or edges k 0)) 1 0 in
    subst P (sym s) (omega arith)

pub degree_more : (net : Net) (node : ℕ) (edges : List ℕ) (k : ℕ) → k < length edges
    → degree net node (take (k + 1) edges) ≡ degree net node (take k edges) + cond {A = ℕ} (is_end net node (get_or edges k 0)) 1 0
degree_more net node [] k l = absurd (omega arith)
degree_more net node (e ∷ edges) zero l = omega arith
degree_more net node (e ∷ edges) (suc k) l = degree_later net node e edges k (degree_more net node edges k (omega arith))

touched_cases : (degrees : List ℕ) (i v d : ℕ) → i < length degrees → get_or degrees v 0 ≡ min 2 d → (v ≡ i) ⊎ (v ≡ i → ⊥)
    → get_or (set degrees i (min 2 (get_or degrees i 0 + 1))) v 0 ≡ min 2 (d + cond {A = ℕ} (eqb i v) 1 0)
touched_cases degrees i v d l h (inl e) =
    let x : ℕ = min 2 (get_or degrees i 0 + 1) in
    let s : get_or (set degrees i x) v 0 ≡ x = ap (λ (u : ℕ). get_or (set degrees i x) u 0) e ∙ get_or-set_same degrees i x 0 l in
    let o : cond {A = ℕ} (eqb i v) 1 0 ≡ 1 = ap (λ (b : Bool). cond {A = ℕ} b 1 0) (eq-eqb i v (sym e)) in
    let r : get_or degrees i 0 ≡ min 2 d = ap (λ (u : ℕ). get_or degrees u 0) (sym e) ∙ h in
    omega arith
touched_cases degrees i v d l h (inr ne) =
    let x : ℕ = min 2 (get_or degrees i 0 + 1) in
    let s = get_or-set_other degrees i v x 0 ne in
    let z : cond {A = ℕ} (eqb i v) 1 0 ≡ 0 = ap (λ (b : Bool). cond {A = ℕ} b 1 0) (ne_eqb i v (λ (e : i ≡ v). ne (sym e))) in
    omega arith

touched : (degrees : List ℕ) (i v d : ℕ) → i < length degrees → get_or degrees v 0 ≡ min 2 d
    → get_or (set degrees i (min 2 (get_or degrees i 0 + 1))) v 0 ≡ min 2 (d + cond {A = ℕ} (eqb i v) 1 0)
touched degrees i v d l h = touched_cases degrees i v d l h (cases_eq v i)

either_bit : (a b : Bool) → (a ≡ true → b ≡ true → ⊥) → cond {A = ℕ} (a || b) 1 0 ≡ cond {A = ℕ} a 1 0 + cond {A = ℕ} b 1 0
either_bit true true h = absurd (h refl refl)
either_bit true false h = omega arith
either_bit false b h = omega arith

pub degrees_more : (net : Net) (edges : List ℕ) (k s t : ℕ) (degrees first second : List ℕ) → AreDegrees net edges k degrees → k < length edges
    → s ≡ source net (get_or edges k 0) → t ≡ target net (get_or edges k 0) → ((arc : ℕ) → 1 ≤ times arc edges → source net arc ≢ target net arc) → s < net.n → t < net.n
    → first ≡ set degrees s (min 2 (get_or degrees s 0 + 1)) → second ≡ set first t (min 2 (get_or first t 0 + 1))
    → AreDegrees net edges (k + 1) second
degrees_more net edges k s t degrees first second h l es et loops ls lt e1 e2 =
    let ne : s ≡ t → ⊥ = λ e. loops (get_or edges k 0) (has_times (get_or edges k 0) edges k l refl) (sym es ∙ e ∙ et) in
    let long1 : length first ≡ net.n = ap length e1 ∙ length-set degrees s (min 2 (get_or degrees s 0 + 1)) ∙ h.long in
    record {
      long = ap length e2 ∙ length-set first t (min 2 (get_or first t 0 + 1)) ∙ long1;
      each = λ v.
          let edge : ℕ = get_or edges k 0 in
          let d : ℕ = degree net v (take k edges) in
          let a : get_or first v 0 ≡ min 2 (d + cond {A = ℕ} (eqb s v) 1 0) =
          ap (λ (xs : List ℕ). get_or xs v 0) e1 ∙ touched degrees s v d (omega (arith, h.long)) (h.each v) in
          let b : get_or second v 0 ≡ min 2 ((d + cond {A = ℕ} (eqb s v) 1 0) + cond {A = ℕ} (eqb t v) 1 0) =
          ap (λ (xs : List ℕ). get_or xs v 0) e2 ∙ touched first t v (d + cond {A = ℕ} (eqb s v) 1 0) (omega arith) a in
          let m = degree_more net v edges k l in
          let o = either_bit (eqb s v) (eqb t v) (λ p q. ne (eqb-true s v p ∙ sym (eqb-true t v q))) in
          let f : cond {A = ℕ} (eqb s v || eqb t v) 1 0 ≡ cond {A = ℕ} (is_end net v edge) 1 0 =
          ap (λ (x : ℕ). cond {A = ℕ} (eqb x v || eqb t v) 1 0) es ∙ ap (λ (x : ℕ). cond {A = ℕ} (eqb (source net edge) v || eqb x v) 1 0) et in
          omega arith;
    }

-- ---- a matching by what the passes found
pub is_matching : (net : Net) (edges : List ℕ) → All (λ edge. edge < length net.arcs) edges
    → ((arc : ℕ) → 1 ≤ times arc edges → source net arc ≢ target net arc) → ((node : ℕ) → degree net node edges ≤ 1) → IsMatching net edges
is_matching net edges among loops apart = record { among = among; loops = loops_listed net edges loops; apart = apart }
