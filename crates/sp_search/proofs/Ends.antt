-- The end of a search for shortest paths: what is settled is a right answer.
use Rattle.std.proofs.Common.{◌≡◌, ◌⊎◌, inl, inr, ℕ, zero, suc, ◌+◌, ◌<◌, ◌≤◌, ℤ, pos, ◌+ℤ◌, ◌≤ℤ◌, Bool, true, false, not, cond, List, [], ◌∷◌, length, get_or, refl, sym, ◌∙◌, ap, subst, All, arith}
use Rattle.std.specs.Prelude.{Option, None, IsSome, IfSome}
use Rattle.std.specs.List.{filter, range_with_len}
use Rattle.std.proofs.lemmas.Bool.{cases_eq}
use Rattle.std.proofs.lemmas.List.{get_or-map, get_or_default, length-map}
use Rattle.graph_defs.specs.declared.net.Net.{Net}
use Rattle.graph_defs.specs.declared.shortest.SpAnswer.{SpAnswer}
use Rattle.graph_defs.specs.declared.shortest.Finite.{Finite}
use Rattle.graph_defs.specs.declared.shortest.Low.{Low}
use Rattle.graph_defs.specs.declared.shortest.Seed.{Seed}
use Rattle.graph_defs.specs.Count.{times}
use Rattle.graph_defs.specs.Net.{target}
use Rattle.graph_defs.specs.Sum.{at}
use Rattle.graph_defs.specs.Shortest.{IsFinite, IsFiniteInRange, IsFirstFinite, IsOnce, IsTight, StaysWithin, IsSpAnswer}
use Rattle.graph_defs.proofs.Counts.{times_append, times_same, times_other, times_has, has_times}
use Rattle.graph_defs.proofs.Listed.{same_finite, finite_not_unreached}
use Rattle.graph_defs.proofs.Numbers.{filter_below, filter_rises, filter_more_yes, filter_more_no}
use Rattle.sp_search.specs.declared.labels.Label.{Label}
use Rattle.sp_search.specs.Labels.{label_at, is_taken, is_free, free_nodes}
use Rattle.sp_search.specs.Settling.{settled_at, nodes_of, IsCovered, IsCosted, IsSettled}
use Rattle.sp_search.proofs.LabelSteps.{taken_below}

-- ---- how often a number stands in a filter of the numbers below n
pub either_way : (b : Bool) → (b ≡ true) ⊎ (b ≡ false)
either_way true = inl refl
either_way false = inr refl

none_cases : (p : ℕ → Bool) (v k : ℕ) → k ≤ v → (1 ≤ times v (filter p (range_with_len 0 k))) ⊎ (times v (filter p (range_with_len 0 k)) < 1)
    → times v (filter p (range_with_len 0 k)) ≡ 0
none_cases p v k h (inl l) =
    let c = times_has v (filter p (range_with_len 0 k)) l in
    let b : get_or (filter p (range_with_len 0 k)) c.0 0 < k = filter_below p k c.0 0 c.1 in
    let e : get_or (filter p (range_with_len 0 k)) c.0 0 ≡ v = c.2 in
    absurd (omega arith)
none_cases p v k h (inr l) = omega arith

or_less : (x : ℕ) → (1 ≤ x) ⊎ (x < 1)
or_less zero = inr (omega arith)
or_less (suc x) = inl (omega arith)

times_none : (p : ℕ → Bool) (v k : ℕ) → k ≤ v → times v (filter p (range_with_len 0 k)) ≡ 0
times_none p v k h = none_cases p v k h (or_less (times v (filter p (range_with_len 0 k))))

less : (v k : ℕ) → v < k + 1 → (v ≡ k → ⊥) → v < k
less v k l ne = omega (arith, ne)

one_more : (p : ℕ → Bool) (v k : ℕ) → (p k ≡ true) ⊎ (p k ≡ false) → (v ≡ k) ⊎ (v ≡ k → ⊥) → v < k + 1
    → (v < k → times v (filter p (range_with_len 0 k)) ≡ cond (p v) 1 0) → times v (filter p (range_with_len 0 (k + 1))) ≡ cond (p v) 1 0
one_more p v k (inl t) (inl e) l before =
    let a = ap (times v) (filter_more_yes p k t) ∙ times_append v (filter p (range_with_len 0 k)) (k ∷ []) in
    let n = times_none p v k (omega arith) in
    let o = times_same v k [] e in
    let c : cond {A = ℕ} (p v) 1 0 ≡ 1 = ap (λ (u : ℕ). cond {A = ℕ} (p u) 1 0) e ∙ ap (λ (b : Bool). cond {A = ℕ} b 1 0) t in
    omega arith
one_more p v k (inl t) (inr ne) l before =
    let a = ap (times v) (filter_more_yes p k t) ∙ times_append v (filter p (range_with_len 0 k)) (k ∷ []) in
    let o = times_other v k [] ne in
    let b = before (less v k l ne) in
    omega arith
one_more p v k (inr t) (inl e) l before =
    let a = ap (times v) (filter_more_no p k t) in
    let n = times_none p v k (omega arith) in
    let c : cond {A = ℕ} (p v) 1 0 ≡ 0 = ap (λ (u : ℕ). cond {A = ℕ} (p u) 1 0) e ∙ ap (λ (b : Bool). cond {A = ℕ} b 1 0) t in
    omega arith
one_more p v k (inr t) (inr ne) l before = ap (times v) (filter_more_no p k t) ∙ before (less v k l ne)

pub times_filter : (p : ℕ → Bool) (v k : ℕ) → v < k → times v (filter p (range_with_len 0 k)) ≡ cond (p v) 1 0
times_filter p v zero h = absurd (omega arith)
times_filter p v (suc k) h =
    let e : k + 1 ≡ suc k = omega arith in
    let P : ℕ → Type 0 = λ j. times v (filter p (range_with_len 0 j)) ≡ cond (p v) 1 0 in
    subst P e (one_more p v k (either_way (p k)) (cases_eq v k) (omega arith) (λ l. times_filter p v k l))

-- ---- the answer
abbrev pub answer_of : List Finite → List ℕ → SpAnswer
answer_of settled unreached = record { finite = settled; seeds = []; low = []; unreached = unreached }

one_of_two : (b : Bool) → cond {A = ℕ} b 1 0 + cond {A = ℕ} (not b) 1 0 ≡ 1
one_of_two true = refl
one_of_two false = refl

if_one : (b : Bool) → 1 ≤ cond {A = ℕ} b 1 0 → b ≡ true
if_one true h = refl
if_one false h = absurd (omega arith)

module _ (net : Net) (s : ℕ) (cost : List ℤ) (q : IsCosted net cost) (f : List Finite) (labels : List Label) (preds : List ℕ) (h : IsSettled net s cost f labels preds) where
  once_at : (v : ℕ) → v < net.n → IsOnce (answer_of f (filter (λ u. is_free (label_at labels u)) (range_with_len 0 net.n))) v
  once_at v l =
      let a = times_append v (nodes_of f) (filter (λ u. is_free (label_at labels u)) (range_with_len 0 net.n)) in
      let o = h.is.once v in
      let t = times_filter (λ u. is_free (label_at labels u)) v net.n l in
      let e = one_of_two (is_taken (label_at labels v)) in
      omega arith

  taken_at : (k : ℕ) → k < length f → is_taken (label_at labels (settled_at f k).node) ≡ true
  taken_at k l =
      let p = has_times (settled_at f k).node (nodes_of f) k (omega (arith, length-map f (λ (y : Finite). y.node))) (get_or-map (λ (y : Finite). y.node) f k (record { node = 0; dist = pos 0; pred = None }) 0 l) in
      let o = h.is.once (settled_at f k).node in
      if_one (is_taken (label_at labels (settled_at f k).node)) (omega arith)

  range_cases : (k : ℕ) → (k ≡ 0) ⊎ (k ≡ 0 → ⊥) → k < length f → IfSome (settled_at f k).pred (λ arc. arc < length net.arcs)
  range_cases k (inl e) l =
      let P : Option ℕ → Type 0 = λ o. IfSome o (λ arc. arc < length net.arcs) in
      let Q : ℕ → Type 0 = λ i. IfSome (settled_at f i).pred (λ arc. arc < length net.arcs) in
      subst Q (sym e) (subst P (sym h.is.first.pred) tt)
  range_cases k (inr ne) l =
      let P : Option ℕ → Type 0 = λ o. IfSome o (λ arc. arc < length net.arcs) in
      let t = h.is.tight k (omega (arith, ne)) l in
      subst P (sym t.2) t.3.known

  range_at : (k : ℕ) → k < length f → IsFiniteInRange net (settled_at f k)
  range_at k l = record {
    node = (let b = taken_below labels (settled_at f k).node (taken_at k l) in omega (arith, h.is.long));
    pred = range_cases k (cases_eq k 0) l;
  }

  range_all : All (IsFiniteInRange net) f
  range_all k d l =
      let P : Finite → Type 0 = λ y. IsFiniteInRange net y in
      subst P (get_or_default f k (record { node = 0; dist = pos 0; pred = None }) d l) (range_at k l)

  tight_at : (v : ℕ) → IsTight net cost (answer_of f (filter (λ u. is_free (label_at labels u)) (range_with_len 0 net.n))) v
  tight_at v k some l e =
      let t = h.is.tight k some l in
      let by = t.3 in
      (t.0, t.1, record { pred = t.2; to = by.to; from = by.from; before = by.before; dist = by.dist_is })

  first_at : IsFirstFinite s (answer_of f (filter (λ u. is_free (label_at labels u)) (range_with_len 0 net.n)))
  first_at = record {
    some = h.is.first.some;
    node = h.is.first.node;
    dist = h.is.first.dist;
    pred = h.is.first.pred;
    alone = λ k some l.
        (let P : Option ℕ → Type 0 = λ o. IsSome o in
        subst P (sym (h.is.tight k some l).2) refl);
  }

  shorter_cases : (arc j k : ℕ) → arc < length net.arcs → k < length f → target net arc ≡ (settled_at f k).node
      → IsCovered f labels (target net arc) ((settled_at f j).dist +ℤ at cost arc) → (settled_at f k).dist ≤ℤ ((settled_at f j).dist +ℤ at cost arc)
  shorter_cases arc j k la lk e (inl c) =
      let once = once_at (target net arc) (q.valid.ends arc (0, 0) la).1 in
      let same : c.0 ≡ k = same_finite (answer_of f (filter (λ u. is_free (label_at labels u)) (range_with_len 0 net.n))) (target net arc) c.0 k once c.1 lk c.2 (sym e) in
      let P : ℕ → Type 0 = λ i. (settled_at f i).dist ≤ℤ ((settled_at f j).dist +ℤ at cost arc) in
      subst P same c.3
  shorter_cases arc j k la lk e (inr c) = absurd (h.none (target net arc) c.0 c.1)

  finite_cases : (w : ℕ) (z : ℤ) → IsCovered f labels w z → IsFinite (answer_of f (filter (λ u. is_free (label_at labels u)) (range_with_len 0 net.n))) w
  finite_cases w z (inl c) = (c.0, c.1, c.2)
  finite_cases w z (inr c) = absurd (h.none w c.0 c.1)

  leaves_at : (arc : ℕ) → arc < length net.arcs → StaysWithin net (answer_of f (filter (λ u. is_free (label_at labels u)) (range_with_len 0 net.n))) arc
  leaves_at arc la = record {
    finite = λ a b.
        (let once = once_at (target net arc) (q.valid.ends arc (0, 0) la).1 in
        let l : a.0 < length f = a.1 in
        finite_not_unreached (answer_of f (filter (λ u. is_free (label_at labels u)) (range_with_len 0 net.n))) (target net arc) once
        (finite_cases (target net arc) ((settled_at f a.0).dist +ℤ at cost arc) (h.spread a.0 arc l la (sym a.2))) b);
    low = λ a b. (let l : a.0 < 0 = a.1 in absurd (omega arith));
    back = λ a b. (let l : a.0 < 0 = a.1 in absurd (omega arith));
  }

  right_at : IsSpAnswer net s cost (answer_of f (filter (λ u. is_free (label_at labels u)) (range_with_len 0 net.n)))
  right_at = record {
    is = record {
      range = record {
        finite = range_all;
        seeds = λ k d l. absurd (omega arith);
        low = λ k d l. absurd (omega arith);
        unreached = filter_below (λ u. is_free (label_at labels u)) net.n;
        count = omega arith;
      };
      once = once_at;
      source = inl first_at;
      tight = λ v l. tight_at v;
      seeds = λ i l. absurd (omega arith);
      low = λ v l k m. absurd (omega arith);
      shorter = λ arc la j k lj lk es et. shorter_cases arc j k la lk et (h.spread j arc lj la es);
      leaves = leaves_at;
    };
    order = filter_rises (λ u. is_free (label_at labels u)) net.n;
  }

  pub answer_is : (finite : List Finite) (seeds : List Seed) (low : List Low) (unreached : List ℕ) → finite ≡ f → seeds ≡ [] → low ≡ [] → unreached ≡ free_nodes labels
      → IsSpAnswer net s cost (record { finite = finite; seeds = seeds; low = low; unreached = unreached })
      × IsFirstFinite s (record { finite = finite; seeds = seeds; low = low; unreached = unreached })
  answer_is finite seeds low unreached ef es el eu =
      let n : free_nodes labels ≡ filter (λ u. is_free (label_at labels u)) (range_with_len 0 net.n) = ap (λ (k : ℕ). filter (λ u. is_free (label_at labels u)) (range_with_len 0 k)) h.is.long in
      let P : List Finite → Type 0 = λ x. IsSpAnswer net s cost (record { finite = x; seeds = seeds; low = low; unreached = unreached }) × IsFirstFinite s (record { finite = x; seeds = seeds; low = low; unreached = unreached }) in
      let Q : List Seed → Type 0 = λ x. IsSpAnswer net s cost (record { finite = f; seeds = x; low = low; unreached = unreached }) × IsFirstFinite s (record { finite = f; seeds = x; low = low; unreached = unreached }) in
      let R : List Low → Type 0 = λ x. IsSpAnswer net s cost (record { finite = f; seeds = []; low = x; unreached = unreached }) × IsFirstFinite s (record { finite = f; seeds = []; low = x; unreached = unreached }) in
      let S : List ℕ → Type 0 = λ x. IsSpAnswer net s cost (record { finite = f; seeds = []; low = []; unreached = x }) × IsFirstFinite s (record { finite = f; seeds = []; low = []; unreached = x }) in
      subst P (sym ef) (subst Q (sym es) (subst R (sym el) (subst S (sym (eu ∙ n)) (right_at, first_at))))
