-- The nodes of an answer on shortest paths by their places, and that each node is of one kind.
use Rattle.std.proofs.Common.{◌≡◌, ◌⊎◌, inl, inr, ℕ, ◌+◌, ◌-◌, ◌<◌, ◌≤◌, List, ◌++◌, length, map, get_or, sym, ◌∙◌, subst, arith, length-append}
use Rattle.std.specs.Prelude.{None, pos}
use Rattle.std.proofs.lemmas.Bool.{cases_lt}
use Rattle.std.proofs.lemmas.List.{length-map, get_or-map, get_or_append_left, get_or-append-add}
use Rattle.graph_defs.specs.declared.shortest.SpAnswer.{SpAnswer}
use Rattle.graph_defs.specs.declared.shortest.Finite.{Finite}
use Rattle.graph_defs.specs.declared.shortest.Low.{Low}
use Rattle.graph_defs.specs.declared.shortest.Why.TheVariants as why
use Rattle.graph_defs.specs.Shortest.{listed, finite_at, low_at, IsFinite, IsLow, IsToldUnreached, IsOnce}
use Rattle.graph_defs.proofs.Counts.{times_has, same_place}

abbrev pub finite_nodes : SpAnswer → List ℕ
finite_nodes a = map (λ (f : Finite). f.node) a.finite

abbrev pub low_nodes : SpAnswer → List ℕ
low_nodes a = map (λ (l : Low). l.node) a.low

pub length_listed : (a : SpAnswer) → length (listed a) ≡ length a.finite + (length a.low + length a.unreached)
length_listed a =
    let o = length-append (finite_nodes a) (low_nodes a ++ a.unreached) in
    let i = length-append (low_nodes a) a.unreached in
    let f = length-map a.finite (λ (f : Finite). f.node) in
    let l = length-map a.low (λ (l : Low). l.node) in
    omega arith

pub listed_finite : (a : SpAnswer) (k : ℕ) → k < length a.finite → get_or (listed a) k 0 ≡ (finite_at a k).node
listed_finite a k h =
    let f = length-map a.finite (λ (f : Finite). f.node) in
    get_or_append_left (finite_nodes a) (low_nodes a ++ a.unreached) 0 k (omega arith)
    ∙ get_or-map (λ (f : Finite). f.node) a.finite k (record { node = 0; dist = pos 0; pred = None }) 0 h

pub listed_low : (a : SpAnswer) (k : ℕ) → k < length a.low → get_or (listed a) (length a.finite + k) 0 ≡ (low_at a k).node
listed_low a k h =
    let l = length-map a.low (λ (l : Low). l.node) in
    let P : ℕ → Type 0 = λ n. get_or (listed a) (n + k) 0 ≡ (low_at a k).node in
    subst P (length-map a.finite (λ (f : Finite). f.node))
    (get_or-append-add (finite_nodes a) (low_nodes a ++ a.unreached) k 0
    ∙ get_or_append_left (low_nodes a) a.unreached 0 k (omega arith)
    ∙ get_or-map (λ (l : Low). l.node) a.low k (record { node = 0; why = why.Arc 0 }) 0 h)

pub listed_unreached : (a : SpAnswer) (k : ℕ) → get_or (listed a) (length a.finite + (length a.low + k)) 0 ≡ get_or a.unreached k 0
listed_unreached a k =
    let P : ℕ → Type 0 = λ n. get_or (listed a) (n + (length a.low + k)) 0 ≡ get_or a.unreached k 0 in
    let Q : ℕ → Type 0 = λ n. get_or (low_nodes a ++ a.unreached) (n + k) 0 ≡ get_or a.unreached k 0 in
    subst P (length-map a.finite (λ (f : Finite). f.node))
    (get_or-append-add (finite_nodes a) (low_nodes a ++ a.unreached) (length a.low + k) 0
    ∙ subst Q (length-map a.low (λ (l : Low). l.node)) (get_or-append-add (low_nodes a) a.unreached k 0))

-- what stands at a place of the list is finite, low or unreached
pub at_finite : (a : SpAnswer) (v p : ℕ) → p < length a.finite → get_or (listed a) p 0 ≡ v → (finite_at a p).node ≡ v
at_finite a v p h e = sym (listed_finite a p h) ∙ e

pub at_low : (a : SpAnswer) (v p : ℕ) → length a.finite ≤ p → p < length a.finite + length a.low → get_or (listed a) p 0 ≡ v → (low_at a (p - length a.finite)).node ≡ v
at_low a v p h l e =
    let q : length a.finite + (p - length a.finite) ≡ p = omega arith in
    let P : ℕ → Type 0 = λ n. get_or (listed a) n 0 ≡ (low_at a (p - length a.finite)).node in
    sym (subst P q (listed_low a (p - length a.finite) (omega arith))) ∙ e

pub at_unreached : (a : SpAnswer) (v p : ℕ) → length a.finite + length a.low ≤ p → get_or (listed a) p 0 ≡ v → get_or a.unreached (p - (length a.finite + length a.low)) 0 ≡ v
at_unreached a v p h e =
    let j : ℕ = p - (length a.finite + length a.low) in
    let q : length a.finite + (length a.low + j) ≡ p = omega arith in
    let P : ℕ → Type 0 = λ n. get_or (listed a) n 0 ≡ get_or a.unreached j 0 in
    sym (subst P q (listed_unreached a j)) ∙ e

kind_low : (a : SpAnswer) (v p : ℕ) → p < length (listed a) → get_or (listed a) p 0 ≡ v → length a.finite ≤ p
    → (p < length a.finite + length a.low) ⊎ (length a.finite + length a.low ≤ p) → IsLow a v ⊎ IsToldUnreached a v
kind_low a v p h e f (inl l) = inl (p - length a.finite, omega arith, at_low a v p f l e)
kind_low a v p h e f (inr l) = inr (p - (length a.finite + length a.low), omega (arith, length_listed a), at_unreached a v p l e)

kind_at : (a : SpAnswer) (v p : ℕ) → p < length (listed a) → get_or (listed a) p 0 ≡ v → (p < length a.finite) ⊎ (length a.finite ≤ p)
    → IsFinite a v ⊎ (IsLow a v ⊎ IsToldUnreached a v)
kind_at a v p h e (inl f) = inl (p, f, at_finite a v p f e)
kind_at a v p h e (inr f) = inr (kind_low a v p h e f (cases_lt p (length a.finite + length a.low)))

pub kinds : (a : SpAnswer) (v : ℕ) → IsOnce a v → IsFinite a v ⊎ (IsLow a v ⊎ IsToldUnreached a v)
kinds a v once =
    let p = times_has v (listed a) (omega arith) in
    kind_at a v p.0 p.1 p.2 (cases_lt p.0 (length a.finite))

-- the place of a node of each kind
finite_place : (a : SpAnswer) (v : ℕ) → IsFinite a v → (p : ℕ) × (p < length a.finite) × (p < length (listed a)) × (get_or (listed a) p 0 ≡ v)
finite_place a v f =
    let l : f.0 < length a.finite = f.1 in
    (f.0, l, omega (arith, length_listed a), listed_finite a f.0 l ∙ f.2)

low_place : (a : SpAnswer) (v : ℕ) → IsLow a v → (p : ℕ) × ((length a.finite ≤ p) × (p < length a.finite + length a.low)) × (p < length (listed a)) × (get_or (listed a) p 0 ≡ v)
low_place a v f =
    let l : f.0 < length a.low = f.1 in
    (length a.finite + f.0, (omega arith, omega arith), omega (arith, length_listed a), listed_low a f.0 l ∙ f.2)

unreached_place : (a : SpAnswer) (v : ℕ) → IsToldUnreached a v → (p : ℕ) × (length a.finite + length a.low ≤ p) × (p < length (listed a)) × (get_or (listed a) p 0 ≡ v)
unreached_place a v f =
    let l : f.0 < length a.unreached = f.1 in
    (length a.finite + (length a.low + f.0), omega arith, omega (arith, length_listed a), listed_unreached a f.0 ∙ f.2)

pub finite_not_low : (a : SpAnswer) (v : ℕ) → IsOnce a v → IsFinite a v → IsLow a v → ⊥
finite_not_low a v once f l =
    let p = finite_place a v f in
    let q = low_place a v l in
    let e : p.0 ≡ q.0 = same_place v (listed a) p.0 q.0 (omega arith) p.2 q.2 p.3 q.3 in
    let pl : p.0 < length a.finite = p.1 in
    let ql : length a.finite ≤ q.0 = q.1.0 in
    absurd (omega arith)

pub finite_not_unreached : (a : SpAnswer) (v : ℕ) → IsOnce a v → IsFinite a v → IsToldUnreached a v → ⊥
finite_not_unreached a v once f u =
    let p = finite_place a v f in
    let q = unreached_place a v u in
    let e : p.0 ≡ q.0 = same_place v (listed a) p.0 q.0 (omega arith) p.2 q.2 p.3 q.3 in
    let pl : p.0 < length a.finite = p.1 in
    let ql : length a.finite + length a.low ≤ q.0 = q.1 in
    absurd (omega arith)

pub low_not_unreached : (a : SpAnswer) (v : ℕ) → IsOnce a v → IsLow a v → IsToldUnreached a v → ⊥
low_not_unreached a v once l u =
    let p = low_place a v l in
    let q = unreached_place a v u in
    let e : p.0 ≡ q.0 = same_place v (listed a) p.0 q.0 (omega arith) p.2 q.2 p.3 q.3 in
    let pl : p.0 < length a.finite + length a.low = p.1.1 in
    let ql : length a.finite + length a.low ≤ q.0 = q.1 in
    absurd (omega arith)

pub same_finite : (a : SpAnswer) (v j k : ℕ) → IsOnce a v → j < length a.finite → k < length a.finite → (finite_at a j).node ≡ v → (finite_at a k).node ≡ v → j ≡ k
same_finite a v j k once lj lk ej ek =
    same_place v (listed a) j k (omega arith) (omega (arith, length_listed a)) (omega (arith, length_listed a)) (listed_finite a j lj ∙ ej) (listed_finite a k lk ∙ ek)

pub same_low : (a : SpAnswer) (v j k : ℕ) → IsOnce a v → j < length a.low → k < length a.low → (low_at a j).node ≡ v → (low_at a k).node ≡ v → j ≡ k
same_low a v j k once lj lk ej ek =
    let e : length a.finite + j ≡ length a.finite + k =
    same_place v (listed a) (length a.finite + j) (length a.finite + k) (omega arith) (omega (arith, length_listed a)) (omega (arith, length_listed a)) (listed_low a j lj ∙ ej) (listed_low a k lk ∙ ek) in
    omega arith
