-- Where a matching and a cover have one size, the end of a stem isn't labelled 1.
use Rattle.std.proofs.Common.{◌≡◌, ◌≢◌, inl, inr, ℕ, ◌+◌, ◌/◌, ◌<◌, ◌≤◌, Bool, true, cond, eqb, List, [], ◌∷◌, length, get_or, set, refl, sym, ◌∙◌, ap, subst, All, length-set, get_or-set_other, arith}
use Rattle.std.proofs.lemmas.Bool.{ne_eqb}
use Rattle.graph_defs.specs.declared.net.Net.{Net}
use Rattle.graph_defs.specs.Count.{times}
use Rattle.graph_defs.specs.Net.{IsValid, source, target}
use Rattle.graph_defs.specs.Matching.{is_end, IsMatching, IsOddSetCover, greatest, cover_size}
use Rattle.graph_defs.proofs.Counts.{times_has, times_same}
use Rattle.graph_defs.proofs.Sums.{total_same}
use Rattle.graph_defs.proofs.Covers.{IsHeld, bound_held, held_by}
use Rattle.match_core.specs.Path.{IsFree, Joins, IsEvenPath, IsSimple, IsStem}
use Rattle.blossom_lift.proofs.Degrees.{All_at, All_from, source_end, target_end, degree_has}
use Rattle.blossom_search.proofs.Swaps.{times_set, swapped, moved_free, even_kept}

-- ---- a free node isn't labelled 1
held_kept : (net : Net) (labels : List ℕ) (n w arc : ℕ) → (source net arc ≡ w → ⊥) → (target net arc ≡ w → ⊥) → IsHeld net labels n arc → IsHeld net (set labels w 0) n arc
held_kept net labels n w arc ns nt h =
    let s : get_or (set labels w 0) (source net arc) 0 ≡ get_or labels (source net arc) 0 = get_or-set_other labels w (source net arc) 0 0 ns in
    let t : get_or (set labels w 0) (target net arc) 0 ≡ get_or labels (target net arc) 0 = get_or-set_other labels w (target net arc) 0 0 nt in
    elim h [
      | inl e ↦ inl (s ∙ e)
      | inr r ↦ elim r [
        | inl e ↦ inr (inl (t ∙ e))
        | inr p ↦ inr (inr (record { label = p.label; later = p.later; small = p.small; first = s ∙ p.first; second = t ∙ p.second }))
      ]
    ]

pub free_not_one : (net : Net) (edges labels : List ℕ) (w : ℕ) → IsValid net → IsMatching net edges → IsOddSetCover net labels → length edges ≡ cover_size labels → IsFree net edges w → w < net.n
    → get_or labels w 0 ≡ 1 → ⊥
free_not_one net edges labels w valid m c size f l one =
    let after : List ℕ = set labels w 0 in
    let n : ℕ = greatest labels in
    let long = c.long in
    let free : (e : ℕ) → 1 ≤ times e edges → is_end net w e ≡ true → ⊥ = λ e t y. (let d = degree_has net w e edges t y in absurd (omega arith)) in
    let held : All (IsHeld net after n) edges = All_from (IsHeld net after n) edges (λ e t.
    held_kept net labels n w e (λ q. free e t (source_end net w e q)) (λ q. free e t (target_end net w e q))
    (held_by net labels e (All_at (λ edge. source net edge ≢ target net edge) edges e m.loops t) (c.all e (0, 0) (All_at (λ edge. edge < length net.arcs) edges e m.among t)))) in
    let b = bound_held net edges after n valid m (length-set labels w 0 ∙ c.long) held in
    let o = times_set 1 labels w 0 (omega arith) in
    let o1 : cond {A = ℕ} (eqb 1 (get_or labels w 0)) 1 0 ≡ 1 = ap (λ (x : ℕ). cond {A = ℕ} (eqb 1 x) 1 0) one in
    let h = total_same (λ i. times (i + 2) after / 2) (λ i. times (i + 2) labels / 2) n (λ i _.
    let t = times_set (i + 2) labels w 0 (omega arith) in
    let t1 : cond {A = ℕ} (eqb (i + 2) (get_or labels w 0)) 1 0 ≡ 0 = ap (λ (x : Bool). cond {A = ℕ} x 1 0) (ne_eqb (i + 2) (get_or labels w 0) (λ q. absurd (omega arith))) in
    let t2 : cond {A = ℕ} (eqb (i + 2) 0) 1 0 ≡ 0 = ap (λ (x : Bool). cond {A = ℕ} x 1 0) (ne_eqb (i + 2) 0 (λ q. absurd (omega arith))) in
    let same : times (i + 2) after ≡ times (i + 2) labels = omega arith in
    ap (λ (x : ℕ). x / 2) same) in
    absurd (omega arith)

-- ---- the matching moved along a stem
pub rotated : (net : Net) (es : List ℕ) (edges : List ℕ) (a : ℕ) (vs : List ℕ) (w : ℕ) → IsMatching net edges → IsFree net edges a → IsEvenPath net edges a es vs w → IsSimple (a ∷ vs)
    → (after : List ℕ) × (IsMatching net after) × (length after ≡ length edges) × (IsFree net after w)
rotated net [] edges a [] w m f p s = (edges, m, refl, subst (IsFree net edges) p f)
rotated net [] edges a (d ∷ vs) w m f p s = absurd p
rotated net (e ∷ []) edges a vs w m f p s = absurd p
rotated net (e ∷ g ∷ es) edges a [] w m f p s = absurd p
rotated net (e ∷ g ∷ es) edges a (b ∷ []) w m f p s = absurd p
rotated net (e ∷ g ∷ es) edges a (b ∷ c ∷ vs) w m f p s =
    let k = times_has g edges p.2 in
    let j : Joins net (get_or edges k.0 0) b c = subst (λ (x : ℕ). Joins net x b c) (sym k.2) p.1 in
    let r = swapped net edges k.0 e a b c m f k.1 p.0 j in
    let z : times b vs ≡ 0 = (let h = s b in let t = times_same b b (c ∷ vs) refl in omega arith) in
    let q = even_kept net edges k.0 e b c k.1 j es c vs w z p.3 in
    let i = rotated net es (set edges k.0 e) c vs w r.matching (moved_free net edges (set edges k.0 e) a c m f r) q (λ v. let h = s v in omega arith) in
    (i.0, i.1, i.2 ∙ r.long, i.3)

pub central : (net : Net) (edges labels path : List ℕ) (a w : ℕ) (nodes : List ℕ) → IsValid net → IsMatching net edges → IsOddSetCover net labels → length edges ≡ cover_size labels
    → IsStem net edges path a w nodes → w < net.n → get_or labels w 0 ≡ 1 → ⊥
central net edges labels path a w nodes valid m c size s l one =
    let r = rotated net path edges a nodes w m s.free s.even s.simple in
    free_not_one net r.0 labels w valid r.1 c (r.2 ∙ size) r.3 l one
