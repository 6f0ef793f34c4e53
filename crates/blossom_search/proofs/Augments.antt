-- The steps of an augmentation.
use Rattle.std.proofs.Common.{◌≡◌, ℕ, zero, suc, ◌+◌, ◌-◌, ◌/◌, ◌<◌, ◌≤◌, cond, eqb, Bool, List, [], ◌∷◌, ◌++◌, length, get_or, take, drop, set, refl, sym, ◌∙◌, ap, subst, length-append, arith}
use Rattle.std.proofs.lemmas.Bool.{ne_eqb}
use Rattle.std.proofs.lemmas.List.{drop_more, take_all}
use Rattle.graph_defs.specs.declared.net.Net.{Net}
use Rattle.graph_defs.specs.Count.{times}
use Rattle.graph_defs.specs.Matching.{IsMatching}
use Rattle.graph_defs.proofs.Counts.{times_more}
use Rattle.match_core.specs.Path.{IsAugmenting, IsOddPath}
use Rattle.blossom_lift.proofs.Paths.{odd_lengths}
use Rattle.blossom_search.specs.Closed.{IsLarger}
use Rattle.blossom_search.proofs.Swaps.{IsShifted, shifted, last_matching}

pub none_more : (x : ℕ) (xs : List ℕ) (k : ℕ) → k < length xs → (get_or xs k 0 ≡ x → ⊥) → times x (take k xs) ≡ 0 → times x (take (k + 1) xs) ≡ 0
none_more x xs k l ne z =
    let t = times_more x xs k l in
    let c : cond {A = ℕ} (eqb x (get_or xs k 0)) 1 0 ≡ 0 = ap (λ (b : Bool). cond {A = ℕ} b 1 0) (ne_eqb x (get_or xs k 0) (λ e. ne (sym e))) in
    omega arith

pub none_all : (x : ℕ) (xs : List ℕ) (k : ℕ) → length xs ≤ k → times x (take k xs) ≡ 0 → 1 ≤ times x xs → ⊥
none_all x xs k l z h = (let e = ap (times x) (take_all k xs l) in absurd (omega arith))

drop_two : (xs : List ℕ) (k : ℕ) → k + 1 < length xs → drop k xs ≡ get_or xs k 0 ∷ get_or xs (k + 1) 0 ∷ drop (k + 2) xs
drop_two xs k l =
    let n : k + 1 + 1 ≡ k + 2 = omega arith in
    drop_more xs k 0 (omega arith) ∙ ap (λ (ys : List ℕ). get_or xs k 0 ∷ ys) (drop_more xs (k + 1) 0 l ∙ ap (λ (j : ℕ). get_or xs (k + 1) 0 ∷ drop j xs) n)

head_has : (net : Net) (edges : List ℕ) (out back : ℕ) (path : List ℕ) (from : ℕ) (nodes : List ℕ) (to : ℕ) → IsOddPath net edges from (out ∷ back ∷ path) nodes to → 1 ≤ times back edges
head_has net edges out back path from [] to p = absurd p
head_has net edges out back path from (d ∷ []) to p = absurd p
head_has net edges out back path from (d ∷ g ∷ vs) to p = p.2

pub next_has : (net : Net) (before edges path : List ℕ) (half : ℕ) → IsShifted net before (drop (half + half) path) edges → half < length path / 2 → 1 ≤ times (get_or path (half + half + 1) 0) edges
next_has net before edges path half s l =
    let a = subst (λ (es : List ℕ). IsAugmenting net edges es) (drop_two path (half + half) (omega arith)) s.rest in
    head_has net edges (get_or path (half + half) 0) (get_or path (half + half + 1) 0) (drop (half + half + 2) path) a.from a.nodes a.to a.odd

pub shifted_more : (net : Net) (before edges path : List ℕ) (half place : ℕ) (after : List ℕ) → IsShifted net before (drop (half + half) path) edges → half < length path / 2 → place < length edges
    → get_or edges place 0 ≡ get_or path (half + half + 1) 0 → after ≡ set edges place (get_or path (half + half) 0) → IsShifted net before (drop (half + 1 + (half + 1)) path) after
shifted_more net before edges path half place after s l w e n =
    let a = subst (λ (es : List ℕ). IsAugmenting net edges es) (drop_two path (half + half) (omega arith)) s.rest in
    let r = shifted net edges (get_or path (half + half) 0) (get_or path (half + half + 1) 0) place (drop (half + half + 2) path) s.matching a w e in
    let k : half + half + 2 ≡ half + 1 + (half + 1) = omega arith in
    subst (λ (j : ℕ). IsShifted net before (drop j path) after) k
    (subst (λ (es : List ℕ). IsShifted net before (drop (half + half + 2) path) es) (sym n)
    (record { matching = r.matching; long = r.long ∙ s.long; rest = r.rest }))

drop_past : (xs : List ℕ) (k : ℕ) → length xs ≤ k → drop k xs ≡ []
drop_past [] zero l = refl
drop_past [] (suc k) l = refl
drop_past (x ∷ xs) zero l = absurd (omega arith)
drop_past (x ∷ xs) (suc k) l = drop_past xs k (omega arith)

pub path_some : (net : Net) (edges path : List ℕ) → IsAugmenting net edges path → (h : ℕ) × (length path ≡ h + h + 1)
path_some net edges path a = (let n = odd_lengths net edges path a.from a.nodes a.to a.odd in (n.0, n.2))

pub larger_by : (net : Net) (before edges path : List ℕ) (half : ℕ) (larger : List ℕ) → IsAugmenting net before path → IsShifted net before (drop (half + half) path) edges → length path / 2 ≡ half
    → larger ≡ edges ++ get_or path (length path - 1) 0 ∷ [] → IsLarger net before larger
larger_by net before edges path half larger a s l e =
    let n = path_some net before path a in
    let n1 : length path ≡ n.0 + n.0 + 1 = n.1 in
    let k : half + half + 1 ≡ length path = omega arith in
    let j : length path - 1 ≡ half + half = omega arith in
    let d : drop (half + half) path ≡ get_or path (half + half) 0 ∷ [] =
    drop_more path (half + half) 0 (omega arith) ∙ ap (λ (ys : List ℕ). get_or path (half + half) 0 ∷ ys) (drop_past path (half + half + 1) (omega arith)) in
    let r = last_matching net edges (get_or path (half + half) 0) s.matching (subst (λ (es : List ℕ). IsAugmenting net edges es) d s.rest) in
    let w : larger ≡ edges ++ get_or path (half + half) 0 ∷ [] = e ∙ ap (λ (i : ℕ). edges ++ get_or path i 0 ∷ []) j in
    let len = length-append edges (get_or path (half + half) 0 ∷ []) in
    let lw : length larger ≡ length (edges ++ get_or path (half + half) 0 ∷ []) = ap length w in
    let sl = s.long in
    record { matching = subst (IsMatching net) (sym w) r; longer = omega arith }
