-- How much smaller a contracted net and its matching are, and how large a matching can be.
use Rattle.std.proofs.Common.{◌≡◌, inl, inr, ℕ, zero, suc, ◌+◌, ◌-◌, ◌/◌, ◌*◌, ◌<◌, ◌≤◌, Bool, true, false, not, ◌||◌, cond, eqb, List, [], ◌∷◌, length, get_or, replicate, refl, sym, ◌∙◌, ap, subst, arith}
use Rattle.std.specs.List.{filter}
use Rattle.std.proofs.lemmas.Bool.{cases_eq}
use Rattle.std.proofs.lemmas.List.{get_or-replicate, length-replicate}
use Rattle.graph_defs.specs.declared.net.Net.{Net}
use Rattle.graph_defs.specs.Count.{times}
use Rattle.graph_defs.specs.Net.{Ends, IsValid, source, target}
use Rattle.graph_defs.specs.Matching.{degree, IsMatching, IsOddSetCover, greatest}
use Rattle.graph_defs.proofs.Counts.{times_same, times_other}
use Rattle.graph_defs.proofs.Covers.{covers_bound_matchings}
use Rattle.graph_defs.proofs.Sums.{total_zero}
use Rattle.match_core.specs.Path.{IsSimple, IsBlossom}
use Rattle.blossom_lift.specs.Contraction.{inside, rank, is_inner, IsCycle}
use Rattle.blossom_lift.proofs.Ranks.{bool_cases, rank_less}
use Rattle.blossom_lift.proofs.Degrees.{bit_true, bit_false, degree_has, filter_has, times_head}
use Rattle.blossom_lift.proofs.LiftedCovers.{cover_make, begins}
use Rattle.blossom_lift.proofs.Paths.{odd_lengths, odd_below}
use Rattle.blossom_lift.proofs.Contracting.{has_inside, base_below, blossom_met}

-- ---- the edges inside and those left
pub left_and_inner : (q : ℕ → Bool) (es : List ℕ) → length (filter (λ e. not (q e)) es) + length (filter q es) ≡ length es
left_and_inner q [] = refl
left_and_inner q (e ∷ es) =
    let i = left_and_inner q es in
    let outer : List ℕ = filter (λ x. not (q x)) es in
    let inner : List ℕ = filter q es in
    let P : Bool → Type 0 = λ b. length (cond (not b) (e ∷ outer) outer) + length (cond b (e ∷ inner) inner) ≡ length (e ∷ es) in
    elim (bool_cases (q e)) [
      | inl t ↦ subst P (sym t) (omega arith)
      | inr f ↦ subst P (sym f) (omega arith)
    ]

-- ---- degrees at the nodes of a list
degrees : Net → List ℕ → List ℕ → ℕ
degrees net es [] = 0
degrees net es (v ∷ vs) = degree net v es + degrees net es vs

degrees_none : (net : Net) (vs : List ℕ) → degrees net [] vs ≡ 0
unfolding degrees
degrees_none net [] = refl
degrees_none net (v ∷ vs) = let i = degrees_none net vs in omega arith

either_le : (a b : Bool) → cond {A = ℕ} (a || b) 1 0 ≤ cond {A = ℕ} a 1 0 + cond {A = ℕ} b 1 0
either_le true b = omega arith
either_le false b = omega arith

degrees_more : (net : Net) (e : ℕ) (es vs : List ℕ) → degrees net (e ∷ es) vs ≤ (times (source net e) vs + times (target net e) vs) + degrees net es vs
unfolding degrees
degrees_more net e es [] = omega arith
degrees_more net e es (v ∷ vs) =
    let i = degrees_more net e es vs in
    let b = either_le (eqb (source net e) v) (eqb (target net e) v) in
    omega arith

degrees_small : (net : Net) (es vs : List ℕ) → IsSimple vs → degrees net es vs ≤ 2 * length es
degrees_small net [] vs s = let z = degrees_none net vs in omega arith
degrees_small net (e ∷ es) vs s =
    let i = degrees_small net es vs s in
    let m = degrees_more net e es vs in
    let a = s (source net e) in
    let b = s (target net e) in
    omega arith

degrees_large : (net : Net) (es vs : List ℕ) → ((v : ℕ) → 1 ≤ times v vs → 1 ≤ degree net v es) → length vs ≤ degrees net es vs
unfolding degrees
degrees_large net es [] h = omega arith
degrees_large net es (v ∷ vs) h =
    let i = degrees_large net es vs (λ w t. h w (omega arith)) in
    let d = h v (times_head v vs) in
    omega arith

-- each node of a blossom but the base has an edge inside
inner_many : (net : Net) (edges path : List ℕ) (base : ℕ) (rest : List ℕ) → IsBlossom net edges path base rest → length rest ≤ 2 * length (filter (is_inner (inside (base ∷ rest)) net) edges)
inner_many net edges path base rest b =
    let p : ℕ → Bool = inside (base ∷ rest) in
    let inner : List ℕ = filter (is_inner p net) edges in
    let once : (v : ℕ) → times v rest ≤ 1 = λ v. (let s = b.simple v in omega arith) in
    let apart : (v : ℕ) → 1 ≤ times v rest → v ≡ base → ⊥ = λ v t e. (let s = b.simple v in let k = times_same v base rest e in absurd (omega arith)) in
    let met : (v : ℕ) → 1 ≤ times v rest → 1 ≤ degree net v inner = λ v t. (
    let i = blossom_met net edges path base rest b v (has_inside (base ∷ rest) v (omega arith)) (apart v t) in
    degree_has net v i.edge inner (filter_has (is_inner p net) i.edge edges i.has i.inner) i.near) in
    let l = degrees_large net inner rest met in
    let s = degrees_small net inner rest once in
    omega arith

half_is : (n k : ℕ) → n ≡ k + k + 1 → (n - 1) / 2 ≡ k
half_is n k e = omega arith

pub inner_half : (net : Net) (edges nodes path : List ℕ) → IsCycle net edges nodes path → (length nodes - 1) / 2 ≤ length (filter (is_inner (inside nodes) net) edges)
inner_half net edges [] path c = absurd c
inner_half net edges (base ∷ rest) path c =
    let n = odd_lengths net edges path base rest base c.round in
    let k : length rest ≡ n.0 + n.0 = n.1 in
    let h = half_is (length (base ∷ rest)) n.0 (omega arith) in
    let m = inner_many net edges path base rest c in
    omega arith

-- ---- fewer nodes
rank_two : (p : ℕ → Bool) (v w n : ℕ) → v < n → w < n → (v ≡ w → ⊥) → p v ≡ true → p w ≡ true → rank p n + 2 ≤ n
rank_two p v w zero l k ne tv tw = absurd (omega arith)
rank_two p v w (suc n) l k ne tv tw = elim (cases_eq v n) [
  | inl e ↦ (let c : cond {A = ℕ} (p n) 0 1 ≡ 0 = ap (λ (b : Bool). cond {A = ℕ} b 0 1) (sym (ap p e) ∙ tv) in
      let r = rank_less p w n (let d : w ≡ n → ⊥ = λ q. ne (e ∙ sym q) in omega arith) tw in omega arith)
  | inr nv ↦ elim (cases_eq w n) [
    | inl e ↦ (let c : cond {A = ℕ} (p n) 0 1 ≡ 0 = ap (λ (b : Bool). cond {A = ℕ} b 0 1) (sym (ap p e) ∙ tw) in
        let r = rank_less p v n (omega arith) tv in omega arith)
    | inr nw ↦ (let i = rank_two p v w n (omega arith) (omega arith) ne tv tw in
        elim (bool_cases (p n)) [
          | inl y ↦ (let c : cond {A = ℕ} (p n) 0 1 ≡ 0 = ap (λ (b : Bool). cond {A = ℕ} b 0 1) y in omega arith)
          | inr f ↦ (let c : cond {A = ℕ} (p n) 0 1 ≡ 1 = ap (λ (b : Bool). cond {A = ℕ} b 0 1) f in omega arith)
        ])
  ]
]

blossom_falls : (net : Net) (edges path : List ℕ) (base : ℕ) (rest : List ℕ) → IsValid net → IsBlossom net edges path base rest → rank (inside (base ∷ rest)) net.n + 2 ≤ net.n
blossom_falls net edges path base [] valid b = (let s = b.some in absurd (omega arith))
blossom_falls net edges path base (x ∷ rest) valid b =
    let lb = base_below net edges path base (x ∷ rest) valid b in
    let lx = odd_below net edges path base (x ∷ rest) base x valid.ends b.round (times_head x rest) in
    let t = times_same base base (x ∷ rest) refl in
    let u = times_head x rest in
    let apart : base ≡ x → ⊥ = λ e. (let s = b.simple base in let k = times_same base x rest e in absurd (omega arith)) in
    rank_two (inside (base ∷ x ∷ rest)) base x net.n lb lx apart (has_inside (base ∷ x ∷ rest) base (omega arith)) (has_inside (base ∷ x ∷ rest) x (omega arith))

pub cycle_falls : (net : Net) (edges nodes path : List ℕ) → IsValid net → IsCycle net edges nodes path → rank (inside nodes) net.n + 2 ≤ net.n
cycle_falls net edges [] path valid c = absurd c
cycle_falls net edges (base ∷ rest) path valid c = blossom_falls net edges path base rest valid c

-- ---- a matching has no more edges than the net has nodes
ones_times : (n x : ℕ) → times x (replicate n 1) ≤ n
ones_times zero x = omega arith
ones_times (suc n) x = (let i = ones_times n x in elim (bool_cases (eqb x 1)) [
  | inl t ↦ (let b = bit_true (eqb x 1) t in omega arith)
  | inr f ↦ (let b = bit_false (eqb x 1) f in omega arith)
])

ones_later : (n x : ℕ) → (x ≡ 1 → ⊥) → times x (replicate n 1) ≡ 0
ones_later zero x ne = refl
ones_later (suc n) x ne = (let i = ones_later n x ne in let t = times_other x 1 (replicate n 1) ne in omega arith)

pub few_edges : (net : Net) (edges : List ℕ) → IsValid net → IsMatching net edges → length edges ≤ net.n
few_edges net edges valid m =
    let ones : List ℕ = replicate net.n 1 in
    let cover : IsOddSetCover net ones = record {
      long = length-replicate net.n 1;
      all = λ k d l. (let b = valid.ends k d l in
          let arc : Ends = get_or net.arcs k d in
          cover_make ones arc.0 arc.1 (begins (get_or-replicate net.n arc.0 1 0 b.0)));
    } in
    let b = covers_bound_matchings net edges ones valid m cover in
    let t = ones_times net.n 1 in
    let z = total_zero (λ label. times (label + 2) ones / 2) (greatest ones) (λ i _. ap (λ (x : ℕ). x / 2) (ones_later net.n (i + 2) (λ e. absurd (omega arith)))) in
    omega arith

-- no edges are a matching
pub none_matched : (net : Net) → IsMatching net []
none_matched net = record {
  among = λ k d l. absurd (omega arith);
  loops = λ k d l. absurd (omega arith);
  apart = λ v. omega arith;
}
