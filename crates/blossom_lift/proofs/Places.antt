-- Where the hub stands on a path, and the way through the blossom that is put in there.
use Rattle.std.proofs.Common.{◌≡◌, ◌⊎◌, inl, inr, ℕ, zero, suc, ◌+◌, ◌-◌, ◌%◌, ◌<◌, ◌≤◌, Bool, true, false, cond, List, [], ◌∷◌, ◌++◌, map, length, get_or, take, drop, reverse, refl, sym, ◌∙◌, ap, subst, arith}
use Rattle.std.proofs.lemmas.Bool.{true≢false, cases_eq, eq-eqb, ne_eqb}
use Rattle.std.proofs.lemmas.List.{get_or-reverse, length-reverse}
use Rattle.graph_defs.specs.declared.net.Net.{Net}
use Rattle.graph_defs.specs.Count.{times}
use Rattle.graph_defs.specs.Net.{EndsBelow}
use Rattle.graph_defs.specs.Matching.{is_end}
use Rattle.graph_defs.proofs.Counts.{times_same, times_other, times_append, times_has, same_place, times_take}
use Rattle.match_core.specs.Path.{IsFree, Joins, IsEvenPath, IsOddPath, IsSimple, IsAugmenting, IsBlossom}
use Rattle.blossom_lift.specs.Passes.{IsFirst, IsBehind, IsHubAt, way_to}
use Rattle.blossom_lift.proofs.Ranks.{bool_cases}
use Rattle.blossom_lift.proofs.Views.{IsView, joins_turned, joins_end, stands, free_back}
use Rattle.blossom_lift.proofs.Paths.{IsCut, cut, pair_at, odd_lengths, odd_turned, even_odd, even_last, times_reverse, odd_from_below, odd_to_below, odd_below}
use Rattle.blossom_lift.proofs.Lifts.{lift_even, lift_odd, times_back, lift_simple}
use Rattle.blossom_lift.proofs.Contracting.{joins_only}

-- ---- an augmenting path with the hub at an even place
pub record IsSpot (net : Net) (m path : List ℕ) (hub place : ℕ) : Type 0 where
  pub from : ℕ
  pub to : ℕ
  pub nodes : List ℕ
  pub from_free : IsFree net m from
  pub to_free : IsFree net m to
  pub odd : IsOddPath net m from path nodes to
  pub simple : IsSimple (to ∷ from ∷ nodes)
  pub half : ℕ
  pub twice : place ≡ half + half
  pub within : place ≤ length nodes
  pub at : get_or (from ∷ nodes) place 0 ≡ hub

first_spot : (net : Net) (m : List ℕ) (es : List ℕ) (from : ℕ) (nodes : List ℕ) (to hub : ℕ) → IsFirst net hub es → IsFree net m from → IsFree net m to
    → IsOddPath net m from es nodes to → IsSimple (to ∷ from ∷ nodes) → IsSpot net m es hub 0
first_spot net m [] from nodes to hub f ff tf p s = absurd p
first_spot net m (e ∷ []) from [] to hub f ff tf p s = elim (joins_only net e from to hub p f.leaves) [
  | inl h ↦ record { from = from; to = to; nodes = []; from_free = ff; to_free = tf; odd = p; simple = s; half = 0; twice = refl; within = omega arith; at = sym h }
  | inr h ↦ record { from = to; to = from; nodes = []; from_free = tf; to_free = ff; odd = joins_turned net e from to p; simple = λ w. (let k = s w in omega arith); half = 0; twice = refl; within = omega arith; at = sym h }
]
first_spot net m (e ∷ []) from (u ∷ vs) to hub f ff tf p s = absurd p
first_spot net m (e ∷ g ∷ es) from [] to hub f ff tf p s = absurd p
first_spot net m (e ∷ g ∷ es) from (d ∷ []) to hub f ff tf p s = absurd p
first_spot net m (e ∷ g ∷ es) from (d ∷ c ∷ vs) to hub f ff tf p s = elim (joins_only net e from d hub p.0 f.leaves) [
  | inl h ↦ record { from = from; to = to; nodes = d ∷ c ∷ vs; from_free = ff; to_free = tf; odd = p; simple = s; half = 0; twice = refl; within = omega arith; at = sym h }
  | inr h ↦ absurd (true≢false (sym (subst (λ (w : ℕ). is_end net w g ≡ true) (sym h) (joins_end net g d c p.1)) ∙ f.alone (omega arith)))
]

behind_spot : (net : Net) (m path : List ℕ) (hub place half : ℕ) → place ≡ half + half + 2 → IsBehind net hub path half → IsAugmenting net m path → IsSpot net m path hub place
behind_spot net m path hub place half e b a =
    let n = odd_lengths net m path a.from a.nodes a.to a.odd in
    let n1 : length a.nodes ≡ n.0 + n.0 = n.1 in
    let n2 : length path ≡ n.0 + n.0 + 1 = n.2 in
    let w = b.within in
    let q = pair_at net m half path a.from a.nodes a.to a.odd (omega arith) in
    let last : get_or a.nodes (half + half + 1) 0 ≡ hub = elim (joins_only net (get_or path (half + half + 1) 0) (get_or a.nodes (half + half) 0) (get_or a.nodes (half + half + 1) 0) hub q.along b.comes) [
      | inr h ↦ sym h
      | inl h ↦ absurd (true≢false (sym (subst (λ (x : ℕ). is_end net x (get_or path (half + half) 0) ≡ true) (sym h)
          (joins_end net (get_or path (half + half) 0) (get_or a.nodes (half + half) 0) (get_or (a.from ∷ a.nodes) (half + half) 0)
          (joins_turned net (get_or path (half + half) 0) (get_or (a.from ∷ a.nodes) (half + half) 0) (get_or a.nodes (half + half) 0) q.out))) ∙ b.new))
    ] in
    let s : suc (half + half + 1) ≡ place = omega arith in
    record {
      from = a.from;
      to = a.to;
      nodes = a.nodes;
      from_free = a.from_free;
      to_free = a.to_free;
      odd = a.odd;
      simple = a.simple;
      half = suc half;
      twice = omega arith;
      within = omega arith;
      at = subst (λ (k : ℕ). get_or (a.from ∷ a.nodes) k 0 ≡ hub) s last;
    }

pub spot : (net : Net) (m path : List ℕ) (hub place : ℕ) → IsAugmenting net m path → IsHubAt net hub path place → IsSpot net m path hub place
spot net m path hub place a (inl h) = subst (IsSpot net m path hub) (sym h.0) (first_spot net m path a.from a.nodes a.to hub h.1 a.from_free a.to_free a.odd a.simple)
spot net m path hub place a (inr h) = behind_spot net m path hub place h.0 h.1 h.2 a

pub augmenting_turned : (net : Net) (m path : List ℕ) → IsAugmenting net m path → IsAugmenting net m (reverse path)
augmenting_turned net m path a = record {
  from = a.to;
  to = a.from;
  nodes = reverse a.nodes;
  from_free = a.to_free;
  to_free = a.from_free;
  odd = odd_turned net m path a.from a.nodes a.to a.odd;
  simple = λ w. (let s = a.simple w in let r = times_reverse w a.nodes in omega arith);
}

-- ---- no even place has the hub
odd_first : (net : Net) (m : List ℕ) (es : List ℕ) (a : ℕ) (vs : List ℕ) (w : ℕ) → IsOddPath net m a es vs w → is_end net a (get_or es 0 0) ≡ true
odd_first net m [] a vs w p = absurd p
odd_first net m (e ∷ []) a [] w p = joins_end net e a w p
odd_first net m (e ∷ []) a (u ∷ vs) w p = absurd p
odd_first net m (e ∷ f ∷ es) a [] w p = absurd p
odd_first net m (e ∷ f ∷ es) a (d ∷ []) w p = absurd p
odd_first net m (e ∷ f ∷ es) a (d ∷ g ∷ vs) w p = joins_end net e a d p.0

not_end : (net : Net) (e a b v : ℕ) → Joins net e a b → (v ≡ a → ⊥) → (v ≡ b → ⊥) → is_end net v e ≡ false
not_end net e a b v j na nb = elim (bool_cases (is_end net v e)) [
  | inr f ↦ f
  | inl t ↦ elim (joins_only net e a b v j t) [ inl h ↦ absurd (na h) | inr h ↦ absurd (nb h) ]
]

pub from_off : (net : Net) (m path : List ℕ) (hub : ℕ) → (a : IsAugmenting net m path) → ((place : ℕ) → IsHubAt net hub path place → ⊥) → a.from ≡ hub → ⊥
from_off net m path hub a none e =
    let n = odd_lengths net m path a.from a.nodes a.to a.odd in
    let n1 : length a.nodes ≡ n.0 + n.0 = n.1 in
    let n2 : length path ≡ n.0 + n.0 + 1 = n.2 in
    let once : times hub (a.from ∷ a.nodes) ≤ 1 = (let s = a.simple hub in omega arith) in
    none 0 (inl (
      refl,
      record {
        some = omega arith;
        leaves = subst (λ (w : ℕ). is_end net w (get_or path 0 0) ≡ true) e (odd_first net m path a.from a.nodes a.to a.odd);
        alone = λ l. (let q = pair_at net m 0 path a.from a.nodes a.to a.odd (omega arith) in
            not_end net (get_or path 1 0) (get_or a.nodes 0 0) (get_or a.nodes 1 0) hub q.along
            (λ h. (let k = same_place hub (a.from ∷ a.nodes) 0 1 once (omega arith) (omega arith) e (sym h) in absurd (omega arith)))
            (λ h. (let k = same_place hub (a.from ∷ a.nodes) 0 2 once (omega arith) (omega arith) e (sym h) in absurd (omega arith))));
      },
    ))

pub later_off : (net : Net) (m path : List ℕ) (hub half : ℕ) → (a : IsAugmenting net m path) → ((place : ℕ) → IsHubAt net hub path place → ⊥) → half + half < length a.nodes
    → get_or a.nodes (half + half + 1) 0 ≡ hub → ⊥
later_off net m path hub half a none l e =
    let n = odd_lengths net m path a.from a.nodes a.to a.odd in
    let n1 : length a.nodes ≡ n.0 + n.0 = n.1 in
    let n2 : length path ≡ n.0 + n.0 + 1 = n.2 in
    let once : times hub (a.from ∷ a.nodes) ≤ 1 = (let s = a.simple hub in omega arith) in
    let q = pair_at net m half path a.from a.nodes a.to a.odd l in
    none (half + half + 2) (inr (
      half,
      refl,
      record {
        within = omega arith;
        comes = subst (λ (w : ℕ). is_end net w (get_or path (half + half + 1) 0) ≡ true) e
            (joins_end net (get_or path (half + half + 1) 0) (get_or a.nodes (half + half + 1) 0) (get_or a.nodes (half + half) 0)
            (joins_turned net (get_or path (half + half + 1) 0) (get_or a.nodes (half + half) 0) (get_or a.nodes (half + half + 1) 0) q.along));
        new = not_end net (get_or path (half + half) 0) (get_or (a.from ∷ a.nodes) (half + half) 0) (get_or a.nodes (half + half) 0) hub q.out
            (λ h. (let k = same_place hub (a.from ∷ a.nodes) (suc (half + half + 1)) (half + half) once (omega arith) (omega arith) e (sym h) in absurd (omega arith)))
            (λ h. (let k = same_place hub (a.from ∷ a.nodes) (suc (half + half + 1)) (suc (half + half)) once (omega arith) (omega arith) e (sym h) in absurd (omega arith)));
      },
    ))

parity : (k : ℕ) → (h : ℕ) × ((k ≡ h + h) ⊎ (k ≡ h + h + 1))
parity zero = (0, inl refl)
parity (suc k) = let r = parity k in elim r.1 [
  | inl e ↦ (r.0, inr (omega arith))
  | inr e ↦ (suc r.0, inl (omega arith))
]

pub all_off : (net : Net) (m path : List ℕ) (hub : ℕ) → (a : IsAugmenting net m path) → ((place : ℕ) → IsHubAt net hub path place → ⊥) → ((place : ℕ) → IsHubAt net hub (reverse path) place → ⊥)
    → (y : ℕ) → 1 ≤ times y (a.to ∷ a.from ∷ a.nodes) → y ≡ hub → ⊥
unfolding augmenting_turned
all_off net m path hub a none back y t e =
    let n = odd_lengths net m path a.from a.nodes a.to a.odd in
    let n1 : length a.nodes ≡ n.0 + n.0 = n.1 in
    let b = augmenting_turned net m path a in
    let nb = length-reverse a.nodes in
    elim (cases_eq y a.to) [
      | inl s ↦ from_off net m (reverse path) hub b back (sym s ∙ e)
      | inr nt ↦ elim (cases_eq y a.from) [
        | inl s ↦ from_off net m path hub a none (sym s ∙ e)
        | inr nf ↦ (let o1 = times_other y a.to (a.from ∷ a.nodes) nt in
            let o2 = times_other y a.from a.nodes nf in
            let h = times_has y a.nodes (omega arith) in
            let l : h.0 < length a.nodes = h.1 in
            let v : get_or a.nodes h.0 0 ≡ hub = h.2 ∙ e in
            let r = parity h.0 in
            elim r.1 [
              | inr q ↦ later_off net m path hub r.0 a none (omega arith) (subst (λ (k : ℕ). get_or a.nodes k 0 ≡ hub) q v)
              | inl q ↦ (let j : ℕ = n.0 - r.0 - 1 in
                  let je : j + r.0 + 1 ≡ n.0 = omega arith in
                  let g = get_or-reverse a.nodes (j + j + 1) 0 (omega arith) in
                  let i : length a.nodes - 1 - (j + j + 1) ≡ h.0 = omega arith in
                  later_off net m (reverse path) hub j b back (omega arith) (g ∙ ap (λ (k : ℕ). get_or a.nodes k 0) i ∙ v))
            ])
      ]
    ]

-- ---- the way through the blossom
pub record IsWay (net : Net) (m path : List ℕ) (base : ℕ) (rest : List ℕ) (to : ℕ) : Type 0 where
  pub nodes : List ℕ
  pub even : IsEvenPath net m base path nodes to
  pub within : (w : ℕ) → times w nodes ≤ times w rest

way_ahead : (net : Net) (m path : List ℕ) (base : ℕ) (rest : List ℕ) (h : ℕ) → IsBlossom net m path base rest → h + h ≤ length rest → IsWay net m (take (h + h) path) base rest (get_or (base ∷ rest) (h + h) 0)
way_ahead net m path base rest h b l =
    let c = cut net m h path base rest base b.round l in
    record { nodes = take (h + h) rest; even = c.front; within = λ w. times_take w rest (h + h) }

way_round : (net : Net) (m path : List ℕ) (base : ℕ) (rest : List ℕ) (at h : ℕ) → IsBlossom net m path base rest → at ≡ h + h + 1 → at ≤ length rest
    → IsWay net m (take (length path - at) (reverse path)) base rest (get_or (base ∷ rest) at 0)
way_round net m path base rest at h b e l =
    let n = odd_lengths net m path base rest base b.round in
    let n1 : length rest ≡ n.0 + n.0 = n.1 in
    let n2 : length path ≡ n.0 + n.0 + 1 = n.2 in
    let nr = length-reverse rest in
    let j : ℕ = n.0 - h in
    let je : j + h ≡ n.0 = omega arith in
    let c = cut net m j (reverse path) base (reverse rest) base (odd_turned net m path base rest base b.round) (omega arith) in
    let i : ℕ = j + j - 1 in
    let ie : suc i ≡ j + j = omega arith in
    let g = get_or-reverse rest i 0 (omega arith) in
    let k : ℕ = length rest - 1 - i in
    let ke : suc k ≡ at = omega arith in
    let to : get_or (base ∷ reverse rest) (j + j) 0 ≡ get_or (base ∷ rest) at 0 =
    ap (λ (x : ℕ). get_or (base ∷ reverse rest) x 0) (sym ie) ∙ g ∙ ap (λ (x : ℕ). get_or (base ∷ rest) x 0) ke in
    let s : j + j ≡ length path - at = omega arith in
    let even : IsEvenPath net m base (take (j + j) (reverse path)) (take (j + j) (reverse rest)) (get_or (base ∷ rest) at 0) =
    subst (λ (x : ℕ). IsEvenPath net m base (take (j + j) (reverse path)) (take (j + j) (reverse rest)) x) to c.front in
    record {
      nodes = take (j + j) (reverse rest);
      even = subst (λ (x : ℕ). IsEvenPath net m base (take x (reverse path)) (take (j + j) (reverse rest)) (get_or (base ∷ rest) at 0)) s even;
      within = λ w. (let t = times_take w (reverse rest) (j + j) in let r = times_reverse w rest in omega arith);
    }

pub way : (net : Net) (m path : List ℕ) (base : ℕ) (rest : List ℕ) (at : ℕ) → IsBlossom net m path base rest → at ≤ length rest → IsWay net m (way_to path at) base rest (get_or (base ∷ rest) at 0)
way net m path base rest at b l =
    let P : Bool → Type 0 = λ even. IsWay net m (cond even (take at path) (take (length path - at) (reverse path))) base rest (get_or (base ∷ rest) at 0) in
    let r = parity at in
    elim r.1 [
      | inl e ↦ (let z : at % 2 ≡ 0 = omega arith in
          subst P (sym (eq-eqb (at % 2) 0 z)) (subst (λ (x : ℕ). IsWay net m (take x path) base rest (get_or (base ∷ rest) x 0)) (sym e) (way_ahead net m path base rest r.0 b (omega arith))))
      | inr e ↦ (let z : at % 2 ≡ 0 → ⊥ = λ q. absurd (omega arith) in
          subst P (sym (ne_eqb (at % 2) 0 z)) (way_round net m path base rest at r.0 b e l))
    ]

-- ---- the longer path
hub_low : (net : Net) (edges : List ℕ) (p : ℕ → Bool) (base : ℕ) (small : Net) (left : List ℕ) (img back : ℕ → ℕ) (hub : ℕ) → IsView net edges p base small left img back hub
    → EndsBelow small.n small.arcs → (es : List ℕ) (x : ℕ) (vs : List ℕ) (z : ℕ) → IsOddPath small left x es vs z → (y : ℕ) → 1 ≤ times y (z ∷ x ∷ vs) → y ≤ hub
hub_low net edges p base small left img back hub v h es x vs z q y t =
    let n = v.size in
    elim (cases_eq y z) [
      | inl e ↦ (let b = odd_to_below small left es x vs z h q in omega arith)
      | inr nz ↦ elim (cases_eq y x) [
        | inl e ↦ (let b = odd_from_below small left es x vs z h q in omega arith)
        | inr nx ↦ (let o1 = times_other y z (x ∷ vs) nz in let o2 = times_other y x vs nx in
            let b = odd_below small left es x vs z y h q (omega arith) in omega arith)
      ]
    ]

drop_first : (k : ℕ) (xs : List ℕ) → get_or (drop k xs) 0 0 ≡ get_or xs k 0
drop_first zero xs = refl
drop_first (suc k) [] = refl
drop_first (suc k) (x ∷ xs) = drop_first k xs

pub spot_arc : (net : Net) (m path : List ℕ) (hub place : ℕ) → IsSpot net m path hub place → (place < length path) × (is_end net hub (get_or path place 0) ≡ true)
spot_arc net m path hub place s =
    let t = s.twice in
    let w = s.within in
    let n = odd_lengths net m path s.from s.nodes s.to s.odd in
    let n1 : length s.nodes ≡ n.0 + n.0 = n.1 in
    let n2 : length path ≡ n.0 + n.0 + 1 = n.2 in
    let c = subst (IsCut net m s.from path s.nodes s.to) (sym s.twice) (cut net m s.half path s.from s.nodes s.to s.odd (omega arith)) in
    let f = odd_first net m (drop place path) (get_or (s.from ∷ s.nodes) place 0) (drop place s.nodes) s.to c.rest in
    let g : is_end net (get_or (s.from ∷ s.nodes) place 0) (get_or path place 0) ≡ true = subst (λ (e : ℕ). is_end net (get_or (s.from ∷ s.nodes) place 0) e ≡ true) (drop_first place path) f in
    (omega arith, subst (λ (v : ℕ). is_end net v (get_or path place 0) ≡ true) s.at g)

take_drop : (k : ℕ) (xs : List ℕ) → take k xs ++ drop k xs ≡ xs
take_drop zero xs = refl
take_drop (suc k) [] = refl
take_drop (suc k) (x ∷ xs) = ap (λ (ys : List ℕ). x ∷ ys) (take_drop k xs)

pub lifted_off : (net : Net) (edges : List ℕ) (p : ℕ → Bool) (base : ℕ) (small : Net) (left : List ℕ) (img back : ℕ → ℕ) (hub : ℕ) → IsView net edges p base small left img back hub
    → EndsBelow small.n small.arcs → (path : List ℕ) → (a : IsAugmenting small left path) → ((y : ℕ) → 1 ≤ times y (a.to ∷ a.from ∷ a.nodes) → y ≡ hub → ⊥) → IsAugmenting net edges path
lifted_off net edges p base small left img back hub v h path a off =
    let low = hub_low net edges p base small left img back hub v h path a.from a.nodes a.to a.odd in
    let less : (y : ℕ) → 1 ≤ times y (a.to ∷ a.from ∷ a.nodes) → y < hub = λ y t. (let l = low y t in elim (cases_eq y hub) [ inl e ↦ absurd (off y t e) | inr ne ↦ omega arith ]) in
    let l = lift_odd net edges p base small left img back hub v path a.from a.nodes a.to a.odd (λ y t. less y (omega arith)) in
    let tf : 1 ≤ times a.from (a.to ∷ a.from ∷ a.nodes) = (let t = times_same a.from a.from a.nodes refl in omega arith) in
    let tt2 : 1 ≤ times a.to (a.to ∷ a.from ∷ a.nodes) = (let t = times_same a.to a.to (a.from ∷ a.nodes) refl in omega arith) in
    let s = stands net edges p base small left img back hub l.from a.from v l.below l.image (off a.from tf) in
    record {
      from = back a.from;
      to = back a.to;
      nodes = map back a.nodes;
      from_free = free_back net edges p base small left img back hub a.from v (low a.from tf) a.from_free;
      to_free = free_back net edges p base small left img back hub a.to v (low a.to tt2) a.to_free;
      odd = subst (λ (w : ℕ). IsOddPath net edges w path (map back a.nodes) (back a.to)) s l.path;
      simple = λ w. (let t = times_back net edges p base small left img back hub w v (a.to ∷ a.from ∷ a.nodes) low in let k = a.simple (img w) in omega arith);
    }

pub lifted_at : (net : Net) (edges : List ℕ) (p : ℕ → Bool) (base : ℕ) (small : Net) (left : List ℕ) (img back : ℕ → ℕ) (hub : ℕ) → IsView net edges p base small left img back hub
    → EndsBelow small.n small.arcs → (path round : List ℕ) (place : ℕ) (rest : List ℕ) (b : ℕ) → IsSpot small left path hub place
    → IsSimple (base ∷ rest) → ((w : ℕ) → p w ≡ false → times w rest ≡ 0) → is_end net b (get_or path place 0) ≡ true → p b ≡ true → IsWay net edges round base rest b
    → IsAugmenting net edges (take place path ++ (round ++ drop place path))
lifted_at net edges p base small left img back hub v h path round place rest b s simple outside ends inb way =
    let low = hub_low net edges p base small left img back hub v h path s.from s.nodes s.to s.odd in
    let c = subst (IsCut small left s.from path s.nodes s.to) (sym s.twice) (cut small left s.half path s.from s.nodes s.to s.odd (let w = s.within in let t = s.twice in omega arith)) in
    let whole : take place s.nodes ++ drop place s.nodes ≡ s.nodes = take_drop place s.nodes in
    let sum : (w : ℕ) → times w s.nodes ≡ times w (take place s.nodes) + times w (drop place s.nodes) = λ w. (let e = ap (times w) (sym whole) in let a = times_append w (take place s.nodes) (drop place s.nodes) in omega arith) in
    let front : IsSimple (s.from ∷ take place s.nodes) = λ w. (let k = s.simple w in let t = sum w in omega arith) in
    let f = lift_even net edges p base small left img back hub v (take place path) s.from (take place s.nodes) (get_or (s.from ∷ s.nodes) place 0) c.front s.at front in
    let tohub : back (get_or (s.from ∷ s.nodes) place 0) ≡ base = ap back (s.at ∙ sym (v.img_in base v.base_in)) ∙ v.back_img base v.base_below (λ _. refl) in
    let f2 : IsEvenPath net edges (back s.from) (take place path) (map back (take place s.nodes)) base = subst (λ (w : ℕ). IsEvenPath net edges (back s.from) (take place path) (map back (take place s.nodes)) w) tohub f in
    let last : 1 ≤ times hub (s.from ∷ take place s.nodes) = subst (λ (w : ℕ). 1 ≤ times w (s.from ∷ take place s.nodes)) s.at (even_last small left (take place path) s.from (take place s.nodes) (get_or (s.from ∷ s.nodes) place 0) c.front) in
    let less : (y : ℕ) → 1 ≤ times y (s.to ∷ drop place s.nodes) → y < hub = λ y t. (
    let l = low y (let k = sum y in omega arith) in
    elim (cases_eq y hub) [
      | inr ne ↦ omega arith
      | inl e ↦ (let k = s.simple hub in let q = sum hub in let r : times y (s.to ∷ drop place s.nodes) ≡ times hub (s.to ∷ drop place s.nodes) = ap (λ (w : ℕ). times w (s.to ∷ drop place s.nodes)) e in absurd (omega arith))
    ]) in
    let l = lift_odd net edges p base small left img back hub v (drop place path) (get_or (s.from ∷ s.nodes) place 0) (drop place s.nodes) s.to c.rest less in
    let first : Joins net (get_or path place 0) l.from l.next = subst (λ (e : ℕ). Joins net e l.from l.next) (drop_first place path) l.first in
    let same : b ≡ l.from = elim (joins_only net (get_or path place 0) l.from l.next b first ends) [ inl e ↦ e | inr e ↦ absurd (true≢false (sym inb ∙ ap p e ∙ l.out)) ] in
    let r2 : IsOddPath net edges b (drop place path) (map back (drop place s.nodes)) (back s.to) = subst (λ (w : ℕ). IsOddPath net edges w (drop place path) (map back (drop place s.nodes)) (back s.to)) (sym same) l.path in
    let tf : 1 ≤ times s.from (s.to ∷ s.from ∷ s.nodes) = (let t = times_same s.from s.from s.nodes refl in omega arith) in
    let tt2 : 1 ≤ times s.to (s.to ∷ s.from ∷ s.nodes) = (let t = times_same s.to s.to (s.from ∷ s.nodes) refl in omega arith) in
    record {
      from = back s.from;
      to = back s.to;
      nodes = map back (take place s.nodes) ++ (way.nodes ++ map back (drop place s.nodes));
      from_free = free_back net edges p base small left img back hub s.from v (low s.from tf) s.from_free;
      to_free = free_back net edges p base small left img back hub s.to v (low s.to tt2) s.to_free;
      odd = even_odd net edges (take place path) (back s.from) (map back (take place s.nodes)) base (round ++ drop place path) (way.nodes ++ map back (drop place s.nodes)) (back s.to) f2
          (even_odd net edges round base way.nodes b (drop place path) (map back (drop place s.nodes)) (back s.to) way.even r2);
      simple = lift_simple net edges p base small left img back hub v s.from s.to (take place s.nodes) (drop place s.nodes) way.nodes rest
          (λ y t. low y (let k = sum y in let a = times_append y (take place s.nodes) (drop place s.nodes) in omega arith))
          (λ w. (let k = s.simple w in let q = sum w in let a = times_append w (take place s.nodes) (drop place s.nodes) in omega arith))
          simple outside way.within;
    }
