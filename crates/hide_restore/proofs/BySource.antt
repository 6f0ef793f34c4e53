-- Edges that stand by their sources.
use Rattle.std.proofs.Common.{◌≡◌, ℕ, zero, suc, ◌+◌, ◌<◌, ◌≤◌, ◌==◌, Bool, true, false, cond, List, [], ◌∷◌, ◌++◌, map, length, Option, Some, None, refl, sym, ap, subst, ◌∙◌, inl, inr, arith}
use Rattle.std.proofs.lemmas.List.{append-nil, append_assoc}
use Rattle.std.specs.List.{flat_map}
use Rattle.graph_defs.specs.declared.plain.PlainEdge.{PlainEdge}
use Rattle.graph_state.specs.State.{GraphState, source, visible_nodes}
use Rattle.graph_state.specs.Names.{Has, IsOnce}
use Rattle.graph_state.specs.Formed.{IsFormed}
use Rattle.graph_state.proofs.Has.{has_left, has_right, map_join}
use Rattle.graph_state.proofs.Same.{nat_tells}
use Rattle.hide_restore.specs.Net.{place_of}
use Rattle.hide_restore.specs.Canon.{edges_from, ordered_edges, plain_edge, plain_edges}
use Rattle.hide_restore.proofs.Visible.{nodes_once}
use Rattle.hide_restore.proofs.Ordered.{from_has}
use Rattle.hide_restore.proofs.Valid.{place_behind, once_apart, push_seam, length_one}
use Rattle.hide_restore.proofs.Rebuilt.{numbers, numbers_has, edges_at}

-- the edges begin at places from the least one on, below k, and from one to the next these never fall
abbrev pub Rise : ℕ → ℕ → List PlainEdge → Type 0
Rise least k [] = Unit {0}
Rise least k (e ∷ es) = (least ≤ e.from) × ((e.from < k) × Rise e.from k es)

pub rise_from : (less least k : ℕ) (es : List PlainEdge) → less ≤ least → Rise least k es → Rise less k es
rise_from less least k [] l r = tt
rise_from less least k (e ∷ es) l r = let from = r.0 in (omega (arith, l, from), r.1)

-- before the least place no edge begins
none_at : (es : List PlainEdge) (n v m least k : ℕ) → Rise least k es → v ≤ n + least → edges_at n v m es ≡ []
unfolding edges_at
none_at [] n v m least k r few = refl
none_at (e ∷ es) n v m least k r few = elim (nat_tells v (n + e.from + 1)) [
  | inl y ↦ absurd (let is = y.1 in let from = r.0 in omega (arith, few, is, from))
  | inr ne ↦
      ap (λ b. cond b ((m + 1) ∷ edges_at n v (m + 1) es) (edges_at n v (m + 1) es)) ne.0
      ∙ none_at es n v (m + 1) e.from k r.1.1 (let from = r.0 in omega (arith, few, from))
]

pub flat_same : (f g : ℕ → List ℕ) (vs : List ℕ) → ((v : ℕ) → Has v vs → f v ≡ g v) → flat_map f vs ≡ flat_map g vs
flat_same f g [] same = refl
flat_same f g (v ∷ vs) same = (λ i. same v (inl refl) i ++ flat_same f g vs (λ w k. same w (inr k)) i)

flat_none : (f : ℕ → List ℕ) (vs : List ℕ) → ((v : ℕ) → f v ≡ []) → flat_map f vs ≡ []
flat_none f [] none = refl
flat_none f (v ∷ vs) none = ap (λ ks. ks ++ flat_map f vs) (none v) ∙ flat_none f vs none

-- the first edge is the first of those by their sources
first_in : {X : Type 0} (xs : List X) (n m least c k : ℕ) (e : PlainEdge) (es : List PlainEdge) → c ≡ n + least → least + length xs ≡ k → least ≤ e.from → e.from < k → Rise e.from k es
    → flat_map (λ v. edges_at n v m (e ∷ es)) (numbers c xs) ≡ (m + 1) ∷ flat_map (λ v. edges_at n v (m + 1) es) (numbers c xs)
unfolding edges_at
first_in [] n m least c k e es is long from below rise = absurd (omega (arith, long, from, below))
first_in (x ∷ xs) n m least c k e es is long from below rise =
    let after : ℕ → List ℕ = λ v. edges_at n v (m + 1) es in
    let both : ℕ → List ℕ = λ v. edges_at n v m (e ∷ es) in
    elim (nat_tells (c + 1) (n + e.from + 1)) [
      | inl y ↦
          let here = y.1 in
          let rest = flat_same both after (numbers (c + 1) xs) (λ v i. elim (nat_tells v (n + e.from + 1)) [
            | inl z ↦ absurd (let same = z.1 in let past = (numbers_has xs (c + 1) v i).0 in omega (arith, here, same, past))
            | inr ne ↦ ap (λ b. cond b ((m + 1) ∷ after v) (after v)) ne.0
          ]) in
          ap (λ b. cond b ((m + 1) ∷ after (c + 1)) (after (c + 1)) ++ flat_map both (numbers (c + 1) xs)) y.0
          ∙ ap (λ ks. (m + 1) ∷ (after (c + 1) ++ ks)) rest
      | inr ne ↦
          let not_here = ne.1 in
          let none : after (c + 1) ≡ [] = none_at es n (c + 1) (m + 1) e.from k rise (omega (arith, is, from, not_here)) in
          ap (λ b. cond b ((m + 1) ∷ after (c + 1)) (after (c + 1)) ++ flat_map both (numbers (c + 1) xs)) ne.0
          ∙ ap (λ ks. ks ++ flat_map both (numbers (c + 1) xs)) none
          ∙ first_in xs n m (least + 1) (c + 1) k e es (omega (arith, is)) (omega (arith, long)) (omega (arith, is, from, not_here)) below rise
          ∙ sym (ap (λ ks. (m + 1) ∷ (ks ++ flat_map after (numbers (c + 1) xs))) none)
    ]

-- all edges by their sources are all edges in their order
pub all_in : {X : Type 0} (es : List PlainEdge) (xs : List X) (n m : ℕ) → Rise 0 (length xs) es → flat_map (λ v. edges_at n v m es) (numbers n xs) ≡ numbers m es
unfolding edges_at
all_in [] xs n m rise = flat_none (λ v. edges_at n v m []) (numbers n xs) (λ v. refl)
all_in (e ∷ es) xs n m rise =
    first_in xs n m 0 n (length xs) e es (omega arith) (omega arith) rise.0 rise.1.0 rise.1.1
    ∙ ap (λ ks. (m + 1) ∷ ks) (all_in es xs n (m + 1) (rise_from 0 e.from (length xs) es (omega arith) rise.1.1))

-- edges of one source, and behind them those of later ones
rise_block : (f : ℕ → PlainEdge) (es : List ℕ) (rest : List PlainEdge) (least i k : ℕ) → ((e : ℕ) → Has e es → (f e).from ≡ i) → least ≤ i → i < k → Rise i k rest → Rise least k (map f es ++ rest)
rise_block f [] rest least i k from low few rise = rise_from least i k rest low rise
rise_block f (e ∷ es) rest least i k from low few rise =
    let here = from e (inl refl) in
    (omega (arith, here, low), (omega (arith, here, few), rise_block f es rest (f e).from i k (λ d j. from d (inr j)) (omega (arith, here)) few rise))

shorter : (seen : List ℕ) (v : ℕ) (rest : List ℕ) → length seen < length (seen ++ v ∷ rest)
shorter [] v rest = omega arith
shorter (x ∷ seen) v rest = let l = shorter seen v rest in omega (arith, l)

module _ (s : GraphState) (f : IsFormed s) where
  abbrev written : ℕ → PlainEdge
  written e = plain_edge s (ordered_edges s) e

  rise_behind : (seen rest : List ℕ) (least : ℕ) → seen ++ rest ≡ visible_nodes s → least ≤ length seen → Rise least (length (visible_nodes s)) (map written (flat_map (edges_from s) rest))
  rise_behind seen [] least is low = tt
  rise_behind seen (v ∷ rest) least is low =
      let once : IsOnce (seen ++ v ∷ rest) = subst IsOnce (sym is) (nodes_once s f) in
      let place : place_of v (visible_nodes s) ≡ length seen = ap (place_of v) (sym is) ∙ place_behind v seen rest (once_apart v seen rest once) in
      let few : length seen < length (visible_nodes s) = subst (λ vs. length seen < length vs) is (shorter seen v rest) in
      let later = rise_behind (seen ++ v ∷ []) rest (length seen) (push_seam seen rest v ∙ is) (let one = length_one seen v in omega (arith, one)) in
      subst (Rise least (length (visible_nodes s))) (sym (map_join written (edges_from s v) (flat_map (edges_from s) rest)))
      (rise_block written (edges_from s v) (map written (flat_map (edges_from s) rest)) least (length seen) (length (visible_nodes s))
      (λ e i. ap (λ w. place_of w (visible_nodes s)) (sym (from_has s f e v i).1.1) ∙ place) low few later)

  -- a visible graph's edges, as a file has them, stand by their sources
  pub rises : Rise 0 (length (visible_nodes s)) (plain_edges s)
  rises = rise_behind [] (visible_nodes s) 0 refl (omega arith)
