-- Alternating paths joined, turned and cut.
use Rattle.std.proofs.Common.{◌≡◌, inl, inr, ℕ, zero, suc, ◌+◌, ◌<◌, ◌≤◌, List, [], ◌∷◌, ◌++◌, length, get_or, take, drop, reverse, refl, sym, ap, subst, arith}
use Rattle.std.proofs.lemmas.Bool.{cases_eq}
use Rattle.std.proofs.lemmas.List.{reverse-append}
use Rattle.graph_defs.specs.declared.net.Net.{Net}
use Rattle.graph_defs.specs.Count.{times}
use Rattle.graph_defs.specs.Net.{EndsBelow}
use Rattle.graph_defs.proofs.Counts.{times_same, times_other, times_append}
use Rattle.match_core.specs.Path.{Joins, IsEvenPath, IsOddPath}
use Rattle.blossom_lift.proofs.Views.{joins_turned, joins_below}

-- ---- joined
pub even_odd : (net : Net) (m : List ℕ) (es : List ℕ) (a : ℕ) (vs : List ℕ) (b : ℕ) (fs us : List ℕ) (w : ℕ) → IsEvenPath net m a es vs b → IsOddPath net m b fs us w → IsOddPath net m a (es ++ fs) (vs ++ us) w
even_odd net m [] a [] b fs us w p q = subst (λ (c : ℕ). IsOddPath net m c fs us w) (sym p) q
even_odd net m [] a (d ∷ vs) b fs us w p q = absurd p
even_odd net m (e ∷ []) a vs b fs us w p q = absurd p
even_odd net m (e ∷ f ∷ es) a [] b fs us w p q = absurd p
even_odd net m (e ∷ f ∷ es) a (d ∷ []) b fs us w p q = absurd p
even_odd net m (e ∷ f ∷ es) a (d ∷ g ∷ vs) b fs us w p q = (p.0, p.1, p.2, even_odd net m es g vs b fs us w p.3 q)

-- ---- turned
pub odd_more : (net : Net) (m : List ℕ) (es : List ℕ) (a : ℕ) (vs : List ℕ) (g f d e w : ℕ) → IsOddPath net m a es vs g → Joins net f g d → 1 ≤ times f m → Joins net e d w
    → IsOddPath net m a (es ++ f ∷ e ∷ []) (vs ++ g ∷ d ∷ []) w
odd_more net m [] a vs g f d e w p j h k = absurd p
odd_more net m (x ∷ []) a [] g f d e w p j h k = (p, j, h, k)
odd_more net m (x ∷ []) a (u ∷ vs) g f d e w p j h k = absurd p
odd_more net m (x ∷ y ∷ es) a [] g f d e w p j h k = absurd p
odd_more net m (x ∷ y ∷ es) a (u ∷ []) g f d e w p j h k = absurd p
odd_more net m (x ∷ y ∷ es) a (u ∷ v ∷ vs) g f d e w p j h k = (p.0, p.1, p.2, odd_more net m es v vs g f d e w p.3 j h k)

pub odd_turned : (net : Net) (m : List ℕ) (es : List ℕ) (a : ℕ) (vs : List ℕ) (w : ℕ) → IsOddPath net m a es vs w → IsOddPath net m w (reverse es) (reverse vs) a
odd_turned net m [] a vs w p = absurd p
odd_turned net m (e ∷ []) a [] w p = joins_turned net e a w p
odd_turned net m (e ∷ []) a (u ∷ vs) w p = absurd p
odd_turned net m (e ∷ f ∷ es) a [] w p = absurd p
odd_turned net m (e ∷ f ∷ es) a (d ∷ []) w p = absurd p
odd_turned net m (e ∷ f ∷ es) a (d ∷ g ∷ vs) w p =
    let r : reverse (e ∷ f ∷ es) ≡ reverse es ++ f ∷ e ∷ [] = reverse-append (e ∷ f ∷ []) es in
    let s : reverse (d ∷ g ∷ vs) ≡ reverse vs ++ g ∷ d ∷ [] = reverse-append (d ∷ g ∷ []) vs in
    let i = odd_more net m (reverse es) w (reverse vs) g f d e a (odd_turned net m es g vs w p.3) (joins_turned net f d g p.1) p.2 (joins_turned net e a d p.0) in
    subst (λ (xs : List ℕ). IsOddPath net m w xs (reverse (d ∷ g ∷ vs)) a) (sym r) (subst (λ (us : List ℕ). IsOddPath net m w (reverse es ++ f ∷ e ∷ []) us a) (sym s) i)

pub times_reverse : (x : ℕ) (xs : List ℕ) → times x (reverse xs) ≡ times x xs
times_reverse x [] = refl
times_reverse x (y ∷ xs) =
    let r : reverse (y ∷ xs) ≡ reverse xs ++ y ∷ [] = reverse-append (y ∷ []) xs in
    let a = times_append x (reverse xs) (y ∷ []) in
    let i = times_reverse x xs in
    let e : times x (reverse (y ∷ xs)) ≡ times x (reverse xs ++ y ∷ []) = ap (times x) r in
    omega arith

-- ---- lengths: one edge more than nodes between, of which there is an even number
pub odd_lengths : (net : Net) (m : List ℕ) (es : List ℕ) (a : ℕ) (vs : List ℕ) (w : ℕ) → IsOddPath net m a es vs w → (h : ℕ) × (length vs ≡ h + h) × (length es ≡ h + h + 1)
odd_lengths net m [] a vs w p = absurd p
odd_lengths net m (e ∷ []) a [] w p = (0, refl, refl)
odd_lengths net m (e ∷ []) a (u ∷ vs) w p = absurd p
odd_lengths net m (e ∷ f ∷ es) a [] w p = absurd p
odd_lengths net m (e ∷ f ∷ es) a (d ∷ []) w p = absurd p
odd_lengths net m (e ∷ f ∷ es) a (d ∷ g ∷ vs) w p =
    let i = odd_lengths net m es g vs w p.3 in
    let n : length vs ≡ i.0 + i.0 = i.1 in
    let k : length es ≡ i.0 + i.0 + 1 = i.2 in
    (suc i.0, omega arith, omega arith)

-- ---- cut at an even place
pub record IsCut (net : Net) (m : List ℕ) (a : ℕ) (es vs : List ℕ) (w k : ℕ) : Type 0 where
  pub front : IsEvenPath net m a (take k es) (take k vs) (get_or (a ∷ vs) k 0)
  pub rest : IsOddPath net m (get_or (a ∷ vs) k 0) (drop k es) (drop k vs) w

pub cut : (net : Net) (m : List ℕ) (i : ℕ) (es : List ℕ) (a : ℕ) (vs : List ℕ) (w : ℕ) → IsOddPath net m a es vs w → i + i ≤ length vs → IsCut net m a es vs w (i + i)
cut net m zero es a vs w p l = record { front = refl; rest = p }
cut net m (suc i) [] a vs w p l = absurd p
cut net m (suc i) (e ∷ []) a [] w p l = absurd (omega arith)
cut net m (suc i) (e ∷ []) a (u ∷ vs) w p l = absurd p
cut net m (suc i) (e ∷ f ∷ es) a [] w p l = absurd p
cut net m (suc i) (e ∷ f ∷ es) a (d ∷ []) w p l = absurd p
cut net m (suc i) (e ∷ f ∷ es) a (d ∷ g ∷ vs) w p l =
    let c = cut net m i es g vs w p.3 (omega arith) in
    let q : suc i + suc i ≡ suc (suc (i + i)) = omega arith in
    subst (IsCut net m a (e ∷ f ∷ es) (d ∷ g ∷ vs) w) (sym q) (record { front = (p.0, p.1, p.2, c.front); rest = c.rest })

-- ---- two edges behind an even place
pub record IsPair (net : Net) (a : ℕ) (es vs : List ℕ) (k : ℕ) : Type 0 where
  pub out : Joins net (get_or es k 0) (get_or (a ∷ vs) k 0) (get_or vs k 0)
  pub along : Joins net (get_or es (k + 1) 0) (get_or vs k 0) (get_or vs (k + 1) 0)

pub pair_at : (net : Net) (m : List ℕ) (i : ℕ) (es : List ℕ) (a : ℕ) (vs : List ℕ) (w : ℕ) → IsOddPath net m a es vs w → i + i < length vs → IsPair net a es vs (i + i)
pair_at net m i [] a vs w p l = absurd p
pair_at net m i (e ∷ []) a [] w p l = absurd (omega arith)
pair_at net m i (e ∷ []) a (u ∷ vs) w p l = absurd p
pair_at net m i (e ∷ f ∷ es) a [] w p l = absurd p
pair_at net m i (e ∷ f ∷ es) a (d ∷ []) w p l = absurd p
pair_at net m zero (e ∷ f ∷ es) a (d ∷ g ∷ vs) w p l = record { out = p.0; along = p.1 }
pair_at net m (suc i) (e ∷ f ∷ es) a (d ∷ g ∷ vs) w p l =
    let c = pair_at net m i es g vs w p.3 (omega arith) in
    let q : suc i + suc i ≡ suc (suc (i + i)) = omega arith in
    let n : suc (suc (i + i)) + 1 ≡ suc (suc (i + i + 1)) = omega arith in
    let along : Joins net (get_or (e ∷ f ∷ es) (suc (suc (i + i)) + 1) 0) (get_or vs (i + i) 0) (get_or (d ∷ g ∷ vs) (suc (suc (i + i)) + 1) 0) =
    subst (λ (k : ℕ). Joins net (get_or (e ∷ f ∷ es) k 0) (get_or vs (i + i) 0) (get_or (d ∷ g ∷ vs) k 0)) (sym n) c.along in
    subst (IsPair net a (e ∷ f ∷ es) (d ∷ g ∷ vs)) (sym q) (record { out = c.out; along = along })

-- ---- nodes
pub even_last : (net : Net) (m : List ℕ) (es : List ℕ) (a : ℕ) (vs : List ℕ) (y : ℕ) → IsEvenPath net m a es vs y → 1 ≤ times y (a ∷ vs)
even_last net m [] a [] y p = let t = times_same y a [] (sym p) in omega arith
even_last net m [] a (d ∷ vs) y p = absurd p
even_last net m (e ∷ []) a vs y p = absurd p
even_last net m (e ∷ f ∷ es) a [] y p = absurd p
even_last net m (e ∷ f ∷ es) a (d ∷ []) y p = absurd p
even_last net m (e ∷ f ∷ es) a (d ∷ g ∷ vs) y p = let i = even_last net m es g vs y p.3 in omega arith

pub odd_from_below : (net : Net) (m : List ℕ) (es : List ℕ) (a : ℕ) (vs : List ℕ) (w : ℕ) → EndsBelow net.n net.arcs → IsOddPath net m a es vs w → a < net.n
odd_from_below net m [] a vs w h p = absurd p
odd_from_below net m (e ∷ []) a [] w h p = (joins_below net e a w h p).0
odd_from_below net m (e ∷ []) a (u ∷ vs) w h p = absurd p
odd_from_below net m (e ∷ f ∷ es) a [] w h p = absurd p
odd_from_below net m (e ∷ f ∷ es) a (d ∷ []) w h p = absurd p
odd_from_below net m (e ∷ f ∷ es) a (d ∷ g ∷ vs) w h p = (joins_below net e a d h p.0).0

pub odd_to_below : (net : Net) (m : List ℕ) (es : List ℕ) (a : ℕ) (vs : List ℕ) (w : ℕ) → EndsBelow net.n net.arcs → IsOddPath net m a es vs w → w < net.n
odd_to_below net m [] a vs w h p = absurd p
odd_to_below net m (e ∷ []) a [] w h p = (joins_below net e a w h p).1
odd_to_below net m (e ∷ []) a (u ∷ vs) w h p = absurd p
odd_to_below net m (e ∷ f ∷ es) a [] w h p = absurd p
odd_to_below net m (e ∷ f ∷ es) a (d ∷ []) w h p = absurd p
odd_to_below net m (e ∷ f ∷ es) a (d ∷ g ∷ vs) w h p = odd_to_below net m es g vs w h p.3

pair_cases : (P : ℕ → Type 0) (v d g : ℕ) (vs : List ℕ) → 1 ≤ times v (d ∷ g ∷ vs) → P d → P g → (1 ≤ times v vs → P v) → P v
pair_cases P v d g vs t pd pg rest = elim (cases_eq v d) [
  | inl e ↦ subst P (sym e) pd
  | inr ne ↦ elim (cases_eq v g) [
    | inl e ↦ subst P (sym e) pg
    | inr nf ↦ (let o = times_other v d (g ∷ vs) ne in let q = times_other v g vs nf in rest (omega arith))
  ]
]

pub odd_below : (net : Net) (m : List ℕ) (es : List ℕ) (a : ℕ) (vs : List ℕ) (w v : ℕ) → EndsBelow net.n net.arcs → IsOddPath net m a es vs w → 1 ≤ times v vs → v < net.n
odd_below net m [] a vs w v h p t = absurd p
odd_below net m (e ∷ []) a [] w v h p t = absurd (omega arith)
odd_below net m (e ∷ []) a (u ∷ vs) w v h p t = absurd p
odd_below net m (e ∷ f ∷ es) a [] w v h p t = absurd p
odd_below net m (e ∷ f ∷ es) a (d ∷ []) w v h p t = absurd p
odd_below net m (e ∷ f ∷ es) a (d ∷ g ∷ vs) w v h p t =
    pair_cases (λ x. x < net.n) v d g vs t (joins_below net e a d h p.0).1 (joins_below net f d g h p.1).1 (λ k. odd_below net m es g vs w v h p.3 k)

-- each node between has its edge of the matching on the path
pub record HasMate (net : Net) (m vs : List ℕ) (v : ℕ) : Type 0 where
  pub edge : ℕ
  pub other : ℕ
  pub has : 1 ≤ times edge m
  pub joins : Joins net edge v other
  pub among : 1 ≤ times other vs

mate_later : (net : Net) (m : List ℕ) (d g v : ℕ) (vs : List ℕ) → HasMate net m vs v → HasMate net m (d ∷ g ∷ vs) v
mate_later net m d g v vs h = record { edge = h.edge; other = h.other; has = h.has; joins = h.joins; among = (let a = h.among in omega arith) }

pub odd_mate : (net : Net) (m : List ℕ) (es : List ℕ) (a : ℕ) (vs : List ℕ) (w v : ℕ) → IsOddPath net m a es vs w → 1 ≤ times v vs → HasMate net m vs v
odd_mate net m [] a vs w v p t = absurd p
odd_mate net m (e ∷ []) a [] w v p t = absurd (omega arith)
odd_mate net m (e ∷ []) a (u ∷ vs) w v p t = absurd p
odd_mate net m (e ∷ f ∷ es) a [] w v p t = absurd p
odd_mate net m (e ∷ f ∷ es) a (d ∷ []) w v p t = absurd p
odd_mate net m (e ∷ f ∷ es) a (d ∷ g ∷ vs) w v p t =
    pair_cases (HasMate net m (d ∷ g ∷ vs)) v d g vs t
    (record { edge = f; other = g; has = p.2; joins = p.1; among = (let s = times_same g g vs refl in omega arith) })
    (record { edge = f; other = d; has = p.2; joins = joins_turned net f d g p.1; among = (let s = times_same d d (g ∷ vs) refl in omega arith) })
    (λ k. mate_later net m d g v vs (odd_mate net m es g vs w v p.3 k))
