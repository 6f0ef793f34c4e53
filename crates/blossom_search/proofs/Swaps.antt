-- An edge of a matching replaced by the edge before it on a path.
use Rattle.std.proofs.Common.{◌≡◌, ◌≢◌, ◌⊎◌, inl, inr, ℕ, zero, suc, ◌+◌, ◌<◌, ◌≤◌, Bool, true, false, ◌||◌, cond, eqb, List, [], ◌∷◌, ◌++◌, length, get_or, set, refl, sym, ◌∙◌, ap, subst, length-set, arith}
use Rattle.std.proofs.lemmas.Bool.{true≢false, cases_eq, eq-eqb, ne_eqb}
use Rattle.graph_defs.specs.declared.net.Net.{Net}
use Rattle.graph_defs.specs.Count.{times}
use Rattle.graph_defs.specs.Net.{source, target}
use Rattle.graph_defs.specs.Matching.{is_end, degree, IsMatching}
use Rattle.graph_defs.proofs.Counts.{times_same, times_other, times_append}
use Rattle.match_core.specs.Path.{IsFree, Joins, IsEvenPath, IsOddPath, IsSimple, IsAugmenting}
use Rattle.blossom_lift.proofs.Degrees.{All_at, All_from}

-- ---- lists with one entry changed
pub times_set : (x : ℕ) (xs : List ℕ) (k y : ℕ) → k < length xs → times x (set xs k y) + cond {A = ℕ} (eqb x (get_or xs k 0)) 1 0 ≡ times x xs + cond {A = ℕ} (eqb x y) 1 0
times_set x [] k y l = absurd (omega arith)
times_set x (z ∷ xs) zero y l = omega arith
times_set x (z ∷ xs) (suc k) y l = let i = times_set x xs k y (omega arith) in omega arith

pub degree_set : (net : Net) (v : ℕ) (xs : List ℕ) (k y : ℕ) → k < length xs → degree net v (set xs k y) + cond {A = ℕ} (is_end net v (get_or xs k 0)) 1 0 ≡ degree net v xs + cond {A = ℕ} (is_end net v y) 1 0
degree_set net v [] k y l = absurd (omega arith)
degree_set net v (z ∷ xs) zero y l = omega arith
degree_set net v (z ∷ xs) (suc k) y l = let i = degree_set net v xs k y (omega arith) in omega arith

pub degree_append : (net : Net) (v : ℕ) (xs ys : List ℕ) → degree net v (xs ++ ys) ≡ degree net v xs + degree net v ys
degree_append net v [] ys = omega arith
degree_append net v (x ∷ xs) ys = let i = degree_append net v xs ys in omega arith

-- what is in the changed list is new or was there
pub set_has : (x : ℕ) (xs : List ℕ) (k y : ℕ) → k < length xs → 1 ≤ times x (set xs k y) → (x ≡ y) ⊎ (1 ≤ times x xs)
set_has x xs k y l h = elim (cases_eq x y) [
  | inl e ↦ inl e
  | inr ne ↦ inr (let t = times_set x xs k y l in
      let c : cond {A = ℕ} (eqb x y) 1 0 ≡ 0 = ap (λ (b : Bool). cond {A = ℕ} b 1 0) (ne_eqb x y ne) in omega arith)
]

pub set_keeps : (x : ℕ) (xs : List ℕ) (k y : ℕ) → k < length xs → (x ≡ get_or xs k 0 → ⊥) → 1 ≤ times x xs → 1 ≤ times x (set xs k y)
set_keeps x xs k y l ne h =
    let t = times_set x xs k y l in
    let c : cond {A = ℕ} (eqb x (get_or xs k 0)) 1 0 ≡ 0 = ap (λ (b : Bool). cond {A = ℕ} b 1 0) (ne_eqb x (get_or xs k 0) ne) in
    omega arith

-- ---- an edge's ends counted
either_bit : (a b : Bool) → (a ≡ true → b ≡ true → ⊥) → cond {A = ℕ} (a || b) 1 0 ≡ cond {A = ℕ} a 1 0 + cond {A = ℕ} b 1 0
either_bit true true h = absurd (h refl refl)
either_bit true false h = refl
either_bit false b h = omega arith

same : ℕ → ℕ → ℕ
same x y = cond (eqb x y) 1 0

same_yes : (x y : ℕ) → x ≡ y → same x y ≡ 1
unfolding same
same_yes x y e = ap (λ (b : Bool). cond {A = ℕ} b 1 0) (eq-eqb x y e)

same_no : (x y : ℕ) → (x ≡ y → ⊥) → same x y ≡ 0
unfolding same
same_no x y e = ap (λ (b : Bool). cond {A = ℕ} b 1 0) (ne_eqb x y e)

eqb_true : (x y : ℕ) → eqb x y ≡ true → x ≡ y
eqb_true x y t = elim (cases_eq x y) [ inl e ↦ e | inr ne ↦ absurd (true≢false (sym t ∙ ne_eqb x y ne)) ]

joins_count : (net : Net) (e a b v : ℕ) → Joins net e a b → cond {A = ℕ} (is_end net v e) 1 0 ≡ same a v + same b v
unfolding same
joins_count net e a b v j =
    let o = either_bit (eqb (source net e) v) (eqb (target net e) v) in
    elim j.ends [
      | inl q ↦ (let s : cond {A = ℕ} (eqb (source net e) v) 1 0 ≡ cond {A = ℕ} (eqb a v) 1 0 = ap (λ (x : ℕ). cond {A = ℕ} (eqb x v) 1 0) q.0 in
          let t : cond {A = ℕ} (eqb (target net e) v) 1 0 ≡ cond {A = ℕ} (eqb b v) 1 0 = ap (λ (x : ℕ). cond {A = ℕ} (eqb x v) 1 0) q.1 in
          let r = o (λ x y. j.apart (sym q.0 ∙ eqb_true (source net e) v x ∙ sym (eqb_true (target net e) v y) ∙ q.1)) in omega arith)
      | inr q ↦ (let s : cond {A = ℕ} (eqb (source net e) v) 1 0 ≡ cond {A = ℕ} (eqb b v) 1 0 = ap (λ (x : ℕ). cond {A = ℕ} (eqb x v) 1 0) q.0 in
          let t : cond {A = ℕ} (eqb (target net e) v) 1 0 ≡ cond {A = ℕ} (eqb a v) 1 0 = ap (λ (x : ℕ). cond {A = ℕ} (eqb x v) 1 0) q.1 in
          let r = o (λ x y. j.apart (sym q.1 ∙ eqb_true (target net e) v y ∙ sym (eqb_true (source net e) v x) ∙ q.0)) in omega arith)
    ]

joins_loop : (net : Net) (e a b : ℕ) → Joins net e a b → source net e ≡ target net e → ⊥
joins_loop net e a b j l = elim j.ends [ inl q ↦ j.apart (sym q.0 ∙ l ∙ q.1) | inr q ↦ j.apart (sym q.1 ∙ sym l ∙ q.0) ]

-- ---- the matching moved by two edges of a path
pub record IsMoved (net : Net) (edges : List ℕ) (from to : ℕ) (after : List ℕ) : Type 0 where
  pub matching : IsMatching net after
  pub long : length after ≡ length edges
  pub moved : (v : ℕ) → degree net v after + cond {A = ℕ} (eqb to v) 1 0 ≡ degree net v edges + cond {A = ℕ} (eqb from v) 1 0

swapped_degree : (net : Net) (edges : List ℕ) (k out a b c v : ℕ) → k < length edges → Joins net out a b → Joins net (get_or edges k 0) b c
    → degree net v (set edges k out) + cond {A = ℕ} (eqb c v) 1 0 ≡ degree net v edges + cond {A = ℕ} (eqb a v) 1 0
unfolding same joins_count
swapped_degree net edges k out a b c v l j h =
    let d = degree_set net v edges k out l in
    let o = joins_count net out a b v j in
    let i = joins_count net (get_or edges k 0) b c v h in
    omega arith

one_or_free : (net : Net) (edges : List ℕ) (a v : ℕ) → IsMatching net edges → IsFree net edges a → degree net v edges + cond {A = ℕ} (eqb a v) 1 0 ≤ 1
one_or_free net edges a v m f = elim (cases_eq a v) [
  | inl e ↦ (let d : degree net a edges ≡ degree net v edges = ap (λ (x : ℕ). degree net x edges) e in
      let c : cond {A = ℕ} (eqb a v) 1 0 ≡ 1 = ap (λ (b : Bool). cond {A = ℕ} b 1 0) (eq-eqb a v e) in omega arith)
  | inr ne ↦ (let c : cond {A = ℕ} (eqb a v) 1 0 ≡ 0 = ap (λ (b : Bool). cond {A = ℕ} b 1 0) (ne_eqb a v ne) in let h = m.apart v in omega arith)
]

pub swapped : (net : Net) (edges : List ℕ) (k out a b c : ℕ) → IsMatching net edges → IsFree net edges a → k < length edges → Joins net out a b → Joins net (get_or edges k 0) b c
    → IsMoved net edges a c (set edges k out)
swapped net edges k out a b c m f l j h = record {
  matching = record {
    among = All_from (λ edge. edge < length net.arcs) (set edges k out) (λ e t. elim (set_has e edges k out l t) [
      | inl s ↦ (let q = j.among in omega arith)
      | inr o ↦ All_at (λ edge. edge < length net.arcs) edges e m.among o
    ]);
    loops = All_from (λ edge. source net edge ≢ target net edge) (set edges k out) (λ e t. elim (set_has e edges k out l t) [
      | inl s ↦ subst (λ (x : ℕ). source net x ≢ target net x) (sym s) (joins_loop net out a b j)
      | inr o ↦ All_at (λ edge. source net edge ≢ target net edge) edges e m.loops o
    ]);
    apart = λ v. (let d = swapped_degree net edges k out a b c v l j h in let o = one_or_free net edges a v m f in omega arith);
  };
  long = length-set edges k out;
  moved = λ v. swapped_degree net edges k out a b c v l j h;
}

pub moved_free : (net : Net) (edges after : List ℕ) (a w : ℕ) → IsMatching net edges → IsFree net edges a → IsMoved net edges a w after → IsFree net after w
moved_free net edges after a w m f r =
    let d = r.moved w in
    let o = one_or_free net edges a w m f in
    let c : cond {A = ℕ} (eqb w w) 1 0 ≡ 1 = ap (λ (b : Bool). cond {A = ℕ} b 1 0) (eq-eqb w w refl) in
    omega arith

-- another free node stays free
pub moved_other : (net : Net) (edges after : List ℕ) (a w x : ℕ) → IsFree net edges x → (a ≡ x → ⊥) → IsMoved net edges a w after → IsFree net after x
moved_other net edges after a w x f ne r =
    let d = r.moved x in
    let c : cond {A = ℕ} (eqb a x) 1 0 ≡ 0 = ap (λ (b : Bool). cond {A = ℕ} b 1 0) (ne_eqb a x ne) in
    omega arith

-- ---- the rest of the path alternates over the moved matching
not_again : (net : Net) (e f b c d g : ℕ) (vs : List ℕ) → Joins net e b c → Joins net f d g → times b (d ∷ g ∷ vs) ≡ 0 → f ≡ e → ⊥
not_again net e f b c d g vs j h z s =
    let nd : b ≡ d → ⊥ = λ q. (let t = times_same b d (g ∷ vs) q in absurd (omega arith)) in
    let ng : b ≡ g → ⊥ = λ q. (let t = times_other b d (g ∷ vs) nd in let u = times_same b g vs q in absurd (omega arith)) in
    let x = joins_count net e b c b j in
    let y = joins_count net f d g b h in
    let e1 : cond {A = ℕ} (is_end net b f) 1 0 ≡ cond {A = ℕ} (is_end net b e) 1 0 = ap (λ (k : ℕ). cond {A = ℕ} (is_end net b k) 1 0) s in
    let s1 = same_yes b b refl in
    let s2 = same_no d b (λ q. nd (sym q)) in
    let s3 = same_no g b (λ q. ng (sym q)) in
    absurd (omega arith)

pub even_kept : (net : Net) (edges : List ℕ) (k out b c : ℕ) → k < length edges → Joins net (get_or edges k 0) b c
    → (es : List ℕ) (a : ℕ) (vs : List ℕ) (w : ℕ) → times b vs ≡ 0 → IsEvenPath net edges a es vs w → IsEvenPath net (set edges k out) a es vs w
even_kept net edges k out b c l j [] a [] w z p = p
even_kept net edges k out b c l j [] a (d ∷ vs) w z p = absurd p
even_kept net edges k out b c l j (e ∷ []) a vs w z p = absurd p
even_kept net edges k out b c l j (e ∷ f ∷ es) a [] w z p = absurd p
even_kept net edges k out b c l j (e ∷ f ∷ es) a (d ∷ []) w z p = absurd p
even_kept net edges k out b c l j (e ∷ f ∷ es) a (d ∷ g ∷ vs) w z p = (
  p.0,
  p.1,
  set_keeps f edges k out l (λ s. not_again net (get_or edges k 0) f b c d g vs j p.1 z s) p.2,
  even_kept net edges k out b c l j es g vs w (omega arith) p.3,
)

pub odd_kept : (net : Net) (edges : List ℕ) (k out b c : ℕ) → k < length edges → Joins net (get_or edges k 0) b c
    → (es : List ℕ) (a : ℕ) (vs : List ℕ) (w : ℕ) → times b vs ≡ 0 → IsOddPath net edges a es vs w → IsOddPath net (set edges k out) a es vs w
odd_kept net edges k out b c l j [] a vs w z p = absurd p
odd_kept net edges k out b c l j (e ∷ []) a [] w z p = p
odd_kept net edges k out b c l j (e ∷ []) a (u ∷ vs) w z p = absurd p
odd_kept net edges k out b c l j (e ∷ f ∷ es) a [] w z p = absurd p
odd_kept net edges k out b c l j (e ∷ f ∷ es) a (d ∷ []) w z p = absurd p
odd_kept net edges k out b c l j (e ∷ f ∷ es) a (d ∷ g ∷ vs) w z p = (
  p.0,
  p.1,
  set_keeps f edges k out l (λ s. not_again net (get_or edges k 0) f b c d g vs j p.1 z s) p.2,
  odd_kept net edges k out b c l j es g vs w (omega arith) p.3,
)

-- ---- one step of an augmentation
pub record IsShifted (net : Net) (edges path after : List ℕ) : Type 0 where
  pub matching : IsMatching net after
  pub long : length after ≡ length edges
  pub rest : IsAugmenting net after path

shift_at : (net : Net) (edges : List ℕ) (out back k : ℕ) (path : List ℕ) (from to : ℕ) (nodes : List ℕ) → IsMatching net edges → IsFree net edges from → IsFree net edges to
    → IsOddPath net edges from (out ∷ back ∷ path) nodes to → IsSimple (to ∷ from ∷ nodes) → k < length edges → get_or edges k 0 ≡ back → IsShifted net edges path (set edges k out)
shift_at net edges out back k path from to [] m ff tf p s l e = absurd p
shift_at net edges out back k path from to (d ∷ []) m ff tf p s l e = absurd p
shift_at net edges out back k path from to (d ∷ g ∷ vs) m ff tf p s l e =
    let j : Joins net (get_or edges k 0) d g = subst (λ (x : ℕ). Joins net x d g) (sym e) p.1 in
    let r = swapped net edges k out from d g m ff l p.0 j in
    let z : times d vs ≡ 0 = (let h = s d in let t = times_same d d (g ∷ vs) refl in omega arith) in
    record {
      matching = r.matching;
      long = r.long;
      rest = record {
        from = g;
        to = to;
        nodes = vs;
        from_free = moved_free net edges (set edges k out) from g m ff r;
        to_free = moved_other net edges (set edges k out) from g to tf (λ q. (let h = s from in let t = times_same from to (from ∷ d ∷ g ∷ vs) q in let u = times_same from from (d ∷ g ∷ vs) refl in absurd (omega arith))) r;
        odd = odd_kept net edges k out d g l j path g vs to z p.3;
        simple = λ v. (let h = s v in omega arith);
      };
    }

pub shifted : (net : Net) (edges : List ℕ) (out back k : ℕ) (path : List ℕ) → IsMatching net edges → IsAugmenting net edges (out ∷ back ∷ path) → k < length edges → get_or edges k 0 ≡ back
    → IsShifted net edges path (set edges k out)
shifted net edges out back k path m a l e = shift_at net edges out back k path a.from a.to a.nodes m a.from_free a.to_free a.odd a.simple l e

-- the last edge joins two free nodes
last_apart : (net : Net) (edges : List ℕ) (e from to v : ℕ) → IsMatching net edges → IsFree net edges from → IsFree net edges to → Joins net e from to → degree net v (edges ++ e ∷ []) ≤ 1
unfolding same joins_count
last_apart net edges e from to v m ff tf j =
    let d = degree_append net v edges (e ∷ []) in
    let c = joins_count net e from to v j in
    let o1 = one_or_free net edges from v m ff in
    let o2 = one_or_free net edges to v m tf in
    let b : cond {A = ℕ} (eqb from v) 1 0 + cond {A = ℕ} (eqb to v) 1 0 ≤ 1 = elim (cases_eq from v) [
      | inl q ↦ (let y : cond {A = ℕ} (eqb to v) 1 0 ≡ 0 = ap (λ (x : Bool). cond {A = ℕ} x 1 0) (ne_eqb to v (λ w. j.apart (q ∙ sym w))) in omega arith)
      | inr ne ↦ (let y : cond {A = ℕ} (eqb from v) 1 0 ≡ 0 = ap (λ (x : Bool). cond {A = ℕ} x 1 0) (ne_eqb from v ne) in omega arith)
    ] in
    omega arith

last_at : (net : Net) (edges : List ℕ) (e from to : ℕ) (nodes : List ℕ) → IsMatching net edges → IsFree net edges from → IsFree net edges to → IsOddPath net edges from (e ∷ []) nodes to → IsMatching net (edges ++ e ∷ [])
last_at net edges e from to (u ∷ vs) m ff tf p = absurd p
last_at net edges e from to [] m ff tf p =
    let has : (x : ℕ) → 1 ≤ times x (edges ++ e ∷ []) → (x ≡ e) ⊎ (1 ≤ times x edges) = λ x t. (let a = times_append x edges (e ∷ []) in elim (cases_eq x e) [
      | inl q ↦ inl q
      | inr ne ↦ inr (let o = times_other x e [] ne in omega arith)
    ]) in
    record {
      among = All_from (λ edge. edge < length net.arcs) (edges ++ e ∷ []) (λ x t. elim (has x t) [
        | inl s ↦ (let q = p.among in omega arith)
        | inr o ↦ All_at (λ edge. edge < length net.arcs) edges x m.among o
      ]);
      loops = All_from (λ edge. source net edge ≢ target net edge) (edges ++ e ∷ []) (λ x t. elim (has x t) [
        | inl s ↦ subst (λ (y : ℕ). source net y ≢ target net y) (sym s) (joins_loop net e from to p)
        | inr o ↦ All_at (λ edge. source net edge ≢ target net edge) edges x m.loops o
      ]);
      apart = λ v. last_apart net edges e from to v m ff tf p;
    }

pub last_matching : (net : Net) (edges : List ℕ) (e : ℕ) → IsMatching net edges → IsAugmenting net edges (e ∷ []) → IsMatching net (edges ++ e ∷ [])
last_matching net edges e m a = last_at net edges e a.from a.to a.nodes m a.from_free a.to_free a.odd
