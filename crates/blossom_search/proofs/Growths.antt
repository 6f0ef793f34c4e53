-- One arc more at the end of a stem: a longer stem, an augmenting path, or a blossom with its stem.
use Rattle.std.proofs.Common.{◌≡◌, inl, inr, ℕ, zero, suc, ◌+◌, ◌<◌, ◌≤◌, Bool, true, cond, eqb, List, [], ◌∷◌, ◌++◌, length, get_or, take, drop, refl, sym, ◌∙◌, ap, subst, arith}
use Rattle.std.proofs.lemmas.Bool.{cases_eq, eq-eqb}
use Rattle.graph_defs.specs.declared.net.Net.{Net}
use Rattle.graph_defs.specs.Count.{times}
use Rattle.graph_defs.specs.Matching.{IsMatching}
use Rattle.graph_defs.proofs.Counts.{times_same, times_other, times_append}
use Rattle.match_core.specs.Path.{IsFree, Joins, IsEvenPath, IsOddPath, IsStem, IsAugmenting}
use Rattle.blossom_lift.specs.Contraction.{inside}
use Rattle.blossom_search.specs.Growth.{even_count, IsFlower}
use Rattle.blossom_lift.proofs.Degrees.{All_from, degree_has, one_edge_at}
use Rattle.blossom_lift.proofs.Views.{joins_turned, joins_end}
use Rattle.blossom_lift.proofs.Paths.{even_odd}
use Rattle.blossom_lift.proofs.Contracting.{inside_has, joins_only}

pub bit_same : (x a : ℕ) → x ≡ a → cond {A = ℕ} (eqb x a) 1 0 ≡ 1
bit_same x a e = ap (λ (b : Bool). cond {A = ℕ} b 1 0) (eq-eqb x a e)

even_head : (a : ℕ) (vs : List ℕ) → 1 ≤ even_count a a vs
even_head a [] = let b = bit_same a a refl in omega arith
even_head a (d ∷ []) = let b = bit_same a a refl in omega arith
even_head a (d ∷ g ∷ vs) = let b = bit_same a a refl in omega arith

-- a node of the path at no even place has its edge of the matching on the path, and its mate at one
pub record HasPartner (net : Net) (m : List ℕ) (a : ℕ) (vs : List ℕ) (x : ℕ) : Type 0 where
  pub edge : ℕ
  pub mate : ℕ
  pub has : 1 ≤ times edge m
  pub joins : Joins net edge x mate
  pub even : 1 ≤ even_count mate a vs

partner_later : (net : Net) (m : List ℕ) (a d g : ℕ) (vs : List ℕ) (x : ℕ) → HasPartner net m g vs x → HasPartner net m a (d ∷ g ∷ vs) x
partner_later net m a d g vs x h = record { edge = h.edge; mate = h.mate; has = h.has; joins = h.joins; even = (let e = h.even in omega arith) }

pub partner : (net : Net) (m : List ℕ) (es : List ℕ) (a : ℕ) (vs : List ℕ) (w x : ℕ) → IsEvenPath net m a es vs w → 1 ≤ times x (a ∷ vs) → even_count x a vs ≡ 0 → HasPartner net m a vs x
partner net m [] a [] w x p t z = elim (cases_eq x a) [
  | inl e ↦ (let b = bit_same x a e in absurd (omega arith))
  | inr ne ↦ (let o = times_other x a [] ne in absurd (omega arith))
]
partner net m [] a (d ∷ vs) w x p t z = absurd p
partner net m (e ∷ []) a vs w x p t z = absurd p
partner net m (e ∷ f ∷ es) a [] w x p t z = absurd p
partner net m (e ∷ f ∷ es) a (d ∷ []) w x p t z = absurd p
partner net m (e ∷ f ∷ es) a (d ∷ g ∷ vs) w x p t z = elim (cases_eq x a) [
  | inl s ↦ (let b = bit_same x a s in absurd (omega arith))
  | inr na ↦ elim (cases_eq x d) [
    | inl s ↦ record { edge = f; mate = g; has = p.2; joins = subst (λ (y : ℕ). Joins net f y g) (sym s) p.1; even = (let h = even_head g vs in omega arith) }
    | inr nd ↦ (let o = times_other x a (d ∷ g ∷ vs) na in let q = times_other x d (g ∷ vs) nd in
        partner_later net m a d g vs x (partner net m es g vs w x p.3 (omega arith) (omega arith)))
  ]
]

-- an edge has one other end
pub other_same : (net : Net) (e a b c : ℕ) → Joins net e a b → Joins net e a c → b ≡ c
other_same net e a b c j k = elim (joins_only net e a c b k (joins_end net e b a (joins_turned net e a b j))) [
  | inl h ↦ absurd (j.apart (sym h))
  | inr h ↦ h
]

pub mate_is : (net : Net) (m : List ℕ) (f g y h e : ℕ) → IsMatching net m → 1 ≤ times f m → Joins net f y g → 1 ≤ times e m → Joins net e y h → g ≡ h
mate_is net m f g y h e m2 tf jf te je =
    let s = one_edge_at net y f e m m2 tf te (joins_end net f y g jf) (joins_end net e y h je) in
    other_same net f y g h jf (subst (λ (x : ℕ). Joins net x y h) (sym s) je)

none_cases : (k : ℕ) → (k ≡ 0 → ⊥) → 1 ≤ k
none_cases k h = elim (cases_eq k 0) [ inl e ↦ absurd (h e) | inr ne ↦ omega arith ]

pub zero_or : (k : ℕ) → (1 ≤ k → ⊥) → k ≡ 0
zero_or k h = elim (cases_eq k 0) [ inl e ↦ e | inr ne ↦ absurd (h (omega arith)) ]

-- a node whose mate isn't at an even place isn't on the path either
off_path : (net : Net) (m es : List ℕ) (a : ℕ) (vs : List ℕ) (w f y g : ℕ) → IsMatching net m → IsEvenPath net m a es vs w → 1 ≤ times f m → Joins net f y g
    → even_count y a vs ≡ 0 → even_count g a vs ≡ 0 → times y (a ∷ vs) ≡ 0
off_path net m es a vs w f y g m2 p tf j zy zg = zero_or (times y (a ∷ vs)) (λ t.
    let h = partner net m es a vs w y p t zy in
    let s = mate_is net m f g y h.mate h.edge m2 tf j h.has h.joins in
    let e : even_count g a vs ≡ even_count h.mate a vs = ap (λ (x : ℕ). even_count x a vs) s in
    let k = h.even in
    absurd (omega arith))

even_more : (net : Net) (m : List ℕ) (es : List ℕ) (a : ℕ) (vs : List ℕ) (v e f y g : ℕ) → IsEvenPath net m a es vs v → Joins net e v y → Joins net f y g → 1 ≤ times f m
    → IsEvenPath net m a (es ++ e ∷ f ∷ []) (vs ++ y ∷ g ∷ []) g
even_more net m [] a [] v e f y g p j k t = (subst (λ (x : ℕ). Joins net e x y) (sym p) j, k, t, refl)
even_more net m [] a (d ∷ vs) v e f y g p j k t = absurd p
even_more net m (x ∷ []) a vs v e f y g p j k t = absurd p
even_more net m (x ∷ z ∷ es) a [] v e f y g p j k t = absurd p
even_more net m (x ∷ z ∷ es) a (d ∷ []) v e f y g p j k t = absurd p
even_more net m (x ∷ z ∷ es) a (d ∷ c ∷ vs) v e f y g p j k t = (p.0, p.1, p.2, even_more net m es c vs v e f y g p.3 j k t)

pub stem_more : (net : Net) (m path : List ℕ) (a v : ℕ) (nodes : List ℕ) (e f y g : ℕ) → IsMatching net m → IsStem net m path a v nodes → Joins net e v y → Joins net f y g → 1 ≤ times f m
    → even_count y a nodes ≡ 0 → even_count g a nodes ≡ 0 → IsStem net m (path ++ e ∷ f ∷ []) a g (nodes ++ y ∷ g ∷ [])
stem_more net m path a v nodes e f y g m2 s j k t zy zg =
    let oy = off_path net m path a nodes v f y g m2 s.even t k zy zg in
    let og = off_path net m path a nodes v f g y m2 s.even t (joins_turned net f y g k) zg zy in
    record {
      free = s.free;
      even = even_more net m path a nodes v e f y g s.even j k t;
      simple = λ x. (
          let c = times_append x nodes (y ∷ g ∷ []) in
          let h = s.simple x in
          elim (cases_eq x y) [
            | inl q ↦ (let r : times x (a ∷ nodes) ≡ times y (a ∷ nodes) = ap (λ (z : ℕ). times z (a ∷ nodes)) q in
                let u = times_same x y (g ∷ []) q in let w = times_other x g [] (λ z. k.apart (sym q ∙ z)) in omega arith)
            | inr ne ↦ (let u = times_other x y (g ∷ []) ne in elim (cases_eq x g) [
              | inl q ↦ (let r : times x (a ∷ nodes) ≡ times g (a ∷ nodes) = ap (λ (z : ℕ). times z (a ∷ nodes)) q in let w = times_same x g [] q in omega arith)
              | inr nf ↦ (let w = times_other x g [] nf in omega arith)
            ])
          ]);
    }

pub stem_end : (net : Net) (m path : List ℕ) (a v : ℕ) (nodes : List ℕ) (e z : ℕ) → IsMatching net m → IsStem net m path a v nodes → Joins net e v z → IsFree net m z → even_count z a nodes ≡ 0
    → IsAugmenting net m (path ++ e ∷ [])
stem_end net m path a v nodes e z m2 s j f zz =
    let off : times z (a ∷ nodes) ≡ 0 = zero_or (times z (a ∷ nodes)) (λ t.
    let h = partner net m path a nodes v z s.even t zz in
    let d = degree_has net z h.edge m h.has (joins_end net h.edge z h.mate h.joins) in
    absurd (omega arith)) in
    record {
      from = a;
      to = z;
      nodes = nodes ++ [];
      from_free = s.free;
      to_free = f;
      odd = even_odd net m path a nodes v (e ∷ []) [] z s.even j;
      simple = λ x. (let c = times_append x nodes [] in let h = s.simple x in elim (cases_eq x z) [
        | inl q ↦ (let r : times x (a ∷ nodes) ≡ times z (a ∷ nodes) = ap (λ (y : ℕ). times y (a ∷ nodes)) q in let u = times_same x z (a ∷ (nodes ++ [])) q in omega arith)
        | inr ne ↦ (let u = times_other x z (a ∷ (nodes ++ [])) ne in omega arith)
      ]);
    }

-- ---- a blossom, where the arc leads back to an even place
pub record IsEvenCut (net : Net) (m : List ℕ) (a : ℕ) (es vs : List ℕ) (w k : ℕ) : Type 0 where
  pub front : IsEvenPath net m a (take k es) (take k vs) (get_or (a ∷ vs) k 0)
  pub rest : IsEvenPath net m (get_or (a ∷ vs) k 0) (drop k es) (drop k vs) w

even_cut : (net : Net) (m : List ℕ) (i : ℕ) (es : List ℕ) (a : ℕ) (vs : List ℕ) (w : ℕ) → IsEvenPath net m a es vs w → i + i ≤ length vs → IsEvenCut net m a es vs w (i + i)
even_cut net m zero es a vs w p l = record { front = refl; rest = p }
even_cut net m (suc i) [] a [] w p l = absurd (omega arith)
even_cut net m (suc i) [] a (d ∷ vs) w p l = absurd p
even_cut net m (suc i) (e ∷ []) a vs w p l = absurd p
even_cut net m (suc i) (e ∷ f ∷ es) a [] w p l = absurd p
even_cut net m (suc i) (e ∷ f ∷ es) a (d ∷ []) w p l = absurd p
even_cut net m (suc i) (e ∷ f ∷ es) a (d ∷ g ∷ vs) w p l =
    let c = even_cut net m i es g vs w p.3 (omega arith) in
    let q : suc i + suc i ≡ suc (suc (i + i)) = omega arith in
    subst (IsEvenCut net m a (e ∷ f ∷ es) (d ∷ g ∷ vs) w) (sym q) (record { front = (p.0, p.1, p.2, c.front); rest = c.rest })

no_more : (xs : List ℕ) → xs ++ [] ≡ xs
no_more [] = refl
no_more (x ∷ xs) = ap (λ (ys : List ℕ). x ∷ ys) (no_more xs)

times_parts : (x : ℕ) (xs : List ℕ) (k : ℕ) → times x xs ≡ times x (take k xs) + times x (drop k xs)
times_parts x [] zero = omega arith
times_parts x [] (suc k) = omega arith
times_parts x (y ∷ xs) zero = omega arith
times_parts x (y ∷ xs) (suc k) = let i = times_parts x xs k in omega arith

times_place : (x : ℕ) (a : ℕ) (vs : List ℕ) (k : ℕ) → k ≤ length vs → times x (get_or (a ∷ vs) k 0 ∷ drop k vs) ≤ times x (a ∷ vs)
times_place x a vs zero l = omega arith
times_place x a [] (suc k) l = absurd (omega arith)
times_place x a (d ∷ vs) (suc k) l = let i = times_place x d vs k (omega arith) in omega arith

some_rest : (net : Net) (m : List ℕ) (y : ℕ) (es vs : List ℕ) (v : ℕ) → IsEvenPath net m y es vs v → (v ≡ y → ⊥) → 1 ≤ length vs
some_rest net m y [] [] v p ne = absurd (ne (sym p))
some_rest net m y [] (d ∷ vs) v p ne = absurd p
some_rest net m y (e ∷ []) vs v p ne = absurd p
some_rest net m y (e ∷ f ∷ es) [] v p ne = absurd p
some_rest net m y (e ∷ f ∷ es) (d ∷ vs) v p ne = omega arith

pub stem_round : (net : Net) (m path : List ℕ) (a v : ℕ) (nodes : List ℕ) (e y i : ℕ) → IsStem net m path a v nodes → a < net.n → Joins net e v y → i + i ≤ length nodes → get_or (a ∷ nodes) (i + i) 0 ≡ y
    → IsFlower net m path nodes e (i + i) y
stem_round net m path a v nodes e y i s low j l at =
    let k : ℕ = i + i in
    let c = even_cut net m i path a nodes v s.even l in
    let front : IsEvenPath net m a (take k path) (take k nodes) y = subst (λ (x : ℕ). IsEvenPath net m a (take k path) (take k nodes) x) at c.front in
    let rest : IsEvenPath net m y (drop k path) (drop k nodes) v = subst (λ (x : ℕ). IsEvenPath net m x (drop k path) (drop k nodes) v) at c.rest in
    let whole : (x : ℕ) → times x (y ∷ drop k nodes) ≤ times x (a ∷ nodes) = λ x. subst (λ (z : ℕ). times x (z ∷ drop k nodes) ≤ times x (a ∷ nodes)) at (times_place x a nodes k l) in
    record {
      blossom = record {
        round = subst (λ (us : List ℕ). IsOddPath net m y (drop k path ++ e ∷ []) us y) (no_more (drop k nodes)) (even_odd net m (drop k path) y (drop k nodes) v (e ∷ []) [] y rest j);
        simple = λ x. (let w = whole x in let h = s.simple x in omega arith);
        some = some_rest net m y (drop k path) (drop k nodes) v rest j.apart;
      };
      stem = record {
        from = a;
        path = take k path;
        nodes = take k nodes;
        below = low;
        stem = record { free = s.free; even = front; simple = λ x. (let h = s.simple x in let t = times_parts x nodes k in omega arith) };
        away = All_from (λ node. inside (y ∷ drop k nodes) node ≡ true → node ≡ y) (a ∷ take k nodes) (λ x t q. elim (cases_eq x y) [
          | inl q2 ↦ q2
          | inr ne ↦ (let h = inside_has (y ∷ drop k nodes) x q in let o = times_other x y (drop k nodes) ne in let u = times_parts x nodes k in let w = s.simple x in absurd (omega arith))
        ]);
      };
    }
