-- Paths of a contracted net back in the larger one.
use Rattle.std.proofs.Common.{◌≡◌, inl, inr, ℕ, ◌<◌, ◌≤◌, Bool, true, false, eqb, List, [], ◌∷◌, ◌++◌, map, get_or, refl, sym, ◌∙◌, ap, subst, arith}
use Rattle.std.proofs.lemmas.Bool.{cases_eq, eq-eqb, eqb-true}
use Rattle.graph_defs.specs.declared.net.Net.{Net}
use Rattle.graph_defs.specs.Count.{times}
use Rattle.graph_defs.proofs.Counts.{times_same, times_other, times_append}
use Rattle.match_core.specs.Path.{Joins, IsEvenPath, IsOddPath, IsSimple}
use Rattle.blossom_lift.proofs.Ranks.{bool_cases}
use Rattle.blossom_lift.proofs.Degrees.{bit_le}
use Rattle.blossom_lift.proofs.Views.{IsView, stands, first_joins, outer_joins, matched_joins, left_in}
use Rattle.blossom_lift.proofs.Paths.{even_last}

first_once : (x y : ℕ) (xs : List ℕ) → IsSimple (x ∷ xs) → 1 ≤ times y xs → x ≡ y → ⊥
first_once x y xs s t e =
    let h = s y in
    let k = times_same y x xs (sym e) in
    omega arith

pub lift_even : (net : Net) (edges : List ℕ) (p : ℕ → Bool) (base : ℕ) (small : Net) (left : List ℕ) (img back : ℕ → ℕ) (hub : ℕ) → IsView net edges p base small left img back hub
    → (es : List ℕ) (x : ℕ) (vs : List ℕ) (y : ℕ) → IsEvenPath small left x es vs y → y ≡ hub → IsSimple (x ∷ vs)
    → IsEvenPath net edges (back x) es (map back vs) (back y)
lift_even net edges p base small left img back hub v [] x [] y q e s = ap back q
lift_even net edges p base small left img back hub v [] x (d ∷ vs) y q e s = absurd q
lift_even net edges p base small left img back hub v (out ∷ []) x vs y q e s = absurd q
lift_even net edges p base small left img back hub v (out ∷ along ∷ es) x [] y q e s = absurd q
lift_even net edges p base small left img back hub v (out ∷ along ∷ es) x (d ∷ []) y q e s = absurd q
lift_even net edges p base small left img back hub v (out ∷ along ∷ es) x (d ∷ g ∷ vs) y q e s =
    let t = even_last small left es g vs y q.3 in
    let r : IsSimple (d ∷ g ∷ vs) = λ w. let h = s w in omega arith in
    let nx : x ≡ hub → ⊥ = λ h. first_once x y (d ∷ g ∷ vs) s (omega arith) (h ∙ sym e) in
    let nd : d ≡ hub → ⊥ = λ h. first_once d y (g ∷ vs) r t (h ∙ sym e) in (
      outer_joins net edges p base small left img back hub out x d v q.0 nx nd,
      matched_joins net edges p base small left img back hub along d g v q.2 q.1,
      left_in net edges p base small left img back hub along v q.2,
      lift_even net edges p base small left img back hub v es g vs y q.3 e (λ w. let h = r w in omega arith),
    )

-- a path from x, by a node with that image at which its first edge ends
pub record HasLift (net : Net) (edges : List ℕ) (p : ℕ → Bool) (img back : ℕ → ℕ) (x : ℕ) (es vs : List ℕ) (z : ℕ) : Type 0 where
  pub from : ℕ
  pub below : from < net.n
  pub image : img from ≡ x
  pub next : ℕ
  pub out : p next ≡ false
  pub first : Joins net (get_or es 0 0) from next
  pub path : IsOddPath net edges from es (map back vs) (back z)

pub back_out : (net : Net) (edges : List ℕ) (p : ℕ → Bool) (base : ℕ) (small : Net) (left : List ℕ) (img back : ℕ → ℕ) (hub y : ℕ) → IsView net edges p base small left img back hub
    → y ≤ hub → (y ≡ hub → ⊥) → p (back y) ≡ false
back_out net edges p base small left img back hub y v l ne = elim (bool_cases (p (back y))) [
  | inl t ↦ absurd (ne (sym (v.img_back y l) ∙ v.img_in (back y) t))
  | inr f ↦ f
]

pub lift_odd : (net : Net) (edges : List ℕ) (p : ℕ → Bool) (base : ℕ) (small : Net) (left : List ℕ) (img back : ℕ → ℕ) (hub : ℕ) → IsView net edges p base small left img back hub
    → (es : List ℕ) (x : ℕ) (vs : List ℕ) (z : ℕ) → IsOddPath small left x es vs z → ((y : ℕ) → 1 ≤ times y (z ∷ vs) → y < hub)
    → HasLift net edges p img back x es vs z
lift_odd net edges p base small left img back hub v [] x vs z q o = absurd q
lift_odd net edges p base small left img back hub v (e ∷ []) x [] z q o =
    let l : z < hub = o z (let t = times_same z z [] refl in omega arith) in
    let f = first_joins net edges p base small left img back hub e x z v q (λ k. absurd (omega arith)) in
    record {
      from = f.from;
      below = f.below;
      image = f.image;
      next = back z;
      out = back_out net edges p base small left img back hub z v (omega arith) (λ k. absurd (omega arith));
      first = f.joins;
      path = f.joins;
    }
lift_odd net edges p base small left img back hub v (e ∷ []) x (u ∷ vs) z q o = absurd q
lift_odd net edges p base small left img back hub v (e ∷ g ∷ es) x [] z q o = absurd q
lift_odd net edges p base small left img back hub v (e ∷ g ∷ es) x (d ∷ []) z q o = absurd q
lift_odd net edges p base small left img back hub v (e ∷ g ∷ es) x (d ∷ c ∷ vs) z q o =
    let ld : d < hub = o d (let t = times_same d d (c ∷ vs) refl in omega arith) in
    let lc : c < hub = o c (let t = times_same c c vs refl in omega arith) in
    let f = first_joins net edges p base small left img back hub e x d v q.0 (λ k. absurd (omega arith)) in
    let m = matched_joins net edges p base small left img back hub g d c v q.2 q.1 in
    let i = lift_odd net edges p base small left img back hub v es c vs z q.3 (λ y t. o y (omega arith)) in
    let s = stands net edges p base small left img back hub i.from c v i.below i.image (λ k. absurd (omega arith)) in
    record {
      from = f.from;
      below = f.below;
      image = f.image;
      next = back d;
      out = back_out net edges p base small left img back hub d v (omega arith) (λ k. absurd (omega arith));
      first = f.joins;
      path = (
        f.joins,
        m,
        left_in net edges p base small left img back hub g v q.2,
        subst (λ (w : ℕ). IsOddPath net edges w es (map back vs) (back z)) s i.path,
      );
    }

-- ---- nodes of what comes back
pub times_back : (net : Net) (edges : List ℕ) (p : ℕ → Bool) (base : ℕ) (small : Net) (left : List ℕ) (img back : ℕ → ℕ) (hub w : ℕ) → IsView net edges p base small left img back hub
    → (ys : List ℕ) → ((y : ℕ) → 1 ≤ times y ys → y ≤ hub) → times w (map back ys) ≤ times (img w) ys
times_back net edges p base small left img back hub w v [] h = omega arith
times_back net edges p base small left img back hub w v (y ∷ ys) h =
    let i = times_back net edges p base small left img back hub w v ys (λ x t. h x (omega arith)) in
    let l : y ≤ hub = h y (let t = times_same y y ys refl in omega arith) in
    let b = bit_le (eqb w (back y)) (eqb (img w) y) (λ t. eq-eqb (img w) y (ap img (eqb-true w (back y) t) ∙ v.img_back y l)) in
    omega arith

pub times_inside : (net : Net) (edges : List ℕ) (p : ℕ → Bool) (base : ℕ) (small : Net) (left : List ℕ) (img back : ℕ → ℕ) (hub w : ℕ) → IsView net edges p base small left img back hub
    → p w ≡ true → (w ≡ base → ⊥) → (ys : List ℕ) → times w (map back ys) ≡ 0
times_inside net edges p base small left img back hub w v t ne [] = refl
times_inside net edges p base small left img back hub w v t ne (y ∷ ys) =
    let i = times_inside net edges p base small left img back hub w v t ne ys in
    let o = times_other w (back y) (map back ys) (λ e. ne (e ∙ v.back_sole y (ap p (sym e) ∙ t))) in
    omega arith

-- a way through the blossom put in: the nodes before and behind it are of a simple path
pub lift_simple : (net : Net) (edges : List ℕ) (p : ℕ → Bool) (base : ℕ) (small : Net) (left : List ℕ) (img back : ℕ → ℕ) (hub : ℕ) → IsView net edges p base small left img back hub
    → (x z : ℕ) (before behind ws rest : List ℕ) → ((y : ℕ) → 1 ≤ times y (z ∷ x ∷ (before ++ behind)) → y ≤ hub) → IsSimple (z ∷ x ∷ (before ++ behind))
    → IsSimple (base ∷ rest) → ((w : ℕ) → p w ≡ false → times w rest ≡ 0) → ((w : ℕ) → times w ws ≤ times w rest)
    → IsSimple (back z ∷ back x ∷ (map back before ++ (ws ++ map back behind)))
lift_simple net edges p base small left img back hub v x z before behind ws rest h s c o t w =
    let a1 = times_append w (map back before) (ws ++ map back behind) in
    let a2 = times_append w ws (map back behind) in
    let a3 = times_append (img w) before behind in
    let l1 = times_back net edges p base small left img back hub w v (z ∷ x ∷ before) (λ y k. h y (let q = times_append y before behind in omega arith)) in
    let l2 = times_back net edges p base small left img back hub w v behind (λ y k. h y (let q = times_append y before behind in omega arith)) in
    let si = s (img w) in
    let tw = t w in
    let cw = c w in
    elim (bool_cases (p w)) [
      | inr f ↦ (let n = o w f in omega arith)
      | inl y ↦ elim (cases_eq w base) [
        | inl e ↦ (let k = times_same w base rest e in omega arith)
        | inr ne ↦ (let i1 = times_inside net edges p base small left img back hub w v y ne (z ∷ x ∷ before) in
            let i2 = times_inside net edges p base small left img back hub w v y ne behind in
            let k = times_other w base rest ne in omega arith)
      ]
    ]
