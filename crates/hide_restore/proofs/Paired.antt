-- The reversals of the graph that a plain graph describes.
use Rattle.std.proofs.Common.{◌≡◌, ℕ, zero, suc, ◌+◌, ◌<◌, ◌≤◌, ◌==◌, ◌&&◌, ◌⊎◌, Bool, true, false, cond, not, List, [], ◌∷◌, ◌++◌, length, Option, Some, None, option_map, refl, sym, ap, subst, ◌∙◌, inl, inr, arith}
use Rattle.std.proofs.lemmas.Bool.Decides.{nat_tests}
use Rattle.std.proofs.lemmas.Bool.{ltb-true, ltb-false}
use Rattle.std.specs.Prelude.{slice_get, nat_lt}
use Rattle.std.specs.Option.{option_map_or}
use Rattle.std.specs.FinMap as finite
use Rattle.std.specs.FinMap.{FinMap}
use Rattle.std.specs.Ordering.{nat_cmp}
use Rattle.graph_defs.specs.declared.plain.PlainEdge.{PlainEdge}
use Rattle.graph_defs.specs.Plain.{is_number, leads_back, may_have, is_paired, are_paired}
use Rattle.graph_state.specs.State.{GraphState}
use Rattle.graph_state.specs.Edits.{with_edge, unpaired, unpaired_at, paired}
use Rattle.graph_state.specs.Built.{paired_back, with_plain_edge, with_plain_edges}
use Rattle.graph_state.proofs.Built.{more_edge, more_plain}
use Rattle.graph_state.proofs.Has.{truth, not_both, none_some, some_same}
use Rattle.graph_state.proofs.Same.{nat_tells}
use Rattle.graph_state.proofs.Maps.{put_here, put_else}

-- r is the reversal of the edge of number i, and names it too
pub record IsMutual (all : List PlainEdge) (i r : ℕ) : Type 0 where
  apart : r ≡ i → ⊥
  partner : PlainEdge
  there : slice_get all r ≡ Some partner
  back : partner.rev ≡ Some i

both_true : (a b : Bool) → (a && b) ≡ true → (a ≡ true) × (b ≡ true)
both_true true b t = (refl, t)
both_true false b t = absurd (not_both t refl)

names : (o : Option ℕ) (i : ℕ) → is_number o i ≡ true → o ≡ Some i
names None i t = absurd (not_both t refl)
names (Some j) i t = elim (nat_tells j i) [ inl y ↦ ap Some y.1 | inr n ↦ absurd (not_both t n.0) ]

partner_of : (i : ℕ) (edge : PlainEdge) (o : Option PlainEdge) → option_map_or (leads_back i edge) o false ≡ true → (p : PlainEdge) × ((o ≡ Some p) × (p.rev ≡ Some i))
partner_of i edge None t = absurd (not_both t refl)
partner_of i edge (Some p) t = (p, (refl, names p.rev i (both_true (is_number p.rev i) _ t).0))

mutual_one : (all : List PlainEdge) (i r : ℕ) (edge : PlainEdge) → edge.rev ≡ Some r → is_paired all i edge ≡ true → IsMutual all i r
mutual_one all i r edge rev t =
    let both = both_true (not (r == i)) (option_map_or (leads_back i edge) (slice_get all r) false) (ap (may_have all i edge) (sym rev) ∙ t) in
    let p = partner_of i edge (slice_get all r) both.1 in
    record {
      apart = λ e. elim (nat_tells r i) [ inl y ↦ not_both (sym (ap not y.0) ∙ both.0) refl | inr n ↦ n.1 e ];
      partner = p.0;
      there = p.1.0;
      back = p.1.1;
    }

pub mutual_from : (all es : List PlainEdge) (i k r : ℕ) (edge : PlainEdge) → are_paired all i es ≡ true → slice_get es k ≡ Some edge → edge.rev ≡ Some r → IsMutual all (i + k) r
mutual_from all [] i k r edge t at rev = absurd (none_some at)
mutual_from all (e ∷ es) i zero r edge t at rev =
    let one : i ≡ i + zero = omega arith in
    let both = both_true (is_paired all i e) (are_paired all (i + 1) es) t in
    subst (λ j. IsMutual all j r) one (mutual_one all i r edge rev (ap (is_paired all i) (sym (some_same at)) ∙ both.0))
mutual_from all (e ∷ es) i (suc k) r edge t at rev =
    let number : i + 1 + k ≡ i + suc k = omega arith in
    let both = both_true (is_paired all i e) (are_paired all (i + 1) es) t in
    subst (λ j. IsMutual all j r) number (mutual_from all es (i + 1) k r edge both.1 at rev)

-- the reversal that the edge of number i has in the graph, once the first j edges are there
unfoldable pub told : ℕ → ℕ → ℕ → Option ℕ → Option ℕ
told m j i None = None
told m j i (Some r) = cond (nat_lt i j && nat_lt r j) (Some (m + r + 1)) None

unfoldable pub AreTold : ℕ → List PlainEdge → ℕ → GraphState → Type 0
AreTold m all j s = (i : ℕ) (e : PlainEdge) → slice_get all i ≡ Some e → finite.get s.reversals (m + i + 1) ≡ told m j i e.rev

pub below : (i j : ℕ) → i < j → nat_lt i j ≡ true
below i j l = grind (arith, nat_tests)

pub above : (i j : ℕ) → j ≤ i → nat_lt i j ≡ false
above i j l = grind (arith, nat_tests)

three : (i j : ℕ) → (i < j) ⊎ ((i ≡ j) ⊎ (j < i))
three i j = elim (nat_tells i j) [
  | inl y ↦ inr (inl y.1)
  | inr n ↦ elim (nat_lt i j) as (λ b. nat_lt i j ≡ b → (i < j) ⊎ ((i ≡ j) ⊎ (j < i))) [
    | true ↦ λ t. inl (ltb-true i j t)
    | false ↦ λ f. let l = ltb-false i j f in let ne = n.1 in inr (inr (omega (arith, l, ne)))
  ] refl
]

both_same : (i r j : ℕ) → (i ≡ j → r < j → ⊥) → (r ≡ j → i < j → ⊥) → (r ≡ i → ⊥) → (nat_lt i (j + 1) && nat_lt r (j + 1)) ≡ (nat_lt i j && nat_lt r j)
both_same i r j a b c = elim (three i j) [
  | inl l ↦ elim (three r j) [
    | inl k ↦ ap (λ x. x && nat_lt r (j + 1)) (below i (j + 1) (omega (arith, l))) ∙ below r (j + 1) (omega (arith, k))
        ∙ sym (ap (λ x. x && nat_lt r j) (below i j l) ∙ below r j k)
    | inr g ↦ elim g [
      | inl e ↦ absurd (b e l)
      | inr k ↦ ap (λ x. x && nat_lt r (j + 1)) (below i (j + 1) (omega (arith, l))) ∙ above r (j + 1) (omega (arith, k))
          ∙ sym (ap (λ x. x && nat_lt r j) (below i j l) ∙ above r j (omega (arith, k)))
    ]
  ]
  | inr g ↦ elim g [
    | inl e ↦ elim (three r j) [
      | inl k ↦ absurd (a e k)
      | inr h ↦ elim h [
        | inl x ↦ absurd (c (x ∙ sym e))
        | inr k ↦ ap (λ x. x && nat_lt r (j + 1)) (below i (j + 1) (omega (arith, e))) ∙ above r (j + 1) (omega (arith, k))
            ∙ sym (ap (λ x. x && nat_lt r j) (above i j (omega (arith, e))))
      ]
    ]
    | inr l ↦ ap (λ x. x && nat_lt r (j + 1)) (above i (j + 1) (omega (arith, l))) ∙ sym (ap (λ x. x && nat_lt r j) (above i j (omega (arith, l))))
  ]
]

-- what an edge more doesn't change
told_same : (m j i r : ℕ) → (i ≡ j → r < j → ⊥) → (r ≡ j → i < j → ⊥) → (r ≡ i → ⊥) → told m (j + 1) i (Some r) ≡ told m j i (Some r)
unfolding told
told_same m j i r a b c = ap (λ x. cond x (Some (m + r + 1)) None) (both_same i r j a b c)

-- two edges without reversals are paired
paired_map : (a b : ℕ) (s : GraphState) → finite.get s.reversals a ≡ None → finite.get s.reversals b ≡ None → (paired a b s).reversals ≡ finite.insert (finite.insert s.reversals a b) b a
unfolding paired
paired_map a b s no_a no_b =
    let first : unpaired_at a (finite.get s.reversals a) s.reversals ≡ s.reversals = ap (λ o. unpaired_at a o s.reversals) no_a in
    ap (λ (m : FinMap nat_cmp ℕ). finite.insert (finite.insert m a b) b a)
    (ap (λ (m : FinMap nat_cmp ℕ). unpaired_at b (finite.get m b) m) first ∙ ap (λ o. unpaired_at b o s.reversals) no_b)

-- the edge of number j comes in, behind those of lower numbers
module _ (m j : ℕ) (all : List PlainEdge) (e : PlainEdge) (s : GraphState) (here : slice_get all j ≡ Some e)
    (partners : (i r : ℕ) (x : PlainEdge) → slice_get all i ≡ Some x → x.rev ≡ Some r → IsMutual all i r) (are : AreTold m all j s) (made : s.made_edges ≡ m + j + 1) where
  is_here : (i : ℕ) (x : PlainEdge) → slice_get all i ≡ Some x → i ≡ j → x ≡ e
  is_here i x at is = some_same (sym at ∙ ap (slice_get all) is ∙ here)

  -- the partner of an edge that names j
  named_here : (i : ℕ) (x : PlainEdge) → slice_get all i ≡ Some x → x.rev ≡ Some j → e.rev ≡ Some i
  named_here i x at rev =
      let w = partners i j x at rev in
      ap (λ (y : PlainEdge). y.rev) (some_same (sym here ∙ w.there)) ∙ w.back

  -- an edge between which and j there is nothing
  old_one : (i : ℕ) (x : PlainEdge) (o : Option ℕ) → slice_get all i ≡ Some x → x.rev ≡ o → (i ≡ j → (r : ℕ) → o ≡ Some r → r < j → ⊥) → (o ≡ Some j → i < j → ⊥)
      → told m (j + 1) i o ≡ told m j i o
  unfolding told
  old_one i x None at rev a b = refl
  old_one i x (Some r) at rev a b = told_same m j i r (λ is l. a is r refl l) (λ is l. b (ap Some is) l) (partners i r x at rev).apart

  unpaired_on : ((i : ℕ) → i ≡ j → (r : ℕ) → e.rev ≡ Some r → r < j → ⊥) → ((i : ℕ) → e.rev ≡ Some i → i < j → ⊥) → AreTold m all (j + 1) s
  unfolding AreTold
  unpaired_on a b i x at =
      are i x at ∙ sym (old_one i x x.rev at refl
      (λ is r rev l. a i is r (ap (λ (y : PlainEdge). y.rev) (sym (is_here i x at is)) ∙ rev) l) (λ rev l. b i (named_here i x at rev) l))

  paired_on : (r : ℕ) → e.rev ≡ Some r → r < j → AreTold m all (j + 1) (paired s.made_edges (m + r + 1) s)
  unfolding AreTold told
  paired_on r rev l i x at =
      let w = partners j r e here rev in
      let own = ap (finite.get s.reversals) made ∙ are j e here ∙ ap (told m j j) rev ∙ ap (λ b. cond b (Some (m + r + 1)) None) (ap (λ b. b && nat_lt r j) (above j j (omega arith))) in
      let its = are r w.partner w.there ∙ ap (told m j r) w.back ∙ ap (λ b. cond b (Some (m + j + 1)) None) (ap (λ b. b && nat_lt j j) (below r j l) ∙ above j j (omega arith)) in
      let is = paired_map s.made_edges (m + r + 1) s own its in
      let k = m + i + 1 in
      let inner = finite.insert s.reversals s.made_edges (m + r + 1) in
      ap (λ (n : FinMap nat_cmp ℕ). finite.get n k) is ∙ elim (nat_tells i r) [
        | inl y ↦
            let e = y.1 in
            put_here inner (m + r + 1) s.made_edges k (omega (arith, e)) ∙ ap Some made
            ∙ sym (ap (told m (j + 1) i) (ap (λ (z : PlainEdge). z.rev) (some_same (sym at ∙ ap (slice_get all) e ∙ w.there)) ∙ w.back)
            ∙ ap (λ b. cond b (Some (m + j + 1)) None) (ap (λ b. b && nat_lt j (j + 1)) (below i (j + 1) (omega (arith, e, l))) ∙ below j (j + 1) (omega arith)))
        | inr n ↦
            let ne = n.1 in
            put_else inner (m + r + 1) s.made_edges k (λ q. n.1 (omega (arith, q))) ∙ elim (nat_tells i j) [
              | inl y ↦
                  let q = y.1 in
                  put_here s.reversals s.made_edges (m + r + 1) k (omega (arith, made, q))
                  ∙ sym (ap (told m (j + 1) i) (ap (λ (z : PlainEdge). z.rev) (is_here i x at q) ∙ rev)
                  ∙ ap (λ b. cond b (Some (m + r + 1)) None) (ap (λ b. b && nat_lt r (j + 1)) (below i (j + 1) (omega (arith, q))) ∙ below r (j + 1) (omega (arith, l))))
              | inr d ↦
                  put_else s.reversals s.made_edges (m + r + 1) k (λ q. d.1 (omega (arith, made, q))) ∙ are i x at
                  ∙ sym (old_one i x x.rev at refl (λ is r rev l. d.1 is) (λ of l. n.1 (some_same (sym (named_here i x at of) ∙ rev))))
            ]
      ]

  -- the edge is paired with its reversal, if that came before it
  one_on : (o : Option ℕ) → e.rev ≡ o → AreTold m all (j + 1) (paired_back m o s)
  one_on None rev = unpaired_on (λ i is r r_is l. none_some (sym rev ∙ r_is)) (λ i of l. none_some (sym rev ∙ of))
  one_on (Some r) rev = elim (three r j) [
    | inl l ↦
        subst (λ b. AreTold m all (j + 1) (cond b (paired s.made_edges (m + r + 1) s) s)) (sym (below (m + r + 1) s.made_edges (omega (arith, l, made)))) (paired_on r rev l)
    | inr g ↦
        let far : r ≡ j → ⊥ = (partners j r e here rev).apart in
        let over : j < r = elim g [ inl is ↦ absurd (far is) | inr l ↦ l ] in
        subst (λ b. AreTold m all (j + 1) (cond b (paired s.made_edges (m + r + 1) s) s)) (sym (above (m + r + 1) s.made_edges (omega (arith, over, made))))
        (unpaired_on (λ i is q of l. let same = some_same (sym of ∙ rev) in omega (arith, same, over, l)) (λ i of l. let same = some_same (sym of ∙ rev) in omega (arith, same, over, l)))
  ]

told_edge : (n m j : ℕ) (all : List PlainEdge) (e : PlainEdge) (s : GraphState) → slice_get all j ≡ Some e
    → ((i r : ℕ) (x : PlainEdge) → slice_get all i ≡ Some x → x.rev ≡ Some r → IsMutual all i r) → AreTold m all j s → s.made_edges ≡ m + j
    → AreTold m all (j + 1) (with_plain_edge n m e s)
unfolding with_plain_edge with_edge AreTold
told_edge n m j all e s here partners are made =
    one_on m j all e (with_edge (n + e.from + 1) (n + e.to + 1) e.label s) here partners are (omega (arith, made)) e.rev refl

pub told_edges : (n m j : ℕ) (all es : List PlainEdge) (s : GraphState) → ((k : ℕ) → slice_get all (j + k) ≡ slice_get es k)
    → ((i r : ℕ) (x : PlainEdge) → slice_get all i ≡ Some x → x.rev ≡ Some r → IsMutual all i r) → AreTold m all j s → s.made_edges ≡ m + j
    → AreTold m all (j + length es) (with_plain_edges n m es s)
unfolding with_plain_edges
told_edges n m j all [] s same partners are made = let none : j ≡ j + 0 = omega arith in subst (λ k. AreTold m all k s) none are
told_edges n m j all (e ∷ es) s same partners are made =
    let none : j ≡ j + 0 = omega arith in
    let here = ap (slice_get all) none ∙ same 0 in
    let more = (more_plain n m e s).made in
    let long : j + 1 + length es ≡ j + suc (length es) = omega arith in
    subst (λ k. AreTold m all k (with_plain_edges n m es (with_plain_edge n m e s))) long
    (told_edges n m (j + 1) all es (with_plain_edge n m e s) (λ k. let number : j + 1 + k ≡ j + suc k = omega arith in ap (slice_get all) number ∙ same (suc k))
    partners (told_edge n m j all e s here partners are made) (omega (arith, made, more)))
