-- The edges of a plain graph come in one after the other.
use Rattle.std.proofs.Common.{◌≡◌, ℕ, zero, suc, ◌+◌, ◌<◌, ◌≤◌, ◌==◌, Bool, true, false, not, ◌&&◌, cond, List, [], ◌∷◌, ◌++◌, length, Option, Some, None, unwrap_or, refl, sym, ap, subst, ◌∙◌, inl, inr, arith}
use Rattle.std.specs.Prelude.{slice_get, nat_lt, IfSome}
use Rattle.std.specs.List.{AllByRecursion}
use Rattle.std.specs.Option.{option_map_or}
use Rattle.std.specs.FinMap as map
use Rattle.std.specs.FinSet as set
use Rattle.leda_base.specs.declared.name.ItemName.TheVariants as names
use Rattle.graph_defs.specs.declared.plain.PlainEdge.{PlainEdge}
use Rattle.graph_defs.specs.Plain.{IsPlainEdge, IsLabelOf, is_number, leads_back, may_have, is_paired, are_paired}
use Rattle.graph_state.specs.State.{GraphState}
use Rattle.graph_state.specs.Names.{Has}
use Rattle.graph_state.specs.Formed.{IsLabel}
use Rattle.graph_state.specs.Edits.{with_edge, paired}
use Rattle.graph_state.specs.Refusals.{AreVisible}
use Rattle.graph_state.specs.Reversals.{AreOpposite}
use Rattle.graph_state.specs.Built.{paired_back, with_plain_edge, with_plain_edges}
use Rattle.graph_state.proofs.Has.{none_some, some_same}
use Rattle.graph_state.proofs.Labels.{no_line}
use Rattle.graph_state.proofs.Same.{nat_tells}
use Rattle.graph_state.proofs.Built.{Runs, more_edge, runs_new, runs_on, edges_in}
use Rattle.graph_core.specs.Replaces.{AreLabels, LeadsBack, CanBuild}

-- what holds of each holds of one
all_at : {X : Type 0} (P : X → Type 0) (ys rest : List X) (x : X) → AllByRecursion P (ys ++ x ∷ rest) → P x
all_at P [] rest x all = all.0
all_at P (y ∷ ys) rest x all = all_at P ys rest x all.1

pub push_seam : {X : Type 0} (ys zs : List X) (x : X) → (ys ++ x ∷ []) ++ zs ≡ ys ++ x ∷ zs
push_seam [] zs x = refl
push_seam (y ∷ ys) zs x = ap (λ us. y ∷ us) (push_seam ys zs x)

-- what came and what is left are all there is
pub cut_on : {X : Type 0} (all ys before after : List X) (x : X) → all ≡ ys ++ before → before ≡ x ∷ after → all ≡ (ys ++ x ∷ []) ++ after
cut_on all ys before after x is step = is ∙ ap (λ us. ys ++ us) step ∙ sym (push_seam ys after x)

both : (a b : Bool) → (a && b) ≡ true → (a ≡ true) × (b ≡ true)
both true b e = (refl, e)
both false b e = cc

paired_at : (es ys rest : List PlainEdge) (x : PlainEdge) (i : ℕ) → are_paired es i (ys ++ x ∷ rest) ≡ true → is_paired es (i + length ys) x ≡ true
paired_at es [] rest x i all = subst (λ k. is_paired es k x ≡ true) (omega arith) (both (is_paired es i x) (are_paired es (i + 1) rest) all).0
paired_at es (y ∷ ys) rest x i all =
    subst (λ k. is_paired es k x ≡ true) (omega arith)
    (paired_at es ys rest x (i + 1) (both (is_paired es i y) (are_paired es (i + 1) (ys ++ x ∷ rest)) all).1)

get_left : (ys zs : List PlainEdge) (k : ℕ) → k < length ys → slice_get (ys ++ zs) k ≡ slice_get ys k
get_left [] zs k few = absurd (omega (arith, few))
get_left (y ∷ ys) zs zero few = refl
get_left (y ∷ ys) zs (suc k) few = get_left ys zs k (omega (arith, few))

same_number : (a b : ℕ) → (a == b) ≡ true → a ≡ b
same_number a b e = elim (nat_tells a b) [ inl y ↦ y.1 | inr n ↦ let both : false ≡ true = sym n.0 ∙ e in cc ]

-- the edge that leads back has the ends the other way round
found : (k : ℕ) (x : PlainEdge) (o : Option PlainEdge) → option_map_or (leads_back k x) o false ≡ true → (b : PlainEdge) × ((o ≡ Some b) × ((b.from ≡ x.to) × (b.to ≡ x.from)))
found k x None e = cc
found k x (Some b) e =
    let ends = (both (is_number b.rev k) (b.from == x.to && b.to == x.from) e).1 in
    let each = both (b.from == x.to) (b.to == x.from) ends in
    (b, (refl, (same_number b.from x.to each.0, same_number b.to x.from each.1)))

pub label_is : (void : Bool) (label : List ℕ) → IsLabelOf void label → IsLabel label
label_is void label is = record { few = is.short; line = no_line label is.one_line }

pub labels_are : (void : Bool) (labels : List (List ℕ)) → AllByRecursion (IsLabelOf void) labels → AreLabels labels
labels_are void [] all = tt
labels_are void (label ∷ labels) all = (label_is void label all.0, labels_are void labels all.1)

-- some of the edges came in, and the next one comes
module _ (s : GraphState) (v : ℕ) (es : List PlainEdge) (can : CanBuild s v es) (ys rest : List PlainEdge) (x : PlainEdge) (cut : es ≡ ys ++ x ∷ rest) where
  abbrev t : GraphState
  t = with_plain_edges v s.made_edges ys s

  edge_is : IsPlainEdge can.count (length es) can.void x
  edge_is = all_at (IsPlainEdge can.count (length es) can.void) ys rest x (subst (λ es'. AllByRecursion (IsPlainEdge can.count (length es) can.void) es') cut can.edges)

  pub next_few : (x.from < 100000) × (x.to < 100000)
  next_few = let e = edge_is in (omega (arith, e.from, can.few.0), omega (arith, e.to, can.few.0))

  visible_in : (k : ℕ) → k < can.count → AreVisible t (names.Node (v + k + 1) ∷ [])
  visible_in k few =
      let see = can.visible k few in
      let ins = edges_in v s.made_edges ys s in
      (subst (Has (v + k + 1)) (sym ins.nodes) see.0, ap (λ h. not (set.contains h (v + k + 1))) ins.hidden ∙ see.1, tt)

  pub next_from : AreVisible t (names.Node (v + x.from + 1) ∷ [])
  next_from = visible_in x.from edge_is.from

  pub next_to : AreVisible t (names.Node (v + x.to + 1) ∷ [])
  next_to = visible_in x.to edge_is.to

  pub next_label : IsLabel x.label
  next_label = label_is can.void x.label edge_is.label

  paired_is : may_have es (length ys) x x.rev ≡ true
  paired_is =
      let number : 0 + length ys ≡ length ys = omega arith in
      subst (λ k. is_paired es k x ≡ true) number (paired_at es ys rest x 0 (subst (λ zs. are_paired es 0 zs ≡ true) cut can.pairs))

  leads : (r : ℕ) → may_have es (length ys) x (Some r) ≡ true → r < length es → LeadsBack t v s.made_edges x r
  leads r may few =
      let back = found (length ys) x (slice_get es r) (both (not (r == length ys)) (option_map_or (leads_back (length ys) x) (slice_get es r) false) may).1 in
      (omega (arith, few, can.few.1), λ old. before r back.0 back.1.0 back.1.1 (omega (arith, old, (edges_in v s.made_edges ys s).made)))
    where
      before : (r : ℕ) (b : PlainEdge) → slice_get es r ≡ Some b → (b.from ≡ x.to) × (b.to ≡ x.from) → r < length ys
          → Has (s.made_edges + r + 1) t.edges × (map.get t.ends (s.made_edges + r + 1) ≡ Some (v + x.to + 1, v + x.from + 1))
      before r b at ends first =
          let here : slice_get ys r ≡ Some b = sym (get_left ys (x ∷ rest) r first) ∙ ap (λ zs. slice_get zs r) (sym cut) ∙ at in
          let runs = (edges_in v s.made_edges ys s).new r b here in
          (runs.there, runs.ends ∙ ap (λ a. Some (v + a + 1, v + b.to + 1)) ends.0 ∙ ap (λ a. Some (v + x.to + 1, v + a + 1)) ends.1)

  pub next_back : IfSome x.rev (LeadsBack t v s.made_edges x)
  next_back = at x.rev refl
    where
      at : (rev : Option ℕ) → x.rev ≡ rev → IfSome rev (LeadsBack t v s.made_edges x)
      at None is = tt
      at (Some r) is = leads r (subst (λ rev. may_have es (length ys) x rev ≡ true) is paired_is) (subst (λ rev. IfSome rev (λ r. r < length es)) is edge_is.rev)

-- the new edge and the one that leads back
module _ (s : GraphState) (v f : ℕ) (e : PlainEdge) (r : ℕ) (back : LeadsBack s v f e r) (low : f + r + 1 < s.made_edges + 1) where
  abbrev u : GraphState
  u = with_edge (v + e.from + 1) (v + e.to + 1) e.label s

  pub back_runs : Runs u (f + r + 1) (v + e.to + 1, v + e.from + 1)
  back_runs =
      let old : f + r + 1 ≤ s.made_edges = omega (arith, low) in
      let there = back.1 old in
      runs_on (v + e.from + 1) (v + e.to + 1) s u (more_edge (v + e.from + 1) (v + e.to + 1) e.label s) (f + r + 1) (v + e.to + 1, v + e.from + 1) old
      (record { there = there.0; ends = there.1 })

  pub here_runs : Runs u (s.made_edges + 1) (v + e.from + 1, v + e.to + 1)
  here_runs = runs_new (v + e.from + 1) (v + e.to + 1) s u (more_edge (v + e.from + 1) (v + e.to + 1) e.label s)

  pub opposite : AreOpposite u (s.made_edges + 1) (f + r + 1)
  opposite =
      let a = ap (λ o. unwrap_or o (0, 0)) here_runs.ends in
      let b = ap (λ o. unwrap_or o (0, 0)) back_runs.ends in
      ((λ is. omega (arith, low, is)), (ap (λ p. p.0) a ∙ sym (ap (λ p. p.1) b), ap (λ p. p.1) a ∙ sym (ap (λ p. p.0) b)))

-- what one edge more makes of the graph, by its reversal
module _ (s : GraphState) (v f : ℕ) (e : PlainEdge) where
  abbrev w : GraphState
  w = with_edge (v + e.from + 1) (v + e.to + 1) e.label s

  made_is : w.made_edges ≡ s.made_edges + 1
  unfolding with_edge
  made_is = refl

  pub alone : e.rev ≡ None → with_plain_edge v f e s ≡ w
  unfolding with_plain_edge
  alone is = ap (λ rev. paired_back f rev w) is

  pub first : (r : ℕ) → e.rev ≡ Some r → nat_lt (f + r + 1) (s.made_edges + 1) ≡ false → with_plain_edge v f e s ≡ w
  unfolding with_plain_edge
  first r is late = ap (λ rev. paired_back f rev w) is ∙ ap (λ b. cond b (paired w.made_edges (f + r + 1) w) w) (ap (nat_lt (f + r + 1)) made_is ∙ late)

  pub second : (r : ℕ) → e.rev ≡ Some r → nat_lt (f + r + 1) (s.made_edges + 1) ≡ true → with_plain_edge v f e s ≡ paired (s.made_edges + 1) (f + r + 1) w
  unfolding with_plain_edge
  second r is late = ap (λ rev. paired_back f rev w) is ∙ ap (λ b. cond b (paired w.made_edges (f + r + 1) w) w) (ap (nat_lt (f + r + 1)) made_is ∙ late) ∙ ap (λ m. paired m (f + r + 1) w) made_is
