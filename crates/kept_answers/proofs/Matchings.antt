-- The verdict on a kept matching, and what it names.
use Rattle.std.proofs.Common.{◌≡◌, ℕ, ◌+◌, ◌<◌, ◌≤◌, false, cond, ◌||◌, ◌==◌, suc, List, [], ◌∷◌, length, refl, sym, subst, inl, inr, arith, All}
use Rattle.std.proofs.Math.Nat.{lt_of_not-le}
use Rattle.std.specs.Prelude.{None}
use Rattle.graph_defs.specs.declared.matching.MatchAnswer.{MatchAnswer}
use Rattle.graph_defs.specs.declared.net.Net.{Net}
use Rattle.graph_defs.specs.declared.verdict.Cond.{Cond}
use Rattle.graph_defs.specs.declared.verdict.Verdict.{Verdict}
use Rattle.graph_defs.specs.declared.verdict.Verdict.TheVariants.{Yes, No}
use Rattle.graph_defs.specs.Matching.{MatchHolds, match_order, degree, is_end}
use Rattle.graph_defs.specs.Net.{IsValid, source, target}
use Rattle.graph_defs.specs.Verdict.{IsVerdict, FirstBroken}
use Rattle.graph_defs.proofs.Counts.{times_has}
use Rattle.graph_state.specs.State.{GraphState}
use Rattle.graph_state.proofs.Same.{nat_tells}
use Rattle.hide_restore.specs.declared.shown.Shown.{Shown}
use Rattle.hide_restore.specs.Net.{node_numbers, edge_numbers, shown_net}
use Rattle.reply_text.specs.declared.reply.Named.{Named}
use Rattle.reply_text.specs.Verdicts.{IsVerdictNamed}
use Rattle.kept_answers.specs.Kept.{Matched, entries_at}
use Rattle.kept_answers.specs.Shown.{IsShown}
use Rattle.kept_answers.specs.Checked.{places_in, first_outside, renumbered, IsVerdictOn, IsMatchChecked}
use Rattle.kept_answers.proofs.Listed.{none_found}

module _ (g : GraphState) (k : Matched) where
  -- what it names is visible and it names all nodes, so the verdict is the checker's
  pub all_there : (named : Named) → first_outside k.edges (edge_numbers g) ≡ None → first_outside k.nodes (node_numbers g) ≡ None
      → first_outside (node_numbers g) k.nodes ≡ None
      → IsVerdictOn g (MatchHolds (shown_net g) (renumbered g k)) match_order named → IsMatchChecked g k named
  all_there named edges nodes missing right =
      none_found (first_outside k.edges (edge_numbers g)) _ _ edges
      (none_found (first_outside k.nodes (node_numbers g)) _ _ nodes
      (none_found (first_outside (node_numbers g) k.nodes) _ _ missing right))

  -- the checker is asked of the answer as the net numbers it now
  pub checked_as : (shown : Shown) → IsShown g shown → (edges cover : List ℕ) (verdict : Verdict)
      → edges ≡ places_in (edge_numbers g) k.edges → cover ≡ entries_at k.labels (places_in k.nodes (node_numbers g))
      → IsVerdict (MatchHolds shown.net (record { edges = edges; cover = cover })) match_order verdict
      → IsVerdict (MatchHolds (shown_net g) (renumbered g k)) match_order verdict
  checked_as shown is edges cover verdict chosen labels right =
      subst (λ (net : Net). IsVerdict (MatchHolds net (renumbered g k)) match_order verdict) is.net
      (subst (λ (a : MatchAnswer). IsVerdict (MatchHolds shown.net a) match_order verdict)
      (λ j. record { edges = chosen j; cover = labels j }) right)

module _ (net : Net) (valid : IsValid net) where
  -- a number that is no node is no end
  no_end : (node arc : ℕ) → arc < length net.arcs → net.n ≤ node → is_end net node arc ≡ false
  no_end node arc within above =
      let ends = valid.ends arc (0, 0) within in
      elim (nat_tells (source net arc) node) [
        | inl same ↦ absurd (let e = same.1 in let low = ends.0 in omega (arith, low, e, above))
        | inr other ↦ subst (λ b. (b || (target net arc == node)) ≡ false) (sym other.0) (elim (nat_tells (target net arc) node) [
          | inl same ↦ absurd (let e = same.1 in let low = ends.1 in omega (arith, low, e, above))
          | inr another ↦ another.0
        ])
      ]

  no_degree : (node : ℕ) (edges : List ℕ) → All (λ edge. edge < length net.arcs) edges → net.n ≤ node → degree net node edges ≡ 0
  no_degree node [] all above = refl
  no_degree node (edge ∷ edges) all above =
      let out = no_end node edge (all 0 0 (omega arith)) above in
      let later = no_degree node edges (λ k d lt. all (suc k) d (omega (arith, lt))) above in
      subst (λ b. cond b 1 0 + degree net node edges ≡ 0) (sym out) (omega (arith, later))

  module _ (a : MatchAnswer) (nodes edges : List ℕ) (n : length nodes ≡ net.n) (m : length edges ≡ length net.arcs) where
    -- a condition is broken at a node or an arc of the net alone
    broken_named : (broken : Cond) (place : ℕ) → FirstBroken (MatchHolds net a) match_order broken place → IsVerdictNamed nodes edges (No broken place)
    broken_named broken place (inl range) = subst (λ (c : Cond). IsVerdictNamed nodes edges (No c place)) range.0 tt
    broken_named broken place (inr (range, inl loops)) =
        subst (λ (c : Cond). IsVerdictNamed nodes edges (No c place)) loops.0
        (lt_of_not-le (λ above. loops.1.broken (λ chosen.
        let at = times_has place a.edges chosen in
        let within = (range 0).edges at.0 0 at.1 in
        let is = at.2 in
        absurd (omega (arith, m, above, within, is)))))
    broken_named broken place (inr (range, inr (loops, inl shared))) =
        subst (λ (c : Cond). IsVerdictNamed nodes edges (No c place)) shared.0
        (lt_of_not-le (λ above. shared.1.broken
        (let none = no_degree place a.edges (range 0).edges (omega (arith, n, above)) in omega (arith, none))))
    broken_named broken place (inr (range, inr (loops, inr (shared, inl label)))) =
        subst (λ (c : Cond). IsVerdictNamed nodes edges (No c place)) label.0
        (lt_of_not-le (λ above. label.1.broken (λ within. absurd (omega (arith, m, above, within)))))
    broken_named broken place (inr (range, inr (loops, inr (shared, inr (label, inl size))))) =
        subst (λ (c : Cond). IsVerdictNamed nodes edges (No c place)) size.0 tt
    broken_named broken place (inr (range, inr (loops, inr (shared, inr (label, inr none))))) = absurd none.1

    -- the verdict on an answer to `matching` names a node or an arc of the net
    pub verdict_named : (verdict : Verdict) → IsVerdict (MatchHolds net a) match_order verdict → IsVerdictNamed nodes edges verdict
    verdict_named Yes right = tt
    verdict_named (No broken place) right = broken_named broken place right
