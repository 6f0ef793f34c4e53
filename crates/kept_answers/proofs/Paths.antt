-- The verdict on kept shortest paths, and what it names.
use Rattle.std.proofs.Common.{◌≡◌, ℕ, zero, suc, ◌+◌, ◌<◌, ◌≤◌, ℤ, Bool, true, false, cond, ◌||◌, List, [], ◌∷◌, length, refl, sym, ap, subst, ◌∙◌, inl, inr, arith}
use Rattle.std.proofs.Math.Nat.{lt_of_not-le}
use Rattle.std.specs.Prelude.{Option, Some, None, if◌then◌else◌}
use Rattle.std.specs.Option.{option_or}
use Rattle.graph_defs.specs.declared.net.Net.{Net}
use Rattle.graph_defs.specs.declared.shortest.SpAnswer.{SpAnswer}
use Rattle.graph_defs.specs.declared.verdict.Cond.{Cond}
use Rattle.graph_defs.specs.declared.verdict.Verdict.{Verdict}
use Rattle.graph_defs.specs.declared.verdict.Verdict.TheVariants.{Yes, No}
use Rattle.graph_defs.specs.Shortest.{IsOnce, IsSource, IsTight, HasItsReason, IsNotShorter, StaysWithin, SpHolds, sp_order, listed}
use Rattle.graph_defs.specs.Verdict.{IsVerdict, IsFirst, FirstBroken}
use Rattle.graph_state.specs.State.{GraphState}
use Rattle.graph_state.proofs.Same.{nat_tells}
use Rattle.hide_restore.specs.declared.shown.Shown.{Shown}
use Rattle.hide_restore.specs.Net.{place_of, node_numbers, edge_numbers, shown_net}
use Rattle.reply_text.specs.declared.reply.Named.{Named}
use Rattle.reply_text.specs.Verdicts.{IsVerdictNamed}
use Rattle.kept_answers.specs.declared.gone.GoneItem.{GoneItem}
use Rattle.kept_answers.specs.declared.gone.GoneItem.TheVariants as items
use Rattle.kept_answers.specs.Checked.{is_listed, first_outside, IsVerdictOn}
use Rattle.kept_answers.specs.Shown.{IsShown}
use Rattle.kept_answers.specs.Told.{first_gone, as_now, IsAnswerChecked}
use Rattle.kept_answers.proofs.Listed.{none_found}

-- a number that is listed has a place within the list
pub place_within : (k : ℕ) (ks : List ℕ) → is_listed k ks ≡ true → place_of k ks < length ks
place_within k [] is = absurd cc
place_within k (j ∷ js) is = elim (nat_tells j k) [
  | inl y ↦ subst (λ b. cond b 0 (place_of k js + 1) < length (j ∷ js)) (sym y.0) (omega arith)
  | inr n ↦
      let later = place_within k js (subst (λ b. (b || is_listed k js) ≡ true) n.0 is) in
      subst (λ b. cond b 0 (place_of k js + 1) < length (j ∷ js)) (sym n.0) (omega (arith, later))
]

-- where nothing is gone, the source is there
pub source_within : (nodes edges : List ℕ) (source : ℕ) (a : SpAnswer) → first_gone nodes edges source a ≡ None → place_of source nodes < length nodes
source_within nodes edges source a none = place_within source nodes (by_test (is_listed source nodes) refl)
  where
    by_test : (b : Bool) → is_listed source nodes ≡ b → is_listed source nodes ≡ true
    by_test true is = is
    by_test false is = absurd cc

module _ (g : GraphState) (cost : List ℤ) (source : ℕ) (a : SpAnswer) where
  -- nothing is gone nor missing, so the verdict is the checker's
  pub all_told : (named : Named) → first_gone (node_numbers g) (edge_numbers g) source a ≡ None → first_outside (node_numbers g) (listed a) ≡ None
      → IsVerdictOn g (SpHolds (shown_net g) (place_of source (node_numbers g)) cost (as_now g a)) sp_order named
      → IsAnswerChecked g cost source a named
  all_told named gone missing right =
      none_found (first_gone (node_numbers g) (edge_numbers g) source a) _ _ gone
      (none_found (first_outside (node_numbers g) (listed a)) _ _ missing right)

  -- the checker is asked of the answer as the net numbers it now
  pub checked_as : (shown : Shown) → IsShown g shown → (s : ℕ) (answer : SpAnswer) (verdict : Verdict)
      → s ≡ place_of source (node_numbers g) → answer ≡ as_now g a → IsVerdict (SpHolds shown.net s cost answer) sp_order verdict
      → IsVerdict (SpHolds (shown_net g) (place_of source (node_numbers g)) cost (as_now g a)) sp_order verdict
  checked_as shown is s answer verdict at renumbered right =
      subst (λ (net : Net). IsVerdict (SpHolds net (place_of source (node_numbers g)) cost (as_now g a)) sp_order verdict) is.net
      (subst (λ (v : ℕ). IsVerdict (SpHolds shown.net v cost (as_now g a)) sp_order verdict) at
      (subst (λ (b : SpAnswer). IsVerdict (SpHolds shown.net s cost b) sp_order verdict) renumbered right))

module _ (net : Net) (s : ℕ) (cost : List ℤ) (a : SpAnswer) (nodes edges : List ℕ) where
  module _ (source : s < length nodes) (n : length nodes ≡ net.n) (m : length edges ≡ length net.arcs) where
    abbrev IsNamed : Cond → ℕ → Type 0
    IsNamed broken place = IsVerdictNamed nodes edges (No broken place)

    node_named : (Holds : ℕ → Type 0) (v : ℕ) → IsFirst (λ v. v < net.n → Holds v) v → v < length nodes
    node_named Holds v first = lt_of_not-le (λ above. first.broken (λ within. absurd (omega (arith, n, above, within))))

    arc_named : (Holds : ℕ → Type 0) (arc : ℕ) → IsFirst (λ arc. arc < length net.arcs → Holds arc) arc → arc < length edges
    arc_named Holds arc first = lt_of_not-le (λ above. first.broken (λ within. absurd (omega (arith, m, above, within))))

    source_named : (Holds : ℕ → Type 0) (v : ℕ) → IsFirst (λ v. v ≡ s → Holds v) v → v < length nodes
    source_named Holds v first = lt_of_not-le (λ above. first.broken (λ is. absurd (omega (arith, source, above, is))))

    -- a condition is broken at a node or an arc of the net alone, or at a seed
    broken_named : (broken : Cond) (place : ℕ) → FirstBroken (SpHolds net s cost a) sp_order broken place → IsNamed broken place
    broken_named broken place (inl range) = subst (λ c. IsNamed c place) range.0 tt
    broken_named broken place (inr (_, inl once)) = subst (λ c. IsNamed c place) once.0 (node_named (IsOnce a) place once.1)
    broken_named broken place (inr (_, inr (_, inl at))) =
        subst (λ c. IsNamed c place) at.0 (source_named (λ _. IsSource s a) place at.1)
    broken_named broken place (inr (_, inr (_, inr (_, inl tight)))) =
        subst (λ c. IsNamed c place) tight.0 (node_named (IsTight net cost a) place tight.1)
    broken_named broken place (inr (_, inr (_, inr (_, inr (_, inl seed))))) = subst (λ c. IsNamed c place) seed.0 tt
    broken_named broken place (inr (_, inr (_, inr (_, inr (_, inr (_, inl low)))))) =
        subst (λ c. IsNamed c place) low.0 (node_named (HasItsReason net a) place low.1)
    broken_named broken place (inr (_, inr (_, inr (_, inr (_, inr (_, inr (_, inl shorter))))))) =
        subst (λ c. IsNamed c place) shorter.0 (arc_named (IsNotShorter net cost a) place shorter.1)
    broken_named broken place (inr (_, inr (_, inr (_, inr (_, inr (_, inr (_, inr (_, inl leaves)))))))) =
        subst (λ c. IsNamed c place) leaves.0 (arc_named (StaysWithin net a) place leaves.1)
    broken_named broken place (inr (_, inr (_, inr (_, inr (_, inr (_, inr (_, inr (_, inr none)))))))) = absurd none.1

    -- the verdict on an answer names a node or an arc of the net
    pub verdict_named : (verdict : Verdict) → IsVerdict (SpHolds net s cost a) sp_order verdict → IsVerdictNamed nodes edges verdict
    verdict_named Yes right = tt
    verdict_named (No broken place) right = broken_named broken place right
