-- The verdict on a kept flow, and what it names; the edges along which something flows.
use Rattle.std.proofs.Common.{◌≡◌, ◌≢◌, ℕ, ◌+◌, ◌<◌, ◌≤◌, ℤ, Bool, true, false, List, [], ◌∷◌, ◌++◌, length, refl, sym, ap, subst, ◌∙◌, inl, inr, arith}
use Rattle.std.proofs.lemmas.List.{map-append}
use Rattle.std.proofs.Math.Nat.{lt_of_not-le}
use Rattle.std.specs.Prelude.{Option, Some, None, slice_index, map}
use Rattle.std.specs.Option.{option_or}
use Rattle.graph_defs.specs.declared.flow.FlowAnswer.{FlowAnswer}
use Rattle.graph_defs.specs.declared.net.Net.{Net}
use Rattle.graph_defs.specs.declared.verdict.Cond.{Cond}
use Rattle.graph_defs.specs.declared.verdict.Cond.TheVariants as conds
use Rattle.graph_defs.specs.declared.verdict.Verdict.{Verdict}
use Rattle.graph_defs.specs.declared.verdict.Verdict.TheVariants.{Yes, No}
use Rattle.graph_defs.specs.Flow.{FlowHolds, flow_order, outflow, IsWithinAt}
use Rattle.graph_defs.specs.Verdict.{IsVerdict, IsFirst, FirstBroken}
use Rattle.graph_state.specs.State.{GraphState}
use Rattle.hide_restore.specs.declared.shown.Shown.{Shown}
use Rattle.hide_restore.specs.Net.{place_of, node_numbers, edge_numbers, shown_net}
use Rattle.reply_text.specs.declared.reply.Named.{Named}
use Rattle.reply_text.specs.Flows.{carries, carriers_below}
use Rattle.reply_text.specs.Verdicts.{IsVerdictNamed}
use Rattle.reply_text.proofs.Flows as flows
use Rattle.kept_answers.specs.declared.gone.GoneItem.{GoneItem}
use Rattle.kept_answers.specs.Carried.{carrying, first_gone_of, flow_as_now, IsFlowAnswerChecked}
use Rattle.kept_answers.specs.Checked.{is_listed, IsVerdictOn}
use Rattle.kept_answers.specs.Kept.{entries_at}
use Rattle.kept_answers.specs.Told.{gone_node}
use Rattle.kept_answers.specs.Shown.{IsShown}
use Rattle.kept_answers.proofs.Listed.{none_found}
use Rattle.kept_answers.proofs.Paths.{place_within}

-- the edges along which something flows as far as a place, and one more
pub one_more : (edges : List ℕ) (flow : List ℤ) (k : ℕ) → carries flow k ≡ true
    → entries_at edges (carriers_below flow k) ++ slice_index edges k ∷ [] ≡ entries_at edges (carriers_below flow (k + 1))
one_more edges flow k some =
    sym (ap (entries_at edges) (flows.one_below flow k some)
    ∙ map-append (slice_index edges) (carriers_below flow k) (k ∷ []))

pub none_more : (edges : List ℕ) (flow : List ℤ) (k : ℕ) → carries flow k ≡ false
    → entries_at edges (carriers_below flow k) ≡ entries_at edges (carriers_below flow (k + 1))
none_more edges flow k none = sym (ap (entries_at edges) (flows.none_more flow k none))

-- a node that isn't gone is listed
here : (nodes : List ℕ) (v : ℕ) → gone_node nodes v ≡ None → is_listed v nodes ≡ true
here nodes v none = by_test (is_listed v nodes) refl
  where
    by_test : (b : Bool) → is_listed v nodes ≡ b → is_listed v nodes ≡ true
    by_test true is = is
    by_test false is = absurd cc

module _ (nodes edges : List ℕ) (source sink : ℕ) (carrying cut : List ℕ) (none : first_gone_of nodes edges source sink carrying cut ≡ None) where
  -- where nothing is gone, the source and the sink are there
  first : (a b : Option GoneItem) → option_or a b ≡ None → a ≡ None
  first None b is = refl
  first (Some x) b is = absurd cc

  later : (a b : Option GoneItem) → option_or a b ≡ None → b ≡ None
  later None b is = is
  later (Some x) b is = absurd cc

  pub source_there : place_of source nodes < length nodes
  source_there = place_within source nodes (here nodes source (first (gone_node nodes source) _ none))

  pub sink_there : place_of sink nodes < length nodes
  sink_there = place_within sink nodes (here nodes sink (first (gone_node nodes sink) _ (later (gone_node nodes source) _ none)))

module _ (g : GraphState) (cap : List ℤ) (source sink : ℕ) (edges : List ℕ) (a : FlowAnswer) where
  -- nothing is gone, so the verdict is the checker's
  pub all_here : (named : Named)
      → first_gone_of (node_numbers g) (edge_numbers g) source sink (carrying edges a) a.cut ≡ None
      → IsVerdictOn g (FlowHolds (shown_net g) (place_of source (node_numbers g)) (place_of sink (node_numbers g)) cap (flow_as_now g edges a)) flow_order named
      → IsFlowAnswerChecked g cap source sink edges a named
  all_here named gone right =
      none_found (first_gone_of (node_numbers g) (edge_numbers g) source sink (carrying edges a) a.cut) _ _ gone right

  -- the checker is asked of the answer as the net numbers it now
  pub checked_as : (shown : Shown) → IsShown g shown → (s t : ℕ) (answer : FlowAnswer) (verdict : Verdict)
      → s ≡ place_of source (node_numbers g) → t ≡ place_of sink (node_numbers g) → answer ≡ flow_as_now g edges a
      → IsVerdict (FlowHolds shown.net s t cap answer) flow_order verdict
      → IsVerdict (FlowHolds (shown_net g) (place_of source (node_numbers g)) (place_of sink (node_numbers g)) cap (flow_as_now g edges a)) flow_order verdict
  checked_as shown is s t answer verdict from to renumbered right =
      subst (λ (net : Net). IsVerdict (FlowHolds net (place_of source (node_numbers g)) (place_of sink (node_numbers g)) cap (flow_as_now g edges a)) flow_order verdict) is.net
      (subst (λ (v : ℕ). IsVerdict (FlowHolds shown.net v (place_of sink (node_numbers g)) cap (flow_as_now g edges a)) flow_order verdict) from
      (subst (λ (v : ℕ). IsVerdict (FlowHolds shown.net s v cap (flow_as_now g edges a)) flow_order verdict) to
      (subst (λ (b : FlowAnswer). IsVerdict (FlowHolds shown.net s t cap b) flow_order verdict) renumbered right)))

module _ (net : Net) (s t : ℕ) (cap : List ℤ) (a : FlowAnswer) (nodes edges : List ℕ) where
  module _ (n : length nodes ≡ net.n) (m : length edges ≡ length net.arcs) where
    abbrev IsNamed : Cond → ℕ → Type 0
    IsNamed broken place = IsVerdictNamed nodes edges (No broken place)

    arc_named : (arc : ℕ) → IsFirst (λ arc. arc < length net.arcs → IsWithinAt [] cap a.flow arc) arc → arc < length edges
    arc_named arc first = lt_of_not-le (λ above. first.broken (λ within. absurd (omega (arith, m, above, within))))

    node_named : (v : ℕ) → IsFirst (FlowHolds net s t cap a conds.Balance) v → v < length nodes
    node_named v first = lt_of_not-le (λ above. first.broken (λ within apart other. absurd (omega (arith, n, above, within))))

    -- a condition is broken at a node or an arc of the net alone
    broken_named : (broken : Cond) (place : ℕ) → FirstBroken (FlowHolds net s t cap a) flow_order broken place → IsNamed broken place
    broken_named broken place (inl range) = subst (λ c. IsNamed c place) range.0 tt
    broken_named broken place (inr (_, inl bounds)) = subst (λ c. IsNamed c place) bounds.0 (arc_named place bounds.1)
    broken_named broken place (inr (_, inr (_, inl balance))) =
        subst (λ c. IsNamed c place) balance.0 (node_named place balance.1)
    broken_named broken place (inr (_, inr (_, inr (_, inl cut)))) = subst (λ c. IsNamed c place) cut.0 tt
    broken_named broken place (inr (_, inr (_, inr (_, inr (_, inl value))))) = subst (λ c. IsNamed c place) value.0 tt
    broken_named broken place (inr (_, inr (_, inr (_, inr (_, inr none))))) = absurd none.1

    -- the verdict on an answer names a node or an arc of the net
    pub flow_named : (verdict : Verdict) → IsVerdict (FlowHolds net s t cap a) flow_order verdict → IsVerdictNamed nodes edges verdict
    flow_named Yes right = tt
    flow_named (No broken place) right = broken_named broken place right
