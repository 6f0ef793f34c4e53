-- A right answer is one whose cut stands in order and of which all conditions of the check hold.
use Rattle.std.proofs.Common.{◌≡◌, inl, inr, ℕ, ℤ, List, [], ◌∷◌, refl}
use Rattle.std.specs.List.Sorted.{IsStrictlyIncreasing}
use Rattle.graph_defs.specs.declared.flow.FlowAnswer.{FlowAnswer}
use Rattle.graph_defs.specs.declared.net.Net.{Net}
use Rattle.graph_defs.specs.declared.verdict.Cond.{Cond}
use Rattle.graph_defs.specs.Flow.{IsFlowAnswer, FlowHolds, flow_order}
use Rattle.graph_defs.specs.Verdict.{AllHold, FirstBroken}

module _ (net : Net) (s t : ℕ) (cap : List ℤ) (a : FlowAnswer) where
  pub right : IsStrictlyIncreasing a.cut → AllHold (FlowHolds net s t cap a) flow_order → IsFlowAnswer net s t cap a
  right rises h = record {
    flow_of = record {
      is = record { long = (h.0 0).flow; bounds = h.1.0; balance = h.1.1.0 };
      value_is = (h.1.1.1.1.0 0).0;
    };
    cut_of = record {
      is = record {
        nodes = record { order = rises; among = (h.0 0).cut };
        has = (h.1.1.1.0 0).0;
        lacks = (h.1.1.1.0 0).1;
      };
      capacity_is = (h.1.1.1.1.0 0).1;
    };
  }

  pub all_hold : IsFlowAnswer net s t cap a → AllHold (FlowHolds net s t cap a) flow_order
  all_hold h = (
    λ place. record { flow = h.flow_of.is.long; cut = h.cut_of.is.nodes.among },
    (
      h.flow_of.is.bounds,
      (
        h.flow_of.is.balance,
        ((λ place. (h.cut_of.is.has, h.cut_of.is.lacks)), ((λ place. (h.flow_of.value_is, h.cut_of.capacity_is)), tt)),
      ),
    ),
  )

pub holds_or_broken : (Holds : Cond → ℕ → Type 0) (conds : List Cond) (cond : Cond) (place : ℕ) → AllHold Holds conds → FirstBroken Holds conds cond place → ⊥
holds_or_broken Holds [] cond place all broken = broken
holds_or_broken Holds (first ∷ conds) cond place all (inl here) = here.1.broken (all.0 place)
holds_or_broken Holds (first ∷ conds) cond place all (inr later) = holds_or_broken Holds conds cond place all.1 later.1
