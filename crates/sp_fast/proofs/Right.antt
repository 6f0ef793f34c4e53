-- A right answer is one whose unreached nodes stand in their order and of which all conditions of
-- the check hold.
use Rattle.std.proofs.Common.{◌≡◌, inl, inr, ℕ, ℤ, List, [], ◌∷◌, refl}
use Rattle.std.specs.List.Sorted.{IsStrictlyIncreasing}
use Rattle.graph_defs.specs.declared.net.Net.{Net}
use Rattle.graph_defs.specs.declared.shortest.SpAnswer.{SpAnswer}
use Rattle.graph_defs.specs.declared.verdict.Cond.{Cond}
use Rattle.graph_defs.specs.Shortest.{IsSpAnswer, IsSource, SpHolds, sp_order}
use Rattle.graph_defs.specs.Verdict.{AllHold, FirstBroken}

pub right : (net : Net) (s : ℕ) (cost : List ℤ) (a : SpAnswer) → IsStrictlyIncreasing a.unreached → AllHold (SpHolds net s cost a) sp_order → IsSpAnswer net s cost a
right net s cost a rises h = record {
  is = record {
    range = h.0 0;
    once = h.1.0;
    source = h.1.1.0 s refl;
    tight = h.1.1.1.0;
    seeds = h.1.1.1.1.0;
    low = h.1.1.1.1.1.0;
    shorter = h.1.1.1.1.1.1.0;
    leaves = h.1.1.1.1.1.1.1.0;
  };
  order = rises;
}

pub all_hold : (net : Net) (s : ℕ) (cost : List ℤ) (a : SpAnswer) → IsSpAnswer net s cost a → AllHold (SpHolds net s cost a) sp_order
all_hold net s cost a h =
    let source : (v : ℕ) → v ≡ s → IsSource s a = λ v e. h.is.source in
    (λ place. h.is.range, (h.is.once, (source, (h.is.tight, (h.is.seeds, (h.is.low, (h.is.shorter, (h.is.leaves, tt))))))))

pub holds_or_broken : (Holds : Cond → ℕ → Type 0) (conds : List Cond) (cond : Cond) (place : ℕ) → AllHold Holds conds → FirstBroken Holds conds cond place → ⊥
holds_or_broken Holds [] cond place all broken = broken
holds_or_broken Holds (first ∷ conds) cond place all (inl here) = here.1.broken (all.0 place)
holds_or_broken Holds (first ∷ conds) cond place all (inr later) = holds_or_broken Holds conds cond place all.1 later.1
