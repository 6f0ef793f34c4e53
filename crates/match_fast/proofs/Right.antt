-- A right answer is one in the order of its edges of which all conditions of the check hold.
use Rattle.std.proofs.Common.{◌≡◌, ◌⊎◌, inl, inr, ℕ, ◌<◌, true, List, [], ◌∷◌, length, get_or, ap, ◌∙◌, All}
use Rattle.std.specs.List.Sorted.{IsStrictlyIncreasing}
use Rattle.std.proofs.lemmas.List.{get_or_default}
use Rattle.graph_defs.specs.declared.matching.MatchAnswer.{MatchAnswer}
use Rattle.graph_defs.specs.declared.net.Net.{Net}
use Rattle.graph_defs.specs.declared.verdict.Cond.{Cond}
use Rattle.graph_defs.specs.Matching.{IsMatchAnswer, MatchHolds, covers, match_order}
use Rattle.graph_defs.specs.Net.{Ends}
use Rattle.graph_defs.specs.Verdict.{AllHold, FirstBroken}
use Rattle.match_core.proofs.Steps.{loops_by_arc, loops_listed}

pub right : (net : Net) (a : MatchAnswer) → IsStrictlyIncreasing a.edges → AllHold (MatchHolds net a) match_order → IsMatchAnswer net a
right net a rises h =
    let arc_covered : (k : ℕ) (d : Ends) → k < length net.arcs → covers a.cover (get_or net.arcs k d) ≡ true = λ k d l.
    ap (covers a.cover) (get_or_default net.arcs k d (0, 0) l) ∙ h.1.1.1.0 k l in
    record {
      order = rises;
      matching = record { among = (h.0 0).edges; loops = loops_listed net a.edges h.1.0; apart = h.1.1.0 };
      cover = record { long = (h.0 0).cover; all = arc_covered };
      size = h.1.1.1.1.0 0;
    }

pub all_hold : (net : Net) (a : MatchAnswer) → IsMatchAnswer net a → AllHold (MatchHolds net a) match_order
all_hold net a h = (
  λ place. record { edges = h.matching.among; cover = h.cover.long },
  (loops_by_arc net a.edges h.matching.loops, (h.matching.apart, (λ arc l. h.cover.all arc (0, 0) l, (λ place. h.size, tt)))),
)

pub holds_or_broken : (Holds : Cond → ℕ → Type 0) (conds : List Cond) (cond : Cond) (place : ℕ) → AllHold Holds conds → FirstBroken Holds conds cond place → ⊥
holds_or_broken Holds [] cond place all broken = broken
holds_or_broken Holds (first ∷ conds) cond place all (inl here) = here.1.broken (all.0 place)
holds_or_broken Holds (first ∷ conds) cond place all (inr later) = holds_or_broken Holds conds cond place all.1 later.1
