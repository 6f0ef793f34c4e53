use Rattle.std.proofs.Common.{◌≡◌, ℕ, true, List, get_or, subst, ◌∙◌, sym}
use Rattle.graph_defs.specs.Matching.{covers}
use Rattle.graph_defs.specs.Net.{Ends, source, target}
use Rattle.graph_defs.proofs.Verdicts.{below_more}
use Rattle.match_check.proofs.cover.first_uncovered.Goals as goal

pub loop-arc-preserved : goal.loop-arc-preserved
loop-arc-preserved c =
    let P : List Ends → Type 0 = λ arcs. covers c.args.labels.now ((get_or arcs c.loop-arc.arc (0, 0)).0, (get_or arcs c.loop-arc.arc (0, 0)).1) ≡ true in
    below_more (λ (arc : ℕ). covers c.args.labels.now (source c.args.net.now arc, target c.args.net.now arc) ≡ true) c.loop-arc.arc c.loop-arc.invariant
    (subst P c.as_slice-from-items.ensures (sym c.is_covered.ensures ∙ c.if-not-is_covered.false))
