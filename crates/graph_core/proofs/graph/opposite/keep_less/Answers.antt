-- The new number is the least where it fits and is below the one so far.
use Rattle.std.proofs.Common.{◌<◌, ◌≤◌, Some, sym, subst, ◌∙◌, arith}
use Rattle.graph_state.proofs.Has.{some_same, none_some}
use Rattle.graph_core.specs.Least.{IsLeast}
use Rattle.graph_core.proofs.Opposite.{least_skips, least_stays, least_new}
use Rattle.graph_core.proofs.graph.opposite.keep_less.Goals as goal

pub returns-then-not-fits : goal.returns-then-not-fits
returns-then-not-fits c P xs is l = least_skips P xs c.args.f c.args.least (is ∙ c.if-not-fits.true) l

pub returns-in-Some : goal.returns-in-Some
returns-in-Some c P xs is l = least_stays P xs c.args.f c.in-Some.b c.if-b-f.true (subst (IsLeast P xs) c.in-Some.is l)

pub returns-in_default : goal.returns-in_default
returns-in_default c P xs is l =
    let more = c.if-b-f.false in
    least_new P xs c.args.f c.args.least (is ∙ c.if-not-fits.false)
    (λ b e. subst (λ b. c.args.f ≤ b) (some_same (sym c.in-Some.is ∙ e)) (omega (arith, more))) l

pub returns-in_default-2 : goal.returns-in_default-2
returns-in_default-2 c P xs is l = least_new P xs c.args.f c.args.least (is ∙ c.if-not-fits.false) (λ b e. absurd (none_some (sym c.in_default.is ∙ e))) l
