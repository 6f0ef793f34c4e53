use Rattle.std.proofs.Common.{◌≡◌, ◌↔◌, ◌<◌, ℕ, true, sym, ◌∙◌, ap, subst, refl, arith}
use Rattle.graph_defs.specs.Net.{source, target}
use Rattle.graph_defs.specs.declared.shortest.Finite.{Finite}
use Rattle.graph_defs.specs.Shortest.{IsTight, finite_at}
use Rattle.sp_check.proofs.ByKind.{always, iff_trans, finite_once, tight_first, tight_some}
use Rattle.sp_check.proofs.paths.is_tight_at.Goals as goal

pub returns-then-here-eq0 : goal.returns-then-here-eq0
returns-then-here-eq0 c = always (IsTight c.args.net.now c.args.cost.now c.args.a.now (finite_at c.args.a.now c.args.here).node)
    (tight_first c.args.net.now c.args.cost.now c.args.a.now c.args.here (finite_once c.args.net.now c.args.cost.now c.args.a.now c.args.places.now c.args.here c.requires.placed c.requires.here) c.requires.here c.if-here-eq0.true)

pub returns-in-Some : goal.returns-in-Some
returns-in-Some c = iff_trans c.is_tight_by.ensures
    (tight_some c.args.net.now c.args.cost.now c.args.a.now c.args.here c.in-Some.arc (finite_once c.args.net.now c.args.cost.now c.args.a.now c.args.places.now c.args.here c.requires.placed c.requires.here) c.requires.here c.if-here-eq0.false
    (ap (λ (f : Finite). f.pred) (sym c.finite_of.ensures) ∙ c.in-Some.is))
