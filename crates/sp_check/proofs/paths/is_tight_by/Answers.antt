use Rattle.std.proofs.Common.{◌≡◌, ◌↔◌, ◌<◌, ℕ, true, sym, ◌∙◌, ap, subst, refl, arith}
use Rattle.graph_defs.specs.Net.{source, target}
use Rattle.graph_defs.specs.declared.shortest.Finite.{Finite}
use Rattle.graph_defs.specs.Shortest.{IsTightBy, IsToldUnreached}
use Rattle.graph_defs.proofs.Listed.{finite_not_low, finite_not_unreached}
use Rattle.sp_check.proofs.ByKind.{never, iff_trans, source_once, difference_by, tight_by_finite, tight_by_late, tight_by_before}
use Rattle.sp_check.proofs.paths.is_tight_by.Goals as goal

pub returns-then-before-here : goal.returns-then-before-here
returns-then-before-here c = never ((j : ℕ) × IsTightBy c.args.net.now c.args.cost.now c.args.a.now c.args.here c.args.arc j)
    (tight_by_late c.args.net.now c.args.cost.now c.args.a.now c.args.here c.args.arc c.in-Finite.before (source_once c.args.net.now c.args.cost.now c.args.a.now c.args.places.now c.args.arc c.requires.placed c.requires.arc)
    c.requires.here c.in-Finite.ensures.0 (c.in-Finite.ensures.1 ∙ c.source_of.ensures.source) c.if-before-here.true)

pub returns-else-before-here : goal.returns-else-before-here
returns-else-before-here c = iff_trans
    (difference_by c.args.net.now c.args.cost.now c.args.a.now c.args.here c.in-Finite.before c.args.arc c.finite_of-in-Finite.result.now c.finite_of-in-Finite-2.result.now c.is_difference.result
    c.finite_of-in-Finite.ensures c.finite_of-in-Finite-2.ensures c.is_difference.ensures)
    (tight_by_before c.args.net.now c.args.cost.now c.args.a.now c.args.here c.args.arc c.in-Finite.before (source_once c.args.net.now c.args.cost.now c.args.a.now c.args.places.now c.args.arc c.requires.placed c.requires.arc)
    c.requires.here c.in-Finite.ensures.0 (c.in-Finite.ensures.1 ∙ c.source_of.ensures.source) c.if-before-here.false c.requires.pred
    (sym c.target_of.ensures.target ∙ c.if-target_of-finite_of.false ∙ ap (λ (f : Finite). f.node) c.finite_of.ensures))

pub returns-in-Low : goal.returns-in-Low
returns-in-Low c = never ((j : ℕ) × IsTightBy c.args.net.now c.args.cost.now c.args.a.now c.args.here c.args.arc j)
    (λ b. finite_not_low c.args.a.now (source c.args.net.now c.args.arc) (source_once c.args.net.now c.args.cost.now c.args.a.now c.args.places.now c.args.arc c.requires.placed c.requires.arc)
    (tight_by_finite c.args.net.now c.args.cost.now c.args.a.now c.args.here c.args.arc c.requires.here b) (c.in-Low.field-0, c.in-Low.ensures.0, c.in-Low.ensures.1 ∙ c.source_of.ensures.source))

pub returns-in-Unreached : goal.returns-in-Unreached
returns-in-Unreached c =
    let P : ℕ → Type 0 = λ v. IsToldUnreached c.args.a.now v in
    never ((j : ℕ) × IsTightBy c.args.net.now c.args.cost.now c.args.a.now c.args.here c.args.arc j)
    (λ b. finite_not_unreached c.args.a.now (source c.args.net.now c.args.arc) (source_once c.args.net.now c.args.cost.now c.args.a.now c.args.places.now c.args.arc c.requires.placed c.requires.arc)
    (tight_by_finite c.args.net.now c.args.cost.now c.args.a.now c.args.here c.args.arc c.requires.here b) (subst P c.source_of.ensures.source c.in-Unreached.ensures))
