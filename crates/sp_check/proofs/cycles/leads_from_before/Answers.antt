use Rattle.std.proofs.Common.{◌≡◌, ◌↔◌, ◌<◌, ℕ, true, sym, ◌∙◌, ap, subst, refl, arith}
use Rattle.graph_defs.specs.Net.{source, target}
use Rattle.std.proofs.lemmas.Bool.Decides.{nat_tests}
use Rattle.graph_defs.specs.declared.shortest.Low.{Low}
use Rattle.graph_defs.specs.declared.shortest.Why.TheVariants as why
use Rattle.graph_defs.specs.Shortest.{low_at, HasReason, IsToldUnreached}
use Rattle.graph_defs.proofs.Listed.{finite_not_low, low_not_unreached}
use Rattle.sp_check.proofs.ByKind.{never, reason_low, reason_from, iff_trans, source_once}
use Rattle.sp_check.proofs.cycles.leads_from_before.Goals as goal

pub returns-in-Low : goal.returns-in-Low
returns-in-Low c =
    let r = reason_low c.args.net.now c.args.a.now c.args.arc (low_at c.args.a.now c.args.here).node c.args.here c.in-Low.before
    (source_once c.args.net.now c.args.cost.now c.args.a.now c.args.places.now c.args.arc c.requires.placed c.requires.arc) c.requires.here c.in-Low.ensures.0 (c.in-Low.ensures.1 ∙ c.source_of.ensures.source)
    (sym c.target_of.ensures.target ∙ c.if-target_of-low_of.false ∙ ap (λ (l : Low). l.node) c.low_of.ensures) in
    (λ t. r.0 (grind (arith, nat_tests)), λ h. let l = r.1 h in grind (arith, nat_tests))

pub returns-in-Finite : goal.returns-in-Finite
returns-in-Finite c = never (HasReason c.args.net.now c.args.a.now c.args.here (low_at c.args.a.now c.args.here).node (why.Arc c.args.arc))
    (λ r. finite_not_low c.args.a.now (source c.args.net.now c.args.arc) (source_once c.args.net.now c.args.cost.now c.args.a.now c.args.places.now c.args.arc c.requires.placed c.requires.arc)
    (c.in-Finite.field-0, c.in-Finite.ensures.0, c.in-Finite.ensures.1 ∙ c.source_of.ensures.source) (reason_from c.args.net.now c.args.a.now c.args.arc (low_at c.args.a.now c.args.here).node c.args.here c.requires.here r))

pub returns-in-Unreached : goal.returns-in-Unreached
returns-in-Unreached c =
    let P : ℕ → Type 0 = λ v. IsToldUnreached c.args.a.now v in
    never (HasReason c.args.net.now c.args.a.now c.args.here (low_at c.args.a.now c.args.here).node (why.Arc c.args.arc))
    (λ r. low_not_unreached c.args.a.now (source c.args.net.now c.args.arc) (source_once c.args.net.now c.args.cost.now c.args.a.now c.args.places.now c.args.arc c.requires.placed c.requires.arc)
    (reason_from c.args.net.now c.args.a.now c.args.arc (low_at c.args.a.now c.args.here).node c.args.here c.requires.here r) (subst P c.source_of.ensures.source c.in-Unreached.ensures))
