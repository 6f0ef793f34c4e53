use Rattle.std.proofs.Common.{◌≡◌, ◌↔◌, ◌<◌, ℕ, true, sym, ◌∙◌, ap, subst, refl, arith}
use Rattle.graph_defs.specs.Net.{source, target}
use Rattle.graph_defs.specs.Shortest.{IsNotShorter, IsToldUnreached}
use Rattle.graph_defs.proofs.Listed.{finite_not_low, finite_not_unreached}
use Rattle.sp_check.proofs.ByKind.{always, iff_trans, source_once, target_once, at_most_by, shorter_to, shorter_both}
use Rattle.sp_check.proofs.paths.is_not_shorter_from.Goals as goal

pub returns-in-Low : goal.returns-in-Low
returns-in-Low c = always (IsNotShorter c.args.net.now c.args.cost.now c.args.a.now c.args.arc)
    (shorter_to c.args.net.now c.args.cost.now c.args.a.now c.args.arc (λ f. finite_not_low c.args.a.now (target c.args.net.now c.args.arc)
    (target_once c.args.net.now c.args.cost.now c.args.a.now c.args.places.now c.args.arc c.requires.placed c.requires.arc) f (c.in-Low.field-0, c.in-Low.ensures.0, c.in-Low.ensures.1 ∙ c.target_of.ensures.target)))

pub returns-in-Unreached : goal.returns-in-Unreached
returns-in-Unreached c =
    let P : ℕ → Type 0 = λ v. IsToldUnreached c.args.a.now v in
    always (IsNotShorter c.args.net.now c.args.cost.now c.args.a.now c.args.arc)
    (shorter_to c.args.net.now c.args.cost.now c.args.a.now c.args.arc (λ f. finite_not_unreached c.args.a.now (target c.args.net.now c.args.arc)
    (target_once c.args.net.now c.args.cost.now c.args.a.now c.args.places.now c.args.arc c.requires.placed c.requires.arc) f (subst P c.target_of.ensures.target c.in-Unreached.ensures)))

pub returns-in-Finite : goal.returns-in-Finite
returns-in-Finite c = iff_trans
    (at_most_by c.args.net.now c.args.cost.now c.args.a.now c.args.from c.in-Finite.to c.args.arc c.finite_of.result.now c.finite_of-in-Finite.result.now c.is_at_most.result c.finite_of.ensures c.finite_of-in-Finite.ensures c.is_at_most.ensures)
    (shorter_both c.args.net.now c.args.cost.now c.args.a.now c.args.arc c.args.from c.in-Finite.to
    (source_once c.args.net.now c.args.cost.now c.args.a.now c.args.places.now c.args.arc c.requires.placed c.requires.arc)
    (target_once c.args.net.now c.args.cost.now c.args.a.now c.args.places.now c.args.arc c.requires.placed c.requires.arc)
    (c.requires.below, c.requires.from) (c.in-Finite.ensures.0, c.in-Finite.ensures.1 ∙ c.target_of.ensures.target))
