use Rattle.std.proofs.Common.{◌≡◌, ◌↔◌, ◌<◌, ℕ, true, sym, ◌∙◌, ap, subst, refl, arith}
use Rattle.graph_defs.specs.Net.{source, target}
use Rattle.graph_defs.specs.Shortest.{IsNotShorter, IsToldUnreached}
use Rattle.graph_defs.proofs.Listed.{finite_not_low, finite_not_unreached}
use Rattle.sp_check.proofs.ByKind.{always, iff_trans, source_once, target_once, at_most_by, shorter_from, shorter_both}
use Rattle.sp_check.proofs.paths.is_not_shorter.Goals as goal

pub returns-in-Low : goal.returns-in-Low
returns-in-Low c = always (IsNotShorter c.args.net.now c.args.cost.now c.args.a.now c.args.arc)
    (shorter_from c.args.net.now c.args.cost.now c.args.a.now c.args.arc (λ f. finite_not_low c.args.a.now (source c.args.net.now c.args.arc)
    (source_once c.args.net.now c.args.cost.now c.args.a.now c.args.places.now c.args.arc c.requires.placed c.requires.arc) f (c.in-Low.field-0, c.in-Low.ensures.0, c.in-Low.ensures.1 ∙ c.source_of.ensures.source)))

pub returns-in-Unreached : goal.returns-in-Unreached
returns-in-Unreached c =
    let P : ℕ → Type 0 = λ v. IsToldUnreached c.args.a.now v in
    always (IsNotShorter c.args.net.now c.args.cost.now c.args.a.now c.args.arc)
    (shorter_from c.args.net.now c.args.cost.now c.args.a.now c.args.arc (λ f. finite_not_unreached c.args.a.now (source c.args.net.now c.args.arc)
    (source_once c.args.net.now c.args.cost.now c.args.a.now c.args.places.now c.args.arc c.requires.placed c.requires.arc) f (subst P c.source_of.ensures.source c.in-Unreached.ensures)))
