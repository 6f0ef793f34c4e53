use Rattle.std.proofs.Common.{◌≡◌, ◌↔◌, ◌<◌, ℕ, true, sym, ◌∙◌, ap, subst, refl, arith}
use Rattle.graph_defs.specs.Net.{source, target}
use Rattle.graph_defs.specs.Shortest.{StaysWithin, IsLow, IsToldUnreached}
use Rattle.graph_defs.proofs.Listed.{kinds}
use Rattle.sp_check.proofs.ByKind.{always, iff_trans, source_once, target_once, stays_from_finite, stays_from_low, stays_unreached}
use Rattle.sp_check.proofs.paths.stays_within.Goals as goal

pub returns-in-Finite : goal.returns-in-Finite
returns-in-Finite c =
    let P : ℕ → Type 0 = λ v. (c.is_reached.result ≡ true) ↔ (IsToldUnreached c.args.a.now v → ⊥) in
    iff_trans (subst P c.target_of.ensures.target c.is_reached.ensures)
    (stays_from_finite c.args.net.now c.args.a.now c.args.arc (source_once c.args.net.now c.args.cost.now c.args.a.now c.args.places.now c.args.arc c.requires.placed c.requires.arc)
    (c.in-Finite.field-0, c.in-Finite.ensures.0, c.in-Finite.ensures.1 ∙ c.source_of.ensures.source))

pub returns-in-Low : goal.returns-in-Low
returns-in-Low c =
    let P : ℕ → Type 0 = λ v. (c.is_low.result ≡ true) ↔ IsLow c.args.a.now v in
    let ot = target_once c.args.net.now c.args.cost.now c.args.a.now c.args.places.now c.args.arc c.requires.placed c.requires.arc in
    iff_trans (subst P c.target_of-in-Low.ensures.target c.is_low.ensures)
    (stays_from_low c.args.net.now c.args.a.now c.args.arc (source_once c.args.net.now c.args.cost.now c.args.a.now c.args.places.now c.args.arc c.requires.placed c.requires.arc) ot
    (c.in-Low.field-0, c.in-Low.ensures.0, c.in-Low.ensures.1 ∙ c.source_of.ensures.source) (kinds c.args.a.now (target c.args.net.now c.args.arc) ot))

pub returns-in-Unreached : goal.returns-in-Unreached
returns-in-Unreached c =
    let P : ℕ → Type 0 = λ v. IsToldUnreached c.args.a.now v in
    always (StaysWithin c.args.net.now c.args.a.now c.args.arc)
    (stays_unreached c.args.net.now c.args.a.now c.args.arc (source_once c.args.net.now c.args.cost.now c.args.a.now c.args.places.now c.args.arc c.requires.placed c.requires.arc) (subst P c.source_of.ensures.source c.in-Unreached.ensures))
