use Rattle.std.proofs.Common.{◌≡◌, ◌↔◌, ◌<◌, ℕ, true, sym, ◌∙◌, ap, subst, refl, arith}
use Rattle.graph_defs.specs.Net.{source, target}
use Rattle.graph_defs.specs.declared.shortest.Low.{Low}
use Rattle.graph_defs.specs.declared.shortest.Why.{Why}
use Rattle.graph_defs.specs.declared.shortest.Why.TheVariants as why
use Rattle.graph_defs.specs.Shortest.{low_at, HasReason, HasItsReason}
use Rattle.graph_defs.proofs.Listed.{finite_not_low, low_not_unreached}
use Rattle.sp_check.proofs.ByKind.{always, iff_trans, reason_none, reason_at, reason_seed, seed_in, reason_arc}
use Rattle.sp_check.proofs.cycles.has_its_reason.Goals as goal

pub returns-in-Seed : goal.returns-in-Seed
returns-in-Seed c =
    let w = ap (λ (l : Low). l.why) (sym c.low_of.ensures) ∙ c.in-Seed.is in
    reason_seed c.args.net.now c.args.cost.now c.args.a.now c.args.marks.now c.args.node c.in-Seed.field-0 c.in-Low.here (c.requires.placed.once c.args.node c.requires.node) c.in-Low.ensures.0 c.in-Low.ensures.1 w
    (seed_in c.args.net.now c.args.cost.now c.args.a.now c.args.places.now c.in-Low.here c.in-Seed.field-0 c.requires.placed c.in-Low.ensures.0 w) c.requires.marked

pub returns-in-Arc : goal.returns-in-Arc
returns-in-Arc c =
    let w = ap (λ (l : Low). l.why) (sym c.low_of.ensures) ∙ c.in-Arc.is in
    reason_arc c.args.net.now c.args.a.now c.args.node c.in-Low.here c.in-Arc.arc c.leads_from_before.result (c.requires.placed.once c.args.node c.requires.node) c.in-Low.ensures.0 c.in-Low.ensures.1 w c.leads_from_before.ensures

pub returns-in-Finite : goal.returns-in-Finite
returns-in-Finite c = always (HasItsReason c.args.net.now c.args.a.now c.args.node)
    (reason_none c.args.net.now c.args.a.now c.args.node (λ l. finite_not_low c.args.a.now c.args.node (c.requires.placed.once c.args.node c.requires.node) (c.in-Finite.field-0, c.in-Finite.ensures.0, c.in-Finite.ensures.1) l))

pub returns-in-Unreached : goal.returns-in-Unreached
returns-in-Unreached c = always (HasItsReason c.args.net.now c.args.a.now c.args.node)
    (reason_none c.args.net.now c.args.a.now c.args.node (λ l. low_not_unreached c.args.a.now c.args.node (c.requires.placed.once c.args.node c.requires.node) l c.in-Unreached.ensures))
