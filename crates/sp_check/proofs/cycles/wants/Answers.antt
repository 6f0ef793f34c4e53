use Rattle.std.proofs.Common.{◌≡◌, ◌↔◌, true, subst}
use Rattle.graph_defs.specs.declared.shortest.Low.{Low}
use Rattle.graph_defs.specs.declared.shortest.Why.TheVariants as why
use Rattle.graph_defs.proofs.Listed.{finite_not_low, low_not_unreached}
use Rattle.sp_check.specs.Passes.{Wants}
use Rattle.sp_check.proofs.ByKind.{wants_at, wants_none, never, iff_trans}
use Rattle.sp_check.proofs.cycles.wants.Goals as goal

pub returns-in-Low : goal.returns-in-Low
returns-in-Low c =
    let P : Low → Type 0 = λ x. (c.is_by_seed.result ≡ true) ↔ (x.why ≡ why.Seed c.args.seed) in
    iff_trans (subst P c.low_of.ensures c.is_by_seed.ensures)
    (wants_at c.args.a.now c.args.node c.args.seed c.in-Low.place (c.requires.placed.once c.args.node c.requires.node) c.in-Low.ensures.0 c.in-Low.ensures.1)

pub returns-in-Finite : goal.returns-in-Finite
returns-in-Finite c = never (Wants c.args.a.now c.args.node c.args.seed) (λ w. wants_none c.args.a.now c.args.node c.args.seed
    (λ l. finite_not_low c.args.a.now c.args.node (c.requires.placed.once c.args.node c.requires.node) (c.in-Finite.field-0, c.in-Finite.ensures.0, c.in-Finite.ensures.1) l) w)

pub returns-in-Unreached : goal.returns-in-Unreached
returns-in-Unreached c = never (Wants c.args.a.now c.args.node c.args.seed) (λ w. wants_none c.args.a.now c.args.node c.args.seed
    (λ l. low_not_unreached c.args.a.now c.args.node (c.requires.placed.once c.args.node c.requires.node) l c.in-Unreached.ensures) w)
