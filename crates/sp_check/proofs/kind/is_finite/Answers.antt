use Rattle.graph_defs.specs.Shortest.{IsFinite}
use Rattle.graph_defs.proofs.Listed.{finite_not_low, finite_not_unreached}
use Rattle.sp_check.proofs.ByKind.{never}
use Rattle.sp_check.proofs.kind.is_finite.Goals as goal

pub returns-in-Low : goal.returns-in-Low
returns-in-Low c = never (IsFinite c.args.a.now c.args.node) (λ f. finite_not_low c.args.a.now c.args.node (c.requires.placed.once c.args.node c.requires.node) f (c.in-Low.field-0, c.in-Low.ensures.0, c.in-Low.ensures.1))

pub returns-in-Unreached : goal.returns-in-Unreached
returns-in-Unreached c = never (IsFinite c.args.a.now c.args.node) (λ f. finite_not_unreached c.args.a.now c.args.node (c.requires.placed.once c.args.node c.requires.node) f c.in-Unreached.ensures)
