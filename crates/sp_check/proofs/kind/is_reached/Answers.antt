use Rattle.graph_defs.specs.Shortest.{IsToldUnreached}
use Rattle.graph_defs.proofs.Listed.{finite_not_unreached, low_not_unreached}
use Rattle.sp_check.proofs.ByKind.{never, always}
use Rattle.sp_check.proofs.kind.is_reached.Goals as goal

pub returns-in-Finite : goal.returns-in-Finite
returns-in-Finite c = always (IsToldUnreached c.args.a.now c.args.node → ⊥) (λ u. finite_not_unreached c.args.a.now c.args.node (c.requires.placed.once c.args.node c.requires.node) (c.in-Finite.field-0, c.in-Finite.ensures.0, c.in-Finite.ensures.1) u)

pub returns-in-Low : goal.returns-in-Low
returns-in-Low c = always (IsToldUnreached c.args.a.now c.args.node → ⊥) (λ u. low_not_unreached c.args.a.now c.args.node (c.requires.placed.once c.args.node c.requires.node) (c.in-Low.field-0, c.in-Low.ensures.0, c.in-Low.ensures.1) u)

pub returns-in-Unreached : goal.returns-in-Unreached
returns-in-Unreached c = never (IsToldUnreached c.args.a.now c.args.node → ⊥) (λ h. h c.in-Unreached.ensures)
