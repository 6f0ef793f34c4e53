use Rattle.graph_defs.specs.Shortest.{IsLow}
use Rattle.graph_defs.proofs.Listed.{finite_not_low, low_not_unreached}
use Rattle.sp_check.proofs.ByKind.{never}
use Rattle.sp_check.proofs.kind.is_low.Goals as goal

pub returns-in-Finite : goal.returns-in-Finite
returns-in-Finite c = never (IsLow c.args.a.now c.args.node) (λ l. finite_not_low c.args.a.now c.args.node (c.requires.placed.once c.args.node c.requires.node) (c.in-Finite.field-0, c.in-Finite.ensures.0, c.in-Finite.ensures.1) l)

pub returns-in-Unreached : goal.returns-in-Unreached
returns-in-Unreached c = never (IsLow c.args.a.now c.args.node) (λ l. low_not_unreached c.args.a.now c.args.node (c.requires.placed.once c.args.node c.requires.node) l c.in-Unreached.ensures)
