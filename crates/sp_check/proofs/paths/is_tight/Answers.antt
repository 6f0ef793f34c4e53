use Rattle.std.proofs.Common.{◌≡◌, ◌↔◌, ◌<◌, ℕ, true, sym, ◌∙◌, ap, subst, refl, arith}
use Rattle.graph_defs.specs.Net.{source, target}
use Rattle.graph_defs.specs.Shortest.{IsTight}
use Rattle.sp_check.proofs.ByKind.{always, tight_low, tight_unreached}
use Rattle.sp_check.proofs.paths.is_tight.Goals as goal

pub returns-in-Low : goal.returns-in-Low
returns-in-Low c = always (IsTight c.args.net.now c.args.cost.now c.args.a.now c.args.node)
    (tight_low c.args.net.now c.args.cost.now c.args.a.now c.args.node (c.requires.placed.once c.args.node c.requires.node) (c.in-Low.field-0, c.in-Low.ensures.0, c.in-Low.ensures.1))

pub returns-in-Unreached : goal.returns-in-Unreached
returns-in-Unreached c = always (IsTight c.args.net.now c.args.cost.now c.args.a.now c.args.node)
    (tight_unreached c.args.net.now c.args.cost.now c.args.a.now c.args.node (c.requires.placed.once c.args.node c.requires.node) c.in-Unreached.ensures)
