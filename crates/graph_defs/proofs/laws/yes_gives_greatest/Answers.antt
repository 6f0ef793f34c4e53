use Rattle.std.proofs.Common.{arith}
use borrow.Author.Differences.{ints}
use Rattle.graph_defs.proofs.Exchange.{set_bounds_flows}
use Rattle.graph_defs.proofs.laws.yes_gives_greatest.Goals as goal

pub returns : goal.returns
returns c = λ net s t cap a other valid l h f.
    let cut = h.1.1.1.0 0 in
    let value = h.1.1.1.1.0 0 in
    let bound = set_bounds_flows net s t cap other a.cut valid l f cut.0 cut.1 in
    let v = value.0 in
    let k = value.1 in
    omega (arith, ints)
