-- Where there is a member, the edge is that of its element.
use Rattle.std.proofs.Common.{subst}
use Rattle.graph_lists.specs.Heads.{Finds}
use Rattle.graph_core.proofs.Found.{found_edge}
use Rattle.graph_core.proofs.graph.looks.may_edge_at.Goals as goal

pub returns-in-Some : goal.returns-in-Some
returns-in-Some c b o f = found_edge c.args.lists.now.named b c.in-Some.member c.edge_at.result.0.serial o c.edge_at.ensures (subst (λ m. Finds c.args.lists.now.named b m o) c.in-Some.is f)
