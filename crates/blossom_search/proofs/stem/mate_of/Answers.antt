use Rattle.std.proofs.Common.{get_or, refl, rules}
use Rattle.blossom_search.proofs.Forests.{mate_found, mate_later}
use Rattle.blossom_search.proofs.stem.mate_of.Goals as goal

pub returns-in-Some : goal.returns-in-Some
returns-in-Some c = mate_found c.args.net.now c.args.m.now.edges c.args.node c.loop-edge.edge-index c.in-Some.end (record { edge = get_or c.as_slice-edges.result.now c.loop-edge.edge-index 0; end = c.in-Some.end }) (search rules) (search rules) (search rules) refl

pub loop-edge-preserved : goal.loop-edge-preserved
loop-edge-preserved c = mate_later c.args.net.now c.as_slice-edges.result.now c.args.node c.loop-edge.edge-index (search rules) (search rules) c.in_default.ensures c.loop-edge.invariant
