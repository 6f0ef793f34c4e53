use Rattle.std.proofs.Common.{rules}
use Rattle.blossom_search.proofs.Forests.{started_none, started_root, started_met}
use Rattle.blossom_search.proofs.forest.start.Goals as goal

pub loop-node-init : goal.loop-node-init
loop-node-init c = started_none c.args.net.now c.args.m.now.edges _ (search rules) (search rules) (search rules)

pub loop-node-preserved-in-Some : goal.loop-node-preserved-in-Some
loop-node-preserved-in-Some c = started_met c.args.net.now c.args.m.now.edges c.loop-node.node c.in-Some._mate c.loop-node.forest c.in-Some.ensures c.loop-node.invariant

pub loop-node-preserved : goal.loop-node-preserved
loop-node-preserved c = started_root c.args.net.now c.args.m.now.edges c.loop-node.node c.loop-node.forest c.root.new.self (search rules) c.in_default.ensures c.loop-node.invariant c.in_ok-root.ensures.evens c.in_ok-root.ensures.odds c.in_ok-root.ensures.waiting
