use Rattle.std.proofs.Common.{rules}
use Rattle.console_run.proofs.WorkLines.{node-line, edge-line, edge-drawn, last-line}
use Rattle.console_run.proofs.workload.Generator.put_line.Goals as goal

pub returns-then-at-lt-NODE_COUNT-clause-line : goal.returns-then-at-lt-NODE_COUNT-clause-line
returns-then-at-lt-NODE_COUNT-clause-line c = λ seed.
    node-line seed c.args.at c.args.self.now.number _ c.if-at-lt-NODE_COUNT.true (search rules)

pub returns-then-at-clause-line : goal.returns-then-at-clause-line
returns-then-at-clause-line c = λ seed.
    edge-line seed c.args.at c.args.self.now.number _ c.if-at-lt-NODE_COUNT.false c.if-at.true
    (search rules)

pub returns-then-at-clause-drawn : goal.returns-then-at-clause-drawn
returns-then-at-clause-drawn c = λ seed.
    edge-drawn seed c.args.at c.args.self.now.number _ c.if-at-lt-NODE_COUNT.false c.if-at.true
    c.put_edge.ensures.number

pub returns-else-at-clause-line : goal.returns-else-at-clause-line
returns-else-at-clause-line c = λ seed.
    last-line seed c.args.at c.args.self.now.number _ _ c.if-at.false c.put_last.ensures.line
