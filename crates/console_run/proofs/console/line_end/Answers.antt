use Rattle.console_run.proofs.Pieces.{slice_rest, line-ends}
use Rattle.console_run.proofs.console.line_end.Goals as goal

pub returns-clause-found : goal.returns-clause-found
returns-clause-found c = line-ends c.args.piece.now _ c.args.at c.in_ok-count.count
    (slice_rest c.args.piece.now c.args.at)
    c.in_ok-count.ensures.0 c.in_ok-count.ensures.1
