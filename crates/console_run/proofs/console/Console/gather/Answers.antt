use Rattle.std.proofs.Common.{rules}
use Rattle.console_run.proofs.Gathered.{gathered}
use Rattle.console_run.proofs.console.Console.gather.Goals as goal

pub returns-clause-kept : goal.returns-clause-kept
returns-clause-kept c = λ line h. gathered line c.args.bytes.now c.args.self.now.line.items
    c.extend_from_slice.new.self.items c.min-count.result
    h (search rules) (search rules)
