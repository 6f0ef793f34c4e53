use Rattle.console_run.proofs.Lacking.{ran-command, not-run, own-text}
use Rattle.reply_text.specs.declared.reply.Reply.TheVariants.{Refused}
use Rattle.console_run.proofs.console.Console.run_line.Goals as goal

pub returns-in-Ok-Command-clause-ran : goal.returns-in-Ok-Command-clause-ran
returns-in-Ok-Command-clause-ran g c =
    ran-command c.args.strict c.args.self.now.line.items _ c.in-Ok-Command.command _ _ _ _ _ _ _
    c.as_slice.ensures.value
    (rw c.in-Ok-Command.field-0-is at c.in-Ok-Command.ensures.reads) c.in-Ok-Command.command-is
    c.run_command.ensures.ran

pub returns-in-Err-clause-ran : goal.returns-in-Err-clause-ran
returns-in-Err-clause-ran g c =
    not-run c.args.strict c.args.self.now.line.items _ c.in-Err.fault
    c.refusal_of.result _ _ _ _
    c.as_slice.ensures.value
    c.in-Err.ensures.reads c.refusal_of.ensures
    (own-text c.put_text.result (Refused c.refusal_of.result) _ _
    (tt {0}) c.put_text.ensures.text c.put_text.ensures.long)
    c.end_behind.ensures.end
