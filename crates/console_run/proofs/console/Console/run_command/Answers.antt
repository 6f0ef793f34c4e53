use Rattle.console_run.proofs.Lacking.{lacking}
use Rattle.console_run.proofs.console.Console.run_command.Goals as goal

pub returns-else-put_text-clause-ran : goal.returns-else-put_text-clause-ran
returns-else-put_text-clause-ran g c = record {
  reply = _;
  step = lacking _ _ c.args.command c.apply-reply.result _ _ c.if-put_text.ensures.long
      c.apply-reply.ensures.quiet;
  text_is = c.if-put_text.ensures.text;
  ended_is = c.end_behind.ensures.end;
}
