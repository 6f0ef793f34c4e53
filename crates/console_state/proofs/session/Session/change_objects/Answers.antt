use Rattle.script_text.specs.declared.word.Word.TheVariants.{Object}
use Rattle.script_text.specs.Table.{may_lack_memory}
use Rattle.console_state.proofs.Serving.{changed_served}
use Rattle.console_state.proofs.session.Session.change_objects.Goals as goal

pub invariant_of-self : goal.invariant_of-self
invariant_of-self c = record {
  shown = c.self.invariant.shown;
  serve = changed_served (may_lack_memory (Object c.args.word)) c.args.word c.args.args.now
      c.self.inside.graph c.self.inside.objects c.apply.new.self c.apply.result
      c.apply.ensures.does c.self.invariant.serve;
}
