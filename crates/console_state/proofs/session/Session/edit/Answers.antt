use Rattle.script_text.specs.declared.word.Word.TheVariants.{Edit}
use Rattle.script_text.specs.Table.{may_lack_memory}
use Rattle.console_state.proofs.Edited.{edit_goes}
use Rattle.console_state.proofs.Serving.{goes_on_served}
use Rattle.console_state.proofs.session.Session.edit.Goals as goal

pub invariant_of-self : goal.invariant_of-self
invariant_of-self c = record {
  shown = tt;
  serve = goes_on_served c.self.inside.graph c.edit.new.graph c.self.inside.objects
      (edit_goes (may_lack_memory (Edit c.args.word)) c.args.word c.args.args.now
      c.self.inside.graph c.edit.new.graph c.edit.result c.edit.ensures.does)
      c.self.invariant.serve;
}
