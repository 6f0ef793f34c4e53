use Rattle.console_state.proofs.Edited.{replaced_goes}
use Rattle.console_state.proofs.Serving.{goes_on_served}
use Rattle.console_state.proofs.session.Session.replace.Goals as goal

pub invariant_of-self : goal.invariant_of-self
invariant_of-self c = record {
  shown = tt;
  serve = goes_on_served c.self.inside.graph c.replace.new.self c.self.inside.objects
      (replaced_goes c.args.plain c.self.inside.graph c.replace.new.self c.replace.result
      c.replace.ensures.state c.replace.ensures.same) c.self.invariant.serve;
}
