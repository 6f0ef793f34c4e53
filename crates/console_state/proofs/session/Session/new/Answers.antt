use Rattle.console_state.proofs.Serving.{none_serve}
use Rattle.console_state.proofs.session.Session.new.Goals as goal

pub invariant_of-result : goal.invariant_of-result
invariant_of-result c = record {
  shown = tt;
  serve = none_serve c.new.result c.new-2.result c.new-2.ensures;
}
