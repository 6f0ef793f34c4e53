use Rattle.std.proofs.Common.{inl, inr}
use Rattle.console_state.proofs.session.Session.read_text.Goals as goal

pub returns-in-Ok-clause-does : goal.returns-in-Ok-clause-does
returns-in-Ok-clause-does c = elim c.replace.ensures.does [
  | inl is ↦ inl (record { graph = c.in-Ok.plain; stands = c.in-Ok.ensures.right; outcome_is = is })
  | inr wants ↦ inr (inr wants)
]
