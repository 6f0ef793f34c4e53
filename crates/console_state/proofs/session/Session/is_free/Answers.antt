use Rattle.std.proofs.Common.{sym, ap, ◌∙◌}
use Rattle.std.specs.Prelude.{option_map}
use Rattle.std.proofs.lemmas.Bool.{OnTrue_at, OnTrue_from}
use Rattle.console_state.specs.Obstacles.{refusal_of}
use Rattle.console_state.proofs.Cleared.{free, none-there}
use Rattle.console_state.proofs.session.Session.is_free.Goals as goal

pub returns-then-is_none : goal.returns-then-is_none
returns-then-is_none c = OnTrue_from c.are_clear.result _
    (λ e. free c.args.self.now c.args.word c.args.forms.now c.args.args.now
    (sym c.wrong_kind.ensures ∙ ap (option_map refusal_of) (none-there c.wrong_kind.result c.is_none.result c.is_none.ensures c.if-is_none.true))
    (OnTrue_at e c.are_clear.ensures))
