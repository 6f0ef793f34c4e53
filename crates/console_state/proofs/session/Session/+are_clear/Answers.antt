use Rattle.std.proofs.Common.{arith}
use Rattle.std.proofs.lemmas.Bool.Decides.{nat_tests}
use Rattle.std.proofs.lemmas.Bool.{OnTrue_at, OnTrue_from}
use Rattle.console_state.proofs.Cleared.{clear-more, clear-none}
use Rattle.console_state.proofs.session.Session.+are_clear.Goals as goal

pub returns-then-is_clear : goal.returns-then-is_clear
returns-then-is_clear t c = OnTrue_from c.are_clear.result _
    (λ e. clear-more c.args.self.now c.args.forms.now c.args.args.now _ c.arg-item.result
    (grind (arith, nat_tests)) (grind (arith, nat_tests)) c.arg-item.is (OnTrue_at c.if-is_clear.true c.is_clear.ensures)
    (OnTrue_at e c.are_clear.ensures))

pub returns-in_default-2 : goal.returns-in_default-2
returns-in_default-2 t c = clear-none c.args.self.now c.args.forms.now c.args.args.now
    (λ a b. grind (arith, nat_tests))
