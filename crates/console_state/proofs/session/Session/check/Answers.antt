use Rattle.std.proofs.Common.{[], ◌∷◌, ap, sym, subst, ◌∙◌}
use Rattle.std.specs.Prelude.{IfOk}
use Rattle.graph_defs.specs.declared.query.Kept.TheVariants as sorts
use Rattle.kept_answers.specs.Checked.{IsMatchChecked}
use Rattle.script_text.specs.declared.argument.Arg.TheVariants as args
use Rattle.script_text.specs.declared.word.QueryWord.TheVariants as queries
use Rattle.console_state.specs.State.{State}
use Rattle.console_state.proofs.Telling.{verdict-replies}
use Rattle.console_state.proofs.Verdicts.{matching-allowed, matching-told}
use Rattle.console_state.proofs.session.Session.check.Goals as goal

pub returns-in-Matching-default-default-Some-clause-replies : goal.returns-in-Matching-default-default-Some-clause-replies
returns-in-Matching-default-default-Some-clause-replies c =
    let s = c.args.self.now in
    let k = c.in-Matching-default-default-Some.kept in
    let is = sym (ap (λ (s : State). s.kept.matching) c.self.view_is) ∙ c.in-Matching-default-default-Some.is-3 in
    let right = subst (λ (s : State). IfOk c.check.result (IsMatchChecked s.graph k)) c.self.view_is c.check.ensures.right in
    rw c.in-Matching-default-default-Some.is-0
    (verdict-replies c.check.result c.verdict.result c.verdict.ensures queries.Check (args.Kept sorts.Matching ∷ []) s
    (matching-allowed s k is) (matching-told s k is c.check.result right))
