use Rattle.std.proofs.Common.{◌≡◌, [], ◌∷◌, ap, subst, ◌∙◌}
use Rattle.std.specs.Prelude.{None, IfOk}
use Rattle.graph_defs.specs.declared.query.Kept.TheVariants as sorts
use Rattle.kept_answers.specs.Told.{IsSpChecked}
use Rattle.script_text.specs.declared.argument.Arg.TheVariants as args
use Rattle.script_text.specs.declared.word.QueryWord.TheVariants as queries
use Rattle.console_state.specs.State.{State}
use Rattle.console_state.specs.Costs.{costs}
use Rattle.console_state.specs.Query.{unpriced}
use Rattle.console_state.proofs.PathAnswers.{costs-long}
use Rattle.console_state.proofs.Telling.{verdict-replies}
use Rattle.console_state.proofs.Verdicts.{paths-allowed, paths-told}
use Rattle.console_state.proofs.session.Session.check_paths.Goals as goal

pub check-requires-clause-costs : goal.check-requires-clause-costs
check-requires-clause-costs c =
    costs-long c.args.self.now c.args.shown.now c.requires.shown c.costs.result.now c.as_slice.result.now
    (c.as_slice.ensures ∙ c.in-Ok.ensures.1)

pub returns-in-Ok-clause-replies : goal.returns-in-Ok-clause-replies
returns-in-Ok-clause-replies c =
    let s = c.args.self.now in
    let k = c.args.kept.now in
    let name : c.costs.result.now ≡ k.costs = c.costs.ensures.name in
    let none = subst (λ x. unpriced s x ≡ None) name c.in-Ok.ensures.0 in
    let same = c.as_slice.ensures ∙ c.in-Ok.ensures.1 ∙ ap (costs s) name in
    let right = subst (λ (s : State). IfOk c.check.result (IsSpChecked s.graph c.as_slice.result.now k)) c.self.view_is c.check.ensures.right in
    verdict-replies c.check.result c.verdict.result c.verdict.ensures queries.Check (args.Kept sorts.Sp ∷ []) s
    (paths-allowed s k c.requires.kept none)
    (paths-told s k c.requires.kept c.as_slice.result.now same c.check.result right)
