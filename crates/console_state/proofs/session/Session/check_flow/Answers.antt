use Rattle.std.proofs.Common.{◌≡◌, [], ◌∷◌, ap, subst, ◌∙◌}
use Rattle.std.specs.Prelude.{None, IfOk}
use Rattle.graph_defs.specs.declared.query.Kept.TheVariants as sorts
use Rattle.kept_answers.specs.Carried.{IsFlowChecked}
use Rattle.script_text.specs.declared.argument.Arg.TheVariants as args
use Rattle.script_text.specs.declared.word.QueryWord.TheVariants as queries
use Rattle.console_state.specs.State.{State}
use Rattle.console_state.specs.Costs.{costs}
use Rattle.console_state.specs.Query.{unpriced}
use Rattle.console_state.proofs.Telling.{verdict-replies}
use Rattle.console_state.proofs.Verdicts.{flow-allowed, flow-told}
use Rattle.console_state.proofs.session.Session.check_flow.Goals as goal

pub returns-in-Ok-clause-replies : goal.returns-in-Ok-clause-replies
returns-in-Ok-clause-replies c =
    let s = c.args.self.now in
    let k = c.args.kept.now in
    let name : c.capacities.result.now ≡ k.capacities = c.capacities.ensures.name in
    let none = subst (λ x. unpriced s x ≡ None) name c.in-Ok.ensures.0 in
    let same = c.as_slice.ensures ∙ c.in-Ok.ensures.1 ∙ ap (costs s) name in
    let right = subst (λ (s : State). IfOk c.check.result (IsFlowChecked s.graph c.as_slice.result.now k)) c.self.view_is c.check.ensures.right in
    verdict-replies c.check.result c.verdict.result c.verdict.ensures queries.Check (args.Kept sorts.Maxflow ∷ []) s
    (flow-allowed s k c.requires.kept none)
    (flow-told s k c.requires.kept c.as_slice.result.now same c.check.result right)
