use Rattle.std.proofs.Common.{ap, subst, ◌∙◌}
use Rattle.std.specs.Prelude.{IfOk}
use Rattle.kept_answers.specs.Told.{Told, named_by, IsAnswerChecked, IsSpChecked}
use Rattle.kept_answers.proofs.told.KeptPaths.check.Goals as goal

pub returns-clause-right : goal.returns-clause-right
returns-clause-right c =
    let g = c.args.g.now in
    let cost = c.args.cost.now in
    let kept = c.self.inside in
    let named = c.in_ok-told.ensures ∙ ap (λ ns. named_by ns c.as_slice-2.result.now kept.answer) c.as_slice.ensures
    ∙ ap (λ es. named_by kept.nodes es kept.answer) c.as_slice-2.ensures in
    subst (λ (k : Told). IfOk c.check.result (IsSpChecked g cost k)) c.self.view_is
    (subst (λ a. IfOk c.check.result (IsAnswerChecked g cost kept.source a)) named c.check.ensures.right)
