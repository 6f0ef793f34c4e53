use Rattle.std.proofs.Common.{◌<◌, [], ◌∷◌, ap, refl, subst, ◌∙◌}
use Rattle.std.specs.Prelude.{slice_index}
use Rattle.script_text.specs.declared.argument.Arg.TheVariants as args
use Rattle.reply_text.specs.declared.reply.Answer.TheVariants as answers
use Rattle.reply_text.specs.declared.reply.Reply.TheVariants.{Refused}
use Rattle.reply_text.specs.declared.refusal.Refusal.TheVariants as refusals
use Rattle.console_state.specs.Paths.{word_of, MayRefuse}
use Rattle.console_state.specs.Views.{edge_names}
use Rattle.console_state.proofs.PathAnswers.{path-allowed, path-beyond, path-named, path-known, path-negative, path-told, costs-long}
use Rattle.console_state.proofs.Reaches.{listed_place, node_below}
use Rattle.console_state.proofs.Telling.{breaks, told-named, told-replies}
use Rattle.console_state.proofs.session.Session.paths.Goals as goal

pub unreachable-requires : goal.unreachable-requires
unreachable-requires c = c.in_default.ensures (listed_place c.args.self.now c.args.shown.now c.requires.shown c.args.source c.requires.source)

pub answer-requires-clause-source : goal.answer-requires-clause-source
answer-requires-clause-source c = node_below c.args.self.now c.args.shown.now c.requires.shown c.args.source c.in-Some.source c.in-Some.ensures

pub answer-requires-clause-costs : goal.answer-requires-clause-costs
answer-requires-clause-costs c =
    costs-long c.args.self.now c.args.shown.now c.requires.shown c.args.name.now c.as_slice.result.now
    (c.as_slice.ensures ∙ c.in-Ok.ensures.1)

pub returns-in-Ok-answer-clause-replies : goal.returns-in-Ok-answer-clause-replies
returns-in-Ok-answer-clause-replies c =
    let s = c.args.self.now in
    let name = c.args.name.now in
    let cost = c.as_slice.result.now in
    let same = c.as_slice.ensures ∙ c.in-Ok.ensures.1 in
    let covered = c.in-Ok.ensures.0 in
    told-replies (word_of c.args.search) (args.Node c.args.source ∷ args.Name name ∷ []) s (answers.Sp c.in-Ok-answer.answer)
    (path-allowed s name cost c.args.source same covered c.args.search c.in-Ok-answer.ensures.allowed)
    (path-told s name cost c.args.source same covered c.args.shown.now c.requires.shown c.in-Some.source c.in-Some.ensures
    c.in-Ok-answer.answer c.in-Ok-answer.ensures.right c.args.search)
    c.told.result c.told.ensures

pub returns-in-Ok-answer-clause-named : goal.returns-in-Ok-answer-clause-named
returns-in-Ok-answer-clause-named c =
    told-named c.args.self.now (answers.Sp c.in-Ok-answer.answer)
    (λ named so. path-named c.args.self.now c.args.shown.now c.requires.shown c.in-Ok-answer.answer named so
    c.in-Ok-answer.ensures.right.is.range)
    c.told.result c.told.ensures

pub negative-requires-clause-arc : goal.negative-requires-clause-arc
negative-requires-clause-arc c =
    let cost = c.as_slice.result.now in
    let refused = subst (MayRefuse c.args.search cost) c.in-Err-Negative.field-0-is c.in-Err-Negative.ensures.refusal in
    subst (λ k. c.in-Err-Negative.arc < k)
    (costs-long c.args.self.now c.args.shown.now c.requires.shown c.args.name.now cost (c.as_slice.ensures ∙ c.in-Ok.ensures.1))
    (path-known cost c.args.search c.in-Err-Negative.arc refused)

pub returns-in-Err-Negative-clause-replies : goal.returns-in-Err-Negative-clause-replies
returns-in-Err-Negative-clause-replies c =
    let s = c.args.self.now in
    let name = c.args.name.now in
    let cost = c.as_slice.result.now in
    let arc = c.in-Err-Negative.arc in
    let same = c.as_slice.ensures ∙ c.in-Ok.ensures.1 in
    let refused = subst (MayRefuse c.args.search cost) c.in-Err-Negative.field-0-is c.in-Err-Negative.ensures.refusal in
    breaks (word_of c.args.search) (args.Node c.args.source ∷ args.Name name ∷ []) s
    (refusals.Negative (slice_index (edge_names s) arc)) (Refused c.negative.result)
    (path-negative s name cost c.args.source same c.in-Ok.ensures.0 c.args.search arc refused)
    (ap Refused c.negative.ensures)

pub returns-in-Err-Bound-clause-replies : goal.returns-in-Err-Bound-clause-replies
returns-in-Err-Bound-clause-replies c =
    let s = c.args.self.now in
    let name = c.args.name.now in
    let cost = c.as_slice.result.now in
    let same = c.as_slice.ensures ∙ c.in-Ok.ensures.1 in
    breaks (word_of c.args.search) (args.Node c.args.source ∷ args.Name name ∷ []) s refusals.Bound (Refused refusals.Bound)
    (path-beyond s name cost c.args.source same c.in-Ok.ensures.0 c.args.search
    (subst (MayRefuse c.args.search cost) c.in-Err-Bound.field-0-is c.in-Err-Bound.ensures.refusal)) refl
