use Rattle.std.proofs.Common.{◌<◌, [], ◌∷◌, ap, refl, subst, ◌∙◌}
use Rattle.std.specs.Prelude.{slice_index}
use Rattle.flow_net.specs.Refusals.{Refuses}
use Rattle.graph_state.specs.Formed.{IsFormed}
use Rattle.script_text.specs.declared.argument.Arg.TheVariants as args
use Rattle.script_text.specs.declared.word.QueryWord.TheVariants as queries
use Rattle.script_text.specs.declared.word.Word.TheVariants.{Query}
use Rattle.reply_text.specs.declared.reply.Answer.TheVariants as answers
use Rattle.reply_text.specs.declared.reply.Reply.TheVariants.{Refused}
use Rattle.reply_text.specs.declared.refusal.Refusal.TheVariants as refusals
use Rattle.console_state.specs.State.{State}
use Rattle.console_state.specs.Views.{edge_names}
use Rattle.console_state.proofs.FlowAnswers.{flow-allowed, flow-beyond, flow-keeps, flow-named, flow-negative, flow-same, flow-told}
use Rattle.console_state.proofs.PathAnswers.{costs-long}
use Rattle.console_state.proofs.Reaches.{listed_place, never, node_below}
use Rattle.console_state.proofs.Telling.{breaks, told-keepable, told-named, told-replies}
use Rattle.console_state.proofs.session.Session.flow.Goals.{in_default-via-in-Some+in_default, in_default-via-in_default}
use Rattle.console_state.proofs.session.Session.flow.Goals as goal

pub unreachable-requires : goal.unreachable-requires
unreachable-requires c = elim c.in_default.branch [
  | in_default-via-in-Some+in_default w ↦ w.in_default.ensures' (listed_place c.args.self.now c.args.shown.now c.requires.shown c.args.sink c.requires.sink)
  | in_default-via-in_default w ↦ never c.place.result _ _ c.place.ensures w.in_default.is-0 (listed_place c.args.self.now c.args.shown.now c.requires.shown c.args.source c.requires.source)
]

pub preflow-requires-clause-s : goal.preflow-requires-clause-s
preflow-requires-clause-s c = node_below c.args.self.now c.args.shown.now c.requires.shown c.args.source c.in-Some-Some.from c.in-Some-Some.ensures

pub preflow-requires-clause-t : goal.preflow-requires-clause-t
preflow-requires-clause-t c = node_below c.args.self.now c.args.shown.now c.requires.shown c.args.sink c.in-Some-Some.to c.in-Some-Some.ensures'

pub preflow-requires-clause-caps : goal.preflow-requires-clause-caps
preflow-requires-clause-caps c =
    costs-long c.args.self.now c.args.shown.now c.requires.shown c.args.name.now c.as_slice.result.now
    (c.as_slice.ensures ∙ c.in-Ok.ensures.1)

pub negative-requires-clause-arc : goal.negative-requires-clause-arc
negative-requires-clause-arc c =
    let cap = c.as_slice.result.now in
    let refused = subst (Refuses c.in-Some-Some.from c.in-Some-Some.to cap) c.in-Err-Negative.field-0-is c.in-Err-Negative.ensures.refusal in
    subst (λ k. c.in-Err-Negative.arc < k)
    (costs-long c.args.self.now c.args.shown.now c.requires.shown c.args.name.now cap (c.as_slice.ensures ∙ c.in-Ok.ensures.1))
    refused.1.known

pub returns-in-Ok-preflow-clause-replies : goal.returns-in-Ok-preflow-clause-replies
returns-in-Ok-preflow-clause-replies c =
    let s = c.args.self.now in
    let name = c.args.name.now in
    let same = c.as_slice.ensures ∙ c.in-Ok.ensures.1 in
    let covered = c.in-Ok.ensures.0 in
    let answer = c.in-Ok-preflow.answer in
    told-replies queries.Maxflow (args.Node c.args.source ∷ args.Node c.args.sink ∷ args.Name name ∷ []) s (answers.Flow answer)
    (flow-allowed s c.args.shown.now c.requires.shown c.args.source c.args.sink c.in-Some-Some.from c.in-Some-Some.to c.in-Some-Some.ensures c.in-Some-Some.ensures'
    name c.as_slice.result.now same covered c.in-Ok-preflow.ensures.differ c.in-Ok-preflow.ensures.low c.in-Ok-preflow.ensures.within)
    (flow-told s c.args.shown.now c.requires.shown c.args.source c.args.sink c.in-Some-Some.from c.in-Some-Some.to c.in-Some-Some.ensures c.in-Some-Some.ensures'
    name c.as_slice.result.now same covered answer c.in-Ok-preflow.ensures.right)
    c.told.result c.told.ensures

pub returns-in-Ok-preflow-clause-named : goal.returns-in-Ok-preflow-clause-named
returns-in-Ok-preflow-clause-named c =
    told-named c.args.self.now (answers.Flow c.in-Ok-preflow.answer)
    (flow-named c.args.self.now c.args.shown.now c.requires.shown c.in-Some-Some.from c.in-Some-Some.to c.as_slice.result.now
    c.in-Ok-preflow.answer c.in-Ok-preflow.ensures.right)
    c.told.result c.told.ensures

pub returns-in-Ok-preflow-clause-keepable : goal.returns-in-Ok-preflow-clause-keepable
returns-in-Ok-preflow-clause-keepable c =
    let s = c.args.self.now in
    let name = c.args.name.now in
    told-keepable s (answers.Flow c.in-Ok-preflow.answer)
    (record { word = Query queries.Maxflow; args = args.Node c.args.source ∷ args.Node c.args.sink ∷ args.Name name ∷ [] })
    (flow-keeps s c.args.shown.now c.requires.shown c.in-Some-Some.from c.in-Some-Some.to c.as_slice.result.now
    c.in-Ok-preflow.answer c.in-Ok-preflow.ensures.right c.args.source c.args.sink name c.requires.short
    (subst (λ (s : State). IsFormed s.graph) c.self.view_is c.made_nodes-made.ensures.formed))
    c.told.result c.told.ensures

pub returns-in-Err-Same-clause-replies : goal.returns-in-Err-Same-clause-replies
returns-in-Err-Same-clause-replies c =
    let s = c.args.self.now in
    let name = c.args.name.now in
    let cap = c.as_slice.result.now in
    let same = c.as_slice.ensures ∙ c.in-Ok.ensures.1 in
    breaks queries.Maxflow (args.Node c.args.source ∷ args.Node c.args.sink ∷ args.Name name ∷ []) s refusals.Same (Refused refusals.Same)
    (flow-same s c.args.shown.now c.requires.shown c.args.source c.args.sink c.in-Some-Some.from c.in-Some-Some.to c.in-Some-Some.ensures c.in-Some-Some.ensures'
    name cap same c.in-Ok.ensures.0
    (subst (Refuses c.in-Some-Some.from c.in-Some-Some.to cap) c.in-Err-Same.field-0-is c.in-Err-Same.ensures.refusal)) refl

pub returns-in-Err-Negative-clause-replies : goal.returns-in-Err-Negative-clause-replies
returns-in-Err-Negative-clause-replies c =
    let s = c.args.self.now in
    let name = c.args.name.now in
    let cap = c.as_slice.result.now in
    let arc = c.in-Err-Negative.arc in
    let same = c.as_slice.ensures ∙ c.in-Ok.ensures.1 in
    let refused = subst (Refuses c.in-Some-Some.from c.in-Some-Some.to cap) c.in-Err-Negative.field-0-is c.in-Err-Negative.ensures.refusal in
    breaks queries.Maxflow (args.Node c.args.source ∷ args.Node c.args.sink ∷ args.Name name ∷ []) s
    (refusals.Negative (slice_index (edge_names s) arc)) (Refused c.negative.result)
    (flow-negative s c.args.shown.now c.requires.shown c.args.source c.args.sink c.in-Some-Some.from c.in-Some-Some.to c.in-Some-Some.ensures c.in-Some-Some.ensures'
    name cap same c.in-Ok.ensures.0 arc refused)
    (ap Refused c.negative.ensures)

pub returns-in-Err-Bound-clause-replies : goal.returns-in-Err-Bound-clause-replies
returns-in-Err-Bound-clause-replies c =
    let s = c.args.self.now in
    let name = c.args.name.now in
    let cap = c.as_slice.result.now in
    let same = c.as_slice.ensures ∙ c.in-Ok.ensures.1 in
    breaks queries.Maxflow (args.Node c.args.source ∷ args.Node c.args.sink ∷ args.Name name ∷ []) s refusals.Bound (Refused refusals.Bound)
    (flow-beyond s c.args.shown.now c.requires.shown c.args.source c.args.sink c.in-Some-Some.from c.in-Some-Some.to c.in-Some-Some.ensures c.in-Some-Some.ensures'
    name cap same c.in-Ok.ensures.0
    (subst (Refuses c.in-Some-Some.from c.in-Some-Some.to cap) c.in-Err-Bound.field-0-is c.in-Err-Bound.ensures.refusal)) refl
