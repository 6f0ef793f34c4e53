use Rattle.std.proofs.Common.{[], ◌∷◌, refl}
use Rattle.script_text.specs.declared.argument.Arg.TheVariants as args
use Rattle.script_text.specs.declared.word.QueryWord.TheVariants as queries
use Rattle.reply_text.specs.declared.reply.Answer.TheVariants as answers
use Rattle.console_state.proofs.Named.{reach-told}
use Rattle.console_state.proofs.Reaches.{listed_place, never, node_below, reaches}
use Rattle.console_state.proofs.Telling.{told-named, told-replies}
use Rattle.console_state.proofs.session.Session.reach.Goals.{in_default-via-in-Some+in_default, in_default-via-in_default}
use Rattle.console_state.proofs.session.Session.reach.Goals as goal

pub unreachable-requires : goal.unreachable-requires
unreachable-requires c = elim c.in_default.branch [
  | in_default-via-in-Some+in_default w ↦ w.in_default.ensures' (listed_place c.args.self.now c.args.shown.now c.requires.shown c.args.to c.requires.to)
  | in_default-via-in_default w ↦ never c.place.result _ _ c.place.ensures w.in_default.is-0 (listed_place c.args.self.now c.args.shown.now c.requires.shown c.args.from c.requires.from)
]

pub reach-requires-clause-s : goal.reach-requires-clause-s
reach-requires-clause-s c = node_below c.args.self.now c.args.shown.now c.requires.shown c.args.from c.in-Some-Some.from c.in-Some-Some.ensures

pub reach-requires-clause-t : goal.reach-requires-clause-t
reach-requires-clause-t c = node_below c.args.self.now c.args.shown.now c.requires.shown c.args.to c.in-Some-Some.to c.in-Some-Some.ensures'

pub returns-in-Ok-clause-replies : goal.returns-in-Ok-clause-replies
returns-in-Ok-clause-replies c =
    told-replies queries.Reach (args.Node c.args.from ∷ args.Node c.args.to ∷ []) c.args.self.now
    (answers.Reach c.in-Ok.answer) refl
    (λ named so. reaches c.args.self.now c.args.shown.now c.requires.shown c.args.from c.args.to
    c.in-Some-Some.from c.in-Some-Some.to c.in-Ok.answer named c.in-Some-Some.ensures c.in-Some-Some.ensures'
    so.nodes so.edges so.answer c.in-Ok.ensures)
    c.told.result c.told.ensures

pub returns-in-Ok-clause-named : goal.returns-in-Ok-clause-named
returns-in-Ok-clause-named c =
    told-named c.args.self.now (answers.Reach c.in-Ok.answer)
    (λ named so. reach-told c.args.self.now c.args.shown.now c.requires.shown c.in-Some-Some.from c.in-Some-Some.to
    c.in-Ok.answer named so c.in-Ok.ensures)
    c.told.result c.told.ensures
