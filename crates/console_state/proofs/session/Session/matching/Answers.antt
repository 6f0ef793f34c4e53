use Rattle.std.proofs.Common.{[], refl, subst}
use Rattle.graph_state.specs.Formed.{IsFormed}
use Rattle.script_text.specs.declared.word.QueryWord.TheVariants as queries
use Rattle.script_text.specs.declared.word.Word.TheVariants.{Query}
use Rattle.reply_text.specs.declared.reply.Answer.TheVariants as answers
use Rattle.console_state.specs.State.{State}
use Rattle.console_state.proofs.Matchings.{matches, match-named, keeps}
use Rattle.console_state.proofs.Telling.{told-keepable, told-named, told-replies}
use Rattle.console_state.proofs.session.Session.matching.Goals as goal

pub returns-in-Ok-clause-replies : goal.returns-in-Ok-clause-replies
returns-in-Ok-clause-replies c =
    told-replies queries.Matching [] c.args.self.now (answers.Matching c.in-Ok.answer) refl
    (λ named so. matches c.args.self.now c.args.shown.now c.requires c.in-Ok.answer named so c.in-Ok.ensures)
    c.told.result c.told.ensures

pub returns-in-Ok-clause-named : goal.returns-in-Ok-clause-named
returns-in-Ok-clause-named c =
    told-named c.args.self.now (answers.Matching c.in-Ok.answer)
    (λ named so. match-named c.args.self.now c.args.shown.now c.requires c.in-Ok.answer named so c.in-Ok.ensures)
    c.told.result c.told.ensures

pub returns-in-Ok-clause-keepable : goal.returns-in-Ok-clause-keepable
returns-in-Ok-clause-keepable c =
    told-keepable c.args.self.now (answers.Matching c.in-Ok.answer) (record { word = Query queries.Matching; args = [] })
    (λ named so. keeps c.args.self.now c.args.shown.now c.requires c.in-Ok.answer named so c.in-Ok.ensures
    (subst (λ (s : State). IsFormed s.graph) c.self.view_is c.made_nodes-made.ensures.formed))
    c.told.result c.told.ensures
