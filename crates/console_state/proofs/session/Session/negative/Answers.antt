use Rattle.std.proofs.Common.{◌<◌, List, get_or, length, sym, ap, subst, ◌∙◌}
use Rattle.graph_state.specs.declared.item.EdgeItem.{EdgeItem}
use Rattle.reply_text.specs.declared.refusal.Refusal.TheVariants as refusals
use Rattle.console_state.proofs.PathAnswers.{arc-inside, arc-number}
use Rattle.console_state.proofs.session.Session.negative.Goals as goal

pub bounds-as_slice-arc : goal.bounds-as_slice-arc
bounds-as_slice-arc c =
    subst (λ (es : List EdgeItem). c.args.arc < length es) (sym c.as_slice.ensures)
    (arc-inside c.args.self.now c.args.shown.now c.requires.shown c.args.arc c.requires.arc)

pub returns : goal.returns
returns c =
    ap refusals.Negative
    (ap (λ (es : List EdgeItem). (get_or es c.args.arc _).0.serial) c.as_slice.ensures
    ∙ arc-number c.args.self.now c.args.shown.now c.requires.shown c.args.arc c.requires.arc _)
