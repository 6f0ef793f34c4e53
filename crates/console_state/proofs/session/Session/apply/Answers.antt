use Rattle.script_text.specs.declared.word.Word.TheVariants.{Edit, Look, Object, Value, Query}
use Rattle.console_state.proofs.Cleared.{cleared, objects-cleared, live-cleared, kind-met}
use Rattle.console_state.proofs.session.Session.apply.Goals as goal

pub edit-requires-clause-met : goal.edit-requires-clause-met
edit-requires-clause-met g c = cleared c.args.self.now c.word.result c.forms.result.now
    c.args-2.result.now (Edit c.in-Edit.word) c.args.command.now c.args-in-Edit.result.now
    c.in_default.ensures.first c.forms.ensures c.args-2.ensures c.in-Edit.ensures
    c.args-in-Edit.ensures

pub query-requires-clause-met : goal.query-requires-clause-met
query-requires-clause-met g c = cleared c.args.self.now c.word.result c.forms.result.now
    c.args-2.result.now (Query c.in-Query.word) c.args.command.now c.args-in-Query.result.now
    c.in_default.ensures.first c.forms.ensures c.args-2.ensures c.in-Query.ensures
    c.args-in-Query.ensures

pub look-requires-clause-met : goal.look-requires-clause-met
look-requires-clause-met g c = cleared c.args.self.now c.word.result c.forms.result.now
    c.args-2.result.now (Look c.in-Look.word) c.args.command.now c.args-in-Look.result.now
    c.in_default.ensures.first c.forms.ensures c.args-2.ensures c.in-Look.ensures
    c.args-in-Look.ensures

pub look-requires-clause-kind : goal.look-requires-clause-kind
look-requires-clause-kind g c = kind-met c.args.self.now c.word.result c.forms.result.now
    c.args-2.result.now (Look c.in-Look.word) c.args.command.now
    c.in_default.ensures.first c.word.ensures c.in-Look.ensures

pub change_objects-requires-clause-met : goal.change_objects-requires-clause-met
change_objects-requires-clause-met g c = objects-cleared c.args.self.now c.word.result
    c.forms.result.now c.args-2.result.now (Object c.in-Object.word) c.args.command.now
    c.args-in-Object.result.now c.in_default.ensures.first c.forms.ensures c.args-2.ensures
    c.in-Object.ensures c.args-in-Object.ensures

pub change_values-requires-clause-met : goal.change_values-requires-clause-met
change_values-requires-clause-met g c = objects-cleared c.args.self.now c.word.result
    c.forms.result.now c.args-2.result.now (Value c.in-Value.word) c.args.command.now
    c.args-in-Value.result.now c.in_default.ensures.first c.forms.ensures c.args-2.ensures
    c.in-Value.ensures c.args-in-Value.ensures

pub change_values-requires-clause-live : goal.change_values-requires-clause-live
change_values-requires-clause-live g c = live-cleared c.args.self.now c.word.result
    c.forms.result.now c.args-2.result.now (Value c.in-Value.word) c.args.command.now
    c.args-in-Value.result.now c.in_default.ensures.first c.forms.ensures c.args-2.ensures
    c.in-Value.ensures c.args-in-Value.ensures c.requires

pub query-requires-clause-objects : goal.query-requires-clause-objects
query-requires-clause-objects g c = objects-cleared c.args.self.now c.word.result
    c.forms.result.now c.args-2.result.now (Query c.in-Query.word) c.args.command.now
    c.args-in-Query.result.now c.in_default.ensures.first c.forms.ensures c.args-2.ensures
    c.in-Query.ensures c.args-in-Query.ensures
