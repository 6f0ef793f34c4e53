use Rattle.std.proofs.Common.{List, ap, inr, map, subst, sym, ◌∙◌}
use Rattle.graph_state.specs.declared.item.EdgeItem.{EdgeItem}
use Rattle.graph_state.specs.Names.{Has}
use Rattle.hide_restore.specs.Net.{numbers_of_edges}
use Rattle.object_store.specs.declared.kind.Sort.TheVariants.{Edges}
use Rattle.object_store.specs.Listed.{ListsValues, RefusesValues}
use Rattle.console_state.specs.State.{State}
use Rattle.console_state.specs.Views.{edge_names}
use Rattle.console_state.proofs.Priced.{listed-covered, listed-costs, first-uncovered}
use Rattle.console_state.proofs.Named.{shown-live}
use Rattle.console_state.proofs.session.Session.costs.Goals as goal

pub edge_values-requires-clause-live : goal.edge_values-requires-clause-live
edge_values-requires-clause-live c n i =
    subst (λ (s : State). Has n s.graph.edges) (sym c.self.view_is)
    (shown-live c.args.self.now c.args.shown.now c.requires.shown n
    (subst (λ (es : List EdgeItem). Has n (numbers_of_edges es)) c.as_slice.ensures i))

pub returns-in-Ok : goal.returns-in-Ok
returns-in-Ok c =
    let s = c.args.self.now in
    let name = c.args.name.now in
    let costs = c.in-Ok.costs in
    let listed = subst (λ (s : State). ListsValues s.objects Edges name (edge_names c.args.self.now) costs) c.self.view_is
    (subst (λ ns. ListsValues c.self.inside.objects Edges name ns costs)
    (ap numbers_of_edges c.as_slice.ensures ∙ c.requires.shown.edges) c.in-Ok.ensures) in
    (listed-covered s name costs listed, listed-costs s name costs listed)

pub returns-in-Err-Covered : goal.returns-in-Err-Covered
returns-in-Err-Covered c =
    let s = c.args.self.now in
    let name = c.args.name.now in
    let why = c.in-Err-Covered.field-0 in
    let refused = subst (λ (s : State). RefusesValues s.objects Edges name (edge_names c.args.self.now) why) c.self.view_is
    (subst (λ ns. RefusesValues c.self.inside.objects Edges name ns why)
    (ap numbers_of_edges c.as_slice.ensures ∙ c.requires.shown.edges) c.in-Err-Covered.ensures) in
    inr (first-uncovered s name c.in-Err-Covered.edge (subst (RefusesValues s.objects Edges name (edge_names s)) c.in-Err-Covered.field-0-is refused))
