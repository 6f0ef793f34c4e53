use Rattle.std.proofs.Common.{◌≡◌, ℕ, map, ap, sym, subst, ◌∙◌, [], ◌∷◌, List}
use Rattle.leda_base.specs.declared.ItemName.{ItemName}
use Rattle.leda_base.specs.declared.ItemName.TheVariants as items
use Rattle.graph_defs.specs.declared.dart.Dart.{Dart}
use Rattle.graph_state.specs.declared.item.EdgeItem.{EdgeItem}
use Rattle.graph_state.specs.State.{visible_out, visible_in}
use Rattle.script_text.specs.declared.argument.Arg.TheVariants as args
use Rattle.script_text.specs.declared.word.LookWord.{LookWord}
use Rattle.reply_text.specs.declared.reply.ReplyLine.TheVariants.{Names}
use Rattle.console_state.specs.Look.{graph_looked, tells}
use Rattle.console_state.proofs.Looks.{dart_names}
use Rattle.console_state.proofs.look.look_at_node.Goals as goal

pub returns-in_ok-names-in-OutEdges-clause-ok : goal.returns-in_ok-names-in-OutEdges-clause-ok
returns-in_ok-names-in-OutEdges-clause-ok c =
    let g = c.args.graph.now in
    subst (λ (w : LookWord). graph_looked w (args.Node c.args.node ∷ []) g ≡ tells (Names c.in_ok-names-in-OutEdges.field-0)) (sym c.in-OutEdges.is)
    (ap (λ (xs : List ItemName). tells (Names xs)) (sym (c.in_ok-names-in-OutEdges.ensures
    ∙ ap (map (λ (x : EdgeItem). items.Edge x.0.serial)) c.as_slice.ensures
    ∙ dart_names c.in-Ok-out_edges.edges (visible_out g c.args.node) (c.in-Ok-out_edges.ensures.edges ∙ ap (λ (v : ℕ). map (λ (d : Dart). d.edge) (visible_out g v)) c.in-Ok.ensures.item.0))))

pub returns-in_ok-names-in-InEdges-clause-ok : goal.returns-in_ok-names-in-InEdges-clause-ok
returns-in_ok-names-in-InEdges-clause-ok c =
    let g = c.args.graph.now in
    subst (λ (w : LookWord). graph_looked w (args.Node c.args.node ∷ []) g ≡ tells (Names c.in_ok-names-in-InEdges.field-0)) (sym c.in-InEdges.is)
    (ap (λ (xs : List ItemName). tells (Names xs)) (sym (c.in_ok-names-in-InEdges.ensures
    ∙ ap (map (λ (x : EdgeItem). items.Edge x.0.serial)) c.as_slice-in-InEdges.ensures
    ∙ dart_names c.in-Ok-in_edges.edges (visible_in g c.args.node) (c.in-Ok-in_edges.ensures.edges ∙ ap (λ (v : ℕ). map (λ (d : Dart). d.edge) (visible_in g v)) c.in-Ok.ensures.item.0))))
