use Rattle.std.proofs.Common.{◌≡◌, ap, sym, subst, ◌∙◌, [], ◌∷◌}
use Rattle.script_text.specs.declared.argument.Arg.TheVariants as args
use Rattle.script_text.specs.declared.word.LookWord.{LookWord}
use Rattle.console_state.specs.Look.{graph_looked, tells}
use Rattle.console_state.proofs.Looks.{succ_line, pred_line, cyclic_succ_line, cyclic_pred_line}
use Rattle.console_state.proofs.look.look_at_edge.Goals as goal

pub returns-in-Ok-adj_succ : goal.returns-in-Ok-adj_succ
returns-in-Ok-adj_succ c =
    let g = c.args.graph.now in
    subst (λ (w : LookWord). graph_looked w (args.Edge c.args.edge ∷ []) g ≡ tells c.edge_line-in-Ok-adj_succ.result) (sym c.in-AdjSucc.is)
    (ap tells (succ_line g c.args.edge c.in-Ok.item.0.serial c.edge_item.ensures.formed c.requires.visible c.in-Ok.ensures.item.0 c.in-Ok-adj_succ.next c.in-Ok-adj_succ.ensures.edge ∙ sym c.edge_line-in-Ok-adj_succ.ensures))

pub returns-in-Ok-adj_pred : goal.returns-in-Ok-adj_pred
returns-in-Ok-adj_pred c =
    let g = c.args.graph.now in
    subst (λ (w : LookWord). graph_looked w (args.Edge c.args.edge ∷ []) g ≡ tells c.edge_line-in-Ok-adj_pred.result) (sym c.in-AdjPred.is)
    (ap tells (pred_line g c.args.edge c.in-Ok.item.0.serial c.edge_item.ensures.formed c.requires.visible c.in-Ok.ensures.item.0 c.in-Ok-adj_pred.next c.in-Ok-adj_pred.ensures.edge ∙ sym c.edge_line-in-Ok-adj_pred.ensures))

pub returns-in-Ok-cyclic_adj_succ : goal.returns-in-Ok-cyclic_adj_succ
returns-in-Ok-cyclic_adj_succ c =
    let g = c.args.graph.now in
    subst (λ (w : LookWord). graph_looked w (args.Edge c.args.edge ∷ []) g ≡ tells c.edge_line-in-Ok-cyclic_adj_succ.result) (sym c.in-CyclicAdjSucc.is)
    (ap tells (cyclic_succ_line g c.args.edge c.in-Ok.item.0.serial c.edge_item.ensures.formed c.requires.visible c.in-Ok.ensures.item.0 c.in-Ok-cyclic_adj_succ.next c.in-Ok-cyclic_adj_succ.ensures.edge ∙ sym c.edge_line-in-Ok-cyclic_adj_succ.ensures))

pub returns-in-Ok-cyclic_adj_pred : goal.returns-in-Ok-cyclic_adj_pred
returns-in-Ok-cyclic_adj_pred c =
    let g = c.args.graph.now in
    subst (λ (w : LookWord). graph_looked w (args.Edge c.args.edge ∷ []) g ≡ tells c.edge_line-in-Ok-cyclic_adj_pred.result) (sym c.in-CyclicAdjPred.is)
    (ap tells (cyclic_pred_line g c.args.edge c.in-Ok.item.0.serial c.edge_item.ensures.formed c.requires.visible c.in-Ok.ensures.item.0 c.in-Ok-cyclic_adj_pred.next c.in-Ok-cyclic_adj_pred.ensures.edge ∙ sym c.edge_line-in-Ok-cyclic_adj_pred.ensures))
