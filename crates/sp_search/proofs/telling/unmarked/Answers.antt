use Rattle.std.proofs.Common.{◌∙◌, ◌++◌, ◌∷◌, [], ℕ, List, sym, ap}
use Rattle.graph_defs.proofs.Numbers.{filter_more_yes, filter_more_no}
use Rattle.sp_search.specs.Telling.{neither}
use Rattle.sp_search.proofs.telling.unmarked.Goals as goal
use Rattle.sp_search.proofs.telling.unmarked.Goals.{then-is_neither+in_ok-push, else-is_neither}

pub loop-node-preserved : goal.loop-node-preserved
loop-node-preserved c =
    let p = neither c.args.some.now c.args.others.now in
    let k = c.loop-node.node in
    elim c.if-is_neither.branch [
      | then-is_neither+in_ok-push w ↦ w.nodes-is ∙ w.in_ok-push.ensures.ok ∙ ap (λ (xs : List ℕ). xs ++ k ∷ []) c.loop-node.invariant
          ∙ sym (filter_more_yes p k (sym c.is_neither.ensures ∙ w.if-is_neither.true))
      | else-is_neither w ↦ w.nodes-is ∙ c.loop-node.invariant ∙ sym (filter_more_no p k (sym c.is_neither.ensures ∙ w.if-is_neither.false))
    ]
