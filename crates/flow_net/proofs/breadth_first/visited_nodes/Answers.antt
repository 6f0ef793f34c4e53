use Rattle.std.proofs.Common.{ℕ, Bool, List, ◌∷◌, [], ◌++◌, ap, sym, ◌∙◌}
use Rattle.flow_net.specs.Search.{is_visited}
use Rattle.graph_defs.proofs.Numbers.{filter_more_yes, filter_more_no}
use Rattle.flow_net.proofs.breadth_first.visited_nodes.Goals as goal
use Rattle.flow_net.proofs.breadth_first.visited_nodes.Goals.{then-is_visited+in_ok-push, else-is_visited}

pub loop-node-preserved : goal.loop-node-preserved
loop-node-preserved c =
    let p : ℕ → Bool = is_visited c.args.visited.now in
    elim c.if-is_visited.branch [
      | then-is_visited+in_ok-push w ↦
          w.nodes-is ∙ w.in_ok-push.ensures.ok ∙ ap (λ (xs : List ℕ). xs ++ c.loop-node.node ∷ []) c.loop-node.invariant
          ∙ sym (filter_more_yes p c.loop-node.node w.if-is_visited.true)
      | else-is_visited w ↦ w.nodes-is ∙ c.loop-node.invariant ∙ sym (filter_more_no p c.loop-node.node w.if-is_visited.false)
    ]
