use Rattle.std.proofs.Common.{◌∙◌}
use Rattle.sp_search.proofs.FreeNodes.{free_skip, free_push}
use Rattle.sp_search.proofs.labels.Labels.free_nodes.Goals as goal
use Rattle.sp_search.proofs.labels.Labels.free_nodes.Goals.{in-Taken, in_default+in_ok-push-in_default}

pub loop-node-preserved : goal.loop-node-preserved
loop-node-preserved c =
    let is = c.deref-label-items.ensures.value ∙ c.self.view_is in
    elim c.match-label.branch [
      | in-Taken w ↦ w.nodes-is ∙ free_skip c.args.self.now c.deref-label-items.result.now c.loop-node.node c.loop-node.nodes is w.in-Taken.is c.loop-node.invariant
      | in_default+in_ok-push-in_default w ↦
          w.nodes-is ∙ w.in_ok-push-in_default.ensures.ok ∙ free_push c.args.self.now c.deref-label-items.result.now c.loop-node.node c.loop-node.nodes is w.in_default.not-Taken c.loop-node.invariant
    ]
