-- The node and its edges leave the rings of what shows.
use Rattle.std.proofs.Common.{true, false, refl, sym, ap, subst, ◌∙◌}
use Rattle.std.specs.FinMap as map
use Rattle.std.specs.FinSet as set
use Rattle.graph_state.specs.State.{GraphState}
use Rattle.graph_state.specs.Names.{Has}
use Rattle.graph_state.specs.Edits.{node_hidden}
use Rattle.graph_state.proofs.Has.{none_some, some_same}
use Rattle.graph_state.proofs.Maps.{put_here}
use Rattle.graph_state.proofs.Marked.{hidden_marks}
use Rattle.graph_core.specs.Kept.{IsKept}
use Rattle.graph_core.specs.NodeMarks.{CanTurnNode}
use Rattle.graph_core.proofs.Kept.{has_node}
use Rattle.graph_core.proofs.Remarked.{remark_node}
use Rattle.graph_core.proofs.Showing.{some_nodes, no_some}
use Rattle.graph_core.proofs.TurnedNodes.{node_there, can_turn_node, kept_hidden}
use Rattle.graph_core.proofs.graph.Graph.hide_node.Goals as goal

pub set_node_mark-requires : goal.set_node_mark-requires
set_node_mark-requires c =
    let a = c.self.inside in
    let v = c.args.v.0.serial in
    let listed = subst (λ (s : GraphState). Has v s.nodes) (sym c.self.view_is) c.requires.live in
    node_there a.seen.view a.lists a.heads a.nodes a.edges.live c.self.invariant.kept c.self.invariant.made.0 v listed

pub unreachable-requires : goal.unreachable-requires
unreachable-requires c =
    let a = c.self.inside in
    let v = c.args.v.0.serial in
    let listed = subst (λ (s : GraphState). Has v s.nodes) (sym c.self.view_is) c.requires.live in
    let cell = has_node a.seen.view a.lists a.heads a.nodes.live a.edges.live c.self.invariant.kept v listed in
    none_some (sym c.in_default.ensures.0 ∙ ap (λ m. map.get m v) (c.set_node_mark.ensures.live cell.0 cell.1) ∙ put_here a.nodes.live v (remark_node true cell.0) v refl)

pub unreachable-requires-in_default-heads : goal.unreachable-requires-in_default-heads
unreachable-requires-in_default-heads c =
    let a = c.self.inside in
    let v = c.args.v.0.serial in
    let listed = subst (λ (s : GraphState). Has v s.nodes) (sym c.self.view_is) c.requires.live in
    some_nodes a.seen.view a.lists a.heads a.nodes.live a.edges c.self.invariant.kept v listed (no_some a.heads c.in_default-heads.not-Some)

pub turn_node-requires : goal.turn_node-requires
turn_node-requires c =
    let a = c.self.inside in
    let s = a.seen.view in
    let v = c.args.v.0.serial in
    let k = c.self.invariant.kept in
    let listed = subst (λ (s : GraphState). Has v s.nodes) (sym c.self.view_is) c.requires.live in
    let cell = has_node s a.lists a.heads a.nodes.live a.edges.live k v listed in
    let cells = c.set_node_mark.ensures.live cell.0 cell.1 in
    let same = some_same (sym (ap (λ m. map.get m v) cells ∙ put_here a.nodes.live v (remark_node true cell.0) v refl) ∙ c.in-Ok.ensures.0) in
    subst (CanTurnNode a.lists.named c.set_node_mark.new.nodes a.edges c.in-Some.heads a.directed v) same
    (can_turn_node s a.lists a.heads a.nodes.live a.edges k v cell.0 cell.1 false (set.insert s.hidden_nodes v) (hidden_marks s.hidden_nodes v) c.set_node_mark.new.nodes cells c.in-Some.heads c.in-Some.is a.directed c.self.invariant.directed)

pub invariant_of-self : goal.invariant_of-self
unfolding node_hidden
invariant_of-self c =
    let a = c.self.inside in
    let s = a.seen.view in
    let v = c.args.v.0.serial in
    let k = c.self.invariant.kept in
    let listed = subst (λ (s : GraphState). Has v s.nodes) (sym c.self.view_is) c.requires.live in
    let cell = has_node s a.lists a.heads a.nodes.live a.edges.live k v listed in
    let cells = c.set_node_mark.ensures.live cell.0 cell.1 in
    let p = c.set_node_mark.new.nodes in
    let u = c.turn_node.new.lists in
    let is = c.show.ensures in
    record {
      kept = subst (λ s. IsKept s u a.heads p.live a.edges.live) (sym is)
          (kept_hidden s a.lists a.heads a.nodes.live a.edges k v cell.0 cell.1 (set.insert s.hidden_nodes v) (hidden_marks s.hidden_nodes v) p cells u c.turn_node.ensures.named c.turn_node.ensures.room);
      made = (c.set_node_mark.ensures.made ∙ c.self.invariant.made.0 ∙ sym (ap (λ (s : GraphState). s.made_nodes) is), c.self.invariant.made.1 ∙ sym (ap (λ (s : GraphState). s.made_edges) is));
      directed = c.self.invariant.directed ∙ sym (ap (λ (s : GraphState). s.directed) is);
      types = (c.self.invariant.types.0 ∙ sym (ap (λ (s : GraphState). s.node_type) is), c.self.invariant.types.1 ∙ sym (ap (λ (s : GraphState). s.edge_type) is));
    }
