-- All lists show, and all marks are cleared.
use Rattle.std.proofs.Common.{◌≡◌, sym, ap, subst, ◌∙◌}
use Rattle.graph_state.specs.State.{GraphState}
use Rattle.graph_state.specs.Names.{Has}
use Rattle.graph_state.specs.declared.name.ListName.TheVariants.{Nodes, Edges}
use Rattle.graph_state.specs.Edits.{all_restored}
use Rattle.graph_core.specs.Kept.{IsKept}
use Rattle.graph_core.specs.Restores.{bare_node, bare_edge, Clears}
use Rattle.graph_core.proofs.Showing.{same_list_at, same_head_at, no_some}
use Rattle.graph_core.proofs.AllShown.{nothing_hidden, can_show_all, nodes_there, edges_there, kept_whole}
use Rattle.graph_core.proofs.graph.Graph.restore_all.Goals as goal

pub returns-in_default : goal.returns-in_default
returns-in_default c =
    let a = c.self.inside in
    let k = c.self.invariant.kept in
    subst (λ s. s ≡ all_restored s) c.self.view_is (sym (nothing_hidden a.seen.view k.formed (k.headed (no_some a.heads c.in_default.not-Some))))

pub show_all-requires : goal.show_all-requires
show_all-requires c =
    let a = c.self.inside in
    can_show_all a.seen.view a.lists a.heads a.nodes a.edges c.self.invariant.kept c.in-Some.heads c.in-Some.is

pub clear_nodes-requires-clause-head : goal.clear_nodes-requires-clause-head
clear_nodes-requires-clause-head c =
    let a = c.self.inside in
    same_head_at a.lists.named c.show_all.new.lists.named c.show_all.ensures.named.same Nodes ∙ (can_show_all a.seen.view a.lists a.heads a.nodes a.edges c.self.invariant.kept c.in-Some.heads c.in-Some.is).nodes

pub clear_nodes-requires-clause-live : goal.clear_nodes-requires-clause-live
clear_nodes-requires-clause-live c x i =
    let a = c.self.inside in
    nodes_there a.seen.view a.lists a.heads a.nodes a.edges c.self.invariant.kept c.self.invariant.made.0 x (subst (Has x) (same_list_at a.lists.named c.show_all.new.lists.named c.show_all.ensures.named.same Nodes) i)

pub clear_edges-requires-clause-head : goal.clear_edges-requires-clause-head
clear_edges-requires-clause-head c =
    let a = c.self.inside in
    same_head_at a.lists.named c.show_all.new.lists.named c.show_all.ensures.named.same Edges ∙ (can_show_all a.seen.view a.lists a.heads a.nodes a.edges c.self.invariant.kept c.in-Some.heads c.in-Some.is).edges

pub clear_edges-requires-clause-live : goal.clear_edges-requires-clause-live
clear_edges-requires-clause-live c x i =
    let a = c.self.inside in
    edges_there a.seen.view a.lists a.heads a.nodes a.edges c.self.invariant.kept c.self.invariant.made.1 x (subst (Has x) (same_list_at a.lists.named c.show_all.new.lists.named c.show_all.ensures.named.same Edges) i)

pub invariant_of-self : goal.invariant_of-self
unfolding all_restored
invariant_of-self c =
    let a = c.self.inside in
    let s = a.seen.view in
    let u = c.show_all.new.lists in
    let whole = c.show_all.ensures.named in
    let p = c.clear_nodes.new.nodes in
    let q = c.clear_edges.new.edges in
    let is = c.show.ensures in
    record {
      kept = subst (λ s. IsKept s u a.heads p.live q.live) (sym is)
          (kept_whole s a.lists a.heads a.nodes a.edges c.self.invariant.kept u p.live q.live whole c.show_all.ensures.room
          (subst (Clears bare_node a.nodes.live p.live) (same_list_at a.lists.named u.named whole.same Nodes) c.clear_nodes.ensures.live)
          (subst (Clears bare_edge a.edges.live q.live) (same_list_at a.lists.named u.named whole.same Edges) c.clear_edges.ensures.live));
      made = (c.clear_nodes.ensures.made ∙ c.self.invariant.made.0 ∙ sym (ap (λ (s : GraphState). s.made_nodes) is), c.clear_edges.ensures.made ∙ c.self.invariant.made.1 ∙ sym (ap (λ (s : GraphState). s.made_edges) is));
      directed = c.self.invariant.directed ∙ sym (ap (λ (s : GraphState). s.directed) is);
      types = (c.self.invariant.types.0 ∙ sym (ap (λ (s : GraphState). s.node_type) is), c.self.invariant.types.1 ∙ sym (ap (λ (s : GraphState). s.edge_type) is));
    }
