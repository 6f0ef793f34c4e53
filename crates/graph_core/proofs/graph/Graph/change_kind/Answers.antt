-- The lists change, and the cells stay.
use Rattle.std.proofs.Common.{not, sym, ap, subst, ◌∙◌}
use Rattle.std.proofs.Common as list
use Rattle.graph_state.specs.declared.name.ListName.TheVariants.{Nodes}
use Rattle.graph_state.specs.State.{GraphState}
use Rattle.graph_state.specs.Names.{number}
use Rattle.graph_state.proofs.OtherKind.{changes_kind}
use Rattle.graph_lists.specs.Named.{list_at}
use Rattle.graph_core.specs.Kept.{IsKept}
use Rattle.graph_core.specs.Gathers.{GathersAll}
use Rattle.graph_core.proofs.KindKept.{can_gather, kept_changed}
use Rattle.graph_core.proofs.graph.Graph.change_kind.Goals as goal

pub gather_all-requires : goal.gather_all-requires
gather_all-requires c =
    let a = c.self.inside in
    can_gather a.seen.view a.lists a.heads a.nodes a.edges c.self.invariant.kept c.self.invariant.made

pub invariant_of-self : goal.invariant_of-self
invariant_of-self c =
    let a = c.self.inside in
    let s = a.seen.view in
    let u = c.gather_all.new.lists in
    let all = subst (λ d. GathersAll a.lists.named u.named d (list.map number (list_at a.lists.named Nodes))) c.self.invariant.directed c.gather_all.ensures.named in
    let z = changes_kind s c.self.invariant.kept.formed in
    let is = c.show.ensures in
    record {
      kept = subst (λ s. IsKept s u a.heads a.nodes.live a.edges.live) (sym is) (kept_changed s a.lists a.heads a.nodes.live a.edges.live c.self.invariant.kept u all c.gather_all.ensures.room);
      made = (c.self.invariant.made.0 ∙ sym (ap (λ (s : GraphState). s.made_nodes) is ∙ z.made.0), c.self.invariant.made.1 ∙ sym (ap (λ (s : GraphState). s.made_edges) is ∙ z.made.1));
      directed = ap not c.self.invariant.directed ∙ sym (ap (λ (s : GraphState). s.directed) is ∙ z.directed);
      types = (c.self.invariant.types.0 ∙ sym (ap (λ (s : GraphState). s.node_type) is ∙ z.types.0), c.self.invariant.types.1 ∙ sym (ap (λ (s : GraphState). s.edge_type) is ∙ z.types.1));
    }
