-- The first end in one of the lists of the node is that of an edge at it.
use Rattle.std.proofs.Common.{◌≡◌, true, false, refl, sym, subst}
use Rattle.graph_state.specs.declared.name.ListName.TheVariants.{Out, In}
use Rattle.graph_state.specs.State.{GraphState}
use Rattle.graph_state.specs.Names.{Has}
use Rattle.graph_state.specs.Parts.{IsAlone}
use Rattle.graph_state.specs.Edits.{has_end}
use Rattle.graph_core.proofs.Kept.{out_head, in_head}
use Rattle.graph_core.proofs.Incident.{found_out, found_in, found_alone}
use Rattle.graph_core.proofs.graph.Graph.incident_edge.Goals as goal

pub first-requires : goal.first-requires
first-requires c =
    let a = c.self.inside in
    let cell = c.in-Ok.cell.now in
    (false, (Out c.args.v, (cell.outs, (out_head a.seen.view a.lists a.heads a.nodes.live a.edges.live c.self.invariant.kept c.args.v cell c.in-Ok.ensures.0, refl))))

pub number-requires : goal.number-requires
number-requires c =
    let a = c.self.inside in
    let v = c.args.v in
    let k = c.self.invariant.kept in
    let cell = c.in-Ok.cell.now in
    let head = out_head a.seen.view a.lists a.heads a.nodes.live a.edges.live k v cell c.in-Ok.ensures.0 in
    let f = found_out a.seen.view a.lists a.heads a.nodes.live a.edges.live k v c.in-Some.m (c.in-Some.ensures false (Out v) (cell.outs, (head, refl))) in
    (false, (f.0, f.1.0))

pub returns-in-Some-clause-edge : goal.returns-in-Some-clause-edge
returns-in-Some-clause-edge c =
    let a = c.self.inside in
    let s = a.seen.view in
    let v = c.args.v in
    let k = c.self.invariant.kept in
    let cell = c.in-Ok.cell.now in
    let e = c.number.result in
    let head = out_head s a.lists a.heads a.nodes.live a.edges.live k v cell c.in-Ok.ensures.0 in
    let f = found_out s a.lists a.heads a.nodes.live a.edges.live k v c.in-Some.m (c.in-Some.ensures false (Out v) (cell.outs, (head, refl))) in
    subst (λ (s : GraphState). Has e s.edges × (has_end s v e ≡ true)) c.self.view_is
    (subst (λ e. Has e s.edges × (has_end s v e ≡ true)) (sym (c.number.ensures.number false f.0 f.1.0)) f.1.1)

pub first-requires-2 : goal.first-requires-2
first-requires-2 c =
    let a = c.self.inside in
    let cell = c.in-Ok.cell.now in
    (false, (In c.args.v, (cell.ins, (in_head a.seen.view a.lists a.heads a.nodes.live a.edges.live c.self.invariant.kept c.args.v cell c.in-Ok.ensures.0, refl))))

pub number-requires-in-Some-first : goal.number-requires-in-Some-first
number-requires-in-Some-first c =
    let a = c.self.inside in
    let v = c.args.v in
    let k = c.self.invariant.kept in
    let cell = c.in-Ok.cell.now in
    let head = in_head a.seen.view a.lists a.heads a.nodes.live a.edges.live k v cell c.in-Ok.ensures.0 in
    let f = found_in a.seen.view a.lists a.heads a.nodes.live a.edges.live k v c.in-Some-first.m (c.in-Some-first.ensures false (In v) (cell.ins, (head, refl))) in
    (false, (f.0, f.1.0))

pub returns-in-Some-first-clause-edge : goal.returns-in-Some-first-clause-edge
returns-in-Some-first-clause-edge c =
    let a = c.self.inside in
    let s = a.seen.view in
    let v = c.args.v in
    let k = c.self.invariant.kept in
    let cell = c.in-Ok.cell.now in
    let e = c.number-in-Some-first.result in
    let head = in_head s a.lists a.heads a.nodes.live a.edges.live k v cell c.in-Ok.ensures.0 in
    let f = found_in s a.lists a.heads a.nodes.live a.edges.live k v c.in-Some-first.m (c.in-Some-first.ensures false (In v) (cell.ins, (head, refl))) in
    subst (λ (s : GraphState). Has e s.edges × (has_end s v e ≡ true)) c.self.view_is
    (subst (λ e. Has e s.edges × (has_end s v e ≡ true)) (sym (c.number-in-Some-first.ensures.number false f.0 f.1.0)) f.1.1)

pub returns-in-None-clause-edge : goal.returns-in-None-clause-edge
returns-in-None-clause-edge c =
    let a = c.self.inside in
    let s = a.seen.view in
    let v = c.args.v in
    let k = c.self.invariant.kept in
    let cell = c.in-Ok.cell.now in
    let outs = out_head s a.lists a.heads a.nodes.live a.edges.live k v cell c.in-Ok.ensures.0 in
    let ins = in_head s a.lists a.heads a.nodes.live a.edges.live k v cell c.in-Ok.ensures.0 in
    subst (λ s. IsAlone s v) c.self.view_is
    (found_alone s a.lists a.heads a.nodes.live a.edges.live k v (c.in_default-first.ensures false (Out v) (cell.outs, (outs, refl))) (c.in-None.ensures false (In v) (cell.ins, (ins, refl))))
