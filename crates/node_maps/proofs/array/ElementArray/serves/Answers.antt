-- The row and the items say it of the array and the graph.
use Rattle.std.proofs.Common.{ℕ, List, map, IsTrue, ap, subst, ◌∙◌}
use Rattle.graph_state.specs.Names.{Has}
use Rattle.node_maps.specs.Contents.{ArrayContents, array_contents, IsServed}
use Rattle.node_maps.proofs.array.ElementArray.serves.Goals as goal

pub has_each-requires : goal.has_each-requires
has_each-requires g c =
    record { given = λ n has. c.in_ok-items.ensures.given n (subst (Has n) (ap (map g.E.GraphItem.number) c.as_slice.ensures) has) }

pub returns : goal.returns
returns g c =
    let yes = c.has_each.result in
    let live = g.E.GraphItem.live c.args.g.now in
    let a = array_contents c.self.inside.made c.self.inside.row in
    subst (λ (b : ArrayContents). (IsTrue yes → IsServed b live) × (IsServed b live → IsTrue yes)) c.self.view_is
    (subst (λ (l : List ℕ). (IsTrue yes → IsServed a l) × (IsServed a l → IsTrue yes))
    (ap (map g.E.GraphItem.number) c.as_slice.ensures ∙ c.in_ok-items.ensures.items) c.has_each.ensures)
