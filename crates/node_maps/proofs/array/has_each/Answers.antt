-- The elements that the array covers have values as far as the loop has come.
use Rattle.std.proofs.Common.{◌<◌, ◌≤◌, not, map, is_some, refl, sym, ap, subst, ◌∙◌, arith}
use Rattle.std.specs.FinMap as finmap
use Rattle.graph_state.proofs.Has.{not_both}
use Rattle.node_maps.specs.Contents.{array_contents}
use Rattle.node_maps.proofs.Tables.{number_has}
use Rattle.node_maps.proofs.Served.{not_served, served_more}
use Rattle.node_maps.proofs.array.has_each.Goals as goal
use Rattle.node_maps.proofs.array.has_each.Goals.{else-item-made-via-then-item-made+else-is_none, else-item-made-via-else-item-made}

pub get-requires : goal.get-requires
get-requires g c =
    let f = g.E.GraphItem.number in
    subst (λ n. 0 < n) (sym c.item-item.ensures) (c.requires.given (f c.v-item.result) (number_has f c.args.items.now c.loop-v.v-index c.v-item.result c.loop-v-test.true c.v-item.is))

pub returns-then-is_none : goal.returns-then-is_none
returns-then-is_none g c =
    let f = g.E.GraphItem.number in
    let row = c.args.row.now in (
      λ yes. absurd (not_both yes refl),
      λ served. absurd (not_served (array_contents c.args.made row) (map f c.args.items.now) (f c.v-item.result)
          (number_has f c.args.items.now c.loop-v.v-index c.v-item.result c.loop-v-test.true c.v-item.is)
          (subst (λ n. n ≤ c.args.made) c.item-item.ensures c.if-item-made.true)
          (ap is_some (sym (c.get.ensures ∙ ap (finmap.get row) c.item-item.ensures)) ∙ c.if-is_none.ensures) served),
    )

pub loop-v-preserved : goal.loop-v-preserved
loop-v-preserved g c =
    let f = g.E.GraphItem.number in
    let row = c.args.row.now in
    let named = c.item-item.ensures in
    served_more f c.args.items.now c.loop-v.v-index c.v-item.result c.loop-v-test.true c.v-item.is (array_contents c.args.made row) c.loop-v.invariant
    (λ covered. elim c.else-item-made.branch [
      | else-item-made-via-then-item-made+else-is_none w ↦
          ap is_some (sym (w.get.ensures ∙ ap (finmap.get row) named)) ∙ w.is_none.ensures ∙ ap not w.if-is_none.false
      | else-item-made-via-else-item-made w ↦ let late = w.if-item-made.false in absurd (omega (arith, late, named, covered))
    ])
