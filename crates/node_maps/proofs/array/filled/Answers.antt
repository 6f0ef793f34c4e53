-- The row takes in the value of one element after another.
use Rattle.std.proofs.Common.{w64, to_z, of_z, ◌≡◌, ◌<◌, map, refl, sym, ap, subst, ◌∙◌}
use Rattle.std.specs.Prelude.{ℤ}
use Rattle.std.specs.FinMap as finmap
use Rattle.std.proofs.lemmas.Int.{to_z-of_z}
use Rattle.std.proofs.lemmas.List.{take_all}
use Rattle.node_maps.specs.Contents.{IsTable}
use Rattle.node_maps.proofs.Tables.{table_first, table_as, number_has, number_new, filled_more}
use Rattle.node_maps.proofs.array.filled.Goals as goal

pub loop-v-init : goal.loop-v-init
loop-v-init g c =
    let v : ℤ = to_z w64 (of_z w64 c.args.value) in
    table_first g.E.GraphItem.number c.args.items.now c.in_ok-row.row (λ _ x. x ≡ v) c.in_ok-row.ensures

pub insert-requires-clause-number : goal.insert-requires-clause-number
insert-requires-clause-number g c =
    let f = g.E.GraphItem.number in
    subst (λ n. 0 < n) (sym c.item.ensures) (c.requires.given (f c.v-item.result) (number_has f c.args.items.now c.loop-v.v-index c.v-item.result c.loop-v-test.true c.v-item.is))

pub insert-requires-clause-fresh : goal.insert-requires-clause-fresh
insert-requires-clause-fresh g c =
    let f = g.E.GraphItem.number in
    ap (finmap.get c.loop-v.row) c.item.ensures
    ∙ c.loop-v.invariant.others (f c.v-item.result) (number_new f c.args.items.now c.loop-v.v-index c.v-item.result c.loop-v-test.true c.v-item.is c.requires.once)

pub loop-v-preserved : goal.loop-v-preserved
loop-v-preserved g c =
    let v : ℤ = to_z w64 (of_z w64 c.args.value) in
    filled_more g.E.GraphItem.number c.args.items.now c.loop-v.v-index c.v-item.result c.loop-v-test.true c.v-item.is
    c.loop-v.row c.insert.new.self (λ _ x. x ≡ v) c.item.result.serial v c.loop-v.invariant c.item.ensures c.in_ok-insert.ensures refl

pub returns : goal.returns
returns g c =
    let f = g.E.GraphItem.number in
    let v : ℤ = to_z w64 (of_z w64 c.args.value) in
    table_as c.loop-v.row (map f c.args.items.now) (λ _ x. x ≡ v)
    (subst (λ vs. IsTable c.loop-v.row (map f vs) (λ _ x. x ≡ v)) (take_all c.loop-v.v-index c.args.items.now c.loop-v-test.false) c.loop-v.invariant)
    (λ _ x. x ≡ c.args.value) (λ m y h e. e ∙ to_z-of_z w64 c.args.value c.ranges.value)
