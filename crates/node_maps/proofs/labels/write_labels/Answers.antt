-- The row gets the integer of one label after another.
use Rattle.std.proofs.Common.{w64, to_z, of_z, ◌<◌, Option, IsSome, map, refl, sym, ap, subst, ◌∙◌}
use Rattle.std.specs.Prelude.{ℤ}
use Rattle.std.specs.FinMap as finmap
use Rattle.std.proofs.lemmas.Int.{to_z-of_z}
use Rattle.std.proofs.lemmas.List.{take_all}
use Rattle.graph_state.specs.Names.{Has}
use Rattle.node_maps.specs.Labels.{Reads}
use Rattle.node_maps.proofs.Tables.{table_as, number_has, written_more}
use Rattle.node_maps.proofs.Unread.{unread_at}
use Rattle.node_maps.proofs.labels.write_labels.Goals as goal

pub loop-v-init : goal.loop-v-init
loop-v-init g c = table_as c.args.row.now (map g.E.GraphItem.number c.args.items.now) _ c.requires.table _ (λ m y h u has. absurd has)

pub read_label-requires : goal.read_label-requires
read_label-requires g c =
    let f = g.E.GraphItem.number in
    c.requires.live (f c.v-item.result) (number_has f c.args.items.now c.loop-v.v-index c.v-item.result c.loop-v-test.true c.v-item.is)

pub set-requires-clause-number : goal.set-requires-clause-number
set-requires-clause-number g c =
    let f = g.E.GraphItem.number in
    subst (λ n. 0 < n) (sym c.item.ensures) (c.requires.given (f c.v-item.result) (number_has f c.args.items.now c.loop-v.v-index c.v-item.result c.loop-v-test.true c.v-item.is))

pub set-requires-clause-there : goal.set-requires-clause-there
set-requires-clause-there g c =
    let f = g.E.GraphItem.number in
    let e = c.loop-v.invariant.each (f c.v-item.result) (number_has f c.args.items.now c.loop-v.v-index c.v-item.result c.loop-v-test.true c.v-item.is) in
    subst (λ (o : Option ℤ). IsSome o) (sym (ap (finmap.get c.loop-v.row) c.item.ensures ∙ e.1.0)) refl

pub loop-v-preserved : goal.loop-v-preserved
loop-v-preserved g c =
    let f = g.E.GraphItem.number in
    let label = g.E.GraphItem.label c.args.g.now in
    let v : ℤ = to_z w64 (of_z w64 c.in-Some.value) in
    written_more f c.args.items.now c.loop-v.v-index c.v-item.result c.loop-v-test.true c.v-item.is
    c.loop-v.row c.set.new.self (λ m. Reads (label m)) c.item.result.serial v c.loop-v.invariant c.item.ensures c.set.ensures
    (subst (Reads (label (f c.v-item.result))) (sym (to_z-of_z w64 c.in-Some.value c.in-Some.ensures.1)) c.in-Some.ensures)

pub returns-in-None-clause-err : goal.returns-in-None-clause-err
returns-in-None-clause-err g c =
    let f = g.E.GraphItem.number in
    unread_at f c.args.items.now c.loop-v.v-index c.v-item.result c.loop-v-test.true c.v-item.is (g.E.GraphItem.label c.args.g.now) g.E.GraphItem.name c.loop-v.row c.name.result c.loop-v.invariant c.name.ensures c.in-None.ensures

pub returns-clause-ok : goal.returns-clause-ok
returns-clause-ok g c =
    table_as c.loop-v.row (map g.E.GraphItem.number c.args.items.now) _ c.loop-v.invariant (λ m. Reads (g.E.GraphItem.label c.args.g.now m))
    (λ m y h k. k (subst (λ vs. Has m (map g.E.GraphItem.number vs)) (sym (take_all c.loop-v.v-index c.args.items.now c.loop-v-test.false)) h))
