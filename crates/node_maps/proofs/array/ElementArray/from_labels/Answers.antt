-- The row has the live elements, and then the integers of their labels.
use Rattle.std.proofs.Common.{map, sym, ap, subst, ◌∙◌}
use Rattle.graph_state.specs.Names.{Has, IsOnce}
use Rattle.node_maps.specs.Contents.{IsTable}
use Rattle.node_maps.specs.Labels.{Reads}
use Rattle.node_maps.proofs.Served.{table_serves}
use Rattle.node_maps.proofs.Tables.{table_as}
use Rattle.node_maps.proofs.array.ElementArray.from_labels.Goals as goal

pub filled-requires-clause-given : goal.filled-requires-clause-given
filled-requires-clause-given g c n has = c.in_ok-items.ensures.given n (subst (Has n) (ap (map g.E.GraphItem.number) c.as_slice-slice.ensures) has)

pub filled-requires-clause-once : goal.filled-requires-clause-once
filled-requires-clause-once g c = subst IsOnce (sym (ap (map g.E.GraphItem.number) c.as_slice-slice.ensures)) c.in_ok-items.ensures.once

pub write_labels-requires-clause-live : goal.write_labels-requires-clause-live
write_labels-requires-clause-live g c n has = subst (Has n) (ap (map g.E.GraphItem.number) c.as_slice-slice.ensures ∙ c.in_ok-items.ensures.items) has

pub write_labels-requires-clause-given : goal.write_labels-requires-clause-given
write_labels-requires-clause-given g c n has = c.in_ok-items.ensures.given n (subst (Has n) (ap (map g.E.GraphItem.number) c.as_slice-slice.ensures) has)

pub write_labels-requires-clause-table : goal.write_labels-requires-clause-table
write_labels-requires-clause-table g c =
    table_as c.in_ok-row.row (map g.E.GraphItem.number c.as_slice-slice.result.now) _ c.in_ok-row.ensures (λ _ _. Unit {0}) (λ m y h e. tt)

pub returns-clause-values : goal.returns-clause-values
returns-clause-values g c =
    subst (λ l. IsTable c.write_labels.new.row l (λ n. Reads (g.E.GraphItem.label c.args.g.now n)))
    (ap (map g.E.GraphItem.number) c.as_slice-slice.ensures ∙ c.in_ok-items.ensures.items) c.in_ok-write_labels.ensures.ok

pub returns-clause-served : goal.returns-clause-served
returns-clause-served g c =
    table_serves c.made_in.result c.write_labels.new.row (g.E.GraphItem.live c.args.g.now) (λ n. Reads (g.E.GraphItem.label c.args.g.now n)) (returns-clause-values g c)
