-- The row has the live elements.
use Rattle.std.proofs.Common.{w64, to_z, of_z, ◌≡◌, ℕ, List, map, sym, ap, subst, ◌∙◌}
use Rattle.std.specs.Prelude.{ℤ}
use Rattle.std.proofs.lemmas.Int.{to_z-of_z}
use Rattle.graph_state.specs.Names.{Has, IsOnce}
use Rattle.node_maps.specs.Contents.{IsTable}
use Rattle.node_maps.proofs.Served.{table_serves}
use Rattle.node_maps.proofs.Tables.{table_as}
use Rattle.node_maps.proofs.array.ElementArray.make.Goals as goal

pub filled-requires-clause-given : goal.filled-requires-clause-given
filled-requires-clause-given g c n has = c.in_ok-items.ensures.given n (subst (Has n) (ap (map g.E.GraphItem.number) c.as_slice.ensures) has)

pub filled-requires-clause-once : goal.filled-requires-clause-once
filled-requires-clause-once g c = subst IsOnce (sym (ap (map g.E.GraphItem.number) c.as_slice.ensures)) c.in_ok-items.ensures.once

pub returns-clause-values : goal.returns-clause-values
returns-clause-values g c =
    let v : ℤ = to_z w64 (of_z w64 c.args.value) in
    table_as c.in_ok-row.row (g.E.GraphItem.live c.args.g.now) (λ _ x. x ≡ v)
    (subst (λ (l : List ℕ). IsTable c.in_ok-row.row l (λ _ x. x ≡ v)) (ap (map g.E.GraphItem.number) c.as_slice.ensures ∙ c.in_ok-items.ensures.items) c.in_ok-row.ensures)
    (λ _ x. x ≡ c.args.value) (λ m y h e. e ∙ to_z-of_z w64 c.args.value c.ranges.value)

pub returns-clause-served : goal.returns-clause-served
returns-clause-served g c =
    table_serves c.made_in.result c.in_ok-row.row (g.E.GraphItem.live c.args.g.now) (λ _ x. x ≡ c.args.value) (returns-clause-values g c)
