-- The table has the places of all numbers.
use Rattle.std.proofs.Common.{◌≤◌, length, sym, subst, ◌∙◌, refl}
use Rattle.graph_state.specs.Names.{Has, IsOnce}
use Rattle.hide_restore.specs.Net.{HavePlaces}
use Rattle.hide_restore.proofs.Numbers.{all_at, table_all}
use Rattle.hide_restore.proofs.places.Places.of_numbers.Goals as goal

pub table_of-requires-clause-most : goal.table_of-requires-clause-most
table_of-requires-clause-most c =
    let same = c.as_slice.ensures.value ∙ c.into_vec-numbers.ensures in
    all_at (λ v. v ≤ c.args.most) c.as_slice.result.now (λ v i. c.requires.most v (subst (Has v) same i))

pub invariant_of-result : goal.invariant_of-result
invariant_of-result c =
    let numbers = c.into_vec-numbers.result.items in
    table_all numbers c.args.most (length numbers) c.in_ok-table.table.items
    (subst (λ ns. HavePlaces ns c.args.most (length ns) c.in_ok-table.table.items) c.as_slice.ensures.value c.in_ok-table.ensures)
    (subst IsOnce (sym c.into_vec-numbers.ensures) c.requires.once)
    (all_at (λ v. v ≤ c.args.most) numbers (λ v i. c.requires.most v (subst (Has v) c.into_vec-numbers.ensures i)))
    refl
