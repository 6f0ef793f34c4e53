-- The value stands beside the number, and a number that stands nowhere has none.
use Rattle.std.proofs.Common.{rules, w64, ◌≡◌, ℕ, ◌<◌, ◌≢◌, List, length, Some, sym, ap, subst, ◌∙◌}
use Rattle.std.specs.Prelude.{ℤ, FitsSigned}
use Rattle.std.proofs.lemmas.Int.{to_z-of_z}
use Rattle.node_maps.specs.declared.row.Entry.{Entry}
use Rattle.node_maps.specs.PrivateRow.{entry_at, number_at}
use Rattle.node_maps.proofs.Rows.{read_row, absent_row}
use Rattle.node_maps.proofs.row.ValueRow.get.Goals as goal

pub returns-in-Some : goal.returns-in-Some
returns-in-Some c =
    let es = c.self.inside.entries.items in
    let n = c.args.item.serial in
    let k = c.in-Some.place in
    let same = c.as_slice-entries.ensures.value in
    let at : number_at es k ≡ n = subst (λ (l : List Entry). number_at l k ≡ n) same c.in-Some.ensures.1 in
    let x : ℤ = (entry_at c.as_slice-entries.result.now k).value in
    let fits : FitsSigned w64 x = search rules in
    ap Some (to_z-of_z w64 x fits ∙ ap (λ (l : List Entry). (entry_at l k).value) same)
    ∙ read_row es c.args.self.now n c.self.invariant c.self.view_is k c.requires at

pub returns-in-None : goal.returns-in-None
returns-in-None c =
    let es = c.self.inside.entries.items in
    let n = c.args.item.serial in
    sym (absent_row es c.args.self.now n c.self.invariant c.self.view_is
    (subst (λ (l : List Entry). (k : ℕ) → k < length l → number_at l k ≢ n) c.as_slice-entries.ensures.value c.in-None.ensures))
