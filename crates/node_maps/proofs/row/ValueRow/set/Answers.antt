-- The number keeps its place.
use Rattle.std.proofs.Common.{w64, to_z, of_z, ◌≡◌, ℕ, ◌<◌, ◌≢◌, List, length, subst, ◌∙◌}
use Rattle.std.specs.FinMap as map
use Rattle.std.proofs.lemmas.Int.{to_z-of_z}
use Rattle.node_maps.specs.declared.row.Entry.{Entry}
use Rattle.node_maps.specs.PrivateRow.{number_at}
use Rattle.node_maps.proofs.Rows.{absent_row, resets, number_read, none_is}
use Rattle.node_maps.proofs.row.ValueRow.set.Goals as goal

pub unreachable-requires : goal.unreachable-requires
unreachable-requires c =
    let n = c.args.item.serial in
    none_is (map.get c.args.self.now n)
    (absent_row c.self.inside.entries.items c.args.self.now n c.self.invariant c.self.view_is
    (subst (λ (l : List Entry). (k : ℕ) → k < length l → number_at l k ≢ n) c.as_slice.ensures.value c.in_default.ensures)) c.requires.there

pub returns : goal.returns
returns c =
    let es = c.self.inside.entries.items in
    let n = c.args.item.serial in
    let i = c.in-Some.place in
    let was = c.index_mut.result.now in
    let e : Entry = record { number = was.number; value = to_z w64 (of_z w64 c.args.value) } in
    let same = c.as_slice.ensures.value in
    let within : i < length es = subst (λ (l : List Entry). i < length l) same c.in-Some.ensures.0 in
    let at : number_at es i ≡ n = subst (λ (l : List Entry). number_at l i ≡ n) same c.in-Some.ensures.1 in
    resets es c.args.self.now n c.self.invariant c.self.view_is i e c.args.value c.requires.number (number_read es i was within c.index_mut.ensures.value ∙ at) (to_z-of_z w64 c.args.value c.ranges.value) within at
