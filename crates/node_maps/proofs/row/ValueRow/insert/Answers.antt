-- The number takes a vacant place, or one behind the row.
use Rattle.std.proofs.Common.{w64, to_z, of_z, ◌≡◌, ◌<◌, [], ◌∷◌, ◌++◌, length, set, refl, sym, ap, subst, ◌∙◌, arith}
use Rattle.std.proofs.lemmas.Int.{to_z-of_z}
use Rattle.node_maps.specs.declared.row.Entry.{Entry}
use Rattle.node_maps.specs.PrivateRow.{number_at, values_of, AreApart}
use Rattle.node_maps.proofs.Rows.{IsWritten, written_apart, written_row, fills, pushes, number_read}
use Rattle.node_maps.proofs.row.ValueRow.insert.Goals as goal

filled : (c : goal.After-self-1) → IsWritten c.self.inside.entries.items
    (set c.self.inside.entries.items c.args.item.slot (record { number = c.args.item.serial; value = to_z w64 (of_z w64 c.args.value) }))
    c.args.item.slot c.args.item.serial c.args.value
filled c =
    let es = c.self.inside.entries.items in
    let n = c.args.item.serial in
    let i = c.args.item.slot in
    let e : Entry = record { number = n; value = to_z w64 (of_z w64 c.args.value) } in
    let size = c.self.inside.entries.ok.0 in
    let long = c.len.ensures in
    let less = c.if-slot-len.true in
    let within : i < length es = omega (arith, size, long, less) in
    let vacant : number_at es i ≡ 0 = sym (number_read es i c.index.result.now within c.index.ensures) ∙ c.if-index-eq0.true in
    fills es c.args.self.now n c.self.invariant c.self.view_is i e c.args.value c.requires.number c.requires.fresh refl (to_z-of_z w64 c.args.value c.ranges.value) within vacant

pub invariant_of-self : goal.invariant_of-self
invariant_of-self c = written_apart c.self.inside.entries.items _ c.args.item.slot c.args.item.serial c.args.value c.self.invariant (filled c)

pub returns-then-index-eq0 : goal.returns-then-index-eq0
returns-then-index-eq0 c =
    written_row c.self.inside.entries.items c.args.self.now c.args.item.serial c.self.invariant c.self.view_is _ c.args.item.slot c.args.value (filled c)

pushed : (c : goal.In_ok-push) → IsWritten c.self.inside.entries.items
    (c.self.inside.entries.items ++ (record { number = c.args.item.serial; value = to_z w64 (of_z w64 c.args.value) }) ∷ [])
    (length c.self.inside.entries.items) c.args.item.serial c.args.value
pushed c =
    let e : Entry = record { number = c.args.item.serial; value = to_z w64 (of_z w64 c.args.value) } in
    pushes c.self.inside.entries.items c.args.self.now c.args.item.serial c.self.invariant c.self.view_is e c.args.value c.requires.number c.requires.fresh refl (to_z-of_z w64 c.args.value c.ranges.value)

pub invariant_of-self-2 : goal.invariant_of-self-2
invariant_of-self-2 c =
    subst AreApart (sym c.in_ok-push.ensures.items)
    (written_apart c.self.inside.entries.items _ (length c.self.inside.entries.items) c.args.item.serial c.args.value c.self.invariant (pushed c))

pub returns : goal.returns
returns c =
    ap values_of c.in_ok-push.ensures.items
    ∙ written_row c.self.inside.entries.items c.args.self.now c.args.item.serial c.self.invariant c.self.view_is _ (length c.self.inside.entries.items) c.args.value (pushed c)
