-- The pool has one item less.
use Rattle.std.proofs.Common.{◌≡◌, Some, refl, sym, ap, ◌∙◌}
use Rattle.item_list.specs.Items.{pairs_without}
use Rattle.object_store.specs.declared.slots.Named.{Named}
use Rattle.object_store.specs.Commands.{with_cells}
use Rattle.object_store.specs.Inner.{cells_in, seen}
use Rattle.object_store.specs.Kept.{state_of}
use Rattle.object_store.proofs.Leaving.{kept_leaves, state_leaves, fewer}
use Rattle.object_store.proofs.parts.leave.Goals as goal

pub leave_at-requires : goal.leave_at-requires
leave_at-requires c =
    let w = c.requires.kept.there c.args.place.slot c.args.place.item.serial c.args.number (c.args.place, c.requires.there, refl, refl) in
    (w.0, w.2, (w.1, w.3))

pub returns-clause-kept : goal.returns-clause-kept
returns-clause-kept c =
    kept_leaves c.args.slots.now c.leave_at.new.slots c.args.cells.now c.remove.new.self c.requires.kept c.args.number c.args.place c.requires.there
    c.leave_at.ensures c.in-Ok.ensures.live c.in-Ok.ensures.made

pub returns-clause-fewer : goal.returns-clause-fewer
returns-clause-fewer c = fewer c.args.cells.now.live c.remove.new.self.live c.args.number c.args.place c.requires.there c.in-Ok.ensures.live

pub returns-clause-state : goal.returns-clause-state
returns-clause-state c = λ n at.
    let r = c.leave_at.ensures in
    let both : Some (Some r.old) ≡ Some (Some n) = sym r.was ∙ at in
    let old : r.old ≡ n = cc in
    state_leaves c.args.slots.now c.leave_at.new.slots c.args.cells.now c.remove.new.self c.requires.kept c.args.number c.args.place c.requires.there
    c.leave_at.ensures c.in-Ok.ensures.live c.in-Ok.ensures.made
    ∙ ap (λ (m : Named). with_cells m.name (seen m.object) (pairs_without c.args.number (cells_in m.object)) (state_of c.args.slots.now c.args.cells.now)) old
