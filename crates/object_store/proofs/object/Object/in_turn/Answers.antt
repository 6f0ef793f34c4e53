-- The next item is there, and is shown.
use Rattle.std.proofs.Common.{◌≡◌, ◌+◌, List, [], ◌∷◌, length, sym, ap, subst, ◌∙◌, arith, length-append}
use Rattle.reply_text.specs.declared.reply.CellShow.{CellShow}
use Rattle.object_store.specs.Inner.{inner}
use Rattle.object_store.proofs.Listings.{ShowsUpTo, fewer_left, next_there, shows_all, shows_next, shows_none}
use Rattle.object_store.proofs.object.Object.in_turn.Goals as goal

pub loop-next-init : goal.loop-next-init
loop-next-init c = shows_none (inner c.args.self.now) c.first_item-next.result c.new-cells.result c.new-cells.ensures c.first_item-next.ensures

pub cell-requires-clause-there : goal.cell-requires-clause-there
cell-requires-clause-there c = next_there (inner c.args.self.now) c.loop-next.next c.in-Some.item c.loop-next.cells c.requires.distinct c.in-Some.is c.loop-next.invariant

pub loop-next-preserved : goal.loop-next-preserved
loop-next-preserved c =
    subst (λ (row : List CellShow). ShowsUpTo (inner c.args.self.now) c.item_behind-next.result row) (sym c.in_ok-push.ensures.ok)
    (shows_next (inner c.args.self.now) c.loop-next.next c.item_behind-next.result c.in-Some.item c.loop-next.cells c.in_ok-cell.field-0 c.requires.distinct c.in-Some.is c.loop-next.invariant c.in_ok-cell.ensures c.item_behind-next.ensures)

pub loop-next-smaller : goal.loop-next-smaller
loop-next-smaller c =
    let less = fewer_left (inner c.args.self.now) c.loop-next.next c.in-Some.item c.loop-next.cells c.in-Some.is c.loop-next.invariant in
    let more : length c.push.new.self ≡ length c.loop-next.cells + 1 = ap length c.in_ok-push.ensures.ok ∙ length-append c.loop-next.cells (c.in_ok-cell.field-0 ∷ []) in
    omega (arith, less, more)

pub returns : goal.returns
returns c = shows_all (inner c.args.self.now) c.loop-next.next c.loop-next.cells c.in_default.is c.loop-next.invariant
