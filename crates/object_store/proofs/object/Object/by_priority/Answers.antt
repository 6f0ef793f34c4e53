-- The items that the queue lists are there, and are shown.
use Rattle.std.proofs.Common.{◌≡◌, List, [], ◌∷◌, ◌++◌, None, map, take, sym, ap, subst, ◌∙◌}
use Rattle.std.specs.Prelude.{slice_index_or}
use Rattle.std.specs.FinMap as finmap
use Rattle.item_pool.specs.Contents.{WhyGone}
use Rattle.item_pool.specs.declared.pool.Item.{Item}
use Rattle.item_queue.specs.Listing.{IsListing, serials_of}
use Rattle.reply_text.specs.declared.reply.CellShow.{CellShow}
use Rattle.object_store.specs.declared.object.Object.{Object}
use Rattle.object_store.specs.Cells.{in_order, shown}
use Rattle.object_store.specs.Inner.{cells_in, inner}
use Rattle.object_store.specs.Near.{HasThere}
use Rattle.object_store.specs.Shown.{IsShowable}
use Rattle.object_store.proofs.InOrder.{all_listed, listed_there, zero_gone}
use Rattle.object_store.proofs.Listings.{ShowsSerials, more_serials, shows_more}
use Rattle.object_store.proofs.object.Object.by_priority.Goals as goal

pub cell-requires-clause-there : goal.cell-requires-clause-there
cell-requires-clause-there c =
    let its = c.as_slice-items.result.now in
    let blank : Item = record { slot = 0; serial = 0 } in
    let lists = subst (λ (ys : List Item). IsListing c.args.queue.now (serials_of ys)) (sym c.as_slice-items.ensures) c.in_ok-row.ensures in
    subst (λ (o : Object). HasThere (slice_index_or its c.loop-item.item-index blank) (inner o)) (sym c.requires.is)
    (listed_there c.args.queue.now its c.loop-item.item-index blank c.loop-item-test.true lists)

pub loop-item-preserved : goal.loop-item-preserved
loop-item-preserved c =
    let its = c.as_slice-items.result.now in
    let k = c.loop-item.item-index in
    let blank : Item = record { slot = 0; serial = 0 } in
    let s = (slice_index_or its k blank).serial in
    let xs = inner c.args.self.now in
    subst (λ ss. ShowsSerials xs ss c.push.new.self) (sym (more_serials its k blank c.loop-item-test.true))
    (subst (λ (row : List CellShow). ShowsSerials xs (serials_of (take k its) ++ s ∷ []) row) (sym c.in_ok-push.ensures.ok)
    (shows_more xs (serials_of (take k its)) c.loop-item.cells s c.in_ok-cell.field-0 c.loop-item.invariant c.in_ok-cell.ensures))

pub returns : goal.returns
returns c =
    let its = c.as_slice-items.result.now in
    let q = c.args.queue.now in
    let lists = subst (λ (ys : List Item). IsListing q (serials_of ys)) (sym c.as_slice-items.ensures) c.in_ok-row.ensures in
    let free : finmap.get q.live 0 ≡ None = zero_gone q _ (WhyGone q.made 0) c.inf.result c.inf.ensures (sym c.is_err.ensures.value ∙ c.if-prove.false) in
    all_listed q (subst IsShowable c.requires.is c.requires.showable) free its c.loop-item.item-index c.loop-item.cells c.loop-item-test.false lists
    (subst (λ (o : Object). ShowsSerials (inner o) (serials_of (take c.loop-item.item-index its)) c.loop-item.cells) c.requires.is c.loop-item.invariant)
    ∙ ap (λ (o : Object). map shown (in_order (cells_in o))) (sym c.requires.is)
