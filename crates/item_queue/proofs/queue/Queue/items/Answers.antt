-- The nodes in order have the items.
use Rattle.std.proofs.Common.{◌≡◌, List, take, ◌∙◌, ap, subst, sym}
use Rattle.std.specs.List.Sorted.{IsPermutation}
use Rattle.item_queue.specs.declared.node.Node.{Node}
use Rattle.item_pool.specs.declared.pool.Item.{Item}
use Rattle.item_queue.specs.Contents.{Queued}
use Rattle.item_queue.specs.Listing.{serials_of, IsListing}
use Rattle.item_queue.proofs.Listings.{items_in, is_listing}
use Rattle.item_queue.proofs.queue.Queue.items.Goals as goal

pub returns : goal.returns
returns g c =
    let ys = c.in_ok-nodes.nodes.items in let row : c.from_vec.result ≡ items_in ys = c.from_vec.ensures ∙ c.in_ok-items.ensures ∙ ap items_in c.as_slice.ensures.value in
    let h = c.self.inside.heap in
    let same : IsPermutation (take h.len h.nodes.items) ys = subst (λ (xs : List Node). IsPermutation xs ys) c.live.ensures c.in_ok-nodes.ensures.same in
    subst (λ (items : List Item). IsListing c.args.self.now (serials_of items)) (sym row)
    (subst (λ (q : Queued g.row.I.Denot). IsListing q (serials_of (items_in ys))) c.self.view_is (is_listing c.self.inside c.self.invariant ys same c.in_ok-nodes.ensures.order))
