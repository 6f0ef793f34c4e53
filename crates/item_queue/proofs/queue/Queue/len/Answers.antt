-- There are as many nodes as entries.
use Rattle.std.proofs.Common.{sym, ap, ◌∙◌}
use Rattle.std.specs.FinMap as map
use Rattle.item_queue.specs.Contents.{Queued}
use Rattle.item_queue.proofs.Items.{len_items}
use Rattle.item_queue.proofs.queue.Queue.len.Goals as goal

pub returns : goal.returns
returns g c = c.len.ensures.len ∙ sym (len_items c.self.inside.pool.live) ∙ ap (λ (q : Queued g.row.I.Denot). map.len q.live) c.self.view_is
