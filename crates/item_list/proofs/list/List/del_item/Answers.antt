-- The chain says the same of either reading.
use Rattle.std.proofs.Common.{◌≡◌}
use Rattle.std.specs.Result.{MatchResult}
use Rattle.item_list.specs.Items.{Items, Lacks, Removes}
use Rattle.item_list.proofs.Readings.{outcomes, both_ways, lacks_still, removes}
use Rattle.item_list.proofs.list.List.del_item.Goals as goal

pub returns : goal.returns
returns g c =
    let a = c.self.inside in
    let s = c.args.it.serial in
    let t = c.del_item.new.self in
    both_ways (λ (l m : Items g.row.E.Denot). MatchResult c.del_item.result (λ v. Removes l m s v) (λ why. Lacks l s why × (m ≡ l))) a.is_turned a.chain t c.args.self.now c.self.view_is c.del_item.ensures.answer
    (outcomes c.del_item.result (λ v. removes a.chain c.del_item.ensures.whole s t v) (λ why. lacks_still a.chain s why t) c.del_item.ensures.answer)
