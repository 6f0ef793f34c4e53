-- The chain says the same of either reading.
use Rattle.std.proofs.Common.{◌≡◌}
use Rattle.std.specs.Result.{MatchResult}
use Rattle.item_list.specs.Items.{Items, Lacks, Assigns}
use Rattle.item_list.proofs.Readings.{outcomes, both_ways, lacks_still, assigns}
use Rattle.item_list.proofs.list.List.assign.Goals as goal

pub returns : goal.returns
returns g c =
    let a = c.self.inside in
    let s = c.args.it.serial in
    let t = c.assign.new.self in
    both_ways (λ (l m : Items g.row.E.Denot). MatchResult c.assign.result (λ old. Assigns l m s old c.args.v) (λ why. Lacks l s why × (m ≡ l))) a.is_turned a.chain t c.args.self.now c.self.view_is c.assign.ensures.answer
    (outcomes c.assign.result (λ old. assigns a.chain c.assign.ensures.whole s t old c.args.v) (λ why. lacks_still a.chain s why t) c.assign.ensures.answer)
