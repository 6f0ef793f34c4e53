-- The chain says the same of either reading.
use Rattle.std.specs.Result.{MatchResult}
use Rattle.item_list.specs.Items.{Items, Holds, Lacks}
use Rattle.item_list.proofs.Readings.{outcomes, both_ways, lacks, holds}
use Rattle.item_list.proofs.list.List.contents.Goals as goal

pub returns : goal.returns
returns g c =
    let a = c.self.inside in
    let s = c.args.it.serial in
    both_ways (λ (l _ : Items g.row.E.Denot). MatchResult c.contents.result (λ v. Holds l s v.now) (Lacks l s)) a.is_turned a.chain a.chain c.args.self.now c.self.view_is c.contents.ensures.answer
    (outcomes c.contents.result (λ v. holds a.chain c.contents.ensures.whole s v.now) (λ why. lacks a.chain s why) c.contents.ensures.answer)
