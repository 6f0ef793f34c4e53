-- The same round the ends.
use Rattle.std.specs.Result.{MatchResult}
use Rattle.item_list.specs.Items.{Items, Lacks}
use Rattle.item_list.specs.Sides.{IsCyclicBeside}
use Rattle.item_list.proofs.Readings.{outcomes, towards, lacks, is_round}
use Rattle.item_list.proofs.list.List.item_round.Goals as goal

pub returns : goal.returns
returns g c =
    let a = c.self.inside in
    let s = c.args.it.serial in
    let r = c.item_round.result in
    towards (λ side (l _ : Items g.row.E.Denot). MatchResult r (IsCyclicBeside side l s) (Lacks l s)) a.is_turned c.args.side _ a.chain a.chain c.args.self.now c.self.view_is c.of_chain.ensures
    c.item_round.ensures (outcomes r (is_round a.chain s c.args.side) (lacks a.chain s))
