-- An end of the list is an end of its chain.
use Rattle.std.proofs.Common.{◌≡◌}
use Rattle.std.specs.Result.{MatchResult}
use Rattle.item_list.specs.Items.{Items, Lacks}
use Rattle.item_list.specs.Sides.{MovesTo}
use Rattle.item_list.proofs.Readings.{outcomes, towards, lacks_still, moves_to}
use Rattle.item_list.proofs.list.List.move_to.Goals as goal

pub returns : goal.returns
returns g c =
    let a = c.self.inside in
    let s = c.args.it.serial in
    let t = c.move_to.new.self in
    let r = c.move_to.result in
    towards (λ side (l m : Items g.row.E.Denot). MatchResult r (λ _. MovesTo side l m s) (λ why. Lacks l s why × (m ≡ l))) a.is_turned c.args.side _ a.chain t c.args.self.now c.self.view_is c.of_chain.ensures
    c.move_to.ensures.answer (outcomes r (λ _. moves_to a.chain c.move_to.ensures.whole s t c.args.side) (λ why. lacks_still a.chain s why t))
