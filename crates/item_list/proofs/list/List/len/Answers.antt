-- Turned round, a list has as many values, and serials that are as distinct.
use Rattle.item_list.specs.Items.{Items, AreItems}
use Rattle.item_list.proofs.Readings.{both_ways, whole}
use Rattle.item_list.proofs.list.List.len.Goals as goal

pub returns-clause-whole : goal.returns-clause-whole
returns-clause-whole g c =
    let a = c.self.inside in
    both_ways (λ (l _ : Items g.row.E.Denot). AreItems l) a.is_turned a.chain a.chain c.args.self.now c.self.view_is c.len.ensures.whole (whole a.chain c.len.ensures.whole)
