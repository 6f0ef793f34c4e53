-- An end of the list is an end of its chain.
use Rattle.std.proofs.Common.{◌≡◌, ◌∙◌}
use Rattle.item_list.specs.Items.{Items, serials, serial_of}
use Rattle.item_list.specs.Sides.{end_of}
use Rattle.item_list.proofs.Readings.{towards, end_item}
use Rattle.item_list.proofs.list.List.end_item.Goals as goal

pub returns : goal.returns
returns g c =
    let a = c.self.inside in
    towards (λ side (l _ : Items g.row.E.Denot). serial_of c.end_item.result ≡ end_of side (serials l.pairs)) a.is_turned c.args.side _ a.chain a.chain c.args.self.now c.self.view_is c.of_chain.ensures
    c.end_item.ensures (λ h. h ∙ end_item a.chain c.args.side)
