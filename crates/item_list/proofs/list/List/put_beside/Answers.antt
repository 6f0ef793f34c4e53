-- What is put beside an item on a side is put there in the chain, on a side of it.
use Rattle.std.proofs.Common.{◌≡◌, ◌+◌}
use Rattle.std.specs.Prelude.{IfOk, IfErr}
use Rattle.item_list.specs.Items.{Items, HasItem, Enters, ReturnsBeside}
use Rattle.item_list.specs.Sides.{pairs_beside}
use Rattle.item_list.proofs.Readings.{if_ok, if_err, towards, both_ways, enters_beside, returned_beside}
use Rattle.item_list.proofs.list.List.put_beside.Goals as goal

pub returns-clause-ok : goal.returns-clause-ok
returns-clause-ok g c =
    let a = c.self.inside in
    let s = c.args.at.serial in
    let t = c.put_beside.new.self in
    let r = c.put_beside.result in
    towards (λ side (l m : Items g.row.E.Denot). IfOk r (λ it. HasItem l s × Enters l m it (pairs_beside side s (l.made + 1, c.args.v) l.pairs))) a.is_turned c.args.side _ a.chain t c.args.self.now c.self.view_is c.of_chain.ensures
    c.put_beside.ensures.ok (if_ok r (λ it. enters_beside a.chain t it c.put_beside.ensures.whole c.args.side s (a.chain.made + 1, c.args.v)))

pub returns-clause-err : goal.returns-clause-err
returns-clause-err g c =
    let a = c.self.inside in
    let s = c.args.at.serial in
    let t = c.put_beside.new.self in
    let r = c.put_beside.result in
    both_ways (λ (l m : Items g.row.E.Denot). IfErr r (λ why. ReturnsBeside l s c.args.v why × (m ≡ l))) a.is_turned a.chain t c.args.self.now c.self.view_is c.put_beside.ensures.err
    (if_err r (λ why. returned_beside a.chain t s c.args.v why) c.put_beside.ensures.err)
