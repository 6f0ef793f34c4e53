-- An end of the list is an end of its chain.
use Rattle.std.proofs.Common.{◌≡◌, ◌+◌}
use Rattle.std.specs.Prelude.{IfOk, IfErr}
use Rattle.item_list.specs.Items.{Items, Enters, Returns}
use Rattle.item_list.specs.Sides.{with_at}
use Rattle.item_list.proofs.Readings.{if_ok, if_err, towards, both_ways, enters_at, returned}
use Rattle.item_list.proofs.list.List.put.Goals as goal

pub returns-clause-ok : goal.returns-clause-ok
returns-clause-ok g c =
    let a = c.self.inside in
    let t = c.put.new.self in
    let r = c.put.result in
    towards (λ side (l m : Items g.row.E.Denot). IfOk r (λ it. Enters l m it (with_at side (l.made + 1, c.args.v) l.pairs))) a.is_turned c.args.side _ a.chain t c.args.self.now c.self.view_is c.of_chain.ensures
    c.put.ensures.ok (if_ok r (λ it. enters_at a.chain t it c.args.side (a.chain.made + 1, c.args.v)))

pub returns-clause-err : goal.returns-clause-err
returns-clause-err g c =
    let a = c.self.inside in
    let t = c.put.new.self in
    let r = c.put.result in
    both_ways (λ (l m : Items g.row.E.Denot). IfErr r (λ why. Returns l c.args.v why × (m ≡ l))) a.is_turned a.chain t c.args.self.now c.self.view_is c.put.ensures.err
    (if_err r (λ why. returned a.chain t c.args.v why) c.put.ensures.err)
