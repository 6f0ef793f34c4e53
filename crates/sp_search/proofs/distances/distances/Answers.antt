use Rattle.sp_search.specs.Settling.{IsCosted}
use Rattle.sp_search.proofs.Ends.{answer_is}
use Rattle.sp_search.proofs.distances.distances.Goals as goal

pub returns-clause-right : goal.returns-clause-right
returns-clause-right c =
    let q : IsCosted c.args.net.now c.args.cost.now = record { valid = c.requires.valid; long = c.requires.costs; low = c.requires.low; sum = c.requires.sum } in
    (answer_is c.args.net.now c.args.s c.args.cost.now q c.run.new.self.settled.items c.run.new.self.labels c.run.new.self.preds.items c.in_ok-run.ensures
    c.from_vec.result c.new.result c.new-2.result c.in_ok-free_nodes.field-0 c.from_vec.ensures c.new.ensures c.new-2.ensures c.in_ok-free_nodes.ensures).0

pub returns-clause-first : goal.returns-clause-first
returns-clause-first c =
    let q : IsCosted c.args.net.now c.args.cost.now = record { valid = c.requires.valid; long = c.requires.costs; low = c.requires.low; sum = c.requires.sum } in
    (answer_is c.args.net.now c.args.s c.args.cost.now q c.run.new.self.settled.items c.run.new.self.labels c.run.new.self.preds.items c.in_ok-run.ensures
    c.from_vec.result c.new.result c.new-2.result c.in_ok-free_nodes.field-0 c.from_vec.ensures c.new.ensures c.new-2.ensures c.in_ok-free_nodes.ensures).1
