-- The entry of the item has the information.
use Rattle.std.proofs.Common.{subst}
use Rattle.item_dict.specs.Contents.{Contents, Holds, Lacks}
use Rattle.item_dict.proofs.Steps.{held, lacks}
use Rattle.item_dict.proofs.dict.Dict.inf.Goals as goal

pub returns-in-Ok : goal.returns-in-Ok
returns-in-Ok g c =
    let n = c.in-Ok.entry.now in
    (n.key, subst (λ (o : Contents g.row.I.Denot). Holds o c.args.it.serial n.key n.inf) c.self.view_is (held c.self.inside c.self.invariant c.args.it.serial n c.in-Ok.ensures.0))

pub returns-in-Err : goal.returns-in-Err
returns-in-Err g c =
    let s = c.args.it.serial in subst (λ (o : Contents g.row.I.Denot). Lacks o s c.in-Err.why) c.self.view_is (lacks c.self.inside c.self.invariant s c.in-Err.why c.in-Err.ensures)
