-- The entry of the item has the key.
use Rattle.std.proofs.Common.{rules, sym, subst, w64}
use Rattle.std.proofs.lemmas.Int.{to_z-of_z}
use Rattle.std.specs.Prelude.{FitsSigned}
use Rattle.item_dict.specs.Contents.{Contents, HasKey, Holds, Lacks}
use Rattle.item_dict.proofs.Steps.{held, lacks}
use Rattle.item_dict.proofs.dict.Dict.key.Goals as goal

pub returns-in-Ok : goal.returns-in-Ok
returns-in-Ok g c =
    let X = g.row.I.Denot in let e = c.in-Ok.entry.now in let s = c.args.it.serial in
    let fits : FitsSigned w64 e.key = search rules in
    let found = subst (λ (o : Contents X). Holds o s e.key e.inf) c.self.view_is (held c.self.inside c.self.invariant s e c.in-Ok.ensures.0) in
    subst (λ z. HasKey c.args.self.now s z) (sym (to_z-of_z w64 e.key fits)) (e.inf, found)

pub returns-in-Err : goal.returns-in-Err
returns-in-Err g c =
    let s = c.args.it.serial in subst (λ (o : Contents g.row.I.Denot). Lacks o s c.in-Err.why) c.self.view_is (lacks c.self.inside c.self.invariant s c.in-Err.why c.in-Err.ensures)
