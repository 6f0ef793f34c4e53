-- A key that is there keeps its item.
use Rattle.std.proofs.Common.{subst, w64}
use Rattle.std.proofs.lemmas.Int.{to_z-of_z}
use Rattle.item_dict.specs.Contents.{HasKey}
use Rattle.item_dict.proofs.Steps.{keeps}
use Rattle.item_dict.proofs.dict.Dict.insert.Goals as goal

pub returns-in-Ok : goal.returns-in-Ok
returns-in-Ok g c =
    let d = c.args.self.now in let k = c.args.k in let s = c.in-Some.it.serial in
    let has = subst (λ z. HasKey d s z) (to_z-of_z w64 k c.ranges.k) c.in-Some.ensures in
    keeps d c.change_inf.new.self k c.args.i s has c.in-Ok.ensures.0 _ c.in-Ok.ensures.1
