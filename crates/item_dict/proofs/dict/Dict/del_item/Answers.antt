-- The entry and its key go together.
use Rattle.std.proofs.Common.{rules, None, ◌∙◌, subst, w64}
use Rattle.std.proofs.lemmas.Int.{to_z-of_z}
use Rattle.std.specs.Prelude.{FitsSigned}
use Rattle.std.specs.Ordering.{int_cmp}
use Rattle.std.specs.BTreeMap as tree
use Rattle.item_dict.specs.declared.dict.Dict.TheInside.{Inside}
use Rattle.item_dict.specs.Contents.{Contents, contents, Lacks, Removes}
use Rattle.item_dict.specs.Index.{seen, serials_of, triples_of}
use Rattle.item_dict.proofs.Steps.{lacks, removes_at}
use Rattle.item_dict.proofs.dict.Dict.del_item.Goals as goal

pub invariant_of-self : goal.invariant_of-self
invariant_of-self g c =
    let e = c.in-Ok.field-0 in let m = c.self.inside.tree in
    let fits : FitsSigned w64 e.key = search rules in
    let updates = subst (λ z. tree.Updates int_cmp m c.remove-serial.new.self z None) (to_z-of_z w64 e.key fits) c.remove-serial.ensures.updates in
    (removes_at c.self.inside c.self.invariant (record { pool = c.remove.new.self; tree = c.remove-serial.new.self }) c.args.it.serial e c.in-Ok.ensures updates).1

pub returns-in-Ok : goal.returns-in-Ok
returns-in-Ok g c =
    let X = g.row.I.Denot in let e = c.in-Ok.field-0 in let s = c.args.it.serial in let m = c.self.inside.tree in
    let fits : FitsSigned w64 e.key = search rules in
    let updates = subst (λ z. tree.Updates int_cmp m c.remove-serial.new.self z None) (to_z-of_z w64 e.key fits) c.remove-serial.ensures.updates in
    let q : Inside X = record { pool = c.remove.new.self; tree = c.remove-serial.new.self } in
    let done = (removes_at c.self.inside c.self.invariant q s e c.in-Ok.ensures updates).0 in
    (e.key, subst (λ (o : Contents X). Removes o (seen q) s e.key e.inf) c.self.view_is done)

pub returns-in-Err : goal.returns-in-Err
returns-in-Err g c =
    let p = c.self.inside in let s = c.args.it.serial in
    let kept = c.in-Err.ensures.1 in (
      subst (λ (o : Contents g.row.I.Denot). Lacks o s c.in-Err.why) c.self.view_is (lacks p c.self.invariant s c.in-Err.why c.in-Err.ensures.0),
      (λ i. contents (triples_of (kept i).live (serials_of p.tree)) (kept i).made) ∙ c.self.view_is,
    )
