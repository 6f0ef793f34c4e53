-- The pool has the entry, and then the tree its serial.
use Rattle.std.proofs.Common.{◌+◌, Some, ap, ◌∙◌, subst, w64}
use Rattle.std.proofs.lemmas.Int.{to_z-of_z}
use Rattle.std.specs.Ordering.{int_cmp}
use Rattle.std.specs.BTreeMap as tree
use Rattle.std.specs.FinMap as map
use Rattle.item_dict.specs.declared.dict.Dict.TheInside.{Inside}
use Rattle.item_dict.specs.Contents.{Contents, Adds}
use Rattle.item_pool.specs.Contents as pool
use Rattle.item_dict.specs.Index.{seen, pair}
use Rattle.item_dict.proofs.Steps.{adds}
use Rattle.item_dict.proofs.dict.Dict.add.Goals as goal

pub invariant_of-self-in-Ok : goal.invariant_of-self-in-Ok
invariant_of-self-in-Ok g c =
    let X = g.row.I.Denot in let p = c.self.inside in let k = c.args.k in
    let same = to_z-of_z w64 k c.ranges.k in
    let inserts = subst (λ z. pool.Inserts c.reserve.new.self c.insert_reserved.new.self c.insert_reserved.result (pair z c.args.i)) same c.insert_reserved.ensures in
    let updates = subst (λ z. tree.Updates int_cmp p.tree c.insert.new.self z (Some (c.made-made.result + 1))) same c.in-Ok.ensures.updates in
    let absent = ap (λ (o : Contents X). map.get o.triples k) c.self.view_is ∙ c.requires in
    (adds p c.self.invariant (record { pool = c.insert_reserved.new.self; tree = c.insert.new.self }) c.reserve.new.self c.insert_reserved.result (c.made-made.result + 1) k c.args.i
    c.reserve.ensures.kept inserts absent (ap (λ n. n + 1) c.made-made.ensures.made) updates).1

pub returns-in-Ok : goal.returns-in-Ok
returns-in-Ok g c =
    let X = g.row.I.Denot in let p = c.self.inside in let k = c.args.k in
    let same = to_z-of_z w64 k c.ranges.k in
    let inserts = subst (λ z. pool.Inserts c.reserve.new.self c.insert_reserved.new.self c.insert_reserved.result (pair z c.args.i)) same c.insert_reserved.ensures in
    let updates = subst (λ z. tree.Updates int_cmp p.tree c.insert.new.self z (Some (c.made-made.result + 1))) same c.in-Ok.ensures.updates in
    let absent = ap (λ (o : Contents X). map.get o.triples k) c.self.view_is ∙ c.requires in
    let q : Inside X = record { pool = c.insert_reserved.new.self; tree = c.insert.new.self } in
    let done = (adds p c.self.invariant q c.reserve.new.self c.insert_reserved.result (c.made-made.result + 1) k c.args.i
    c.reserve.ensures.kept inserts absent (ap (λ n. n + 1) c.made-made.ensures.made) updates).0 in
    subst (λ (o : Contents X). Adds o (seen q) k c.args.i c.insert_reserved.result.serial) c.self.view_is done
