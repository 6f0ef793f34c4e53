-- The key and its entry go together.
use Rattle.std.proofs.Common.{◌≡◌, Some, None, sym, ap, ◌∙◌, subst, w64}
use Rattle.std.proofs.lemmas.Int.{to_z-of_z}
use Rattle.std.specs.Ordering.{int_cmp}
use Rattle.std.specs.BTreeMap as tree
use Rattle.std.specs.FinMap as map
use Rattle.item_dict.specs.declared.dict.Dict.TheInside.{Inside}
use Rattle.item_dict.specs.Contents.{Contents, contents, Removes}
use Rattle.item_dict.specs.Index.{seen, serials_of, triples_of}
use Rattle.item_dict.proofs.Trees.{get_serials}
use Rattle.item_dict.proofs.Triples.{absent}
use Rattle.item_dict.proofs.Steps.{removes_key}
use Rattle.item_dict.proofs.dict.Dict.del.Goals as goal

pub unreachable-requires : goal.unreachable-requires
unreachable-requires g c =
    let m = c.self.inside.tree in let k = c.args.k in
    let named = get_serials m k ∙ ap (λ z. tree.get int_cmp m z) (sym (to_z-of_z w64 k c.ranges.k)) ∙ sym c.in-Some.ensures.value in
    let f = c.self.invariant.found k c.in-Some.serial named in
    let twice : None ≡ Some _ = sym c.in-Err.ensures.0.0 ∙ f.1 in cc

pub invariant_of-self : goal.invariant_of-self
invariant_of-self g c =
    let m = c.self.inside.tree in let k = c.args.k in let same = to_z-of_z w64 k c.ranges.k in
    let named = get_serials m k ∙ ap (λ z. tree.get int_cmp m z) (sym same) ∙ sym c.in-Some.ensures.value in
    (removes_key c.self.inside c.self.invariant (record { pool = c.remove-in-Some.new.self; tree = c.remove.new.self }) c.in-Some.serial k c.in-Ok.field-0 named c.in-Ok.ensures
    (subst (λ z. tree.Updates int_cmp m c.remove.new.self z None) same c.remove.ensures.updates)).1

pub returns-in-Ok : goal.returns-in-Ok
returns-in-Ok g c =
    let X = g.row.I.Denot in let m = c.self.inside.tree in let k = c.args.k in let same = to_z-of_z w64 k c.ranges.k in
    let named = get_serials m k ∙ ap (λ z. tree.get int_cmp m z) (sym same) ∙ sym c.in-Some.ensures.value in
    let q : Inside X = record { pool = c.remove-in-Some.new.self; tree = c.remove.new.self } in
    let done = (removes_key c.self.inside c.self.invariant q c.in-Some.serial k c.in-Ok.field-0 named c.in-Ok.ensures
    (subst (λ z. tree.Updates int_cmp m c.remove.new.self z None) same c.remove.ensures.updates)).0 in
    (c.in-Some.serial, subst (λ (o : Contents X). Removes o (seen q) c.in-Some.serial k c.in-Ok.field-0.inf) c.self.view_is done)

pub returns-in-None : goal.returns-in-None
returns-in-None g c =
    let X = g.row.I.Denot in let m = c.self.inside.tree in let k = c.args.k in let p = c.self.inside.pool in
    let unnamed = get_serials m k ∙ ap (λ z. tree.get int_cmp m z) (sym (to_z-of_z w64 k c.ranges.k)) ∙ sym c.in-None.ensures.value in
    let none = ap (λ (o : Contents X). map.get o.triples k) (sym c.self.view_is) ∙ absent p.live (serials_of m) c.self.invariant k unnamed in
    (none, (λ i. contents (triples_of p.live (map.from_entries (c.in-None.ensures.unchanged i))) p.made) ∙ c.self.view_is)
