-- The tree has the serial of each key.
use Rattle.std.proofs.Common.{Some, sym, ap, ◌∙◌, subst, w64}
use Rattle.std.proofs.lemmas.Int.{to_z-of_z}
use Rattle.std.specs.Ordering.{int_cmp}
use Rattle.std.specs.BTreeMap as tree
use Rattle.std.specs.FinMap as map
use Rattle.item_dict.specs.Contents.{Contents, HasKey}
use Rattle.item_dict.specs.Index.{serials_of}
use Rattle.item_dict.proofs.Trees.{get_serials}
use Rattle.item_dict.proofs.Triples.{absent}
use Rattle.item_dict.proofs.Steps.{has_key}
use Rattle.item_dict.proofs.dict.Dict.lookup.Goals as goal

pub live_item-requires : goal.live_item-requires
live_item-requires g c =
    let m = c.self.inside.tree in let k = c.args.k in
    let named = get_serials m k ∙ ap (λ z. tree.get int_cmp m z) (sym (to_z-of_z w64 k c.ranges.k)) ∙ sym c.in-Some.ensures.value in
    let f = c.self.invariant.found k c.in-Some.serial.now named in (k, f.0, f.1)

pub returns-in-Some : goal.returns-in-Some
returns-in-Some g c =
    let m = c.self.inside.tree in let k = c.args.k in let s = c.live_item.result.serial in
    let named = get_serials m k ∙ ap (λ z. tree.get int_cmp m z) (sym (to_z-of_z w64 k c.ranges.k)) ∙ sym c.in-Some.ensures.value ∙ ap (λ t. Some t) (sym c.live_item.ensures) in
    subst (λ (o : Contents g.row.I.Denot). HasKey o s k) c.self.view_is (has_key c.self.inside c.self.invariant s k named)

pub returns-in-None : goal.returns-in-None
returns-in-None g c =
    let m = c.self.inside.tree in let k = c.args.k in
    let unnamed = get_serials m k ∙ ap (λ z. tree.get int_cmp m z) (sym (to_z-of_z w64 k c.ranges.k)) ∙ sym c.in-None.ensures.value in
    ap (λ (o : Contents g.row.I.Denot). map.get o.triples k) (sym c.self.view_is) ∙ absent c.self.inside.pool.live (serials_of m) c.self.invariant k unnamed
