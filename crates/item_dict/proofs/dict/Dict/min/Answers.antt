-- The tree has the least key.
use Rattle.std.proofs.Common.{Some, sym, ap, ◌∙◌, subst}
use Rattle.item_dict.specs.Contents.{Contents, HasKey}
use Rattle.item_dict.specs.Index.{seen, serials_of, IsNamed}
use Rattle.item_dict.specs.Order.{IsLeast}
use Rattle.item_dict.proofs.Ordered.{least_in}
use Rattle.item_dict.proofs.Steps.{alike}
use Rattle.item_dict.proofs.Trees.{get_serials, serials_empty, is_least}
use Rattle.item_dict.proofs.Triples.{triples_empty}
use Rattle.item_dict.proofs.dict.Dict.min.Goals as goal

pub live_item-requires : goal.live_item-requires
live_item-requires g c =
    let k = c.in-Some.field-0-0.now in
    let f = c.self.invariant.found k c.in-Some.serial.now (get_serials c.self.inside.tree k ∙ c.in-Some.ensures.value) in (k, f.0, f.1)

pub returns-in-Some : goal.returns-in-Some
returns-in-Some g c =
    let d = c.self.inside in let k = c.in-Some.field-0-0.now in let s = c.live_item.result.serial in
    let named = c.in-Some.ensures.value ∙ ap (λ t. Some t) (sym c.live_item.ensures) in
    let least = least_in (IsNamed d.tree) (HasKey (seen d)) (alike d c.self.invariant) s k (is_least d.tree s k named c.in-Some.ensures.least) in
    (k, subst (λ (o : Contents g.row.I.Denot). IsLeast (HasKey o) s k) c.self.view_is least)

pub returns-in-None : goal.returns-in-None
returns-in-None g c =
    let d = c.self.inside in
    ap (λ (o : Contents g.row.I.Denot). o.triples) (sym c.self.view_is) ∙ triples_empty d.pool.live (serials_of d.tree) (serials_empty d.tree c.in-None.ensures.variant.1)
