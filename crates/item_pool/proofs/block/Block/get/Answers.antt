-- Each place of a block holds its cell.
use Rattle.std.proofs.Common.{◌<◌, length, sym, ◌∙◌, subst, get_or, ◌≡◌, Some}
use Rattle.item_pool.specs.Chained.{blank}
use Rattle.item_pool.specs.Filled.{somes}
use Rattle.item_pool.proofs.Blocks.{is_filled, some_at}
use Rattle.item_pool.proofs.block.Block.get.Goals as goal

pub get-requires : goal.get-requires
get-requires g c =
    let row = c.self.inside.places.row in let lt : c.args.index < length (somes row) = subst (λ s. c.args.index < length s) (sym c.self.view_is) c.requires in
    (sym c.self.invariant.at, is_filled row c.self.invariant.full c.args.index blank lt)

pub returns : goal.returns
returns g c =
    let row = c.self.inside.places.row in let lt : c.args.index < length (somes row) = subst (λ s. c.args.index < length s) (sym c.self.view_is) c.requires in
    let e : Some c.get.result.now ≡ Some (get_or (somes row) c.args.index blank) = sym c.get.ensures ∙ some_at row c.self.invariant.full c.args.index blank lt in
    subst (λ s. c.get.result.now ≡ get_or s c.args.index blank) c.self.view_is (cc e)
