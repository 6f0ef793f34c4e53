-- Each place of a block holds its cell, and the lent one comes back.
use Rattle.std.proofs.Common.{◌<◌, length, sym, ap, ◌∙◌, subst, get_or, set, ◌≡◌, Some, refl, length-set}
use Rattle.item_pool.specs.Chained.{blank}
use Rattle.item_pool.specs.Filled.{somes}
use Rattle.item_pool.proofs.Blocks.{is_filled, some_at, somes-set, full-set}
use Rattle.item_pool.proofs.block.Block.get_mut.Goals as goal

pub get_mut-requires : goal.get_mut-requires
get_mut-requires g c =
    let row = c.self.inside.places.row in let lt : c.args.index < length (somes row) = subst (λ s. c.args.index < length s) (sym c.self.view_is) c.requires in
    (sym c.self.invariant.at, is_filled row c.self.invariant.full c.args.index blank lt)

pub invariant_of-self-lent : goal.invariant_of-self-lent
invariant_of-self-lent g c = λ w.
    let row = c.self.inside.places.row in let full = c.self.invariant.full in let i = c.args.index in
    record {
      at = c.self.invariant.at;
      deed = c.self.invariant.deed;
      full = full-set row full i w;
      long = ap length (somes-set row full i w) ∙ length-set (somes row) i w ∙ c.self.invariant.long;
    }

pub returns : goal.returns
returns g c =
    let row = c.self.inside.places.row in let full = c.self.invariant.full in let i = c.args.index in
    let lt : i < length (somes row) = subst (λ s. i < length s) (sym c.self.view_is) c.requires in
    let e : Some c.get_mut.result.now ≡ Some (get_or (somes row) i blank) = sym c.get_mut.ensures.value ∙ some_at row full i blank lt in (
      (refl, λ w. somes-set row full i w ∙ ap (λ s. set s i w) c.self.view_is),
      record { writes_back = tt; value = subst (λ s. c.get_mut.result.now ≡ get_or s i blank) c.self.view_is (cc e) },
    )
