-- The slot lies in its block, at its place.
use Rattle.std.proofs.Common.{◌≡◌, ◌<◌, [], get_or, length, sym, ap, ◌∙◌, subst, arith}
use Rattle.item_pool.specs.Chained.{blank}
use Rattle.item_pool.specs.Joined.{joined}
use Rattle.item_pool.proofs.Joins.{any_default, is_block, joined_at, block_long}
use Rattle.item_pool.proofs.cells.Cells.get.Goals as goal

pub index-requires : goal.index-requires
index-requires g c =
    let bs = c.self.inside.blocks.items in let at = c.place_of-block in
    let asked : c.args.slot < length (joined bs) = subst (λ s. c.args.slot < length s) (sym c.self.view_is) c.requires in
    omega (arith, is_block 64 bs c.self.invariant c.args.slot at.result.0 at.result.1 at.ensures.0 asked)

pub get-requires : goal.get-requires
get-requires g c =
    let bs = c.self.inside.blocks.items in let at = c.place_of-block in let k = at.result.0 in
    let asked : c.args.slot < length (joined bs) = subst (λ s. c.args.slot < length s) (sym c.self.view_is) c.requires in
    let lt = is_block 64 bs c.self.invariant c.args.slot k at.result.1 at.ensures.0 asked in
    let block : c.index.result.now ≡ get_or bs k [] = c.index.ensures ∙ any_default bs k c.index.result.now [] lt in
    subst (λ n. at.result.1 < n) (sym (ap length block ∙ block_long 64 bs c.self.invariant k lt)) at.ensures.1

pub returns : goal.returns
returns g c =
    let bs = c.self.inside.blocks.items in let s = c.args.slot in let at = c.place_of-block in let k = at.result.0 in let i = at.result.1 in
    let asked : s < length (joined bs) = subst (λ l. s < length l) (sym c.self.view_is) c.requires in
    let lt = is_block 64 bs c.self.invariant s k i at.ensures.0 asked in
    let block : c.index.result.now ≡ get_or bs k [] = c.index.ensures ∙ any_default bs k c.index.result.now [] lt in
    c.get.ensures ∙ ap (λ b. get_or b i blank) block ∙ sym (joined_at 64 bs c.self.invariant s k i blank at.ensures.0 at.ensures.1) ∙ ap (λ l. get_or l s blank) c.self.view_is
