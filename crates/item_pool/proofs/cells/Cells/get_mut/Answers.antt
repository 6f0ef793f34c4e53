-- The slot lies in its block, at its place, and only that cell changes.
use Rattle.std.proofs.Common.{◌≡◌, ◌<◌, [], get_or, set, length, refl, sym, ap, ◌∙◌, subst, arith, length-set}
use Rattle.item_pool.specs.Chained.{blank}
use Rattle.item_pool.specs.Joined.{joined}
use Rattle.item_pool.proofs.Joins.{any_default, is_block, joined_at, joined_set, block_long, AreBlocks-set}
use Rattle.item_pool.proofs.cells.Cells.get_mut.Goals as goal

pub index_mut-requires : goal.index_mut-requires
index_mut-requires g c =
    let bs = c.self.inside.blocks.items in let at = c.place_of-block in
    let asked : c.args.slot < length (joined bs) = subst (λ s. c.args.slot < length s) (sym c.self.view_is) c.requires in
    omega (arith, is_block 64 bs c.self.invariant c.args.slot at.result.0 at.result.1 at.ensures.0 asked)

pub get_mut-requires : goal.get_mut-requires
get_mut-requires g c =
    let bs = c.self.inside.blocks.items in let at = c.place_of-block in let k = at.result.0 in
    let asked : c.args.slot < length (joined bs) = subst (λ s. c.args.slot < length s) (sym c.self.view_is) c.requires in
    let lt = is_block 64 bs c.self.invariant c.args.slot k at.result.1 at.ensures.0 asked in
    let b = c.index_mut.result.now in
    let block : b ≡ get_or bs k [] = c.index_mut.ensures.value ∙ any_default bs k b [] lt in
    subst (λ n. at.result.1 < n) (sym (ap length block ∙ block_long 64 bs c.self.invariant k lt)) at.ensures.1

pub invariant_of-self-lent : goal.invariant_of-self-lent
invariant_of-self-lent g c = λ w.
    let bs = c.self.inside.blocks.items in let at = c.place_of-block in let k = at.result.0 in let i = at.result.1 in
    let asked : c.args.slot < length (joined bs) = subst (λ s. c.args.slot < length s) (sym c.self.view_is) c.requires in
    let lt = is_block 64 bs c.self.invariant c.args.slot k i at.ensures.0 asked in
    let b = c.index_mut.result.now in
    let block : b ≡ get_or bs k [] = c.index_mut.ensures.value ∙ any_default bs k b [] lt in
    AreBlocks-set 64 bs c.self.invariant k (set b i w) (length-set b i w ∙ ap length block ∙ block_long 64 bs c.self.invariant k lt)

pub returns : goal.returns
returns g c =
    let bs = c.self.inside.blocks.items in let s = c.args.slot in let at = c.place_of-block in let k = at.result.0 in let i = at.result.1 in
    let asked : s < length (joined bs) = subst (λ l. s < length l) (sym c.self.view_is) c.requires in
    let lt = is_block 64 bs c.self.invariant s k i at.ensures.0 asked in
    let b = c.index_mut.result.now in
    let block : b ≡ get_or bs k [] = c.index_mut.ensures.value ∙ any_default bs k b [] lt in (
      (refl, λ w. ap (λ a. joined (set bs k (set a i w))) block ∙ joined_set 64 bs c.self.invariant s k i w at.ensures.0 at.ensures.1 ∙ ap (λ l. set l s w) c.self.view_is),
      record {
        writes_back = tt;
        value = c.get_mut.ensures.value ∙ ap (λ a. get_or a i blank) block ∙ sym (joined_at 64 bs c.self.invariant s k i blank at.ensures.0 at.ensures.1) ∙ ap (λ l. get_or l s blank) c.self.view_is;
      },
    )
