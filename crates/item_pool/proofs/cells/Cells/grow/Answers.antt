-- A block more, twice as long as the one before.
use Rattle.std.proofs.Common.{◌≡◌, ◌+◌, [], ◌∷◌, ◌++◌, sym, ap, ◌∙◌, subst, length}
use Rattle.item_pool.specs.Chained.{chained}
use Rattle.item_pool.specs.Joined.{block_size, joined, AreBlocks}
use Rattle.item_pool.proofs.Blocks.{length-chained}
use Rattle.item_pool.proofs.Joins.{joined-push, length-joined, AreBlocks-push}
use Rattle.item_pool.proofs.cells.Cells.grow.Goals as goal

pub invariant_of-self-2 : goal.invariant_of-self-2
invariant_of-self-2 g c =
    let bs = c.self.inside.blocks.items in let b = c.in_ok-block.block in let n = c.args.len in
    let pushed = c.in-Ok.ensures.items ∙ ap (λ l. l ++ b ∷ []) c.in_ok-reserve.ensures.items in
    let counted : n ≡ length (joined bs) = c.requires.len ∙ ap length (sym c.self.view_is) in
    let size : n + 64 ≡ block_size 64 (length bs) = ap (λ k. k + 64) counted ∙ length-joined 64 bs c.self.invariant in
    let long = ap length c.in_ok-block.ensures ∙ length-chained _ (n + 64) n c.args.free c.args.next ∙ size in
    subst (AreBlocks 64) (sym pushed) (AreBlocks-push 64 bs c.self.invariant b long)

pub returns-clause-ok : goal.returns-clause-ok
returns-clause-ok g c =
    let bs = c.self.inside.blocks.items in let b = c.in_ok-block.block in let n = c.args.len in
    let pushed = c.in-Ok.ensures.items ∙ ap (λ l. l ++ b ∷ []) c.in_ok-reserve.ensures.items in
    ap joined pushed ∙ joined-push bs b ∙ ap (λ l. joined bs ++ l) c.in_ok-block.ensures ∙ ap (λ l. l ++ chained (n + 64) n c.args.free c.args.next) c.self.view_is
