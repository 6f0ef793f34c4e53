-- All places are emptied before the block is given back.
use Rattle.std.proofs.Common.{◌≡◌, ◌<◌, get_or, set, length, replicate, None, sym, ap, ◌∙◌, arith, add-one}
use Rattle.item_pool.specs.Chained.{blank}
use Rattle.item_pool.specs.Filled.{somes}
use Rattle.item_pool.proofs.Blocks.{emptied_to, emptied_none, emptied_here, emptied_more, emptied_all}
use Rattle.item_pool.proofs.block.Block.drop.Goals as goal

pub loop-index-init : goal.loop-index-init
loop-index-init g c =
    let cells = somes c.self.inside.places.row in
    record { at = c.self.invariant.at; row = c.self.invariant.full ∙ sym (emptied_none cells) }

pub take-value-requires : goal.take-value-requires
take-value-requires g c =
    let cells = somes c.self.inside.places.row in let k = c.loop-index.index in
    let lt : k < length cells = omega (arith, c.self.invariant.long) in
    (sym c.loop-index.invariant.at, (get_or cells k blank, ap (λ r. get_or r k None) c.loop-index.invariant.row ∙ emptied_here k cells blank lt))

pub loop-index-preserved : goal.loop-index-preserved
loop-index-preserved g c =
    let cells = somes c.self.inside.places.row in let k = c.loop-index.index in
    let lt : k < length cells = omega (arith, c.self.invariant.long) in
    record {
      at = c.take-value.ensures.row.0 ∙ c.loop-index.invariant.at;
      row = c.take-value.ensures.row.1 ∙ ap (λ r. set r k None) c.loop-index.invariant.row ∙ emptied_more k cells lt ∙ ap (λ n. emptied_to n cells) (sym (add-one k));
    }

pub deallocate-requires : goal.deallocate-requires
deallocate-requires g c =
    let cells = somes c.self.inside.places.row in let k = c.loop-index.index in
    let all : k ≡ length cells = omega (arith, c.self.invariant.long) in
    (c.loop-index.invariant.at, c.loop-index.invariant.row ∙ ap (λ n. emptied_to n cells) all ∙ emptied_all cells ∙ ap (λ n. replicate n None) c.self.invariant.long, c.self.invariant.deed.0, c.self.invariant.deed.1, c.self.invariant.deed.2)
