-- The cell of a new block at the index.
use Rattle.std.proofs.Common.{◌≡◌, ◌+◌, ◌-◌, get_or, sym, ◌∙◌, arith}
use Rattle.item_pool.specs.Chained.{blank, chained}
use Rattle.item_pool.specs.declared.block.Cell.{Cell}
use Rattle.item_pool.proofs.Blocks.{chained_value, chained_number, chained_link, chained_last}
use Rattle.item_pool.proofs.block.free_cell.Goals.{then-index-len, else-index-len}
use Rattle.item_pool.proofs.block.free_cell.Goals as goal

pub returns : goal.returns
returns g c =
    let X = g.row.T.Denot in let len = c.args.len in let base = c.args.base in let free = c.args.free in let next = c.args.next in let k = c.args.index in
    let cell : Cell X = get_or (chained len base free next) k blank in
    let number : free + (len - k) ≡ cell.number = sym (chained_number X len base free next k c.requires.index) in
    let link : c.if-index-len.link ≡ cell.link =
    elim c.if-index-len.branch [
      | then-index-len w ↦ w.link-is ∙ sym (chained_last X len base free next k (omega arith))
      | else-index-len w ↦ omega (arith, chained_link X len base free next k (omega arith))
    ] in
    λ i. record { number = number i; link = link i; value = sym (chained_value X len base free next k) i }
