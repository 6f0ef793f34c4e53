-- The highest bit tells the block.
use Rattle.std.proofs.Common.{◌≡◌, ◌+◌, ◌-◌, ◌*◌, ◌%◌, ◌^◌, subst, sym, arith}
use Rattle.std.proofs.lemmas.Nat.{one_shl}
use Rattle.item_pool.specs.Joined.{LiesAt}
use Rattle.item_pool.proofs.Joins.{high_bit, lies_at}
use Rattle.item_pool.proofs.cells.place_of.Goals as goal

pub overflow_sub-block : goal.overflow_sub-block
overflow_sub-block c = high_bit (c.args.slot + 64) c.ilog2-power.result (omega arith) c.ilog2-power.ensures.next_power_gt

pub returns : goal.returns
returns c =
    let slot = c.args.slot in let e = c.ilog2-power.result in let ranges = c.ilog2-power.ensures in
    let bit : 1 * 2 ^ e % 2 ^ 64 ≡ 2 ^ e = one_shl e 64 ranges.bound in
    let at = lies_at slot e (high_bit (slot + 64) e (omega arith) ranges.next_power_gt) ranges.power_le ranges.next_power_gt in
    subst (λ b. LiesAt slot (e - 6) (slot + 64 - b)) (sym bit) at
