-- No member was made yet.
use Rattle.std.proofs.Common.{◌≡◌, ℕ, arith, ap, ◌∙◌}
use Rattle.std.specs.FinMap as map
use Rattle.std.specs.FinMap.{len-empty}
use Rattle.std.specs.Ordering.{nat_cmp}
use Rattle.item_bench.proofs.memory.fill_rings.Goals as goal

pub loop-tag-init : goal.loop-tag-init
loop-tag-init c =
    let none : map.len c.new-rings.result.tags ≡ 0 = ap map.len c.new-rings.ensures.tags ∙ len-empty nat_cmp ℕ in
    omega (arith, none)
