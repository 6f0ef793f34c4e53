use borrow.Author.Differences.{ints}
use Rattle.std.proofs.Common.{arith}
use Rattle.sp_check.proofs.paths.is_difference.Goals as goal

pub returns : goal.returns
returns c = (λ t. let l = c.is_at_most.ensures.0 t in grind (arith, ints), λ h. c.is_at_most.ensures.1 (grind (arith, ints)))
