use borrow.Author.Differences.{ints}
use Rattle.std.proofs.Common.{arith}
use Rattle.sp_check.proofs.paths.is_at_most.Goals as goal

pub returns : goal.returns
returns c = (λ t. grind (arith, ints), λ h. grind (arith, ints))
