-- The last bits of a number are its rest by a power of two.
use Rattle.std.proofs.Common.{◌-◌, ◌%◌, bit_and, sym, ap, ◌∙◌}
use Rattle.std.proofs.lemmas.Nat.{and_mask}
use Rattle.item_pool.proofs.homes.home_of.Goals as goal

pub returns : goal.returns
returns c = let s = c.args.serial in let e = c.requires.1 in ap (λ n. bit_and s (n - 1)) e ∙ and_mask s c.requires.0 ∙ sym (ap (λ n. s % n) e)
