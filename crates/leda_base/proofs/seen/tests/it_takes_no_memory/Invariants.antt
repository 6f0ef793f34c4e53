-- Any two values.
use Rattle.std.proofs.Common.{replicate}
use Rattle.leda_base.proofs.seen.tests.it_takes_no_memory.Given as goal

abbrev pub ghost-nothing : goal.ghost-nothing
ghost-nothing _ a = replicate 4 0

abbrev pub ghost-becomes : goal.ghost-becomes
ghost-becomes _ a = replicate 4 1
