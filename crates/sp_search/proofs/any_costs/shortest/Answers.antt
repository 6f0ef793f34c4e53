use Rattle.sp_search.proofs.Wholes.{wide_is}
use Rattle.sp_search.proofs.any_costs.shortest.Goals as goal

pub answer_of-requires-clause-wide : goal.answer_of-requires-clause-wide
answer_of-requires-clause-wide c = wide_is c.args.net.now c.requires.valid
