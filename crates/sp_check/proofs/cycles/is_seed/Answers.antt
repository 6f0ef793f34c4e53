use Rattle.std.proofs.Common.{◌≡◌, ◌↔◌, true, sym, ap, subst}
use Rattle.sp_check.proofs.Steps.{seed_by}
use Rattle.sp_check.proofs.cycles.is_seed.Goals as goal

pub returns-in-Some : goal.returns-in-Some
returns-in-Some c = seed_by c.args.net.now c.args.s c.args.cost.now c.args.a.now c.args.place c.seed_of-seed.result.now c.as_slice.result.now c.as_slice-in-Some.result.now c.in-Some.node c.is_negative_cycle.result
    c.seed_of-seed.ensures c.as_slice.ensures c.as_slice-in-Some.ensures (c.begins_well.ensures.0 c.if-not-begins_well.false) c.in-Some.ensures.0 c.is_negative_cycle.ensures
