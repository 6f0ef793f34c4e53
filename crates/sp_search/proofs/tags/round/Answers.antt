use Rattle.std.proofs.Common.{◌+◌, ◌<◌, Bool, List, length, sym, ap, subst, arith}
use Rattle.graph_defs.specs.Net.{Ends}
use Rattle.sp_search.proofs.Falls.{IsInRound, round_falls, round_stays}
use Rattle.sp_search.proofs.tags.round.Goals as goal
use Rattle.sp_search.proofs.tags.round.Goals.{then-relax, else-relax}

pub loop-arc-preserved : goal.loop-arc-preserved
loop-arc-preserved c =
    let k = c.loop-arc.arc in
    let l : k < length c.args.net.now.arcs = omega (arith, ap (λ (xs : List Ends). length xs) c.as_slice-arc-end.ensures) in
    let P : Bool → Type 0 = λ b. IsInRound c.args.net.now c.args.cost.now c.args.shut.now (k + 1) b c.args.tags.now.items c.relax.new.tags.items in
    elim c.if-relax.branch [
      | then-relax w ↦ subst P (sym w.falls-is)
          (round_falls c.args.net.now c.args.cost.now c.args.shut.now k c.loop-arc.falls c.args.tags.now.items c.loop-arc.tags.items c.requires.priced l c.loop-arc.invariant c.relax.new.tags.items w.if-relax.ensures)
      | else-relax w ↦ subst P (sym w.falls-is)
          (round_stays c.args.net.now c.args.cost.now c.args.shut.now k c.loop-arc.falls c.args.tags.now.items c.loop-arc.tags.items c.requires.priced l c.loop-arc.invariant c.relax.new.tags.items w.if-relax.ensures)
    ]
