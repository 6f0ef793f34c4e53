use Rattle.std.proofs.Common.{rules}
use Rattle.leda_edge.proofs.Taken.{Appends-part, within_piece}
use Rattle.leda_edge.proofs.put.put_all.Goals as goal

pub loop-taken-preserved : goal.loop-taken-preserved
loop-taken-preserved g c = record {
  within = within_piece c.args.piece.now c.loop-taken.taken c.in_ok-taken.field-0
      c.loop-taken.invariant.within c.in_ok-taken.ensures.bound;
  held = Appends-part _ _ _ c.args.piece.now c.loop-taken.taken c.in_ok-taken.field-0
      c.loop-taken.invariant.held c.in_ok-taken.ensures.bytes;
  told = search rules;
  later = search rules;
  nothing = search rules;
}
