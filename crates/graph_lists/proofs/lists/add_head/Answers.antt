-- The head is one of those that were spare.
use Rattle.std.proofs.Common.{[], ap, ◌∙◌}
use Rattle.std.specs.FinMap as fin
use Rattle.graph_lists.proofs.Room.{len_more}
use Rattle.graph_lists.proofs.lists.add_head.Goals as goal

pub returns : goal.returns
returns c = record {
  fresh = c.in-Ok.ensures.made.0;
  rings = c.in-Ok.ensures.made.1;
  more = ap fin.len c.in-Ok.ensures.made.1 ∙ len_more c.args.rings.now.rings c.in-Ok.head [] c.in-Ok.ensures.made.0;
  loose = c.in-Ok.ensures.same.0;
  tags = c.in-Ok.ensures.same.1;
  spare = c.in-Ok.ensures.spare;
  others = c.in-Ok.ensures.same.2;
  apart = c.in-Ok.ensures.apart;
}
