-- The member is one of those that were spare.
use Rattle.std.proofs.Common.{ap, ◌∙◌}
use Rattle.std.specs.FinMap as fin
use Rattle.graph_lists.proofs.Room.{len_more}
use Rattle.graph_lists.proofs.lists.add_member.Goals as goal

pub returns : goal.returns
returns c = record {
  fresh = c.in-Ok.ensures.made.0;
  tags = c.in-Ok.ensures.made.1;
  more = ap fin.len c.in-Ok.ensures.made.1 ∙ len_more c.args.rings.now.tags c.in-Ok.member c.args.tag c.in-Ok.ensures.made.0;
  loose = c.in-Ok.ensures.made.2;
  rings = c.in-Ok.ensures.same.0;
  spare = c.in-Ok.ensures.spare;
  others = c.in-Ok.ensures.same.1;
  apart = c.in-Ok.ensures.apart;
}
