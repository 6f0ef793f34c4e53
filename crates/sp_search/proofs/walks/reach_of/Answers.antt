use Rattle.std.proofs.Common.{true}
use Rattle.sp_search.proofs.Climbs.{first_is}
use Rattle.sp_search.proofs.Reaches.{reach_is}
use Rattle.sp_search.proofs.walks.reach_of.Goals as goal

pub spread-requires-clause-finding : goal.spread-requires-clause-finding
spread-requires-clause-finding c =
    first_is c.args.net.now c.args.opened.now c.args.s true c.in_ok-finding.finding.queue.items c.in_ok-finding.finding.marks.items c.requires.s
    c.in_ok-finding.ensures.queue c.in_ok-finding.ensures.marks

pub returns : goal.returns
returns c =
    reach_is c.args.net.now c.args.opened.now c.args.s c.in_ok-finding.finding.queue.items c.in_ok-finding.finding.marks.items c.spread.new.self.queue.items c.spread.new.self.marks.items
    c.requires.s c.in_ok-finding.ensures.queue c.in_ok-finding.ensures.marks c.in_ok-spread.ensures.finding c.in_ok-spread.ensures.grown c.in_ok-spread.ensures.closed
