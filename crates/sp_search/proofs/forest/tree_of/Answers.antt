use Rattle.std.proofs.Common.{Bool, List, length, sym, subst}
use Rattle.sp_search.specs.Forest.{AreLastArcs}
use Rattle.sp_search.proofs.Climbs.{first_is, tree_is}
use Rattle.sp_search.proofs.forest.tree_of.Goals as goal

pub spread-requires-clause-finding : goal.spread-requires-clause-finding
spread-requires-clause-finding c =
    first_is c.args.net.now c.as_slice.result.now c.args.s c.is_root.result c.in_ok-finding.finding.queue.items c.in_ok-finding.finding.marks.items c.requires.s
    c.in_ok-finding.ensures.queue c.in_ok-finding.ensures.marks

pub returns : goal.returns
returns c =
    let P : List Bool → Type 0 = λ xs. AreLastArcs c.args.net.now c.args.tags.now (length c.args.net.now.arcs) xs in
    tree_is c.args.net.now c.args.s c.args.tags.now c.as_slice.result.now c.is_root.result c.in_ok-finding.finding.queue.items c.in_ok-finding.finding.marks.items
    c.spread.new.self.queue.items c.spread.new.self.marks.items c.requires.s c.is_root.ensures c.in_ok-finding.ensures.queue c.in_ok-finding.ensures.marks
    (subst P (sym c.as_slice.ensures.value) c.in_ok-opened.ensures) c.in_ok-spread.ensures.finding c.in_ok-spread.ensures.grown c.in_ok-spread.ensures.closed
