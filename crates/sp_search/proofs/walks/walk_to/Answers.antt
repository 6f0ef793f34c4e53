use Rattle.std.proofs.Common.{◌<◌, refl, arith}
use Rattle.sp_search.specs.Finding.{found_at}
use Rattle.sp_search.proofs.Reaches.{walk_start, walk_more, walk_whole}
use Rattle.sp_search.proofs.walks.walk_to.Goals as goal

pub loop-arc-init : goal.loop-arc-init
loop-arc-init c =
    let p = c.place_of-at.ensures in
    (p.0, walk_start c.args.queue.now c.place_of-at.result c.args.node c.new-arcs.result.items p.1 c.new-arcs.ensures.items)

pub loop-arc-preserved : goal.loop-arc-preserved
loop-arc-preserved c =
    let queue = c.args.queue.now in
    let at = c.loop-arc.at in
    let h = c.loop-arc.invariant.0 in
    let b : (found_at queue at).before < at = c.requires.behind at c.in-Some.arc h c.in-Some.ensures in
    (omega (arith, h), walk_more queue at _ c.args.node c.in-Some.arc c.loop-arc.arcs.items c.push.new.self.items h c.in-Some.ensures refl c.in_ok-push.ensures.items c.loop-arc.invariant.1)

pub returns : goal.returns
returns c =
    walk_whole c.args.queue.now c.loop-arc.at c.args.node c.loop-arc.arcs.items c.as_mut_slice.result.now c.reverse.new.self c.from_vec.result c.loop-arc.arcs.len
    c.as_mut_slice.ensures.value c.as_mut_slice.ensures.len c.reverse.ensures.after c.reverse.ensures.len c.from_vec.ensures c.loop-arc.invariant.0 c.in_default.ensures c.loop-arc.invariant.1
