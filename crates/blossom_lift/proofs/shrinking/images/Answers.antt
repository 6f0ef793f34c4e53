use Rattle.std.proofs.Common.{arith}
use Rattle.blossom_lift.specs.Passes.{marked}
use Rattle.blossom_lift.proofs.Steps.{images_more, rank_more}
use Rattle.blossom_lift.proofs.shrinking.images.Goals as goal

pub loop-is_marked-preserved : goal.loop-is_marked-preserved
loop-is_marked-preserved c =
    let k = c.loop-is_marked.is_marked-index in
    let i = c.loop-is_marked.invariant in
    let r = rank_more (marked c.args.marks.now) k in
    let v = c.outside-next.ensures.value in
    let s = c.outside-next.ensures.small in
    let i0 = i.0 in
    let i1 = i.1 in (
      omega arith,
      omega arith,
      images_more c.args.marks.now k c.args.hub c.loop-is_marked.next c.image.result c.loop-is_marked.images c.push.new.self c.requires.hub i.1 c.image.ensures i.2 c.in_ok-push.ensures.ok,
    )
