use Rattle.std.proofs.Common.{get_or, refl, arith}
use Rattle.sp_check.proofs.ByKind.{stands, stands_finite, kind_low, kind_unreached}
use Rattle.sp_check.proofs.kind.kind_of.Goals as goal

pub returns-then-place-finite : goal.returns-then-place-finite
returns-then-place-finite c =
    let p = get_or c.args.places.now c.args.node 0 in
    let s = stands c.args.net.now c.args.cost.now c.args.a.now c.args.places.now c.args.node p c.requires.placed c.requires.node refl in
    let e = c.finite_count-finite.ensures in
    let t = c.if-place-finite.true in
    (omega arith, stands_finite c.args.a.now c.args.node p s (omega arith))

pub returns-then-later-low_count : goal.returns-then-later-low_count
returns-then-later-low_count c =
    let p = get_or c.args.places.now c.args.node 0 in
    let s = stands c.args.net.now c.args.cost.now c.args.a.now c.args.places.now c.args.node p c.requires.placed c.requires.node refl in
    let t = c.if-later-low_count.true in
    let l = c.low_count.ensures in
    let f = c.if-place-finite.false in
    kind_low c.args.a.now c.args.node p c.finite_count-finite.result c.finite_count-finite.ensures s (omega arith) (omega arith)

pub returns : goal.returns
returns c =
    let p = get_or c.args.places.now c.args.node 0 in
    let s = stands c.args.net.now c.args.cost.now c.args.a.now c.args.places.now c.args.node p c.requires.placed c.requires.node refl in
    let t = c.if-later-low_count.false in
    let l = c.low_count.ensures in
    let f = c.if-place-finite.false in
    kind_unreached c.args.a.now c.args.node p c.finite_count-finite.result c.finite_count-finite.ensures s (omega arith) (omega arith)
