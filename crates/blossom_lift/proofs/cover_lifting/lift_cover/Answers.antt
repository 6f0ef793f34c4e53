use Rattle.std.proofs.Common.{refl, arith}
use Rattle.std.proofs.lemmas.Result.{IfOk-weaker}
use Rattle.blossom_lift.proofs.Steps.{contracted_valid, images_below, cover_made}
use Rattle.blossom_lift.proofs.cover_lifting.lift_cover.Goals as goal

pub label_for-requires-clause-few : goal.label_for-requires-clause-few
label_for-requires-clause-few c =
    let l = c.requires.level in
    let v = contracted_valid c.args.net.now c.args.small.now.net l.edges c.args.small.now.matching.edges c.args.b.now.nodes c.args.b.now.edges c.requires.valid l.cycle l.level_of.contracted in
    let n = v.limits.nodes in
    let k = c.requires.cover.long in
    omega arith

pub labels-requires : goal.labels-requires
labels-requires c =
    let l = c.requires.level in
    images_below c.args.net.now c.args.small.now.net l.edges c.args.small.now.matching.edges c.args.b.now.nodes c.args.b.now.edges c.args.small.now.image c.args.cover.now c.as_slice.result.now
    c.requires.valid l.cycle l.level_of.contracted l.level_of.images c.requires.cover.long c.as_slice.ensures

pub returns : goal.returns
returns c =
    let l = c.requires.level in
    IfOk-weaker c.labels.result _ _ (λ lifted e. cover_made c.args.net.now c.args.b.now c.args.small.now c.args.b.now.nodes c.args.b.now.edges c.args.cover.now c.as_slice.result.now lifted c.in_ok-label.label
    c.requires.valid l refl l.cycle c.requires.cover c.in_ok-label.ensures c.as_slice.ensures e) c.labels.ensures
