use borrow.Author.Differences.{ints}
use mir.Syntax.{w64}
use Rattle.std.proofs.Common.{◌≡◌, ◌<◌, ◌≤◌, ◌-◌, ◌+ℤ◌, ◌-ℤ◌, ◌≤ℤ◌, ℤ, pos, length, set, subst, arith, rules, to_z, of_z, FitsSigned}
use Rattle.graph_defs.specs.Sum.{at}
use Rattle.flow_net.specs.Refusals.{sum_of}
use Rattle.flow_net.specs.Search.{found_at}
use Rattle.flow_net.proofs.Flows.{cap_at_most}
use Rattle.flow_net.proofs.Paths.{path_more, sent}
use Rattle.flow_net.proofs.augmenting.augment.Goals as goal

pub send-requires-clause-front : goal.send-requires-clause-front
send-requires-clause-front c h =
    let queue = c.args.queue.now in
    let x = (found_at queue c.args.place).room in
    let flow = c.loop-at.flow.items in
    let dart = (found_at queue c.loop-at.at).dart in
    let x_fits : FitsSigned w64 x = search rules in
    let long = c.loop-at.invariant.long in
    let caps = c.requires.caps in
    let most = cap_at_most c.args.net.now c.args.s c.args.t c.args.cap.now c.args.flow.now.items dart c.requires.flow caps (omega arith) in
    let sum : sum_of c.args.cap.now ≤ℤ pos 4611686018427387903 = c.requires.sum in
    let all = sent c.args.net.now c.args.t c.args.cap.now c.args.flow.now.items queue x c.loop-at.at flow c.requires.tree c.loop-at-test.true c.loop-at.invariant in
    let s = all.1 h in
    let low = s.0 in
    let high = s.1 in
    omega (arith, ints)

pub send-requires-clause-back : goal.send-requires-clause-back
send-requires-clause-back c h =
    let queue = c.args.queue.now in
    let x = (found_at queue c.args.place).room in
    let flow = c.loop-at.flow.items in
    let dart = (found_at queue c.loop-at.at).dart in
    let x_fits : FitsSigned w64 x = search rules in
    let all = sent c.args.net.now c.args.t c.args.cap.now c.args.flow.now.items queue x c.loop-at.at flow c.requires.tree c.loop-at-test.true c.loop-at.invariant in
    let s = all.2 h in
    let long = c.loop-at.invariant.long in
    let caps = c.requires.caps in
    let below = all.0 in
    let arc = dart - length flow in
    let most = cap_at_most c.args.net.now c.args.s c.args.t c.args.cap.now c.args.flow.now.items arc c.requires.flow caps (omega arith) in
    let sum : sum_of c.args.cap.now ≤ℤ pos 4611686018427387903 = c.requires.sum in
    let low = s.0 in
    let high = s.1 in
    omega (arith, ints)

pub loop-at-preserved : goal.loop-at-preserved
loop-at-preserved c =
    let queue = c.args.queue.now in
    let x = (found_at queue c.args.place).room in
    let flow = c.loop-at.flow.items in
    let flow' = c.send.new.flow.items in
    let dart = (found_at queue c.loop-at.at).dart in
    let x_fits : FitsSigned w64 x = search rules in
    let e : to_z w64 (of_z w64 x) ≡ x = omega (arith, ints) in
    let P : ℤ → Type 0 = λ y. flow' ≡ set flow dart (at flow dart +ℤ y) in
    let Q : ℤ → Type 0 = λ y. flow' ≡ set flow (dart - length flow) (at flow (dart - length flow) -ℤ y) in
    path_more c.args.net.now c.args.t c.args.cap.now c.args.flow.now.items queue x c.loop-at.at flow flow' c.requires.tree c.loop-at-test.true c.loop-at.invariant
    (λ h. subst P e (c.send.ensures.front h)) (λ h. subst Q e (c.send.ensures.back h))
