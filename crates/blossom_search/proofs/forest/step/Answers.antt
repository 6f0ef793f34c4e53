use Rattle.std.proofs.Common.{ℕ, ◌≡◌, List, length, subst, ap, arith}
use Rattle.blossom_lift.proofs.Views.{joins_below}
use Rattle.blossom_search.specs.Forest.{IsEvenPlace}
use Rattle.blossom_search.proofs.Forests.{stem_lengths, path_found, flower_found, spread_none, spread_reached}
use Rattle.blossom_search.proofs.forest.step.Goals as goal

pub returns-in_default : goal.returns-in_default
returns-in_default c = spread_none c.args.net.now c.args.m.now.edges c.args.stem.now c.args.arc c.args.forest.now c.requires.forest c.in_default.ensures

pub blossom-requires-clause-edges : goal.blossom-requires-clause-edges
blossom-requires-clause-edges c =
    let l = stem_lengths c.args.net.now c.args.m.now.edges c.args.forest.now.evens.items c.args.stem.now c.requires.stem in
    let s : length c.as_slice.result.now ≡ length c.args.stem.now.nodes = ap length c.as_slice.ensures in
    let w = c.in-Some-half_of.ensures.within in
    omega arith

pub returns-in-Some-half_of : goal.returns-in-Some-half_of
returns-in-Some-half_of c =
    flower_found c.args.net.now c.args.m.now.edges c.args.forest.now.evens.items c.args.stem.now c.args.arc c.in-Some.node c.in-Some-half_of.half c.in_ok-blossom.blossom c.requires.stem c.in-Some.ensures
    (subst (λ (nodes : List ℕ). IsEvenPlace nodes c.in-Some.node c.in-Some-half_of.half) c.as_slice.ensures c.in-Some-half_of.ensures)
    c.in_ok-blossom.ensures.nodes c.in_ok-blossom.ensures.edges

pub returns-in_default-mate_of : goal.returns-in_default-mate_of
returns-in_default-mate_of c =
    path_found c.args.net.now c.args.m.now.edges c.args.forest.now.evens.items c.args.stem.now c.args.arc c.in-Some.node c.in_ok-path.path c.requires.matching c.requires.stem c.in-Some.ensures c.in_default-mate_of.ensures
    (subst (λ (nodes : List ℕ). (half : ℕ) → IsEvenPlace nodes c.in-Some.node half → ⊥) c.as_slice.ensures c.in_default-half_of.ensures)
    c.in_ok-path.ensures

pub returns : goal.returns
returns c =
    let net = c.args.net.now in
    let mate = c.in-Some-mate_of.mate in
    let near = joins_below net c.args.arc c.args.stem.now.end c.in-Some.node c.requires.valid.ends c.in-Some.ensures in
    let far = joins_below net mate.edge c.in-Some.node mate.end c.requires.valid.ends c.in-Some-mate_of.ensures.joins in
    spread_reached net c.args.m.now.edges c.args.stem.now c.args.arc c.in-Some.node mate c.args.forest.now c.reach.new.self c.requires.matching c.requires.stem c.in-Some.ensures c.in-Some-mate_of.ensures near.1 far.1
    (subst (λ (nodes : List ℕ). (half : ℕ) → IsEvenPlace nodes c.in-Some.node half → ⊥) c.as_slice.ensures c.in_default-half_of.ensures) c.requires.forest
    (record { odds = c.in_ok-reach.ensures.odds; known = c.in_ok-reach.ensures.known; fresh = c.in_ok-reach.ensures.fresh })
