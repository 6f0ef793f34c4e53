use Rattle.std.proofs.Common.{List, ℕ, sym, subst, arith}
use Rattle.match_core.specs.Path.{IsAugmenting}
use Rattle.blossom_search.specs.declared.found.Outcome.{Outcome}
use Rattle.blossom_search.specs.Forest.{IsTight, IsOutcome}
use Rattle.blossom_search.proofs.Sizes.{few_edges}
use Rattle.blossom_search.proofs.maximum.max_matching.Goals as goal

pub augment-requires-clause-path : goal.augment-requires-clause-path
augment-requires-clause-path c =
    let h : IsAugmenting c.args.net.now c.loop-m.m.edges c.in-Path.path = subst (λ (outcome : Outcome). IsOutcome c.args.net.now c.loop-m.m.edges outcome) c.in-Path.is c.in_ok-path.ensures in
    subst (λ (path : List ℕ). IsAugmenting c.args.net.now c.loop-m.m.edges path) (sym c.as_slice.ensures) h

pub loop-m-smaller : goal.loop-m-smaller
loop-m-smaller c =
    let larger = c.in_ok-m-in-Path.ensures in
    let few = few_edges c.args.net.now c.in_ok-m-in-Path.m.edges c.requires larger.matching in
    let longer = larger.longer in
    omega arith

pub returns-in-Cover : goal.returns-in-Cover
returns-in-Cover c =
    let h : IsTight c.args.net.now c.loop-m.m.edges c.in-Cover.cover = subst (λ (outcome : Outcome). IsOutcome c.args.net.now c.loop-m.m.edges outcome) c.in-Cover.is c.in_ok-path.ensures in
    c.answer.ensures c.args.net.now c.loop-m.invariant h
