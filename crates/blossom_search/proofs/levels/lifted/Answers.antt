use Rattle.std.proofs.Common.{◌≢◌, ℕ, List, get_or, sym, subst}
use Rattle.blossom_lift.specs.Contraction.{IsLiftedCover}
use Rattle.blossom_search.specs.declared.found.Outcome.{Outcome}
use Rattle.blossom_search.specs.Forest.{IsOutcome}
use Rattle.blossom_search.proofs.Shrinks.{hub_not_one, tight_lifted}
use Rattle.blossom_search.proofs.levels.lifted.Goals as goal

pub lift_cover-requires-clause-hub : goal.lift_cover-requires-clause-hub
lift_cover-requires-clause-hub c =
    let s = c.args.shrunk.now in
    let P : Outcome → Type 0 = λ o. IsOutcome s.level.net s.level.matching.edges o in
    let t = subst P c.in-Cover.is c.requires.outcome in
    subst (λ (xs : List ℕ). get_or xs s.level.hub 0 ≢ 1) (sym c.as_slice-in-Cover.ensures) (hub_not_one c.args.net.now c.args.m.now.edges s c.in-Cover.cover c.requires.shrunk t)

pub returns-in_ok-larger-in-Cover : goal.returns-in_ok-larger-in-Cover
returns-in_ok-larger-in-Cover c =
    let s = c.args.shrunk.now in
    let P : Outcome → Type 0 = λ o. IsOutcome s.level.net s.level.matching.edges o in
    let Q : List ℕ → Type 0 = λ xs. IsLiftedCover c.args.net.now s.blossom xs c.in_ok-larger-in-Cover.larger in
    let t = subst P c.in-Cover.is c.requires.outcome in
    tight_lifted c.args.net.now c.args.m.now.edges s c.in-Cover.cover c.in_ok-larger-in-Cover.larger c.requires.valid c.requires.matching c.requires.shrunk t (subst Q c.as_slice-in-Cover.ensures c.in_ok-larger-in-Cover.ensures)
