use Rattle.std.proofs.Common.{ℕ, ◌≤◌, List, All, subst}
use Rattle.kept_answers.proofs.Listed.{all_has}
use Rattle.kept_answers.proofs.lookup.places_of.Goals as goal

pub of_numbers-requires-clause-most : goal.of_numbers-requires-clause-most
of_numbers-requires-clause-most c v i =
    let least : ℕ → Type 0 = λ number. number ≤ c.greatest-most.result in
    all_has least c.args.numbers (subst (λ (numbers : List ℕ). All least numbers) c.as_slice.ensures c.greatest-most.ensures) v i
