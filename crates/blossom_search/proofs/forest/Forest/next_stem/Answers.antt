use Rattle.std.proofs.Common.{◌≡◌, ℕ, ◌+◌, List, [], ◌∷◌, ◌++◌, length, refl, arith}
use Rattle.std.specs.Prelude.{Option, Some, None, MatchOption, option_to_list}
use Rattle.blossom_search.specs.declared.stem.Stem.{Stem}
use Rattle.blossom_search.proofs.forest.Forest.next_stem.Goals as goal

last_of : (old new : List Stem) (k j : ℕ) (last : Option Stem) → k ≡ length old → old ≡ new ++ option_to_list last → MatchOption last ((k ≡ 0) × (j ≡ 0)) (λ s. j + 1 ≡ k)
    → MatchOption last (old ≡ []) (λ s. old ≡ new ++ s ∷ [])
last_of old new k j (Some s) l e h = e
last_of [] new k j None l e h = refl
last_of (s ∷ old) new k j None l e h = (let z = h.0 in absurd (omega arith))

pub returns-clause-waiting : goal.returns-clause-waiting
returns-clause-waiting c = last_of c.args.self.now.waiting.items c.pop.new.self.items _ _ c.pop.result (omega (arith, c.args.self.now.waiting.ok.0)) c.pop.ensures.items c.pop.ensures.cases
