use Rattle.std.proofs.Common.{ℕ, refl, rules}
use Rattle.std.proofs.lemmas.List.Sorted.{IsNonDecreasingBy-from_sort}
use Rattle.blossom_search.proofs.Sorts.{answer_is}
use Rattle.blossom_search.proofs.maximum.answer.Goals as goal

pub returns : goal.returns
returns c net m t =
    answer_is net c.args.m.edges c.sort_unstable.new.self.items c.args.cover _ c.from_vec.ensures refl
    (search rules) (IsNonDecreasingBy-from_sort (λ (x : ℕ). x) c.sort_unstable.new.self.items c.sort_unstable.ensures.sorted) m t
