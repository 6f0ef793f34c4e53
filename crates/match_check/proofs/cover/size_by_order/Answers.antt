use Rattle.std.proofs.Common.{◌≡◌, List, ℕ, sym, subst, ◌∙◌, ap, rules}
use Rattle.std.specs.List.Sorted.{IsNonDecreasing, IsPermutation}
use Rattle.std.proofs.lemmas.List.Sorted.{IsNonDecreasingBy-from_sort}
use Rattle.graph_defs.specs.Matching.{cover_size}
use Rattle.match_check.proofs.Halves.{size_moved}
use Rattle.match_check.proofs.cover.size_by_order.Goals as goal

pub size_of_runs-requires-clause-sorted : goal.size_of_runs-requires-clause-sorted
size_of_runs-requires-clause-sorted c =
    let P : List ℕ → Type 0 = λ xs. IsNonDecreasing xs in
    subst P (sym c.as_slice.ensures.value) (IsNonDecreasingBy-from_sort (λ (x : ℕ). x) c.sort_unstable.new.self.items c.sort_unstable.ensures.sorted)

pub returns : goal.returns
returns c =
    let same : c.in_ok-sorted.sorted.items ≡ c.args.labels.now = search rules in
    let P : List ℕ → Type 0 = λ xs. IsPermutation xs c.sort_unstable.new.self.items in
    c.size_of_runs.ensures ∙ ap cover_size c.as_slice.ensures.value
    ∙ size_moved c.args.labels.now c.sort_unstable.new.self.items (subst P same c.sort_unstable.ensures.permutation)
