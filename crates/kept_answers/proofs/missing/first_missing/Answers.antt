use Rattle.std.proofs.Common.{◌≡◌, ◌<◌, ◌≤◌, ℕ, List, All, false, not, get_or, length, ap, subst, sym, ◌∙◌, arith}
use Rattle.std.specs.Prelude.{find}
use Rattle.graph_defs.specs.Shortest.{listed}
use Rattle.kept_answers.specs.Checked.{is_listed}
use Rattle.kept_answers.proofs.Firsts.{same_found}
use Rattle.kept_answers.proofs.missing.first_missing.Goals as goal

pub returns : goal.returns
returns c =
    let nodes = c.args.nodes.now in
    let told = listed c.args.answer.now in
    let marks = c.in_ok-marks.marks.items in
    let long = c.in_ok-marks.ensures.long in
    let least = subst (λ (ns : List ℕ). All (λ v. v ≤ c.greatest.result) ns) c.numbers.ensures c.greatest.ensures in
    c.first_unmarked.ensures
    ∙ ap (λ (ns : List ℕ). find (λ v. not (get_or c.as_slice-2.result.now v false)) ns) c.numbers-2.ensures
    ∙ ap (λ ms. find (λ v. not (get_or ms v false)) nodes) c.as_slice-2.ensures.value
    ∙ same_found (λ v. not (get_or marks v false)) (λ v. not (is_listed v told)) nodes
    (λ k d within. ap not
    (c.in_ok-marks.ensures.marks (get_or nodes k d) (let low = least k d within in omega (arith, low, long))
    ∙ ap (is_listed (get_or nodes k d)) (c.as_slice.ensures ∙ c.in_ok-told.ensures)))
