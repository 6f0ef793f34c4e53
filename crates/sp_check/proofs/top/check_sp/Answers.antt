use Rattle.std.proofs.Common.{◌≡◌, List, ℕ, sym, subst, ◌∙◌}
use Rattle.graph_defs.specs.Shortest.{AreBelow}
use Rattle.sp_check.proofs.Steps.{listed_below}
use Rattle.sp_check.proofs.top.check_sp.Goals as goal

pub first_not_once-requires-clause-below : goal.first_not_once-requires-clause-below
first_not_once-requires-clause-below c =
    let P : List ℕ → Type 0 = λ xs. AreBelow c.args.net.now.n xs in
    subst P (sym (c.as_slice.ensures.value ∙ c.in_ok-nodes.ensures)) (listed_below c.args.net.now c.args.a.now (c.is_in_range.ensures.0 c.if-not-is_in_range.false))

pub places_of-requires-clause-below : goal.places_of-requires-clause-below
places_of-requires-clause-below c =
    let P : List ℕ → Type 0 = λ xs. AreBelow c.args.net.now.n xs in
    subst P (sym (c.as_slice-2.ensures.value ∙ c.in_ok-nodes.ensures)) (listed_below c.args.net.now c.args.a.now (c.is_in_range.ensures.0 c.if-not-is_in_range.false))
