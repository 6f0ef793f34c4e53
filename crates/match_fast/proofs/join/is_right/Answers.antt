use Rattle.std.proofs.Common.{◌≡◌, false, true, refl, sym, subst, rules}
use Rattle.std.proofs.lemmas.Bool.{true≢false}
use Rattle.graph_defs.specs.declared.verdict.Verdict.{Verdict}
use Rattle.graph_defs.specs.Matching.{MatchHolds, match_order}
use Rattle.graph_defs.specs.Verdict.{IsVerdict}
use Rattle.match_fast.proofs.Right.{right, all_hold, holds_or_broken}
use Rattle.match_fast.proofs.join.is_right.Goals as goal

pub returns-in-Yes : goal.returns-in-Yes
returns-in-Yes c =
    let P : Verdict → Type 0 = λ v. IsVerdict (MatchHolds c.args.net.now c.args.answer.now) match_order v in (
      λ t. right c.args.net.now c.args.answer.now (search rules) (subst P c.in-Yes.is c.in_ok-check_matching.ensures),
      λ m. refl,
    )

pub returns-in-No : goal.returns-in-No
returns-in-No c =
    let P : Verdict → Type 0 = λ v. IsVerdict (MatchHolds c.args.net.now c.args.answer.now) match_order v in (
      λ t. absurd (true≢false (sym t)),
      λ m. absurd (holds_or_broken (MatchHolds c.args.net.now c.args.answer.now) match_order c.in-No.cond c.in-No.place
          (all_hold c.args.net.now c.args.answer.now m) (subst P c.in-No.is c.in_ok-check_matching.ensures)),
    )
