use Rattle.std.proofs.Common.{refl, sym, subst, rules}
use Rattle.std.proofs.lemmas.Bool.{true≢false}
use Rattle.graph_defs.specs.declared.verdict.Verdict.{Verdict}
use Rattle.graph_defs.specs.Flow.{FlowHolds, flow_order}
use Rattle.graph_defs.specs.Verdict.{IsVerdict}
use Rattle.flow_preflow.proofs.Right.{right, all_hold, holds_or_broken}
use Rattle.flow_preflow.proofs.join.is_right.Goals as goal

pub returns-in-Yes : goal.returns-in-Yes
returns-in-Yes c =
    let net = c.args.net.now in
    let P : Verdict → Type 0 = λ v. IsVerdict (FlowHolds net c.args.s c.args.t c.args.cap.now c.args.answer.now) flow_order v in (
      λ t. right net c.args.s c.args.t c.args.cap.now c.args.answer.now (search rules) (subst P c.in-Yes.is c.in_ok-check_flow.ensures),
      λ m. refl,
    )

pub returns-in-No : goal.returns-in-No
returns-in-No c =
    let net = c.args.net.now in
    let P : Verdict → Type 0 = λ v. IsVerdict (FlowHolds net c.args.s c.args.t c.args.cap.now c.args.answer.now) flow_order v in (
      λ t. absurd (true≢false (sym t)),
      λ m. absurd (holds_or_broken (FlowHolds net c.args.s c.args.t c.args.cap.now c.args.answer.now) flow_order c.in-No.cond c.in-No.place
          (all_hold net c.args.s c.args.t c.args.cap.now c.args.answer.now m) (subst P c.in-No.is c.in_ok-check_flow.ensures)),
    )
