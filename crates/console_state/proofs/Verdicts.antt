-- Verdicts on kept answers, and what their checks are refused by.
use Rattle.std.proofs.Common.{◌≡◌, ℤ, List, [], ◌∷◌, refl, sym, subst}
use Rattle.std.specs.Prelude.{Some, None, Result, Ok, Err, IfOk}
use Rattle.leda_base.specs.declared.NoMemory.{NoMemory}
use Rattle.graph_defs.specs.declared.query.Kept.TheVariants as sorts
use Rattle.kept_answers.specs.Carried.{Carried, IsFlowChecked}
use Rattle.kept_answers.specs.Checked.{IsMatchChecked}
use Rattle.kept_answers.specs.Kept.{Matched}
use Rattle.kept_answers.specs.Told.{Told, IsSpChecked}
use Rattle.reply_text.specs.declared.refusal.Refusal.{Refusal}
use Rattle.reply_text.specs.declared.reply.Named.{Named}
use Rattle.script_text.specs.declared.argument.Arg.TheVariants as args
use Rattle.script_text.specs.declared.word.QueryWord.TheVariants as queries
use Rattle.console_state.specs.State.{State}
use Rattle.console_state.specs.Costs.{costs}
use Rattle.console_state.specs.Query.{unchecked, unpriced, IsTold}

module _ (s : State) where
  module _ (k : Matched) (is : s.kept.matching ≡ Some k) where
    pub matching-allowed : unchecked sorts.Matching s ≡ None
    matching-allowed = rw is refl

    pub matching-told : (verdict : Result Named NoMemory) → IfOk verdict (IsMatchChecked s.graph k)
        → IfOk verdict (IsTold queries.Check (args.Kept sorts.Matching ∷ []) s)
    matching-told (Ok named) right = rw is right
    matching-told (Err lack) right = tt

  module _ (k : Told) (is : s.kept.sp ≡ Some k) where
    pub paths-allowed : unpriced s k.costs ≡ None → unchecked sorts.Sp s ≡ None
    paths-allowed none = rw is none

    pub paths-refused : (refusal : Refusal) → unpriced s k.costs ≡ Some refusal → unchecked sorts.Sp s ≡ Some refusal
    paths-refused refusal some = rw is some

    pub paths-told : (cost : List ℤ) → cost ≡ costs s k.costs → (verdict : Result Named NoMemory)
        → IfOk verdict (IsSpChecked s.graph cost k) → IfOk verdict (IsTold queries.Check (args.Kept sorts.Sp ∷ []) s)
    paths-told cost same (Ok named) right = rw is (subst (λ c. IsSpChecked s.graph c k named) same right)
    paths-told cost same (Err lack) right = tt

  module _ (k : Carried) (is : s.kept.flow ≡ Some k) where
    pub flow-allowed : unpriced s k.capacities ≡ None → unchecked sorts.Maxflow s ≡ None
    flow-allowed none = rw is none

    pub flow-refused : (refusal : Refusal) → unpriced s k.capacities ≡ Some refusal → unchecked sorts.Maxflow s ≡ Some refusal
    flow-refused refusal some = rw is some

    pub flow-told : (cap : List ℤ) → cap ≡ costs s k.capacities → (verdict : Result Named NoMemory)
        → IfOk verdict (IsFlowChecked s.graph cap k) → IfOk verdict (IsTold queries.Check (args.Kept sorts.Maxflow ∷ []) s)
    flow-told cap same (Ok named) right = rw is (subst (λ c. IsFlowChecked s.graph c k named) same right)
    flow-told cap same (Err lack) right = tt
