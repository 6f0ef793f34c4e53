-- What a query is refused by, and which answers to it are right.
use Rattle.std.specs.Prelude.{◌≡◌, ℕ, ◌==◌, List, [], ◌∷◌, Option, Some, None, MatchOption, if◌then◌else◌}
use Rattle.std.specs.Option.{option_or}
use Rattle.graph_defs.specs.declared.query.Kept.{Kept}
use Rattle.graph_defs.specs.declared.query.Kept.TheVariants as sorts
use Rattle.graph_defs.specs.Flow.{IsFlowAnswer}
use Rattle.graph_defs.specs.Matching.{IsMatchAnswer}
use Rattle.graph_defs.specs.Shortest.{IsSpAnswer}
use Rattle.graph_defs.specs.Walk.{IsReach}
use Rattle.script_text.specs.declared.argument.Arg.{Arg}
use Rattle.script_text.specs.declared.argument.Arg.TheVariants as args
use Rattle.script_text.specs.declared.form.Kinds.TheVariants as kinds
use Rattle.script_text.specs.declared.word.QueryWord.{QueryWord}
use Rattle.script_text.specs.declared.word.QueryWord.TheVariants as queries
use Rattle.reply_text.specs.declared.refusal.ObjectName.TheVariants as objects
use Rattle.reply_text.specs.declared.refusal.Refusal.{Refusal}
use Rattle.reply_text.specs.declared.refusal.Refusal.TheVariants as refusals
use Rattle.reply_text.specs.declared.reply.Answer.{Answer}
use Rattle.reply_text.specs.declared.reply.Answer.TheVariants as answers
use Rattle.reply_text.specs.declared.reply.Named.{Named}
use Rattle.reply_text.specs.declared.reply.Reply.{Reply}
use Rattle.reply_text.specs.declared.reply.Reply.TheVariants.{Line, Query, Refused}
use Rattle.kept_answers.specs.Carried.{IsFlowChecked}
use Rattle.kept_answers.specs.Checked.{IsMatchChecked}
use Rattle.kept_answers.specs.Told.{IsSpChecked}
use Rattle.console_state.specs.Costs.{costs, uncovered, negative, unbounded, overfull}
use Rattle.console_state.specs.State.{State}
use Rattle.console_state.specs.Views.{net_of, node_names, edge_names, has_object, is_directed, AtPlaceOf}

-- an object that a query takes its costs from is missing
abbrev pub missing : State → List ℕ → Option Refusal
missing s name =
    if has_object s kinds.EdgeValues name then None else Some (refusals.Object (objects.Name name))

-- the graph is undirected
abbrev pub undirected : State → Option Refusal
undirected s = if is_directed s then None else Some refusals.Undirected

-- what the check of a kept answer is refused by that was told by an object's costs or capacities
abbrev pub unpriced : State → List ℕ → Option Refusal
unpriced s name = option_or (missing s name) (option_or (undirected s) (uncovered s name))

-- the source of a flow is its sink
abbrev pub same_ends : ℕ → ℕ → Option Refusal
same_ends v w = if v == w then Some refusals.Same else None

-- no answer of the sort is kept, or what else its check is refused by
abbrev pub unless_kept : {K : Type 0} → Kept → (K → Option Refusal) → Option K → Option Refusal
unless_kept sort refused None = Some (refusals.Object (objects.Kept sort))
unless_kept sort refused (Some answer) = refused answer

abbrev pub unchecked : Kept → State → Option Refusal
unchecked sorts.Sp s = unless_kept sorts.Sp (λ k. unpriced s k.costs) s.kept.sp
unchecked sorts.Maxflow s = unless_kept sorts.Maxflow (λ k. unpriced s k.capacities) s.kept.flow
unchecked sorts.Matching s = unless_kept sorts.Matching (λ k. None) s.kept.matching
unchecked sort s = Some (refusals.Object (objects.Kept sort))

-- the first condition of its own that a query breaks; `reach` and `matching` have none
abbrev pub broken : QueryWord → List Arg → State → Option Refusal
broken queries.Sp (args.Node v ∷ args.Name c ∷ []) s = option_or (uncovered s c) (unbounded s c)
broken queries.Dijkstra (args.Node v ∷ args.Name c ∷ []) s =
    option_or (uncovered s c) (option_or (negative s c) (unbounded s c))
broken queries.Maxflow (args.Node v ∷ args.Node w ∷ args.Name c ∷ []) s =
    option_or (uncovered s c)
    (option_or (same_ends v w) (option_or (negative s c) (overfull s c)))
broken queries.Check (args.Kept sort ∷ []) s = unchecked sort s
broken word args s = None

-- the answer to the query of these arguments is right of the net; other arguments than the word's
-- have no answer
abbrev pub IsRight : QueryWord → List Arg → State → Answer → Type 0
IsRight queries.Reach (args.Node v ∷ args.Node w ∷ []) s (answers.Reach answer) =
    AtPlaceOf (node_names s) v (λ from. AtPlaceOf (node_names s) w (λ to.
    IsReach (net_of s) from to answer))
IsRight queries.Sp (args.Node v ∷ args.Name c ∷ []) s (answers.Sp answer) =
    AtPlaceOf (node_names s) v (λ source. IsSpAnswer (net_of s) source (costs s c) answer)
IsRight queries.Dijkstra (args.Node v ∷ args.Name c ∷ []) s (answers.Sp answer) =
    AtPlaceOf (node_names s) v (λ source. IsSpAnswer (net_of s) source (costs s c) answer)
IsRight queries.Maxflow (args.Node v ∷ args.Node w ∷ args.Name c ∷ []) s (answers.Flow answer) =
    AtPlaceOf (node_names s) v (λ source. AtPlaceOf (node_names s) w (λ sink.
    IsFlowAnswer (net_of s) source sink (costs s c) answer))
IsRight queries.Matching [] s (answers.Matching answer) = IsMatchAnswer (net_of s) answer
IsRight word args s answer = ⊥

-- a right answer, with the names of the nodes and edges that it numbers
pub record IsAnswer (word : QueryWord) (args : List Arg) (s : State) (named : Named) : Type 0 where
  pub nodes : named.nodes ≡ node_names s
  pub edges : named.edges ≡ edge_names s
  pub right : IsRight word args s named.answer

-- the verdict on the answer of a sort that is kept, of the graph as it is now
abbrev pub IsVerdictOf : Kept → State → Named → Type 0
IsVerdictOf sorts.Sp s named =
    MatchOption s.kept.sp ⊥ (λ answer. IsSpChecked s.graph (costs s answer.costs) answer named)
IsVerdictOf sorts.Maxflow s named =
    MatchOption s.kept.flow ⊥
    (λ answer. IsFlowChecked s.graph (costs s answer.capacities) answer named)
IsVerdictOf sorts.Matching s named =
    MatchOption s.kept.matching ⊥ (λ answer. IsMatchChecked s.graph answer named)
IsVerdictOf sort s named = ⊥

-- an answer to a query, or a verdict
abbrev pub IsTold : QueryWord → List Arg → State → Named → Type 0
IsTold queries.Check (args.Kept sort ∷ []) s named = IsVerdictOf sort s named
IsTold queries.Check args s named = ⊥
IsTold word args s named = IsAnswer word args s named

-- the reply is such an answer
abbrev pub IsAnswered : QueryWord → List Arg → State → Reply → Type 0
IsAnswered word args s (Line line) = ⊥
IsAnswered word args s (Query named) = IsTold word args s named
IsAnswered word args s (Refused refusal) = ⊥

-- the reply to a query whose first broken condition, if there is one, is this
abbrev pub AnswersBy : Option Refusal → QueryWord → List Arg → State → Reply → Type 0
AnswersBy (Some refusal) word args s reply = reply ≡ Refused refusal
AnswersBy None word args s reply = IsAnswered word args s reply

-- the reply to a query in whose way nothing stands
abbrev pub Answers : QueryWord → List Arg → State → Reply → Type 0
Answers word args s reply = AnswersBy (broken word args s) word args s reply
