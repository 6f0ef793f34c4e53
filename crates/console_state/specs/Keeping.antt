-- What of a reply can be kept.
use Rattle.std.specs.Prelude.{ℕ, List, [], ◌∷◌, ⊤}
use Rattle.graph_defs.specs.declared.flow.FlowAnswer.{FlowAnswer}
use Rattle.leda_base.specs.Name.{IsShortName}
use Rattle.script_text.specs.declared.argument.Arg.{Arg}
use Rattle.script_text.specs.declared.argument.Arg.TheVariants as args
use Rattle.script_text.specs.declared.word.QueryWord.TheVariants as queries
use Rattle.script_text.specs.declared.word.Word.{Word}
use Rattle.script_text.specs.declared.word.Word.TheVariants.{Query}
use Rattle.script_text.specs.Said.{Said}
use Rattle.reply_text.specs.declared.reply.Answer.{Answer}
use Rattle.reply_text.specs.declared.reply.Answer.TheVariants as answers
use Rattle.reply_text.specs.declared.reply.Reply.{Reply}
use Rattle.reply_text.specs.declared.reply.Reply.TheVariants as replies
use Rattle.kept_answers.specs.Carried.{IsFlowKeepable}
use Rattle.kept_answers.specs.Kept.{IsKeepable}

-- the name of the object that had the costs is no longer than a name may be
abbrev pub ArePathsOf : List Arg → Type 0
ArePathsOf (args.Node v ∷ args.Name c ∷ []) = IsShortName c
ArePathsOf args = ⊤

-- a flow can be kept with the name of the object that had the capacities
abbrev pub IsFlowOf : List Arg → List ℕ → FlowAnswer → Type 0
IsFlowOf (args.Node v ∷ args.Node w ∷ args.Name c ∷ []) edges answer =
    IsFlowKeepable c edges answer
IsFlowOf args edges answer = ⊤

-- an answer to the command of this word and these arguments, with the names of what it numbers,
-- where it is kept
abbrev pub IsKeptSo : Answer → Word → List Arg → List ℕ → List ℕ → Type 0
IsKeptSo (answers.Sp answer) (Query queries.Sp) args nodes edges = ArePathsOf args
IsKeptSo (answers.Sp answer) (Query queries.Dijkstra) args nodes edges = ArePathsOf args
IsKeptSo (answers.Flow answer) (Query queries.Maxflow) args nodes edges =
    IsFlowOf args edges answer
IsKeptSo (answers.Matching answer) (Query queries.Matching) args nodes edges =
    IsKeepable nodes edges answer
IsKeptSo answer word args nodes edges = ⊤

-- the reply to a command, whose answer is kept
abbrev pub IsToKeep : Said → Reply → Type 0
IsToKeep said (replies.Query named) =
    IsKeptSo named.answer said.word said.args named.nodes named.edges
IsToKeep said reply = ⊤
