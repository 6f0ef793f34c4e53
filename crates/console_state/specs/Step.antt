-- What a command does.
use Rattle.std.specs.Prelude.{◌≡◌, ◌⊎◌, List, [], ◌∷◌, Option, Some, None, Ok, Err, option_map}
use Rattle.graph_defs.specs.declared.flow.FlowAnswer.{FlowAnswer}
use Rattle.graph_defs.specs.declared.matching.MatchAnswer.{MatchAnswer}
use Rattle.graph_defs.specs.declared.shortest.SpAnswer.{SpAnswer}
use Rattle.leda_edge.specs.Stored.{Stored}
use Rattle.script_text.specs.declared.argument.Arg.{Arg}
use Rattle.script_text.specs.declared.argument.Arg.TheVariants as args
use Rattle.script_text.specs.declared.word.EditWord.{EditWord}
use Rattle.script_text.specs.declared.word.LookWord.{LookWord}
use Rattle.script_text.specs.declared.word.ObjectWord.{ObjectWord}
use Rattle.script_text.specs.declared.word.QueryWord.{QueryWord}
use Rattle.script_text.specs.declared.word.QueryWord.TheVariants as queries
use Rattle.script_text.specs.declared.word.ValueWord.{ValueWord}
use Rattle.script_text.specs.declared.word.Word.{Word}
use Rattle.script_text.specs.declared.word.Word.TheVariants.{Edit, Look, File, Object, Value, Query}
use Rattle.script_text.specs.Said.{Said}
use Rattle.script_text.specs.Table.{may_lack_memory}
use Rattle.reply_text.specs.declared.refusal.Refusal.{Refusal}
use Rattle.reply_text.specs.declared.reply.Answer.{Answer}
use Rattle.reply_text.specs.declared.reply.Answer.TheVariants as answers
use Rattle.reply_text.specs.declared.reply.Named.{Named}
use Rattle.reply_text.specs.declared.reply.Reply.{Reply}
use Rattle.reply_text.specs.declared.reply.Reply.TheVariants as replies
use Rattle.reply_text.specs.Outcome.{Outcome, done, refused, LacksMemory, IsQuiet}
use Rattle.object_store.specs.Commands.{objects_done}
use Rattle.object_store.specs.Values.{ValuesDone}
use Rattle.kept_answers.specs.Carried.{carried}
use Rattle.kept_answers.specs.Kept.{matched}
use Rattle.kept_answers.specs.Told.{told as told_by}
use Rattle.console_state.specs.State.{State, on_graph, on_objects}
use Rattle.console_state.specs.Graph.{graph_edited}
use Rattle.console_state.specs.Look.{Told, graph_looked}
use Rattle.console_state.specs.Files.{Exchanges}
use Rattle.console_state.specs.Order.{first_refusal}
use Rattle.console_state.specs.Query.{Answers}

-- an edit by its word, if these are arguments that the word takes
abbrev pub edited : EditWord → List Arg → State → Option (Outcome State)
edited word args s = option_map (on_graph s) (graph_edited word args s.graph)

-- the look tells its line, or is refused; nothing changes
abbrev pub told : State → Told → Outcome State
told s (Ok line) = done s line
told s (Err refusal) = refused s refusal

-- a look by its word, if these are arguments that the word takes
abbrev pub looked : LookWord → List Arg → State → Option (Outcome State)
looked word args s = option_map (told s) (graph_looked word args s.graph)

-- a command on objects by its word, if these are arguments that the word takes
abbrev pub objects_changed : ObjectWord → List Arg → State → Option (Outcome State)
objects_changed word args s = option_map (on_objects s) (objects_done word args s.objects)

-- the session with an answer to `sp` or `dijkstra` of these arguments kept
abbrev pub with_paths : List Arg → Named → SpAnswer → State → State
with_paths (args.Node v ∷ args.Name c ∷ []) named answer s = record s {
  kept = record s.kept { sp = Some (told_by v c named.nodes named.edges answer) };
}
with_paths args named answer s = s

-- the session with an answer to `maxflow` of these arguments kept
abbrev pub with_flow : List Arg → Named → FlowAnswer → State → State
with_flow (args.Node v ∷ args.Node w ∷ args.Name c ∷ []) named answer s = record s {
  kept = record s.kept { flow = Some (carried v w c named.nodes named.edges answer) };
}
with_flow args named answer s = s

-- the session with an answer to `matching` kept
abbrev pub with_matching : Named → MatchAnswer → State → State
with_matching named answer s =
    record s { kept = record s.kept { matching = Some (matched named.nodes named.edges answer) } }

-- the session with the answer to a query kept for a later check, by its sort; that to `reach` isn't
-- kept, nor is a verdict
abbrev pub with_answer : Answer → Word → List Arg → Named → State → State
with_answer (answers.Sp answer) (Query queries.Sp) args named s = with_paths args named answer s
with_answer (answers.Sp answer) (Query queries.Dijkstra) args named s =
    with_paths args named answer s
with_answer (answers.Flow answer) (Query queries.Maxflow) args named s =
    with_flow args named answer s
with_answer (answers.Matching answer) (Query queries.Matching) args named s =
    with_matching named answer s
with_answer answer word args named s = s

abbrev pub with_kept : Said → Reply → State → State
with_kept said (replies.Query named) s = with_answer named.answer said.word said.args named s
with_kept said reply s = s

-- the command leads to the outcome that its word says; no file changes
pub record Yields (given : Option (Outcome State)) (f : Stored)
    (reply : Reply) (s' : State) (f' : Stored) : Type 0 where
  pub outcome : given ≡ Some (s', reply)
  pub files : f' ≡ f

-- a command on arrays and maps changes the objects as its word says, by the graph; nothing else
-- changes
pub record Values (word : ValueWord) (args : List Arg) (s : State) (f : Stored)
    (reply : Reply) (s' : State) (f' : Stored) : Type 0 where
  pub objects : ValuesDone word args s.graph s.objects reply s'.objects
  pub graph : s'.graph ≡ s.graph
  pub kept : s'.kept ≡ s.kept
  pub files : f' ≡ f

-- the query is answered, and its answer is kept; nothing else changes
pub record Asks (word : QueryWord) (args : List Arg) (s : State) (f : Stored)
    (reply : Reply) (s' : State) (f' : Stored) : Type 0 where
  pub answers : Answers word args s reply
  pub kept : s' ≡ with_kept (record { word = Query word; args = args }) reply s
  pub files : f' ≡ f

-- the command is refused, and nothing changes
pub record IsRefusedBy (refusal : Refusal) (s : State) (f : Stored)
    (reply : Reply) (s' : State) (f' : Stored) : Type 0 where
  pub outcome : (s', reply) ≡ refused s refusal
  pub files : f' ≡ f

-- what a command by its word does, where nothing stands in its way
abbrev pub Does : Word → List Arg → State → Stored → Reply → State → Stored → Type 0
Does (Edit word) args s f reply s' f' = Yields (edited word args s) f reply s' f'
Does (Look word) args s f reply s' f' = Yields (looked word args s) f reply s' f'
Does (File word) args s f reply s' f' = Exchanges word args s f reply s' f'
Does (Object word) args s f reply s' f' = Yields (objects_changed word args s) f reply s' f'
Does (Value word) args s f reply s' f' = Values word args s f reply s' f'
Does (Query word) args s f reply s' f' = Asks word args s f reply s' f'

-- the refusal, if there is one, or else what the command does
abbrev pub DoesUnless : Option Refusal → Said → State → Stored → Reply → State → Stored → Type 0
DoesUnless (Some refusal) said s f reply s' f' = IsRefusedBy refusal s f reply s' f'
DoesUnless None said s f reply s' f' = Does said.word said.args s f reply s' f'

-- the command leads from the session s and the store f to s' and f', with this reply
abbrev pub Step : State → Stored → Said → Reply → State → Stored → Type 0
Step s f said reply s' f' =
    LacksMemory {S = State × Stored} (may_lack_memory said.word) (s, f) reply (s', f')
    ⊎ DoesUnless (first_refusal s said) said s f reply s' f'

-- the reply is short, or want of memory may stand in its place, since nothing has changed
abbrev pub IsQuietStep : State → Stored → Said → Reply → State → Stored → Type 0
IsQuietStep s f said reply s' f' =
    IsQuiet {S = State × Stored} (may_lack_memory said.word) (s, f) reply (s', f')
