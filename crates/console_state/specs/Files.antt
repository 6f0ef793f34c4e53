-- Commands that load the graph from a file, or save it to one.
use Rattle.std.specs.Prelude.{◌≡◌, ◌⊎◌, ℕ, ◌+◌, ◌≤◌, nat_le, ◌&&◌, if◌then◌else◌, List, [], ◌∷◌, length, Option, Some, None, Result, Ok, Err, ⊤}
use Rattle.item_pool.specs.declared.pool.TheConstants.{MOST_SERIALS}
use Rattle.leda_edge.specs.declared.store.LoadFault.{LoadFault}
use Rattle.leda_edge.specs.declared.store.LoadFault.TheVariants as loads
use Rattle.leda_edge.specs.declared.store.SaveFault.{SaveFault}
use Rattle.leda_edge.specs.declared.store.SaveFault.TheVariants as saves
use Rattle.leda_edge.specs.Causes.{Rose}
use Rattle.leda_edge.specs.Files.{HasFile, LacksFile, HasLonger, OpensFile, Saves}
use Rattle.leda_edge.specs.Stored.{Stored}
use Rattle.graph_defs.specs.declared.plain.PlainGraph.{PlainGraph}
use Rattle.graph_defs.specs.declared.plain.TextKind.{TextKind}
use Rattle.graph_state.specs.Built.{built}
use Rattle.graph_state.specs.State.{visible_nodes, visible_edges}
use Rattle.hide_restore.specs.Canon.{plain_of}
use Rattle.graph_text.specs.declared.reading.TheConstants.{TEXT_LIMIT}
use Rattle.graph_text.specs.Text.{GraphText, fault_of}
use Rattle.graph_text.specs.Written.{text_of}
use Rattle.script_text.specs.declared.argument.Arg.{Arg}
use Rattle.script_text.specs.declared.argument.Arg.TheVariants as args
use Rattle.script_text.specs.declared.word.FileWord.{FileWord}
use Rattle.script_text.specs.declared.word.FileWord.TheVariants as words
use Rattle.reply_text.specs.declared.refusal.Refusal.TheVariants as refusals
use Rattle.reply_text.specs.declared.reply.Reply.{Reply}
use Rattle.reply_text.specs.declared.reply.ReplyLine.TheVariants.{Two}
use Rattle.reply_text.specs.Outcome.{Outcome, done, refused}
use Rattle.console_state.specs.State.{State}

-- The graph that a file has takes the place of the session's, with the next numbers, if there are
-- as many.
abbrev pub with_plain : PlainGraph → State → Outcome State
with_plain g s =
    if nat_le (s.graph.made_nodes + length g.nodes) MOST_SERIALS
    && nat_le (s.graph.made_edges + length g.edges) MOST_SERIALS
    then done (record s { graph = built g s.graph.made_nodes s.graph.made_edges })
    (Two (length g.nodes) (length g.edges))
    else refused s refusals.Spent

-- the text stands for a graph, which takes the place of the session's
pub record GivesGraph (text : List ℕ) (s : State) (outcome : Outcome State) : Type 0 where
  pub graph : PlainGraph
  pub stands : GraphText text graph
  pub outcome_is : outcome ≡ with_plain graph s

-- the text stands for no graph, and the first fault in it is named
pub record NamesFault (text : List ℕ) (s : State) (outcome : Outcome State) : Type 0 where
  pub kind : TextKind
  pub line : ℕ
  pub first : fault_of text ≡ Some (record { kind = kind; line = line })
  pub outcome_is : outcome ≡ refused s (refusals.File kind line)

-- memory was wanted, and the session is as it was
abbrev pub WantsMemory : State → Outcome State → Type 0
WantsMemory s outcome = outcome ≡ refused s refusals.Memory

-- what loading the text leads to
abbrev pub ReadsText : List ℕ → State → Outcome State → Type 0
ReadsText text s outcome =
    GivesGraph text s outcome ⊎ (NamesFault text s outcome ⊎ WantsMemory s outcome)

-- what it leads to that the store answers so
abbrev pub LoadsBy : Result (List ℕ) LoadFault → State → Outcome State → Type 0
LoadsBy (Ok text) s outcome = ReadsText text s outcome
LoadsBy (Err loads.Absent) s outcome = outcome ≡ refused s refusals.Absent
LoadsBy (Err loads.TooBig) s outcome = outcome ≡ refused s refusals.Big
LoadsBy (Err loads.Failed) s outcome = outcome ≡ refused s refusals.Store
LoadsBy (Err loads.NoMemory) s outcome = WantsMemory s outcome

-- what the answer tells of the file of this name, and of calls that fail
abbrev pub TellsLoad : Stored → Stored → List ℕ → Result (List ℕ) LoadFault → Type 0
TellsLoad f f' name (Ok text) = HasFile f.files name text × (length text ≤ TEXT_LIMIT)
TellsLoad f f' name (Err loads.Absent) = LacksFile f.files name
TellsLoad f f' name (Err loads.TooBig) = HasLonger f.files name TEXT_LIMIT
TellsLoad f f' name (Err loads.Failed) = Rose f.faults f'.faults
TellsLoad f f' name (Err loads.NoMemory) = ⊤

-- `load name`: no file changes
pub record Loads (name : List ℕ) (s : State) (f : Stored)
    (reply : Reply) (s' : State) (f' : Stored) : Type 0 where
  pub answer : Result (List ℕ) LoadFault
  pub told : TellsLoad f f' name answer
  pub files : f'.files ≡ f.files
  pub outcome : LoadsBy answer s (s', reply)

-- what it leads to that the store answers so to the saving of the graph's text
abbrev pub SavesBy : Option SaveFault → State → Outcome State → Type 0
SavesBy None s outcome =
    outcome ≡ done s (Two (length (visible_nodes s.graph)) (length (visible_edges s.graph)))
SavesBy (Some saves.Failed) s outcome = outcome ≡ refused s refusals.Store
SavesBy (Some saves.NoMemory) s outcome = WantsMemory s outcome

-- what the answer tells of the file of this name, and of calls that fail
abbrev pub TellsSave : Stored → Stored → List ℕ → List ℕ → Option SaveFault → Type 0
TellsSave f f' name text None = Saves f.files f'.files name text
TellsSave f f' name text (Some saves.Failed) =
    OpensFile f.files f'.files name × Rose f.faults f'.faults
TellsSave f f' name text (Some saves.NoMemory) = f'.files ≡ f.files

-- `save name`: the file has the text of the visible graph then, and no other file changes
pub record SavesTo (name : List ℕ) (s : State) (f : Stored)
    (reply : Reply) (s' : State) (f' : Stored) : Type 0 where
  pub fault : Option SaveFault
  pub told : TellsSave f f' name (text_of (plain_of s.graph)) fault
  pub outcome : SavesBy fault s (s', reply)

-- a command on a file by its word, if these are arguments that the word takes
abbrev pub Exchanges : FileWord → List Arg → State → Stored → Reply → State → Stored → Type 0
Exchanges words.Load (args.File name ∷ []) s f reply s' f' = Loads name s f reply s' f'
Exchanges words.Save (args.File name ∷ []) s f reply s' f' = SavesTo name s f reply s' f'
Exchanges word args s f reply s' f' = ⊥
