-- What the lines of a script do, one after the other.
use Rattle.std.specs.Prelude.{◌≡◌, ℕ, List, [], ◌∷◌, Option, None, Some, Result, Ok, Err}
use Rattle.std.specs.Option.{option_map_or}
use Rattle.std.specs.List.{flat_map}
use Rattle.script_text.specs.declared.line.Line.{Line}
use Rattle.script_text.specs.declared.line.Line.TheVariants.{Command, Nothing}
use Rattle.script_text.specs.declared.line.LineRefusal.{LineRefusal}
use Rattle.script_text.specs.declared.line.LineRefusal.TheVariants as faults
use Rattle.script_text.specs.Said.{Said}
use Rattle.script_text.specs.Line.{line_of}
use Rattle.reply_text.specs.declared.reply.Reply.{Reply}
use Rattle.reply_text.specs.declared.reply.Reply.TheVariants.{Refused}
use Rattle.reply_text.specs.declared.refusal.Refusal.{Refusal}
use Rattle.reply_text.specs.declared.refusal.Refusal.TheVariants as refusals
use Rattle.reply_text.specs.Text.{reply_text}
use Rattle.console_state.specs.State.{State}
use Rattle.console_state.specs.Step.{Step}
use Rattle.leda_edge.specs.Stored.{Stored}

-- what a line that is no command is refused by
abbrev pub refusal_of : LineRefusal → Refusal
refusal_of faults.LongLine = refusals.LongLine
refusal_of (faults.Syntax column) = refusals.Syntax column
refusal_of (faults.Number column) = refusals.Number column
refusal_of faults.NoMemory = refusals.Memory

-- nothing changes
pub record Stays (s : State) (f : Stored) (s' : State) (f' : Stored) : Type 0 where
  pub state : s' ≡ s
  pub files : f' ≡ f

-- a command ran
pub record Ran (s : State) (f : Stored) (answer : Option Reply) (s' : State) (f' : Stored)
    (command : Said) : Type 0 where
  pub reply : Reply
  pub answered : answer ≡ Some reply
  pub step : Step s f command reply s' f'

-- what is done about a line by what it means: nothing, the command, or a refusal
abbrev pub Meets : Result Line LineRefusal → State → Stored → Option Reply → State → Stored → Type 0
Meets (Ok Nothing) s f answer s' f' = (answer ≡ None) × Stays s f s' f'
Meets (Ok (Command command)) s f answer s' f' = Ran s f answer s' f' command
Meets (Err fault) s f answer s' f' = (answer ≡ Some (Refused (refusal_of fault))) × Stays s f s' f'

-- one line, the reply to it if there is one, and the states and files before and after it
abbrev pub LineStep : State → Stored → List ℕ → Option Reply → State → Stored → Type 0
LineStep s f line answer s' f' = Meets (line_of line) s f answer s' f'

-- the first line's step, and then the session of the others
pub record Continues (s : State) (f : Stored) (line : List ℕ) (answers : List (Option Reply))
    (rest : State → Stored → List (Option Reply) → Type 0) : Type 0 where
  pub answer : Option Reply
  pub later : List (Option Reply)
  pub state : State
  pub files : Stored
  pub first : LineStep s f line answer state files
  pub others : rest state files later
  pub all : answers ≡ answer ∷ later

-- the lines, one answer for each, and the states and files before and after them
abbrev pub Session : State → Stored → List (List ℕ) → List (Option Reply) → State → Stored → Type 0
Session s f [] answers s' f' = (answers ≡ []) × Stays s f s' f'
Session s f (line ∷ lines) answers s' f' =
    Continues s f line answers (λ middle files later. Session middle files lines later s' f')

-- the text of an answer: none for a line without a reply
abbrev pub answer_text : Option Reply → List ℕ
answer_text answer = option_map_or reply_text answer []

-- the texts of the replies, in order
abbrev pub texts : List (Option Reply) → List ℕ
texts answers = flat_map answer_text answers
