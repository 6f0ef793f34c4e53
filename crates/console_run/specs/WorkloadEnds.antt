-- How the run of a workload ends: what each status says of what was written and of the files.
use Rattle.std.specs.Prelude.{◌≡◌, ◌⊎◌, ℕ, ◌<◌, Bool, List, ◌∷◌, ◌++◌, length, map, take, Option, Some}
use Rattle.std.specs.Io.KnownBytes.{Appends}
use Rattle.leda_edge.specs.Stored.{Stored}
use Rattle.reply_text.specs.declared.reply.Reply.{Reply}
use Rattle.console_state.specs.State.{State, empty}
use Rattle.console_run.specs.declared.top.Status.{Status}
use Rattle.console_run.specs.declared.top.Status.TheVariants.{Done, Refused, Words, ReadFault, WriteFault, NoMemory, TooLong, MemoryRefused}
use Rattle.console_run.specs.Session.{LineStep, Session}
use Rattle.console_run.specs.Strict.{GoesOn, end_of}
use Rattle.console_run.specs.Answers.{Known}
use Rattle.console_run.specs.Ends.{Outside}
use Rattle.console_run.specs.Workload.{WorkLine, workload}
use Rattle.console_run.specs.Shown.{shown, shown_texts, refused_count, summary}

-- the lines were run from an empty session, and the run goes on behind each of them
pub record Performed (strict : Bool) (files : Stored) (lines : List WorkLine)
    (answers : List (Option Reply)) (state : State) (now_files : Stored) : Type 0 where
  pub session : Session empty files (map (λ line. line.text) lines) answers state now_files
  pub going : GoesOn strict answers

-- the summary of a whole workload, of which these are the answers
abbrev pub summary_of : ℕ → List (Option Reply) → List ℕ
summary_of seed answers = summary (length (workload seed)) (refused_count answers)

-- every line was run, and what was written is what is shown of the answers, and the summary
pub record EndsWhole (strict : Bool) (seed : ℕ) (files : Stored) (held : Known)
    (now_files : Stored) (now_held : Known) : Type 0 where
  pub answers : List (Option Reply)
  pub state : State
  pub performed : Performed strict files (workload seed) answers state now_files
  pub written : Appends held now_held
      (shown_texts strict (workload seed) answers ++ summary_of seed answers)

-- every line was run, and the summary wasn't written whole
pub record EndsAtSummary (strict : Bool) (seed : ℕ) (files : Stored) (held : Known)
    (now_files : Stored) (now_held : Known) : Type 0 where
  pub answers : List (Option Reply)
  pub state : State
  pub performed : Performed strict files (workload seed) answers state now_files
  pub count : ℕ
  pub short : count < length (summary_of seed answers)
  pub written : Appends held now_held
      (shown_texts strict (workload seed) answers ++ take count (summary_of seed answers))

-- why no line is run behind a reply, of whose shown text so many bytes are written: it isn't
-- written whole; or it is, and a strict run ends there
abbrev pub StopsShown : Bool → Status → Reply → List ℕ → ℕ → Type 0
StopsShown strict WriteFault reply text count = count < length text
StopsShown strict status reply text count =
    (count ≡ length text) × (end_of strict (Some reply) ≡ Some status)

-- some first lines were run, and the reply to the next one ends the run
pub record EndsAtLine (strict : Bool) (seed : ℕ) (status : Status) (files : Stored)
    (held : Known) (now_files : Stored) (now_held : Known) : Type 0 where
  pub lines : List WorkLine
  pub line : WorkLine
  pub later : List WorkLine
  pub split : workload seed ≡ lines ++ line ∷ later
  pub answers : List (Option Reply)
  pub state : State
  pub middle : Stored
  pub performed : Performed strict files lines answers state middle
  pub reply : Reply
  pub after : State
  pub step : LineStep state middle line.text (Some reply) after now_files
  pub count : ℕ
  pub stops : StopsShown strict status reply (shown strict line.is_query (Some reply)) count
  pub written : Appends held now_held
      (shown_texts strict lines answers ++ take count (shown strict line.is_query (Some reply)))

-- what each status says
abbrev pub EndsWorkload : Bool → ℕ → Status → Outside → Outside → Type 0
EndsWorkload strict seed Done old new =
    EndsWhole strict seed old.files old.held new.files new.held
EndsWorkload strict seed Refused old new =
    EndsAtLine strict seed Refused old.files old.held new.files new.held
EndsWorkload strict seed Words old new = new ≡ old
EndsWorkload strict seed ReadFault old new = ⊥
EndsWorkload strict seed WriteFault old new =
    EndsAtLine strict seed WriteFault old.files old.held new.files new.held
    ⊎ EndsAtSummary strict seed old.files old.held new.files new.held
EndsWorkload strict seed NoMemory old new = new ≡ old
EndsWorkload strict seed TooLong old new = ⊥
EndsWorkload strict seed MemoryRefused old new =
    EndsAtLine strict seed MemoryRefused old.files old.held new.files new.held
