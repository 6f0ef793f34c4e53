-- How a run ends: what each status says of the script, the replies and the files.
use Rattle.std.specs.Prelude.{◌≡◌, ℕ, ◌<◌, ◌≤◌, Bool, List, [], ◌∷◌, ◌++◌, length, ⊤}
use Rattle.std.specs.Io.KnownBytes.{Consumes, IsAtEnd}
use Rattle.leda_edge.specs.Stored.{Stored}
use Rattle.console_run.specs.declared.top.Status.{Status}
use Rattle.console_run.specs.declared.top.Status.TheVariants.{Done, Refused, Words, ReadFault, WriteFault, NoMemory, TooLong, MemoryRefused}
use Rattle.console_run.specs.Lines.{lines_of}
use Rattle.console_run.specs.Answers.{Known, Answered, BrokeOff}
use Rattle.console_run.specs.declared.top.TheConstants.{SCRIPT_LIMIT}

-- the outside before a call and after it: the script's bytes that are left, the files, and the
-- bytes written
pub record Outside : Type 0 where
  pub left : Known
  pub files : Stored
  pub held : Known

abbrev pub outside : Known → Stored → Known → Outside
outside left files held = record { left = left; files = files; held = held }

-- the script was read to its end, and every line is answered
pub record EndsDone (strict : Bool) (old new : Outside) : Type 0 where
  pub taken : List ℕ
  pub consumed : Consumes old.left new.left taken
  pub within : length taken ≤ SCRIPT_LIMIT
  pub at_end : IsAtEnd new.left
  pub answered : Answered strict old.files old.held (lines_of taken) new.files new.held

-- the lines that an LF ended are answered
pub record EndsReadFault (strict : Bool) (old new : Outside) : Type 0 where
  pub taken : List ℕ
  pub consumed : Consumes old.left new.left taken
  pub within : length taken ≤ SCRIPT_LIMIT
  pub lines : List (List ℕ)
  pub unfinished : List ℕ
  pub split : lines_of taken ≡ lines ++ unfinished ∷ []
  pub answered : Answered strict old.files old.held lines new.files new.held

-- some first lines are answered, and the reply to the next one ends the run
pub record EndsAtReply (strict : Bool) (status : Status) (old new : Outside) : Type 0 where
  pub taken : List ℕ
  pub consumed : Consumes old.left new.left taken
  pub within : length taken ≤ SCRIPT_LIMIT
  pub lines : List (List ℕ)
  pub line : List ℕ
  pub later : List (List ℕ)
  pub split : lines_of taken ≡ lines ++ line ∷ later
  pub broke : BrokeOff strict status old.files old.held lines line new.files new.held

-- as many bytes as a script may have were taken, and one read more gave some; the lines that an LF
-- ended among the first are answered
pub record EndsTooLong (strict : Bool) (old new : Outside) : Type 0 where
  pub taken : List ℕ
  pub more : List ℕ
  pub consumed : Consumes old.left new.left (taken ++ more)
  pub full : length taken ≡ SCRIPT_LIMIT
  pub beyond : 0 < length more
  pub lines : List (List ℕ)
  pub unfinished : List ℕ
  pub split : lines_of taken ≡ lines ++ unfinished ∷ []
  pub answered : Answered strict old.files old.held lines new.files new.held

-- what each status says, of a run that is strict or isn't
abbrev pub Ends : Bool → Status → Outside → Outside → Type 0
Ends strict Done old new = EndsDone strict old new
Ends strict Refused old new = EndsAtReply strict Refused old new
Ends strict Words old new = new ≡ old
Ends strict ReadFault old new = EndsReadFault strict old new
Ends strict WriteFault old new = EndsAtReply strict WriteFault old new
Ends strict NoMemory old new = new ≡ old
Ends strict TooLong old new = EndsTooLong strict old new
Ends strict MemoryRefused old new = EndsAtReply strict MemoryRefused old new

-- the statuses of a run that didn't begin
abbrev pub IsUnbegun : Status → Type 0
IsUnbegun Words = ⊤
IsUnbegun NoMemory = ⊤
IsUnbegun _ = ⊥
