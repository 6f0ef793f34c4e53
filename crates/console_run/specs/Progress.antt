-- Private: what the functions that read a script and write its replies keep.
use Rattle.std.specs.Prelude.{◌≡◌, ℕ, ◌+◌, ◌<◌, ◌≤◌, Bool, List, [], ◌∷◌, ◌++◌, length, take, drop, Option, None, Some, ⊤}
use Rattle.std.specs.List.{slice_range}
use Rattle.std.specs.Io.KnownBytes.{Appends, Consumes, IsAtEnd}
use Rattle.script_text.specs.Said.{Said}
use Rattle.script_text.specs.Line.{kept_of}
use Rattle.reply_text.specs.declared.reply.Reply.{Reply}
use Rattle.reply_text.specs.Text.{reply_text}
use Rattle.console_state.specs.State.{State, empty}
use Rattle.console_state.specs.Step.{Step}
use Rattle.leda_edge.specs.Stored.{Stored}
use Rattle.console_run.specs.declared.top.Status.{Status}
use Rattle.console_run.specs.declared.top.Status.TheVariants.{Done, Refused, Words, ReadFault, WriteFault, NoMemory, TooLong, MemoryRefused}
use Rattle.console_run.specs.Lines.{lines_of, IsPlain}
use Rattle.console_run.specs.Session.{LineStep, Session, answer_text, texts}
use Rattle.console_run.specs.Strict.{GoesOn, Stops, IsStop, end_of}
use Rattle.console_run.specs.Answers.{Known, BrokeOff}
use Rattle.console_run.specs.declared.top.TheConstants.{SCRIPT_LIMIT}

-- behind the place `at` of a piece, the first line end stands at the place `end`
pub record EndsLine (piece : List ℕ) (at end : ℕ) : Type 0 where
  pub order : at ≤ end
  pub within : end < length piece
  pub plain : IsPlain (slice_range piece at end)
  pub taken : take (end + 1) piece ≡ take at piece ++ (slice_range piece at end ++ 10 ∷ [])
  pub whole : piece ≡ take at piece ++ (slice_range piece at end ++ 10 ∷ drop (end + 1) piece)

-- the command was run, and this is the text of its reply, and how the run ends behind it
pub record RanCommand (strict : Bool) (said : Said) (s : State) (f : Stored) (text : List ℕ)
    (ended : Option Status) (s' : State) (f' : Stored) : Type 0 where
  pub reply : Reply
  pub step : Step s f said reply s' f'
  pub text_is : text ≡ reply_text reply
  pub ended_is : ended ≡ end_of strict (Some reply)

-- the line was run, and this is the text of its reply, and how the run ends behind it
pub record RanLine (strict : Bool) (line : List ℕ) (s : State) (f : Stored) (text : List ℕ)
    (ended : Option Status) (s' : State) (f' : Stored) : Type 0 where
  pub answer : Option Reply
  pub step : LineStep s f line answer s' f'
  pub text_is : text ≡ answer_text answer
  pub ended_is : ended ≡ end_of strict answer

-- the line was run, its reply written, and the run goes on
pub record WroteReply (strict : Bool) (line : List ℕ) (s : State) (f : Stored) (h : Known)
    (s' : State) (f' : Stored) (h' : Known) : Type 0 where
  pub answer : Option Reply
  pub step : LineStep s f line answer s' f'
  pub goes_on : end_of strict answer ≡ None
  pub written : Appends h h' (answer_text answer)

-- the line was run, and its reply ends the run
pub record CutReply (strict : Bool) (status : Status) (line : List ℕ) (s : State) (f : Stored)
    (h : Known) (s' : State) (f' : Stored) (h' : Known) : Type 0 where
  pub reply : Reply
  pub step : LineStep s f line (Some reply) s' f'
  pub count : ℕ
  pub stops : Stops strict status reply count
  pub is_stop : IsStop status
  pub written : Appends h h' (take count (reply_text reply))

-- of the bytes taken, the lines that an LF ended are answered, and what tells the meaning of the
-- rest is kept
pub record Progress (strict : Bool) (held : Known) (files : Stored) (taken : List ℕ)
    (now_held : Known) (now_files : Stored) (state : State) (kept : List ℕ) : Type 0 where
  pub lines : List (List ℕ)
  pub rest : List ℕ
  pub answers : List (Option Reply)
  pub split : lines_of taken ≡ lines ++ rest ∷ []
  pub session : Session empty files lines answers state now_files
  pub going : GoesOn strict answers
  pub written : Appends held now_held (texts answers)
  pub kept_is : kept ≡ kept_of rest

-- bytes were taken, so many, and the run has got as far as they go
pub record Pumped (strict : Bool) (left : Known) (files : Stored) (held : Known)
    (now_left : Known) (now_files : Stored) (now_held : Known)
    (count : ℕ) (state : State) (kept : List ℕ) : Type 0 where
  pub taken : List ℕ
  pub consumed : Consumes left now_left taken
  pub counted : length taken ≡ count
  pub progress : Progress strict held files taken now_held now_files state kept

-- the script was read to its end, and what is kept of the last line is still to be answered
pub record ReadWhole (strict : Bool) (left : Known) (files : Stored) (held : Known)
    (now_left : Known) (now_files : Stored) (now_held : Known)
    (state : State) (kept : List ℕ) : Type 0 where
  pub count : ℕ
  pub within : count ≤ SCRIPT_LIMIT
  pub pumped : Pumped strict left files held now_left now_files now_held count state kept
  pub at_end : IsAtEnd now_left

-- of the bytes taken, some first lines are answered, and the reply to the next one ends the run
pub record Broken (strict : Bool) (status : Status) (held : Known) (files : Stored)
    (taken : List ℕ) (now_held : Known) (now_files : Stored) : Type 0 where
  pub lines : List (List ℕ)
  pub line : List ℕ
  pub later : List (List ℕ)
  pub split : lines_of taken ≡ lines ++ line ∷ later
  pub is_stop : IsStop status
  pub broke : BrokeOff strict status files held lines line now_files now_held

-- the statuses of a script that wasn't read to its end
abbrev pub IsEarly : Status → Type 0
IsEarly Done = ⊥
IsEarly Refused = ⊤
IsEarly Words = ⊥
IsEarly ReadFault = ⊤
IsEarly WriteFault = ⊤
IsEarly NoMemory = ⊥
IsEarly TooLong = ⊤
IsEarly MemoryRefused = ⊤
