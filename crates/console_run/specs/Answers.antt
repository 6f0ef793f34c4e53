-- Lines that were run, and what was written of their replies.
use Rattle.std.specs.Prelude.{ℕ, Bool, List, ◌++◌, take, Option, Some}
use Rattle.std.specs.Io.KnownBytes.{Appends}
use Rattle.reply_text.specs.declared.reply.Reply.{Reply}
use Rattle.reply_text.specs.Text.{reply_text}
use Rattle.console_state.specs.State.{State, empty}
use Rattle.leda_edge.specs.Stored.{Stored}
use Rattle.console_run.specs.declared.top.Status.{Status}
use Rattle.console_run.specs.Session.{LineStep, Session, texts}
use Rattle.console_run.specs.Strict.{GoesOn, Stops}

-- bytes that are left to read or were written, where they are told
abbrev pub Known : Type 0
Known = Option (List ℕ)

-- the lines were run from an empty session, the run goes on behind each of them, and what was
-- written is the texts of their replies
pub record Answered (strict : Bool) (files : Stored) (held : Known) (lines : List (List ℕ))
    (now_files : Stored) (now_held : Known) : Type 0 where
  pub answers : List (Option Reply)
  pub state : State
  pub session : Session empty files lines answers state now_files
  pub going : GoesOn strict answers
  pub written : Appends held now_held (texts answers)

-- the lines were run, then one more, whose reply ended the run
pub record BrokeOff (strict : Bool) (status : Status) (files : Stored) (held : Known)
    (lines : List (List ℕ)) (line : List ℕ) (now_files : Stored) (now_held : Known) : Type 0 where
  pub answers : List (Option Reply)
  pub state : State
  pub middle : Stored
  pub session : Session empty files lines answers state middle
  pub going : GoesOn strict answers
  pub reply : Reply
  pub after : State
  pub step : LineStep state middle line (Some reply) after now_files
  pub count : ℕ
  pub stops : Stops strict status reply count
  pub written : Appends held now_held (texts answers ++ take count (reply_text reply))
