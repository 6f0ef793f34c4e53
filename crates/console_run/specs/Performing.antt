-- Private: what the functions that run a workload keep.
use Rattle.std.specs.Prelude.{◌≡◌, ℕ, ◌≤◌, Bool, List, take, Option, None, Some}
use Rattle.std.specs.Io.KnownBytes.{Appends}
use Rattle.leda_edge.specs.Stored.{Stored}
use Rattle.reply_text.specs.declared.reply.Reply.{Reply}
use Rattle.console_state.specs.State.{State}
use Rattle.console_run.specs.declared.top.Status.{Status}
use Rattle.console_run.specs.Session.{LineStep}
use Rattle.console_run.specs.Strict.{IsStop, end_of}
use Rattle.console_run.specs.Answers.{Known}
use Rattle.console_run.specs.Workload.{workload}
use Rattle.console_run.specs.Shown.{shown, shown_texts, is_refused, refused_count}
use Rattle.console_run.specs.WorkloadEnds.{Performed, StopsShown}

-- the line was run, what is shown of the answer was written, and the run goes on
pub record ShowedLine (strict is_query : Bool) (line : List ℕ) (refused : Bool) (s : State)
    (f : Stored) (h : Known) (s' : State) (f' : Stored) (h' : Known) : Type 0 where
  pub answer : Option Reply
  pub step : LineStep s f line answer s' f'
  pub goes_on : end_of strict answer ≡ None
  pub refused_is : refused ≡ is_refused answer
  pub written : Appends h h' (shown strict is_query answer)

-- the line was run, and its reply ends the run
pub record CutLine (strict is_query : Bool) (status : Status) (line : List ℕ) (s : State)
    (f : Stored) (h : Known) (s' : State) (f' : Stored) (h' : Known) : Type 0 where
  pub reply : Reply
  pub step : LineStep s f line (Some reply) s' f'
  pub count : ℕ
  pub stops : StopsShown strict status reply (shown strict is_query (Some reply)) count
  pub is_stop : IsStop status
  pub written : Appends h h' (take count (shown strict is_query (Some reply)))

-- so many first lines of a workload were run, and so many of the answers are refusals
pub record Worked (strict : Bool) (seed : ℕ) (files : Stored) (held : Known) (at refused : ℕ)
    (state : State) (now_files : Stored) (now_held : Known) : Type 0 where
  pub answers : List (Option Reply)
  pub performed : Performed strict files (take at (workload seed)) answers state now_files
  pub written : Appends held now_held (shown_texts strict (take at (workload seed)) answers)
  pub refused_is : refused ≡ refused_count answers
  pub within : refused ≤ at
