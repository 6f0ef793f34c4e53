-- Private: what the functions that make the workload's lines keep.
use Rattle.std.specs.Prelude.{◌≡◌, ℕ, ◌*◌, ◌-◌, ◌≤◌, min, Bool, List, [], get_or}
use Rattle.console_run.specs.Workload.{WorkLine, number_after, silent, workload}

-- the number with which the line `at` begins: three draws for each edge before it; behind the line
-- that hides a node nothing is drawn
abbrev pub IsDrawn : ℕ → ℕ → ℕ → Type 0
IsDrawn seed at number = at ≤ 2002 → number ≡ number_after seed (3 * min (at - 400) 1600)

-- this line was made
pub record IsLine (line : WorkLine) (text : List ℕ) (is_query : Bool) : Type 0 where
  pub text_is : text ≡ line.text
  pub query_is : is_query ≡ line.is_query

-- the line with the number `at`, from 0
abbrev pub line_at : ℕ → ℕ → WorkLine
line_at seed at = get_or (workload seed) at (silent [])
