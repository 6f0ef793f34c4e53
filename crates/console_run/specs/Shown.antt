-- What is written of a workload: the first line of each reply to a query, and a summary.
use Rattle.std.specs.Prelude.{ℕ, Bool, ◌||◌, ◌==◌, if◌then◌else◌, List, [], ◌∷◌, ◌++◌, length, get_or, filter, Option, is_some, codes, decimal}
use Rattle.std.specs.Io.BufRead.{take_through}
use Rattle.reply_text.specs.declared.reply.Reply.{Reply}
use Rattle.console_run.specs.Session.{answer_text}
use Rattle.console_run.specs.Strict.{end_of}
use Rattle.console_run.specs.Workload.{WorkLine}

-- the first line of a text, with the LF that ends it
abbrev pub first_line : List ℕ → List ℕ
first_line text = take_through 10 text

-- what is written of an answer: its first line, where it is that to a query, or where the run ends
-- behind it
abbrev pub shown : Bool → Bool → Option Reply → List ℕ
shown strict is_query answer =
    if is_query || is_some (end_of strict answer) then first_line (answer_text answer) else []

-- so for the answer to each line, in order
abbrev pub shown_texts : Bool → List WorkLine → List (Option Reply) → List ℕ
shown_texts strict [] answers = []
shown_texts strict (line ∷ lines) [] = []
shown_texts strict (line ∷ lines) (answer ∷ answers) =
    shown strict line.is_query answer ++ shown_texts strict lines answers

-- an answer is a refusal: its text begins with `!`
abbrev pub is_refused : Option Reply → Bool
is_refused answer = get_or (answer_text answer) 0 0 == 33

-- how many answers are refusals
abbrev pub refused_count : List (Option Reply) → ℕ
refused_count answers = length (filter is_refused answers)

-- the last line: how many lines were run, and how many of the replies are refusals
abbrev pub summary : ℕ → ℕ → List ℕ
summary lines refused =
    codes "= workload " ++ (decimal lines ++ (codes " " ++ (decimal refused ++ 10 ∷ [])))
