-- What is shown of one more answer.
use Rattle.std.proofs.Common.{◌≡◌, ℕ, suc, ◌+◌, Bool, true, false, List, [], ◌∷◌, ◌++◌, ap, sym, ◌∙◌, append-nil, append_assoc, length, length-append, filter, cond, arith}
use Rattle.std.specs.Prelude.{Option}
use Rattle.std.proofs.lemmas.List.Elements.{filter-append}
use Rattle.reply_text.specs.declared.reply.Reply.{Reply}
use Rattle.console_state.specs.State.{State}
use Rattle.leda_edge.specs.Stored.{Stored}
use Rattle.console_run.specs.Session.{Session}
use Rattle.console_run.specs.Workload.{WorkLine}
use Rattle.console_run.specs.Shown.{shown, shown_texts, is_refused, refused_count}

-- there is one answer for each line
pub session-length : (s : State) (f : Stored) (lines : List (List ℕ))
    (answers : List (Option Reply)) (s' : State) (f' : Stored)
    → Session s f lines answers s' f' → length answers ≡ length lines
session-length s f [] answers s' f' h = ap length h.0
session-length s f (l ∷ ls) answers s' f' h = ap length h.all
    ∙ ap suc (session-length h.state h.files ls h.later s' f' h.others)

-- what is shown of one more answer stands behind the others
pub shown-more : (strict : Bool) (lines : List WorkLine) (answers : List (Option Reply))
    (line : WorkLine) (answer : Option Reply) → length answers ≡ length lines
    → shown_texts strict lines answers ++ shown strict line.is_query answer
    ≡ shown_texts strict (lines ++ line ∷ []) (answers ++ answer ∷ [])
shown-more strict [] [] line answer e = sym (append-nil (shown strict line.is_query answer))
shown-more strict [] (a ∷ more) line answer e = absurd (omega (arith, e))
shown-more strict (l ∷ ls) [] line answer e = absurd (omega (arith, e))
shown-more strict (l ∷ ls) (a ∷ more) line answer e =
    append_assoc (shown strict l.is_query a) (shown_texts strict ls more)
    (shown strict line.is_query answer)
    ∙ ap (λ text. shown strict l.is_query a ++ text)
    (shown-more strict ls more line answer (omega (arith, e)))

-- one more answer that is a refusal
pub refused-more : (answers : List (Option Reply)) (answer : Option Reply)
    → is_refused answer ≡ true
    → refused_count answers + 1 ≡ refused_count (answers ++ answer ∷ [])
refused-more answers answer is =
    sym (ap length (filter-append is_refused answers (answer ∷ []))
    ∙ length-append (filter is_refused answers) (filter is_refused (answer ∷ []))
    ∙ ap (λ all. refused_count answers + length all)
    (ap (λ (b : Bool). cond b (answer ∷ []) []) is))

-- and one that is none
pub answered-more : (answers : List (Option Reply)) (answer : Option Reply)
    → is_refused answer ≡ false
    → refused_count answers ≡ refused_count (answers ++ answer ∷ [])
answered-more answers answer is =
    sym (ap length (filter-append is_refused answers (answer ∷ []))
    ∙ ap (λ all. length (filter is_refused answers ++ all))
    (ap (λ (b : Bool). cond b (answer ∷ []) []) is)
    ∙ ap length (append-nil (filter is_refused answers)))
