-- Where a run ends before its script does: at a reply that isn't written whole, and, where the run
-- is strict, at the first refusal.
use Rattle.std.specs.Prelude.{◌≡◌, ℕ, ◌<◌, Bool, List, length, Option, None, Some, if◌then◌else◌, ⊤}
use Rattle.std.specs.List.{All}
use Rattle.reply_text.specs.declared.reply.Reply.{Reply}
use Rattle.reply_text.specs.declared.reply.Reply.TheVariants as replies
use Rattle.reply_text.specs.declared.refusal.Refusal.TheVariants as refusals
use Rattle.reply_text.specs.Text.{reply_text}
use Rattle.console_run.specs.declared.top.Status.{Status}
use Rattle.console_run.specs.declared.top.Status.TheVariants.{Refused, WriteFault, MemoryRefused}

-- the status with which a strict run ends behind a reply, if it ends there
abbrev pub reply_end : Reply → Option Status
reply_end (replies.Refused refusals.Memory) = Some MemoryRefused
reply_end (replies.Refused refusal) = Some Refused
reply_end _ = None

-- that with which a run ends behind an answer; one that isn't strict goes on behind each
abbrev pub end_of : Bool → Option Reply → Option Status
end_of strict None = None
end_of strict (Some reply) = if strict then reply_end reply else None

-- the run goes on behind each of the answers
abbrev pub GoesOn : Bool → List (Option Reply) → Type 0
GoesOn strict answers = All (λ answer. end_of strict answer ≡ None) answers

-- why no line is run behind a reply of which so many bytes are written: it isn't written whole; or
-- it is, and a strict run ends there
abbrev pub Stops : Bool → Status → Reply → ℕ → Type 0
Stops strict WriteFault reply count = count < length (reply_text reply)
Stops strict status reply count =
    (count ≡ length (reply_text reply)) × (end_of strict (Some reply) ≡ Some status)

-- the statuses of a run that ends at a reply
abbrev pub IsStop : Status → Type 0
IsStop Refused = ⊤
IsStop WriteFault = ⊤
IsStop MemoryRefused = ⊤
IsStop _ = ⊥

-- those of a run that ends at a refusal
abbrev pub IsRefusal : Status → Type 0
IsRefusal Refused = ⊤
IsRefusal MemoryRefused = ⊤
IsRefusal _ = ⊥
