-- What a command leads to, whatever the state is that it changes.
use Rattle.std.specs.Prelude.{◌≡◌, ◌⊎◌, Bool, true, Option, Some, None}
use Rattle.reply_text.specs.declared.refusal.Refusal.{Refusal}
use Rattle.reply_text.specs.declared.refusal.Refusal.TheVariants.{Memory}
use Rattle.reply_text.specs.declared.reply.Reply.{Reply}
use Rattle.reply_text.specs.declared.reply.Reply.TheVariants.{Line, Refused}
use Rattle.reply_text.specs.declared.reply.ReplyLine.{ReplyLine}
use Rattle.reply_text.specs.Text.{IsShort}

-- the next state, and the reply
abbrev pub Outcome : Type 0 → Type 0
Outcome S = S × Reply

-- the command is done, and its line tells this
abbrev pub done : {S : Type 0} → S → ReplyLine → Outcome S
done next line = (next, Line line)

-- the command is refused, and nothing changes
abbrev pub refused : {S : Type 0} → S → Refusal → Outcome S
refused s refusal = (s, Refused refusal)

-- the refusal, if there is one, or else the outcome
abbrev pub unless : {S : Type 0} → Option Refusal → S → Outcome S → Outcome S
unless (Some refusal) s outcome = refused s refusal
unless None s outcome = outcome

-- memory was wanted, which the command is free to be answered, and nothing has changed
pub record LacksMemory {S : Type 0} (free : Bool) (s : S) (reply : Reply) (next : S) : Type 0 where
  pub may : free ≡ true
  pub answer : reply ≡ Refused Memory
  pub state : next ≡ s

-- the state s leads to the next one, and to the reply, as is given; or, where the command is free
-- to, it lacks memory
abbrev pub Gives : {S : Type 0} → Bool → Outcome S → S → Reply → S → Type 0
Gives free given s reply next = LacksMemory free s reply next ⊎ ((next, reply) ≡ given)

-- the reply is short, or want of memory may stand in its place, since nothing has changed
abbrev pub IsQuiet : {S : Type 0} → Bool → S → Reply → S → Type 0
IsQuiet free s reply next = IsShort reply ⊎ LacksMemory free s (Refused Memory) next
