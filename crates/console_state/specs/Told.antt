-- Private: how replies to queries come about.
use Rattle.std.specs.Prelude.{◌≡◌, ◌⊎◌, ℤ, List, Option, Some, None, Result, Ok, Err}
use Rattle.leda_base.specs.declared.NoMemory.{NoMemory}
use Rattle.reply_text.specs.declared.refusal.Refusal.{Refusal}
use Rattle.reply_text.specs.declared.refusal.Refusal.TheVariants.{Memory}
use Rattle.reply_text.specs.declared.reply.Answer.{Answer}
use Rattle.reply_text.specs.declared.reply.Named.{Named}
use Rattle.reply_text.specs.declared.reply.Reply.{Reply}
use Rattle.reply_text.specs.declared.reply.Reply.TheVariants.{Query, Refused}
use Rattle.console_state.specs.State.{State}
use Rattle.console_state.specs.Views.{node_names, edge_names}

-- the answer, with the names of what it numbers
pub record IsNamedSo (s : State) (told : Answer) (named : Named) : Type 0 where
  pub nodes : named.nodes ≡ node_names s
  pub edges : named.edges ≡ edge_names s
  pub answer : named.answer ≡ told

-- the reply has it, or memory lacks
abbrev pub TellsOf : State → Answer → Reply → Type 0
TellsOf s answer reply =
    (reply ≡ Refused Memory) ⊎ ((named : Named) × (reply ≡ Query named) × IsNamedSo s answer named)

-- the row, if nothing refuses it; or what refuses it; or memory lacks
abbrev pub IsUnlessRefused : Option Refusal → List ℤ → Result (List ℤ) Refusal → Type 0
IsUnlessRefused refused row (Ok given) = (refused ≡ None) × (given ≡ row)
IsUnlessRefused refused row (Err refusal) = (refusal ≡ Memory) ⊎ (refused ≡ Some refusal)

-- the reply has the verdict, or memory lacks
abbrev pub reply_of : Result Named NoMemory → Reply
reply_of (Ok named) = Query named
reply_of (Err lack) = Refused Memory
