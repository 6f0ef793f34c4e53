-- Replies to queries that are answered, checked, or lack memory.
use Rattle.std.proofs.Common.{◌≡◌, ◌⊎◌, true, List, None, refl, sym, ap, subst, ◌∙◌, inl, inr}
use Rattle.std.specs.Prelude.{Option, Some, Result, Ok, Err, IfOk}
use Rattle.leda_base.specs.declared.NoMemory.{NoMemory}
use Rattle.reply_text.specs.declared.refusal.Refusal.{Refusal}
use Rattle.reply_text.specs.declared.refusal.Refusal.TheVariants.{Memory}
use Rattle.reply_text.specs.declared.reply.Answer.{Answer}
use Rattle.reply_text.specs.declared.reply.Named.{Named}
use Rattle.reply_text.specs.declared.reply.Reply.{Reply}
use Rattle.reply_text.specs.declared.reply.Reply.TheVariants.{Query, Refused}
use Rattle.reply_text.specs.Outcome.{LacksMemory}
use Rattle.reply_text.specs.Text.{IsAnswerNamed, IsNamed}
use Rattle.script_text.specs.declared.argument.Arg.{Arg}
use Rattle.script_text.specs.declared.word.QueryWord.{QueryWord}
use Rattle.script_text.specs.Said.{Said}
use Rattle.console_state.specs.State.{State}
use Rattle.console_state.specs.Keeping.{IsToKeep}
use Rattle.console_state.specs.Query.{broken, Answers, IsTold}
use Rattle.console_state.specs.Told.{IsNamedSo, TellsOf, reply_of}

-- memory lacks
pub lacks : {s : State} (reply : Reply) → reply ≡ Refused Memory → LacksMemory true s reply s
lacks reply same = record { may = refl; answer = same; state = refl }

module _ (word : QueryWord) (args : List Arg) (s : State) where
  -- a condition of the query's own is broken
  pub breaks : (refusal : Refusal) (reply : Reply) → broken word args s ≡ Some refusal → reply ≡ Refused refusal
      → LacksMemory true s reply s ⊎ Answers word args s reply
  breaks refusal reply is same = inr (rw is same)

  pub tells : (named : Named) (reply : Reply) → broken word args s ≡ None → reply ≡ Query named → IsTold word args s named
      → LacksMemory true s reply s ⊎ Answers word args s reply
  tells named reply none same right = inr (rw (none, same) right)

  module _ (answer : Answer) (none : broken word args s ≡ None)
      (right : (named : Named) → IsNamedSo s answer named → IsTold word args s named) where
    pub told-replies : (reply : Reply) → TellsOf s answer reply → LacksMemory true s reply s ⊎ Answers word args s reply
    told-replies reply (inl lack) = inl (lacks reply lack)
    told-replies reply (inr (named, same, so)) = tells named reply none same (right named so)

module _ (s : State) (answer : Answer) where
  pub told-named : ((named : Named) → IsNamedSo s answer named → IsAnswerNamed named.nodes named.edges named.answer)
      → (reply : Reply) → TellsOf s answer reply → IsNamed reply
  told-named names reply (inl lack) = rw lack tt
  told-named names reply (inr (named, same, so)) = rw same (names named so)

  pub told-keepable : (said : Said) → ((named : Named) → IsNamedSo s answer named → IsToKeep said (Query named))
      → (reply : Reply) → TellsOf s answer reply → IsToKeep said reply
  told-keepable said keeps reply (inl lack) = rw lack tt
  told-keepable said keeps reply (inr (named, same, so)) = rw same (keeps named so)

-- a verdict, or want of memory
module _ (verdict : Result Named NoMemory) (reply : Reply) (same : reply ≡ reply_of verdict) where
  pub verdict-named : IfOk verdict (λ named. IsAnswerNamed named.nodes named.edges named.answer) → IsNamed reply
  verdict-named names = rw same (by verdict names)
    where
      by : (r : Result Named NoMemory) → IfOk r (λ named. IsAnswerNamed named.nodes named.edges named.answer) → IsNamed (reply_of r)
      by (Ok named) names = names
      by (Err lack) names = tt

  pub verdict-replies : (word : QueryWord) (args : List Arg) (s : State) → broken word args s ≡ None → IfOk verdict (IsTold word args s)
      → LacksMemory true s reply s ⊎ Answers word args s reply
  verdict-replies word args s none right = by verdict same right
    where
      by : (r : Result Named NoMemory) → reply ≡ reply_of r → IfOk r (IsTold word args s) → LacksMemory true s reply s ⊎ Answers word args s reply
      by (Ok named) is right = tells word args s named reply none is right
      by (Err lack) is right = inl (lacks reply is)
