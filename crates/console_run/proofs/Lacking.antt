-- Lines that are answered by want of memory, or by what refuses them.
use Rattle.std.proofs.Common.{◌≡◌, ℕ, Bool, true, false, List, refl, sym, ◌∙◌, ap, subst, inl, inr}
use Rattle.std.specs.Prelude.{Option, Some, Result, Ok, Err}
use Rattle.std.specs.Bool.{MatchBool, OnFalse}
use Rattle.leda_edge.specs.Stored.{Stored}
use Rattle.script_text.specs.declared.line.Line.TheVariants.{Command}
use Rattle.script_text.specs.declared.line.LineRefusal.{LineRefusal}
use Rattle.script_text.specs.declared.line.LineRefusal.TheVariants as faults
use Rattle.script_text.specs.Said.{Said}
use Rattle.script_text.specs.Line.{line_of, Reads}
use Rattle.script_text.proofs.Entries.{keeps-may_lack}
use Rattle.reply_text.specs.declared.reply.Reply.{Reply}
use Rattle.reply_text.specs.declared.reply.Reply.TheVariants.{Refused}
use Rattle.reply_text.specs.declared.refusal.Refusal.{Refusal}
use Rattle.reply_text.specs.declared.refusal.Refusal.TheVariants.{Memory}
use Rattle.reply_text.specs.Text.{reply_text, IsShort}
use Rattle.console_state.specs.State.{State}
use Rattle.console_state.specs.Step.{Step, IsQuietStep}
use Rattle.console_run.specs.declared.top.Status.{Status}
use Rattle.console_run.specs.Session.{Meets, refusal_of}
use Rattle.console_run.specs.Strict.{end_of}
use Rattle.console_run.specs.Progress.{RanCommand, RanLine}

-- want of memory in the place of a long reply
pub lacking : (s : State) (f : Stored) (said : Said) (reply : Reply) (s' : State) (f' : Stored)
    → (IsShort reply → ⊥)
    → IsQuietStep s f said reply s' f' → Step s f said (Refused Memory) s' f'
lacking s f said reply s' f' long (inl short) = absurd (long short)
lacking s f said reply s' f' long (inr lacks) = inl lacks

-- a line that is a command was run as the command was
pub ran-command : (strict : Bool) (line bytes : List ℕ) (said passed : Said) (s : State)
    (f : Stored) (text : List ℕ) (ended : Option Status)
    (s' : State) (f' : Stored) → bytes ≡ line → line_of bytes ≡ Ok (Command said) → passed ≡ said
    → RanCommand strict passed s f text ended s' f' → RanLine strict line s f text ended s' f'
ran-command strict line bytes said passed s f text ended s' f' same e is ran = record {
  answer = Some ran.reply;
  step = subst (λ m. Meets m s f (Some ran.reply) s' f') (sym e ∙ ap line_of same)
      (record {
        reply = ran.reply;
        answered = refl;
        step = subst
            (λ c. Step s f c ran.reply s' f') is ran.step;
      });
  text_is = ran.text_is;
  ended_is = ran.ended_is;
}

-- a line of which this is known is met as this
met_as : (line : List ℕ) (meaning : Result _ LineRefusal) (s : State) (f : Stored)
    (answer : Option Reply)
    → line_of line ≡ meaning → Meets meaning s f answer s f → Meets (line_of line) s f answer s f
met_as line meaning s f answer e m = subst (λ m. Meets m s f answer s f) (sym e) m

-- a line that isn't run
not_run : (strict : Bool) (line : List ℕ) (fault : LineRefusal) (s : State) (f : Stored)
    (text : List ℕ) (ended : Option Status)
    → Reads (line_of line) (Err fault) → text ≡ reply_text (Refused (refusal_of fault))
    → ended ≡ end_of strict (Some (Refused (refusal_of fault)))
    → RanLine strict line s f text ended s f
not_run strict line faults.LongLine s f text ended e t ends = record {
  answer = Some (Refused (refusal_of faults.LongLine));
  step = met_as line _ s f _ e (refl, record { state = refl; files = refl });
  text_is = t;
  ended_is = ends;
}
not_run strict line (faults.Syntax column) s f text ended e t ends = record {
  answer = Some (Refused (refusal_of (faults.Syntax column)));
  step = met_as line _ s f _ e (refl, record { state = refl; files = refl });
  text_is = t;
  ended_is = ends;
}
not_run strict line (faults.Number column) s f text ended e t ends = record {
  answer = Some (Refused (refusal_of (faults.Number column)));
  step = met_as line _ s f _ e (refl, record { state = refl; files = refl });
  text_is = t;
  ended_is = ends;
}
not_run strict line faults.NoMemory s f text ended k t ends = record {
  answer = Some (Refused Memory);
  step = met_as line _ s f _ k.is (record {
    reply = Refused Memory;
    answered = refl;
    step = inl (record { may = keeps-may_lack k.said.word k.keeps; answer = refl; state = refl });
  });
  text_is = t;
  ended_is = ends;
}

pub not-run : (strict : Bool) (line bytes : List ℕ) (fault : LineRefusal) (refusal : Refusal)
    (s : State) (f : Stored) (text : List ℕ) (ended : Option Status)
    → bytes ≡ line → Reads (line_of bytes) (Err fault) → refusal ≡ refusal_of fault
    → text ≡ reply_text (Refused refusal) → ended ≡ end_of strict (Some (Refused refusal))
    → RanLine strict line s f text ended s f
not-run strict line bytes fault refusal s f text ended same reads is t ends =
    not_run strict line fault s f text ended
    (subst (λ bs. Reads (line_of bs) (Err fault)) same reads)
    (t ∙ ap (λ r. reply_text (Refused r)) is)
    (ends ∙ ap (λ r. end_of strict (Some (Refused r))) is)

-- the text of a short reply is its own
pub own-text : (own : Bool) (reply : Reply) (text : List ℕ) (other : Type 0) → IsShort reply
    → MatchBool own (text ≡ reply_text reply) other → OnFalse own (IsShort reply → ⊥)
    → text ≡ reply_text reply
own-text true reply text other short t long = t
own-text false reply text other short t long = absurd (long short)
