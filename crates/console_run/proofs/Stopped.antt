-- What a line did whose reply ends the run, or doesn't.
use Rattle.std.proofs.Common.{◌≡◌, ℕ, ◌<◌, Bool, List, refl, sym, ◌∙◌, ap, subst, length, take, arith}
use Rattle.std.specs.Prelude.{Option, None, Some, IfSome}
use Rattle.std.specs.Io.KnownBytes.{Appends}
use Rattle.std.proofs.Math.Seq.{take-length}
use Rattle.leda_edge.specs.Parts.{TookPart}
use Rattle.leda_edge.specs.Stored.{Stored}
use Rattle.reply_text.specs.declared.reply.Reply.{Reply}
use Rattle.reply_text.specs.Text.{reply_text}
use Rattle.console_state.specs.State.{State}
use Rattle.console_run.specs.declared.top.Status.{Status}
use Rattle.console_run.specs.declared.top.Status.TheVariants.{Done, Refused, Words, ReadFault, WriteFault, NoMemory, TooLong, MemoryRefused}
use Rattle.console_run.specs.Session.{LineStep, answer_text}
use Rattle.console_run.specs.Strict.{end_of, Stops, IsStop, IsRefusal}
use Rattle.console_run.specs.Answers.{Known}
use Rattle.console_run.specs.Progress.{RanLine, WroteReply, CutReply}

-- the reply was written, and the run goes on
pub goes-on : (strict : Bool) (line : List ℕ) (s : State) (f : Stored) (text : List ℕ)
    (ended : Option Status) (s' : State) (f' : Stored) → RanLine strict line s f text ended s' f'
    → ended ≡ None → (bytes : List ℕ) → bytes ≡ text → (h h' : Known) → Appends h h' bytes
    → WroteReply strict line s f h s' f' h'
goes-on strict line s f text ended s' f' ran none bytes same h h' put = record {
  answer = ran.answer;
  step = ran.step;
  goes_on = sym ran.ended_is ∙ none;
  written = subst (λ t. Appends h h' t) (same ∙ ran.text_is) put;
}

-- the reply wasn't written whole; so there is one
cut_of : (strict : Bool) (line : List ℕ) (s : State) (f : Stored) (bytes : List ℕ) (s' : State)
    (f' : Stored) (h h' : Known) (answer : Option Reply) → LineStep s f line answer s' f'
    → bytes ≡ answer_text answer → TookPart h h' bytes
    → CutReply strict WriteFault line s f h s' f' h'
cut_of strict line s f bytes s' f' h h' None step is took =
    let none : length bytes ≡ 0 = ap length is in
    let short : took.count < length bytes = took.short in
    absurd (omega (arith, short, none))
cut_of strict line s f bytes s' f' h h' (Some reply) step is took = record {
  reply = reply;
  step = step;
  count = took.count;
  stops = subst (λ t. took.count < length t) is took.short;
  is_stop = tt {0};
  written = subst (λ t. Appends h h' (take took.count t)) is took.held;
}

pub cut-off : (strict : Bool) (line : List ℕ) (s : State) (f : Stored) (text : List ℕ)
    (ended : Option Status) (s' : State) (f' : Stored) → RanLine strict line s f text ended s' f'
    → (bytes : List ℕ) → bytes ≡ text → (h h' : Known) → TookPart h h' bytes
    → CutReply strict WriteFault line s f h s' f' h'
cut-off strict line s f text ended s' f' ran bytes same h h' took =
    cut_of strict line s f bytes s' f' h h' ran.answer ran.step (same ∙ ran.text_is) took

-- a refusal stops the run behind its whole text
refusal_stops : (strict : Bool) (status : Status) (reply : Reply) → IsRefusal status
    → end_of strict (Some reply) ≡ Some status
    → Stops strict status reply (length (reply_text reply)) × IsStop status
refusal_stops strict Done reply refusal e = absurd refusal
refusal_stops strict Refused reply refusal e = ((refl, e), tt {0})
refusal_stops strict Words reply refusal e = absurd refusal
refusal_stops strict ReadFault reply refusal e = absurd refusal
refusal_stops strict WriteFault reply refusal e = absurd refusal
refusal_stops strict NoMemory reply refusal e = absurd refusal
refusal_stops strict TooLong reply refusal e = absurd refusal
refusal_stops strict MemoryRefused reply refusal e = ((refl, e), tt {0})

stop_of : (strict : Bool) (status : Status) (line : List ℕ) (s : State) (f : Stored)
    (bytes : List ℕ) (s' : State) (f' : Stored) (h h' : Known) (answer : Option Reply)
    → LineStep s f line answer s' f' → bytes ≡ answer_text answer
    → end_of strict answer ≡ Some status → IsRefusal status → Appends h h' bytes
    → CutReply strict status line s f h s' f' h'
stop_of strict status line s f bytes s' f' h h' None step is ends refusal put =
    let clash : None ≡ Some status = ends in cc
stop_of strict status line s f bytes s' f' h h' (Some reply) step is ends refusal put =
    let stops = refusal_stops strict status reply refusal ends in
    record {
      reply = reply;
      step = step;
      count = length (reply_text reply);
      stops = stops.0;
      is_stop = stops.1;
      written = subst (λ t. Appends h h' t) (is ∙ sym (take-length (reply_text reply))) put;
    }

-- a status that is there is a refusal's
pub is-refusal : (ended : Option Status) (status : Status) → ended ≡ Some status
    → IfSome ended IsRefusal → IsRefusal status
is-refusal ended status is refused = subst (λ o. IfSome o IsRefusal) is refused

-- the reply was written, and the run ends there
pub stopped : (strict : Bool) (status : Status) (line : List ℕ) (s : State) (f : Stored)
    (text : List ℕ) (ended : Option Status) (s' : State) (f' : Stored)
    → RanLine strict line s f text ended s' f' → ended ≡ Some status → IfSome ended IsRefusal
    → (bytes : List ℕ) → bytes ≡ text → (h h' : Known) → Appends h h' bytes
    → CutReply strict status line s f h s' f' h'
stopped strict status line s f text ended s' f' ran is refused bytes same h h' put =
    stop_of strict status line s f bytes s' f' h h' ran.answer ran.step (same ∙ ran.text_is)
    (sym ran.ended_is ∙ is) (is-refusal ended status is refused) put
