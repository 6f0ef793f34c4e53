-- How the run of a workload gets on, and how it ends.
use Rattle.std.proofs.Common.{◌≡◌, ℕ, suc, ◌+◌, ◌<◌, ◌≤◌, Bool, true, false, List, [], ◌∷◌, ◌++◌, refl, ap, sym, ◌∙◌, subst, map, length, take, drop, inl, arith}
use Rattle.std.specs.Prelude.{◌||◌, Option, None, Some, IfSome, is_some, if◌then◌else◌}
use Rattle.std.specs.Io.KnownBytes.{Appends}
use Rattle.std.proofs.KnownBytes.{Appends-nil, Appends-trans}
use Rattle.std.proofs.Math.Seq.{take-suc, drop-cons, take-length}
use Rattle.std.proofs.Math.Numerals.{suc-eq-add-one}
use Rattle.std.proofs.lemmas.List.{take-append-drop, take_all, map-append, length-map}
use Rattle.std.proofs.lemmas.List.Elements.{All-nil}
use Rattle.leda_edge.specs.Parts.{TookPart}
use Rattle.leda_edge.specs.Stored.{Stored}
use Rattle.reply_text.specs.declared.reply.Reply.{Reply}
use Rattle.console_state.specs.State.{State, empty}
use Rattle.console_run.specs.declared.top.Status.{Status}
use Rattle.console_run.specs.declared.top.Status.TheVariants.{Done, Refused, Words, ReadFault, WriteFault, NoMemory, TooLong, MemoryRefused}
use Rattle.console_run.specs.Session.{LineStep, Session, answer_text}
use Rattle.console_run.specs.Strict.{IsStop, IsRefusal, end_of}
use Rattle.console_run.specs.Answers.{Known}
use Rattle.console_run.specs.Ends.{Outside}
use Rattle.console_run.specs.Progress.{RanLine}
use Rattle.console_run.specs.Workload.{WorkLine, silent, workload}
use Rattle.console_run.specs.Generated.{line_at}
use Rattle.console_run.specs.Shown.{first_line, shown, shown_texts, refused_count, summary}
use Rattle.console_run.specs.WorkloadEnds.{Performed, StopsShown, EndsAtLine, EndsAtSummary, EndsWhole, EndsWorkload, summary_of}
use Rattle.console_run.specs.Performing.{ShowedLine, CutLine, Worked}
use Rattle.console_run.proofs.Steps.{session-more}
use Rattle.console_run.proofs.Advances.{goes-on}
use Rattle.console_run.proofs.Stopped.{is-refusal}
use Rattle.console_run.proofs.Shows.{session-length, shown-more, refused-more, answered-more}
use Rattle.console_run.proofs.WorkLines.{length-workload}

-- ---- one line

-- what is shown of the text of an answer is shown of the answer
shown_is : (strict is_query : Bool) (answer : Option Reply) (ended : Option Status)
    (text bytes : List ℕ) → ended ≡ end_of strict answer → text ≡ answer_text answer
    → bytes ≡ (if is_query || is_some ended then first_line text else [])
    → bytes ≡ shown strict is_query answer
shown_is strict is_query answer ended text bytes e t b = b
    ∙ ap (λ o. if is_query || is_some o then first_line text else []) e
    ∙ ap (λ bs. if is_query || is_some (end_of strict answer) then first_line bs else []) t

-- nothing is shown where there is no reply
none_shown : (strict is_query : Bool) → shown strict is_query None ≡ []
none_shown strict true = refl
none_shown strict false = refl

cut_of : (strict is_query : Bool) (line : List ℕ) (s : State) (f : Stored) (bytes : List ℕ)
    (s' : State) (f' : Stored) (h h' : Known) (answer : Option Reply)
    → LineStep s f line answer s' f' → bytes ≡ shown strict is_query answer → TookPart h h' bytes
    → CutLine strict is_query WriteFault line s f h s' f' h'
cut_of strict is_query line s f bytes s' f' h h' None step is took =
    let none : length bytes ≡ 0 = ap length (is ∙ none_shown strict is_query) in
    let short : took.count < length bytes = took.short in
    absurd (omega (arith, short, none))
cut_of strict is_query line s f bytes s' f' h h' (Some reply) step is took = record {
  reply = reply;
  step = step;
  count = took.count;
  stops = subst (λ t. took.count < length t) is took.short;
  is_stop = tt {0};
  written = subst (λ t. Appends h h' (take took.count t)) is took.held;
}

-- what is shown wasn't written whole
pub cut-off : (strict is_query : Bool) (line : List ℕ) (s : State) (f : Stored) (text : List ℕ)
    (ended : Option Status) (s' : State) (f' : Stored) → RanLine strict line s f text ended s' f'
    → (bytes : List ℕ) → bytes ≡ (if is_query || is_some ended then first_line text else [])
    → (h h' : Known) → TookPart h h' bytes
    → CutLine strict is_query WriteFault line s f h s' f' h'
cut-off strict is_query line s f text ended s' f' ran bytes b h h' took =
    cut_of strict is_query line s f bytes s' f' h h' ran.answer ran.step
    (shown_is strict is_query ran.answer ended text bytes ran.ended_is ran.text_is b) took

-- a refusal stops the run behind what is shown of it
refusal_stops : (strict : Bool) (status : Status) (reply : Reply) (text : List ℕ)
    → IsRefusal status → end_of strict (Some reply) ≡ Some status
    → StopsShown strict status reply text (length text) × IsStop status
refusal_stops strict Done reply text refusal e = absurd refusal
refusal_stops strict Refused reply text refusal e = ((refl, e), tt {0})
refusal_stops strict Words reply text refusal e = absurd refusal
refusal_stops strict ReadFault reply text refusal e = absurd refusal
refusal_stops strict WriteFault reply text refusal e = absurd refusal
refusal_stops strict NoMemory reply text refusal e = absurd refusal
refusal_stops strict TooLong reply text refusal e = absurd refusal
refusal_stops strict MemoryRefused reply text refusal e = ((refl, e), tt {0})

stop_of : (strict is_query : Bool) (status : Status) (line : List ℕ) (s : State) (f : Stored)
    (bytes : List ℕ) (s' : State) (f' : Stored) (h h' : Known) (answer : Option Reply)
    → LineStep s f line answer s' f' → bytes ≡ shown strict is_query answer
    → end_of strict answer ≡ Some status → IsRefusal status → Appends h h' bytes
    → CutLine strict is_query status line s f h s' f' h'
stop_of strict is_query status line s f bytes s' f' h h' None step is ends refusal put =
    let clash : None ≡ Some status = ends in cc
stop_of strict is_query status line s f bytes s' f' h h' (Some reply) step is ends refusal put =
    let text = shown strict is_query (Some reply) in
    let stops = refusal_stops strict status reply text refusal ends in
    record {
      reply = reply;
      step = step;
      count = length text;
      stops = stops.0;
      is_stop = stops.1;
      written = subst (λ t. Appends h h' t) (is ∙ sym (take-length text)) put;
    }

-- the refusal was shown, and the run ends there
pub stopped : (strict is_query : Bool) (status : Status) (line : List ℕ) (s : State) (f : Stored)
    (text : List ℕ) (ended : Option Status) (s' : State) (f' : Stored)
    → RanLine strict line s f text ended s' f' → ended ≡ Some status → IfSome ended IsRefusal
    → (bytes : List ℕ) → bytes ≡ (if is_query || is_some ended then first_line text else [])
    → (h h' : Known) → Appends h h' bytes → CutLine strict is_query status line s f h s' f' h'
stopped strict is_query status line s f text ended s' f' ran is refused bytes b h h' put =
    stop_of strict is_query status line s f bytes s' f' h h' ran.answer ran.step
    (shown_is strict is_query ran.answer ended text bytes ran.ended_is ran.text_is b)
    (sym ran.ended_is ∙ is) (is-refusal ended status is refused) put

-- ---- the lines of a workload

-- before the first line
pub work-begun : (strict : Bool) (seed : ℕ) (files : Stored) (held : Known) (s : State)
    → s ≡ empty → Worked strict seed files held 0 0 s files held
work-begun strict seed files held s e = record {
  answers = [];
  performed = record {
    session = (refl, record { state = e; files = refl });
    going = All-nil (λ answer. end_of strict answer ≡ None);
  };
  written = Appends-nil held;
  refused_is = refl;
  within = omega arith;
}

-- one line more of the workload
take_more : (seed at : ℕ) → at < 2010
    → take at (workload seed) ++ line_at seed at ∷ [] ≡ take (at + 1) (workload seed)
take_more seed at below =
    sym (ap (λ k. take k (workload seed)) (sym (suc-eq-add-one at))
    ∙ take-suc (workload seed) at (silent []) (omega (arith, below, length-workload seed)))

performed_more : (strict : Bool) (files : Stored) (lines : List WorkLine)
    (answers : List (Option Reply)) (s : State) (f : Stored) (line : WorkLine)
    (answer : Option Reply) (s' : State) (f' : Stored)
    → Performed strict files lines answers s f → LineStep s f line.text answer s' f'
    → end_of strict answer ≡ None
    → Performed strict files (lines ++ line ∷ []) (answers ++ answer ∷ []) s' f'
performed_more strict files lines answers s f line answer s' f' p step next = record {
  session = subst (λ texts. Session empty files texts (answers ++ answer ∷ []) s' f')
      (sym (map-append (λ l. l.text) lines (line ∷ [])))
      (session-more empty files (map (λ l. l.text) lines) answers s f line.text answer s' f'
      p.session step);
  going = goes-on strict answers answer p.going next;
}

written_more : (strict : Bool) (files : Stored) (held : Known) (lines : List WorkLine)
    (answers : List (Option Reply)) (s : State) (f : Stored) (h : Known) (line : WorkLine)
    (answer : Option Reply) (h' : Known)
    → Performed strict files lines answers s f
    → Appends held h (shown_texts strict lines answers)
    → Appends h h' (shown strict line.is_query answer)
    → Appends held h' (shown_texts strict (lines ++ line ∷ []) (answers ++ answer ∷ []))
written_more strict files held lines answers s f h line answer h' p before now =
    let many : length answers ≡ length lines =
    session-length empty files (map (λ l. l.text) lines) answers s f p.session
    ∙ length-map lines (λ l. l.text) in
    subst (λ t. Appends held h' t) (shown-more strict lines answers line answer many)
    (Appends-trans held h h' (shown_texts strict lines answers)
    (shown strict line.is_query answer) before now)

-- one line more was run
work_more : (strict : Bool) (seed : ℕ) (files : Stored) (held : Known) (at refused : ℕ)
    (s : State) (f : Stored) (h : Known)
    (w : Worked strict seed files held at refused s f h) (is : Bool) (s' : State) (f' : Stored)
    (h' : Known) → at < 2010
    → (l : ShowedLine strict (line_at seed at).is_query (line_at seed at).text is s f h s' f' h')
    → (now : ℕ) → now ≡ refused_count (w.answers ++ l.answer ∷ []) → now ≤ at + 1
    → Worked strict seed files held (at + 1) now s' f' h'
work_more strict seed files held at refused s f h w is s' f' h' below l now e within =
    let lines = take at (workload seed) in
    let line = line_at seed at in
    let more = take_more seed at below in
    record {
      answers = w.answers ++ l.answer ∷ [];
      performed = subst (λ ls. Performed strict files ls (w.answers ++ l.answer ∷ []) s' f') more
          (performed_more strict files lines w.answers s f line l.answer s' f' w.performed l.step
          l.goes_on);
      written = subst (λ ls. Appends held h' (shown_texts strict ls (w.answers ++ l.answer ∷ [])))
          more
          (written_more strict files held lines w.answers s f h line l.answer h' w.performed
          w.written l.written);
      refused_is = e;
      within = within;
    }

-- one that was refused
pub work-refused : (strict : Bool) (seed : ℕ) (files : Stored) (held : Known) (at refused : ℕ)
    (s : State) (f : Stored) (h : Known) → Worked strict seed files held at refused s f h
    → (is : Bool) (s' : State) (f' : Stored) (h' : Known) → at < 2010
    → ShowedLine strict (line_at seed at).is_query (line_at seed at).text is s f h s' f' h'
    → is ≡ true → (now : ℕ) → now ≡ refused + 1
    → Worked strict seed files held (at + 1) now s' f' h'
work-refused strict seed files held at refused s f h w is s' f' h' below l is_refusal now e =
    work_more strict seed files held at refused s f h w is s' f' h' below l now
    (e ∙ ap (λ (n : ℕ). n + 1) w.refused_is
    ∙ refused-more w.answers l.answer (sym l.refused_is ∙ is_refusal))
    (omega (arith, w.within, e))

-- one that wasn't
pub work-answered : (strict : Bool) (seed : ℕ) (files : Stored) (held : Known) (at refused : ℕ)
    (s : State) (f : Stored) (h : Known) → Worked strict seed files held at refused s f h
    → (is : Bool) (s' : State) (f' : Stored) (h' : Known) → at < 2010
    → ShowedLine strict (line_at seed at).is_query (line_at seed at).text is s f h s' f' h'
    → is ≡ false → (now : ℕ) → now ≡ refused
    → Worked strict seed files held (at + 1) now s' f' h'
work-answered strict seed files held at refused s f h w is s' f' h' below l is_none now e =
    work_more strict seed files held at refused s f h w is s' f' h' below l now
    (e ∙ w.refused_is ∙ answered-more w.answers l.answer (sym l.refused_is ∙ is_none))
    (omega (arith, w.within, e))

-- the reply to one line ended the run
pub work-cut : (strict : Bool) (seed : ℕ) (files : Stored) (held : Known) (at refused : ℕ)
    (s : State) (f : Stored) (h : Known) → Worked strict seed files held at refused s f h
    → (status : Status) (s' : State) (f' : Stored) (h' : Known) → at < 2010
    → CutLine strict (line_at seed at).is_query status (line_at seed at).text s f h s' f' h'
    → EndsAtLine strict seed status files held f' h'
work-cut strict seed files held at refused s f h w status s' f' h' below l =
    let lines = workload seed in
    let inside : at < length lines = omega (arith, below, length-workload seed) in
    record {
      lines = take at lines;
      line = line_at seed at;
      later = drop (suc at) lines;
      split = sym (take-append-drop at lines)
          ∙ ap (λ rest. take at lines ++ rest) (drop-cons lines at (silent []) inside);
      answers = w.answers;
      state = s;
      middle = f;
      performed = w.performed;
      reply = l.reply;
      after = s';
      step = l.step;
      count = l.count;
      stops = l.stops;
      written = Appends-trans held h h' (shown_texts strict (take at lines) w.answers) _ w.written
          l.written;
    }

-- ---- the summary

whole_lines : (seed : ℕ) → take 2010 (workload seed) ≡ workload seed
whole_lines seed = take_all 2010 (workload seed) (omega (arith, length-workload seed))

summary_is : (seed refused : ℕ) (answers : List (Option Reply)) → refused ≡ refused_count answers
    → summary 2010 refused ≡ summary_of seed answers
summary_is seed refused answers e =
    ap (λ n. summary n refused) (sym (length-workload seed))
    ∙ ap (λ n. summary (length (workload seed)) n) e

-- it was written
pub work-done : (strict : Bool) (seed : ℕ) (files : Stored) (held : Known) (refused : ℕ)
    (s : State) (f : Stored) (h h' : Known) → Worked strict seed files held 2010 refused s f h
    → Appends h h' (summary 2010 refused) → EndsWhole strict seed files held f h'
work-done strict seed files held refused s f h h' w put = record {
  answers = w.answers;
  state = s;
  performed = subst (λ lines. Performed strict files lines w.answers s f) (whole_lines seed)
      w.performed;
  written = Appends-trans held h h' (shown_texts strict (workload seed) w.answers) _
      (subst (λ lines. Appends held h (shown_texts strict lines w.answers)) (whole_lines seed)
      w.written)
      (subst (λ t. Appends h h' t) (summary_is seed refused w.answers w.refused_is) put);
}

-- it wasn't written whole
pub work-untold : (strict : Bool) (seed : ℕ) (files : Stored) (held : Known) (refused : ℕ)
    (s : State) (f : Stored) (h h' : Known) → Worked strict seed files held 2010 refused s f h
    → TookPart h h' (summary 2010 refused) → EndsAtSummary strict seed files held f h'
work-untold strict seed files held refused s f h h' w took =
    let is = summary_is seed refused w.answers w.refused_is in
    record {
      answers = w.answers;
      state = s;
      performed = subst (λ lines. Performed strict files lines w.answers s f) (whole_lines seed)
          w.performed;
      count = took.count;
      short = subst (λ t. took.count < length t) is took.short;
      written = Appends-trans held h h' (shown_texts strict (workload seed) w.answers) _
          (subst (λ lines. Appends held h (shown_texts strict lines w.answers)) (whole_lines seed)
          w.written)
          (subst (λ t. Appends h h' (take took.count t)) is took.held);
    }

-- a run that ended at a line ended as its status says
pub ended-at-line : (strict : Bool) (seed : ℕ) (status : Status) (old new : Outside)
    → IsStop status → EndsAtLine strict seed status old.files old.held new.files new.held
    → EndsWorkload strict seed status old new
ended-at-line strict seed Done old new stop ends = absurd stop
ended-at-line strict seed Refused old new stop ends = ends
ended-at-line strict seed Words old new stop ends = absurd stop
ended-at-line strict seed ReadFault old new stop ends = absurd stop
ended-at-line strict seed WriteFault old new stop ends = inl ends
ended-at-line strict seed NoMemory old new stop ends = absurd stop
ended-at-line strict seed TooLong old new stop ends = absurd stop
ended-at-line strict seed MemoryRefused old new stop ends = ends
