-- How a run gets on: by a line that ends, by bytes that end none, and by a reply that is cut off.
use Rattle.std.proofs.Common.{◌≡◌, ℕ, ◌+◌, List, [], ◌∷◌, ◌++◌, refl, ap, sym, ◌∙◌, subst, append_assoc, take, drop}
use Rattle.std.specs.Prelude.{Bool, Option, None, Some}
use Rattle.std.specs.List.{slice_range}
use Rattle.std.proofs.lemmas.List.{take-append-drop}
use Rattle.std.proofs.lemmas.List.Elements.{All-append, All-cons, All-nil}
use Rattle.std.specs.Io.KnownBytes.{Appends}
use Rattle.std.proofs.KnownBytes.{Appends-trans}
use Rattle.std.proofs.Math.Seq.{take-nil}
use Rattle.script_text.specs.Line.{line_of, kept_most, kept_of}
use Rattle.script_text.proofs.Kept.{line_of-kept}
use Rattle.reply_text.specs.declared.reply.Reply.{Reply}
use Rattle.console_state.specs.State.{State, empty}
use Rattle.leda_edge.specs.Stored.{Stored}
use Rattle.console_run.specs.Lines.{is_line_end, IsPlain, lines_of}
use Rattle.console_run.specs.declared.top.Status.{Status}
use Rattle.console_run.specs.Strict.{GoesOn, end_of}
use Rattle.console_run.specs.Session.{Meets, LineStep, Session, answer_text, texts}
use Rattle.console_run.specs.Answers.{Known, Answered, BrokeOff}
use Rattle.console_run.specs.Progress.{EndsLine, WroteReply, CutReply, Progress, Broken}
use Rattle.console_run.proofs.Splits.{split-append, lines-ended, lines-unended}
use Rattle.console_run.proofs.Steps.{session-more, texts-more}

-- what is kept of a line is run as the line
of_line : (s : State) (f : Stored) (kept line : List ℕ) (answer : Option Reply) (s' : State)
    (f' : Stored)
    → kept ≡ kept_of line → LineStep s f kept answer s' f' → LineStep s f line answer s' f'
of_line s f kept line answer s' f' e step =
    subst (λ m. Meets m s f answer s' f') (ap line_of e ∙ line_of-kept line) step

-- the run goes on behind one more answer
pub goes-on : (strict : Bool) (answers : List (Option Reply)) (answer : Option Reply)
    → GoesOn strict answers → end_of strict answer ≡ None → GoesOn strict (answers ++ answer ∷ [])
goes-on strict answers answer going next =
    let ends : Option Reply → Type 0 = λ a. end_of strict a ≡ None in
    All-append ends answers (answer ∷ []) going (All-cons ends answer [] next (All-nil ends))

-- nothing taken, nothing done
pub begun : (strict : Bool) (held : Known) (files : Stored) → Appends held held []
    → Progress strict held files [] held files empty []
begun strict held files none = record {
  lines = [];
  rest = [];
  answers = [];
  split = refl;
  session = (refl, record { state = refl; files = refl });
  going = All-nil (λ answer. end_of strict answer ≡ None);
  written = none;
  kept_is = sym (take-nil kept_most);
}

-- bytes that end no line
pub plain-bytes : (strict : Bool) (held : Known) (files : Stored) (taken : List ℕ) (h : Known)
    (f : Stored)
    (s : State) (kept : List ℕ)
    (p : Progress strict held files taken h f s kept) (bytes kept' : List ℕ) → IsPlain bytes
    → kept' ≡ kept_of (p.rest ++ bytes) → Progress strict held files (taken ++ bytes) h f s kept'
plain-bytes strict held files taken h f s kept p bytes kept' plain k = record {
  lines = p.lines;
  rest = p.rest ++ bytes;
  answers = p.answers;
  split = split-append is_line_end taken bytes p.lines p.rest bytes [] p.split
      (lines-unended bytes plain);
  session = p.session;
  going = p.going;
  written = p.written;
  kept_is = k;
}

-- a line that ends, and its reply
pub line-answered : (strict : Bool) (held : Known) (files : Stored) (taken : List ℕ) (h : Known)
    (f : Stored)
    (s : State) (kept : List ℕ)
    (p : Progress strict held files taken h f s kept) (line kept' : List ℕ) → IsPlain line
    → kept' ≡ kept_of (p.rest ++ line) → (h' : Known) (f' : Stored) (s' : State)
    → WroteReply strict kept' s f h s' f' h'
    → Progress strict held files (taken ++ (line ++ 10 ∷ [])) h' f' s' []
line-answered strict held files taken h f s kept p line kept' plain k h' f' s' w =
    let whole = p.rest ++ line in
    record {
      lines = p.lines ++ whole ∷ [];
      rest = [];
      answers = p.answers ++ w.answer ∷ [];
      split = split-append is_line_end taken (line ++ 10 ∷ []) p.lines p.rest line
          ([] ∷ []) p.split (lines-ended line [] plain)
          ∙ sym (append_assoc p.lines (whole ∷ []) ([] ∷ []));
      session = session-more empty files p.lines p.answers s f whole w.answer s' f' p.session
          (of_line s f kept' whole w.answer s' f' k w.step);
      going = goes-on strict p.answers w.answer p.going w.goes_on;
      written = subst (λ t. Appends held h' t) (texts-more p.answers w.answer)
          (Appends-trans held h h' (texts p.answers) (answer_text w.answer) p.written w.written);
      kept_is = sym (take-nil kept_most);
    }

-- a line whose reply is cut off
cut_off : (strict : Bool) (status : Status) (held : Known) (files : Stored) (taken : List ℕ)
    (h : Known) (f : Stored) (s : State)
    (kept : List ℕ)
    (p : Progress strict held files taken h f s kept) (line kept' : List ℕ) → kept' ≡ kept_of line
    → (h' : Known) (f' : Stored) (s' : State) → CutReply strict status kept' s f h s' f' h'
    → BrokeOff strict status files held p.lines line f' h'
cut_off strict status held files taken h f s kept p line kept' k h' f' s' w = record {
  answers = p.answers;
  state = s;
  middle = f;
  session = p.session;
  going = p.going;
  reply = w.reply;
  after = s';
  step = of_line s f kept' line (Some w.reply) s' f' k w.step;
  count = w.count;
  stops = w.stops;
  written = Appends-trans held h h' (texts p.answers) _ p.written w.written;
}

-- the reply to a line is cut off, which ended before more bytes that were taken
pub line-cut : (strict : Bool) (status : Status) (held : Known) (files : Stored) (taken : List ℕ)
    (h : Known) (f : Stored)
    (s : State) (kept : List ℕ)
    (p : Progress strict held files taken h f s kept) (line more kept' : List ℕ) → IsPlain line
    → kept' ≡ kept_of (p.rest ++ line) → (h' : Known) (f' : Stored) (s' : State)
    → CutReply strict status kept' s f h s' f' h'
    → Broken strict status held files (taken ++ (line ++ 10 ∷ more)) h' f'
line-cut strict status held files taken h f s kept p line more kept' plain k h' f' s' w = record {
  lines = p.lines;
  line = p.rest ++ line;
  later = lines_of more;
  split = split-append is_line_end taken (line ++ 10 ∷ more) p.lines p.rest line
      (lines_of more) p.split (lines-ended line more plain);
  is_stop = w.is_stop;
  broke = cut_off strict status held files taken h f s kept p (p.rest ++ line) kept' k h' f' s' w;
}

-- the last line is answered
pub last-answered : (strict : Bool) (held : Known) (files : Stored) (taken : List ℕ) (h : Known)
    (f : Stored)
    (s : State) (kept : List ℕ)
    (p : Progress strict held files taken h f s kept) (h' : Known) (f' : Stored) (s' : State)
    → WroteReply strict kept s f h s' f' h'
    → Answered strict files held (lines_of taken) f' h'
last-answered strict held files taken h f s kept p h' f' s' w = record {
  answers = p.answers ++ w.answer ∷ [];
  state = s';
  session = subst (λ ls. Session empty files ls (p.answers ++ w.answer ∷ []) s' f') (sym p.split)
      (session-more empty files p.lines p.answers s f p.rest w.answer s' f' p.session
      (of_line s f kept p.rest w.answer s' f' p.kept_is w.step));
  going = goes-on strict p.answers w.answer p.going w.goes_on;
  written = subst (λ t. Appends held h' t) (texts-more p.answers w.answer)
      (Appends-trans held h h' (texts p.answers) (answer_text w.answer) p.written w.written);
}

-- the reply to the last line is cut off
pub last-cut : (strict : Bool) (status : Status) (held : Known) (files : Stored) (taken : List ℕ)
    (h : Known) (f : Stored)
    (s : State) (kept : List ℕ)
    (p : Progress strict held files taken h f s kept) (h' : Known) (f' : Stored) (s' : State)
    → CutReply strict status kept s f h s' f' h'
    → Broken strict status held files taken h' f'
last-cut strict status held files taken h f s kept p h' f' s' w = record {
  lines = p.lines;
  line = p.rest;
  later = [];
  split = p.split;
  is_stop = w.is_stop;
  broke = cut_off strict status held files taken h f s kept p p.rest kept p.kept_is h' f' s' w;
}

-- a step of a piece: the line that ends next, gathered, and its reply
pub line-fed : (strict : Bool) (held : Known) (files : Stored) (taken piece : List ℕ) (at end : ℕ)
    (h : Known)
    (f : Stored) (s : State) (kept : List ℕ)
    → Progress strict held files (taken ++ take at piece) h f s kept → EndsLine piece at end
    → (t : State) (kept' : List ℕ) → t ≡ s
    → ((line : List ℕ) → kept ≡ kept_of line
    → kept' ≡ kept_of (line ++ slice_range piece at end))
    → (h' : Known) (f' : Stored) (s' : State) (none : List ℕ)
    → WroteReply strict kept' t f h s' f' h'
    → none ≡ []
    → Progress strict held files (taken ++ take (end + 1) piece) h' f' s' none
line-fed strict held files taken piece at end h f s kept p ends t kept' same gathers h' f' s' none w
    e =
    let wrote = subst (λ u. WroteReply strict kept' u f h s' f' h') same w in
    let q = line-answered strict held files (taken ++ take at piece) h f s kept p
    (slice_range piece at end) kept' ends.plain (gathers p.rest p.kept_is) h' f' s' wrote in
    let front = append_assoc taken (take at piece) (slice_range piece at end ++ 10 ∷ [])
    ∙ ap (λ bs. taken ++ bs) (sym ends.taken) in
    subst (λ bs. Progress strict held files bs h' f' s' none) front
    (subst (λ bs. Progress strict held files ((taken ++ take at piece) ++
    (slice_range piece at end ++ 10 ∷ [])) h' f' s' bs) (sym e) q)

-- the same, where the reply is cut off
pub line-fed-cut : (strict : Bool) (status : Status) (held : Known) (files : Stored)
    (taken piece : List ℕ) (at end : ℕ) (h : Known)
    (f : Stored) (s : State) (kept : List ℕ)
    → Progress strict held files (taken ++ take at piece) h f s kept → EndsLine piece at end
    → (t : State) (kept' : List ℕ) → t ≡ s
    → ((line : List ℕ) → kept ≡ kept_of line
    → kept' ≡ kept_of (line ++ slice_range piece at end))
    → (h' : Known) (f' : Stored) (s' : State) → CutReply strict status kept' t f h s' f' h'
    → Broken strict status held files (taken ++ piece) h' f'
line-fed-cut strict status held files taken piece at end h f s kept p ends t kept' same gathers h'
    f' s' w =
    let cut = subst (λ u. CutReply strict status kept' u f h s' f' h') same w in
    let line = slice_range piece at end in
    let b = line-cut strict status held files (taken ++ take at piece) h f s kept p line
    (drop (end + 1) piece) kept' ends.plain (gathers p.rest p.kept_is) h' f' s' cut in
    let all = append_assoc taken (take at piece) (line ++ 10 ∷ drop (end + 1) piece)
    ∙ ap (λ bs. taken ++ bs) (sym ends.whole) in
    subst (λ bs. Broken strict status held files bs h' f') all b

-- the last step of a piece: what ends no line is gathered
pub rest-fed : (strict : Bool) (held : Known) (files : Stored) (taken piece : List ℕ) (at : ℕ)
    (h : Known)
    (f : Stored) (s : State) (kept : List ℕ)
    → Progress strict held files (taken ++ take at piece) h f s kept → IsPlain (drop at piece)
    → (t : State) (kept' : List ℕ) → t ≡ s
    → ((line : List ℕ) → kept ≡ kept_of line → kept' ≡ kept_of (line ++ drop at piece))
    → Progress strict held files (taken ++ piece) h f t kept'
rest-fed strict held files taken piece at h f s kept p plain t kept' same gathers =
    let q = plain-bytes strict held files (taken ++ take at piece) h f s kept p
    (drop at piece) kept' plain (gathers p.rest p.kept_is) in
    let all = append_assoc taken (take at piece) (drop at piece)
    ∙ ap (λ bs. taken ++ bs) (take-append-drop at piece) in
    subst (λ u. Progress strict held files (taken ++ piece) h f u kept') (sym same)
    (subst (λ bs. Progress strict held files bs h f s kept') all q)
