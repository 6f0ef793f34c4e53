-- How the reading of a script gets on, and how it ends.
use Rattle.std.proofs.Common.{◌≡◌, ℕ, ◌+◌, ◌<◌, ◌≤◌, List, [], ◌++◌, refl, ap, sym, ◌∙◌, subst, length, arith, length-append}
use Rattle.std.specs.Prelude.{Bool, Some, None}
use Rattle.std.specs.Io.KnownBytes.{Consumes, Keeps}
use Rattle.std.proofs.KnownBytes.{Consumes-nil, Consumes-trans, Appends-nil}
use Rattle.console_state.specs.State.{State, empty}
use Rattle.leda_edge.specs.Stored.{Stored}
use Rattle.console_run.specs.declared.top.Status.{Status}
use Rattle.console_run.specs.declared.top.Status.TheVariants.{Done, Refused, Words, ReadFault, WriteFault, NoMemory, TooLong, MemoryRefused}
use Rattle.console_run.specs.Strict.{IsStop}
use Rattle.console_run.specs.Answers.{Known}
use Rattle.console_run.specs.Progress.{Progress, Pumped, ReadWhole, Broken, IsEarly}
use Rattle.console_run.specs.Ends.{Ends, IsUnbegun, outside, Outside, EndsReadFault, EndsAtReply, EndsTooLong}
use Rattle.console_run.proofs.Advances.{begun}

-- nothing was read
pub pumped-start : (strict : Bool) (left : Known) (files : Stored) (held : Known) (s : State)
    (kept : List ℕ)
    → s ≡ empty → kept ≡ []
    → Pumped strict left files held left files held 0 s kept
pumped-start strict left files held s kept e k = record {
  taken = [];
  consumed = Consumes-nil left;
  counted = refl;
  progress = subst (λ t. Progress strict held files [] held files t kept) (sym e)
      (subst (λ bs. Progress strict held files [] held files empty bs) (sym k)
      (begun strict held files (Appends-nil held)));
}

-- one more piece was read and fed
pub pumped-more : (strict : Bool) (left : Known) (files : Stored) (held l1 : Known) (f1 : Stored)
    (h1 : Known)
    (count : ℕ) (s : State) (kept : List ℕ)
    (p : Pumped strict left files held l1 f1 h1 count s kept) (l2 : Known) (f2 : Stored)
    (h2 : Known)
    (t : State) (kept' : List ℕ)
    (n : ℕ) (piece got : List ℕ) → Consumes l1 l2 got → got ≡ piece → length got ≡ n
    → Progress strict held files (p.taken ++ piece) h2 f2 t kept'
    → Pumped strict left files held l2 f2 h2 (count + n) t kept'
pumped-more strict left files held l1 f1 h1 count s kept p l2 f2 h2 t kept' n piece got consumed
    same size progress = record {
      taken = p.taken ++ got;
      consumed = Consumes-trans left l1 l2 p.taken got p.consumed consumed;
      counted = length-append p.taken got ∙ ap (λ (k : ℕ). k + length got) p.counted
          ∙ ap (λ (k : ℕ). count + k) size;
      progress = subst (λ bs. Progress strict held files (p.taken ++ bs) h2 f2 t kept')
          (sym same) progress;
    }

-- a reply was cut off among the lines of a piece
pub cut-ends : (strict : Bool) (status : Status) (left : Known) (files : Stored) (held l1 : Known)
    (f1 : Stored) (h1 : Known)
    (count : ℕ) (s : State) (kept : List ℕ)
    (p : Pumped strict left files held l1 f1 h1 count s kept) (l2 : Known) (f2 : Stored)
    (h2 : Known)
    (n : ℕ) (piece got : List ℕ) → Consumes l1 l2 got → got ≡ piece → length got ≡ n
    → count + n ≤ 1073741824
    → Broken strict status held files (p.taken ++ piece) h2 f2
    → EndsAtReply strict status (outside left files held) (outside l2 f2 h2)
cut-ends strict status left files held l1 f1 h1 count s kept p l2 f2 h2 n piece got consumed same
    size within b =
    let all = subst (λ bs. Broken strict status held files (p.taken ++ bs) h2 f2) (sym same) b in
    let long : length (p.taken ++ got) ≡ length p.taken + length got = length-append p.taken got in
    let counted : length p.taken ≡ count = p.counted in
    record {
      taken = p.taken ++ got;
      consumed = Consumes-trans left l1 l2 p.taken got p.consumed consumed;
      within = omega arith;
      lines = all.lines;
      line = all.line;
      later = all.later;
      split = all.split;
      broke = all.broke;
    }

-- the reply to the last line was cut off
pub last-cut-ends : (strict : Bool) (status : Status) (left : Known) (files : Stored)
    (held l1 : Known) (f1 : Stored) (h1 : Known)
    (s : State) (kept : List ℕ)
    (w : ReadWhole strict left files held l1 f1 h1 s kept) (f2 : Stored) (h2 : Known)
    → Broken strict status held files w.pumped.taken h2 f2
    → EndsAtReply strict status (outside left files held) (outside l1 f2 h2)
last-cut-ends strict status left files held l1 f1 h1 s kept w f2 h2 b =
    let counted : length w.pumped.taken ≡ w.count = w.pumped.counted in
    let few : w.count ≤ 1073741824 = w.within in
    record {
      taken = w.pumped.taken;
      consumed = w.pumped.consumed;
      within = omega arith;
      lines = b.lines;
      line = b.line;
      later = b.later;
      split = b.split;
      broke = b.broke;
    }

-- one read more gave a byte
pub too-long : (strict : Bool) (left : Known) (files : Stored) (held l1 : Known) (f1 : Stored)
    (h1 : Known)
    (count : ℕ) (s : State) (kept : List ℕ)
    (p : Pumped strict left files held l1 f1 h1 count s kept) (l2 : Known) (more : List ℕ)
    → Consumes l1 l2 more
    → count ≡ 1073741824 → 0 < length more
    → EndsTooLong strict (outside left files held) (outside l2 f1 h1)
too-long strict left files held l1 f1 h1 count s kept p l2 more consumed full beyond = record {
  taken = p.taken;
  more = more;
  consumed = Consumes-trans left l1 l2 p.taken more p.consumed consumed;
  full = p.counted ∙ full;
  beyond = beyond;
  lines = p.progress.lines;
  unfinished = p.progress.rest;
  split = p.progress.split;
  answered = record {
    answers = p.progress.answers;
    state = s;
    session = p.progress.session;
    going = p.progress.going;
    written = p.progress.written;
  };
}

-- what was consumed is consumed still where known bytes stay as they were
keeps-consumed : (left l1 l2 : Known) (taken : List ℕ) → Consumes left l1 taken → Keeps l1 l2
    → Consumes left l2 taken
keeps-consumed None l1 l2 taken consumed kept = tt
keeps-consumed (Some xs) None l2 taken consumed kept = absurd consumed
keeps-consumed (Some xs) (Some ys) None taken consumed kept = absurd kept
keeps-consumed (Some xs) (Some ys) (Some zs) taken consumed kept =
    consumed ∙ ap (λ rest. taken ++ rest) (sym kept)

-- a read failed: the lines that were ended before are answered
pub fault-ends : (strict : Bool) (left : Known) (files : Stored) (held l1 : Known) (f1 : Stored)
    (h1 : Known)
    (count : ℕ) (s : State) (kept : List ℕ)
    (p : Pumped strict left files held l1 f1 h1 count s kept) (l2 : Known)
    → Keeps l1 l2 → count ≤ 1073741824
    → EndsReadFault strict (outside left files held) (outside l2 f1 h1)
fault-ends strict left files held l1 f1 h1 count s kept p l2 same few =
    let counted : length p.taken ≡ count = p.counted in
    record {
      taken = p.taken;
      consumed = keeps-consumed left l1 l2 p.taken p.consumed same;
      within = omega (arith, counted, few);
      lines = p.progress.lines;
      unfinished = p.progress.rest;
      split = p.progress.split;
      answered = record {
        answers = p.progress.answers;
        state = s;
        session = p.progress.session;
        going = p.progress.going;
        written = p.progress.written;
      };
    }

-- a run that ended at a reply ended as its status says
pub ended-at-reply : (strict : Bool) (status : Status) (old new : Outside) → IsStop status
    → EndsAtReply strict status old new → Ends strict status old new
ended-at-reply strict Done old new stop ends = absurd stop
ended-at-reply strict Refused old new stop ends = ends
ended-at-reply strict Words old new stop ends = absurd stop
ended-at-reply strict ReadFault old new stop ends = absurd stop
ended-at-reply strict WriteFault old new stop ends = ends
ended-at-reply strict NoMemory old new stop ends = absurd stop
ended-at-reply strict TooLong old new stop ends = absurd stop
ended-at-reply strict MemoryRefused old new stop ends = ends

-- it did begin
pub stop-begun : (status : Status) → IsStop status → IsUnbegun status → ⊥
stop-begun Done stop unbegun = unbegun
stop-begun Refused stop unbegun = unbegun
stop-begun Words stop unbegun = stop
stop-begun ReadFault stop unbegun = unbegun
stop-begun WriteFault stop unbegun = unbegun
stop-begun NoMemory stop unbegun = stop
stop-begun TooLong stop unbegun = unbegun
stop-begun MemoryRefused stop unbegun = unbegun

-- and ended before its script did
pub stop-early : (status : Status) → IsStop status → IsEarly status
stop-early Done stop = absurd stop
stop-early Refused stop = tt {0}
stop-early Words stop = absurd stop
stop-early ReadFault stop = absurd stop
stop-early WriteFault stop = tt {0}
stop-early NoMemory stop = absurd stop
stop-early TooLong stop = absurd stop
stop-early MemoryRefused stop = tt {0}
