-- Reading lines one after the other, as a loop does.
use Rattle.std.proofs.Common.{◌≡◌, ℕ, suc, ◌-◌, ◌+◌, ◌≤◌, ◌<◌, List, [], ◌∷◌, ◌++◌, Result, Ok, Err, refl, sym, ap, ◌∙◌, append_assoc, arith}
use Rattle.std.proofs.lemmas.List.{append-nil}
use Rattle.graph_text.specs.declared.fault.Fault.{Fault}
use Rattle.graph_text.specs.declared.fault.TextRefusal.{TextRefusal}
use Rattle.graph_text.specs.declared.fault.TextRefusal.TheVariants.{At, NoMemory}
use Rattle.graph_text.specs.Gives.{Refuses}
use Rattle.graph_text.specs.Lines.{Line, Unread}
use Rattle.graph_text.specs.Reading.{◌>>=◌, line_of, many_of}

-- what was read before, and what is still read
abbrev pub with_front : {A : Type 0} → List A → Result (List A × Unread) Fault
    → Result (List A × Unread) Fault
with_front front read = read >>= λ x. Ok (front ++ x.0, x.1)

regroup : {A : Type 0} (front : List A) (n : A) (read : Result (List A × Unread) Fault)
    → with_front front (read >>= λ x. Ok (n ∷ x.0, x.1)) ≡ with_front (front ++ n ∷ []) read
regroup {A = A} front n (Ok x) = ap (λ (ns : List A). Ok (ns, x.1)) (simp append_assoc)
regroup front n (Err f) = refl

-- one line more
pub goes_on : {A : Type 0} (read : Line → Result A Fault) (front : List A) (count i : ℕ)
    (left : Unread) (line : Line) (after : Unread) (x : A) (total : Result (List A × Unread) Fault)
    → i < count → line_of left ≡ Ok (line, after) → read line ≡ Ok x
    → with_front front (many_of read (count - i) left) ≡ total
    → with_front (front ++ x ∷ []) (many_of read (count - (i + 1)) after) ≡ total
unfolding many_of
goes_on read front count i left line after x total lt h is so_far =
    let k : count - i ≡ suc (count - (i + 1)) = omega arith in
    let one : with_front front (many_of read (count - i) left)
    ≡ with_front (front ++ x ∷ []) (many_of read (count - (i + 1)) after) =
    rw (k, h, is) (regroup front x (many_of read (count - (i + 1)) after)) in
    sym one ∙ so_far

-- no line, for this fault
pub no_line : {A : Type 0} (read : Line → Result A Fault) (front : List A) (count i : ℕ)
    (left : Unread) (fault : Fault) (total : Result (List A × Unread) Fault)
    → i < count → line_of left ≡ Err fault
    → with_front front (many_of read (count - i) left) ≡ total → total ≡ Err fault
unfolding many_of
no_line read front count i left fault total lt h so_far =
    let k : count - i ≡ suc (count - (i + 1)) = omega arith in
    let one : with_front front (many_of read (count - i) left) ≡ Err fault = rw (k, h) refl in
    sym so_far ∙ one

-- a line with this fault
pub no_item : {A : Type 0} (read : Line → Result A Fault) (front : List A) (count i : ℕ)
    (left : Unread) (line : Line) (after : Unread) (fault : Fault)
    (total : Result (List A × Unread) Fault)
    → i < count → line_of left ≡ Ok (line, after) → read line ≡ Err fault
    → with_front front (many_of read (count - i) left) ≡ total → total ≡ Err fault
unfolding many_of
no_item read front count i left line after fault total lt h is so_far =
    let k : count - i ≡ suc (count - (i + 1)) = omega arith in
    let one : with_front front (many_of read (count - i) left) ≡ Err fault = rw (k, h, is) refl in
    sym so_far ∙ one

-- a line that is refused
pub no_item_refused : {A : Type 0} (refusal : TextRefusal) (read : Line → Result A Fault)
    (front : List A) (count i : ℕ) (left : Unread) (line : Line) (after : Unread)
    (total : Result (List A × Unread) Fault)
    → i < count → line_of left ≡ Ok (line, after) → Refuses refusal (read line)
    → with_front front (many_of read (count - i) left) ≡ total → Refuses refusal total
no_item_refused (At why number) read front count i left line after total lt h is so_far =
    no_item read front count i left line after (record { kind = why; line = number }) total
    lt h is so_far
no_item_refused NoMemory read front count i left line after total lt h is so_far = tt

-- all lines
pub is_done : {A : Type 0} (read : Line → Result A Fault) (front : List A) (count i : ℕ)
    (left : Unread) (total : Result (List A × Unread) Fault) → count ≤ i
    → with_front front (many_of read (count - i) left) ≡ total → total ≡ Ok (front, left)
unfolding many_of
is_done {A = A} read front count i left total le so_far =
    let k : count - i ≡ 0 = omega arith in
    let one : with_front front (many_of read (count - i) left) ≡ Ok (front, left) =
    rw k (ap (λ (ns : List A). Ok (ns, left)) (append-nil front)) in
    sym so_far ∙ one
