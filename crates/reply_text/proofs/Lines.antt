-- Texts, one behind another.
use Rattle.std.proofs.Common.{◌≡◌, ◌≤◌, ◌∙◌, sym, ap, arith, subst, ℕ, List, [], ◌++◌, vec_capacity}
use Rattle.std.specs.Prelude.{Result, Ok, Err, OnOk}
use Rattle.std.specs.List.{flat_map}
use Rattle.std.proofs.lemmas.List.{append-nil, append_assoc}
use Rattle.std.proofs.lemmas.Grind.{flat_map-append}
use Rattle.std.specs.declared.vec.Vec.{Vec}
use Rattle.std.specs.declared.alloc.Global.{Global}
use Rattle.reply_text.specs.Appending.{Appends}

on_ok : {T E P Q : Type 0} (r : Result T E) → (P → Q) → OnOk r P → OnOk r Q
on_ok (Ok v) f p = f p
on_ok (Err e) f p = p

-- a text, and one behind it
together : (old x y mid new : List ℕ) → mid ≡ old ++ x → new ≡ mid ++ y → new ≡ old ++ (x ++ y)
together old x y mid new first second =
    second ∙ ap (λ (front : List ℕ). front ++ y) first ∙ append_assoc old x y

pub behind : {T E : Type 0} (old mid new : Vec ℕ Global) (r : Result T E) (x y : List ℕ)
    → mid.items ≡ old.items ++ x → vec_capacity old ≤ vec_capacity mid
    → Appends y mid new r → Appends (x ++ y) old new r
behind old mid new r x y first room last = record {
  whole = on_ok r (together old.items x y mid.items new.items first) last.whole;
  front = (x ++ last.front.0, together old.items x last.front.0 mid.items new.items first last.front.1);
  capacity = let end = last.capacity in omega (arith, room, end);
}

-- nothing behind a text
pub at_end : {T E : Type 0} (old new : Vec ℕ Global) (r : Result T E) (x : List ℕ)
    → Appends x old new r → Appends (x ++ []) old new r
at_end old new r x = subst (λ (text : List ℕ). Appends text old new r) (sym (append-nil x))

-- lists by their texts, one behind the other
pub lists_behind : {X T E : Type 0} (f : X → List ℕ) (old mid new : Vec ℕ Global) (r : Result T E) (xs ys : List X)
    → mid.items ≡ old.items ++ flat_map f xs → vec_capacity old ≤ vec_capacity mid
    → Appends (flat_map f ys) mid new r → Appends (flat_map f (xs ++ ys)) old new r
lists_behind f old mid new r xs ys first room last =
    subst (λ (text : List ℕ). Appends text old new r) (sym (flat_map-append f xs ys))
    (behind old mid new r (flat_map f xs) (flat_map f ys) first room last)
