-- What each call of a chain says of the list that reads it. Below, l is the chain before the call, and t the chain after it.
use Rattle.std.proofs.Common.{◌≡◌, ℕ, Bool, true, false, List, reverse, Option, sym, ap, subst, ◌∙◌}
use Rattle.std.proofs.lemmas.List.{reverse-reverse}
use Rattle.std.specs.Prelude.{Result, Ok, Err, IfOk, IfErr}
use Rattle.std.specs.Result.{MatchResult}
use Rattle.item_pool.specs.declared.pool.Gone.{Gone}
use Rattle.item_pool.specs.declared.pool.Item.{Item}
use Rattle.item_pool.specs.declared.pool.InsertRefusal.{InsertRefusal}
use Rattle.item_pool.specs.declared.pool.InsertRefusal.TheVariants as refusal
use Rattle.item_list.specs.declared.node.BesideRefusal.{BesideRefusal}
use Rattle.item_list.specs.declared.node.BesideRefusal.TheVariants as beside
use Rattle.item_ring.specs.RingLists.{IsIn, IsDistinct}
use Rattle.item_list.specs.Items.{Items, items, serials, pairs_without, pairs_with, Holds, HasItem, Lacks, AreItems, Enters, Returns, ReturnsBeside, Removes, Assigns, HasBetween}
use Rattle.item_list.specs.declared.side.Side.{Side}
use Rattle.item_list.specs.Sides.{opposite, toward, with_at, end_of, pairs_beside, MovesTo, IsBeside, IsCyclicBeside}
use Rattle.item_list.specs.Reads.{turned, read}
use Rattle.item_list.proofs.Turned.{at_turned, cut_turned, in_turned_back, distinct_turned, end_turned, near_turned, round_turned, serials_turned, lacks_turned, holds_turned, has_turned, without_turned, with_turned, beside_turned}

-- what follows of each outcome of a call
pub outcomes : {T E : Type 0} (r : Result T E) {P P' : T → Type 0} {Q Q' : E → Type 0} → ((x : T) → P x → P' x) → ((e : E) → Q e → Q' e) → MatchResult r P Q → MatchResult r P' Q'
outcomes (Ok x) f g h = f x h
outcomes (Err e) f g h = g e h

pub if_ok : {T E : Type 0} (r : Result T E) {P P' : T → Type 0} → ((x : T) → P x → P' x) → IfOk r P → IfOk r P'
if_ok (Ok x) f h = f x h
if_ok (Err e) f h = h

pub if_err : {T E : Type 0} (r : Result T E) {Q Q' : E → Type 0} → ((e : E) → Q e → Q' e) → IfErr r Q → IfErr r Q'
if_err (Ok x) f h = h
if_err (Err e) f h = f e h

module _ {X : Type 0} where
  -- what a chain says towards its side, of the list m towards the side of the list
  pub towards : (P : Side → Items X → Items X → Type 0) (b : Bool) (side on : Side) (l t m : Items X) → read b l ≡ m → on ≡ toward b side → P on l t
      → (P (opposite side) l t → P side (turned l) (turned t)) → P side m (read b t)
  towards P false side on l t m is e h f = subst (λ o. P side o t) is (subst (λ d. P d l t) e h)
  towards P true side on l t m is e h f = subst (λ o. P side o (turned t)) is (f (subst (λ d. P d l t) e h))

  -- what a chain says of no side
  pub both_ways : (P : Items X → Items X → Type 0) (b : Bool) (l t m : Items X) → read b l ≡ m → P l t → P (turned l) (turned t) → P m (read b t)
  both_ways P false l t m is f h = subst (λ o. P o t) is f
  both_ways P true l t m is f h = subst (λ o. P o (turned t)) is h

  -- each fact of a chain as one of its pairs in the reverse order
  pub whole : (l : Items X) → AreItems l → AreItems (turned l)
  whole l w = record {
    distinct = subst IsDistinct (sym (serials_turned l.pairs)) (distinct_turned (serials l.pairs) w.distinct);
    given = λ s i. w.given s (in_turned_back s (serials l.pairs) (subst (IsIn s) (serials_turned l.pairs) i));
    most = w.most;
  }

  pub has : (l : Items X) (s : ℕ) → HasItem l s → HasItem (turned l) s
  has l s h = has_turned s h.0 l.pairs h.1

  module _ (l : Items X) (s : ℕ) (why : Gone) where
    pub lacks : Lacks l s why → Lacks (turned l) s why
    lacks h = (lacks_turned s l.pairs h.0, h.1)

    pub lacks_still : (t : Items X) → Lacks l s why × (t ≡ l) → Lacks (turned l) s why × (turned t ≡ turned l)
    lacks_still t h = (lacks h.0, ap turned h.1)

  returns_beside : (l : Items X) (s : ℕ) (x : X) (why : BesideRefusal X) → ReturnsBeside l s x why → ReturnsBeside (turned l) s x why
  returns_beside l s x (beside.Gone y why) h = (h.0, lacks l s why h.1)
  returns_beside l s x (beside.NoMemory y) h = (h.0, has l s h.1, h.2)
  returns_beside l s x (beside.Spent y) h = (h.0, has l s h.1, h.2)

  pub returned_beside : (l t : Items X) (s : ℕ) (x : X) (why : BesideRefusal X) → ReturnsBeside l s x why × (t ≡ l) → ReturnsBeside (turned l) s x why × (turned t ≡ turned l)
  returned_beside l t s x why h = (returns_beside l s x why h.0, ap turned h.1)

  returns : (l : Items X) (x : X) (why : InsertRefusal X) → Returns l x why → Returns (turned l) x why
  returns l x (refusal.NoMemory y) h = h
  returns l x (refusal.Spent y) h = h

  pub returned : (l t : Items X) (x : X) (why : InsertRefusal X) → Returns l x why × (t ≡ l) → Returns (turned l) x why × (turned t ≡ turned l)
  returned l t x why h = (returns l x why h.0, ap turned h.1)

  module _ (l t : Items X) (it : Item) where
    enters : (us vs : List (ℕ × X)) → reverse us ≡ vs → Enters l t it us → Enters (turned l) (turned t) it vs
    enters us vs e h = record { serial = h.serial; pairs = ap reverse h.pairs ∙ e; made = h.made; within = h.within }

    pub enters_at : (side : Side) (q : ℕ × X) → Enters l t it (with_at (opposite side) q l.pairs) → Enters (turned l) (turned t) it (with_at side q (turned l).pairs)
    enters_at side q = enters (with_at (opposite side) q l.pairs) (with_at side q (reverse l.pairs)) (at_turned side q l.pairs)

    pub enters_beside : (w : AreItems l) (side : Side) (s : ℕ) (q : ℕ × X) → HasItem l s × Enters l t it (pairs_beside (opposite side) s q l.pairs)
        → HasItem (turned l) s × Enters (turned l) (turned t) it (pairs_beside side s q (turned l).pairs)
    enters_beside w side s q h = (has l s h.0, enters (pairs_beside (opposite side) s q l.pairs) (pairs_beside side s q (reverse l.pairs)) (beside_turned s h.0.0 q l.pairs w.distinct h.0.1 side) h.1)

  module _ (l : Items X) (w : AreItems l) (s : ℕ) where
    pub holds : (x : X) → Holds l s x → Holds (turned l) s x
    holds x h = holds_turned s x l.pairs w.distinct h

    module _ (t : Items X) where
      now_turned : (us vs : List (ℕ × X)) → reverse us ≡ vs → t ≡ items us l.made → turned t ≡ items vs l.made
      now_turned us vs e is = ap turned is ∙ ap (λ ps. items ps l.made) e

      pub removes : (x : X) → Removes l t s x → Removes (turned l) (turned t) s x
      removes x h = (holds x h.0, now_turned (pairs_without s l.pairs) (pairs_without s (reverse l.pairs)) (sym (without_turned s l.pairs)) h.1)

      pub assigns : (old x : X) → Assigns l t s old x → Assigns (turned l) (turned t) s old x
      assigns old x h = (holds old h.0, now_turned (pairs_with s x l.pairs) (pairs_with s x (reverse l.pairs)) (sym (with_turned s x l.pairs)) h.1)

      pub moves_to : (side : Side) → MovesTo (opposite side) l t s → MovesTo side (turned l) (turned t) s
      moves_to side h =
          let q : ℕ × X = (s, h.0) in
          let e = at_turned side q (pairs_without s l.pairs) ∙ ap (with_at side q) (sym (without_turned s l.pairs)) in
          (h.0, (holds h.0 h.1.0, now_turned (with_at (opposite side) q (pairs_without s l.pairs)) (with_at side q (pairs_without s (reverse l.pairs))) e h.1.1))

  pub end_item : (l : Items X) (side : Side) → end_of (opposite side) (serials l.pairs) ≡ end_of side (serials (turned l).pairs)
  end_item l side = end_turned side (serials l.pairs) ∙ ap (end_of side) (sym (serials_turned l.pairs))

  module _ (l : Items X) (s : ℕ) (side : Side) where
    between : (before behind : List ℕ) → HasBetween (turned l) s before behind → HasBetween l s (reverse behind) (reverse before)
    between before behind h =
        sym (reverse-reverse (serials l.pairs)) ∙ ap reverse (sym (serials_turned l.pairs)) ∙ ap reverse h ∙ cut_turned s before behind

    pub is_beside : (r : Option Item) → IsBeside (opposite side) l s r → IsBeside side (turned l) s r
    is_beside r h = (has l s h.0, λ before behind b. h.1 (reverse behind) (reverse before) (between before behind b) ∙ near_turned side before behind)

    pub is_round : (it : Item) → IsCyclicBeside (opposite side) l s it → IsCyclicBeside side (turned l) s it
    is_round it h = (has l s h.0, λ before behind b. h.1 (reverse behind) (reverse before) (between before behind b) ∙ round_turned side s before behind)
