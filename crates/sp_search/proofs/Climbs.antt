-- Last arcs: which they are, and the way back along them.
use Rattle.std.proofs.Common.{◌≡◌, ◌⊎◌, inl, inr, ℕ, zero, suc, ◌+◌, ◌*◌, ◌<◌, ◌≤◌, ◌^◌, ℤ, pos, ◌+ℤ◌, ◌-ℤ◌, ◌*ℤ◌, ◌≤ℤ◌, ◌<ℤ◌, Bool, true, false, cond, List, [], ◌∷◌, ◌++◌, length, get_or, drop, reverse, set, replicate, refl, sym, ◌∙◌, ap, subst, arith, length-set, length-drop}
use borrow.Author.Differences.{ints}
use Rattle.std.specs.Prelude.{Option, Some, None, MatchBool}
use Rattle.std.proofs.lemmas.Bool.{cases_eq, cases_lt, both_ways}
use Rattle.std.proofs.lemmas.List.{length_push, get_or_push, get_or_append_left, get_or_default, get_or_past, length-replicate, reverse-append}
use Rattle.std.specs.Ordering.{int_cmp}
use Rattle.std.proofs.lemmas.Cmp.{by_ranked, int_ranked}
use Rattle.graph_defs.specs.declared.net.Net.{Net}
use Rattle.graph_defs.specs.declared.shortest.Why.{Why}
use Rattle.graph_defs.specs.declared.shortest.Why.TheVariants.{Seed, Arc}
use Rattle.graph_defs.specs.Net.{source, target}
use Rattle.graph_defs.specs.Shortest.{weight, AreBelow}
use Rattle.graph_defs.specs.Walk.{IsWalk}
use Rattle.graph_defs.proofs.Numbers.{all_false, count_false}
use Rattle.graph_defs.proofs.Walks.{walk_push, walk_there}
use Rattle.graph_defs.proofs.Weights.{arcs_push, weight_append}
use Rattle.sp_search.specs.declared.finding.Found.{Found}
use Rattle.sp_search.specs.declared.tags.Tag.{Tag}
use Rattle.sp_search.specs.Finding.{found_at, is_marked, IsFoundBy, IsFinding, HasGrown, IsClosedAlong}
use Rattle.sp_search.specs.Tags.{far, length_of, tag_at, label_of, IsPriced, IsTaggedBy, IsTagged, AreAbove}
use Rattle.sp_search.specs.Forest.{last_by, last_at, IsRoot, AreLastArcs, IsTreeOf, IsStray, AreMarked, IsClimb, CanClimb, IsLastArc, IsBack, StandsIn, IsTurned, IsLoop}
use Rattle.sp_search.specs.Wide.{IsWide}
use Rattle.sp_search.proofs.Falls.{length_low}
use Rattle.sp_search.proofs.Findings.{mark_same, mark_other, one_less, marked_below, once_push, place_of}

-- ---- last arcs, one by one
last_cases : (net : Net) (tags : List Tag) (k : ℕ) (opened : List Bool) (b : Bool) → AreLastArcs net tags k opened → MatchBool b (last_at net tags k ≡ Some k) (last_at net tags k ≡ Some k → ⊥)
    → (arc : ℕ) → (arc < k) ⊎ (k ≤ arc) → is_marked (opened ++ b ∷ []) arc ≡ true → last_at net tags arc ≡ Some arc
last_cases net tags k opened b h m arc (inl l) t = h.only arc (sym (get_or_append_left opened (b ∷ []) false arc (omega (arith, h.long))) ∙ t)
last_cases net tags k opened b h m arc (inr l) t =
    let n = marked_below (opened ++ b ∷ []) arc t in
    let e : arc ≡ length opened = omega (arith, length_push opened b, h.long) in
    let q : k ≡ arc = omega (arith, h.long) in
    let is : b ≡ true = sym (get_or_push opened b false arc (sym e)) ∙ t in
    let P : ℕ → Type 0 = λ i. last_at net tags i ≡ Some i in
    let Q : Bool → Type 0 = λ c. MatchBool c (last_at net tags k ≡ Some k) (last_at net tags k ≡ Some k → ⊥) in
    let here : last_at net tags k ≡ Some k = subst Q is m in
    subst P q here

isnt : (b : Bool) (P : Type 0) → MatchBool b P (P → ⊥) → P → b ≡ true
isnt true P m p = refl
isnt false P m p = absurd (m p)

all_cases : (net : Net) (tags : List Tag) (k : ℕ) (opened : List Bool) (b : Bool) → AreLastArcs net tags k opened → MatchBool b (last_at net tags k ≡ Some k) (last_at net tags k ≡ Some k → ⊥)
    → (arc : ℕ) → (arc < k) ⊎ (k ≤ arc) → arc < k + 1 → last_at net tags arc ≡ Some arc → is_marked (opened ++ b ∷ []) arc ≡ true
all_cases net tags k opened b h m arc (inl l) n t = get_or_append_left opened (b ∷ []) false arc (omega (arith, h.long)) ∙ h.all arc l t
all_cases net tags k opened b h m arc (inr l) n t =
    let q : arc ≡ k = omega arith in
    let e : arc ≡ length opened = omega (arith, h.long) in
    let P : ℕ → Type 0 = λ i. last_at net tags i ≡ Some i in
    get_or_push opened b false arc (sym e) ∙ isnt b (last_at net tags k ≡ Some k) m (subst P q t)

pub last_more : (net : Net) (tags : List Tag) (k : ℕ) (opened opened' : List Bool) (b : Bool) → AreLastArcs net tags k opened
    → MatchBool b (last_at net tags k ≡ Some k) (last_at net tags k ≡ Some k → ⊥) → opened' ≡ opened ++ b ∷ [] → AreLastArcs net tags (k + 1) opened'
last_more net tags k opened opened' b h m e =
    let P : List Bool → Type 0 = λ xs. AreLastArcs net tags (k + 1) xs in
    subst P (sym e) (record {
      long = omega (arith, length_push opened b, h.long);
      only = λ arc t. last_cases net tags k opened b h m arc (cases_lt arc k) t;
      all = λ arc l t. all_cases net tags k opened b h m arc (cases_lt arc k) l t;
    })

pub last_none : (net : Net) (tags : List Tag) (opened : List Bool) → opened ≡ [] → AreLastArcs net tags 0 opened
last_none net tags opened e =
    let P : List Bool → Type 0 = λ xs. AreLastArcs net tags 0 xs in
    subst P (sym e) (record {
      long = refl;
      only = λ arc t. absurd (let n = marked_below [] arc t in omega arith);
      all = λ arc l t. absurd (omega arith);
    })

-- ---- where the tree begins
pub none_found : (net : Net) (opened : List Bool) → IsFinding net opened [] (replicate net.n false)
none_found net opened = record {
  long = length-replicate {A = Bool} net.n false;
  count = omega (arith, count_false net.n);
  once = λ v. sym (ap (λ (b : Bool). cond {A = ℕ} b 1 0) (all_false net.n v));
  why = λ k l. absurd (omega arith);
}

first_why : (net : Net) (opened : List Bool) (f : Found) (i k : ℕ) → f.why ≡ Seed i → k < 1 → IsFoundBy net opened (f ∷ []) k (found_at (f ∷ []) k) (found_at (f ∷ []) k).why
first_why net opened f i zero e h =
    let P : Why → Type 0 = λ w. IsFoundBy net opened (f ∷ []) 0 f w in
    subst P (sym e) tt
first_why net opened f i (suc k) e h = absurd (omega arith)

pub one_found : (net : Net) (opened : List Bool) (f : Found) (i : ℕ) → f.why ≡ Seed i → f.node < net.n → IsFinding net opened (f ∷ []) (set (replicate net.n false) f.node true)
one_found net opened f i e h =
    let none = none_found net opened in
    let long : f.node < length (replicate net.n false) = omega (arith, none.long) in
    record {
      long = length-set (replicate net.n false) f.node true ∙ none.long;
      count = omega (arith, none.count, one_less (replicate net.n false) f.node long (all_false net.n f.node));
      once = once_push [] (replicate net.n false) f long (all_false net.n f.node) none.once;
      why = λ k l. first_why net opened f i k e l;
    }

pub first_place : (queue : List Found) (f : Found) (k : ℕ) → queue ≡ f ∷ [] → k < length queue → (k ≡ 0) × (found_at queue k ≡ f)
first_place queue f k e h =
    let P : List Found → Type 0 = λ xs. k < length xs in
    let l : k < 1 = subst P e h in
    let z : k ≡ 0 = omega arith in
    (z, ap (found_at queue) z ∙ ap (λ (xs : List Found). found_at xs 0) e)

abbrev first_of : ℕ → Found
first_of s = record { node = s; why = Seed 0; before = 0 }

pub first_is : (net : Net) (opened : List Bool) (s : ℕ) (b : Bool) (queue : List Found) (marks : List Bool) → s < net.n
    → MatchBool b (queue ≡ (record { node = s; why = Seed 0; before = 0 }) ∷ []) (queue ≡ []) → MatchBool b (marks ≡ set (replicate net.n false) s true) (marks ≡ replicate net.n false)
    → IsFinding net opened queue marks
first_is net opened s true queue marks h eq em =
    let P : List Found → Type 0 = λ xs. IsFinding net opened xs marks in
    let Q : List Bool → Type 0 = λ xs. IsFinding net opened (first_of s ∷ []) xs in
    subst P (sym eq) (subst Q (sym em) (one_found net opened (first_of s) 0 refl h))
first_is net opened s false queue marks h eq em =
    let P : List Found → Type 0 = λ xs. IsFinding net opened xs marks in
    let Q : List Bool → Type 0 = λ xs. IsFinding net opened [] xs in
    subst P (sym eq) (subst Q (sym em) (none_found net opened))

pub seed_not_arc : (i arc : ℕ) → Seed i ≡ Arc arc → ⊥
seed_not_arc i arc e = cc

root_cases : (net : Net) (s : ℕ) (tags : List Tag) (b : Bool) (queue : List Found) (marks : List Bool) (queue' : List Found) (marks' : List Bool)
    → MatchBool b (IsRoot tags s) (IsRoot tags s → ⊥) → MatchBool b (queue ≡ first_of s ∷ []) (queue ≡ []) → HasGrown queue marks queue' marks'
    → (k i : ℕ) → (k < length queue) ⊎ (length queue ≤ k) → k < length queue' → (found_at queue' k).why ≡ Seed i → (k ≡ 0) × ((found_at queue' k).node ≡ s) × IsRoot tags s
root_cases net s tags true queue marks queue' marks' r eq g k i (inl l) m e =
    let f = first_place queue (first_of s) k eq l in
    (f.0, ap (λ (x : Found). x.node) (g.same k l ∙ f.1), r)
root_cases net s tags false queue marks queue' marks' r eq g k i (inl l) m e =
    let P : List Found → Type 0 = λ xs. k < length xs in
    let n = subst P eq l in
    absurd (omega arith)
root_cases net s tags b queue marks queue' marks' r eq g k i (inr l) m e =
    let a = g.arcs k l m in
    absurd (seed_not_arc i a.0 (sym e ∙ a.1))

has_cases : (net : Net) (s : ℕ) (tags : List Tag) (b : Bool) (marks : List Bool) → s < net.n → MatchBool b (IsRoot tags s) (IsRoot tags s → ⊥)
    → MatchBool b (marks ≡ set (replicate net.n false) s true) (marks ≡ replicate net.n false) → IsRoot tags s → is_marked marks s ≡ true
has_cases net s tags true marks h r em e =
    ap (λ (xs : List Bool). is_marked xs s) em ∙ mark_same (replicate net.n false) s (omega (arith, length-replicate {A = Bool} net.n false))
has_cases net s tags false marks h r em e = absurd (r e)

pub tree_is : (net : Net) (s : ℕ) (tags : List Tag) (opened : List Bool) (b : Bool) (queue : List Found) (marks : List Bool) (queue' : List Found) (marks' : List Bool) → s < net.n
    → MatchBool b (IsRoot tags s) (IsRoot tags s → ⊥) → MatchBool b (queue ≡ (record { node = s; why = Seed 0; before = 0 }) ∷ []) (queue ≡ [])
    → MatchBool b (marks ≡ set (replicate net.n false) s true) (marks ≡ replicate net.n false)
    → AreLastArcs net tags (length net.arcs) opened → IsFinding net opened queue' marks' → HasGrown queue marks queue' marks' → IsClosedAlong net opened marks'
    → IsTreeOf net s tags queue' marks'
tree_is net s tags opened b queue marks queue' marks' h r eq em lasts is g closed = record {
  opened = opened;
  lasts = lasts;
  is = is;
  closed = closed;
  root = λ k i l e. root_cases net s tags b queue marks queue' marks' r eq g k i (cases_lt k (length queue)) l e;
  has = λ e. g.kept s (has_cases net s tags b marks h r em e);
}

-- ---- the way back from a stray node
module _ (net : Net) (tags : List Tag) where
  back_drop : (u w : ℕ) (xs : List ℕ) (k : ℕ) → IsBack net tags u w xs → k < length xs → IsBack net tags (target net (get_or xs k 0)) w (drop k xs)
  back_drop u w [] k h l = absurd (omega arith)
  back_drop u w (a ∷ xs) zero h l = (h.0, refl, h.2)
  back_drop u w (a ∷ xs) (suc k) h l = back_drop (source net a) w xs k h.2 (omega arith)

  pub back_turn : (u w : ℕ) (xs : List ℕ) → IsBack net tags u w xs → IsWalk net w u (reverse xs)
  back_turn u w [] e = sym e
  back_turn u w (a ∷ xs) h =
      let P : List ℕ → Type 0 = λ ys. IsWalk net w u ys in
      let Q : ℕ → Type 0 = λ v. IsWalk net w v (reverse xs ++ a ∷ []) in
      subst P (sym (reverse-append (a ∷ []) xs)) (subst Q h.1 (arcs_push net w (source net a) a (reverse xs) (back_turn (source net a) w xs h.2) h.0.0 refl))

  pub back_known : (u w : ℕ) (xs : List ℕ) → IsBack net tags u w xs → AreBelow (length net.arcs) xs
  back_known u w xs h k d l =
      let b = walk_there (IsLastArc net tags) (target net) (source net) u w xs k h l in
      let P : ℕ → Type 0 = λ x. x < length net.arcs in
      subst P (get_or_default xs k 0 d l) b.0

less_or_not : (x y : ℤ) → (x <ℤ y) ⊎ (y ≤ℤ x)
less_or_not x y =
    by_ranked (x <ℤ y) (x ≡ y) (y <ℤ x) (int_cmp x y) (int_ranked x y (int_cmp x y) refl) (λ e l. inl l) (λ e l. inr (omega (arith, ints))) (λ e l. inr (omega (arith, ints)))

lengths : List ℤ → List ℕ → ℤ
lengths cost [] = pos 0
lengths cost (arc ∷ arcs) = length_of cost arc +ℤ lengths cost arcs

lengths_are : (cost : List ℤ) (xs : List ℕ) → lengths cost xs ≡ ((weight cost xs *ℤ pos 131072) +ℤ pos (length xs))
unfolding lengths
lengths_are cost [] = omega (arith, ints)
lengths_are cost (a ∷ xs) = let i = lengths_are cost xs in omega (arith, ints)

weight_turned : (cost : List ℤ) (xs : List ℕ) → weight cost (reverse xs) ≡ weight cost xs
weight_turned cost [] = refl
weight_turned cost (a ∷ xs) =
    let e = ap (weight cost) (reverse-append (a ∷ []) xs) in
    let f = weight_append cost (reverse xs) (a ∷ []) in
    let i = weight_turned cost xs in
    omega (arith, ints)

module _ (net : Net) (s : ℕ) (cost : List ℤ) (shut : List Bool) (tags : List Tag) (t : IsTagged net s cost shut tags) where
  pub by_arc : (v arc : ℕ) → last_by tags v ≡ Some arc → (arc < length net.arcs) × (target net arc ≡ v) × (label_of tags (source net arc) <ℤ far)
      × ((label_of tags (source net arc) +ℤ length_of cost arc) ≤ℤ label_of tags v) × (label_of tags v <ℤ far)
  by_arc v arc e =
      let P : Option ℕ → Type 0 = λ o. IsTaggedBy net s cost tags v (tag_at tags v).label o in
      subst P e (t.arcs v)

  pub by_none : (v : ℕ) → last_by tags v ≡ None → ((v ≡ s) × (label_of tags v ≡ pos 0)) ⊎ (label_of tags v ≡ far)
  by_none v e =
      let P : Option ℕ → Type 0 = λ o. IsTaggedBy net s cost tags v (tag_at tags v).label o in
      subst P e (t.arcs v)

  back_label : (u w : ℕ) (xs : List ℕ) → IsBack net tags u w xs → (label_of tags w +ℤ lengths cost xs) ≤ℤ label_of tags u
  unfolding lengths
  back_label u w [] e = let a = ap (label_of tags) e in omega (arith, ints)
  back_label u w (a ∷ xs) h =
      let i = back_label (source net a) w xs h.2 in
      let b = by_arc (target net a) a h.0.1 in
      let l : (label_of tags (source net a) +ℤ length_of cost a) ≤ℤ label_of tags (target net a) = b.3 in
      let e = ap (label_of tags) h.1 in
      omega (arith, ints)

  loop_weight : (v : ℕ) (xs : List ℕ) → IsBack net tags v v xs → 0 < length xs → weight cost (reverse xs) <ℤ pos 0
  loop_weight v xs h some =
      let a = back_label v v xs h in
      let b = lengths_are cost xs in
      let c = weight_turned cost xs in
      omega (arith, ints)

  -- a loop is a closed walk of negative weight
  pub loop_is : (marks : List Bool) (row : List ℕ) → IsLoop net tags marks row → (v : ℕ) × IsStray tags marks v × IsWalk net v v row × (weight cost row <ℤ pos 0)
  loop_is marks row h =
      let P : List ℕ → Type 0 = λ xs. IsWalk net h.0 h.0 xs × (weight cost xs <ℤ pos 0) in
      let b = subst P (sym h.5) (back_turn net tags h.0 h.0 h.1 h.3, loop_weight h.0 h.1 h.3 h.4) in
      (h.0, h.2, b.0, b.1)

  -- one can climb from stray nodes
  module _ (wide : IsWide net) (queue : List Found) (marks : List Bool) (tree : IsTreeOf net s tags queue marks) where
    climb_arc : (v arc : ℕ) → IsStray tags marks v → last_by tags v ≡ Some arc → (is_marked marks (source net arc) ≡ true) ⊎ (is_marked marks (source net arc) ≡ false)
        → IsClimb net tags marks v arc
    climb_arc v arc h e (inl m) =
        let b = by_arc v arc e in
        let P : ℕ → Type 0 = λ u. last_by tags u ≡ Some arc in
        let o = tree.lasts.all arc b.0 (subst P (sym b.1) e) in
        let c = tree.closed arc b.0 o m in
        absurd (both_ways (is_marked marks v) h.missed (sym (ap (is_marked marks) b.1) ∙ c))
    climb_arc v arc h e (inr m) =
        let b = by_arc v arc e in
        let l : source net arc < net.n = (wide.ends arc (0, 0) b.0).0 in
        record {
          by = e;
          known = b.0;
          to = b.1;
          from = record { below = omega (arith, t.long); tagged = b.2; missed = m };
        }

    no_root : (v : ℕ) → IsStray tags marks v → last_by tags v ≡ None → ((v ≡ s) × (label_of tags v ≡ pos 0)) ⊎ (label_of tags v ≡ far) → ⊥
    no_root v h e (inl b) =
        let P : ℕ → Type 0 = λ u. last_by tags u ≡ None in
        let z = ap (label_of tags) b.0 in
        let l = h.tagged in
        let m = tree.has (record { bare = subst P b.0 e; tagged = omega (arith, ints) }) in
        both_ways (is_marked marks v) h.missed (ap (is_marked marks) b.0 ∙ m)
    no_root v h e (inr b) = let l = h.tagged in absurd (omega (arith, ints))

    either_way : (b : Bool) → (b ≡ true) ⊎ (b ≡ false)
    either_way true = inl refl
    either_way false = inr refl

    climb_cases : (v : ℕ) → IsStray tags marks v → (o : Option ℕ) → last_by tags v ≡ o → (arc : ℕ) × IsClimb net tags marks v arc
    climb_cases v h None e = absurd (no_root v h e (by_none v e))
    climb_cases v h (Some arc) e = (arc, climb_arc v arc h e (either_way (is_marked marks (source net arc))))

    pub can_climb : CanClimb net tags marks
    can_climb v h = climb_cases v h (last_by tags v) refl

    -- where none is stray, no label is too low
    module _ (q : IsPriced net cost) (none : AreMarked tags marks (length tags)) where
      why_low : (k : ℕ) → k < length queue → ((j : ℕ) → j < k → (pos 0 -ℤ pos (j * 10 ^ 25)) ≤ℤ label_of tags (found_at queue j).node) → (w : Why) → (found_at queue k).why ≡ w
          → (pos 0 -ℤ pos (k * 10 ^ 25)) ≤ℤ label_of tags (found_at queue k).node
      why_low k h before (Seed i) e =
          let r = tree.root k i h e in
          let a = ap (label_of tags) r.1 in
          elim (by_none s r.2.bare) [ inl b ↦ (let z = b.1 in omega (arith, ints)) | inr b ↦ omega (arith, ints) ]
      why_low k h before (Arc arc) e =
          let P : Why → Type 0 = λ w. IsFoundBy net tree.opened queue k (found_at queue k) w in
          let f = subst P e (tree.is.why k h) in
          let l : (found_at queue k).before < k = f.3 in
          let b = by_arc (target net arc) arc (tree.lasts.only arc f.1) in
          let d : (label_of tags (source net arc) +ℤ length_of cost arc) ≤ℤ label_of tags (target net arc) = b.3 in
          let i = before (found_at queue k).before l in
          let low = length_low net cost q arc in
          let to = ap (label_of tags) f.2 in
          let from = ap (label_of tags) f.4 in
          omega (arith, ints)

      place_low : (m k : ℕ) → k < m → k < length queue → (pos 0 -ℤ pos (k * 10 ^ 25)) ≤ℤ label_of tags (found_at queue k).node
      place_low zero k l h = absurd (omega arith)
      place_low (suc m) k l h = why_low k h (λ j n. place_low m j (omega arith) (omega arith)) (found_at queue k).why refl

      below : (v : ℕ) → label_of tags v <ℤ far → (v < length tags) ⊎ (length tags ≤ v) → v < length tags
      below v h (inl l) = l
      below v h (inr l) = absurd (let e = ap (λ (x : Tag). x.label) (get_or_past tags v (record { label = far; by = None }) l) in omega (arith, ints))

      marked_low : (v : ℕ) → label_of tags v <ℤ far → (is_marked marks v ≡ true) ⊎ (is_marked marks v ≡ false) → (pos 0 -ℤ pos (10 ^ 31)) ≤ℤ label_of tags v
      marked_low v h (inl m) =
          let p = place_of queue marks tree.is.once v m in
          let lp : p.0 < length queue = p.1 in
          let c = tree.is.count in
          let n = wide.limits.nodes in
          let e = ap (label_of tags) p.2 in
          let b = place_low (suc p.0) p.0 (omega arith) lp in
          omega (arith, ints)
      marked_low v h (inr m) =
          let l = below v h (cases_lt v (length tags)) in
          absurd (none v l (record { below = l; tagged = h; missed = m }))

      low_cases : (v : ℕ) → (label_of tags v <ℤ far) ⊎ (far ≤ℤ label_of tags v) → (pos 0 -ℤ pos (10 ^ 31)) ≤ℤ label_of tags v
      low_cases v (inl h) = marked_low v h (either_way (is_marked marks v))
      low_cases v (inr h) = omega (arith, ints)

      pub tree_above : AreAbove tags (10 ^ 31)
      tree_above v = low_cases v (less_or_not (label_of tags v) far)

-- ---- a trail that is climbed
pub record IsClimbing (net : Net) (tags : List Tag) (marks : List Bool) (from : ℕ) (seen : List Bool) (trail : List ℕ) (here : ℕ) : Type 0 where
  pub stray : IsStray tags marks here
  pub back : IsBack net tags from here trail
  pub long : length seen ≡ length marks
  pub met : (v : ℕ) → is_marked seen v ≡ true → (is_marked marks v ≡ true) ⊎ StandsIn net trail v

pub climb_start : (net : Net) (tags : List Tag) (marks seen : List Bool) (from : ℕ) (trail : List ℕ) → IsStray tags marks from → seen ≡ marks → trail ≡ [] → IsClimbing net tags marks from seen trail from
climb_start net tags marks seen from trail h es et =
    let P : List Bool → Type 0 = λ xs. IsClimbing net tags marks from xs trail from in
    let Q : List ℕ → Type 0 = λ xs. IsClimbing net tags marks from marks xs from in
    subst P (sym es) (subst Q (sym et) (record { stray = h; back = refl; long = refl; met = λ v m. inl m }))

module _ (net : Net) (tags : List Tag) (marks : List Bool) (from : ℕ) (seen : List Bool) (trail : List ℕ) (here arc : ℕ) (h : IsClimbing net tags marks from seen trail here)
    (long : length marks ≡ length tags) (b : IsClimb net tags marks here arc) where
  met_cases : (v : ℕ) → (v ≡ here) ⊎ (v ≡ here → ⊥) → is_marked (set seen here true) v ≡ true → (is_marked marks v ≡ true) ⊎ StandsIn net (trail ++ arc ∷ []) v
  met_cases v (inl e) m = inr (length trail, omega (arith, length_push trail arc), ap (target net) (get_or_push trail arc 0 (length trail) refl) ∙ b.to ∙ sym e)
  met_cases v (inr ne) m = elim (h.met v (sym (mark_other seen here v true ne) ∙ m)) [
    | inl old ↦ inl old
    | inr k ↦ (let l : k.0 < length trail = k.1 in
        inr (k.0, omega (arith, length_push trail arc), ap (target net) (get_or_append_left trail (arc ∷ []) 0 k.0 l) ∙ k.2))
  ]

  pub climb_more : (seen' : List Bool) (trail' : List ℕ) (here' : ℕ) → seen' ≡ set seen here true → trail' ≡ trail ++ arc ∷ [] → here' ≡ source net arc
      → IsClimbing net tags marks from seen' trail' here'
  climb_more seen' trail' here' es et eh =
      let P : List Bool → Type 0 = λ xs. IsClimbing net tags marks from xs trail' here' in
      let Q : List ℕ → Type 0 = λ xs. IsClimbing net tags marks from (set seen here true) xs here' in
      let R : ℕ → Type 0 = λ v. IsClimbing net tags marks from (set seen here true) (trail ++ arc ∷ []) v in
      let S : ℕ → Type 0 = λ v. last_by tags v ≡ Some arc in
      subst P (sym es) (subst Q (sym et) (subst R (sym eh) (record {
        stray = b.from;
        back = walk_push (IsLastArc net tags) (target net) (source net) from here arc trail h.back (b.known, subst S (sym b.to) b.by) b.to;
        long = length-set seen here true ∙ h.long;
        met = λ v m. met_cases v (cases_eq v here) m;
      })))

-- the way has come back to a node
pub came_back : (net : Net) (tags : List Tag) (marks : List Bool) (from : ℕ) (seen : List Bool) (trail : List ℕ) (here : ℕ) → IsClimbing net tags marks from seen trail here
    → is_marked seen here ≡ true → StandsIn net trail here
came_back net tags marks from seen trail here h m = elim (h.met here m) [
  | inl old ↦ absurd (both_ways (is_marked marks here) h.stray.missed old)
  | inr k ↦ k
]

pub loop_at : (net : Net) (tags : List Tag) (marks : List Bool) (from : ℕ) (seen : List Bool) (trail : List ℕ) (here : ℕ) (row : List ℕ) → IsClimbing net tags marks from seen trail here
    → IsTurned net trail here row → IsLoop net tags marks row
loop_at net tags marks from seen trail here row h k =
    let l : k.0 < length trail = k.1 in
    let P : ℕ → Type 0 = λ v. IsBack net tags v here (drop k.0 trail) in
    (here, drop k.0 trail, h.stray, subst P k.2 (back_drop net tags from here trail k.0 h.back l), omega (arith, length-drop k.0 trail), k.3)
