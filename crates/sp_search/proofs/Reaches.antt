-- Walks from where a search began, seeds, and the nodes that they make low.
use Rattle.std.proofs.Common.{◌≡◌, ◌⊎◌, inl, inr, ℕ, ◌+◌, ◌<◌, ◌≤◌, ℤ, pos, ◌<ℤ◌, Bool, true, false, List, [], ◌∷◌, ◌++◌, length, get_or, take, drop, reverse, set, replicate, refl, sym, ◌∙◌, ap, subst, arith, length-set}
use borrow.Author.Differences.{ints}
use Rattle.std.specs.Prelude.{MatchBool}
use Rattle.std.proofs.lemmas.Bool.{cases_lt, both_ways}
use Rattle.std.proofs.lemmas.List.{length_push, get_or_push, get_or_append_left, take_at, reverse-append}
use Rattle.graph_defs.specs.declared.net.Net.{Net}
use Rattle.graph_defs.specs.declared.shortest.Seed.{Seed}
use Rattle.graph_defs.specs.declared.shortest.Why.{Why}
use Rattle.graph_defs.specs.declared.shortest.Why.TheVariants as why
use Rattle.graph_defs.specs.Net.{source, target}
use Rattle.graph_defs.specs.Shortest.{weight}
use Rattle.graph_defs.specs.Walk.{IsWalk}
use Rattle.graph_defs.proofs.Numbers.{all_false}
use Rattle.sp_search.specs.declared.finding.Found.{Found}
use Rattle.sp_search.specs.Finding.{found_at, is_marked, IsAdded, IsKnown, IsFoundBy, IsFinding, HasGrown, IsClosedAlong}
use Rattle.sp_search.specs.Lows.{StandBehind, BeginsAt, IsBeginning, IsReachOf, seed_of, IsSeedOf, IsOnCycle, HasMet, AreLow, HasMore}
use Rattle.sp_search.proofs.Climbs.{first_place, seed_not_arc, none_found}
use Rattle.sp_search.proofs.Findings.{mark_same, mark_kept, one_less, old_place, new_place, once_push, place_of, place_marked, found_kept}

-- ---- a node where a search begins
push_cases : (net : Net) (opened : List Bool) (queue : List Found) (marks : List Bool) (f : Found) (i : ℕ) → IsFinding net opened queue marks → f.why ≡ why.Seed i
    → (k : ℕ) → (k < length queue) ⊎ (length queue ≤ k) → k < length (queue ++ f ∷ []) → IsFoundBy net opened (queue ++ f ∷ []) k (found_at (queue ++ f ∷ []) k) (found_at (queue ++ f ∷ []) k).why
push_cases net opened queue marks f i is e k (inl l) m = found_kept net opened queue (queue ++ f ∷ []) k l (λ j h. old_place queue f j h) (is.why k l)
push_cases net opened queue marks f i is e k (inr l) m =
    let q : length queue ≡ k = omega (arith, length_push queue f) in
    let P : ℕ → Type 0 = λ j. found_at (queue ++ f ∷ []) j ≡ f in
    let at : found_at (queue ++ f ∷ []) k ≡ f = subst P q (new_place queue f) in
    let Q : Found → Type 0 = λ x. IsFoundBy net opened (queue ++ f ∷ []) k x x.why in
    let R : Why → Type 0 = λ w. IsFoundBy net opened (queue ++ f ∷ []) k f w in
    subst Q (sym at) (subst R (sym e) tt)

pub finding_push : (net : Net) (opened : List Bool) (queue : List Found) (marks : List Bool) (f : Found) (i : ℕ) → IsFinding net opened queue marks → f.why ≡ why.Seed i → f.node < net.n
    → is_marked marks f.node ≡ false → IsFinding net opened (queue ++ f ∷ []) (set marks f.node true)
finding_push net opened queue marks f i is e l first =
    let lm : f.node < length marks = omega (arith, is.long) in
    record {
      long = length-set marks f.node true ∙ is.long;
      count = omega (arith, is.count, one_less marks f.node lm first, length_push queue f);
      once = once_push queue marks f lm first is.once;
      why = λ k m. push_cases net opened queue marks f i is e k (cases_lt k (length queue)) m;
    }

-- ---- the nodes of a closed walk
pub met_start : (net : Net) (opened : List Bool) (number : ℕ) (cycle : List ℕ) (queue : List Found) (marks : List Bool) → IsFinding net opened queue marks
    → HasMet net opened number cycle 0 queue marks queue marks
met_start net opened number cycle queue marks is = record {
  is = is;
  longer = omega arith;
  same = λ k h. refl;
  made = λ k l m. absurd (omega arith);
  done = λ t l. absurd (omega arith);
}

module _ (net : Net) (opened : List Bool) (number : ℕ) (cycle : List ℕ) (j : ℕ) (queue : List Found) (marks : List Bool) (queue' : List Found) (marks' : List Bool)
    (h : HasMet net opened number cycle j queue marks queue' marks') (lj : j < length cycle) (v : ℕ) (ve : v ≡ source net (get_or cycle j 0)) (lv : v < net.n) where
  done_cases : (marks'' : List Bool) → ((u : ℕ) → is_marked marks' u ≡ true → is_marked marks'' u ≡ true) → is_marked marks'' v ≡ true
      → (t : ℕ) → (t < j) ⊎ (j ≤ t) → t < j + 1 → is_marked marks'' (source net (get_or cycle t 0)) ≡ true
  done_cases marks'' keeps here t (inl l) m = keeps (source net (get_or cycle t 0)) (h.done t l)
  done_cases marks'' keeps here t (inr l) m =
      let e : j ≡ t = omega arith in
      let P : ℕ → Type 0 = λ u. is_marked marks'' u ≡ true in
      let Q : ℕ → Type 0 = λ i. is_marked marks'' (source net (get_or cycle i 0)) ≡ true in
      subst Q e (subst P ve here)

  made_cases : (k : ℕ) → (k < length queue') ⊎ (length queue' ≤ k) → length queue ≤ k → k < length (queue' ++ (record { node = v; why = why.Seed number; before = 0 }) ∷ [])
      → ((found_at (queue' ++ (record { node = v; why = why.Seed number; before = 0 }) ∷ []) k).why ≡ why.Seed number)
      × IsOnCycle net cycle (found_at (queue' ++ (record { node = v; why = why.Seed number; before = 0 }) ∷ []) k).node
  made_cases k (inl l) m n =
      let P : Found → Type 0 = λ x. (x.why ≡ why.Seed number) × IsOnCycle net cycle x.node in
      subst P (sym (old_place queue' (record { node = v; why = why.Seed number; before = 0 }) k l)) (h.made k m l)
  made_cases k (inr l) m n =
      let f : Found = record { node = v; why = why.Seed number; before = 0 } in
      let q : length queue' ≡ k = omega (arith, length_push queue' f) in
      let P : ℕ → Type 0 = λ i. (((found_at (queue' ++ f ∷ []) i).why ≡ why.Seed number) × IsOnCycle net cycle (found_at (queue' ++ f ∷ []) i).node) in
      let Q : Found → Type 0 = λ x. (x.why ≡ why.Seed number) × IsOnCycle net cycle x.node in
      subst P q (subst Q (sym (new_place queue' f)) (refl, (j, lj, sym ve)))

  pub met_more : (is_new : Bool) (queue'' : List Found) (marks'' : List Bool)
      → MatchBool is_new (IsAdded queue' marks' queue'' marks'' (record { node = v; why = why.Seed number; before = 0 })) (IsKnown queue' marks' queue'' marks'' (record { node = v; why = why.Seed number; before = 0 }))
      → HasMet net opened number cycle (j + 1) queue marks queue'' marks''
  met_more true queue'' marks'' a =
      let f : Found = record { node = v; why = why.Seed number; before = 0 } in
      let lm : v < length marks' = omega (arith, h.is.long) in
      let P : List Found → Type 0 = λ xs. HasMet net opened number cycle (j + 1) queue marks xs marks'' in
      let Q : List Bool → Type 0 = λ xs. HasMet net opened number cycle (j + 1) queue marks (queue' ++ f ∷ []) xs in
      subst P (sym a.queue_is) (subst Q (sym a.marks_is) (record {
        is = finding_push net opened queue' marks' f number h.is refl lv a.first;
        longer = omega (arith, h.longer, length_push queue' f);
        same = λ k l. old_place queue' f k (omega (arith, h.longer)) ∙ h.same k l;
        made = λ k l m. made_cases k (cases_lt k (length queue')) l m;
        done = λ t l. done_cases (set marks' v true) (λ u m. mark_kept marks' v u lm m) (mark_same marks' v lm) t (cases_lt t j) l;
      }))
  met_more false queue'' marks'' a =
      let P : List Found → Type 0 = λ xs. HasMet net opened number cycle (j + 1) queue marks xs marks'' in
      let Q : List Bool → Type 0 = λ xs. HasMet net opened number cycle (j + 1) queue marks queue' xs in
      subst P (sym a.queue_is) (subst Q (sym a.marks_is) (record {
        is = h.is;
        longer = h.longer;
        same = h.same;
        made = h.made;
        done = λ t l. done_cases marks' (λ u m. m) a.again t (cases_lt t j) l;
      }))

-- ---- low nodes
seed_old : (seeds : List Seed) (x : Seed) (i : ℕ) → i < length seeds → seed_of (seeds ++ x ∷ []) i ≡ seed_of seeds i
seed_old seeds x i h = get_or_append_left seeds (x ∷ []) (record { start = 0; walk = []; cycle = [] }) i h

seed_new : (seeds : List Seed) (x : Seed) → seed_of (seeds ++ x ∷ []) (length seeds) ≡ x
seed_new seeds x = get_or_push seeds x (record { start = 0; walk = []; cycle = [] }) (length seeds) refl

pub none_low : (net : Net) (s : ℕ) (cost : List ℤ) (opened : List Bool) (queue : List Found) (marks : List Bool) (seeds : List Seed) → queue ≡ [] → marks ≡ replicate net.n false → seeds ≡ []
    → AreLow net s cost opened queue marks seeds
none_low net s cost opened queue marks seeds eq em es =
    let P : List Found → Type 0 = λ xs. AreLow net s cost opened xs marks seeds in
    let Q : List Bool → Type 0 = λ xs. AreLow net s cost opened [] xs seeds in
    let R : List Seed → Type 0 = λ xs. AreLow net s cost opened [] (replicate net.n false) xs in
    subst P (sym eq) (subst Q (sym em) (subst R (sym es) (record {
      is = none_found net opened;
      closed = λ arc l o t. absurd (both_ways (is_marked (replicate net.n false) (source net arc)) (all_false net.n (source net arc)) t);
      sound = λ i l. absurd (omega arith);
      starts = λ k i l. absurd (omega arith);
      many = omega arith;
    })))

module _ (net : Net) (s : ℕ) (cost : List ℤ) (opened : List Bool) (queue : List Found) (marks : List Bool) (seeds : List Seed) (low : AreLow net s cost opened queue marks seeds)
    (seed : Seed) (is : IsSeedOf net s cost seed) (queue' : List Found) (marks' : List Bool) (seeds' : List Seed) (more : HasMore net opened seed queue marks seeds queue' marks' seeds') where
  sound_cases : (i : ℕ) → (i < length seeds) ⊎ (length seeds ≤ i) → i < length (seeds ++ seed ∷ []) → IsSeedOf net s cost (seed_of (seeds ++ seed ∷ []) i)
  sound_cases i (inl l) m =
      let P : Seed → Type 0 = λ x. IsSeedOf net s cost x in
      subst P (sym (seed_old seeds seed i l)) (low.sound i l)
  sound_cases i (inr l) m =
      let q : length seeds ≡ i = omega (arith, length_push seeds seed) in
      let P : Seed → Type 0 = λ x. IsSeedOf net s cost x in
      let Q : ℕ → Type 0 = λ j. IsSeedOf net s cost (seed_of (seeds ++ seed ∷ []) j) in
      subst Q q (subst P (sym (seed_new seeds seed)) is)

  -- an entry of the queue as it was before the search went on
  in_met : (k i : ℕ) → k < length queue' → (found_at queue' k).why ≡ why.Seed i → (k < length more.met_queue) ⊎ (length more.met_queue ≤ k) → k < length more.met_queue
  in_met k i l e (inl h) = h
  in_met k i l e (inr h) = let a = more.grown.arcs k h l in absurd (seed_not_arc i a.0 (sym e ∙ a.1))

  starts_cases : (k i : ℕ) → k < length more.met_queue → (found_at more.met_queue k).why ≡ why.Seed i → (k < length queue) ⊎ (length queue ≤ k)
      → (i < length (seeds ++ seed ∷ [])) × IsOnCycle net (seed_of (seeds ++ seed ∷ []) i).cycle (found_at more.met_queue k).node
  starts_cases k i l e (inl h) =
      let b = more.met.same k h in
      let a = low.starts k i h (sym (ap (λ (f : Found). f.why) b) ∙ e) in
      let P : ℕ → Type 0 = λ v. IsOnCycle net (seed_of (seeds ++ seed ∷ []) i).cycle v in
      let Q : Seed → Type 0 = λ x. IsOnCycle net x.cycle (found_at queue k).node in
      (omega (arith, a.0, length_push seeds seed), subst P (sym (ap (λ (f : Found). f.node) b)) (subst Q (sym (seed_old seeds seed i a.0)) a.1))
  starts_cases k i l e (inr h) =
      let a = more.met.made k h l in
      let w : why.Seed (length seeds) ≡ why.Seed i = sym a.0 ∙ e in
      let q : length seeds ≡ i = cc in
      let Q : Seed → Type 0 = λ x. IsOnCycle net x.cycle (found_at more.met_queue k).node in
      let R : ℕ → Type 0 = λ j. (j < length (seeds ++ seed ∷ [])) × IsOnCycle net (seed_of (seeds ++ seed ∷ []) j).cycle (found_at more.met_queue k).node in
      subst R q (omega (arith, length_push seeds seed), subst Q (sym (seed_new seeds seed)) a.1)

  starts_at : (k i : ℕ) → k < length queue' → (found_at queue' k).why ≡ why.Seed i
      → (i < length (seeds ++ seed ∷ [])) × IsOnCycle net (seed_of (seeds ++ seed ∷ []) i).cycle (found_at queue' k).node
  starts_at k i l e =
      let m = in_met k i l e (cases_lt k (length more.met_queue)) in
      let b = more.grown.same k m in
      let a = starts_cases k i m (sym (ap (λ (f : Found). f.why) b) ∙ e) (cases_lt k (length queue)) in
      let P : ℕ → Type 0 = λ v. IsOnCycle net (seed_of (seeds ++ seed ∷ []) i).cycle v in
      (a.0, subst P (sym (ap (λ (f : Found). f.node) b)) a.1)

  -- there is at least one node more: that of the seed
  begins_there : (v : ℕ) (cycle : List ℕ) → IsWalk net v v cycle → weight cost cycle <ℤ pos 0 → (0 < length cycle) × (source net (get_or cycle 0 0) ≡ v)
  begins_there v [] w n = absurd (omega (arith, ints))
  begins_there v (a ∷ cycle) w n = (omega arith, w.1)

  not_old : is_marked marks is.node ≡ false → (k : ℕ) → (found_at more.met_queue k).node ≡ is.node → (k < length queue) ⊎ (length queue ≤ k) → length queue ≤ k
  not_old free k e (inl h) =
      let m = place_marked queue marks low.is.once k h in
      let q = sym (ap (λ (f : Found). f.node) (more.met.same k h)) ∙ e in
      absurd (both_ways (is_marked marks is.node) free (sym (ap (is_marked marks) q) ∙ m))
  not_old free k e (inr h) = h

  pub low_grows : is_marked marks is.node ≡ false → length queue < length queue'
  low_grows free =
      let b = begins_there is.node seed.cycle is.cycle is.negative in
      let m : is_marked more.met_marks is.node ≡ true = sym (ap (is_marked more.met_marks) b.1) ∙ more.met.done 0 b.0 in
      let p = place_of more.met_queue more.met_marks more.met.is.once is.node m in
      let l : p.0 < length more.met_queue = p.1 in
      let o = not_old free p.0 p.2 (cases_lt p.0 (length queue)) in
      omega (arith, more.grown.longer)

  pub low_more : is_marked marks is.node ≡ false → AreLow net s cost opened queue' marks' seeds'
  low_more free =
      let P : List Seed → Type 0 = λ xs. AreLow net s cost opened queue' marks' xs in
      subst P (sym more.seeds_are) (record {
        is = more.is;
        closed = more.closed;
        sound = λ i l. sound_cases i (cases_lt i (length seeds)) l;
        starts = starts_at;
        many = omega (arith, low.many, low_grows free, length_push seeds seed);
      })

-- ---- walks from the source
begins_cases : (s : ℕ) (queue : List Found) (marks : List Bool) (queue' : List Found) (marks' : List Bool) → queue ≡ (record { node = s; why = why.Seed 0; before = 0 }) ∷ []
    → HasGrown queue marks queue' marks' → (k i : ℕ) → k < length queue' → (found_at queue' k).why ≡ why.Seed i → (k < length queue) ⊎ (length queue ≤ k) → (found_at queue' k).node ≡ s
begins_cases s queue marks queue' marks' eq g k i l e (inl h) =
    let f = first_place queue (record { node = s; why = why.Seed 0; before = 0 }) k eq h in
    ap (λ (x : Found). x.node) (g.same k h ∙ f.1)
begins_cases s queue marks queue' marks' eq g k i l e (inr h) = let a = g.arcs k h l in absurd (seed_not_arc i a.0 (sym e ∙ a.1))

pub reach_is : (net : Net) (opened : List Bool) (s : ℕ) (queue : List Found) (marks : List Bool) (queue' : List Found) (marks' : List Bool) → s < net.n
    → queue ≡ (record { node = s; why = why.Seed 0; before = 0 }) ∷ [] → marks ≡ set (replicate net.n false) s true → IsFinding net opened queue' marks' → HasGrown queue marks queue' marks'
    → IsClosedAlong net opened marks' → IsReachOf net opened s queue' marks'
reach_is net opened s queue marks queue' marks' h eq em is g closed = record {
  is = is;
  closed = closed;
  begins = λ k i l e. begins_cases s queue marks queue' marks' eq g k i l e (cases_lt k (length queue));
  has = g.kept s (ap (λ (xs : List Bool). is_marked xs s) em ∙ mark_same (replicate net.n false) s (let n = none_found net opened in omega (arith, n.long)));
}

pub stand_behind : (net : Net) (opened : List Bool) (queue : List Found) (marks : List Bool) → IsFinding net opened queue marks → StandBehind queue
stand_behind net opened queue marks is k arc l e =
    let P : Why → Type 0 = λ w. IsFoundBy net opened queue k (found_at queue k) w in
    (subst P e (is.why k l)).3

pub marked_along : (net : Net) (opened marks : List Bool) → IsClosedAlong net opened marks → ((arc : ℕ) → arc < length net.arcs → is_marked opened arc ≡ true) → (u v : ℕ) (xs : List ℕ)
    → IsWalk net u v xs → is_marked marks u ≡ true → is_marked marks v ≡ true
marked_along net opened marks closed all u v [] e m = sym (ap (is_marked marks) e) ∙ m
marked_along net opened marks closed all u v (a ∷ xs) w m =
    marked_along net opened marks closed all (target net a) v xs w.2 (closed a w.0 (all a w.0) (ap (is_marked marks) w.1 ∙ m))

-- one arc more of a walk that is read back
pub Walks : List Found → ℕ → ℕ → List ℕ → Type 0
Walks queue at v arcs = (net : Net) (opened marks : List Bool) (s : ℕ) → IsFinding net opened queue marks → BeginsAt queue s → IsWalk net (found_at queue at).node v (reverse arcs)

pub walk_start : (queue : List Found) (at v : ℕ) (arcs : List ℕ) → (found_at queue at).node ≡ v → arcs ≡ [] → Walks queue at v arcs
unfolding Walks
walk_start queue at v arcs e ea net opened marks s is begins =
    let P : List ℕ → Type 0 = λ xs. IsWalk net (found_at queue at).node v (reverse xs) in
    subst P (sym ea) e

pub walk_more : (queue : List Found) (at before v arc : ℕ) (arcs arcs' : List ℕ) → at < length queue → (found_at queue at).why ≡ why.Arc arc → before ≡ (found_at queue at).before → arcs' ≡ arcs ++ arc ∷ []
    → Walks queue at v arcs → Walks queue before v arcs'
unfolding Walks
walk_more queue at before v arc arcs arcs' h e eb ea walks net opened marks s is begins =
    let P : Why → Type 0 = λ w. IsFoundBy net opened queue at (found_at queue at) w in
    let b = subst P e (is.why at h) in
    let Q : List ℕ → Type 0 = λ xs. IsWalk net (found_at queue before).node v (reverse xs) in
    let R : List ℕ → Type 0 = λ xs. IsWalk net (found_at queue before).node v xs in
    let S : ℕ → Type 0 = λ u. IsWalk net u v (reverse arcs) in
    let from : source net arc ≡ (found_at queue before).node = b.4 ∙ ap (λ (k : ℕ). (found_at queue k).node) (sym eb) in
    subst Q (sym ea) (subst R (sym (reverse-append arcs (arc ∷ []))) (b.0, from, subst S (sym b.2) (walks net opened marks s is begins)))

turned : (items slice back result : List ℕ) (len : ℕ) → slice ≡ items → length slice ≡ len → back ≡ reverse slice → length back ≡ length slice
    → result ≡ take len (back ++ drop (length back) items) → result ≡ reverse items
turned items slice back result len es ls er lr e =
    e ∙ take_at back (drop (length back) items) len (lr ∙ ls) ∙ er ∙ ap (λ (xs : List ℕ). reverse xs) es

pub walk_whole : (queue : List Found) (at v : ℕ) (items slice back result : List ℕ) (len : ℕ) → slice ≡ items → length slice ≡ len → back ≡ reverse slice → length back ≡ length slice
    → result ≡ take len (back ++ drop (length back) items) → at < length queue → IsBeginning queue at → Walks queue at v items
    → (net : Net) (opened marks : List Bool) (s : ℕ) → IsFinding net opened queue marks → BeginsAt queue s → IsWalk net s v result
unfolding Walks
walk_whole queue at v items slice back result len es ls er lr e h b walks net opened marks s is begins =
    let P : List ℕ → Type 0 = λ xs. IsWalk net s v xs in
    let Q : ℕ → Type 0 = λ u. IsWalk net u v (reverse items) in
    subst P (sym (turned items slice back result len es ls er lr e)) (subst Q (begins at b.0 h b.1) (walks net opened marks s is begins))
