-- The steps of a search for shortest paths: what is settled and what is labelled.
use Rattle.std.proofs.Common.{◌≡◌, ◌⊎◌, inl, inr, w64, to_z, of_z, ℕ, zero, suc, ◌+◌, ◌-◌, ◌<◌, ◌≤◌, ℤ, pos, ◌+ℤ◌, ◌≤ℤ◌, Bool, true, false, cond, List, [], ◌∷◌, ◌++◌, length, get_or, set, replicate, refl, sym, ◌∙◌, ap, subst, All, arith, length-set}
use borrow.Author.Differences.{ints}
use Rattle.std.specs.Prelude.{Some, None}
use Rattle.std.specs.List.{Contains}
use Rattle.std.proofs.lemmas.Bool.{cases_eq, cases_lt, true≢false}
use Rattle.std.proofs.lemmas.List.{length-replicate, length_push, get_or_push, get_or_append_left, get_or-map, get_or_default, length-map, map-append}
use Rattle.graph_defs.specs.declared.grouped.Incidence.{Incidence}
use Rattle.graph_defs.specs.declared.net.Net.{Net}
use Rattle.graph_defs.specs.declared.shortest.Finite.{Finite}
use Rattle.graph_defs.specs.Count.{times}
use Rattle.graph_defs.specs.Grouped.{grouped, incidence}
use Rattle.graph_defs.specs.Net.{Ends, source, target}
use Rattle.graph_defs.specs.Sum.{sum_below, at, when}
use Rattle.graph_defs.proofs.Counts.{times_append, times_same, times_other, times_has}
use Rattle.graph_defs.proofs.Incidences.{IsEntry, grouped_only, grouped_has}
use Rattle.graph_defs.proofs.Sums.{sum_same, sum_le, sum_zero}
use Rattle.sp_search.specs.declared.labels.Label.{Label}
use Rattle.sp_search.specs.declared.labels.Label.TheVariants.{Unseen, Queued, Taken}
use Rattle.sp_search.specs.declared.labels.Least.{Least}
use Rattle.sp_search.specs.Labels.{label_at, is_taken, first_labels, IsWithin, IsLeast, AreSmall}
use Rattle.sp_search.specs.Settling.{along, IsPassable, CameBy, StoodThere, HaveFallen, settled_at, last, nodes_of, BeginsWith, IsReachedBy, spent, IsCovered, HaveSpread, IsSettling, IsCosted}
use Rattle.sp_search.proofs.LabelSteps.{fits_back, all_unseen, first_none, taken_not_queued, queued_free, label_same, label_other, label_here, label_below}

-- ---- sums of costs
grow_cases : (f g : ℕ → ℤ) (c : ℤ) (a k : ℕ) → (a < k) ⊎ (k ≤ a) → a < suc k → ((i : ℕ) → i < suc k → f i ≤ℤ g i) → (f a +ℤ c) ≤ℤ g a
    → (a < k → (sum_below f k +ℤ c) ≤ℤ sum_below g k) → (sum_below f (suc k) +ℤ c) ≤ℤ sum_below g (suc k)
grow_cases f g c a k (inl l) h le here before =
    let b = before l in
    let e = le k (omega arith) in
    omega (arith, ints)
grow_cases f g c a k (inr l) h le here before =
    let q : a ≡ k = omega arith in
    let P : ℕ → Type 0 = λ i. (f i +ℤ c) ≤ℤ g i in
    let e : (f k +ℤ c) ≤ℤ g k = subst P q here in
    let s = sum_le f g k (λ i m. le i (omega arith)) in
    omega (arith, ints)

sum_grow : (f g : ℕ → ℤ) (c : ℤ) (a k : ℕ) → a < k → ((i : ℕ) → i < k → f i ≤ℤ g i) → (f a +ℤ c) ≤ℤ g a → (sum_below f k +ℤ c) ≤ℤ sum_below g k
sum_grow f g c a zero l h here = absurd (omega arith)
sum_grow f g c a (suc k) l h here = grow_cases f g c a k (cases_lt a k) l h here (λ m. sum_grow f g c a k m (λ i n. h i (omega arith)) here)

when_rises : (b b' : Bool) (x : ℤ) → pos 0 ≤ℤ x → (b ≡ true → b' ≡ true) → when b x ≤ℤ when b' x
when_rises false false x h i = omega (arith, ints)
when_rises false true x h i = h
when_rises true false x h i = absurd (true≢false (sym (i refl)))
when_rises true true x h i = omega (arith, ints)

when_most : (b : Bool) (x : ℤ) → pos 0 ≤ℤ x → when b x ≤ℤ x
when_most false x h = h
when_most true x h = omega (arith, ints)

when_least : (b : Bool) (x : ℤ) → pos 0 ≤ℤ x → pos 0 ≤ℤ when b x
when_least false x h = omega (arith, ints)
when_least true x h = h

when_on : (b : Bool) (x : ℤ) → b ≡ true → when b x ≡ x
when_on b x e = ap (λ (c : Bool). when c x) e

when_off : (b : Bool) (x : ℤ) → b ≡ false → when b x ≡ pos 0
when_off b x e = ap (λ (c : Bool). when c x) e

module _ (net : Net) (cost : List ℤ) (q : IsCosted net cost) where
  pub cost_low : (arc : ℕ) → arc < length net.arcs → pos 0 ≤ℤ at cost arc
  cost_low arc h = q.low arc (pos 0) (omega (arith, q.long))

  pub spent_most : (labels : List Label) → spent net cost labels ≤ℤ pos 4611686018427387903
  spent_most labels =
      let s = sum_le (λ arc. when (is_taken (label_at labels (source net arc))) (at cost arc)) (at cost) (length net.arcs)
      (λ arc h. when_most (is_taken (label_at labels (source net arc))) (at cost arc) (cost_low arc h)) in
      let t = q.sum in
      omega (arith, ints)

  pub spent_same : (labels labels' : List Label) → ((v : ℕ) → is_taken (label_at labels' v) ≡ is_taken (label_at labels v)) → spent net cost labels' ≡ spent net cost labels
  spent_same labels labels' h =
      sum_same (λ arc. when (is_taken (label_at labels' (source net arc))) (at cost arc)) (λ arc. when (is_taken (label_at labels (source net arc))) (at cost arc)) (length net.arcs)
      (λ arc l. ap (λ (b : Bool). when b (at cost arc)) (h (source net arc)))

  pub spent_rises : (labels labels' : List Label) → ((v : ℕ) → is_taken (label_at labels v) ≡ true → is_taken (label_at labels' v) ≡ true) → spent net cost labels ≤ℤ spent net cost labels'
  spent_rises labels labels' h =
      sum_le (λ arc. when (is_taken (label_at labels (source net arc))) (at cost arc)) (λ arc. when (is_taken (label_at labels' (source net arc))) (at cost arc)) (length net.arcs)
      (λ arc l. when_rises (is_taken (label_at labels (source net arc))) (is_taken (label_at labels' (source net arc))) (at cost arc) (cost_low arc l) (h (source net arc)))

  -- an arc of a node that was just taken out adds its cost
  pub spent_more : (labels labels' : List Label) (arc : ℕ) → arc < length net.arcs → ((v : ℕ) → is_taken (label_at labels v) ≡ true → is_taken (label_at labels' v) ≡ true)
      → is_taken (label_at labels (source net arc)) ≡ false → is_taken (label_at labels' (source net arc)) ≡ true
      → (spent net cost labels +ℤ at cost arc) ≤ℤ spent net cost labels'
  spent_more labels labels' arc l h old new =
      sum_grow (λ arc. when (is_taken (label_at labels (source net arc))) (at cost arc)) (λ arc. when (is_taken (label_at labels' (source net arc))) (at cost arc)) (at cost arc) arc (length net.arcs) l
      (λ i m. when_rises (is_taken (label_at labels (source net i))) (is_taken (label_at labels' (source net i))) (at cost i) (cost_low i m) (h (source net i)))
      (let a = when_off (is_taken (label_at labels (source net arc))) (at cost arc) old in
      let b = when_on (is_taken (label_at labels' (source net arc))) (at cost arc) new in
      omega (arith, ints))

  -- the same where no other was
  pub spent_first : (labels : List Label) (arc : ℕ) → arc < length net.arcs → is_taken (label_at labels (source net arc)) ≡ true → at cost arc ≤ℤ spent net cost labels
  spent_first labels arc l new =
      let g = sum_grow (λ (i : ℕ). pos 0) (λ arc. when (is_taken (label_at labels (source net arc))) (at cost arc)) (at cost arc) arc (length net.arcs) l
      (λ i m. when_least (is_taken (label_at labels (source net i))) (at cost i) (cost_low i m))
      (let b = when_on (is_taken (label_at labels (source net arc))) (at cost arc) new in omega (arith, ints)) in
      let z = sum_zero (λ (i : ℕ). pos 0) (length net.arcs) (λ i m. refl) in
      omega (arith, ints)

-- ---- one settled node more
pub old_place : (f : List Finite) (x : Finite) (k : ℕ) → k < length f → settled_at (f ++ x ∷ []) k ≡ settled_at f k
old_place f x k h = get_or_append_left f (x ∷ []) (record { node = 0; dist = pos 0; pred = None }) k h

new_place : (f : List Finite) (x : Finite) → settled_at (f ++ x ∷ []) (length f) ≡ x
new_place f x = get_or_push f x (record { node = 0; dist = pos 0; pred = None }) (length f) refl

last_new : (f : List Finite) (x : Finite) → last (f ++ x ∷ []) ≡ x
last_new f x =
    let e : length (f ++ x ∷ []) - 1 ≡ length f = omega (arith, length_push f x) in
    ap (settled_at (f ++ x ∷ [])) e ∙ new_place f x

nodes_push : (f : List Finite) (x : Finite) (v : ℕ) → times v (nodes_of (f ++ x ∷ [])) ≡ times v (nodes_of f) + times v (x.node ∷ [])
nodes_push f x v = ap (times v) (map-append (λ (y : Finite). y.node) f (x ∷ [])) ∙ times_append v (nodes_of f) (x.node ∷ [])

reached_push : (net : Net) (cost : List ℤ) (f : List Finite) (x : Finite) (k m v : ℕ) (d : ℤ) (arc j : ℕ) → k ≤ length f → k ≤ m
    → IsReachedBy net cost f k v d arc j → IsReachedBy net cost (f ++ x ∷ []) m v d arc j
reached_push net cost f x k m v d arc j h l r =
    let b : j < k = r.before in
    let e = old_place f x j (omega arith) in
    record {
      known = r.known;
      to = r.to;
      from = r.from ∙ sym (ap (λ (y : Finite). y.node) e);
      before = omega arith;
      dist_is = r.dist_is ∙ sym (ap (λ (y : Finite). y.dist +ℤ at cost arc) e);
    }

-- ---- what is settled is what was taken out
one_if : (b : Bool) → b ≡ true → 1 ≤ cond {A = ℕ} b 1 0
one_if true e = omega arith
one_if false e = absurd (true≢false (sym e))

pub place_of_taken : (net : Net) (s : ℕ) (cost : List ℤ) (f : List Finite) (labels : List Label) (preds : List ℕ) → IsSettling net s cost f labels preds
    → (v : ℕ) → is_taken (label_at labels v) ≡ true → (k : ℕ) × (k < length f) × ((settled_at f k).node ≡ v)
place_of_taken net s cost f labels preds is v t =
    let o : 1 ≤ times v (nodes_of f) = (let a = is.once v in let b = one_if (is_taken (label_at labels v)) t in omega arith) in
    let p = times_has v (nodes_of f) o in
    let l : p.0 < length (nodes_of f) = p.1 in
    let h : p.0 < length f = omega (arith, length-map f (λ (y : Finite). y.node)) in
    (p.0, h, sym (get_or-map (λ (y : Finite). y.node) f p.0 (record { node = 0; dist = pos 0; pred = None }) 0 h) ∙ p.2)

-- ---- the entries of the row of a settled node
pub first_low : (net : Net) (s : ℕ) (cost : List ℤ) (f : List Finite) (labels : List Label) (preds : List ℕ) → IsSettling net s cost f labels preds → pos 0 ≤ℤ (last f).dist
first_low net s cost f labels preds is =
    let b = is.below 0 is.first.some in
    let e = is.first.dist in
    omega (arith, ints)

pub row_passable : (net : Net) (s : ℕ) (cost : List ℤ) (f : List Finite) (labels : List Label) (preds : List ℕ) (row : List Incidence) → IsCosted net cost
    → IsSettling net s cost f labels preds → row ≡ get_or (grouped net.n net.arcs) (last f).node []
    → All (IsPassable (length labels) cost (last f).dist) row
row_passable net s cost f labels preds row q is e k d h =
    let P : List Incidence → Type 0 = λ xs. Contains xs (get_or row k d) in
    let c : Contains row (get_or row k d) = (k, h, get_or_default row k (get_or row k d) d h) in
    let entry = grouped_only net.n net.arcs (last f).node (get_or row k d) (subst P e c) in
    let ends = (q.valid.ends (get_or row k d).number (0, 0) entry.below).1 in
    let end_is = entry.end_is in
    let room = is.room (get_or row k d).number entry.below entry.key_is in
    let most = spent_most net cost q labels in
    let low = first_low net s cost f labels preds is in
    let more = cost_low net cost q (get_or row k d).number entry.below in
    record {
      inside = omega (arith, is.long);
      known = omega (arith, q.long, entry.below);
      low = omega (arith, ints);
      high = omega (arith, ints);
    }

-- ---- the start
first_below : (s j : ℕ) → j < 1 → (settled_at ((record { node = s; dist = pos 0; pred = None }) ∷ []) j).dist ≤ℤ pos 0
first_below s zero h = omega (arith, ints)
first_below s (suc j) h = absurd (omega arith)

module _ (net : Net) (s : ℕ) (cost : List ℤ) (q : IsCosted net cost) (hs : s < net.n) where
  long : s < length (replicate net.n Unseen)
  long = omega (arith, length-replicate net.n Unseen)

  first_once : (v : ℕ) → (v ≡ s) ⊎ (v ≡ s → ⊥) → times v (s ∷ []) ≡ cond (is_taken (label_at (first_labels net.n s) v)) 1 0
  first_once v (inl h) = times_same v s [] h ∙ sym (ap (λ (l : Label). cond {A = ℕ} (is_taken l) 1 0) (label_here (replicate net.n Unseen) s v Taken long h))
  first_once v (inr ne) = times_other v s [] ne ∙ sym (ap (λ (l : Label). cond {A = ℕ} (is_taken l) 1 0) (label_other (replicate net.n Unseen) s v Taken ne ∙ all_unseen net.n v))

  start_at : IsSettling net s cost ((record { node = s; dist = pos 0; pred = None }) ∷ []) (first_labels net.n s) (replicate net.n 0)
  start_at = record {
    long = length-set (replicate net.n Unseen) s Taken ∙ length-replicate net.n Unseen;
    preds_long = length-replicate net.n 0;
    first = record { some = omega arith; node = refl; dist = refl; pred = refl };
    once = λ v. first_once v (cases_eq v s);
    below = λ j h. first_below s j h;
    above = λ v e l. absurd (first_none net.n s hs v e l);
    tight = λ k some h. absurd (omega arith);
    reached = λ v e l. absurd (first_none net.n s hs v e l);
    room = λ arc h e.
        (let P : ℕ → Type 0 = λ u. is_taken (label_at (first_labels net.n s) u) ≡ true in
        let t = spent_first net cost q (first_labels net.n s) arc h (subst P (sym e) (ap is_taken (label_same (replicate net.n Unseen) s Taken long))) in
        omega (arith, ints));
    fits = λ v e l. absurd (first_none net.n s hs v e l);
  }

  pub start_is : (f : List Finite) (labels : List Label) (preds : List ℕ) → f ≡ (record { node = s; dist = pos 0; pred = None }) ∷ [] → labels ≡ first_labels net.n s → preds ≡ replicate net.n 0
      → IsSettling net s cost f labels preds
  start_is f labels preds ef el ep =
      let P : List Finite → Type 0 = λ x. IsSettling net s cost x labels preds in
      let Q : List Label → Type 0 = λ x. IsSettling net s cost ((record { node = s; dist = pos 0; pred = None }) ∷ []) x preds in
      let R : List ℕ → Type 0 = λ x. IsSettling net s cost ((record { node = s; dist = pos 0; pred = None }) ∷ []) (first_labels net.n s) x in
      subst P (sym ef) (subst Q (sym el) (subst R (sym ep) start_at))

-- ---- the least is settled
abbrev pub settled_by : Least → List ℕ → Finite
settled_by least preds = record { node = least.node; dist = least.dist; pred = Some (get_or preds least.node 0) }

module _ (net : Net) (s : ℕ) (cost : List ℤ) (q : IsCosted net cost) (f : List Finite) (labels : List Label) (preds : List ℕ) (is : IsSettling net s cost f labels preds)
    (least : Least) (l : IsLeast labels least) where
  inside : least.node < length labels
  inside = label_below labels least.node least.dist l.here

  -- a label that is left was there before
  left_cases : (v : ℕ) (e : ℤ) → (v ≡ least.node) ⊎ (v ≡ least.node → ⊥) → label_at (set labels least.node Taken) v ≡ Queued e → label_at labels v ≡ Queued e
  left_cases v e (inl h) t = absurd (taken_not_queued (label_at (set labels least.node Taken) v) e (label_here labels least.node v Taken inside h) t)
  left_cases v e (inr ne) t = sym (label_other labels least.node v Taken ne) ∙ t

  left : (v : ℕ) (e : ℤ) → label_at (set labels least.node Taken) v ≡ Queued e → label_at labels v ≡ Queued e
  left v e t = left_cases v e (cases_eq v least.node) t

  stays_cases : (v : ℕ) → (v ≡ least.node) ⊎ (v ≡ least.node → ⊥) → is_taken (label_at labels v) ≡ true → is_taken (label_at (set labels least.node Taken) v) ≡ true
  stays_cases v (inl h) t = ap is_taken (label_here labels least.node v Taken inside h)
  stays_cases v (inr ne) t = ap is_taken (label_other labels least.node v Taken ne) ∙ t

  stays : (v : ℕ) → is_taken (label_at labels v) ≡ true → is_taken (label_at (set labels least.node Taken) v) ≡ true
  stays v t = stays_cases v (cases_eq v least.node) t

  once_cases : (v : ℕ) → (v ≡ least.node) ⊎ (v ≡ least.node → ⊥)
      → times v (nodes_of (f ++ settled_by least preds ∷ [])) ≡ cond (is_taken (label_at (set labels least.node Taken) v)) 1 0
  once_cases v (inl h) =
      let p = nodes_push f (settled_by least preds) v in
      let t = times_same v least.node [] h in
      let o = is.once v in
      let P : ℕ → Type 0 = λ u. label_at labels u ≡ Queued least.dist in
      let z : cond {A = ℕ} (is_taken (label_at labels v)) 1 0 ≡ 0 = ap (λ (b : Bool). cond {A = ℕ} b 1 0) (queued_free (label_at labels v) least.dist (subst P (sym h) l.here)) in
      let n : cond {A = ℕ} (is_taken (label_at (set labels least.node Taken) v)) 1 0 ≡ 1 = ap (λ (b : Label). cond {A = ℕ} (is_taken b) 1 0) (label_here labels least.node v Taken inside h) in
      omega arith
  once_cases v (inr ne) =
      let p = nodes_push f (settled_by least preds) v in
      let t = times_other v least.node [] ne in
      let o = is.once v in
      let n : cond {A = ℕ} (is_taken (label_at (set labels least.node Taken) v)) 1 0 ≡ cond {A = ℕ} (is_taken (label_at labels v)) 1 0 =
      ap (λ (b : Label). cond {A = ℕ} (is_taken b) 1 0) (label_other labels least.node v Taken ne) in
      omega arith

  last_is : last (f ++ settled_by least preds ∷ []) ≡ settled_by least preds
  last_is = last_new f (settled_by least preds)

  last_dist : (last (f ++ settled_by least preds ∷ [])).dist ≡ least.dist
  last_dist = ap (λ (y : Finite). y.dist) last_is

  below_cases : (j : ℕ) → (j < length f) ⊎ (length f ≤ j) → j < length (f ++ settled_by least preds ∷ [])
      → (settled_at (f ++ settled_by least preds ∷ []) j).dist ≤ℤ (last (f ++ settled_by least preds ∷ [])).dist
  below_cases j (inl h) m =
      let e : (settled_at (f ++ settled_by least preds ∷ []) j).dist ≡ (settled_at f j).dist = ap (λ (y : Finite). y.dist) (old_place f (settled_by least preds) j h) in
      let b = is.below j h in
      let a = is.above least.node least.dist l.here in
      let d = last_dist in
      omega (arith, ints)
  below_cases j (inr h) m =
      let k : length f ≡ j = omega (arith, length_push f (settled_by least preds)) in
      let P : ℕ → Type 0 = λ i. (settled_at (f ++ settled_by least preds ∷ []) i).dist ≡ least.dist in
      let e : (settled_at (f ++ settled_by least preds ∷ []) j).dist ≡ least.dist = subst P k (ap (λ (y : Finite). y.dist) (new_place f (settled_by least preds))) in
      let d = last_dist in
      omega (arith, ints)

  tight_cases : (k : ℕ) → (k < length f) ⊎ (length f ≤ k) → 0 < k → k < length (f ++ settled_by least preds ∷ []) → (arc j : ℕ)
      × ((settled_at (f ++ settled_by least preds ∷ []) k).pred ≡ Some arc)
      × IsReachedBy net cost (f ++ settled_by least preds ∷ []) k (settled_at (f ++ settled_by least preds ∷ []) k).node (settled_at (f ++ settled_by least preds ∷ []) k).dist arc j
  tight_cases k (inl h) some m =
      let t = is.tight k some h in
      let P : Finite → Type 0 = λ y. (y.pred ≡ Some t.0) × IsReachedBy net cost (f ++ settled_by least preds ∷ []) k y.node y.dist t.0 t.1 in
      let r = subst P (sym (old_place f (settled_by least preds) k h))
      (t.2, reached_push net cost f (settled_by least preds) k k (settled_at f k).node (settled_at f k).dist t.0 t.1 (omega arith) (omega arith) t.3) in
      (t.0, t.1, r.0, r.1)
  tight_cases k (inr h) some m =
      let e : length f ≡ k = omega (arith, length_push f (settled_by least preds)) in
      let t = is.reached least.node least.dist l.here in
      let arc : ℕ = get_or preds least.node 0 in
      let P : Finite → Type 0 = λ y. (y.pred ≡ Some arc) × IsReachedBy net cost (f ++ settled_by least preds ∷ []) k y.node y.dist arc t.0 in
      let Q : ℕ → Type 0 = λ i. settled_at (f ++ settled_by least preds ∷ []) i ≡ settled_by least preds in
      let r = subst P (sym (subst Q e (new_place f (settled_by least preds))))
      (refl, reached_push net cost f (settled_by least preds) (length f) k least.node least.dist arc t.0 (omega arith) (omega arith) t.1) in
      (arc, t.0, r.0, r.1)

  first_is : BeginsWith s (f ++ settled_by least preds ∷ [])
  first_is =
      let b = is.first in
      let e = old_place f (settled_by least preds) 0 b.some in
      record {
        some = omega (arith, length_push f (settled_by least preds));
        node = ap (λ (y : Finite). y.node) e ∙ b.node;
        dist = ap (λ (y : Finite). y.dist) e ∙ b.dist;
        pred = ap (λ (y : Finite). y.pred) e ∙ b.pred;
      }

  room_at : (arc : ℕ) → arc < length net.arcs → source net arc ≡ (last (f ++ settled_by least preds ∷ [])).node
      → ((last (f ++ settled_by least preds ∷ [])).dist +ℤ at cost arc) ≤ℤ spent net cost (set labels least.node Taken)
  room_at arc h e =
      let n : source net arc ≡ least.node = e ∙ ap (λ (y : Finite). y.node) last_is in
      let P : ℕ → Type 0 = λ u. is_taken (label_at labels u) ≡ false in
      let Q : ℕ → Type 0 = λ u. is_taken (label_at (set labels least.node Taken) u) ≡ true in
      let m = spent_more net cost q labels (set labels least.node Taken) arc h stays
      (subst P (sym n) (queued_free (label_at labels least.node) least.dist l.here))
      (subst Q (sym n) (ap is_taken (label_same labels least.node Taken inside))) in
      let b = is.fits least.node least.dist l.here in
      let d = last_dist in
      omega (arith, ints)

  settle_at : IsSettling net s cost (f ++ settled_by least preds ∷ []) (set labels least.node Taken) preds
  settle_at = record {
    long = length-set labels least.node Taken ∙ is.long;
    preds_long = is.preds_long;
    first = first_is;
    once = λ v. once_cases v (cases_eq v least.node);
    below = λ j h. below_cases j (cases_lt j (length f)) h;
    above = λ v e t. (let a = l.least_of v e (left v e t) in let d = last_dist in omega (arith, ints));
    tight = λ k some h. tight_cases k (cases_lt k (length f)) some h;
    reached = λ v e t.
        (let r = is.reached v e (left v e t) in
        (r.0, reached_push net cost f (settled_by least preds) (length f) (length (f ++ settled_by least preds ∷ [])) v e (get_or preds v 0) r.0 (omega arith) (omega (arith, length_push f (settled_by least preds))) r.1));
    room = room_at;
    fits = λ v e t.
        (let a = is.fits v e (left v e t) in
        let r = spent_rises net cost q labels (set labels least.node Taken) stays in
        omega (arith, ints));
  }

  covered_at : (w : ℕ) (z : ℤ) → (w ≡ least.node) ⊎ (w ≡ least.node → ⊥) → IsCovered f labels w z → IsCovered (f ++ settled_by least preds ∷ []) (set labels least.node Taken) w z
  covered_at w z c (inl k) =
      let h : k.0 < length f = k.1 in
      let e = old_place f (settled_by least preds) k.0 h in
      let d : (settled_at (f ++ settled_by least preds ∷ []) k.0).dist ≡ (settled_at f k.0).dist = ap (λ (y : Finite). y.dist) e in
      let m : (settled_at f k.0).dist ≤ℤ z = k.3 in
      inl (k.0, omega (arith, length_push f (settled_by least preds)), ap (λ (y : Finite). y.node) e ∙ k.2, omega (arith, ints))
  covered_at w z (inl h) (inr t) =
      let e = new_place f (settled_by least preds) in
      let P : ℕ → Type 0 = λ u. label_at labels u ≡ Queued t.0 in
      let d : least.dist ≤ℤ t.0 = l.least_of least.node t.0 (subst P h t.1) in
      let n : (settled_at (f ++ settled_by least preds ∷ []) (length f)).dist ≡ least.dist = ap (λ (y : Finite). y.dist) e in
      let m : t.0 ≤ℤ z = t.2 in
      inl (length f, omega (arith, length_push f (settled_by least preds)), ap (λ (y : Finite). y.node) e ∙ sym h, omega (arith, ints))
  covered_at w z (inr ne) (inr t) = inr (t.0, label_other labels least.node w Taken ne ∙ t.1, t.2)

  spread_at : HaveSpread net cost f labels (length f) → HaveSpread net cost (f ++ settled_by least preds ∷ []) (set labels least.node Taken) (length f)
  spread_at sp j arc lj la e =
      let o = old_place f (settled_by least preds) j lj in
      let P : Finite → Type 0 = λ y. IsCovered (f ++ settled_by least preds ∷ []) (set labels least.node Taken) (target net arc) (y.dist +ℤ at cost arc) in
      subst P (sym o) (covered_at (target net arc) ((settled_at f j).dist +ℤ at cost arc) (cases_eq (target net arc) least.node)
      (sp j arc lj la (e ∙ ap (λ (y : Finite). y.node) o)))

  pub settle_is : (f' : List Finite) (labels' : List Label) → f' ≡ f ++ settled_by least preds ∷ [] → labels' ≡ set labels least.node Taken
      → HaveSpread net cost f labels (length f) → IsSettling net s cost f' labels' preds × HaveSpread net cost f' labels' (length f' - 1)
  settle_is f' labels' ef el sp =
      let R : ℕ → Type 0 = λ k. HaveSpread net cost (f ++ settled_by least preds ∷ []) (set labels least.node Taken) k in
      let k : length f ≡ length (f ++ settled_by least preds ∷ []) - 1 = omega (arith, length_push f (settled_by least preds)) in
      let P : List Finite → Type 0 = λ y. IsSettling net s cost y labels' preds × HaveSpread net cost y labels' (length y - 1) in
      let Q : List Label → Type 0 = λ y. IsSettling net s cost (f ++ settled_by least preds ∷ []) y preds × HaveSpread net cost (f ++ settled_by least preds ∷ []) y (length (f ++ settled_by least preds ∷ []) - 1) in
      subst P (sym ef) (subst Q (sym el) (settle_at, subst R k (spread_at sp)))

-- ---- the labels fall along the row of the last settled node
module _ (net : Net) (s : ℕ) (cost : List ℤ) (q : IsCosted net cost) (f : List Finite) (labels : List Label) (preds : List ℕ) (is : IsSettling net s cost f labels preds)
    (row : List Incidence) (row_is : row ≡ get_or (grouped net.n net.arcs) (last f).node []) (labels' : List Label) (preds' : List ℕ)
    (h : HaveFallen row cost (last f).dist (length row) labels preds labels' preds') where
  entry_of : (entry : Incidence) → Contains row entry → IsEntry net.arcs (last f).node entry
  entry_of entry c =
      let P : List Incidence → Type 0 = λ xs. Contains xs entry in
      grouped_only net.n net.arcs (last f).node entry (subst P row_is c)

  above_cases : (v : ℕ) (e : ℤ) → StoodThere labels preds preds' v e ⊎ ((entry : Incidence) × CameBy row cost (last f).dist preds' v e entry) → (last f).dist ≤ℤ e
  above_cases v e (inl t) = is.above v e t.label_is
  above_cases v e (inr t) =
      let by : CameBy row cost (last f).dist preds' v e t.0 = t.1 in
      let c = cost_low net cost q t.0.number (entry_of t.0 by.among).below in
      let z = by.label_is in
      omega (arith, ints)

  reached_cases : (v : ℕ) (e : ℤ) → StoodThere labels preds preds' v e ⊎ ((entry : Incidence) × CameBy row cost (last f).dist preds' v e entry)
      → (j : ℕ) × IsReachedBy net cost f (length f) v e (get_or preds' v 0) j
  reached_cases v e (inl t) =
      let r = is.reached v e t.label_is in
      let P : ℕ → Type 0 = λ arc. IsReachedBy net cost f (length f) v e arc r.0 in
      (r.0, subst P (sym t.pred_is) r.1)
  reached_cases v e (inr t) =
      let by : CameBy row cost (last f).dist preds' v e t.0 = t.1 in
      let en = entry_of t.0 by.among in
      let P : ℕ → Type 0 = λ arc. IsReachedBy net cost f (length f) v e arc (length f - 1) in
      let some = is.first.some in (
        length f - 1,
        subst P (sym by.pred_is) (record {
          known = en.below;
          to = sym en.end_is ∙ by.end_is;
          from = en.key_is;
          before = omega arith;
          dist_is = by.label_is;
        }),
      )

  fits_cases : (v : ℕ) (e : ℤ) → StoodThere labels preds preds' v e ⊎ ((entry : Incidence) × CameBy row cost (last f).dist preds' v e entry) → e ≤ℤ spent net cost labels'
  fits_cases v e (inl t) = let s = spent_same net cost q labels labels' h.taken in let b = is.fits v e t.label_is in omega (arith, ints)
  fits_cases v e (inr t) =
      let by : CameBy row cost (last f).dist preds' v e t.0 = t.1 in
      let en = entry_of t.0 by.among in
      let r = is.room t.0.number en.below en.key_is in
      let s = spent_same net cost q labels labels' h.taken in
      let z = by.label_is in
      omega (arith, ints)

  pub fallen_is : IsSettling net s cost f labels' preds'
  fallen_is = record {
    long = h.long ∙ is.long;
    preds_long = h.preds_long ∙ is.preds_long;
    first = is.first;
    once = λ v. is.once v ∙ sym (ap (λ (b : Bool). cond {A = ℕ} b 1 0) (h.taken v));
    below = is.below;
    above = λ v e t. above_cases v e (h.made v e t);
    tight = is.tight;
    reached = λ v e t. reached_cases v e (h.made v e t);
    room = λ arc l e. (let s = spent_same net cost q labels labels' h.taken in let r = is.room arc l e in omega (arith, ints));
    fits = λ v e t. fits_cases v e (h.made v e t);
  }

  kept_cases : (w : ℕ) (e z : ℤ) → label_at labels w ≡ Queued e → e ≤ℤ z → IsWithin labels' w e → IsCovered f labels' w z
  kept_cases w e z t l (inl k) = absurd (true≢false (sym (ap is_taken k) ∙ h.taken w ∙ queued_free (label_at labels w) e t))
  kept_cases w e z t l (inr k) = let m : k.0 ≤ℤ e = k.2 in inr (k.0, k.1, omega (arith, ints))

  covered_kept : (w : ℕ) (z : ℤ) → IsCovered f labels w z → IsCovered f labels' w z
  covered_kept w z (inl k) = inl k
  covered_kept w z (inr t) = kept_cases w t.0 z t.1 t.2 (h.kept w t.0 t.1)

  covered_new : (w : ℕ) (z : ℤ) → (last f).dist ≤ℤ z → IsWithin labels' w z → IsCovered f labels' w z
  covered_new w z l (inl k) =
      let p = place_of_taken net s cost f labels' preds' fallen_is w (ap is_taken k) in
      let m : p.0 < length f = p.1 in
      let b = is.below p.0 m in
      inl (p.0, m, p.2, omega (arith, ints))
  covered_new w z l (inr t) = inr t

  -- every arc of the last settled node has its entry in the row
  spread_last : (arc : ℕ) → arc < length net.arcs → source net arc ≡ (last f).node → IsCovered f labels' (target net arc) ((last f).dist +ℤ at cost arc)
  spread_last arc l e =
      let P : ℕ → Type 0 = λ u. Contains (get_or (grouped net.n net.arcs) u []) (incidence net.arcs arc) in
      let Q : List Incidence → Type 0 = λ xs. Contains xs (incidence net.arcs arc) in
      let c : Contains row (incidence net.arcs arc) = subst Q (sym row_is) (subst P e (grouped_has net.n net.arcs arc (q.valid.ends arc (0, 0) l).0 l)) in
      let i : c.0 < length row = c.1 in
      let R : Incidence → Type 0 = λ x. IsWithin labels' x.end (along cost (last f).dist x) in
      let w = subst R c.2 (h.done c.0 (incidence net.arcs arc) i i) in
      let low = cost_low net cost q arc l in
      covered_new (target net arc) ((last f).dist +ℤ at cost arc) (omega (arith, ints)) w

  spread_cases : HaveSpread net cost f labels (length f - 1) → (j arc : ℕ) → (j < length f - 1) ⊎ (length f - 1 ≤ j) → j < length f → arc < length net.arcs
      → source net arc ≡ (settled_at f j).node → IsCovered f labels' (target net arc) ((settled_at f j).dist +ℤ at cost arc)
  spread_cases sp j arc (inl m) l a e = covered_kept (target net arc) ((settled_at f j).dist +ℤ at cost arc) (sp j arc m a e)
  spread_cases sp j arc (inr m) l a e =
      let k : length f - 1 ≡ j = omega arith in
      let P : ℕ → Type 0 = λ i. source net arc ≡ (settled_at f i).node → IsCovered f labels' (target net arc) ((settled_at f i).dist +ℤ at cost arc) in
      subst P k (spread_last arc a) e

  pub fallen_spread : HaveSpread net cost f labels (length f - 1) → HaveSpread net cost f labels' (length f)
  fallen_spread sp j arc l a e = spread_cases sp j arc (cases_lt j (length f - 1)) l a e

-- ---- what the calls hand on
pub row_of_net : (net : Net) (arcs : List Ends) (rows : List (List Incidence)) (row : List Incidence) (v w : ℕ) → arcs ≡ net.arcs → rows ≡ grouped net.n arcs → row ≡ get_or rows v [] → v ≡ w
    → row ≡ get_or (grouped net.n net.arcs) w []
row_of_net net arcs rows row v w ea er e ev =
    e ∙ ap (λ (all : List (List Incidence)). get_or all v []) (er ∙ ap (grouped net.n) ea) ∙ ap (λ (u : ℕ). get_or (grouped net.n net.arcs) u []) ev

pub none_spread : (net : Net) (cost : List ℤ) (f : List Finite) (labels : List Label) (k : ℕ) → k ≡ 0 → HaveSpread net cost f labels k
none_spread net cost f labels k e j arc l = absurd (omega arith)

pub spread_is : (net : Net) (s : ℕ) (cost : List ℤ) → IsCosted net cost → (f : List Finite) (labels : List Label) (preds : List ℕ) → IsSettling net s cost f labels preds
    → HaveSpread net cost f labels (length f - 1) → (row : List Incidence) → row ≡ get_or (grouped net.n net.arcs) (last f).node [] → (d : ℤ) → d ≡ (last f).dist
    → (f' : List Finite) (labels' : List Label) (preds' : List ℕ) → f' ≡ f → HaveFallen row cost d (length row) labels preds labels' preds'
    → IsSettling net s cost f' labels' preds' × HaveSpread net cost f' labels' (length f')
spread_is net s cost q f labels preds is sp row er d ed f' labels' preds' ef h =
    let D : ℤ → Type 0 = λ z. HaveFallen row cost z (length row) labels preds labels' preds' in
    let h' = subst D ed h in
    let P : List Finite → Type 0 = λ x. IsSettling net s cost x labels' preds' × HaveSpread net cost x labels' (length x) in
    subst P (sym ef) (fallen_is net s cost q f labels preds is row er labels' preds' h', fallen_spread net s cost q f labels preds is row er labels' preds' h' sp)

pub passable_at : (net : Net) (s : ℕ) (cost : List ℤ) → IsCosted net cost → (f : List Finite) (labels : List Label) (preds : List ℕ) → IsSettling net s cost f labels preds
    → (row : List Incidence) → row ≡ get_or (grouped net.n net.arcs) (last f).node [] → (d : ℤ) → d ≡ (last f).dist → All (IsPassable (length labels) cost d) row
passable_at net s cost q f labels preds is row er d ed =
    let D : ℤ → Type 0 = λ z. All (IsPassable (length labels) cost z) row in
    subst D (sym ed) (row_passable net s cost f labels preds row q is er)

pub least_back : (net : Net) (s : ℕ) (cost : List ℤ) → IsCosted net cost → (f : List Finite) (labels : List Label) (preds : List ℕ) → IsSettling net s cost f labels preds
    → (least : Least) → IsLeast labels least → to_z w64 (of_z w64 least.dist) ≡ least.dist
least_back net s cost q f labels preds is least l =
    let low = first_low net s cost f labels preds is in
    let a = is.above least.node least.dist l.here in
    let b = is.fits least.node least.dist l.here in
    let m = spent_most net cost q labels in
    fits_back least.dist least.dist (omega (arith, ints)) (omega (arith, ints)) refl

pub last_settled : (f f' : List Finite) (x : Finite) → f' ≡ f ++ x ∷ [] → last f' ≡ x
last_settled f f' x e = ap last e ∙ last_new f x

-- the least is settled, and the labels fall along its row
pub settled_next : (net : Net) (s : ℕ) (cost : List ℤ) → IsCosted net cost → (f : List Finite) (labels : List Label) (preds : List ℕ)
    → IsSettling net s cost f labels preds → HaveSpread net cost f labels (length f) → (least : Least) → IsLeast labels least
    → (f' : List Finite) (labels' : List Label) (preds' : List ℕ) → f' ≡ f ++ settled_by least preds ∷ [] → labels' ≡ set labels least.node Taken → preds' ≡ preds
    → IsSettling net s cost f' labels' preds' × HaveSpread net cost f' labels' (length f' - 1)
settled_next net s cost q f labels preds is sp least l f' labels' preds' ef el ep =
    let P : List ℕ → Type 0 = λ x. IsSettling net s cost f' labels' x × HaveSpread net cost f' labels' (length f' - 1) in
    subst P (sym ep) (settle_is net s cost q f labels preds is least l f' labels' ef el sp)

pub labels_small : (net : Net) (s : ℕ) (cost : List ℤ) → IsCosted net cost → (f : List Finite) (labels : List Label) (preds : List ℕ) → IsSettling net s cost f labels preds → AreSmall labels
labels_small net s cost q f labels preds is v e t =
    let low = first_low net s cost f labels preds is in
    let a = is.above v e t in
    let b = is.fits v e t in
    let m = spent_most net cost q labels in
    (omega (arith, ints), omega (arith, ints))
