-- What a settled tree and the low nodes tell is a right answer.
use Rattle.std.proofs.Common.{◌≡◌, ◌⊎◌, inl, inr, ℕ, zero, suc, ◌+◌, ◌*◌, ◌<◌, ◌≤◌, ◌^◌, ℤ, pos, ◌+ℤ◌, ◌*ℤ◌, ◌≤ℤ◌, ◌<ℤ◌, Bool, true, false, not, ◌&&◌, cond, List, [], ◌∷◌, ◌++◌, length, map, get_or, refl, sym, ◌∙◌, ap, subst, All, arith}
use borrow.Author.Differences.{ints}
use Rattle.std.specs.Prelude.{Option, None, IsSome, IfSome}
use Rattle.std.specs.List.{filter, range_with_len}
use Rattle.std.proofs.lemmas.Bool.{cases_lt, both_ways}
use Rattle.std.proofs.lemmas.List.{get_or-map, get_or_default, get_or_past, length-map}
use Rattle.graph_defs.specs.declared.net.Net.{Net}
use Rattle.graph_defs.specs.declared.shortest.SpAnswer.{SpAnswer}
use Rattle.graph_defs.specs.declared.shortest.Finite.{Finite}
use Rattle.graph_defs.specs.declared.shortest.Low.{Low}
use Rattle.graph_defs.specs.declared.shortest.Seed.{Seed}
use Rattle.graph_defs.specs.declared.shortest.Why.{Why}
use Rattle.graph_defs.specs.declared.shortest.Why.TheVariants as why
use Rattle.graph_defs.specs.Count.{times}
use Rattle.graph_defs.specs.Net.{source, target}
use Rattle.graph_defs.specs.Sum.{at}
use Rattle.graph_defs.specs.Walk.{IsWalk}
use Rattle.graph_defs.specs.Shortest.{AreBelow, IsReasonBelow, IsFiniteInRange, IsSeedInRange, IsLowInRange, IsFinite, IsLow, IsToldUnreached, IsFirstFinite, IsLowSource, IsOnce, IsTight, IsSeed, HasReason, StaysWithin, IsSpAnswer, low_at}
use Rattle.graph_defs.proofs.Counts.{times_append}
use Rattle.graph_defs.proofs.Numbers.{filter_below, filter_only, filter_rises}
use Rattle.graph_defs.proofs.Walks.{walk_there}
use Rattle.sp_search.specs.declared.finding.Found.{Found}
use Rattle.sp_search.specs.declared.tags.Tag.{Tag}
use Rattle.sp_search.specs.Finding.{found_at, found_nodes, is_marked, IsFoundBy}
use Rattle.sp_search.specs.Lows.{seed_of, AreLow}
use Rattle.sp_search.specs.Rounds.{IsSettledTree}
use Rattle.sp_search.specs.Settling.{settled_at}
use Rattle.sp_search.specs.Tags.{far, length_of, label_of, IsPriced}
use Rattle.sp_search.specs.Telling.{IsTold, AreTold, neither, low_of}
use Rattle.sp_search.proofs.Climbs.{by_arc, by_none}
use Rattle.sp_search.proofs.Ends.{either_way, times_filter}
use Rattle.sp_search.proofs.Falls.{length_high}
use Rattle.sp_search.proofs.Findings.{place_of, place_marked, place_below}

-- ---- lists
same_list : (xs ys : List ℕ) → length xs ≡ length ys → ((k : ℕ) → k < length xs → get_or xs k 0 ≡ get_or ys k 0) → xs ≡ ys
same_list [] [] e h = refl
same_list [] (y ∷ ys) e h = absurd (omega arith)
same_list (x ∷ xs) [] e h = absurd (omega arith)
same_list (x ∷ xs) (y ∷ ys) e h =
    let i = same_list xs ys (omega arith) (λ k l. h (suc k) (omega arith)) in
    let a : x ≡ y = h 0 (omega arith) in
    ap (λ (z : ℕ). z ∷ xs) a ∙ ap (λ (zs : List ℕ). y ∷ zs) i

low_nodes : (queue : List Found) → map (λ (l : Low). l.node) (map low_of queue) ≡ found_nodes queue
low_nodes [] = refl
low_nodes (f ∷ queue) = ap (λ (xs : List ℕ). f.node ∷ xs) (low_nodes queue)

one_of_three : (a b : Bool) → (a ≡ true → b ≡ false) → cond {A = ℕ} a 1 0 + (cond {A = ℕ} b 1 0 + cond {A = ℕ} (not a && not b) 1 0) ≡ 1
one_of_three true true h = absurd (both_ways true (h refl) refl)
one_of_three true false h = refl
one_of_three false true h = refl
one_of_three false false h = refl

neither_not : (a b : Bool) → (not a && not b) ≡ true → (a ≡ false) × (b ≡ false)
neither_not true b e = absurd (both_ways false refl e)
neither_not false true e = absurd (both_ways false refl e)
neither_not false false e = (refl, refl)

pub walk_below : (net : Net) (u v : ℕ) (xs : List ℕ) → IsWalk net u v xs → AreBelow (length net.arcs) xs
walk_below net u v xs h k d l =
    let b = walk_there (λ arc. arc < length net.arcs) (source net) (target net) u v xs k h l in
    let P : ℕ → Type 0 = λ x. x < length net.arcs in
    subst P (get_or_default xs k 0 d l) b

module _ (net : Net) (s : ℕ) (cost : List ℤ) (q : IsPriced net cost) (hs : s < net.n) (opened : List Bool) (all : (arc : ℕ) → arc < length net.arcs → is_marked opened arc ≡ true)
    (lq : List Found) (lm : List Bool) (seeds : List Seed) (low : AreLow net s cost opened lq lm seeds)
    (queue : List Found) (marks : List Bool) (tags : List Tag) (st : IsSettledTree net s cost lm queue marks tags)
    (finite : List Finite) (told : AreTold cost queue (length queue) finite) where
  abbrev whole : SpAnswer
  whole = record { finite = finite; seeds = seeds; low = map low_of lq; unreached = filter (neither marks lm) (range_with_len 0 net.n) }

  -- ---- the tree
  entered : (k arc : ℕ) → k < length queue → (found_at queue k).why ≡ why.Arc arc → IsFoundBy net st.tree.opened queue k (found_at queue k) (why.Arc arc)
  entered k arc h e =
      let P : Why → Type 0 = λ w. IsFoundBy net st.tree.opened queue k (found_at queue k) w in
      subst P e (st.tree.is.why k h)

  labelled_by : (k : ℕ) → k < length queue → (w : Why) → (found_at queue k).why ≡ w → label_of tags (found_at queue k).node <ℤ far
  labelled_by k h (why.Seed i) e =
      let r = st.tree.root k i h e in
      let P : ℕ → Type 0 = λ v. label_of tags v <ℤ far in
      subst P (sym r.1) r.2.tagged
  labelled_by k h (why.Arc arc) e =
      let f = entered k arc h e in
      let b = by_arc net s cost lm tags st.tagged (target net arc) arc (st.tree.lasts.only arc f.1) in
      let P : ℕ → Type 0 = λ v. label_of tags v <ℤ far in
      subst P f.2 b.4

  labelled : (k : ℕ) → k < length queue → label_of tags (found_at queue k).node <ℤ far
  labelled k h = labelled_by k h (found_at queue k).why refl

  free : (k : ℕ) → k < length queue → is_marked lm (found_at queue k).node ≡ false
  free k h = st.tagged.free (found_at queue k).node (labelled k h)

  exclusive : (v : ℕ) → is_marked marks v ≡ true → is_marked lm v ≡ false
  exclusive v m =
      let p = place_of queue marks st.tree.is.once v m in
      let l : p.0 < length queue = p.1 in
      sym (ap (is_marked lm) p.2) ∙ free p.0 l

  told_by : (k : ℕ) → k < length queue → (w : Why) → (found_at queue k).why ≡ w → IsTold cost finite (found_at queue k) w (settled_at finite k)
  told_by k h w e =
      let P : Why → Type 0 = λ x. IsTold cost finite (found_at queue k) x (settled_at finite k) in
      subst P e (told.each k h)

  node_by : (k : ℕ) → k < length queue → (w : Why) → (found_at queue k).why ≡ w → (settled_at finite k).node ≡ (found_at queue k).node
  node_by k h (why.Seed i) e = (told_by k h (why.Seed i) e).0
  node_by k h (why.Arc arc) e = (told_by k h (why.Arc arc) e).0

  node_is : (k : ℕ) → k < length queue → (settled_at finite k).node ≡ (found_at queue k).node
  node_is k h = node_by k h (found_at queue k).why refl

  -- ---- labels and distances
  measured_by : (k : ℕ) → k < length queue → ((j : ℕ) → j < k → (depth : ℕ) × (depth ≤ j) × (label_of tags (found_at queue j).node ≡ (((settled_at finite j).dist *ℤ pos 131072) +ℤ pos depth))
      × (label_of tags (found_at queue j).node ≤ℤ pos (j * 10 ^ 25)))
      → (w : Why) → (found_at queue k).why ≡ w → (depth : ℕ) × (depth ≤ k) × (label_of tags (found_at queue k).node ≡ (((settled_at finite k).dist *ℤ pos 131072) +ℤ pos depth))
      × (label_of tags (found_at queue k).node ≤ℤ pos (k * 10 ^ 25))
  measured_by k h before (why.Seed i) e =
      let r = st.tree.root k i h e in
      let t = told_by k h (why.Seed i) e in
      let d : (settled_at finite k).dist ≡ pos 0 = t.1 in
      let a = ap (label_of tags) r.1 in
      let l = r.2.tagged in
      let z : label_of tags s ≡ pos 0 = elim (by_none net s cost lm tags st.tagged s r.2.bare) [ inl b ↦ b.1 | inr b ↦ absurd (omega (arith, ints)) ] in
      (0, omega arith, omega (arith, ints), omega (arith, ints))
  measured_by k h before (why.Arc arc) e =
      let f = entered k arc h e in
      let lb : (found_at queue k).before < k = f.3 in
      let b = by_arc net s cost lm tags st.tagged (target net arc) arc (st.tree.lasts.only arc f.1) in
      let low_end : (label_of tags (source net arc) +ℤ length_of cost arc) ≤ℤ label_of tags (target net arc) = b.3 in
      let high_end = st.settled arc f.0 b.2 (st.tagged.free (target net arc) b.4) in
      let i = before (found_at queue k).before lb in
      let id : i.0 ≤ (found_at queue k).before = i.1 in
      let il : label_of tags (found_at queue (found_at queue k).before).node ≡ (((settled_at finite (found_at queue k).before).dist *ℤ pos 131072) +ℤ pos i.0) = i.2 in
      let ih : label_of tags (found_at queue (found_at queue k).before).node ≤ℤ pos ((found_at queue k).before * 10 ^ 25) = i.3 in
      let t = told_by k h (why.Arc arc) e in
      let d : (settled_at finite k).dist ≡ ((settled_at finite (found_at queue k).before).dist +ℤ at cost arc) = t.1 in
      let to = ap (label_of tags) f.2 in
      let from = ap (label_of tags) f.4 in
      let hi = length_high net cost q arc in
      (i.0 + 1, omega arith, omega (arith, ints), omega (arith, ints))

  measured : (m k : ℕ) → k < m → k < length queue → (depth : ℕ) × (depth ≤ k) × (label_of tags (found_at queue k).node ≡ (((settled_at finite k).dist *ℤ pos 131072) +ℤ pos depth))
      × (label_of tags (found_at queue k).node ≤ℤ pos (k * 10 ^ 25))
  measured zero k l h = absurd (omega arith)
  measured (suc m) k l h = measured_by k h (λ j n. measured m j (omega arith) (omega arith)) (found_at queue k).why refl

  few : (k : ℕ) → k < length queue → k < 131071
  few k h = let c = st.tree.is.count in let n = q.wide.limits.nodes in omega arith

  shorter_at : (arc j k : ℕ) → arc < length net.arcs → j < length queue → k < length queue → source net arc ≡ (found_at queue j).node → target net arc ≡ (found_at queue k).node
      → (settled_at finite k).dist ≤ℤ ((settled_at finite j).dist +ℤ at cost arc)
  shorter_at arc j k la lj lk es et =
      let P : ℕ → Type 0 = λ v. label_of tags v <ℤ far in
      let Q : ℕ → Type 0 = λ v. is_marked lm v ≡ false in
      let h = st.settled arc la (subst P (sym es) (labelled j lj)) (subst Q (sym et) (free k lk)) in
      let a = measured (suc j) j (omega arith) lj in
      let b = measured (suc k) k (omega arith) lk in
      let ad : a.0 ≤ j = a.1 in
      let al : label_of tags (found_at queue j).node ≡ (((settled_at finite j).dist *ℤ pos 131072) +ℤ pos a.0) = a.2 in
      let bl : label_of tags (found_at queue k).node ≡ (((settled_at finite k).dist *ℤ pos 131072) +ℤ pos b.0) = b.2 in
      let from = ap (label_of tags) es in
      let to = ap (label_of tags) et in
      let n = few j lj in
      omega (arith, ints)

  -- an arc from a finite node leads to a finite or a low one
  below_by : (v : ℕ) → label_of tags v <ℤ far → (v < length tags) ⊎ (length tags ≤ v) → v < length tags
  below_by v h (inl l) = l
  below_by v h (inr l) = absurd (let e = ap (λ (x : Tag). x.label) (get_or_past tags v (record { label = far; by = None }) l) in omega (arith, ints))

  marked_by : (v : ℕ) → label_of tags v <ℤ far → (is_marked marks v ≡ true) ⊎ (is_marked marks v ≡ false) → is_marked marks v ≡ true
  marked_by v h (inl m) = m
  marked_by v h (inr m) =
      let l = below_by v h (cases_lt v (length tags)) in
      absurd (st.none v l (record { below = l; tagged = h; missed = m }))

  leads_on : (arc j : ℕ) → arc < length net.arcs → j < length queue → source net arc ≡ (found_at queue j).node → is_marked lm (target net arc) ≡ false → is_marked marks (target net arc) ≡ true
  leads_on arc j la lj es open_end =
      let P : ℕ → Type 0 = λ v. label_of tags v <ℤ far in
      let h = st.settled arc la (subst P (sym es) (labelled j lj)) open_end in
      let a = measured (suc j) j (omega arith) lj in
      let ah : label_of tags (found_at queue j).node ≤ℤ pos (j * 10 ^ 25) = a.3 in
      let from = ap (label_of tags) es in
      let n = few j lj in
      let hi = length_high net cost q arc in
      marked_by (target net arc) (omega (arith, ints)) (either_way (is_marked marks (target net arc)))

  -- ---- each node once
  finite_nodes : map (λ (f : Finite). f.node) finite ≡ found_nodes queue
  finite_nodes =
      let lf = length-map finite (λ (f : Finite). f.node) in
      let lg = length-map queue (λ (f : Found). f.node) in
      let tl = told.long in
      same_list (map (λ (f : Finite). f.node) finite) (found_nodes queue) (omega arith)
      (λ k l.
      (let h : k < length finite = omega arith in
      let g : k < length queue = omega arith in
      get_or-map (λ (f : Finite). f.node) finite k (record { node = 0; dist = pos 0; pred = None }) 0 h
      ∙ node_is k g
      ∙ sym (get_or-map (λ (f : Found). f.node) queue k (record { node = 0; why = why.Seed 0; before = 0 }) 0 g)))

  once_at : (v : ℕ) → v < net.n → IsOnce whole v
  once_at v l =
      let a = times_append v (map (λ (f : Finite). f.node) finite) (map (λ (x : Low). x.node) (map low_of lq) ++ filter (neither marks lm) (range_with_len 0 net.n)) in
      let b = times_append v (map (λ (x : Low). x.node) (map low_of lq)) (filter (neither marks lm) (range_with_len 0 net.n)) in
      let c = ap (times v) finite_nodes ∙ st.tree.is.once v in
      let d = ap (times v) (low_nodes lq) ∙ low.is.once v in
      let e = times_filter (neither marks lm) v net.n l in
      let o = one_of_three (is_marked marks v) (is_marked lm v) (exclusive v) in
      omega arith

  -- ---- low nodes
  low_is : (k : ℕ) → k < length lq → get_or (map low_of lq) k (record { node = 0; why = why.Arc 0 }) ≡ low_of (found_at lq k)
  low_is k h = get_or-map low_of lq k (record { node = 0; why = why.Seed 0; before = 0 }) (record { node = 0; why = why.Arc 0 }) h

  low_entered : (k arc : ℕ) → k < length lq → (found_at lq k).why ≡ why.Arc arc → IsFoundBy net opened lq k (found_at lq k) (why.Arc arc)
  low_entered k arc h e =
      let P : Why → Type 0 = λ w. IsFoundBy net opened lq k (found_at lq k) w in
      subst P e (low.is.why k h)

  reason_below : (k : ℕ) → k < length lq → (w : Why) → (found_at lq k).why ≡ w → IsReasonBelow (length net.arcs) (length seeds) w
  reason_below k h (why.Seed i) e = (low.starts k i h e).0
  reason_below k h (why.Arc arc) e = (low_entered k arc h e).0

  reason_by : (k : ℕ) → k < length lq → (w : Why) → (found_at lq k).why ≡ w → HasReason net whole k (found_at lq k).node w
  reason_by k h (why.Seed i) e = (low.starts k i h e).1
  reason_by k h (why.Arc arc) e =
      let f = low_entered k arc h e in
      let l : (found_at lq k).before < k = f.3 in
      ((found_at lq k).before, l, f.4 ∙ sym (ap (λ (x : Low). x.node) (low_is (found_at lq k).before (omega arith))), f.2)

  has_reason : (v k : ℕ) → k < length (map low_of lq) → (low_at whole k).node ≡ v → HasReason net whole k v (low_at whole k).why
  has_reason v k l e =
      let h : k < length lq = omega (arith, length-map lq low_of) in
      let P : Why → Type 0 = λ w. HasReason net whole k v w in
      let Q : ℕ → Type 0 = λ u. HasReason net whole k u (found_at lq k).why in
      let n : (found_at lq k).node ≡ v = sym (ap (λ (x : Low). x.node) (low_is k h)) ∙ e in
      subst P (sym (ap (λ (x : Low). x.why) (low_is k h))) (subst Q n (reason_by k h (found_at lq k).why refl))

  low_marked : (v : ℕ) → IsLow whole v → is_marked lm v ≡ true
  low_marked v p =
      let h : p.0 < length lq = omega (arith, p.1, length-map lq low_of) in
      let n : (found_at lq p.0).node ≡ v = sym (ap (λ (x : Low). x.node) (low_is p.0 h)) ∙ p.2 in
      sym (ap (is_marked lm) n) ∙ place_marked lq lm low.is.once p.0 h

  marked_low : (v : ℕ) → is_marked lm v ≡ true → IsLow whole v
  marked_low v m =
      let p = place_of lq lm low.is.once v m in
      let l : p.0 < length lq = p.1 in
      (p.0, omega (arith, length-map lq low_of), ap (λ (x : Low). x.node) (low_is p.0 l) ∙ p.2)

  -- ---- finite and unreached ones
  finite_place : (v : ℕ) → IsFinite whole v → (k : ℕ) × (k < length queue) × (v ≡ (found_at queue k).node)
  finite_place v p =
      let h : p.0 < length queue = omega (arith, p.1, told.long) in
      (p.0, h, sym p.2 ∙ node_is p.0 h)

  finite_marked : (v : ℕ) → IsFinite whole v → is_marked marks v ≡ true
  finite_marked v p =
      let k = finite_place v p in
      let h : k.0 < length queue = k.1 in
      ap (is_marked marks) k.2 ∙ place_marked queue marks st.tree.is.once k.0 h

  unreached_not : (v : ℕ) → IsToldUnreached whole v → (is_marked marks v ≡ false) × (is_marked lm v ≡ false)
  unreached_not v p =
      let l : p.0 < length (filter (neither marks lm) (range_with_len 0 net.n)) = p.1 in
      neither_not (is_marked marks v) (is_marked lm v)
      (filter_only (neither marks lm) net.n v (p.0, l, get_or_default (filter (neither marks lm) (range_with_len 0 net.n)) p.0 v 0 l ∙ p.2))

  leaves_at : (arc : ℕ) → arc < length net.arcs → StaysWithin net whole arc
  leaves_at arc la = record {
    finite = λ a b.
        (let k = finite_place (source net arc) a in
        let h : k.0 < length queue = k.1 in
        let u = unreached_not (target net arc) b in
        both_ways (is_marked marks (target net arc)) u.0 (leads_on arc k.0 la h k.2 u.1));
    low = λ a b.
        (let u = unreached_not (target net arc) b in
        both_ways (is_marked lm (target net arc)) u.1 (low.closed arc la (all arc la) (low_marked (source net arc) a)));
    back = λ a b.
        both_ways (is_marked lm (target net arc)) (exclusive (target net arc) (finite_marked (target net arc) b)) (low.closed arc la (all arc la) (low_marked (source net arc) a));
  }

  -- ---- in range
  pred_below : (k : ℕ) → k < length queue → (w : Why) → (found_at queue k).why ≡ w → IfSome (settled_at finite k).pred (λ arc. arc < length net.arcs)
  pred_below k h (why.Seed i) e =
      let P : Option ℕ → Type 0 = λ o. IfSome o (λ arc. arc < length net.arcs) in
      subst P (sym (told_by k h (why.Seed i) e).2) tt
  pred_below k h (why.Arc arc) e =
      let P : Option ℕ → Type 0 = λ o. IfSome o (λ arc. arc < length net.arcs) in
      subst P (sym (told_by k h (why.Arc arc) e).2) (entered k arc h e).0

  finite_below : All (IsFiniteInRange net) finite
  finite_below k d l =
      let h : k < length queue = omega (arith, told.long) in
      let P : Finite → Type 0 = λ y. IsFiniteInRange net y in
      let b = place_below net st.tree.opened queue marks st.tree.is k h in
      let e = node_is k h in
      subst P (get_or_default finite k (record { node = 0; dist = pos 0; pred = None }) d l) (record { node = omega arith; pred = pred_below k h (found_at queue k).why refl })

  seed_below : All (IsSeedInRange net) seeds
  seed_below k d l =
      let P : Seed → Type 0 = λ y. IsSeedInRange net y in
      let is = low.sound k l in
      let st_is = is.start_is in
      subst P (get_or_default seeds k (record { start = 0; walk = []; cycle = [] }) d l) (record {
        start = omega arith;
        walk = walk_below net s is.node (seed_of seeds k).walk is.walk;
        cycle = walk_below net is.node is.node (seed_of seeds k).cycle is.cycle;
      })

  low_below : All (IsLowInRange net (length seeds)) (map low_of lq)
  low_below k d l =
      let h : k < length lq = omega (arith, length-map lq low_of) in
      let P : Low → Type 0 = λ y. IsLowInRange net (length seeds) y in
      subst P (get_or_default (map low_of lq) k (record { node = 0; why = why.Arc 0 }) d l) (subst P (sym (low_is k h)) (record {
        node = place_below net opened lq lm low.is k h;
        why = reason_below k h (found_at lq k).why refl;
      }))

  -- ---- the source
  first_why : (k : ℕ) → k < length queue → k ≡ 0 → (w : Why) → (found_at queue k).why ≡ w → (i : ℕ) × ((found_at queue k).why ≡ why.Seed i)
  first_why k h z (why.Seed i) e = (i, e)
  first_why k h z (why.Arc arc) e = let f = entered k arc h e in let l : (found_at queue k).before < k = f.3 in absurd (omega arith)

  later_pred : (k : ℕ) → 0 < k → k < length queue → (w : Why) → (found_at queue k).why ≡ w → (arc : ℕ) × ((found_at queue k).why ≡ why.Arc arc)
  later_pred k some h (why.Seed i) e = let r = st.tree.root k i h e in absurd (omega (arith, r.0))
  later_pred k some h (why.Arc arc) e = (arc, e)

  tight_at : (v : ℕ) → IsTight net cost whole v
  tight_at v k some l e =
      let h : k < length queue = omega (arith, told.long) in
      let a = later_pred k some h (found_at queue k).why refl in
      let f = entered k a.0 h a.1 in
      let b : (found_at queue k).before < k = f.3 in
      let t = told_by k h (why.Arc a.0) a.1 in (
        a.0,
        (found_at queue k).before,
        record {
          pred = t.2;
          to = f.2 ∙ sym (node_is k h);
          from = f.4 ∙ sym (node_is (found_at queue k).before (omega arith));
          before = b;
          dist = t.1;
        },
      )

  first_at : is_marked lm s ≡ false → IsFirstFinite s whole
  first_at o =
      let r = st.tagged.root o in
      let m = marked_by s (omega (arith, ints)) (either_way (is_marked marks s)) in
      let p = place_of queue marks st.tree.is.once s m in
      let lp : p.0 < length queue = p.1 in
      let some : 0 < length queue = omega arith in
      let w = first_why 0 some refl (found_at queue 0).why refl in
      let t = told_by 0 some (why.Seed w.0) w.1 in
      record {
        some = omega (arith, told.long);
        node = t.0 ∙ (st.tree.root 0 w.0 some w.1).1;
        dist = t.1;
        pred = t.2;
        alone = λ k later l.
            (let h : k < length queue = omega (arith, told.long) in
            let a = later_pred k later h (found_at queue k).why refl in
            let P : Option ℕ → Type 0 = λ x. IsSome x in
            subst P (sym (told_by k h (why.Arc a.0) a.1).2) refl);
      }

  none_by : is_marked lm s ≡ true → (0 < length queue) ⊎ (length queue ≤ 0) → length finite ≡ 0
  none_by o (inl some) =
      let w = first_why 0 some refl (found_at queue 0).why refl in
      let r = st.tree.root 0 w.0 some w.1 in
      absurd (both_ways (is_marked lm s) (st.tagged.free s r.2.tagged) o)
  none_by o (inr none) = omega (arith, told.long)

  source_by : (is_marked lm s ≡ true) ⊎ (is_marked lm s ≡ false) → IsFirstFinite s whole ⊎ IsLowSource s whole
  source_by (inl o) = inr (record { none = none_by o (cases_lt 0 (length queue)); low = marked_low s o })
  source_by (inr o) = inl (first_at o)

  seed_at_is : (i : ℕ) → i < length seeds → IsSeed net s cost whole i
  seed_at_is i l =
      let is = low.sound i l in
      let P : ℕ → Type 0 = λ v. IsWalk net v is.node (seed_of seeds i).walk in
      (is.node, record { start = inl is.start_is; walk = subst P (sym is.start_is) is.walk; cycle = is.cycle; negative = is.negative })

  right_at : IsSpAnswer net s cost whole
  right_at = record {
    is = record {
      range = record {
        finite = finite_below;
        seeds = seed_below;
        low = low_below;
        unreached = filter_below (neither marks lm) net.n;
        count = (let m = low.many in let c = low.is.count in let n = q.wide.limits.nodes in omega arith);
      };
      once = once_at;
      source = source_by (either_way (is_marked lm s));
      tight = λ v l. tight_at v;
      seeds = seed_at_is;
      low = λ v l k m e. has_reason v k m e;
      shorter = λ arc la j k lj lk es et.
          (let hj : j < length queue = omega (arith, told.long) in
          let hk : k < length queue = omega (arith, told.long) in
          shorter_at arc j k la hj hk (es ∙ node_is j hj) (et ∙ node_is k hk));
      leaves = leaves_at;
    };
    order = filter_rises (neither marks lm) net.n;
  }

  pub answer_right : (low_row : List Low) (others : List ℕ) → low_row ≡ map low_of lq → others ≡ filter (neither marks lm) (range_with_len 0 (length marks))
      → IsSpAnswer net s cost (record { finite = finite; seeds = seeds; low = low_row; unreached = others })
  answer_right low_row others el eo =
      let P : List Low → Type 0 = λ x. IsSpAnswer net s cost (record { finite = finite; seeds = seeds; low = x; unreached = others }) in
      let Q : List ℕ → Type 0 = λ x. IsSpAnswer net s cost (record { finite = finite; seeds = seeds; low = map low_of lq; unreached = x }) in
      let e = ap (λ (k : ℕ). filter (neither marks lm) (range_with_len 0 k)) st.tree.is.long in
      subst P (sym el) (subst Q (sym (eo ∙ e)) right_at)
