-- Labels that fall along arcs.
use Rattle.std.proofs.Common.{◌≡◌, ◌⊎◌, inl, inr, ℕ, zero, suc, ◌+◌, ◌*◌, ◌<◌, ◌≤◌, ◌^◌, ℤ, pos, ◌+ℤ◌, ◌-ℤ◌, ◌≤ℤ◌, ◌<ℤ◌, Bool, true, false, List, [], ◌∷◌, ◌++◌, length, set, replicate, refl, sym, ◌∙◌, ap, subst, arith, length-set, get_or-set_same, get_or-set_other}
use borrow.Author.Differences.{ints}
use Rattle.std.specs.Prelude.{Option, Some, None, MatchBool}
use Rattle.std.proofs.lemmas.Bool.{cases_eq, cases_lt, both_ways}
use Rattle.std.proofs.lemmas.List.{length-replicate}
use Rattle.graph_defs.specs.declared.net.Net.{Net}
use Rattle.graph_defs.specs.Net.{source, target}
use Rattle.graph_defs.specs.Walk.{IsWalk}
use Rattle.graph_defs.proofs.Weights.{arcs_push}
use Rattle.sp_search.specs.declared.tags.Tag.{Tag}
use Rattle.sp_search.specs.Finding.{is_marked}
use Rattle.sp_search.specs.Tags.{far, length_of, tag_at, label_of, IsPriced, IsTaggedBy, IsTagged, AreAbove, total, IsSettledAlong, HasStayed, HasFallen, IsLess, AreSettled}
use Rattle.sp_search.specs.Wide.{IsWide}

-- ---- the length of an arc
module _ (net : Net) (cost : List ℤ) (q : IsPriced net cost) where
  pub length_low : (arc : ℕ) → (pos 0 -ℤ pos (10 ^ 25)) ≤ℤ length_of cost arc
  length_low arc = let l = q.low arc in omega (arith, ints)

  pub length_high : (arc : ℕ) → length_of cost arc ≤ℤ pos (10 ^ 25)
  length_high arc = let h = q.high arc in omega (arith, ints)

-- ---- one tag is set
pub tag_same : (tags : List Tag) (w : ℕ) (x : Tag) → w < length tags → tag_at (set tags w x) w ≡ x
tag_same tags w x h = get_or-set_same tags w x (record { label = far; by = None }) h

pub tag_other : (tags : List Tag) (w v : ℕ) (x : Tag) → (v ≡ w → ⊥) → tag_at (set tags w x) v ≡ tag_at tags v
tag_other tags w v x ne = get_or-set_other tags w v x (record { label = far; by = None }) ne

pub tag_here : (tags : List Tag) (w v : ℕ) (x : Tag) → w < length tags → v ≡ w → tag_at (set tags w x) v ≡ x
tag_here tags w v x h e =
    let P : ℕ → Type 0 = λ u. tag_at (set tags w x) u ≡ x in
    subst P (sym e) (tag_same tags w x h)

total_set : (tags : List Tag) (w : ℕ) (x : Tag) → w < length tags → (total (set tags w x) +ℤ label_of tags w) ≡ (total tags +ℤ x.label)
total_set [] w x h = absurd (omega arith)
total_set (y ∷ tags) zero x h = omega (arith, ints)
total_set (y ∷ tags) (suc w) x h = let i = total_set tags w x (omega arith) in omega (arith, ints)

pub total_low : (tags : List Tag) → ((v : ℕ) → (pos 0 -ℤ pos (10 ^ 31)) ≤ℤ label_of tags v) → (pos 0 -ℤ pos (length tags * 10 ^ 31)) ≤ℤ total tags
total_low [] h = omega (arith, ints)
total_low (x ∷ tags) h =
    let i = total_low tags (λ v. h (suc v)) in
    let a : (pos 0 -ℤ pos (10 ^ 31)) ≤ℤ x.label = h 0 in
    omega (arith, ints)

-- a label falls, and no other changes
module _ (tags : List Tag) (w : ℕ) (x : Tag) (h : w < length tags) (f : x.label <ℤ label_of tags w) where
  falls_cases : (v : ℕ) → (v ≡ w) ⊎ (v ≡ w → ⊥) → label_of (set tags w x) v ≤ℤ label_of tags v
  falls_cases v (inl e) =
      let a : label_of (set tags w x) v ≡ x.label = ap (λ (y : Tag). y.label) (tag_here tags w v x h e) in
      let b : label_of tags v ≡ label_of tags w = ap (label_of tags) e in
      omega (arith, ints)
  falls_cases v (inr ne) =
      let a : label_of (set tags w x) v ≡ label_of tags v = ap (λ (y : Tag). y.label) (tag_other tags w v x ne) in
      omega (arith, ints)

  pub never_rises : (v : ℕ) → label_of (set tags w x) v ≤ℤ label_of tags v
  never_rises v = falls_cases v (cases_eq v w)

  pub total_falls : total (set tags w x) <ℤ total tags
  total_falls = let t = total_set tags w x h in omega (arith, ints)

by_falls : (net : Net) (s : ℕ) (cost : List ℤ) (tags tags' : List Tag) (v : ℕ) (label : ℤ) (by : Option ℕ) → ((u : ℕ) → label_of tags' u ≤ℤ label_of tags u)
    → IsTaggedBy net s cost tags v label by → IsTaggedBy net s cost tags' v label by
by_falls net s cost tags tags' v label None falls b = b
by_falls net s cost tags tags' v label (Some arc) falls b =
    let f = falls (source net arc) in
    let c : label_of tags (source net arc) <ℤ far = b.2 in
    let d : (label_of tags (source net arc) +ℤ length_of cost arc) ≤ℤ label = b.3 in
    (b.0, b.1, omega (arith, ints), omega (arith, ints), b.4)

-- ---- along one arc
module _ (net : Net) (cost : List ℤ) (shut : List Bool) (arc : ℕ) (tags : List Tag) (wide : IsWide net) (l : arc < length net.arcs)
    (long : length tags ≡ net.n) (begins : label_of tags (source net arc) <ℤ far) (goes : is_marked shut (target net arc) ≡ false)
    (z : ℤ) (ze : z ≡ (label_of tags (source net arc) +ℤ length_of cost arc)) (falls : z <ℤ label_of tags (target net arc)) where
  within : target net arc < length tags
  within = let e = (wide.ends arc (0, 0) l).1 in omega (arith, long)

  lower : (v : ℕ) → label_of (set tags (target net arc) (record { label = z; by = Some arc })) v ≤ℤ label_of tags v
  lower v = never_rises tags (target net arc) (record { label = z; by = Some arc }) within falls v

  above_cases : (bound v : ℕ) → AreAbove tags bound → (pos 0 -ℤ pos (10 ^ 25)) ≤ℤ length_of cost arc → (v ≡ target net arc) ⊎ (v ≡ target net arc → ⊥)
      → (pos 0 -ℤ pos (bound + 10 ^ 25)) ≤ℤ label_of (set tags (target net arc) (record { label = z; by = Some arc })) v
  above_cases bound v above low (inl e) =
      let a : label_of (set tags (target net arc) (record { label = z; by = Some arc })) v ≡ z =
      ap (λ (y : Tag). y.label) (tag_here tags (target net arc) v (record { label = z; by = Some arc }) within e) in
      let b = above (source net arc) in
      omega (arith, ints)
  above_cases bound v above low (inr ne) =
      let a : label_of (set tags (target net arc) (record { label = z; by = Some arc })) v ≡ label_of tags v =
      ap (λ (y : Tag). y.label) (tag_other tags (target net arc) v (record { label = z; by = Some arc }) ne) in
      let b = above v in
      omega (arith, ints)

  module _ (s : ℕ) (t : IsTagged net s cost shut tags) where
    arcs_cases : (v : ℕ) → (v ≡ target net arc) ⊎ (v ≡ target net arc → ⊥)
        → IsTaggedBy net s cost (set tags (target net arc) (record { label = z; by = Some arc })) v
        (tag_at (set tags (target net arc) (record { label = z; by = Some arc })) v).label (tag_at (set tags (target net arc) (record { label = z; by = Some arc })) v).by
    arcs_cases v (inl e) =
        let P : Tag → Type 0 = λ y. IsTaggedBy net s cost (set tags (target net arc) (record { label = z; by = Some arc })) v y.label y.by in
        let f = lower (source net arc) in
        let g = t.top (target net arc) in
        subst P (sym (tag_here tags (target net arc) v (record { label = z; by = Some arc }) within e)) (l, sym e, omega (arith, ints), omega (arith, ints), omega (arith, ints))
    arcs_cases v (inr ne) =
        let P : Tag → Type 0 = λ y. IsTaggedBy net s cost (set tags (target net arc) (record { label = z; by = Some arc })) v y.label y.by in
        subst P (sym (tag_other tags (target net arc) v (record { label = z; by = Some arc }) ne))
        (by_falls net s cost tags (set tags (target net arc) (record { label = z; by = Some arc })) v (tag_at tags v).label (tag_at tags v).by lower (t.arcs v))

    free_cases : (v : ℕ) → (v ≡ target net arc) ⊎ (v ≡ target net arc → ⊥)
        → label_of (set tags (target net arc) (record { label = z; by = Some arc })) v <ℤ far → is_marked shut v ≡ false
    free_cases v (inl e) h = ap (is_marked shut) e ∙ goes
    free_cases v (inr ne) h =
        let a : label_of (set tags (target net arc) (record { label = z; by = Some arc })) v ≡ label_of tags v =
        ap (λ (y : Tag). y.label) (tag_other tags (target net arc) v (record { label = z; by = Some arc }) ne) in
        t.free v (omega (arith, ints))

    walk_cases : (v : ℕ) → (v ≡ target net arc) ⊎ (v ≡ target net arc → ⊥)
        → label_of (set tags (target net arc) (record { label = z; by = Some arc })) v <ℤ far → (walk : List ℕ) × IsWalk net s v walk
    walk_cases v (inl e) h =
        let w = t.walk (source net arc) begins in
        let P : ℕ → Type 0 = λ u. IsWalk net s u (w.0 ++ arc ∷ []) in
        (w.0 ++ arc ∷ [], subst P (sym e) (arcs_push net s (source net arc) arc w.0 w.1 l refl))
    walk_cases v (inr ne) h =
        let a : label_of (set tags (target net arc) (record { label = z; by = Some arc })) v ≡ label_of tags v =
        ap (λ (y : Tag). y.label) (tag_other tags (target net arc) v (record { label = z; by = Some arc }) ne) in
        t.walk v (omega (arith, ints))

    tagged_more : IsTagged net s cost shut (set tags (target net arc) (record { label = z; by = Some arc }))
    tagged_more = record {
      long = length-set tags (target net arc) (record { label = z; by = Some arc }) ∙ long;
      arcs = λ v. arcs_cases v (cases_eq v (target net arc));
      top = λ v. (let f = lower v in let g = t.top v in omega (arith, ints));
      root = λ o. (let f = lower s in let g = t.root o in omega (arith, ints));
      free = λ v h. free_cases v (cases_eq v (target net arc)) h;
      walk = λ v h. walk_cases v (cases_eq v (target net arc)) h;
    }

pub fallen_by : (net : Net) (cost : List ℤ) (shut : List Bool) (arc : ℕ) (tags : List Tag) (to : ℕ) (z : ℤ) → to ≡ target net arc → z ≡ (label_of tags (source net arc) +ℤ length_of cost arc)
    → label_of tags (source net arc) <ℤ far → is_marked shut to ≡ false → z <ℤ label_of tags to → HasFallen net cost shut arc tags (set tags to (record { label = z; by = Some arc }))
fallen_by net cost shut arc tags to z te ze begins goes falls =
    let P : ℕ → Type 0 = λ v. is_marked shut v ≡ false in
    let Q : ℕ → Type 0 = λ v. z <ℤ label_of tags v in
    let f = subst Q te falls in
    record {
      begins = begins;
      goes = subst P te goes;
      falls = omega (arith, ints);
      is = ap (λ (v : ℕ). set tags v (record { label = z; by = Some arc })) te ∙ ap (λ (y : ℤ). set tags (target net arc) (record { label = y; by = Some arc })) ze;
    }

-- ---- from arc to arc of a round
pub record IsInRound (net : Net) (cost : List ℤ) (shut : List Bool) (k : ℕ) (falls : Bool) (tags tags' : List Tag) : Type 0 where
  pub long : length tags' ≡ net.n
  pub tagged : (s : ℕ) → IsTagged net s cost shut tags → IsTagged net s cost shut tags'
  pub above : AreAbove tags' (10 ^ 31 + k * 10 ^ 25)
  pub so_far : MatchBool falls (IsLess tags tags') (AreSettled net cost shut k tags tags')

pub round_start : (net : Net) (cost : List ℤ) (shut : List Bool) (tags : List Tag) → length tags ≡ net.n → AreAbove tags (10 ^ 31) → IsInRound net cost shut 0 false tags tags
round_start net cost shut tags long above = record {
  long = long;
  tagged = λ s t. t;
  above = λ v. (let a = above v in omega (arith, ints));
  so_far = record { is = refl; settled = λ arc h. absurd (omega arith) };
}

less_or_same : (net : Net) (cost : List ℤ) (shut : List Bool) (k : ℕ) (falls : Bool) (tags tags' : List Tag) → MatchBool falls (IsLess tags tags') (AreSettled net cost shut k tags tags')
    → total tags' ≤ℤ total tags
less_or_same net cost shut k true tags tags' h = omega (arith, ints)
less_or_same net cost shut k false tags tags' h = let e = ap total h.is in omega (arith, ints)

module _ (net : Net) (cost : List ℤ) (shut : List Bool) (k : ℕ) (falls : Bool) (tags tags' : List Tag) (q : IsPriced net cost) (l : k < length net.arcs)
    (r : IsInRound net cost shut k falls tags tags') where
  pub round_falls : (tags'' : List Tag) → HasFallen net cost shut k tags' tags'' → IsInRound net cost shut (k + 1) true tags tags''
  round_falls tags'' f =
      let z : ℤ = label_of tags' (source net k) +ℤ length_of cost k in
      let P : List Tag → Type 0 = λ xs. IsInRound net cost shut (k + 1) true tags xs in
      let low = length_low net cost q k in
      let t = total_falls tags' (target net k) (record { label = z; by = Some k }) (within net cost shut k tags' q.wide l r.long f.begins f.goes z refl f.falls) f.falls in
      let m = less_or_same net cost shut k falls tags tags' r.so_far in
      subst P (sym f.is) (record {
        long = length-set tags' (target net k) (record { label = z; by = Some k }) ∙ r.long;
        tagged = λ s a. tagged_more net cost shut k tags' q.wide l r.long f.begins f.goes z refl f.falls s (r.tagged s a);
        above = λ v. (let b = above_cases net cost shut k tags' q.wide l r.long f.begins f.goes z refl f.falls (10 ^ 31 + k * 10 ^ 25) v r.above low (cases_eq v (target net k)) in omega (arith, ints));
        so_far = omega (arith, ints);
      })

  settled_cases : (arc : ℕ) → (arc < k) ⊎ (k ≤ arc) → arc < k + 1 → ((i : ℕ) → i < k → IsSettledAlong net cost shut tags' i) → IsSettledAlong net cost shut tags' k → IsSettledAlong net cost shut tags' arc
  settled_cases arc (inl h) m before here = before arc h
  settled_cases arc (inr h) m before here =
      let e : k ≡ arc = omega arith in
      let P : ℕ → Type 0 = λ i. IsSettledAlong net cost shut tags' i in
      subst P e here

  stays_cases : (b : Bool) → IsSettledAlong net cost shut tags' k → MatchBool b (IsLess tags tags') (AreSettled net cost shut k tags tags') → MatchBool b (IsLess tags tags') (AreSettled net cost shut (k + 1) tags tags')
  stays_cases true here h = h
  stays_cases false here h = record { is = h.is; settled = λ arc m. settled_cases arc (cases_lt arc k) m h.settled here }

  pub round_stays : (tags'' : List Tag) → HasStayed net cost shut k tags' tags'' → IsInRound net cost shut (k + 1) falls tags tags''
  round_stays tags'' f =
      let P : List Tag → Type 0 = λ xs. IsInRound net cost shut (k + 1) falls tags xs in
      subst P (sym f.is) (record {
        long = r.long;
        tagged = r.tagged;
        above = λ v. (let b = r.above v in omega (arith, ints));
        so_far = stays_cases falls f.settled r.so_far;
      })

-- ---- the first tags
pub all_far : (n v : ℕ) → tag_at (replicate n (record { label = far; by = None })) v ≡ record { label = far; by = None }
all_far zero v = refl
all_far (suc n) zero = refl
all_far (suc n) (suc v) = all_far n v

-- a row without tags, or with one
abbrev pub none_known : ℕ → List Tag
none_known n = replicate n (record { label = far; by = None })

abbrev pub one_known : ℕ → ℕ → List Tag
one_known n s = set (none_known n) s (record { label = pos 0; by = None })

far_by : (net : Net) (s : ℕ) (cost : List ℤ) (tags : List Tag) (v : ℕ) → tag_at tags v ≡ record { label = far; by = None } → IsTaggedBy net s cost tags v (tag_at tags v).label (tag_at tags v).by
far_by net s cost tags v e =
    let P : Tag → Type 0 = λ y. IsTaggedBy net s cost tags v y.label y.by in
    subst P (sym e) (inr refl)

pub none_tagged : (net : Net) (s : ℕ) (cost : List ℤ) (shut : List Bool) → is_marked shut s ≡ true → IsTagged net s cost shut (none_known net.n)
none_tagged net s cost shut o =
    let is : (v : ℕ) → label_of (none_known net.n) v ≡ far = λ v. ap (λ (y : Tag). y.label) (all_far net.n v) in
    record {
      long = length-replicate {A = Tag} net.n (record { label = far; by = None });
      arcs = λ v. far_by net s cost (none_known net.n) v (all_far net.n v);
      top = λ v. (let a = is v in omega (arith, ints));
      root = λ c. absurd (both_ways (is_marked shut s) c o);
      free = λ v h. absurd (let a = is v in omega (arith, ints));
      walk = λ v h. absurd (let a = is v in omega (arith, ints));
    }

module _ (net : Net) (s : ℕ) (cost : List ℤ) (shut : List Bool) (hs : s < net.n) (o : is_marked shut s ≡ false) where
  long : s < length (none_known net.n)
  long = omega (arith, length-replicate {A = Tag} net.n (record { label = far; by = None }))

  at_source : (v : ℕ) → v ≡ s → tag_at (one_known net.n s) v ≡ record { label = pos 0; by = None }
  at_source v e = tag_here (none_known net.n) s v (record { label = pos 0; by = None }) long e

  elsewhere : (v : ℕ) → (v ≡ s → ⊥) → tag_at (one_known net.n s) v ≡ record { label = far; by = None }
  elsewhere v ne = tag_other (none_known net.n) s v (record { label = pos 0; by = None }) ne ∙ all_far net.n v

  source_cases : (v : ℕ) → (v ≡ s) ⊎ (v ≡ s → ⊥) → IsTaggedBy net s cost (one_known net.n s) v
      (tag_at (one_known net.n s) v).label
      (tag_at (one_known net.n s) v).by
  source_cases v (inl e) =
      let P : Tag → Type 0 = λ y. IsTaggedBy net s cost (one_known net.n s) v y.label y.by in
      subst P (sym (at_source v e)) (inl (e, refl))
  source_cases v (inr ne) = far_by net s cost (one_known net.n s) v (elsewhere v ne)

  top_cases : (v : ℕ) → (v ≡ s) ⊎ (v ≡ s → ⊥) → label_of (one_known net.n s) v ≤ℤ far
  top_cases v (inl e) = let a = ap (λ (y : Tag). y.label) (at_source v e) in omega (arith, ints)
  top_cases v (inr ne) = let a = ap (λ (y : Tag). y.label) (elsewhere v ne) in omega (arith, ints)

  only_source : (v : ℕ) → (v ≡ s) ⊎ (v ≡ s → ⊥) → label_of (one_known net.n s) v <ℤ far → v ≡ s
  only_source v (inl e) h = e
  only_source v (inr ne) h = absurd (let a = ap (λ (y : Tag). y.label) (elsewhere v ne) in omega (arith, ints))

  pub source_tagged : IsTagged net s cost shut (one_known net.n s)
  source_tagged = record {
    long = length-set (none_known net.n) s (record { label = pos 0; by = None }) ∙ length-replicate {A = Tag} net.n (record { label = far; by = None });
    arcs = λ v. source_cases v (cases_eq v s);
    top = λ v. top_cases v (cases_eq v s);
    root = λ c. (let a = ap (λ (y : Tag). y.label) (at_source s refl) in omega (arith, ints));
    free = λ v h. ap (is_marked shut) (only_source v (cases_eq v s) h) ∙ o;
    walk = λ v h. ([], sym (only_source v (cases_eq v s) h));
  }
