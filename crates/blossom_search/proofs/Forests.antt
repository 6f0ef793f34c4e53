-- The steps of a forest of stems.
use Rattle.std.proofs.Common.{◌≡◌, ◌≢◌, ◌⊎◌, inl, inr, ℕ, suc, ◌+◌, ◌<◌, ◌≤◌, Bool, true, false, not, cond, eqb, List, [], ◌∷◌, ◌++◌, length, get_or, set, take, drop, replicate, refl, sym, ◌∙◌, ap, subst, arith, length-set, get_or-set_same, get_or-set_other}
use Rattle.std.specs.List.{count_by}
use Rattle.std.proofs.lemmas.Bool.{cases_eq, cases_lt, true≢false, ne_eqb}
use Rattle.std.proofs.lemmas.List.{length_push, get_or_push, get_or_append_left, get_or_past, get_or-replicate, length-replicate, drop_more, take_all}
use Rattle.std.proofs.lemmas.List.Sums.{sum_by-set}
use Rattle.graph_defs.specs.declared.net.Net.{Net}
use Rattle.graph_defs.specs.Count.{times}
use Rattle.graph_defs.specs.Net.{source, target}
use Rattle.graph_defs.specs.Matching.{is_end, degree, IsMatching}
use Rattle.graph_defs.proofs.Counts.{times_same, times_other, has_times}
use Rattle.match_core.specs.declared.matching.Blossom.{Blossom}
use Rattle.match_core.proofs.Steps.{degree_more}
use Rattle.match_core.specs.Path.{IsFree, Joins, IsEvenPath, IsAugmenting, HasStem}
use Rattle.blossom_lift.specs.Contraction.{inside, IsCycle}
use Rattle.blossom_lift.specs.Passes.{marked}
use Rattle.blossom_lift.proofs.Degrees.{All_at, bit_false, degree_has}
use Rattle.blossom_lift.proofs.Ranks.{bool_cases}
use Rattle.blossom_lift.proofs.Views.{joins_end, other_end}
use Rattle.blossom_search.specs.declared.forest.Forest.{Forest}
use Rattle.blossom_search.specs.declared.stem.Mate.{Mate}
use Rattle.blossom_search.specs.declared.stem.Stem.{Stem}
use Rattle.blossom_search.specs.Closed.{AreClosed, AreLabels, label_of}
use Rattle.blossom_search.specs.Forest.{IsStemmed, IsMate, IsEvenPlace, stem_at, stem_beyond, IsGrown, Waits, IsNear, AreForest, IsForest, IsStarted, work, HasSpread}
use Rattle.blossom_search.specs.Growth.{even_count}
use Rattle.blossom_search.proofs.Growths.{zero_or, other_same, mate_is, stem_more, stem_end, stem_round}

-- ---- marks
mark_here : (marks : List Bool) (w v : ℕ) → w < length marks → v ≡ w → marked (set marks w true) v ≡ true
mark_here marks w v h e = ap (λ (u : ℕ). marked (set marks w true) u) e ∙ get_or-set_same marks w true false h

mark_kept : (marks : List Bool) (w v : ℕ) → w < length marks → marked marks v ≡ true → marked (set marks w true) v ≡ true
mark_kept marks w v h t = elim (cases_eq v w) [
  | inl e ↦ mark_here marks w v h e
  | inr ne ↦ get_or-set_other marks w v true false ne ∙ t
]

mark_cases : (marks : List Bool) (w v : ℕ) → marked (set marks w true) v ≡ true → (v ≡ w) ⊎ (marked marks v ≡ true)
mark_cases marks w v t = elim (cases_eq v w) [
  | inl e ↦ inl e
  | inr ne ↦ inr (sym (get_or-set_other marks w v true false ne) ∙ t)
]

one_less : (marks : List Bool) (w : ℕ) → w < length marks → marked marks w ≡ false → count_by not (set marks w true) + 1 ≡ count_by not marks
one_less marks w h e =
    let g : Bool → ℕ = λ b. cond (not b) 1 0 in
    let s : count_by not (set marks w true) + g (get_or marks w false) ≡ count_by not marks + 0 = sum_by-set g marks w true false h in
    let o : g (get_or marks w false) ≡ 1 = ap g e in
    omega arith

-- ---- stems that wait
waits_before : (waiting : List Stem) (s : Stem) (v : ℕ) → Waits waiting v → Waits (waiting ++ s ∷ []) v
waits_before waiting s v w = record {
  place = w.place;
  stem = w.stem;
  within = (let l = w.within in let p = length_push waiting s in omega arith);
  there = λ d. get_or_append_left waiting (s ∷ []) d w.place w.within ∙ w.there d;
  ends = w.ends;
}

waits_new : (waiting : List Stem) (s : Stem) (v : ℕ) → v ≡ s.end → Waits (waiting ++ s ∷ []) v
waits_new waiting s v e = record {
  place = length waiting;
  stem = s;
  within = (let p = length_push waiting s in omega arith);
  there = λ d. get_or_push waiting s d (length waiting) refl;
  ends = sym e;
}

waits_popped : (waiting : List Stem) (s : Stem) (v : ℕ) → Waits (waiting ++ s ∷ []) v → (Waits waiting v) ⊎ (v ≡ s.end)
waits_popped waiting s v w =
    let p = length_push waiting s in
    let l = w.within in
    elim (cases_eq w.place (length waiting)) [
      | inl e ↦ inr (sym w.ends ∙ ap (λ (t : Stem). t.end) (sym (w.there s) ∙ get_or_push waiting s s w.place (sym e)))
      | inr ne ↦ inl (record {
        place = w.place;
        stem = w.stem;
        within = omega arith;
        there = λ d. sym (get_or_append_left waiting (s ∷ []) d w.place (omega arith)) ∙ w.there d;
        ends = w.ends;
      })
    ]

grown_kept : (net : Net) (edges : List ℕ) (evens more : List Bool) (s : Stem) → ((v : ℕ) → marked evens v ≡ true → marked more v ≡ true) → IsGrown net edges evens s → IsGrown net edges more s
grown_kept net edges evens more s k g = record {
  from = g.from;
  rest = g.rest;
  whole = g.whole;
  below = g.below;
  stem = g.stem;
  even = λ v t. k v (g.even v t);
}

-- ---- forests
forest_popped : (net : Net) (edges : List ℕ) (evens odds : List Bool) (waiting : List Stem) (s : Stem) → AreForest net edges (λ v. ⊥) evens odds (waiting ++ s ∷ [])
    → AreForest net edges (λ v. v ≡ s.end) evens odds waiting
forest_popped net edges evens odds waiting s h = record {
  even_long = h.even_long;
  odd_long = h.odd_long;
  met = h.met;
  mates = h.mates;
  stems = λ k d l. subst (IsGrown net edges evens) (get_or_append_left waiting (s ∷ []) d k l) (h.stems k d (let p = length_push waiting s in omega arith));
  settled = λ v t. elim (h.settled v t) [
    | inl b ↦ absurd b
    | inr r ↦ elim r [
      | inl w ↦ elim (waits_popped waiting s v w) [ inl y ↦ inr (inl y) | inr e ↦ inl e ]
      | inr n ↦ inr (inr n)
    ]
  ];
}

stem_popped : (net : Net) (edges : List ℕ) (evens odds : List Bool) (waiting : List Stem) (s : Stem) → AreForest net edges (λ v. ⊥) evens odds (waiting ++ s ∷ []) → IsGrown net edges evens s
stem_popped net edges evens odds waiting s h = subst (IsGrown net edges evens) (get_or_push waiting s s (length waiting) refl) (h.stems (length waiting) s (let p = length_push waiting s in omega arith))

forest_settled : (net : Net) (edges : List ℕ) (evens odds : List Bool) (waiting : List Stem) (x : ℕ) → AreForest net edges (λ v. v ≡ x) evens odds waiting → IsNear net odds x
    → AreForest net edges (λ v. ⊥) evens odds waiting
forest_settled net edges evens odds waiting x h n = record {
  even_long = h.even_long;
  odd_long = h.odd_long;
  met = h.met;
  mates = h.mates;
  stems = h.stems;
  settled = λ v t. elim (h.settled v t) [ inl e ↦ inr (inr (subst (IsNear net odds) (sym e) n)) | inr r ↦ inr r ];
}

forest_pushed : (net : Net) (edges : List ℕ) (P : ℕ → Type 0) (evens odds : List Bool) (waiting : List Stem) (s : Stem) → s.end < net.n → IsGrown net edges (set evens s.end true) s
    → AreForest net edges P evens odds waiting → AreForest net edges P (set evens s.end true) odds (waiting ++ s ∷ [])
forest_pushed net edges P evens odds waiting s l g h =
    let long = h.even_long in
    let b : s.end < length evens = omega arith in
    record {
      even_long = length-set evens s.end true ∙ h.even_long;
      odd_long = h.odd_long;
      met = h.met;
      mates = λ arc v w t j o. mark_kept evens s.end w b (h.mates arc v w t j o);
      stems = λ k d lt. (let p = length_push waiting s in elim (cases_eq k (length waiting)) [
        | inl e ↦ subst (IsGrown net edges (set evens s.end true)) (sym (get_or_push waiting s d k (sym e))) g
        | inr ne ↦ (let m : k < length waiting = omega arith in
            subst (IsGrown net edges (set evens s.end true)) (sym (get_or_append_left waiting (s ∷ []) d k m))
            (grown_kept net edges evens (set evens s.end true) (get_or waiting k d) (λ v t. mark_kept evens s.end v b t) (h.stems k d m)))
      ]);
      settled = λ v t. elim (mark_cases evens s.end v t) [
        | inl e ↦ inr (inl (waits_new waiting s v e))
        | inr o ↦ elim (h.settled v o) [
          | inl q ↦ inl q
          | inr r ↦ elim r [ inl w ↦ inr (inl (waits_before waiting s v w)) | inr n ↦ inr (inr n) ]
        ]
      ];
    }

forest_odd : (net : Net) (edges : List ℕ) (P : ℕ → Type 0) (evens odds : List Bool) (waiting : List Stem) (y : ℕ) → y < net.n → (IsFree net edges y → ⊥)
    → ((arc w : ℕ) → 1 ≤ times arc edges → Joins net arc y w → marked evens w ≡ true) → AreForest net edges P evens odds waiting → AreForest net edges P evens (set odds y true) waiting
forest_odd net edges P evens odds waiting y l f m h =
    let long = h.odd_long in
    let b : y < length odds = omega arith in
    record {
      even_long = h.even_long;
      odd_long = length-set odds y true ∙ h.odd_long;
      met = λ v o z. elim (mark_cases odds y v o) [ inl e ↦ f (subst (IsFree net edges) e z) | inr k ↦ h.met v k z ];
      mates = λ arc v w t j o. elim (mark_cases odds y v o) [ inl e ↦ m arc w t (subst (λ (x : ℕ). Joins net arc x w) e j) | inr k ↦ h.mates arc v w t j k ];
      stems = h.stems;
      settled = λ v t. elim (h.settled v t) [
        | inl q ↦ inl q
        | inr r ↦ elim r [ inl w ↦ inr (inl w) | inr n ↦ inr (inr (λ arc w j. mark_kept odds y w b (n arc w j))) ]
      ];
    }

-- ---- the even places of a stem
even_none : (y a : ℕ) (vs : List ℕ) → ((half : ℕ) → IsEvenPlace (a ∷ vs) y half → ⊥) → even_count y a vs ≡ 0
even_none y a [] h = ap (λ (b : Bool). cond {A = ℕ} b 1 0) (ne_eqb y a (λ e. h 0 (record { within = omega arith; there = sym e })))
even_none y a (d ∷ []) h = ap (λ (b : Bool). cond {A = ℕ} b 1 0) (ne_eqb y a (λ e. h 0 (record { within = omega arith; there = sym e })))
even_none y a (d ∷ g ∷ vs) h =
    let first : cond {A = ℕ} (eqb y a) 1 0 ≡ 0 = ap (λ (b : Bool). cond {A = ℕ} b 1 0) (ne_eqb y a (λ e. h 0 (record { within = omega arith; there = sym e }))) in
    let i = even_none y g vs (λ half p.
    let k : suc (suc (half + half)) ≡ suc half + suc half = omega arith in
    let l = p.within in
    h (suc half) (record { within = omega arith; there = subst (λ (j : ℕ). get_or (a ∷ d ∷ g ∷ vs) j 0 ≡ y) k p.there })) in
    omega arith

even_two : (x a : ℕ) (vs : List ℕ) (net : Net) (m es : List ℕ) (v y g : ℕ) → IsEvenPath net m a es vs v → even_count x a (vs ++ y ∷ g ∷ []) ≡ even_count x a vs + cond {A = ℕ} (eqb x g) 1 0
even_two x a [] net m es v y g p = refl
even_two x a (d ∷ []) net m [] v y g p = absurd p
even_two x a (d ∷ []) net m (e ∷ []) v y g p = absurd p
even_two x a (d ∷ []) net m (e ∷ f ∷ es) v y g p = absurd p
even_two x a (d ∷ c ∷ vs) net m [] v y g p = absurd p
even_two x a (d ∷ c ∷ vs) net m (e ∷ []) v y g p = absurd p
even_two x a (d ∷ c ∷ vs) net m (e ∷ f ∷ es) v y g p = let i = even_two x c vs net m es v y g p.3 in omega arith

even_lengths : (net : Net) (m : List ℕ) (es : List ℕ) (a : ℕ) (vs : List ℕ) (w : ℕ) → IsEvenPath net m a es vs w → length es ≡ length vs
even_lengths net m [] a [] w p = refl
even_lengths net m [] a (d ∷ vs) w p = absurd p
even_lengths net m (e ∷ []) a vs w p = absurd p
even_lengths net m (e ∷ f ∷ es) a [] w p = absurd p
even_lengths net m (e ∷ f ∷ es) a (d ∷ []) w p = absurd p
even_lengths net m (e ∷ f ∷ es) a (d ∷ g ∷ vs) w p = let i = even_lengths net m es g vs w p.3 in omega arith

-- as many nodes as edges, and one more
pub stem_lengths : (net : Net) (edges : List ℕ) (evens : List Bool) (s : Stem) → IsGrown net edges evens s → length s.nodes ≡ length s.edges + 1
stem_lengths net edges evens s g =
    let w : length s.nodes ≡ length (g.from ∷ g.rest) = ap length g.whole in
    let l = even_lengths net edges s.edges g.from g.rest s.end g.stem.even in
    omega arith

off_evens : (net : Net) (edges : List ℕ) (evens : List Bool) (s : Stem) (y : ℕ) → (g : IsGrown net edges evens s) → ((half : ℕ) → IsEvenPlace s.nodes y half → ⊥) → even_count y g.from g.rest ≡ 0
off_evens net edges evens s y g n = even_none y g.from g.rest (subst (λ (ns : List ℕ). (half : ℕ) → IsEvenPlace ns y half → ⊥) g.whole n)

-- ---- one arc more
grown_beyond : (net : Net) (edges : List ℕ) (evens : List Bool) (s : Stem) (arc y : ℕ) (mate : Mate) → IsMatching net edges → IsGrown net edges evens s → Joins net arc s.end y → IsMate net edges y mate
    → ((half : ℕ) → IsEvenPlace s.nodes y half → ⊥) → marked evens mate.end ≡ false → mate.end < length evens → IsGrown net edges (set evens mate.end true) (stem_beyond s arc y mate)
grown_beyond net edges evens s arc y mate m g j t n new l =
    let zero_mate : even_count mate.end g.from g.rest ≡ 0 = zero_or (even_count mate.end g.from g.rest) (λ h. true≢false (sym (g.even mate.end h) ∙ new)) in
    record {
      from = g.from;
      rest = g.rest ++ y ∷ mate.end ∷ [];
      whole = ap (λ (ns : List ℕ). ns ++ y ∷ mate.end ∷ []) g.whole;
      below = g.below;
      stem = stem_more net edges s.edges g.from s.end g.rest arc mate.edge y mate.end m g.stem j t.joins t.has (off_evens net edges evens s y g n) zero_mate;
      even = λ v h. (let c = even_two v g.from g.rest net edges s.edges s.end y mate.end g.stem.even in elim (cases_eq v mate.end) [
        | inl e ↦ mark_here evens mate.end v l e
        | inr ne ↦ (let z : cond {A = ℕ} (eqb v mate.end) 1 0 ≡ 0 = ap (λ (b : Bool). cond {A = ℕ} b 1 0) (ne_eqb v mate.end ne) in
            mark_kept evens mate.end v l (g.even v (omega arith)))
      ]);
    }

pub path_found : (net : Net) (edges : List ℕ) (evens : List Bool) (s : Stem) (arc y : ℕ) (path : List ℕ) → IsMatching net edges → IsGrown net edges evens s → Joins net arc s.end y → IsFree net edges y
    → ((half : ℕ) → IsEvenPlace s.nodes y half → ⊥) → path ≡ s.edges ++ arc ∷ [] → IsAugmenting net edges path
path_found net edges evens s arc y path m g j f n e =
    subst (IsAugmenting net edges) (sym e) (stem_end net edges s.edges g.from s.end g.rest arc y m g.stem j f (off_evens net edges evens s y g n))

cut_whole : (a : ℕ) (vs : List ℕ) (place base : ℕ) → place ≤ length vs → get_or (a ∷ vs) place 0 ≡ base → drop place (a ∷ vs) ≡ base ∷ drop place vs
cut_whole a vs place base l e =
    let k : place + 1 ≡ suc place = omega arith in
    drop_more (a ∷ vs) place 0 (omega arith) ∙ ap (λ (j : ℕ). get_or (a ∷ vs) place 0 ∷ drop j (a ∷ vs)) k ∙ ap (λ (x : ℕ). x ∷ drop place vs) e

pub flower_found : (net : Net) (edges : List ℕ) (evens : List Bool) (s : Stem) (arc y half : ℕ) (b : Blossom) → IsGrown net edges evens s → Joins net arc s.end y
    → IsEvenPlace s.nodes y half → b.nodes ≡ drop (half + half) s.nodes → b.edges ≡ drop (half + half) s.edges ++ arc ∷ [] → IsStemmed net edges b
flower_found net edges evens s arc y half b g j at bn be =
    let l = at.within in
    let w : length s.nodes ≡ length (g.from ∷ g.rest) = ap length g.whole in
    let at2 : get_or (g.from ∷ g.rest) (half + half) 0 ≡ y = ap (λ (ns : List ℕ). get_or ns (half + half) 0) (sym g.whole) ∙ at.there in
    let f = stem_round net edges s.edges g.from s.end g.rest arc y half g.stem g.below j (omega arith) at2 in
    let e : b.nodes ≡ y ∷ drop (half + half) g.rest = bn ∙ ap (drop (half + half)) g.whole ∙ cut_whole g.from g.rest (half + half) y (omega arith) at2 in
    record {
      cycle = subst (λ (es : List ℕ). IsCycle net edges b.nodes es) (sym be)
          (subst (λ (ns : List ℕ). IsCycle net edges ns (drop (half + half) s.edges ++ arc ∷ [])) (sym e) f.blossom);
      stem = subst (λ (ns : List ℕ). HasStem net edges (inside ns) (get_or ns 0 0)) (sym e) f.stem;
    }

-- ---- what stands beside a node
no_loop : (net : Net) (arc v w : ℕ) → source net arc ≡ target net arc → Joins net arc v w → ⊥
no_loop net arc v w e j = elim j.ends [ inl q ↦ j.apart (sym q.0 ∙ e ∙ q.1) | inr q ↦ j.apart (sym q.1 ∙ sym e ∙ q.0) ]

pub other_loop : (net : Net) (arc v from to : ℕ) → from ≡ source net arc → to ≡ target net arc → from ≡ to → (w : ℕ) → Joins net arc v w → ⊥
other_loop net arc v from to s t e w j = no_loop net arc v w (sym s ∙ e ∙ t) j

pub other_to : (net : Net) (arc v from to : ℕ) → arc < length net.arcs → from ≡ source net arc → to ≡ target net arc → (from ≡ to → ⊥) → from ≡ v → Joins net arc v to
other_to net arc v from to l s t ne e = record { among = l; apart = λ q. ne (e ∙ q); ends = inl (sym s ∙ e, sym t) }

pub other_from : (net : Net) (arc v from to : ℕ) → arc < length net.arcs → from ≡ source net arc → to ≡ target net arc → (from ≡ to → ⊥) → to ≡ v → Joins net arc v from
other_from net arc v from to l s t ne e = record { among = l; apart = λ q. ne (sym q ∙ sym e); ends = inr (sym s, sym t ∙ e) }

pub other_none : (net : Net) (arc v from to : ℕ) → from ≡ source net arc → to ≡ target net arc → (from ≡ v → ⊥) → (to ≡ v → ⊥) → (w : ℕ) → Joins net arc v w → ⊥
other_none net arc v from to s t nf nt w j = elim j.ends [ inl q ↦ nf (s ∙ q.0) | inr q ↦ nt (t ∙ q.1) ]

pub mate_found : (net : Net) (edges : List ℕ) (v k end : ℕ) (mate : Mate) → k < length edges → Joins net (get_or edges k 0) v end → mate.edge ≡ get_or edges k 0 → mate.end ≡ end → IsMate net edges v mate
mate_found net edges v k end mate l j e d = record {
  has = has_times mate.edge edges k l (sym e);
  joins = subst (λ (x : ℕ). Joins net x v mate.end) (sym e) (subst (λ (x : ℕ). Joins net (get_or edges k 0) v x) (sym d) j);
}

pub mate_later : (net : Net) (edges : List ℕ) (v k : ℕ) → IsMatching net edges → k < length edges → ((w : ℕ) → Joins net (get_or edges k 0) v w → ⊥) → degree net v (take k edges) ≡ 0 → degree net v (take (k + 1) edges) ≡ 0
mate_later net edges v k m l n z =
    let e : ℕ = get_or edges k 0 in
    let h = has_times e edges k l refl in
    let d = degree_more net v edges k l in
    elim (bool_cases (is_end net v e)) [
      | inr f ↦ (let b = bit_false (is_end net v e) f in omega arith)
      | inl t ↦ (let o = other_end net v e (All_at (λ edge. edge < length net.arcs) edges e m.among h) (All_at (λ edge. source net edge ≢ target net edge) edges e m.loops h) t in
          absurd (n o.other o.joins))
    ]

pub mate_none : (net : Net) (edges : List ℕ) (v k : ℕ) → length edges ≤ k → degree net v (take k edges) ≡ 0 → IsFree net edges v
mate_none net edges v k l z = ap (degree net v) (sym (take_all k edges l)) ∙ z

-- ---- a stem goes on
pub spread_none : (net : Net) (edges : List ℕ) (s : Stem) (arc : ℕ) (f : Forest) → IsForest net edges (λ v. v ≡ s.end) f → ((w : ℕ) → Joins net arc s.end w → ⊥)
    → HasSpread net edges s (λ along. along ≡ arc) f f
spread_none net edges s arc f h n = record {
  forest = h;
  near = λ a w e j. absurd (n w (subst (λ (x : ℕ). Joins net x s.end w) e j));
  evens = λ v t. t;
  odds = λ v t. t;
  rest = refl;
}

pub met_mate : (net : Net) (edges : List ℕ) (y : ℕ) (mate : Mate) → IsMate net edges y mate → IsFree net edges y → ⊥
met_mate net edges y mate t f = (let d = degree_has net y mate.edge edges t.has (joins_end net mate.edge y mate.end t.joins) in absurd (omega arith))

even_mates : (net : Net) (edges : List ℕ) (evens : List Bool) (y : ℕ) (mate : Mate) → IsMatching net edges → IsMate net edges y mate → marked evens mate.end ≡ true
    → (arc w : ℕ) → 1 ≤ times arc edges → Joins net arc y w → marked evens w ≡ true
even_mates net edges evens y mate m t o arc w h j = ap (marked evens) (mate_is net edges arc w y mate.end mate.edge m h j t.has t.joins) ∙ o

at_arc : (net : Net) (s : Stem) (arc y : ℕ) (odds : List Bool) → Joins net arc s.end y → y < length odds → (a w : ℕ) → a ≡ arc → Joins net a s.end w → marked (set odds y true) w ≡ true
at_arc net s arc y odds j l a w e k = mark_here odds y w l (other_same net arc s.end w y (subst (λ (x : ℕ). Joins net x s.end w) e k) j)

pub record IsReached (stem : Stem) (arc node : ℕ) (mate : Mate) (old new : Forest) : Type 0 where
  pub odds : new.odds.items ≡ set old.odds.items node true
  pub known : marked old.evens.items mate.end ≡ true → (new.evens.items ≡ old.evens.items) × (new.waiting.items ≡ old.waiting.items)
  pub fresh : marked old.evens.items mate.end ≡ false → (new.evens.items ≡ set old.evens.items mate.end true) × (new.waiting.items ≡ old.waiting.items ++ stem_beyond stem arc node mate ∷ [])

reached_known : (net : Net) (edges : List ℕ) (s : Stem) (arc y : ℕ) (mate : Mate) (old new : Forest) → IsMatching net edges → Joins net arc s.end y → IsMate net edges y mate → y < net.n
    → IsForest net edges (λ v. v ≡ s.end) old → IsReached s arc y mate old new → marked old.evens.items mate.end ≡ true → HasSpread net edges s (λ along. along ≡ arc) old new
reached_known net edges s arc y mate old new m j t ly h r k =
    let q = r.known k in
    let long = h.odd_long in
    let l : y < length old.odds.items = omega arith in
    let P : ℕ → Type 0 = λ v. v ≡ s.end in
    let forest = forest_odd net edges P old.evens.items old.odds.items old.waiting.items y ly (met_mate net edges y mate t) (even_mates net edges old.evens.items y mate m t k) h in
    record {
      forest = subst (λ (xs : List Bool). AreForest net edges P xs new.odds.items new.waiting.items) (sym q.0)
          (subst (λ (xs : List Bool). AreForest net edges P old.evens.items xs new.waiting.items) (sym r.odds)
          (subst (λ (xs : List Stem). AreForest net edges P old.evens.items (set old.odds.items y true) xs) (sym q.1) forest));
      near = λ a w e i. ap (λ (xs : List Bool). marked xs w) r.odds ∙ at_arc net s arc y old.odds.items j l a w e i;
      evens = λ v o. ap (λ (xs : List Bool). marked xs v) q.0 ∙ o;
      odds = λ v o. ap (λ (xs : List Bool). marked xs v) r.odds ∙ mark_kept old.odds.items y v l o;
      rest = (let a : count_by not new.evens.items ≡ count_by not old.evens.items = ap (count_by not) q.0 in
          let b : length new.waiting.items ≡ length old.waiting.items = ap length q.1 in omega arith);
    }

reached_fresh : (net : Net) (edges : List ℕ) (s : Stem) (arc y : ℕ) (mate : Mate) (old new : Forest) → IsMatching net edges → IsGrown net edges old.evens.items s → Joins net arc s.end y → IsMate net edges y mate
    → y < net.n → mate.end < net.n → ((half : ℕ) → IsEvenPlace s.nodes y half → ⊥) → IsForest net edges (λ v. v ≡ s.end) old → IsReached s arc y mate old new → marked old.evens.items mate.end ≡ false
    → HasSpread net edges s (λ along. along ≡ arc) old new
reached_fresh net edges s arc y mate old new m g j t ly lm n h r k =
    let q = r.fresh k in
    let long = h.odd_long in
    let long2 = h.even_long in
    let l : y < length old.odds.items = omega arith in
    let le : mate.end < length old.evens.items = omega arith in
    let P : ℕ → Type 0 = λ v. v ≡ s.end in
    let evens : List Bool = set old.evens.items mate.end true in
    let more : List Stem = old.waiting.items ++ stem_beyond s arc y mate ∷ [] in
    let pushed = forest_pushed net edges P old.evens.items old.odds.items old.waiting.items (stem_beyond s arc y mate) lm
    (grown_beyond net edges old.evens.items s arc y mate m g j t n k le) h in
    let forest = forest_odd net edges P evens old.odds.items more y ly (met_mate net edges y mate t)
    (even_mates net edges evens y mate m t (mark_here old.evens.items mate.end mate.end le refl)) pushed in
    record {
      forest = subst (λ (xs : List Bool). AreForest net edges P xs new.odds.items new.waiting.items) (sym q.0)
          (subst (λ (xs : List Bool). AreForest net edges P evens xs new.waiting.items) (sym r.odds)
          (subst (λ (xs : List Stem). AreForest net edges P evens (set old.odds.items y true) xs) (sym q.1) forest));
      near = λ a w e i. ap (λ (xs : List Bool). marked xs w) r.odds ∙ at_arc net s arc y old.odds.items j l a w e i;
      evens = λ v o. ap (λ (xs : List Bool). marked xs v) q.0 ∙ mark_kept old.evens.items mate.end v le o;
      odds = λ v o. ap (λ (xs : List Bool). marked xs v) r.odds ∙ mark_kept old.odds.items y v l o;
      rest = (let a : count_by not new.evens.items ≡ count_by not evens = ap (count_by not) q.0 in
          let o = one_less old.evens.items mate.end le k in
          let b : length new.waiting.items ≡ length more = ap length q.1 in
          let p = length_push old.waiting.items (stem_beyond s arc y mate) in omega arith);
    }

pub spread_reached : (net : Net) (edges : List ℕ) (s : Stem) (arc y : ℕ) (mate : Mate) (old new : Forest) → IsMatching net edges → IsGrown net edges old.evens.items s → Joins net arc s.end y → IsMate net edges y mate
    → y < net.n → mate.end < net.n → ((half : ℕ) → IsEvenPlace s.nodes y half → ⊥) → IsForest net edges (λ v. v ≡ s.end) old → IsReached s arc y mate old new
    → HasSpread net edges s (λ along. along ≡ arc) old new
spread_reached net edges s arc y mate old new m g j t ly lm n h r = elim (bool_cases (marked old.evens.items mate.end)) [
  | inl k ↦ reached_known net edges s arc y mate old new m j t ly h r k
  | inr k ↦ reached_fresh net edges s arc y mate old new m g j t ly lm n h r k
]

pub spread_first : (net : Net) (edges : List ℕ) (s : Stem) (f : Forest) → IsForest net edges (λ v. v ≡ s.end) f → HasSpread net edges s (λ along. along < 0) f f
spread_first net edges s f h = record {
  forest = h;
  near = λ a w l j. absurd (omega arith);
  evens = λ v t. t;
  odds = λ v t. t;
  rest = refl;
}

pub spread_more : (net : Net) (edges : List ℕ) (s : Stem) (k : ℕ) (old mid new : Forest) → HasSpread net edges s (λ along. along < k) old mid → HasSpread net edges s (λ along. along ≡ k) mid new
    → HasSpread net edges s (λ along. along < k + 1) old new
spread_more net edges s k old mid new h i = record {
  forest = i.forest;
  near = λ a w l j. elim (cases_eq a k) [ inl e ↦ i.near a w e j | inr ne ↦ i.odds w (h.near a w (omega arith) j) ];
  evens = λ v t. i.evens v (h.evens v t);
  odds = λ v t. i.odds v (h.odds v t);
  rest = i.rest ∙ h.rest;
}

pub spread_grown : (net : Net) (edges : List ℕ) (s : Stem) (Along : ℕ → Type 0) (old new : Forest) → HasSpread net edges s Along old new → IsGrown net edges old.evens.items s → IsGrown net edges new.evens.items s
spread_grown net edges s Along old new h g = grown_kept net edges old.evens.items new.evens.items s h.evens g

-- ---- the roots
pub started_none : (net : Net) (edges : List ℕ) (f : Forest) → f.evens.items ≡ replicate net.n false → f.odds.items ≡ replicate net.n false → f.waiting.items ≡ [] → IsStarted net edges 0 f
started_none net edges f e o w =
    let none : (xs : List Bool) (v : ℕ) → xs ≡ replicate net.n false → marked xs v ≡ true → ⊥ = λ xs v q t. elim (cases_lt v net.n) [
      | inl l ↦ true≢false (sym t ∙ ap (λ (ys : List Bool). marked ys v) q ∙ get_or-replicate net.n v false false l)
      | inr g ↦ (let k : length xs ≡ net.n = ap length q ∙ length-replicate net.n false in true≢false (sym t ∙ get_or_past xs v false (omega arith)))
    ] in
    record {
      forest = record {
        even_long = ap length e ∙ length-replicate net.n false;
        odd_long = ap length o ∙ length-replicate net.n false;
        met = λ v t z. none f.odds.items v o t;
        mates = λ arc v end h j t. absurd (none f.odds.items v o t);
        stems = λ k d l. (let z : length f.waiting.items ≡ 0 = ap length w in absurd (omega arith));
        settled = λ v t. absurd (none f.evens.items v e t);
      };
      free = λ v l z. absurd (omega arith);
    }

root_grown : (net : Net) (edges : List ℕ) (evens : List Bool) (v : ℕ) → v < net.n → v < length evens → IsFree net edges v → IsGrown net edges (set evens v true) (stem_at v)
root_grown net edges evens v l le f = record {
  from = v;
  rest = [];
  whole = refl;
  below = l;
  stem = record {
    free = f;
    even = refl;
    simple = λ x. elim (cases_eq x v) [ inl e ↦ (let t = times_same x v [] e in omega arith) | inr ne ↦ (let t = times_other x v [] ne in omega arith) ];
  };
  even = λ x h. elim (cases_eq x v) [
    | inl e ↦ mark_here evens v x le e
    | inr ne ↦ (let z : cond {A = ℕ} (eqb x v) 1 0 ≡ 0 = ap (λ (b : Bool). cond {A = ℕ} b 1 0) (ne_eqb x v ne) in absurd (omega arith))
  ];
}

pub started_root : (net : Net) (edges : List ℕ) (v : ℕ) (old new : Forest) → v < net.n → IsFree net edges v → IsStarted net edges v old
    → new.evens.items ≡ set old.evens.items v true → new.odds.items ≡ old.odds.items → new.waiting.items ≡ old.waiting.items ++ stem_at v ∷ [] → IsStarted net edges (v + 1) new
started_root net edges v old new l f h re ro rq =
    let long = h.forest.even_long in
    let le : v < length old.evens.items = omega arith in
    let P : ℕ → Type 0 = λ x. ⊥ in
    let evens : List Bool = set old.evens.items v true in
    let forest = forest_pushed net edges P old.evens.items old.odds.items old.waiting.items (stem_at v) l (root_grown net edges old.evens.items v l le f) h.forest in
    record {
      forest = subst (λ (xs : List Bool). AreForest net edges P xs new.odds.items new.waiting.items) (sym re)
          (subst (λ (xs : List Bool). AreForest net edges P evens xs new.waiting.items) (sym ro)
          (subst (λ (xs : List Stem). AreForest net edges P evens old.odds.items xs) (sym rq) forest));
      free = λ x k z. ap (λ (xs : List Bool). marked xs x) re ∙ elim (cases_eq x v) [
        | inl e ↦ mark_here old.evens.items v x le e
        | inr ne ↦ mark_kept old.evens.items v x le (h.free x (omega arith) z)
      ];
    }

pub started_met : (net : Net) (edges : List ℕ) (v : ℕ) (mate : Mate) (f : Forest) → IsMate net edges v mate → IsStarted net edges v f → IsStarted net edges (v + 1) f
started_met net edges v mate f t h = record {
  forest = h.forest;
  free = λ x k z. elim (cases_eq x v) [
    | inl e ↦ absurd (met_mate net edges v mate t (subst (IsFree net edges) e z))
    | inr ne ↦ h.free x (omega arith) z
  ];
}

-- ---- rounds of the search
pub popped : (net : Net) (edges : List ℕ) (s : Stem) (old new : Forest) → IsStarted net edges net.n old → new.evens.items ≡ old.evens.items → new.odds.items ≡ old.odds.items → old.waiting.items ≡ new.waiting.items ++ s ∷ []
    → (IsGrown net edges new.evens.items s) × (IsForest net edges (λ v. v ≡ s.end) new)
popped net edges s old new h e o w =
    let P : ℕ → Type 0 = λ x. ⊥ in
    let f = subst (λ (xs : List Bool). AreForest net edges P xs new.odds.items (new.waiting.items ++ s ∷ [])) (sym e)
    (subst (λ (xs : List Bool). AreForest net edges P old.evens.items xs (new.waiting.items ++ s ∷ [])) (sym o)
    (subst (λ (xs : List Stem). AreForest net edges P old.evens.items old.odds.items xs) w h.forest)) in
    (stem_popped net edges new.evens.items new.odds.items new.waiting.items s f, forest_popped net edges new.evens.items new.odds.items new.waiting.items s f)

pub round_done : (net : Net) (edges : List ℕ) (s : Stem) (old mid new : Forest) → IsStarted net edges net.n old → mid.evens.items ≡ old.evens.items
    → HasSpread net edges s (λ along. along < length net.arcs) mid new → IsStarted net edges net.n new
round_done net edges s old mid new h e r = record {
  forest = forest_settled net edges new.evens.items new.odds.items new.waiting.items s.end r.forest (λ arc w j. r.near arc w j.among j);
  free = λ v l z. r.evens v (ap (λ (xs : List Bool). marked xs v) e ∙ h.free v l z);
}

pub round_less : (net : Net) (edges : List ℕ) (s : Stem) (Along : ℕ → Type 0) (old mid new : Forest) → mid.evens.items ≡ old.evens.items → old.waiting.items ≡ mid.waiting.items ++ s ∷ []
    → HasSpread net edges s Along mid new → work new < work old
round_less net edges s Along old mid new e w r =
    let a : count_by not mid.evens.items ≡ count_by not old.evens.items = ap (count_by not) e in
    let b : length old.waiting.items ≡ length (mid.waiting.items ++ s ∷ []) = ap length w in
    let p = length_push mid.waiting.items s in
    let k = r.rest in
    omega arith

-- ---- the end
pub closed : (net : Net) (edges : List ℕ) (f : Forest) → IsMatching net edges → IsStarted net edges net.n f → f.waiting.items ≡ [] → AreClosed net edges (marked f.evens.items) (marked f.odds.items)
closed net edges f m h w =
    let near : (v : ℕ) → marked f.evens.items v ≡ true → IsNear net f.odds.items v = λ v t. elim (h.forest.settled v t) [
      | inl b ↦ absurd b
      | inr r ↦ elim r [ inl k ↦ (let z : length f.waiting.items ≡ 0 = ap length w in let l = k.within in absurd (omega arith)) | inr n ↦ n ]
    ] in
    let among : (e : ℕ) → 1 ≤ times e edges → e < length net.arcs = λ e t. All_at (λ edge. edge < length net.arcs) edges e m.among t in
    let loops : (e : ℕ) → 1 ≤ times e edges → source net e ≢ target net e = λ e t. All_at (λ edge. source net edge ≢ target net edge) edges e m.loops t in
    let there : (e : ℕ) → e < length net.arcs → source net e ≢ target net e → Joins net e (source net e) (target net e) = λ e l ne. record { among = l; apart = ne; ends = inl (refl, refl) } in
    let back : (e : ℕ) → e < length net.arcs → source net e ≢ target net e → Joins net e (target net e) (source net e) = λ e l ne. record { among = l; apart = λ q. ne (sym q); ends = inr (refl, refl) } in
    record {
      free = h.free;
      near_source = λ e l ne t. near (source net e) t e (target net e) (there e l ne);
      near_target = λ e l ne t. near (target net e) t e (source net e) (back e l ne);
      met = λ v l o z. h.forest.met v o z;
      mate_source = λ e t o. h.forest.mates e (source net e) (target net e) t (there e (among e t) (loops e t)) o;
      mate_target = λ e t o. h.forest.mates e (target net e) (source net e) t (back e (among e t) (loops e t)) o;
    }

pub labels_more : (k : ℕ) (even odd : ℕ → Bool) (labels more : List ℕ) (x : ℕ) → AreLabels k even odd labels → x ≡ label_of (even k) (odd k) → more ≡ labels ++ x ∷ [] → AreLabels (k + 1) even odd more
labels_more k even odd labels more x h e w =
    let p = length_push labels x in
    let q : length more ≡ length (labels ++ x ∷ []) = ap length w in
    let long = h.long in
    record {
      long = omega arith;
      each = λ v l. ap (λ (ls : List ℕ). get_or ls v 0) w ∙ elim (cases_eq v k) [
        | inl s ↦ get_or_push labels x 0 v (omega arith) ∙ e ∙ ap (λ (u : ℕ). label_of (even u) (odd u)) (sym s)
        | inr ne ↦ get_or_append_left labels (x ∷ []) 0 v (omega arith) ∙ h.each v (omega arith)
      ];
    }
