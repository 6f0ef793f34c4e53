-- The steps of a search that finds nodes along open arcs.
use Rattle.std.proofs.Common.{◌≡◌, ◌⊎◌, inl, inr, ℕ, ◌+◌, ◌<◌, ◌≤◌, Bool, true, false, not, cond, List, [], ◌∷◌, ◌++◌, length, get_or, set, refl, sym, ◌∙◌, ap, subst, All, arith, length-set, get_or-set_same, get_or-set_other}
use Rattle.std.specs.Bool.{MatchBool}
use Rattle.std.specs.List.{Contains, count_by}
use Rattle.std.proofs.lemmas.Bool.{cases_eq, cases_lt, true≢false}
use Rattle.std.proofs.lemmas.List.{length_push, get_or_push, get_or_append_left, get_or_read, get_or_past, get_or-map, get_or_default, length-map, map-append}
use Rattle.std.proofs.lemmas.List.Sums.{sum_by-set}
use Rattle.graph_defs.specs.declared.grouped.Incidence.{Incidence}
use Rattle.graph_defs.specs.declared.net.Net.{Net}
use Rattle.graph_defs.specs.declared.shortest.Why.{Why}
use Rattle.graph_defs.specs.declared.shortest.Why.TheVariants.{Seed, Arc}
use Rattle.graph_defs.specs.Count.{times}
use Rattle.graph_defs.specs.Grouped.{grouped, incidence}
use Rattle.graph_defs.specs.Net.{source, target}
use Rattle.graph_defs.proofs.Counts.{times_append, times_same, times_other, times_has, has_times}
use Rattle.graph_defs.proofs.Incidences.{grouped_only, grouped_has}
use Rattle.sp_search.specs.declared.finding.Found.{Found}
use Rattle.sp_search.specs.Finding.{found_at, found_nodes, is_marked, IsAdded, IsKnown, IsOpenable, found_by, StandOnce, HasSpread, IsFoundBy, IsFinding, HasGrown, IsClosedAlong, IsUnderWay}
use Rattle.sp_search.specs.Wide.{IsWide}

-- ---- marks
pub mark_same : (marks : List Bool) (w : ℕ) → w < length marks → is_marked (set marks w true) w ≡ true
mark_same marks w h = get_or-set_same marks w true false h

pub mark_other : (marks : List Bool) (w v : ℕ) (b : Bool) → (v ≡ w → ⊥) → is_marked (set marks w b) v ≡ is_marked marks v
mark_other marks w v b ne = get_or-set_other marks w v b false ne

pub mark_here : (marks : List Bool) (w v : ℕ) → w < length marks → v ≡ w → is_marked (set marks w true) v ≡ true
mark_here marks w v h e =
    let P : ℕ → Type 0 = λ u. is_marked (set marks w true) u ≡ true in
    subst P (sym e) (mark_same marks w h)

mark_cases : (marks : List Bool) (w v : ℕ) → w < length marks → (v ≡ w) ⊎ (v ≡ w → ⊥) → is_marked marks v ≡ true → is_marked (set marks w true) v ≡ true
mark_cases marks w v h (inl e) t = mark_here marks w v h e
mark_cases marks w v h (inr ne) t = mark_other marks w v true ne ∙ t

pub mark_kept : (marks : List Bool) (w v : ℕ) → w < length marks → is_marked marks v ≡ true → is_marked (set marks w true) v ≡ true
mark_kept marks w v h t = mark_cases marks w v h (cases_eq v w) t

marked_cases : (marks : List Bool) (v : ℕ) → is_marked marks v ≡ true → (v < length marks) ⊎ (length marks ≤ v) → v < length marks
marked_cases marks v t (inl h) = h
marked_cases marks v t (inr h) = absurd (true≢false (sym t ∙ get_or_past marks v false h))

pub marked_below : (marks : List Bool) (v : ℕ) → is_marked marks v ≡ true → v < length marks
marked_below marks v t = marked_cases marks v t (cases_lt v (length marks))

pub one_less : (marks : List Bool) (w : ℕ) → w < length marks → is_marked marks w ≡ false → count_by not (set marks w true) + 1 ≡ count_by not marks
one_less marks w h e =
    let g : Bool → ℕ = λ b. cond (not b) 1 0 in
    let s : count_by not (set marks w true) + g (get_or marks w false) ≡ count_by not marks + 0 = sum_by-set g marks w true false h in
    let o : g (get_or marks w false) ≡ 1 = ap g e in
    omega arith

pub read_mark : (marks : List Bool) (v : ℕ) (x b : Bool) → v < length marks → x ≡ get_or marks v x → x ≡ b → is_marked marks v ≡ b
read_mark marks v x b h r e = sym (get_or_read marks v x h r false) ∙ e

-- ---- one place more
pub old_place : (queue : List Found) (f : Found) (k : ℕ) → k < length queue → found_at (queue ++ f ∷ []) k ≡ found_at queue k
old_place queue f k h = get_or_append_left queue (f ∷ []) (record { node = 0; why = Seed 0; before = 0 }) k h

pub new_place : (queue : List Found) (f : Found) → found_at (queue ++ f ∷ []) (length queue) ≡ f
new_place queue f = get_or_push queue f (record { node = 0; why = Seed 0; before = 0 }) (length queue) refl

nodes_push : (queue : List Found) (f : Found) (v : ℕ) → times v (found_nodes (queue ++ f ∷ [])) ≡ times v (found_nodes queue) + times v (f.node ∷ [])
nodes_push queue f v = ap (times v) (map-append (λ (y : Found). y.node) queue (f ∷ [])) ∙ times_append v (found_nodes queue) (f.node ∷ [])

once_cases : (queue : List Found) (marks : List Bool) (f : Found) → f.node < length marks → is_marked marks f.node ≡ false → StandOnce queue marks
    → (v : ℕ) → (v ≡ f.node) ⊎ (v ≡ f.node → ⊥) → times v (found_nodes (queue ++ f ∷ [])) ≡ cond (is_marked (set marks f.node true) v) 1 0
once_cases queue marks f h first once v (inl e) =
    let p = nodes_push queue f v in
    let t = times_same v f.node [] e in
    let o = once v in
    let z : cond {A = ℕ} (is_marked marks v) 1 0 ≡ 0 = ap (λ (u : ℕ). cond {A = ℕ} (is_marked marks u) 1 0) e ∙ ap (λ (b : Bool). cond {A = ℕ} b 1 0) first in
    let n : cond {A = ℕ} (is_marked (set marks f.node true) v) 1 0 ≡ 1 = ap (λ (b : Bool). cond {A = ℕ} b 1 0) (mark_here marks f.node v h e) in
    omega arith
once_cases queue marks f h first once v (inr ne) =
    let p = nodes_push queue f v in
    let t = times_other v f.node [] ne in
    let o = once v in
    let n : cond {A = ℕ} (is_marked (set marks f.node true) v) 1 0 ≡ cond {A = ℕ} (is_marked marks v) 1 0 = ap (λ (b : Bool). cond {A = ℕ} b 1 0) (mark_other marks f.node v true ne) in
    omega arith

pub once_push : (queue : List Found) (marks : List Bool) (f : Found) → f.node < length marks → is_marked marks f.node ≡ false → StandOnce queue marks → StandOnce (queue ++ f ∷ []) (set marks f.node true)
once_push queue marks f h first once v = once_cases queue marks f h first once v (cases_eq v f.node)

pub find_long : (is_new : Bool) (queue : List Found) (marks : List Bool) (queue' : List Found) (marks' : List Bool) (f : Found)
    → MatchBool is_new (IsAdded queue marks queue' marks' f) (IsKnown queue marks queue' marks' f) → length marks' ≡ length marks
find_long true queue marks queue' marks' f a = ap (λ (xs : List Bool). length xs) a.marks_is ∙ length-set marks f.node true
find_long false queue marks queue' marks' f a = ap (λ (xs : List Bool). length xs) a.marks_is

-- a marked node has its place
one_if : (b : Bool) → b ≡ true → 1 ≤ cond {A = ℕ} b 1 0
one_if true e = omega arith
one_if false e = absurd (true≢false (sym e))

pub place_of : (queue : List Found) (marks : List Bool) → StandOnce queue marks → (v : ℕ) → is_marked marks v ≡ true → (k : ℕ) × (k < length queue) × ((found_at queue k).node ≡ v)
place_of queue marks once v t =
    let o : 1 ≤ times v (found_nodes queue) = (let a = once v in let b = one_if (is_marked marks v) t in omega arith) in
    let p = times_has v (found_nodes queue) o in
    let l : p.0 < length (found_nodes queue) = p.1 in
    let h : p.0 < length queue = omega (arith, length-map queue (λ (f : Found). f.node)) in
    (p.0, h, sym (get_or-map (λ (f : Found). f.node) queue p.0 (record { node = 0; why = Seed 0; before = 0 }) 0 h) ∙ p.2)

if_one : (b : Bool) → 1 ≤ cond {A = ℕ} b 1 0 → b ≡ true
if_one true h = refl
if_one false h = absurd (omega arith)

pub place_marked : (queue : List Found) (marks : List Bool) → StandOnce queue marks → (k : ℕ) → k < length queue → is_marked marks (found_at queue k).node ≡ true
place_marked queue marks once k h =
    let l : k < length (found_nodes queue) = omega (arith, length-map queue (λ (f : Found). f.node)) in
    let t = has_times (found_at queue k).node (found_nodes queue) k l (get_or-map (λ (f : Found). f.node) queue k (record { node = 0; why = Seed 0; before = 0 }) 0 h) in
    let o = once (found_at queue k).node in
    if_one (is_marked marks (found_at queue k).node) (omega arith)

pub place_below : (net : Net) (opened : List Bool) (queue : List Found) (marks : List Bool) → IsFinding net opened queue marks → (k : ℕ) → k < length queue → (found_at queue k).node < net.n
place_below net opened queue marks is k h =
    let b = marked_below marks (found_at queue k).node (place_marked queue marks is.once k h) in
    omega (arith, is.long)

-- ---- the entries of a row, one by one
pub spread_start : (row : List Incidence) (opened : List Bool) (head : ℕ) (queue : List Found) (marks : List Bool) → HasSpread row opened head 0 queue marks queue marks
spread_start row opened head queue marks = record {
  long = refl;
  count = refl;
  once = λ o. o;
  longer = omega arith;
  same = λ k h. refl;
  kept = λ v t. t;
  made = λ k l h. absurd (omega arith);
  done = λ i d l m o. absurd (omega arith);
}

module _ (row : List Incidence) (opened : List Bool) (head j : ℕ) (x : Incidence) (queue : List Found) (marks : List Bool) (queue' : List Found) (marks' : List Bool)
    (lj : j < length row) (r : x ≡ get_or row j x) (h : HasSpread row opened head j queue marks queue' marks') where
  done_more : (marks'' : List Bool) → ((v : ℕ) → is_marked marks' v ≡ true → is_marked marks'' v ≡ true) → (is_marked opened x.number ≡ true → is_marked marks'' x.end ≡ true)
      → (i : ℕ) (d : Incidence) → (i < j) ⊎ (j ≤ i) → i < j + 1 → i < length row → is_marked opened (get_or row i d).number ≡ true → is_marked marks'' (get_or row i d).end ≡ true
  done_more marks'' keeps here i d (inl l) m n o = keeps (get_or row i d).end (h.done i d l n o)
  done_more marks'' keeps here i d (inr l) m n o =
      let e : j ≡ i = omega arith in
      let P : ℕ → Type 0 = λ k. is_marked opened (get_or row k d).number ≡ true → is_marked marks'' (get_or row k d).end ≡ true in
      let Q : Incidence → Type 0 = λ y. is_marked opened y.number ≡ true → is_marked marks'' y.end ≡ true in
      let here_at : is_marked opened (get_or row i d).number ≡ true → is_marked marks'' (get_or row i d).end ≡ true = subst P e (subst Q (get_or_read row j x lj r d) here) in
      here_at o

  -- nothing new is found
  pub spread_same : (queue'' : List Found) (marks'' : List Bool) → queue'' ≡ queue' → marks'' ≡ marks' → (is_marked opened x.number ≡ true → is_marked marks' x.end ≡ true)
      → HasSpread row opened head (j + 1) queue marks queue'' marks''
  spread_same queue'' marks'' eq em here =
      let P : List Found → Type 0 = λ xs. HasSpread row opened head (j + 1) queue marks xs marks'' in
      let Q : List Bool → Type 0 = λ xs. HasSpread row opened head (j + 1) queue marks queue' xs in
      subst P (sym eq) (subst Q (sym em) (record {
        long = h.long;
        count = h.count;
        once = h.once;
        longer = h.longer;
        same = h.same;
        kept = h.kept;
        made = h.made;
        done = λ i d l m o. done_more marks' (λ v t. t) here i d (cases_lt i j) l m o;
      }))

  -- a node is found
  module _ (lx : x.end < length marks') (o : is_marked opened x.number ≡ true) (first : is_marked marks' x.end ≡ false) where
    made_more : (k : ℕ) → (k < length queue') ⊎ (length queue' ≤ k) → length queue ≤ k → k < length (queue' ++ found_by head x ∷ []) → (entry : Incidence)
        × Contains row entry × (is_marked opened entry.number ≡ true) × (found_at (queue' ++ found_by head x ∷ []) k ≡ found_by head entry)
    made_more k (inl l) m n =
        let b = h.made k m l in
        (b.0, b.1, b.2, old_place queue' (found_by head x) k l ∙ b.3)
    made_more k (inr l) m n =
        let e : length queue' ≡ k = omega (arith, length_push queue' (found_by head x)) in
        let P : ℕ → Type 0 = λ i. found_at (queue' ++ found_by head x ∷ []) i ≡ found_by head x in
        let c : Contains row x = (j, lj, sym r) in
        (x, c, o, subst P e (new_place queue' (found_by head x)))

    found_at_last : HasSpread row opened head (j + 1) queue marks (queue' ++ found_by head x ∷ []) (set marks' x.end true)
    found_at_last = record {
      long = length-set marks' x.end true ∙ h.long;
      count = omega (arith, h.count, one_less marks' x.end lx first, length_push queue' (found_by head x));
      once = λ s. once_push queue' marks' (found_by head x) lx first (h.once s);
      longer = omega (arith, h.longer, length_push queue' (found_by head x));
      same = λ k l. old_place queue' (found_by head x) k (omega (arith, h.longer)) ∙ h.same k l;
      kept = λ v t. mark_kept marks' x.end v lx (h.kept v t);
      made = λ k l m. made_more k (cases_lt k (length queue')) l m;
      done = λ i d l m n. done_more (set marks' x.end true) (λ v t. mark_kept marks' x.end v lx t) (λ _. mark_same marks' x.end lx) i d (cases_lt i j) l m n;
    }

  pub spread_found : (queue'' : List Found) (marks'' : List Bool) → x.end < length marks' → is_marked opened x.number ≡ true → IsAdded queue' marks' queue'' marks'' (found_by head x)
      → HasSpread row opened head (j + 1) queue marks queue'' marks''
  spread_found queue'' marks'' lx o a =
      let P : List Found → Type 0 = λ xs. HasSpread row opened head (j + 1) queue marks xs marks'' in
      let Q : List Bool → Type 0 = λ xs. HasSpread row opened head (j + 1) queue marks (queue' ++ found_by head x ∷ []) xs in
      subst P (sym a.queue_is) (subst Q (sym a.marks_is) (found_at_last lx o a.first))

  -- one or the other
  pub spread_find : (is_new : Bool) (queue'' : List Found) (marks'' : List Bool) → x.end < length marks' → is_marked opened x.number ≡ true
      → MatchBool is_new (IsAdded queue' marks' queue'' marks'' (found_by head x)) (IsKnown queue' marks' queue'' marks'' (found_by head x)) → HasSpread row opened head (j + 1) queue marks queue'' marks''
  spread_find true queue'' marks'' lx o a = spread_found queue'' marks'' lx o a
  spread_find false queue'' marks'' lx o k = spread_same queue'' marks'' k.queue_is k.marks_is (λ _. k.again)

-- ---- the whole row of a place
by_kept : (net : Net) (opened : List Bool) (queue queue' : List Found) (k : ℕ) (f : Found) (why : Why) → k ≤ length queue → ((i : ℕ) → i < length queue → found_at queue' i ≡ found_at queue i)
    → IsFoundBy net opened queue k f why → IsFoundBy net opened queue' k f why
by_kept net opened queue queue' k f (Seed i) h same b = b
by_kept net opened queue queue' k f (Arc arc) h same b =
    let l : f.before < k = b.3 in
    (b.0, b.1, b.2, b.3, b.4 ∙ sym (ap (λ (y : Found). y.node) (same f.before (omega arith))))

pub found_kept : (net : Net) (opened : List Bool) (queue queue' : List Found) (k : ℕ) → k < length queue → ((i : ℕ) → i < length queue → found_at queue' i ≡ found_at queue i)
    → IsFoundBy net opened queue k (found_at queue k) (found_at queue k).why → IsFoundBy net opened queue' k (found_at queue' k) (found_at queue' k).why
found_kept net opened queue queue' k h same b =
    let P : Found → Type 0 = λ f. IsFoundBy net opened queue' k f f.why in
    subst P (sym (same k h)) (by_kept net opened queue queue' k (found_at queue k) (found_at queue k).why (omega arith) same b)

module _ (net : Net) (opened : List Bool) (queue : List Found) (marks : List Bool) (row : List Incidence) (head : ℕ) (wide : IsWide net)
    (is : IsFinding net opened queue marks) (hh : head < length queue) (re : row ≡ get_or (grouped net.n net.arcs) (found_at queue head).node []) where
  row_entry : (entry : Incidence) → Contains row entry → (entry.number < length net.arcs) × (source net entry.number ≡ (found_at queue head).node) × (entry.end ≡ target net entry.number)
  row_entry entry c =
      let P : List Incidence → Type 0 = λ xs. Contains xs entry in
      let b = grouped_only net.n net.arcs (found_at queue head).node entry (subst P re c) in
      (b.below, b.key_is, b.end_is)

  pub row_openable : length opened ≡ length net.arcs → All (IsOpenable (length marks) (length opened)) row
  row_openable e k d h =
      let c : Contains row (get_or row k d) = (k, h, get_or_default row k (get_or row k d) d h) in
      let b = row_entry (get_or row k d) c in
      let t = (wide.ends (get_or row k d).number (0, 0) b.0).1 in
      let q = b.2 in
      let l = is.long in
      record { inside = omega arith; known = omega (arith, b.0) }

  module _ (j : ℕ) (queue' : List Found) (marks' : List Bool) (lj : length row ≤ j) (s : HasSpread row opened head j queue marks queue' marks') where
    why_new : (k : ℕ) → (k < length queue) ⊎ (length queue ≤ k) → k < length queue' → IsFoundBy net opened queue' k (found_at queue' k) (found_at queue' k).why
    why_new k (inl l) m = found_kept net opened queue queue' k l s.same (is.why k l)
    why_new k (inr l) m =
        let b = s.made k l m in
        let c = row_entry b.0 b.1 in
        let P : Found → Type 0 = λ f. IsFoundBy net opened queue' k f f.why in
        subst P (sym b.3) (c.0, b.2, sym c.2, omega arith, c.1 ∙ sym (ap (λ (y : Found). y.node) (s.same head hh)))

    pub row_finding : IsFinding net opened queue' marks'
    row_finding = record {
      long = s.long ∙ is.long;
      count = s.count ∙ is.count;
      once = s.once is.once;
      why = λ k m. why_new k (cases_lt k (length queue)) m;
    }

    pub row_grown : HasGrown queue marks queue' marks'
    row_grown = record {
      longer = s.longer;
      same = s.same;
      kept = s.kept;
      arcs = λ k l m. (let b = s.made k l m in (b.0.number, ap (λ (f : Found). f.why) b.3));
    }

    pub row_done : (arc : ℕ) → arc < length net.arcs → source net arc ≡ (found_at queue head).node → is_marked opened arc ≡ true → is_marked marks' (target net arc) ≡ true
    row_done arc l e o =
        let P : ℕ → Type 0 = λ u. Contains (get_or (grouped net.n net.arcs) u []) (incidence net.arcs arc) in
        let Q : List Incidence → Type 0 = λ xs. Contains xs (incidence net.arcs arc) in
        let c = subst Q (sym re) (subst P e (grouped_has net.n net.arcs arc (wide.ends arc (0, 0) l).0 l)) in
        let lc : c.0 < length row = c.1 in
        let R : Incidence → Type 0 = λ y. is_marked opened y.number ≡ true → is_marked marks' y.end ≡ true in
        subst R c.2 (s.done c.0 (incidence net.arcs arc) (omega arith) lc) o

-- ---- from place to place
pub grown_start : (queue : List Found) (marks : List Bool) → HasGrown queue marks queue marks
grown_start queue marks = record { longer = omega arith; same = λ k h. refl; kept = λ v t. t; arcs = λ k l m. absurd (omega arith) }

arcs_cases : (queue : List Found) (marks : List Bool) (queue' : List Found) (marks' : List Bool) (queue'' : List Found) (marks'' : List Bool)
    → HasGrown queue marks queue' marks' → HasGrown queue' marks' queue'' marks'' → (k : ℕ) → (k < length queue') ⊎ (length queue' ≤ k) → length queue ≤ k → k < length queue''
    → (arc : ℕ) × ((found_at queue'' k).why ≡ Arc arc)
arcs_cases queue marks queue' marks' queue'' marks'' g h k (inl l) m n =
    let a = g.arcs k m l in
    (a.0, ap (λ (f : Found). f.why) (h.same k l) ∙ a.1)
arcs_cases queue marks queue' marks' queue'' marks'' g h k (inr l) m n = h.arcs k l n

pub grown_on : (queue : List Found) (marks : List Bool) (queue' : List Found) (marks' : List Bool) (queue'' : List Found) (marks'' : List Bool)
    → HasGrown queue marks queue' marks' → HasGrown queue' marks' queue'' marks'' → HasGrown queue marks queue'' marks''
grown_on queue marks queue' marks' queue'' marks'' g h = record {
  longer = omega (arith, g.longer, h.longer);
  same = λ k l. h.same k (omega (arith, g.longer)) ∙ g.same k l;
  kept = λ v t. h.kept v (g.kept v t);
  arcs = λ k l m. arcs_cases queue marks queue' marks' queue'' marks'' g h k (cases_lt k (length queue')) l m;
}

pub way_start : (net : Net) (opened : List Bool) (queue : List Found) (marks : List Bool) → IsFinding net opened queue marks → IsUnderWay net opened queue marks 0 queue marks
way_start net opened queue marks is = record { is = is; grown = grown_start queue marks; behind = omega arith; done = λ k arc l. absurd (omega arith) }

module _ (net : Net) (opened : List Bool) (queue : List Found) (marks : List Bool) (head : ℕ) (queue' : List Found) (marks' : List Bool) (wide : IsWide net)
    (way : IsUnderWay net opened queue marks head queue' marks') where
  module _ (row : List Incidence) (hh : head < length queue') (re : row ≡ get_or (grouped net.n net.arcs) (found_at queue' head).node [])
      (queue'' : List Found) (marks'' : List Bool) (s : HasSpread row opened head (length row) queue' marks' queue'' marks'') where
    done_cases : (k arc : ℕ) → (k < head) ⊎ (head ≤ k) → k < head + 1 → arc < length net.arcs → source net arc ≡ (found_at queue'' k).node → is_marked opened arc ≡ true
        → is_marked marks'' (target net arc) ≡ true
    done_cases k arc (inl l) m n e o =
        s.kept (target net arc) (way.done k arc l n (e ∙ ap (λ (f : Found). f.node) (s.same k (omega (arith, way.behind)))) o)
    done_cases k arc (inr l) m n e o =
        let q : k ≡ head = omega arith in
        let P : ℕ → Type 0 = λ i. source net arc ≡ (found_at queue'' i).node in
        row_done net opened queue' marks' row head wide way.is hh re (length row) queue'' marks'' (omega arith) s arc n
        (subst P q e ∙ ap (λ (f : Found). f.node) (s.same head hh)) o

    pub way_more : IsUnderWay net opened queue marks (head + 1) queue'' marks''
    way_more = record {
      is = row_finding net opened queue' marks' row head wide way.is hh re (length row) queue'' marks'' (omega arith) s;
      grown = grown_on queue marks queue' marks' queue'' marks'' way.grown
          (row_grown net opened queue' marks' row head wide way.is hh re (length row) queue'' marks'' (omega arith) s);
      behind = omega (arith, s.longer);
      done = λ k arc l m e o. done_cases k arc (cases_lt k head) l m e o;
    }

  pub way_closed : length queue' ≤ head → IsClosedAlong net opened marks'
  way_closed h arc l o t =
      let p = place_of queue' marks' way.is.once (source net arc) t in
      let lp : p.0 < length queue' = p.1 in
      way.done p.0 arc (omega arith) l (sym p.2) o
