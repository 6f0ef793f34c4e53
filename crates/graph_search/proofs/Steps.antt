-- The steps of a breadth first search over rows.
use Rattle.std.proofs.Common.{◌≡◌, ℕ, zero, suc, ◌+◌, ◌-◌, ◌<◌, ◌≤◌, ◌⊎◌, inl, inr, Bool, true, false, not, ◌&&◌, cond, eqb, List, [], ◌∷◌, ◌++◌, length, get_or, take, drop, set, reverse, replicate, refl, sym, ◌∙◌, ap, subst, All, arith, length-set, get_or-set_same, get_or-set_other}
use Rattle.std.specs.Bool.{MatchBool}
use Rattle.std.specs.List.{filter, range_with_len, Contains, count_by}
use Rattle.std.proofs.lemmas.Bool.{cases_eq, cases_lt, both_ways, MatchBool-at_true, MatchBool-at_false}
use Rattle.std.proofs.lemmas.List.{length_push, get_or_push, get_or_append_left, get_or_read, get_or_default, get_or_past, reverse-append, length-replicate, take_at}
use Rattle.std.proofs.lemmas.List.Elements.{All-contains}
use Rattle.std.proofs.lemmas.List.Sums.{sum_by-set}
use Rattle.graph_defs.specs.declared.grouped.Incidence.{Incidence}
use Rattle.graph_defs.specs.declared.net.Net.{Net}
use Rattle.graph_defs.specs.Net.{Ends, IsValid, source, target}
use Rattle.graph_defs.specs.Grouped.{grouped, incidence}
use Rattle.graph_defs.specs.Set.{is_in, leaves}
use Rattle.graph_defs.specs.Walk.{IsWalk, IsClosedSet}
use Rattle.graph_defs.proofs.Incidences.{grouped_only, grouped_has}
use Rattle.graph_defs.proofs.Numbers.{filter_has, filter_below, filter_only, filter_rises, all_false, count_false}
use Rattle.graph_defs.proofs.Rows.{grouped_at, grouped_length}
use Rattle.graph_defs.proofs.Sets.{has_in, in_has}
use Rattle.graph_search.specs.declared.breadth_first.Found.{Found}
use Rattle.graph_search.specs.Tree.{row_at, LeadWithin, LeadToVisited, found_at, is_visited, nodes_visited, IsLink, IsTree, IsSearch, Grows, IsSpreading, HasReached, HasMissed}

-- ---- the queue with one more place
old_place : (queue : List Found) (f : Found) (k : ℕ) → k < length queue → found_at (queue ++ f ∷ []) k ≡ found_at queue k
old_place queue f k h = get_or_append_left queue (f ∷ []) (record { node = 0; arc = 0; predecessor = 0 }) k h

new_place : (queue : List Found) (f : Found) → found_at (queue ++ f ∷ []) (length queue) ≡ f
new_place queue f = get_or_push queue f (record { node = 0; arc = 0; predecessor = 0 }) (length queue) refl

link_kept : (rows : List (List Incidence)) (queue : List Found) (f g : Found) (k : ℕ) → k ≤ length queue → IsLink rows queue k g → IsLink rows (queue ++ f ∷ []) k g
link_kept rows queue f g k h link = record {
  before = link.before;
  by =
      let P : Found → Type 0 = λ x. Contains (row_at rows x.node) (record { number = g.arc; end = g.node }) in
      subst P (sym (old_place queue f g.predecessor (omega (arith, link.before)))) link.by;
}

tree_cases : (rows : List (List Incidence)) (queue : List Found) (f : Found) → IsTree rows queue → IsLink rows queue (length queue) f
    → (k : ℕ) → 0 < k → (k < length queue) ⊎ (length queue ≡ k) → IsLink rows (queue ++ f ∷ []) k (found_at (queue ++ f ∷ []) k)
tree_cases rows queue f tree link k some (inl h) =
    let P : Found → Type 0 = λ x. IsLink rows (queue ++ f ∷ []) k x in
    subst P (sym (old_place queue f k h)) (link_kept rows queue f (found_at queue k) k (omega arith) (tree k some h))
tree_cases rows queue f tree link k some (inr e) =
    let P : ℕ → Type 0 = λ i. IsLink rows (queue ++ f ∷ []) i (found_at (queue ++ f ∷ []) i) in
    let Q : Found → Type 0 = λ x. IsLink rows (queue ++ f ∷ []) (length queue) x in
    subst P e (subst Q (sym (new_place queue f)) (link_kept rows queue f f (length queue) (omega arith) link))

last_or_before : (queue : List Found) (f : Found) (k : ℕ) → k < length (queue ++ f ∷ []) → (k < length queue) ⊎ (length queue ≡ k)
last_or_before queue f k h =
    let l = length_push queue f in
    elim (cases_lt k (length queue)) [ inl a ↦ inl a | inr b ↦ inr (omega arith) ]

-- ---- a node that is marked
mark_cases : (visited : List Bool) (w v : ℕ) → w < length visited → (v ≡ w) ⊎ (v ≡ w → ⊥) → is_visited visited v ≡ true → is_visited (set visited w true) v ≡ true
mark_cases visited w v h (inl e) t =
    let P : ℕ → Type 0 = λ u. is_visited (set visited w true) u ≡ true in
    subst P (sym e) (get_or-set_same visited w true false h)
mark_cases visited w v h (inr ne) t = get_or-set_other visited w v true false ne ∙ t

mark_kept : (visited : List Bool) (w v : ℕ) → w < length visited → is_visited visited v ≡ true → is_visited (set visited w true) v ≡ true
mark_kept visited w v h t = mark_cases visited w v h (cases_eq v w) t

mark_other : (visited : List Bool) (w v : ℕ) → (v ≡ w → ⊥) → is_visited (set visited w true) v ≡ is_visited visited v
mark_other visited w v ne = get_or-set_other visited w v true false ne

place_cases : (visited : List Bool) (queue : List Found) (f : Found)
    → ((v : ℕ) → is_visited visited v ≡ true → (k : ℕ) × (k < length queue) × ((found_at queue k).node ≡ v))
    → (v : ℕ) → (v ≡ f.node) ⊎ (v ≡ f.node → ⊥) → is_visited (set visited f.node true) v ≡ true
    → (k : ℕ) × (k < length (queue ++ f ∷ [])) × ((found_at (queue ++ f ∷ []) k).node ≡ v)
place_cases visited queue f places v (inl e) t =
    (length queue, omega (arith, length_push queue f), ap (λ (x : Found). x.node) (new_place queue f) ∙ sym e)
place_cases visited queue f places v (inr ne) t =
    let old = places v (sym (mark_other visited f.node v ne) ∙ t) in
    let h : old.0 < length queue = old.1 in
    (old.0, omega (arith, length_push queue f), ap (λ (x : Found). x.node) (old_place queue f old.0 h) ∙ old.2)

node_cases : (rows : List (List Incidence)) (visited : List Bool) (queue : List Found) (f : Found) → f.node < length visited → f.node < length rows
    → ((k : ℕ) → k < length queue → ((found_at queue k).node < length rows) × (is_visited visited (found_at queue k).node ≡ true))
    → (k : ℕ) → (k < length queue) ⊎ (length queue ≡ k)
    → ((found_at (queue ++ f ∷ []) k).node < length rows) × (is_visited (set visited f.node true) (found_at (queue ++ f ∷ []) k).node ≡ true)
node_cases rows visited queue f long below nodes k (inl h) =
    let P : Found → Type 0 = λ x. (x.node < length rows) × (is_visited (set visited f.node true) x.node ≡ true) in
    let n = nodes k h in
    subst P (sym (old_place queue f k h)) (n.0, mark_kept visited f.node (found_at queue k).node long n.1)
node_cases rows visited queue f long below nodes k (inr e) =
    let P : ℕ → Type 0 = λ i. ((found_at (queue ++ f ∷ []) i).node < length rows) × (is_visited (set visited f.node true) (found_at (queue ++ f ∷ []) i).node ≡ true) in
    let Q : Found → Type 0 = λ x. (x.node < length rows) × (is_visited (set visited f.node true) x.node ≡ true) in
    subst P e (subst Q (sym (new_place queue f)) (below, get_or-set_same visited f.node true false long))

one_less : (visited : List Bool) (w : ℕ) → w < length visited → is_visited visited w ≡ false → count_by not (set visited w true) + 1 ≡ count_by not visited
one_less visited w h e =
    let g : Bool → ℕ = λ b. cond (not b) 1 0 in
    let s : count_by not (set visited w true) + g (get_or visited w false) ≡ count_by not visited + 0 = sum_by-set g visited w true false h in
    let o : g (get_or visited w false) ≡ 1 = ap g e in
    omega arith

pub search_visit : (rows : List (List Incidence)) (visited : List Bool) (queue : List Found) (f : Found) → IsSearch rows visited queue
    → f.node < length rows → is_visited visited f.node ≡ false → IsLink rows queue (length queue) f
    → IsSearch rows (set visited f.node true) (queue ++ f ∷ [])
search_visit rows visited queue f is below new link =
    let h : f.node < length visited = omega (arith, is.long) in
    record {
      long = length-set visited f.node true ∙ is.long;
      once = omega (arith, is.once, one_less visited f.node h new, length_push queue f);
      some = omega (arith, length_push queue f);
      tree = λ k some l. tree_cases rows queue f is.tree link k some (last_or_before queue f k l);
      nodes = λ k l. node_cases rows visited queue f h below is.nodes k (last_or_before queue f k l);
      places = λ v t. place_cases visited queue f is.places v (cases_eq v f.node) t;
    }

pub grows_visit : (visited : List Bool) (queue : List Found) (visited' : List Bool) (queue' : List Found) (f : Found) → f.node < length visited'
    → Grows visited queue visited' queue' → Grows visited queue (set visited' f.node true) (queue' ++ f ∷ [])
grows_visit visited queue visited' queue' f h g = record {
  longer = omega (arith, g.longer, length_push queue' f);
  places = λ k l. old_place queue' f k (omega (arith, g.longer)) ∙ g.places k l;
  nodes = λ v t. mark_kept visited' f.node v h (g.nodes v t);
}

-- ---- one more entry of a row
pub end_below : (rows : List (List Incidence)) (v j : ℕ) (row : List Incidence) (x : Incidence) → LeadWithin rows → row ≡ row_at rows v
    → j < length row → x ≡ get_or row j x → x.end < length rows
end_below rows v j row x within e h r =
    let P : List Incidence → Type 0 = λ xs. j < length xs in
    let Q : List Incidence → Type 0 = λ xs. (get_or xs j x).end < length rows in
    let R : Incidence → Type 0 = λ y. y.end < length rows in
    subst R (sym r) (subst Q (sym e) (within v j x (subst P e h)))

reached_more : (row : List Incidence) (j : ℕ) (x : Incidence) (visited : List Bool)
    → ((i : ℕ) (d : Incidence) → i < j → i < length row → is_visited visited (get_or row i d).end ≡ true)
    → j < length row → x ≡ get_or row j x → is_visited visited x.end ≡ true
    → (i : ℕ) (d : Incidence) → (i < j) ⊎ (j ≤ i) → i < j + 1 → i < length row → is_visited visited (get_or row i d).end ≡ true
reached_more row j x visited before lj r here i d (inl h) l m = before i d h m
reached_more row j x visited before lj r here i d (inr h) l m =
    let e : j ≡ i = omega arith in
    let P : ℕ → Type 0 = λ k. is_visited visited (get_or row k d).end ≡ true in
    let Q : Incidence → Type 0 = λ y. is_visited visited y.end ≡ true in
    subst P e (subst Q (get_or_read row j x lj r d) here)

pub spreading_skip : (rows : List (List Incidence)) (t : ℕ) (row : List Incidence) (j : ℕ) (x : Incidence) (visited : List Bool) (queue : List Found) (visited' : List Bool) (queue' : List Found)
    → j < length row → x ≡ get_or row j x → IsSpreading rows t row j visited queue visited' queue' → is_visited visited' x.end ≡ true
    → IsSpreading rows t row (j + 1) visited queue visited' queue'
spreading_skip rows t row j x visited queue visited' queue' lj r s here = record {
  is = s.is;
  grows = s.grows;
  reached = λ i d l m. reached_more row j x visited' s.reached lj r here i d (cases_lt i j) l m;
  missing = s.missing;
}

pub link_of : (rows : List (List Incidence)) (row : List Incidence) (j head : ℕ) (x : Incidence) (visited : List Bool) (queue : List Found) (visited' : List Bool) (queue' : List Found)
    → row ≡ row_at rows (found_at queue head).node → j < length row → x ≡ get_or row j x → head < length queue → Grows visited queue visited' queue'
    → IsLink rows queue' (length queue') (record { node = x.end; arc = x.number; predecessor = head })
link_of rows row j head x visited queue visited' queue' e lj r hh g = record {
  before = omega (arith, g.longer);
  by =
      let P : Found → Type 0 = λ f. Contains (row_at rows f.node) x in
      let Q : List Incidence → Type 0 = λ xs. Contains xs x in
      let c : Contains row x = (j, lj, sym r) in
      subst P (sym (g.places head hh)) (subst Q e c);
}

pub spreading_visit : (rows : List (List Incidence)) (t : ℕ) (row : List Incidence) (j head : ℕ) (x : Incidence) (visited : List Bool) (queue : List Found) (visited' : List Bool) (queue' : List Found)
    → LeadWithin rows → row ≡ row_at rows (found_at queue head).node → j < length row → x ≡ get_or row j x → head < length queue
    → IsSpreading rows t row j visited queue visited' queue' → is_visited visited' x.end ≡ false → (x.end ≡ t → ⊥)
    → IsSpreading rows t row (j + 1) visited queue (set visited' x.end true) (queue' ++ (record { node = x.end; arc = x.number; predecessor = head }) ∷ [])
spreading_visit rows t row j head x visited queue visited' queue' within e lj r hh s new ne =
    let f : Found = record { node = x.end; arc = x.number; predecessor = head } in
    let below : x.end < length rows = end_below rows (found_at queue head).node j row x within e lj r in
    let long : x.end < length visited' = omega (arith, s.is.long) in
    record {
      is = search_visit rows visited' queue' f s.is below new (link_of rows row j head x visited queue visited' queue' e lj r hh s.grows);
      grows = grows_visit visited queue visited' queue' f long s.grows;
      reached = λ i d l m. reached_more row j x (set visited' x.end true)
          (λ k c a b. mark_kept visited' x.end (get_or row k c).end long (s.reached k c a b))
          lj r (get_or-set_same visited' x.end true false long) i d (cases_lt i j) l m;
      missing = mark_other visited' x.end t (λ (q : t ≡ x.end). ne (sym q)) ∙ s.missing;
    }

pub read_visited : (visited : List Bool) (v : ℕ) (x b : Bool) → v < length visited → x ≡ get_or visited v x → x ≡ b → is_visited visited v ≡ b
read_visited visited v x b h r e = sym (get_or_read visited v x h r false) ∙ e

-- a search with its two parts changed
pub spreading_by : (rows : List (List Incidence)) (t : ℕ) (row : List Incidence) (j : ℕ) (visited : List Bool) (queue : List Found) (visited' marked : List Bool) (queue' longer : List Found)
    → marked ≡ visited' → longer ≡ queue' → IsSpreading rows t row j visited queue visited' queue' → IsSpreading rows t row j visited queue marked longer
spreading_by rows t row j visited queue visited' marked queue' longer ev eq s =
    let P : List Bool → Type 0 = λ v. IsSpreading rows t row j visited queue v longer in
    let Q : List Found → Type 0 = λ q. IsSpreading rows t row j visited queue visited' q in
    subst P (sym ev) (subst Q (sym eq) s)

pub search_by : (rows : List (List Incidence)) (visited' marked : List Bool) (queue' longer : List Found)
    → marked ≡ visited' → longer ≡ queue' → IsSearch rows visited' queue' → IsSearch rows marked longer
search_by rows visited' marked queue' longer ev eq s =
    let P : List Bool → Type 0 = λ v. IsSearch rows v longer in
    let Q : List Found → Type 0 = λ q. IsSearch rows visited' q in
    subst P (sym ev) (subst Q (sym eq) s)

-- the whole row
pub spread_all : (rows : List (List Incidence)) (t j : ℕ) (row : List Incidence) (visited : List Bool) (queue : List Found) (visited' : List Bool) (queue' : List Found)
    → length row ≤ j → IsSpreading rows t row j visited queue visited' queue' → LeadToVisited visited' row
spread_all rows t j row visited queue visited' queue' h s i d l = s.reached i d (omega arith) l

-- the row of the node at `head`
pub row_of_head : (rows : List (List Incidence)) (row : List Incidence) (queue : List Found) (head : ℕ) (f : Found)
    → head < length queue → f ≡ get_or queue head f → row ≡ get_or rows f.node [] → row ≡ row_at rows (found_at queue head).node
row_of_head rows row queue head f h r er =
    let q : f ≡ found_at queue head = get_or_read queue head f h r (record { node = 0; arc = 0; predecessor = 0 }) in
    er ∙ ap (λ (x : Found). get_or rows x.node []) q

-- ---- rows of a net
pub rows_of_net : (net : Net) (arcs : List Ends) (rows : List (List Incidence)) → arcs ≡ net.arcs → rows ≡ grouped net.n arcs → rows ≡ grouped net.n net.arcs
rows_of_net net arcs rows e r = r ∙ ap (grouped net.n) e

pub lead_within : (net : Net) (rows : List (List Incidence)) → IsValid net → rows ≡ grouped net.n net.arcs → LeadWithin rows
lead_within net rows valid e =
    let P : List (List Incidence) → Type 0 = λ all. LeadWithin all in
    let n = grouped_length net.n net.arcs (grouped net.n net.arcs) refl in
    subst P (sym e) (λ v k d h.
    let entry : Incidence = get_or (row_at (grouped net.n net.arcs) v) k d in
    let is = grouped_only net.n net.arcs v entry (k, h, get_or_default (row_at (grouped net.n net.arcs) v) k entry d h) in
    let below = (valid.ends entry.number (0, 0) is.below).1 in
    let end_is = is.end_is in
    omega arith)

-- ---- the walk read back
pub walk_more : (queue : List Found) (arcs : List ℕ) (at w : ℕ) (f : Found) → 0 < at → at < length queue → f ≡ get_or queue at f
    → ((net : Net) → IsTree (grouped net.n net.arcs) queue → IsWalk net (found_at queue at).node w (reverse arcs))
    → (net : Net) → IsTree (grouped net.n net.arcs) queue → IsWalk net (found_at queue f.predecessor).node w (reverse (arcs ++ f.arc ∷ []))
walk_more queue arcs at w f some h r walk net tree =
    let rows : List (List Incidence) = grouped net.n net.arcs in
    let q : f ≡ found_at queue at = get_or_read queue at f h r (record { node = 0; arc = 0; predecessor = 0 }) in
    let P : Found → Type 0 = λ x. IsLink rows queue at x in
    let link : IsLink rows queue at f = subst P (sym q) (tree at some h) in
    let entry = grouped_only net.n net.arcs (found_at queue f.predecessor).node (record { number = f.arc; end = f.node }) link.by in
    let Q : List ℕ → Type 0 = λ xs. IsWalk net (found_at queue f.predecessor).node w xs in
    let R : ℕ → Type 0 = λ v. IsWalk net v w (reverse arcs) in
    let go : (found_at queue at).node ≡ target net f.arc = sym (ap (λ (x : Found). x.node) q) ∙ entry.end_is in
    subst Q (sym (reverse-append arcs (f.arc ∷ []))) (entry.below, entry.key_is, subst R go (walk net tree))

turned : (items slice back result : List ℕ) (len : ℕ) → slice ≡ items → length slice ≡ len → back ≡ reverse slice → length back ≡ length slice
    → result ≡ take len (back ++ drop (length back) items) → result ≡ reverse items
turned items slice back result len es ls er lr e =
    e ∙ take_at back (drop (length back) items) len (lr ∙ ls) ∙ er ∙ ap (λ (xs : List ℕ). reverse xs) es

pub walk_whole : (queue : List Found) (items slice back result : List ℕ) (len at w : ℕ) → slice ≡ items → length slice ≡ len → back ≡ reverse slice → length back ≡ length slice
    → result ≡ take len (back ++ drop (length back) items) → at ≤ 0
    → ((net : Net) → IsTree (grouped net.n net.arcs) queue → IsWalk net (found_at queue at).node w (reverse items))
    → (net : Net) → IsTree (grouped net.n net.arcs) queue → IsWalk net (found_at queue 0).node w result
walk_whole queue items slice back result len at w es ls er lr e h walk net tree =
    let z : at ≡ 0 = omega arith in
    let P : ℕ → Type 0 = λ k. IsWalk net (found_at queue k).node w (reverse items) in
    let Q : List ℕ → Type 0 = λ xs. IsWalk net (found_at queue 0).node w xs in
    subst Q (sym (turned items slice back result len es ls er lr e)) (subst P z (walk net tree))

-- ---- the start and the end
start_node : (n s : ℕ) → s < n → (visited : List Bool) → is_visited visited s ≡ true → (k : ℕ) → k < 1
    → ((found_at ((record { node = s; arc = 0; predecessor = 0 }) ∷ []) k).node < n) × (is_visited visited (found_at ((record { node = s; arc = 0; predecessor = 0 }) ∷ []) k).node ≡ true)
start_node n s h visited t zero l = (h, t)
start_node n s h visited t (suc k) l = absurd (omega arith)

start_place : (n s v : ℕ) → (v ≡ s) ⊎ (v ≡ s → ⊥) → is_visited (set (replicate n false) s true) v ≡ true
    → (k : ℕ) × (k < 1) × ((found_at ((record { node = s; arc = 0; predecessor = 0 }) ∷ []) k).node ≡ v)
start_place n s v (inl e) t = (0, omega arith, sym e)
start_place n s v (inr ne) t = absurd (both_ways (is_visited (replicate n false) v) (all_false n v) (sym (mark_other (replicate n false) s v ne) ∙ t))

pub start_is : (rows : List (List Incidence)) (n s : ℕ) (visited : List Bool) (queue : List Found) → length rows ≡ n → s < n
    → visited ≡ set (replicate n false) s true → queue ≡ (record { node = s; arc = 0; predecessor = 0 }) ∷ [] → IsSearch rows visited queue
start_is rows n s visited queue many h ev eq =
    let f : Found = record { node = s; arc = 0; predecessor = 0 } in
    let empty : List Bool = replicate n false in
    let long : s < length empty = omega (arith, length-replicate n false) in
    let P : List Bool → Type 0 = λ v. IsSearch rows v queue in
    let Q : List Found → Type 0 = λ q. IsSearch rows (set empty s true) q in
    let marked : get_or (set empty s true) s false ≡ true = get_or-set_same empty s true false long in
    let is : IsSearch rows (set empty s true) (f ∷ []) = record {
      long = length-set empty s true ∙ length-replicate n false ∙ sym many;
      once = omega (arith, count_false n, one_less empty s long (all_false n s));
      some = omega arith;
      tree = λ k some l. absurd (omega arith);
      nodes = λ k l. start_node (length rows) s (omega arith) (set empty s true) marked k l;
      places = λ v t. start_place n s v (cases_eq v s) t;
    } in
    subst P (sym ev) (subst Q (sym eq) is)

-- an arc that begins at a visited node ends at one
spread_arc : (net : Net) (visited : List Bool) (v arc : ℕ) → IsValid net → LeadToVisited visited (row_at (grouped net.n net.arcs) v)
    → arc < length net.arcs → source net arc ≡ v → is_visited visited (target net arc) ≡ true
spread_arc net visited v arc valid lead h e =
    let P : ℕ → Type 0 = λ u. Contains (row_at (grouped net.n net.arcs) u) (incidence net.arcs arc) in
    let c = subst P e (grouped_has net.n net.arcs arc (valid.ends arc (0, 0) h).0 h) in
    All-contains (λ (entry : Incidence). is_visited visited entry.end ≡ true) (row_at (grouped net.n net.arcs) v) (incidence net.arcs arc) lead c

in_visited : (visited : List Bool) (n v : ℕ) → v < n → is_visited visited v ≡ true → is_in (filter (is_visited visited) (range_with_len 0 n)) v ≡ true
in_visited visited n v h t =
    let c = filter_has (is_visited visited) n v h t in
    let l : c.0 < length (filter (is_visited visited) (range_with_len 0 n)) = c.1 in
    has_in (filter (is_visited visited) (range_with_len 0 n)) c.0 v l (get_or_default (filter (is_visited visited) (range_with_len 0 n)) c.0 0 v l ∙ c.2)

visited_in : (visited : List Bool) (n v : ℕ) → is_in (filter (is_visited visited) (range_with_len 0 n)) v ≡ true → is_visited visited v ≡ true
visited_in visited n v t =
    let k = in_has (filter (is_visited visited) (range_with_len 0 n)) v t in
    let l : k.0 < length (filter (is_visited visited) (range_with_len 0 n)) = k.1 in
    filter_only (is_visited visited) n v (k.0, l, get_or_default (filter (is_visited visited) (range_with_len 0 n)) k.0 v 0 l ∙ k.2)

leaves_none : (here there : Bool) → (here ≡ true → there ≡ true) → (here && not there) ≡ false
leaves_none false there h = refl
leaves_none true there h = ap not (h refl)

isnt : (b : Bool) → (b ≡ true → ⊥) → b ≡ false
isnt true h = absurd (h refl)
isnt false h = refl

pub closed_is : (net : Net) (rows : List (List Incidence)) (s t : ℕ) (visited : List Bool) (nodes : List ℕ) → IsValid net → rows ≡ grouped net.n net.arcs → s < net.n
    → HasMissed rows s t visited → nodes ≡ nodes_visited visited → IsClosedSet net s t nodes
closed_is net rows s t visited nodes valid er hs m e =
    let p : ℕ → Bool = is_visited visited in
    let n : length visited ≡ net.n = m.long ∙ grouped_length net.n net.arcs rows er in
    let set_is : List ℕ = filter p (range_with_len 0 net.n) in
    let P : List ℕ → Type 0 = λ xs. IsClosedSet net s t xs in
    let R : List (List Incidence) → Type 0 = λ all. (v : ℕ) → is_visited visited v ≡ true → LeadToVisited visited (row_at all v) in
    let spread = subst R er m.spread in
    let all : nodes_visited visited ≡ set_is = ap (λ (k : ℕ). filter p (range_with_len 0 k)) n in
    subst P (sym (e ∙ all)) (record {
      cut = record {
        nodes = record { order = filter_rises p net.n; among = filter_below p net.n };
        has = in_visited visited net.n s hs m.root;
        lacks = isnt (is_in set_is t) (λ c. both_ways (p t) m.missing (visited_in visited net.n t c));
      };
      closed = λ arc h. leaves_none (is_in set_is (source net arc)) (is_in set_is (target net arc))
          (λ c. in_visited visited net.n (target net arc) (valid.ends arc (0, 0) h).1
          (spread_arc net visited (source net arc) arc valid (spread (source net arc) (visited_in visited net.n (source net arc) c)) h refl));
    })

-- a walk to the last place, where t was found
pub reached_by : (net : Net) (rows : List (List Incidence)) (s t : ℕ) (start : List Found) (b : Bool) (queue slice : List Found) (walk : List ℕ) (P : Type 0)
    → rows ≡ grouped net.n net.arcs → start ≡ (record { node = s; arc = 0; predecessor = 0 }) ∷ [] → b ≡ true
    → MatchBool b (HasReached rows (found_at start 0).node t queue) P → slice ≡ queue
    → ((n : Net) → IsTree (grouped n.n n.arcs) slice → IsWalk n (found_at slice 0).node (found_at slice (length slice - 1)).node walk)
    → IsWalk net s t walk
reached_by net rows s t start b queue slice walk P er es e m eq goes =
    let reached = MatchBool-at_true (HasReached rows (found_at start 0).node t queue) P e m in
    let T : List (List Incidence) → Type 0 = λ all. IsTree all queue in
    let Q : List Found → Type 0 = λ q. IsTree (grouped net.n net.arcs) q in
    let walked = goes net (subst Q (sym eq) (subst T er reached.tree)) in
    let first : (found_at slice 0).node ≡ s = ap (λ (q : List Found). (found_at q 0).node) eq ∙ reached.root ∙ ap (λ (q : List Found). (found_at q 0).node) es in
    let last : (found_at slice (length slice - 1)).node ≡ t = ap (λ (q : List Found). (found_at q (length q - 1)).node) eq ∙ reached.last in
    let A : ℕ → Type 0 = λ v. IsWalk net v (found_at slice (length slice - 1)).node walk in
    let B : ℕ → Type 0 = λ v. IsWalk net s v walk in
    subst B last (subst A first walked)

pub missed_by : (rows : List (List Incidence)) (s t : ℕ) (queue : List Found) (b : Bool) (visited : List Bool) (P : Type 0)
    → queue ≡ (record { node = s; arc = 0; predecessor = 0 }) ∷ [] → b ≡ false
    → MatchBool b P (HasMissed rows (found_at queue 0).node t visited) → HasMissed rows s t visited
missed_by rows s t queue b visited P e f m =
    let Q : ℕ → Type 0 = λ v. HasMissed rows v t visited in
    subst Q (ap (λ (q : List Found). (found_at q 0).node) e) (MatchBool-at_false P (HasMissed rows (found_at queue 0).node t visited) f m)
