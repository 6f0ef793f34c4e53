-- The steps of a breadth first search along darts with room.
use Rattle.std.proofs.Common.{◌≡◌, ◌≢◌, ℕ, zero, suc, ◌+◌, ◌-◌, ◌<◌, ◌≤◌, ◌⊎◌, inl, inr, ℤ, pos, ◌+ℤ◌, ◌-ℤ◌, ◌≤ℤ◌, Bool, true, false, not, cond, List, [], ◌∷◌, ◌++◌, length, get_or, set, replicate, refl, sym, ◌∙◌, ap, subst, All, arith, length-set, get_or-set_same, get_or-set_other}
use borrow.Author.Differences.{ints}
use Rattle.std.specs.List.{Contains, count_by}
use Rattle.std.proofs.lemmas.Bool.{cases_eq, cases_lt, both_ways}
use Rattle.std.proofs.lemmas.List.{length_push, get_or_push, get_or_append_left, get_or_read, get_or_default, length-replicate}
use Rattle.std.proofs.lemmas.List.Sums.{sum_by-set}
use Rattle.graph_defs.specs.declared.grouped.Incidence.{Incidence}
use Rattle.graph_defs.proofs.Numbers.{all_false, count_false}
use Rattle.graph_defs.specs.Sum.{at}
use Rattle.flow_net.specs.declared.breadth_first.Found.{Found}
use Rattle.flow_net.specs.Residual.{row_at, HasRoom, IsResidual}
use Rattle.flow_net.specs.Search.{LeadsOn, LeadToVisited, found_at, is_visited, IsLink, IsTree, IsSearch, Grows, IsSpreading, IsUnderWay, IsDone}

-- ---- the queue with one more place
old_place : (queue : List Found) (f : Found) (k : ℕ) → k < length queue → found_at (queue ++ f ∷ []) k ≡ found_at queue k
old_place queue f k h = get_or_append_left queue (f ∷ []) (record { node = 0; dart = 0; predecessor = 0; room = pos 0 }) k h

new_place : (queue : List Found) (f : Found) → found_at (queue ++ f ∷ []) (length queue) ≡ f
new_place queue f = get_or_push queue f (record { node = 0; dart = 0; predecessor = 0; room = pos 0 }) (length queue) refl

link_kept : (rows : List (List Incidence)) (cap flow : List ℤ) (queue : List Found) (f g : Found) (k : ℕ) → k ≤ length queue → IsLink rows cap flow queue k g → IsLink rows cap flow (queue ++ f ∷ []) k g
link_kept rows cap flow queue f g k h link =
    let old = old_place queue f g.predecessor (omega (arith, link.before)) in
    record {
      before = link.before;
      by =
          let P : Found → Type 0 = λ x. Contains (row_at rows x.node) (record { number = g.dart; end = g.node }) in
          subst P (sym old) link.by;
      room = link.room;
      least =
          let P : Found → Type 0 = λ x. g.room ≤ℤ x.room in
          subst P (sym old) link.least;
      some = link.some;
      fresh = λ j l e. link.fresh j l (sym (ap (λ (x : Found). x.node) (old_place queue f j (omega arith))) ∙ e);
    }

tree_cases : (rows : List (List Incidence)) (cap flow : List ℤ) (queue : List Found) (f : Found) → IsTree rows cap flow queue → IsLink rows cap flow queue (length queue) f
    → (k : ℕ) → 0 < k → (k < length queue) ⊎ (length queue ≡ k) → IsLink rows cap flow (queue ++ f ∷ []) k (found_at (queue ++ f ∷ []) k)
tree_cases rows cap flow queue f tree link k some (inl h) =
    let P : Found → Type 0 = λ x. IsLink rows cap flow (queue ++ f ∷ []) k x in
    subst P (sym (old_place queue f k h)) (link_kept rows cap flow queue f (found_at queue k) k (omega arith) (tree k some h))
tree_cases rows cap flow queue f tree link k some (inr e) =
    let P : ℕ → Type 0 = λ i. IsLink rows cap flow (queue ++ f ∷ []) i (found_at (queue ++ f ∷ []) i) in
    let Q : Found → Type 0 = λ x. IsLink rows cap flow (queue ++ f ∷ []) (length queue) x in
    subst P e (subst Q (sym (new_place queue f)) (link_kept rows cap flow queue f f (length queue) (omega arith) link))

last_or_before : (queue : List Found) (f : Found) (k : ℕ) → k < length (queue ++ f ∷ []) → (k < length queue) ⊎ (length queue ≡ k)
last_or_before queue f k h =
    let l = length_push queue f in
    elim (cases_lt k (length queue)) [ inl a ↦ inl a | inr b ↦ inr (omega arith) ]

-- ---- a node that is marked
mark_cases : (visited : List Bool) (w v : ℕ) → w < length visited → (v ≡ w) ⊎ (v ≡ w → ⊥) → is_visited visited v ≡ true → is_visited (set visited w true) v ≡ true
mark_cases visited w v h (inl e) t =
    let P : ℕ → Type 0 = λ u. is_visited (set visited w true) u ≡ true in
    subst P (sym e) (get_or-set_same visited w true false h)
mark_cases visited w v h (inr ne) t = get_or-set_other visited w v true false ne ∙ t

mark_kept : (visited : List Bool) (w v : ℕ) → w < length visited → is_visited visited v ≡ true → is_visited (set visited w true) v ≡ true
mark_kept visited w v h t = mark_cases visited w v h (cases_eq v w) t

mark_other : (visited : List Bool) (w v : ℕ) → (v ≡ w → ⊥) → is_visited (set visited w true) v ≡ is_visited visited v
mark_other visited w v ne = get_or-set_other visited w v true false ne

place_cases : (visited : List Bool) (queue : List Found) (f : Found)
    → ((v : ℕ) → is_visited visited v ≡ true → (k : ℕ) × (k < length queue) × ((found_at queue k).node ≡ v))
    → (v : ℕ) → (v ≡ f.node) ⊎ (v ≡ f.node → ⊥) → is_visited (set visited f.node true) v ≡ true
    → (k : ℕ) × (k < length (queue ++ f ∷ [])) × ((found_at (queue ++ f ∷ []) k).node ≡ v)
place_cases visited queue f places v (inl e) t =
    (length queue, omega (arith, length_push queue f), ap (λ (x : Found). x.node) (new_place queue f) ∙ sym e)
place_cases visited queue f places v (inr ne) t =
    let old = places v (sym (mark_other visited f.node v ne) ∙ t) in
    let h : old.0 < length queue = old.1 in
    (old.0, omega (arith, length_push queue f), ap (λ (x : Found). x.node) (old_place queue f old.0 h) ∙ old.2)

node_cases : (rows : List (List Incidence)) (visited : List Bool) (queue : List Found) (f : Found) → f.node < length visited → f.node < length rows
    → ((k : ℕ) → k < length queue → ((found_at queue k).node < length rows) × (is_visited visited (found_at queue k).node ≡ true))
    → (k : ℕ) → (k < length queue) ⊎ (length queue ≡ k)
    → ((found_at (queue ++ f ∷ []) k).node < length rows) × (is_visited (set visited f.node true) (found_at (queue ++ f ∷ []) k).node ≡ true)
node_cases rows visited queue f long below nodes k (inl h) =
    let P : Found → Type 0 = λ x. (x.node < length rows) × (is_visited (set visited f.node true) x.node ≡ true) in
    let n = nodes k h in
    subst P (sym (old_place queue f k h)) (n.0, mark_kept visited f.node (found_at queue k).node long n.1)
node_cases rows visited queue f long below nodes k (inr e) =
    let P : ℕ → Type 0 = λ i. ((found_at (queue ++ f ∷ []) i).node < length rows) × (is_visited (set visited f.node true) (found_at (queue ++ f ∷ []) i).node ≡ true) in
    let Q : Found → Type 0 = λ x. (x.node < length rows) × (is_visited (set visited f.node true) x.node ≡ true) in
    subst P e (subst Q (sym (new_place queue f)) (below, get_or-set_same visited f.node true false long))

one_less : (visited : List Bool) (w : ℕ) → w < length visited → is_visited visited w ≡ false → count_by not (set visited w true) + 1 ≡ count_by not visited
one_less visited w h e =
    let g : Bool → ℕ = λ b. cond (not b) 1 0 in
    let s : count_by not (set visited w true) + g (get_or visited w false) ≡ count_by not visited + 0 = sum_by-set g visited w true false h in
    let o : g (get_or visited w false) ≡ 1 = ap g e in
    omega arith

search_visit : (rows : List (List Incidence)) (cap flow : List ℤ) (s : ℕ) (visited : List Bool) (queue : List Found) (f : Found) → IsSearch rows cap flow s visited queue
    → f.node < length rows → is_visited visited f.node ≡ false → IsLink rows cap flow queue (length queue) f
    → IsSearch rows cap flow s (set visited f.node true) (queue ++ f ∷ [])
search_visit rows cap flow s visited queue f is below new link =
    let h : f.node < length visited = omega (arith, is.long) in
    let old = old_place queue f 0 is.some in
    record {
      long = length-set visited f.node true ∙ is.long;
      once = omega (arith, is.once, one_less visited f.node h new, length_push queue f);
      some = omega (arith, length_push queue f);
      root = ap (λ (x : Found). x.node) old ∙ is.root;
      first =
          let P : Found → Type 0 = λ x. pos 1 ≤ℤ x.room in
          subst P (sym old) is.first;
      tree = λ k some l. tree_cases rows cap flow queue f is.tree link k some (last_or_before queue f k l);
      nodes = λ k l. node_cases rows visited queue f h below is.nodes k (last_or_before queue f k l);
      places = λ v t. place_cases visited queue f is.places v (cases_eq v f.node) t;
    }

grows_visit : (visited : List Bool) (queue : List Found) (visited' : List Bool) (queue' : List Found) (f : Found) → f.node < length visited'
    → Grows visited queue visited' queue' → Grows visited queue (set visited' f.node true) (queue' ++ f ∷ [])
grows_visit visited queue visited' queue' f h g = record {
  longer = omega (arith, g.longer, length_push queue' f);
  places = λ k l. old_place queue' f k (omega (arith, g.longer)) ∙ g.places k l;
  nodes = λ v t. mark_kept visited' f.node v h (g.nodes v t);
}

-- ---- one more entry of a row
pub end_below : (rows : List (List Incidence)) (cap flow : List ℤ) (v j : ℕ) (row : List Incidence) (x : Incidence) → IsResidual rows cap flow → row ≡ row_at rows v
    → j < length row → x ≡ get_or row j x → (x.end < length rows) × (x.number < length flow + length flow)
end_below rows cap flow v j row x res e h r =
    let P : List Incidence → Type 0 = λ xs. j < length xs in
    let Q : List Incidence → Type 0 = λ xs. ((get_or xs j x).end < length rows) × ((get_or xs j x).number < length flow + length flow) in
    let R : Incidence → Type 0 = λ y. (y.end < length rows) × (y.number < length flow + length flow) in
    subst R (sym r) (subst Q (sym e) (res.ends v j x (subst P e h)))

reached_more : (cap flow : List ℤ) (row : List Incidence) (j : ℕ) (x : Incidence) (visited : List Bool)
    → ((i : ℕ) (d : Incidence) → i < j → i < length row → LeadsOn cap flow visited (get_or row i d))
    → j < length row → x ≡ get_or row j x → LeadsOn cap flow visited x
    → (i : ℕ) (d : Incidence) → (i < j) ⊎ (j ≤ i) → i < j + 1 → i < length row → LeadsOn cap flow visited (get_or row i d)
reached_more cap flow row j x visited before lj r here i d (inl h) l m = before i d h m
reached_more cap flow row j x visited before lj r here i d (inr h) l m =
    let e : j ≡ i = omega arith in
    let P : ℕ → Type 0 = λ k. LeadsOn cap flow visited (get_or row k d) in
    let Q : Incidence → Type 0 = λ y. LeadsOn cap flow visited y in
    subst P e (subst Q (get_or_read row j x lj r d) here)

pub spreading_skip : (rows : List (List Incidence)) (cap flow : List ℤ) (s : ℕ) (row : List Incidence) (j : ℕ) (x : Incidence) (visited : List Bool) (queue : List Found) (visited' : List Bool) (queue' : List Found)
    → j < length row → x ≡ get_or row j x → IsSpreading rows cap flow s row j visited queue visited' queue' → LeadsOn cap flow visited' x
    → IsSpreading rows cap flow s row (j + 1) visited queue visited' queue'
spreading_skip rows cap flow s row j x visited queue visited' queue' lj r h here = record {
  is = h.is;
  grows = h.grows;
  reached = λ i d l m. reached_more cap flow row j x visited' h.reached lj r here i d (cases_lt i j) l m;
}

-- what is known of a dart with room that leads on from the place `head`
pub record IsStep (rows : List (List Incidence)) (cap flow : List ℤ) (queue : List Found) (head : ℕ) (x : Incidence) (room : ℤ) : Type 0 where
  pub head_is : head < length queue
  pub by : Contains (row_at rows (found_at queue head).node) x
  pub below : x.end < length rows
  pub room_is : HasRoom cap flow x.number room
  pub least : room ≤ℤ (found_at queue head).room
  pub some : pos 1 ≤ℤ room

step_link : (rows : List (List Incidence)) (cap flow : List ℤ) (s head : ℕ) (x : Incidence) (room : ℤ) (visited : List Bool) (queue : List Found) (visited' : List Bool) (queue' : List Found)
    → IsStep rows cap flow queue head x room → Grows visited queue visited' queue' → IsSearch rows cap flow s visited' queue' → is_visited visited' x.end ≡ false
    → IsLink rows cap flow queue' (length queue') (record { node = x.end; dart = x.number; predecessor = head; room = room })
step_link rows cap flow s head x room visited queue visited' queue' st g is new =
    let hh : head < length queue = st.head_is in
    let same = g.places head hh in
    record {
      before = omega (arith, g.longer);
      by =
          let P : Found → Type 0 = λ f. Contains (row_at rows f.node) x in
          subst P (sym same) st.by;
      room = st.room_is;
      least =
          let P : Found → Type 0 = λ f. room ≤ℤ f.room in
          subst P (sym same) st.least;
      some = st.some;
      fresh = λ j l e.
          let P : ℕ → Type 0 = λ v. is_visited visited' v ≡ true in
          both_ways (is_visited visited' x.end) new (subst P e (is.nodes j l).1);
    }

pub spreading_visit : (rows : List (List Incidence)) (cap flow : List ℤ) (s : ℕ) (row : List Incidence) (j head : ℕ) (x : Incidence) (room : ℤ) (visited : List Bool) (queue : List Found) (visited' : List Bool) (queue' : List Found)
    → IsStep rows cap flow queue head x room → j < length row → x ≡ get_or row j x
    → IsSpreading rows cap flow s row j visited queue visited' queue' → is_visited visited' x.end ≡ false
    → IsSpreading rows cap flow s row (j + 1) visited queue (set visited' x.end true) (queue' ++ (record { node = x.end; dart = x.number; predecessor = head; room = room }) ∷ [])
spreading_visit rows cap flow s row j head x room visited queue visited' queue' st lj r h new =
    let f : Found = record { node = x.end; dart = x.number; predecessor = head; room = room } in
    let below : x.end < length rows = st.below in
    let long : x.end < length visited' = omega (arith, h.is.long) in
    record {
      is = search_visit rows cap flow s visited' queue' f h.is below new (step_link rows cap flow s head x room visited queue visited' queue' st h.grows h.is new);
      grows = grows_visit visited queue visited' queue' f long h.grows;
      reached = λ i d l m. reached_more cap flow row j x (set visited' x.end true)
          (λ k c a b has. mark_kept visited' x.end (get_or row k c).end long (h.reached k c a b has))
          lj r (λ has. get_or-set_same visited' x.end true false long) i d (cases_lt i j) l m;
    }

pub read_visited : (visited : List Bool) (v : ℕ) (x b : Bool) → v < length visited → x ≡ get_or visited v x → x ≡ b → is_visited visited v ≡ b
read_visited visited v x b h r e = sym (get_or_read visited v x h r false) ∙ e

-- a search with its two parts changed
pub spreading_by : (rows : List (List Incidence)) (cap flow : List ℤ) (s : ℕ) (row : List Incidence) (j : ℕ) (visited : List Bool) (queue : List Found) (visited' marked : List Bool) (queue' longer : List Found)
    → marked ≡ visited' → longer ≡ queue' → IsSpreading rows cap flow s row j visited queue visited' queue' → IsSpreading rows cap flow s row j visited queue marked longer
spreading_by rows cap flow s row j visited queue visited' marked queue' longer ev eq h =
    let P : List Bool → Type 0 = λ v. IsSpreading rows cap flow s row j visited queue v longer in
    let Q : List Found → Type 0 = λ q. IsSpreading rows cap flow s row j visited queue visited' q in
    subst P (sym ev) (subst Q (sym eq) h)

-- the whole row
pub spread_all : (rows : List (List Incidence)) (cap flow : List ℤ) (s j : ℕ) (row : List Incidence) (visited : List Bool) (queue : List Found) (visited' : List Bool) (queue' : List Found)
    → length row ≤ j → IsSpreading rows cap flow s row j visited queue visited' queue' → LeadToVisited cap flow visited' row
spread_all rows cap flow s j row visited queue visited' queue' h sp i d l = sp.reached i d (omega arith) l

-- the row of the node at `head`
pub row_of_head : (rows : List (List Incidence)) (row : List Incidence) (queue : List Found) (head : ℕ) (f : Found)
    → head < length queue → f ≡ get_or queue head f → row ≡ get_or rows f.node [] → row ≡ row_at rows (found_at queue head).node
row_of_head rows row queue head f h r er =
    let q : f ≡ found_at queue head = get_or_read queue head f h r (record { node = 0; dart = 0; predecessor = 0; room = pos 0 }) in
    er ∙ ap (λ (x : Found). get_or rows x.node []) q

-- ---- one more place of the queue
spread_more : (rows : List (List Incidence)) (cap flow : List ℤ) (row : List Incidence) (head : ℕ) (visited : List Bool) (queue : List Found) (visited' : List Bool) (queue' : List Found)
    → Grows visited queue visited' queue' → head < length queue → row ≡ row_at rows (found_at queue head).node → LeadToVisited cap flow visited' row
    → ((k : ℕ) → k < head → LeadToVisited cap flow visited (row_at rows (found_at queue k).node))
    → (k : ℕ) → (k < head) ⊎ (head ≤ k) → k < head + 1 → LeadToVisited cap flow visited' (row_at rows (found_at queue' k).node)
spread_more rows cap flow row head visited queue visited' queue' g hh e here before k (inl h) l =
    let P : Found → Type 0 = λ f. LeadToVisited cap flow visited' (row_at rows f.node) in
    subst P (sym (g.places k (omega arith))) (λ i d m has. g.nodes (get_or (row_at rows (found_at queue k).node) i d).end (before k h i d m has))
spread_more rows cap flow row head visited queue visited' queue' g hh e here before k (inr h) l =
    let q : head ≡ k = omega arith in
    let P : Found → Type 0 = λ f. LeadToVisited cap flow visited' (row_at rows f.node) in
    let Q : ℕ → Type 0 = λ i. LeadToVisited cap flow visited' (row_at rows (found_at queue' i).node) in
    let R : List Incidence → Type 0 = λ xs. LeadToVisited cap flow visited' xs in
    subst Q q (subst P (sym (g.places head hh)) (subst R e here))

pub under_way_more : (rows : List (List Incidence)) (cap flow : List ℤ) (s head : ℕ) (row : List Incidence) (visited : List Bool) (queue : List Found) (visited' : List Bool) (queue' : List Found)
    → IsUnderWay rows cap flow s head visited queue → head < length queue → row ≡ row_at rows (found_at queue head).node
    → IsSearch rows cap flow s visited' queue' → Grows visited queue visited' queue' → LeadToVisited cap flow visited' row
    → IsUnderWay rows cap flow s (head + 1) visited' queue'
under_way_more rows cap flow s head row visited queue visited' queue' u hh e is g here = record {
  is = is;
  behind = (let l = g.longer in omega arith);
  spread = λ k l. spread_more rows cap flow row head visited queue visited' queue' g hh e here u.spread k (cases_lt k head) l;
}

pub done_is : (rows : List (List Incidence)) (cap flow : List ℤ) (s head : ℕ) (visited : List Bool) (queue : List Found) → length queue ≤ head
    → IsUnderWay rows cap flow s head visited queue → IsDone rows cap flow s visited queue
done_is rows cap flow s head visited queue h u = record {
  is = u.is;
  spread = λ v t.
      let place = u.is.places v t in
      let l : place.0 < length queue = place.1 in
      let P : ℕ → Type 0 = λ w. LeadToVisited cap flow visited (row_at rows w) in
      subst P place.2 (u.spread place.0 (omega arith));
}

-- ---- the start
start_node : (n s : ℕ) (x : ℤ) → s < n → (visited : List Bool) → is_visited visited s ≡ true → (k : ℕ) → k < 1
    → ((found_at ((record { node = s; dart = 0; predecessor = 0; room = x }) ∷ []) k).node < n) × (is_visited visited (found_at ((record { node = s; dart = 0; predecessor = 0; room = x }) ∷ []) k).node ≡ true)
start_node n s x h visited t zero l = (h, t)
start_node n s x h visited t (suc k) l = absurd (omega arith)

start_place : (n s v : ℕ) (x : ℤ) → (v ≡ s) ⊎ (v ≡ s → ⊥) → is_visited (set (replicate n false) s true) v ≡ true
    → (k : ℕ) × (k < 1) × ((found_at ((record { node = s; dart = 0; predecessor = 0; room = x }) ∷ []) k).node ≡ v)
start_place n s v x (inl e) t = (0, omega arith, sym e)
start_place n s v x (inr ne) t = absurd (both_ways (is_visited (replicate n false) v) (all_false n v) (sym (mark_other (replicate n false) s v ne) ∙ t))

pub start_is : (rows : List (List Incidence)) (cap flow : List ℤ) (n s : ℕ) (x : ℤ) (visited : List Bool) (queue : List Found) → length rows ≡ n → s < n → pos 1 ≤ℤ x
    → visited ≡ set (replicate n false) s true → queue ≡ (record { node = s; dart = 0; predecessor = 0; room = x }) ∷ [] → IsSearch rows cap flow s visited queue
start_is rows cap flow n s x visited queue many h one ev eq =
    let f : Found = record { node = s; dart = 0; predecessor = 0; room = x } in
    let empty : List Bool = replicate n false in
    let long : s < length empty = omega (arith, length-replicate n false) in
    let P : List Bool → Type 0 = λ v. IsSearch rows cap flow s v queue in
    let Q : List Found → Type 0 = λ q. IsSearch rows cap flow s (set empty s true) q in
    let marked : get_or (set empty s true) s false ≡ true = get_or-set_same empty s true false long in
    let is : IsSearch rows cap flow s (set empty s true) (f ∷ []) = record {
      long = length-set empty s true ∙ length-replicate n false ∙ sym many;
      once = omega (arith, count_false n, one_less empty s long (all_false n s));
      some = omega arith;
      root = refl;
      first = one;
      tree = λ k some l. absurd (omega arith);
      nodes = λ k l. start_node (length rows) s x (omega arith) (set empty s true) marked k l;
      places = λ v t. start_place n s v x (cases_eq v s) t;
    } in
    subst P (sym ev) (subst Q (sym eq) is)

-- ---- the room along a dart
pub room_least : (cap flow : List ℤ) (dart : ℕ) (room x : ℤ) → (dart < length flow → room ≡ (at cap dart -ℤ at flow dart)) → (length flow ≤ dart → room ≡ at flow (dart - length flow))
    → x ≤ℤ room → HasRoom cap flow dart x
room_least cap flow dart room x front back l = record {
  front = λ h. (let e = front h in omega (arith, ints));
  back = λ h. (let e = back h in omega (arith, ints));
}

pub no_room : (cap flow : List ℤ) (dart : ℕ) (room : ℤ) → (dart < length flow → room ≡ (at cap dart -ℤ at flow dart)) → (length flow ≤ dart → room ≡ at flow (dart - length flow))
    → room ≤ℤ pos 0 → HasRoom cap flow dart (pos 1) → ⊥
no_room cap flow dart room front back l has = elim (cases_lt dart (length flow)) [
  | inl h ↦ (let e = front h in let r = has.front h in absurd (omega (arith, ints)))
  | inr h ↦ (let e = back h in let r = has.back h in absurd (omega (arith, ints)))
]

-- the room of every place is at least 1
pub room_some : (rows : List (List Incidence)) (cap flow : List ℤ) (s : ℕ) (visited : List Bool) (queue : List Found) (k : ℕ) → IsSearch rows cap flow s visited queue → k < length queue
    → pos 1 ≤ℤ (found_at queue k).room
room_some rows cap flow s visited queue zero is l = is.first
room_some rows cap flow s visited queue (suc k) is l = (is.tree (suc k) (omega arith) l).some
