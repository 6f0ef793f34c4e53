-- Private: what a breadth first search over rows keeps: the nodes that it has visited, and where it
-- found them.
use Rattle.std.specs.Prelude.{◌≡◌, ℕ, ◌+◌, ◌-◌, ◌<◌, ◌≤◌, Bool, true, false, not, List, [], length, slice_index_or}
use Rattle.std.specs.List.{All, Contains, filter, count_by, range_with_len}
use Rattle.graph_defs.specs.declared.grouped.Incidence.{Incidence}
use Rattle.graph_search.specs.declared.breadth_first.Found.{Found}

-- the row of a node
abbrev pub row_at : List (List Incidence) → ℕ → List Incidence
row_at rows node = slice_index_or rows node []

-- what is found by an entry of a row leads to a node of the rows
abbrev pub LeadWithin : List (List Incidence) → Type 0
LeadWithin rows = (v : ℕ) → All (λ (entry : Incidence). entry.end < length rows) (row_at rows v)

-- what stands at a place of the queue
abbrev pub found_at : List Found → ℕ → Found
found_at queue k = slice_index_or queue k (record { node = 0; arc = 0; predecessor = 0 })

abbrev pub is_visited : List Bool → ℕ → Bool
is_visited visited node = slice_index_or visited node false

-- the visited nodes, in the order of the nodes
abbrev pub nodes_visited : List Bool → List ℕ
nodes_visited visited = filter (is_visited visited) (range_with_len 0 (length visited))

-- a node was found by an entry of the row of another
abbrev pub IsFoundBy : List (List Incidence) → Found → Found → Type 0
IsFoundBy rows predecessor found =
    Contains (row_at rows predecessor.node) (record { number = found.arc; end = found.node })

-- place k was found by an entry of the row of a place before it
pub record IsLink (rows : List (List Incidence)) (queue : List Found) (k : ℕ)
    (found : Found) : Type 0 where
  pub before : found.predecessor < k
  pub by : IsFoundBy rows (found_at queue found.predecessor) found

-- each place but the first was found so
abbrev pub IsTree : List (List Incidence) → List Found → Type 0
IsTree rows queue = (k : ℕ) → 0 < k → k < length queue → IsLink rows queue k (found_at queue k)

-- the queue has just the visited nodes, each of them once
pub record IsSearch (rows : List (List Incidence)) (visited : List Bool)
    (queue : List Found) : Type 0 where
  pub long : length visited ≡ length rows
  pub once : count_by not visited + length queue ≡ length rows
  pub some : 0 < length queue
  pub tree : IsTree rows queue
  pub nodes : (k : ℕ) → k < length queue
      → ((found_at queue k).node < length rows)
      × (is_visited visited (found_at queue k).node ≡ true)
  pub places : (v : ℕ) → is_visited visited v ≡ true → (k : ℕ) × (k < length queue)
      × ((found_at queue k).node ≡ v)

-- a search went on
pub record Grows (visited : List Bool) (queue : List Found) (visited' : List Bool)
    (queue' : List Found) : Type 0 where
  pub longer : length queue ≤ length queue'
  pub places : (k : ℕ) → k < length queue → found_at queue' k ≡ found_at queue k
  pub nodes : (v : ℕ) → is_visited visited v ≡ true → is_visited visited' v ≡ true

-- the entries of a row lead to visited nodes
abbrev pub LeadToVisited : List Bool → List Incidence → Type 0
LeadToVisited visited row = All (λ (entry : Incidence). is_visited visited entry.end ≡ true) row

-- the first j entries of a row lead to visited nodes, and t isn't visited
pub record IsSpreading (rows : List (List Incidence)) (t : ℕ) (row : List Incidence) (j : ℕ)
    (visited : List Bool) (queue : List Found) (visited' : List Bool)
    (queue' : List Found) : Type 0 where
  pub is : IsSearch rows visited' queue'
  pub grows : Grows visited queue visited' queue'
  pub reached : (i : ℕ) (d : Incidence) → i < j → i < length row
      → is_visited visited' (slice_index_or row i d).end ≡ true
  pub missing : is_visited visited' t ≡ false

-- the rows of the places before `head` lead to visited nodes, and t isn't visited
pub record IsUnderWay (rows : List (List Incidence)) (s t : ℕ) (head : ℕ) (visited : List Bool)
    (queue : List Found) : Type 0 where
  pub is : IsSearch rows visited queue
  pub root : (found_at queue 0).node ≡ s
  pub missing : is_visited visited t ≡ false
  pub behind : head ≤ length queue
  pub spread : (k : ℕ) → k < head → LeadToVisited visited (row_at rows (found_at queue k).node)

-- t was found last
pub record HasReached (rows : List (List Incidence)) (s t : ℕ) (queue : List Found) : Type 0 where
  pub some : 0 < length queue
  pub tree : IsTree rows queue
  pub root : (found_at queue 0).node ≡ s
  pub last : (found_at queue (length queue - 1)).node ≡ t

-- all that can be visited from s is, and t isn't
pub record HasMissed (rows : List (List Incidence)) (s t : ℕ) (visited : List Bool) : Type 0 where
  pub long : length visited ≡ length rows
  pub root : is_visited visited s ≡ true
  pub missing : is_visited visited t ≡ false
  pub spread : (v : ℕ) → is_visited visited v ≡ true → LeadToVisited visited (row_at rows v)
