-- Private: what a breadth first search in a residual network keeps: the nodes that it has visited,
-- and how it found them.
use Rattle.std.specs.Prelude.{◌≡◌, ◌≢◌, ℕ, ◌+◌, ◌-◌, ◌<◌, ◌≤◌, ℤ, pos, ◌≤ℤ◌, Bool, true, false, not, List, [], length, slice_index_or}
use Rattle.std.specs.List.{All, Contains, filter, count_by, range_with_len}
use Rattle.graph_defs.specs.declared.grouped.Incidence.{Incidence}
use Rattle.flow_net.specs.declared.breadth_first.Found.{Found}
use Rattle.flow_net.specs.Residual.{row_at, HasRoom}

-- what stands at a place of the queue
abbrev pub found_at : List Found → ℕ → Found
found_at queue k =
    slice_index_or queue k (record { node = 0; dart = 0; predecessor = 0; room = pos 0 })

abbrev pub is_visited : List Bool → ℕ → Bool
is_visited visited node = slice_index_or visited node false

-- the visited nodes, in the order of the nodes
abbrev pub nodes_visited : List Bool → List ℕ
nodes_visited visited = filter (is_visited visited) (range_with_len 0 (length visited))

-- place k was found along a dart with room from a place before it, and its room is no more than
-- that of the dart and of that place
pub record IsLink (rows : List (List Incidence)) (cap flow : List ℤ) (queue : List Found) (k : ℕ)
    (found : Found) : Type 0 where
  pub before : found.predecessor < k
  pub by : Contains (row_at rows (found_at queue found.predecessor).node)
      (record { number = found.dart; end = found.node })
  pub room : HasRoom cap flow found.dart found.room
  pub least : found.room ≤ℤ (found_at queue found.predecessor).room
  pub some : pos 1 ≤ℤ found.room
  pub fresh : (j : ℕ) → j < k → (found_at queue j).node ≢ found.node

-- each place but the first was found so
abbrev pub IsTree : List (List Incidence) → List ℤ → List ℤ → List Found → Type 0
IsTree rows cap flow queue = (k : ℕ) → 0 < k → k < length queue
    → IsLink rows cap flow queue k (found_at queue k)

-- the queue has just the visited nodes, each of them once
pub record IsSearch (rows : List (List Incidence)) (cap flow : List ℤ) (s : ℕ)
    (visited : List Bool) (queue : List Found) : Type 0 where
  pub long : length visited ≡ length rows
  pub once : count_by not visited + length queue ≡ length rows
  pub some : 0 < length queue
  pub root : (found_at queue 0).node ≡ s
  pub first : pos 1 ≤ℤ (found_at queue 0).room
  pub tree : IsTree rows cap flow queue
  pub nodes : (k : ℕ) → k < length queue
      → ((found_at queue k).node < length rows)
      × (is_visited visited (found_at queue k).node ≡ true)
  pub places : (v : ℕ) → is_visited visited v ≡ true → (k : ℕ) × (k < length queue)
      × ((found_at queue k).node ≡ v)

-- a search went on
pub record Grows (visited : List Bool) (queue : List Found) (visited' : List Bool)
    (queue' : List Found) : Type 0 where
  pub longer : length queue ≤ length queue'
  pub places : (k : ℕ) → k < length queue → found_at queue' k ≡ found_at queue k
  pub nodes : (v : ℕ) → is_visited visited v ≡ true → is_visited visited' v ≡ true

-- an entry of a row leads to a visited node, unless its dart has no room
abbrev pub LeadsOn : List ℤ → List ℤ → List Bool → Incidence → Type 0
LeadsOn cap flow visited entry = HasRoom cap flow entry.number (pos 1)
    → is_visited visited entry.end ≡ true

abbrev pub LeadToVisited : List ℤ → List ℤ → List Bool → List Incidence → Type 0
LeadToVisited cap flow visited row = All (LeadsOn cap flow visited) row

-- the first j entries of a row do so
pub record IsSpreading (rows : List (List Incidence)) (cap flow : List ℤ) (s : ℕ)
    (row : List Incidence) (j : ℕ) (visited : List Bool) (queue : List Found)
    (visited' : List Bool) (queue' : List Found) : Type 0 where
  pub is : IsSearch rows cap flow s visited' queue'
  pub grows : Grows visited queue visited' queue'
  pub reached : (i : ℕ) (d : Incidence) → i < j → i < length row
      → LeadsOn cap flow visited' (slice_index_or row i d)

-- the rows of the places before `head` do so
pub record IsUnderWay (rows : List (List Incidence)) (cap flow : List ℤ) (s head : ℕ)
    (visited : List Bool) (queue : List Found) : Type 0 where
  pub is : IsSearch rows cap flow s visited queue
  pub behind : head ≤ length queue
  pub spread : (k : ℕ) → k < head
      → LeadToVisited cap flow visited (row_at rows (found_at queue k).node)

-- all that can be visited from s is
pub record IsDone (rows : List (List Incidence)) (cap flow : List ℤ) (s : ℕ)
    (visited : List Bool) (queue : List Found) : Type 0 where
  pub is : IsSearch rows cap flow s visited queue
  pub spread : (v : ℕ) → is_visited visited v ≡ true
      → LeadToVisited cap flow visited (row_at rows v)
