-- Private: nodes that are found one after another along open arcs, and the marks of those that
-- were.
use Rattle.std.specs.Prelude.{◌≡◌, ℕ, ◌+◌, ◌<◌, ◌≤◌, ⊤, Bool, true, false, not, cond, List, [], ◌∷◌, ◌++◌, length, map, slice_set, slice_index_or}
use Rattle.std.specs.List.{Contains, count_by}
use Rattle.graph_defs.specs.declared.grouped.Incidence.{Incidence}
use Rattle.graph_defs.specs.declared.net.Net.{Net}
use Rattle.graph_defs.specs.declared.shortest.Why.{Why}
use Rattle.graph_defs.specs.declared.shortest.Why.TheVariants.{Seed, Arc}
use Rattle.graph_defs.specs.Count.{times}
use Rattle.graph_defs.specs.Net.{source, target}
use Rattle.sp_search.specs.declared.finding.Found.{Found}

-- what stands at a place of the queue
abbrev pub found_at : List Found → ℕ → Found
found_at queue k = slice_index_or queue k (record { node = 0; why = Seed 0; before = 0 })

abbrev pub found_nodes : List Found → List ℕ
found_nodes queue = map (λ (f : Found). f.node) queue

abbrev pub is_marked : List Bool → ℕ → Bool
is_marked marks v = slice_index_or marks v false

-- ---- one node

-- it is found for the first time
pub record IsAdded (queue : List Found) (marks : List Bool) (queue' : List Found)
    (marks' : List Bool) (f : Found) : Type 0 where
  pub first : is_marked marks f.node ≡ false
  pub queue_is : queue' ≡ queue ++ f ∷ []
  pub marks_is : marks' ≡ slice_set marks f.node true

-- it was found before
pub record IsKnown (queue : List Found) (marks : List Bool) (queue' : List Found)
    (marks' : List Bool) (f : Found) : Type 0 where
  pub again : is_marked marks f.node ≡ true
  pub queue_is : queue' ≡ queue
  pub marks_is : marks' ≡ marks

-- ---- the entries of one row

-- an entry leads to one of n nodes, by one of m arcs
pub record IsOpenable (n m : ℕ) (entry : Incidence) : Type 0 where
  pub inside : entry.end < n
  pub known : entry.number < m

-- what an entry finds from the place `head` of the queue
abbrev pub found_by : ℕ → Incidence → Found
found_by head entry = record { node = entry.end; why = Arc entry.number; before = head }

-- each node stands in the queue once if it is marked, and else not at all
abbrev pub StandOnce : List Found → List Bool → Type 0
StandOnce queue marks = (v : ℕ) → times v (found_nodes queue) ≡ cond (is_marked marks v) 1 0

-- the open ones among the first j entries of a row led to nodes that are marked now, and what is
-- new was found by them
pub record HasSpread (row : List Incidence) (opened : List Bool) (head j : ℕ) (queue : List Found)
    (marks : List Bool) (queue' : List Found) (marks' : List Bool) : Type 0 where
  pub long : length marks' ≡ length marks
  pub count : count_by not marks' + length queue' ≡ count_by not marks + length queue
  pub once : StandOnce queue marks → StandOnce queue' marks'
  pub longer : length queue ≤ length queue'
  pub same : (k : ℕ) → k < length queue → found_at queue' k ≡ found_at queue k
  pub kept : (v : ℕ) → is_marked marks v ≡ true → is_marked marks' v ≡ true
  pub made : (k : ℕ) → length queue ≤ k → k < length queue' → (entry : Incidence)
      × Contains row entry × (is_marked opened entry.number ≡ true)
      × (found_at queue' k ≡ found_by head entry)
  pub done : (i : ℕ) (d : Incidence) → i < j → i < length row
      → is_marked opened (slice_index_or row i d).number ≡ true
      → is_marked marks' (slice_index_or row i d).end ≡ true

-- ---- the whole queue

-- why a node stands at place k: the search began there, or an open arc leads there from the node of
-- a place before
abbrev pub IsFoundBy : Net → List Bool → List Found → ℕ → Found → Why → Type 0
IsFoundBy net opened queue k f (Seed i) = ⊤
IsFoundBy net opened queue k f (Arc arc) =
    (arc < length net.arcs) × (is_marked opened arc ≡ true) × (target net arc ≡ f.node)
    × (f.before < k) × (source net arc ≡ (found_at queue f.before).node)

-- the queue has just the marked nodes, each of them once, and says why
pub record IsFinding (net : Net) (opened : List Bool) (queue : List Found)
    (marks : List Bool) : Type 0 where
  pub long : length marks ≡ net.n
  pub count : count_by not marks + length queue ≡ net.n
  pub once : StandOnce queue marks
  pub why : (k : ℕ) → k < length queue
      → IsFoundBy net opened queue k (found_at queue k) (found_at queue k).why

-- it went on, and what is new was found by arcs
pub record HasGrown (queue : List Found) (marks : List Bool) (queue' : List Found)
    (marks' : List Bool) : Type 0 where
  pub longer : length queue ≤ length queue'
  pub same : (k : ℕ) → k < length queue → found_at queue' k ≡ found_at queue k
  pub kept : (v : ℕ) → is_marked marks v ≡ true → is_marked marks' v ≡ true
  pub arcs : (k : ℕ) → length queue ≤ k → k < length queue'
      → (arc : ℕ) × ((found_at queue' k).why ≡ Arc arc)

-- no open arc leaves the marked nodes
abbrev pub IsClosedAlong : Net → List Bool → List Bool → Type 0
IsClosedAlong net opened marks =
    (arc : ℕ) → arc < length net.arcs → is_marked opened arc ≡ true
    → is_marked marks (source net arc) ≡ true → is_marked marks (target net arc) ≡ true

-- the open arcs of the places before `head` lead to marked nodes
pub record IsUnderWay (net : Net) (opened : List Bool) (queue : List Found) (marks : List Bool)
    (head : ℕ) (queue' : List Found) (marks' : List Bool) : Type 0 where
  pub is : IsFinding net opened queue' marks'
  pub grown : HasGrown queue marks queue' marks'
  pub behind : head ≤ length queue'
  pub done : (k arc : ℕ) → k < head → arc < length net.arcs
      → source net arc ≡ (found_at queue' k).node → is_marked opened arc ≡ true
      → is_marked marks' (target net arc) ≡ true
