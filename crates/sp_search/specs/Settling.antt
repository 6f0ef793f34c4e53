-- Private: what a search for shortest paths keeps of the nodes that it has settled, in their order,
-- and of those that it has labelled.
use Rattle.std.specs.Prelude.{◌≡◌, ◌⊎◌, ℕ, ◌-◌, ◌<◌, ℤ, pos, ◌+ℤ◌, ◌≤ℤ◌, cond, List, length, map, slice_index_or, Some, None}
use Rattle.std.specs.List.{All, Contains, count_by}
use Rattle.graph_defs.specs.declared.grouped.Incidence.{Incidence}
use Rattle.graph_defs.specs.declared.net.Net.{Net}
use Rattle.graph_defs.specs.declared.shortest.Finite.{Finite}
use Rattle.graph_defs.specs.Count.{times}
use Rattle.graph_defs.specs.Net.{IsValid, source, target}
use Rattle.graph_defs.specs.Sum.{sum_below, at, when}
use Rattle.sp_search.specs.declared.labels.Label.{Label}
use Rattle.sp_search.specs.declared.labels.Label.TheVariants.{Queued}
use Rattle.sp_search.specs.Labels.{label_at, is_taken, is_free, IsWithin}

-- ---- the entries of one row

-- the weight of a walk to a node of distance dist, and on along the arc of an entry
abbrev pub along : List ℤ → ℤ → Incidence → ℤ
along cost dist entry = dist +ℤ at cost entry.number

-- an entry leads to one of n nodes, its arc has a cost, and the sum fits into 64 bits
pub record IsPassable (n : ℕ) (cost : List ℤ) (dist : ℤ) (entry : Incidence) : Type 0 where
  pub inside : entry.end < n
  pub known : entry.number < length cost
  pub low : pos 0 ≤ℤ along cost dist entry
  pub high : along cost dist entry ≤ℤ pos 4611686018427387903

-- a label came to a node by an entry of the row, or stood there before
pub record CameBy (row : List Incidence) (cost : List ℤ) (dist : ℤ) (preds : List ℕ) (v : ℕ)
    (e : ℤ) (entry : Incidence) : Type 0 where
  pub among : Contains row entry
  pub end_is : entry.end ≡ v
  pub pred_is : slice_index_or preds v 0 ≡ entry.number
  pub label_is : e ≡ along cost dist entry

pub record StoodThere (labels : List Label) (preds preds' : List ℕ) (v : ℕ) (e : ℤ) : Type 0 where
  pub label_is : label_at labels v ≡ Queued e
  pub pred_is : slice_index_or preds' v 0 ≡ slice_index_or preds v 0

-- the labels fell along the first j entries of a row
pub record HaveFallen (row : List Incidence) (cost : List ℤ) (dist : ℤ) (j : ℕ)
    (labels : List Label) (preds : List ℕ) (labels' : List Label)
    (preds' : List ℕ) : Type 0 where
  pub long : length labels' ≡ length labels
  pub preds_long : length preds' ≡ length preds
  pub free : count_by is_free labels' ≡ count_by is_free labels
  pub taken : (v : ℕ) → is_taken (label_at labels' v) ≡ is_taken (label_at labels v)
  pub kept : (v : ℕ) (e : ℤ) → label_at labels v ≡ Queued e → IsWithin labels' v e
  pub made : (v : ℕ) (e : ℤ) → label_at labels' v ≡ Queued e
      → StoodThere labels preds preds' v e
      ⊎ ((entry : Incidence) × CameBy row cost dist preds' v e entry)
  pub done : (i : ℕ) (d : Incidence) → i < j → i < length row
      → IsWithin labels' (slice_index_or row i d).end (along cost dist (slice_index_or row i d))

-- ---- the settled nodes

abbrev pub settled_at : List Finite → ℕ → Finite
settled_at settled k = slice_index_or settled k (record { node = 0; dist = pos 0; pred = None })

abbrev pub last : List Finite → Finite
last settled = settled_at settled (length settled - 1)

abbrev pub nodes_of : List Finite → List ℕ
nodes_of settled = map (λ (f : Finite). f.node) settled

-- the source comes first
pub record BeginsWith (s : ℕ) (settled : List Finite) : Type 0 where
  pub some : 0 < length settled
  pub node : (settled_at settled 0).node ≡ s
  pub dist : (settled_at settled 0).dist ≡ pos 0
  pub pred : (settled_at settled 0).pred ≡ None

-- an arc from the node at a place j before k leads to v, and makes up the difference to its
-- distance
pub record IsReachedBy (net : Net) (cost : List ℤ) (settled : List Finite) (k v : ℕ) (dist : ℤ)
    (arc j : ℕ) : Type 0 where
  pub known : arc < length net.arcs
  pub to : target net arc ≡ v
  pub from : source net arc ≡ (settled_at settled j).node
  pub before : j < k
  pub dist_is : dist ≡ ((settled_at settled j).dist +ℤ at cost arc)

-- the sum of the costs of the arcs that leave the nodes that were taken out
abbrev pub spent : Net → List ℤ → List Label → ℤ
spent net cost labels =
    sum_below (λ arc. when (is_taken (label_at labels (source net arc))) (at cost arc))
    (length net.arcs)

-- node w is settled with at most z, or has a label of at most z
abbrev pub IsCovered : List Finite → List Label → ℕ → ℤ → Type 0
IsCovered settled labels w z =
    ((k : ℕ) × (k < length settled) × ((settled_at settled k).node ≡ w)
    × ((settled_at settled k).dist ≤ℤ z))
    ⊎ ((e : ℤ) × (label_at labels w ≡ Queued e) × (e ≤ℤ z))

-- the arcs that leave the first k settled nodes lead to covered ones
abbrev pub HaveSpread : Net → List ℤ → List Finite → List Label → ℕ → Type 0
HaveSpread net cost settled labels k =
    (j arc : ℕ) → j < k → arc < length net.arcs
    → source net arc ≡ (settled_at settled j).node
    → IsCovered settled labels (target net arc) ((settled_at settled j).dist +ℤ at cost arc)

-- settled are the nodes that were taken out, each once and by a tight arc from one before it; each
-- label was made by an arc from a settled node, and is no less than their distances
pub record IsSettling (net : Net) (s : ℕ) (cost : List ℤ) (settled : List Finite)
    (labels : List Label) (preds : List ℕ) : Type 0 where
  pub long : length labels ≡ net.n
  pub preds_long : length preds ≡ net.n
  pub first : BeginsWith s settled
  pub once : (v : ℕ) → times v (nodes_of settled) ≡ cond (is_taken (label_at labels v)) 1 0
  pub below : (j : ℕ) → j < length settled
      → (settled_at settled j).dist ≤ℤ (last settled).dist
  pub above : (v : ℕ) (e : ℤ) → label_at labels v ≡ Queued e → (last settled).dist ≤ℤ e
  pub tight : (k : ℕ) → 0 < k → k < length settled → (arc j : ℕ)
      × ((settled_at settled k).pred ≡ Some arc)
      × IsReachedBy net cost settled k (settled_at settled k).node (settled_at settled k).dist arc j
  pub reached : (v : ℕ) (e : ℤ) → label_at labels v ≡ Queued e → (j : ℕ)
      × IsReachedBy net cost settled (length settled) v e (slice_index_or preds v 0) j
  pub room : (arc : ℕ) → arc < length net.arcs → source net arc ≡ (last settled).node
      → ((last settled).dist +ℤ at cost arc) ≤ℤ spent net cost labels
  pub fits : (v : ℕ) (e : ℤ) → label_at labels v ≡ Queued e → e ≤ℤ spent net cost labels

-- what the search is asked: costs of at least 0, whose sum is small enough
pub record IsCosted (net : Net) (cost : List ℤ) : Type 0 where
  pub valid : IsValid net
  pub long : length cost ≡ length net.arcs
  pub low : All (λ c. pos 0 ≤ℤ c) cost
  pub sum : sum_below (at cost) (length net.arcs) ≤ℤ pos 4611686018427387903

-- the search is at its end
pub record IsSettled (net : Net) (s : ℕ) (cost : List ℤ) (settled : List Finite)
    (labels : List Label) (preds : List ℕ) : Type 0 where
  pub is : IsSettling net s cost settled labels preds
  pub spread : HaveSpread net cost settled labels (length settled)
  pub none : (v : ℕ) (e : ℤ) → label_at labels v ≡ Queued e → ⊥
