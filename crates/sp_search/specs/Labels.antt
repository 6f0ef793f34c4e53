-- Private: the labels of nodes in a search, one that falls, and the least, which is taken out.
use Rattle.std.specs.Prelude.{◌≡◌, ◌⊎◌, ℕ, ℤ, pos, ◌≤ℤ◌, Bool, true, false, not, List, replicate, slice_set, slice_index_or, length, Option, Some, None}
use Rattle.std.specs.List.{filter, range_with_len}
use Rattle.sp_search.specs.declared.labels.Label.{Label}
use Rattle.sp_search.specs.declared.labels.Label.TheVariants.{Unseen, Queued, Taken}
use Rattle.sp_search.specs.declared.labels.Least.{Least}

-- the label of a node
abbrev pub label_at : List Label → ℕ → Label
label_at labels v = slice_index_or labels v Unseen

abbrev pub is_taken : Label → Bool
is_taken Unseen = false
is_taken (Queued dist) = false
is_taken Taken = true

abbrev pub is_free : Label → Bool
is_free label = not (is_taken label)

-- the nodes that weren't taken out, in the order of the nodes
abbrev pub free_nodes : List Label → List ℕ
free_nodes labels = filter (λ v. is_free (label_at labels v)) (range_with_len 0 (length labels))

-- n labels, of which only the source was taken out
abbrev pub first_labels : ℕ → ℕ → List Label
first_labels n s = slice_set (replicate n Unseen) s Taken

-- the label of the node is at most dist, or was taken out
abbrev pub IsWithin : List Label → ℕ → ℤ → Type 0
IsWithin labels node dist = (label_at labels node ≡ Taken)
    ⊎ ((e : ℤ) × (label_at labels node ≡ Queued e) × (e ≤ℤ dist))

-- the label of the node falls to dist
pub record IsLowered (old new : List Label) (node : ℕ) (dist : ℤ) : Type 0 where
  pub is : new ≡ slice_set old node (Queued dist)
  pub free : label_at old node ≡ Taken → ⊥
  pub above : (e : ℤ) → label_at old node ≡ Queued e → dist ≤ℤ e

-- it can't
pub record IsKept (old new : List Label) (node : ℕ) (dist : ℤ) : Type 0 where
  pub is : new ≡ old
  pub within : IsWithin old node dist

-- no label is less
pub record IsLeast (labels : List Label) (least : Least) : Type 0 where
  pub here : label_at labels least.node ≡ Queued least.dist
  pub least_of : (v : ℕ) (e : ℤ) → label_at labels v ≡ Queued e → least.dist ≤ℤ e

-- labels are at least 0, and fit into 64 bits
abbrev pub AreSmall : List Label → Type 0
AreSmall labels = (v : ℕ) (e : ℤ) → label_at labels v ≡ Queued e
    → (pos 0 ≤ℤ e) × (e ≤ℤ pos 4611686018427387903)

-- no label is left
abbrev pub AreTaken : List Label → Type 0
AreTaken labels = (v : ℕ) (e : ℤ) → label_at labels v ≡ Queued e → ⊥

-- the least label is taken out, if there is one
abbrev pub TakesLeast : List Label → List Label → Option Least → Type 0
TakesLeast old new None = (new ≡ old) × AreTaken old
TakesLeast old new (Some least) = (new ≡ slice_set old least.node Taken) × IsLeast old least
