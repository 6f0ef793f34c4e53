-- Private: the heap of a search, which has an entry for each label.
use Rattle.std.specs.Prelude.{◌≡◌, ℕ, ◌<◌, ℤ, List, length, All}
use Rattle.std.specs.List.{Contains}
use Rattle.std.specs.BinaryHeap.{IsHeap}
use Rattle.std.specs.declared.cmp.Ordering.{Ordering}
use Rattle.std.specs.Ordering.{int_cmp, nat_cmp, on, flip_args, then_cmp}
use Rattle.sp_search.specs.declared.labels.Label.{Label}
use Rattle.sp_search.specs.declared.labels.Label.TheVariants.{Queued}
use Rattle.sp_search.specs.declared.labels.Least.{Least}
use Rattle.sp_search.specs.Labels.{label_at}

-- the order of a heap, in which the least label is the greatest entry
abbrev pub least_cmp : Least → Least → Ordering
least_cmp = then_cmp (flip_args (on (λ (x : Least). x.dist) int_cmp))
    (on (λ (x : Least). x.node) nat_cmp)

-- each label stands in the heap, with its node; what else stands there are nodes too
pub record AreWaiting (items : List Least) (labels : List Label) : Type 0 where
  pub order : IsHeap least_cmp items
  pub known : All (λ (x : Least). x.node < length labels) items
  pub has : (v : ℕ) (e : ℤ) → label_at labels v ≡ Queued e
      → Contains items (record { node = v; dist = e })
