-- Private: the members of darts.
use Rattle.std.specs.Prelude.{◌≡◌, ℕ, Bool, List, ◌++◌, map, length, Option, Some, None}
use Rattle.item_pool.specs.Contents.{Contents, HasLive}
use Rattle.graph_state.specs.declared.name.ListName.{ListName}
use Rattle.graph_state.specs.declared.name.Element.{Element}
use Rattle.graph_state.specs.Names.{Has, number, first_of}
use Rattle.graph_lists.specs.Named.{Lists, Named, seen_list}
use Rattle.graph_lists.specs.Heads.{IsHeadOf, IsMemberOf, Finds}
use Rattle.graph_core.specs.declared.cell.EdgeCell.{EdgeCell}

-- the member is that of an element that has a value in the pool
abbrev pub HasValue : {X : Type 0} → Lists → Contents X → ℕ → Type 0
HasValue t q m = (b : Bool) × ((x : Element) × (IsMemberOf t.named b x m × HasLive q (number x)))

-- so is each member of the ring
abbrev pub HaveValues : {X : Type 0} → Lists → Contents X → ℕ → Type 0
HaveValues t q g = (b : Bool)
    × ((l : ListName) × (IsHeadOf t.named b l g
    × ((x : Element) → Has x (seen_list t.named b l) → HasLive q (number x))))

-- the member is that of an edge that is there, or of an end of one
abbrev pub HasEdge : Lists → Contents EdgeCell → ℕ → Type 0
HasEdge t q m = HasValue t q m

abbrev pub MayHaveEdge : Lists → Contents EdgeCell → Option ℕ → Type 0
MayHaveEdge t q None = Unit {0}
MayHaveEdge t q (Some m) = HasEdge t q m

-- a walk along a ring: the elements taken, whose values are in the row, those that are left, and
-- the member of the first of these
pub record Walks {I V : Type 0} (value : I → V) (of : Element → V) (v : Named) (b : Bool)
    (xs : List Element) (row : List I) (count : ℕ) (at : Option ℕ) : Type 0 where
  pub taken : List Element
  pub rest : List Element
  pub is : xs ≡ taken ++ rest
  pub values : map value row ≡ map of taken
  pub counted : length taken ≡ count
  pub finds : Finds v b at (first_of rest)
