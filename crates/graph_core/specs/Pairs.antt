-- Private: what pairing edges, and unpairing them, leaves of their cells.
use Rattle.std.specs.Prelude.{◌≡◌, ℕ, Option, Some, None, option_map}
use Rattle.std.specs.Ordering.{nat_cmp}
use Rattle.std.specs.FinMap as map
use Rattle.item_pool.specs.Contents.{Contents, HasLive}
use Rattle.graph_state.specs.Edits.{unpaired_at}
use Rattle.graph_core.specs.declared.cell.EdgeCell.{EdgeCell}

-- edges by their numbers, each with its reversal
abbrev pub Reversals : Type 0
Reversals = map.FinMap nat_cmp ℕ

-- the map has the reversal of each cell
abbrev pub HasReversals : Contents EdgeCell → Reversals → Type 0
HasReversals p r = (i : ℕ) (c : EdgeCell) → map.get p.live i ≡ Some c → map.get r i ≡ c.reversal

-- each cell has the reversal that the map gives, and is otherwise as before
pub record Rewires (p q : Contents EdgeCell) (r : Reversals) : Type 0 where
  pub cells : (i : ℕ) → map.get q.live i
      ≡ option_map (λ (c : EdgeCell). record c { reversal = map.get r i }) (map.get p.live i)
  pub count : map.len q.live ≡ map.len p.live
  pub made : q.made ≡ p.made

-- the reversals with another one of e
abbrev pub reversal_put : ℕ → Option ℕ → Reversals → Reversals
reversal_put e None r = map.remove r e
reversal_put e (Some f) r = map.insert r e f

-- the cell of e has the reversal o
abbrev pub PutsReversal : Contents EdgeCell → Contents EdgeCell → ℕ → Option ℕ → Type 0
PutsReversal p q e o = (r : Reversals) → HasReversals p r → Rewires p q (reversal_put e o r)

-- e and its reversal, where it has one, lose each other
abbrev pub Unpairs : Contents EdgeCell → Contents EdgeCell → ℕ → Type 0
Unpairs p q e = (r : Reversals) → HasReversals p r → Rewires p q (unpaired_at e (map.get r e) r)

-- e has a cell, and so has every reversal
pub record CanUnpair (p : Contents EdgeCell) (e : ℕ) : Type 0 where
  pub live : HasLive p e
  pub reversals : Reversals
  pub has : HasReversals p reversals
  pub partners : (i f : ℕ) → map.get reversals i ≡ Some f → HasLive p f

-- the reversals where e and f are each other's, and former partners have none
abbrev pub pair_reversals : ℕ → ℕ → Reversals → Reversals
pair_reversals e f r =
    let t = unpaired_at e (map.get r e) r in
    let u = unpaired_at f (map.get t f) t in
    map.insert (map.insert u e f) f e

abbrev pub Pairs : Contents EdgeCell → Contents EdgeCell → ℕ → ℕ → Type 0
Pairs p q e f = (r : Reversals) → HasReversals p r → Rewires p q (pair_reversals e f r)
