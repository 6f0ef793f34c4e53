-- Private: nodes by their slots, and how the raw links between them lie.
use Rattle.std.specs.Prelude.{◌≡◌, ◌≢◌, ℕ, ◌*◌, ◌/◌, ◌%◌, ◌<◌, ◌≤◌, get_or, length, List, [], Option, Some, None}
use denote.RawPtr.{Ptr, null_ptr}
use Rattle.item_ring.specs.declared.block.TheConstants.{BLOCK}
use Rattle.item_ring.specs.declared.block.Cell.{Cell}
use Rattle.item_ring.specs.declared.block.Node.{Node}
use Rattle.item_ring.specs.declared.block.State.{State}
use Rattle.item_ring.specs.declared.block.State.TheVariants.{Free, Loose, Linked}
use Rattle.item_ring.specs.declared.cells.Link.{Link}
use Rattle.item_ring.specs.NodeBlock.{NodeBlock, address_of}

-- the blocks, how many slots are in use, and how many there are
pub record Slots : Type 0 where
  pub blocks : List NodeBlock
  pub len : ℕ
  pub room : ℕ

abbrev pub no_block : NodeBlock
no_block = record { at = null_ptr; slots = [] }

-- the node in the slot, and where the slot lies
unfoldable pub node_at : List NodeBlock → ℕ → Option Node
node_at blocks s = get_or (get_or blocks (s / BLOCK) no_block).slots (s % BLOCK) None

unfoldable pub address : List NodeBlock → ℕ → Ptr
address blocks s = address_of (get_or blocks (s / BLOCK) no_block) (s % BLOCK)

abbrev pub blank : Cell
blank = record { next = 0; prev = 0; ring = 0; value = 0; state = Free }

abbrev pub cell_of : Option Node → Cell
cell_of None = blank
cell_of (Some n) = n.cell

unfoldable pub cell_at : Slots → ℕ → Cell
cell_at v s = cell_of (node_at v.blocks s)

abbrev pub next_of : Slots → ℕ → ℕ
next_of v s = (cell_at v s).next

abbrev pub prev_of : Slots → ℕ → ℕ
prev_of v s = (cell_at v s).prev

abbrev pub ring_of : Slots → ℕ → ℕ
ring_of v s = (cell_at v s).ring

abbrev pub value_of : Slots → ℕ → ℕ
value_of v s = (cell_at v s).value

abbrev pub state_of : Slots → ℕ → State
state_of v s = (cell_at v s).state

-- the raw link is the address of the slot, which is in use
pub record LeadsTo (v : Slots) (link : Link) (s : ℕ) : Type 0 where
  pub there : link.at ≡ address v.blocks s
  pub within : s < v.len

-- both links of the node lead to the slots that its cell names
pub record IsTied (v : Slots) (n : Node) : Type 0 where
  pub next : LeadsTo v n.next n.cell.next
  pub prev : LeadsTo v n.prev n.cell.prev

-- the slot holds a node that is tied
pub record HasNode (v : Slots) (s : ℕ) : Type 0 where
  pub node : Node
  pub is : node_at v.blocks s ≡ Some node
  pub tied : IsTied v node

-- the node is written to the slot, and nothing else changes
pub record Writes (v w : Slots) (s : ℕ) (n : Node) : Type 0 where
  pub len : w.len ≡ v.len
  pub room : w.room ≡ v.room
  pub here : node_at w.blocks s ≡ Some n
  pub elsewhere : (k : ℕ) → k ≢ s → node_at w.blocks k ≡ node_at v.blocks k
  pub stays : (k : ℕ) → address w.blocks k ≡ address v.blocks k

-- the cell is written to the slot, and no other cell changes
pub record Edits (v w : Slots) (s : ℕ) (c : Cell) : Type 0 where
  pub room : w.room ≡ v.room
  pub here : cell_at w s ≡ c
  pub elsewhere : (k : ℕ) → k ≢ s → cell_at w k ≡ cell_at v k

-- m, a member of the ring, stands behind the slot `here`, and nothing else changes
pub record Spliced (v w : Slots) (here m ring : ℕ) : Type 0 where
  pub len : w.len ≡ v.len
  pub room : w.room ≡ v.room
  pub next_here : next_of w here ≡ m
  pub next_new : next_of w m ≡ next_of v here
  pub next_else : (k : ℕ) → k ≢ here → k ≢ m → next_of w k ≡ next_of v k
  pub prev_new : prev_of w m ≡ here
  pub prev_ahead : prev_of w (next_of v here) ≡ m
  pub prev_else : (k : ℕ) → k ≢ m → k ≢ next_of v here → prev_of w k ≡ prev_of v k
  pub ring_new : ring_of w m ≡ ring
  pub ring_else : (k : ℕ) → k ≢ m → ring_of w k ≡ ring_of v k
  pub state_new : state_of w m ≡ Linked
  pub state_else : (k : ℕ) → k ≢ m → state_of w k ≡ state_of v k
  pub value_same : (k : ℕ) → value_of w k ≡ value_of v k

-- the neighbours of m are tied to each other, m is loose, and nothing else changes
pub record Unspliced (v w : Slots) (m : ℕ) : Type 0 where
  pub len : w.len ≡ v.len
  pub room : w.room ≡ v.room
  pub next_before : next_of w (prev_of v m) ≡ next_of v m
  pub next_else : (k : ℕ) → k ≢ prev_of v m → next_of w k ≡ next_of v k
  pub prev_ahead : prev_of w (next_of v m) ≡ prev_of v m
  pub prev_else : (k : ℕ) → k ≢ next_of v m → prev_of w k ≡ prev_of v k
  pub ring_same : (k : ℕ) → ring_of w k ≡ ring_of v k
  pub state_new : state_of w m ≡ Loose
  pub state_else : (k : ℕ) → k ≢ m → state_of w k ≡ state_of v k
  pub value_same : (k : ℕ) → value_of w k ≡ value_of v k

pub record AreNodes (v : Slots) : Type 0 where
  pub long : (i : ℕ) → i < length v.blocks → length (get_or v.blocks i no_block).slots ≡ BLOCK
  pub sized : v.room ≡ BLOCK * length v.blocks
  pub within : v.len ≤ v.room
  pub filled : (s : ℕ) → s < v.len → HasNode v s
  pub beyond : (s : ℕ) → v.len ≤ s → node_at v.blocks s ≡ None
