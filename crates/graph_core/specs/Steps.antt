-- Private: what the steps of an edit leave of pools and lists.
use Rattle.std.specs.Prelude.{◌≡◌, ℕ, ◌+◌, ◌<◌, ◌≤◌, false, List, Option, Some, None}
use Rattle.item_ring.specs.declared.rings.TheConstants.{MOST_NODES}
use Rattle.item_pool.specs.declared.pool.TheConstants.{MOST_SERIALS}
use Rattle.item_pool.specs.Contents.{Contents, Inserts}
use Rattle.item_pool.specs.declared.pool.Item.{Item}
use Rattle.graph_state.specs.declared.name.ListName.{ListName}
use Rattle.graph_state.specs.declared.name.ListName.TheVariants.{Nodes, Edges, Out, In}
use Rattle.graph_state.specs.declared.name.Element.TheVariants.{Node, Edge, End}
use Rattle.graph_state.specs.State.{front, back}
use Rattle.graph_lists.specs.declared.token.ListHead.{ListHead}
use Rattle.graph_lists.specs.declared.token.Hook.{Hook}
use Rattle.graph_lists.specs.Named.{Lists, Named, head_at, hook_at, listed, hooked, pushed}
use Rattle.graph_core.specs.declared.cell.Heads.{Heads}
use Rattle.graph_core.specs.declared.cell.NodeCell.{NodeCell}
use Rattle.graph_core.specs.declared.cell.EdgeCell.{EdgeCell}

-- the node list and the edge list aren't there
abbrev pub IsClosed : Lists → Type 0
IsClosed t = (head_at t.named Nodes ≡ None) × (head_at t.named Edges ≡ None)

-- they are made
pub record Comes (t u : Lists) (after : Option Heads) : Type 0 where
  pub nodes : ListHead
  pub edges : ListHead
  pub heads : after ≡ Some (record { nodes = nodes; edges = edges })
  pub named : u.named ≡ listed Edges edges (listed Nodes nodes t.named)
  pub more : u.heads ≡ t.heads + 4
  pub spare : u.spare_heads + 4 ≡ t.spare_heads
  pub members : (u.members ≡ t.members) × (u.spare_members ≡ t.spare_members)

-- from here on they are there
abbrev pub Opens : Lists → Lists → Option Heads → Option Heads → Type 0
Opens t u None after = Comes t u after
Opens t u (Some h) after = (u ≡ t) × (after ≡ Some h)

-- there is room for a node, whose lists and hook aren't there yet
pub record CanEnterNode (t : Lists) (p : Contents NodeCell) (head : ListHead) : Type 0 where
  pub heads : (4 ≤ t.spare_heads) × (t.heads + 4 ≤ MOST_NODES)
  pub members : (2 ≤ t.spare_members) × (t.members + 2 ≤ MOST_NODES)
  pub pool : (0 < p.spare) × (p.made < MOST_SERIALS)
  pub no_outs : head_at t.named (Out (p.made + 1)) ≡ None
  pub no_ins : head_at t.named (In (p.made + 1)) ≡ None
  pub no_hook : hook_at t.named (Node (p.made + 1)) ≡ None
  pub nodes : head_at t.named Nodes ≡ Some head

pub record EntersNode (t u : Lists) (p q : Contents NodeCell) (head : ListHead) (label : List ℕ)
    (it : Item) : Type 0 where
  pub outs : ListHead
  pub ins : ListHead
  pub hook : Hook
  pub named : u.named ≡ pushed Nodes (Node (p.made + 1))
      (hooked (Node (p.made + 1)) hook
      (listed (In (p.made + 1)) ins (listed (Out (p.made + 1)) outs t.named)))
  pub heads : u.heads ≡ t.heads + 4
  pub members : u.members ≡ t.members + 2
  pub inserts : Inserts p q it (record {
    label = label;
    is_hidden = false;
    hook = hook;
    outs = outs;
    ins = ins;
  })

-- there is room for an edge, whose three hooks aren't there yet
pub record CanEnterEdge (t : Lists) (q : Contents EdgeCell) : Type 0 where
  pub members : (6 ≤ t.spare_members) × (t.members + 6 ≤ MOST_NODES)
  pub pool : (0 < q.spare) × (q.made < MOST_SERIALS)
  pub no_hook : hook_at t.named (Edge (q.made + 1)) ≡ None
  pub no_front : hook_at t.named (End (front (q.made + 1))) ≡ None
  pub no_back : hook_at t.named (End (back (q.made + 1))) ≡ None

-- the three hooks are there
abbrev pub with_hooks : ℕ → Hook → Hook → Hook → Named → Named
with_hooks k edge f b n =
    hooked (End (back k)) b (hooked (End (front k)) f (hooked (Edge k) edge n))

-- the next number has a cell
abbrev pub InsertsEdge : Contents EdgeCell → Contents EdgeCell → ℕ → ℕ → List ℕ → Hook → Hook
    → Hook → Item → Type 0
InsertsEdge p q v w label edge f b it =
    Inserts p q it (record {
      label = label;
      from = v;
      to = w;
      reversal = None;
      is_hidden = false;
      hook = edge;
      front = f;
      back = b;
    })

-- an edge comes, with its darts at the rear of the lists
pub record EntersEdge (t u : Lists) (p q : Contents EdgeCell) (row : ListName) (v w : ℕ)
    (label : List ℕ) (it : Item) : Type 0 where
  pub edge : Hook
  pub first : Hook
  pub second : Hook
  pub named : u.named ≡ pushed row (End (back (p.made + 1)))
      (pushed (Out v) (End (front (p.made + 1)))
      (pushed Edges (Edge (p.made + 1)) (with_hooks (p.made + 1) edge first second t.named)))
  pub heads : u.heads ≡ t.heads
  pub members : u.members ≡ t.members + 6
  pub inserts : InsertsEdge p q v w label edge first second it
