-- Private: what the steps of an edit of the whole graph leave of the cells.
use Rattle.std.specs.Prelude.{◌≡◌, ℕ, Bool, false, cond, List, map, Option, Some, None, option_map}
use Rattle.std.specs.FinMap as fin
use Rattle.item_pool.specs.Contents.{Contents, HasLive}
use Rattle.graph_state.specs.declared.name.ListName.{ListName}
use Rattle.graph_state.specs.declared.name.ListName.TheVariants.{Nodes, Edges}
use Rattle.graph_state.specs.declared.name.Element.{Element}
use Rattle.graph_state.specs.Names.{Has, IsOnce, number}
use Rattle.graph_lists.specs.Named.{Lists, list_at}
use Rattle.graph_lists.specs.Heads.{IsHeadOf}
use Rattle.graph_core.specs.declared.cell.Heads.{Heads}
use Rattle.graph_core.specs.declared.cell.NodeCell.{NodeCell}
use Rattle.graph_core.specs.declared.cell.EdgeCell.{EdgeCell}

-- in a directed graph the two lists of a node change roles
abbrev pub node_turned : Bool → NodeCell → NodeCell
node_turned directed c = record c {
  outs = cond directed c.ins c.outs;
  ins = cond directed c.outs c.ins;
}

-- an edge changes its ends, and its darts their names
abbrev pub edge_turned : EdgeCell → EdgeCell
edge_turned c = record c { from = c.to; to = c.from; front = c.back; back = c.front }

module _ {X : Type 0} where
  -- the members of the ring are those of a list, in which each value of the pool stands once
  pub record Fills (t : Lists) (p : Contents X) (l : ListName) (g : ℕ) : Type 0 where
    pub head : IsHeadOf t.named false l g
    pub live : (x : Element) → Has x (list_at t.named l) → HasLive p (number x)
    pub once : IsOnce (map number (list_at t.named l))
    pub all : (k : ℕ) → (Has k (map number (list_at t.named l)) → ⊥) → fin.get p.live k ≡ None

  -- every value of the pool is changed by f
  pub record Changes (f : X → X) (p q : Contents X) : Type 0 where
    pub live : (k : ℕ) → fin.get q.live k ≡ option_map f (fin.get p.live k)
    pub count : fin.len q.live ≡ fin.len p.live
    pub made : q.made ≡ p.made

  -- those of some numbers are
  pub record ChangesAt (f : X → X) (ks : List ℕ) (p q : Contents X) : Type 0 where
    pub here : (k : ℕ) → Has k ks → fin.get q.live k ≡ option_map f (fin.get p.live k)
    pub else : (k : ℕ) → (Has k ks → ⊥) → fin.get q.live k ≡ fin.get p.live k
    pub count : fin.len q.live ≡ fin.len p.live
    pub made : q.made ≡ p.made

-- the node list has the cells of the nodes, and the edge list those of the edges
pub record HasCells (t : Lists) (top : Option Heads) (p : Contents NodeCell)
    (q : Contents EdgeCell) : Type 0 where
  pub nodes : (h : Heads) → top ≡ Some h → Fills t p Nodes h.nodes.full
  pub edges : (h : Heads) → top ≡ Some h → Fills t q Edges h.edges.full
  pub no_nodes : top ≡ None → (k : ℕ) → fin.get p.live k ≡ None
  pub no_edges : top ≡ None → (k : ℕ) → fin.get q.live k ≡ None
