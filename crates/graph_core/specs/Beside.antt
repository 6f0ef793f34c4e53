-- Private: what the steps of a new edge next to another one leave of pools and lists.
use Rattle.std.specs.Prelude.{◌≡◌, ℕ, ◌+◌, ◌<◌, true, List, Some}
use Rattle.std.specs.FinMap as map
use Rattle.item_pool.specs.Contents.{Contents}
use Rattle.item_pool.specs.declared.pool.Item.{Item}
use Rattle.graph_state.specs.declared.kind.Side.{Side}
use Rattle.graph_state.specs.declared.name.ListName.{ListName}
use Rattle.graph_state.specs.declared.name.ListName.TheVariants.{Edges}
use Rattle.graph_state.specs.declared.name.Element.{Element}
use Rattle.graph_state.specs.declared.name.Element.TheVariants.{Edge, End}
use Rattle.graph_state.specs.State.{front, back}
use Rattle.graph_state.specs.Names.{Has}
use Rattle.graph_lists.specs.declared.token.Hook.{Hook}
use Rattle.graph_lists.specs.Named.{Lists, hook_at, list_at, shows_at, pushed, put_beside, SameRoom}
use Rattle.graph_core.specs.declared.cell.EdgeCell.{EdgeCell}
use Rattle.graph_core.specs.Steps.{with_hooks, InsertsEdge}

-- the front dart of e shows, and its hook is in the cell of e
pub record CanStandBeside (t : Lists) (q : Contents EdgeCell) (e : ℕ) : Type 0 where
  pub cell : EdgeCell
  pub live : map.get q.live e ≡ Some cell
  pub hook : hook_at t.named (End (front e)) ≡ Some cell.front
  pub list : ListName
  pub there : Has (End (front e)) (list_at t.named list)
  pub shows : shows_at t.named (End (front e)) ≡ true

-- x stands nowhere, and can go next to it
pub record CanPutFront (t : Lists) (q : Contents EdgeCell) (e : ℕ) (x : Element) (w : Hook)
    : Type 0 where
  pub beside : CanStandBeside t q e
  pub hook : hook_at t.named x ≡ Some w
  pub loose : Has x t.named.loose
  pub shows : shows_at t.named x ≡ true

pub record PutsFront (t u : Lists) (side : Side) (e : ℕ) (x : Element) : Type 0 where
  pub named : u.named ≡ put_beside side (End (front e)) x t.named
  pub room : SameRoom t u

-- e is an old edge, next to which the new one can stand
pub record CanEnterBeside (t : Lists) (q : Contents EdgeCell) (e : ℕ) : Type 0 where
  pub old : e < q.made + 1
  pub beside : CanStandBeside t q e

-- an edge comes, with its front dart next to that of e, and its back dart at the rear of a list
pub record EntersBeside (t u : Lists) (p q : Contents EdgeCell) (side : Side) (e : ℕ)
    (row : ListName) (v w : ℕ) (label : List ℕ) (it : Item) : Type 0 where
  pub edge : Hook
  pub first : Hook
  pub second : Hook
  pub named : u.named ≡ pushed row (End (back (p.made + 1)))
      (put_beside side (End (front e)) (End (front (p.made + 1)))
      (pushed Edges (Edge (p.made + 1)) (with_hooks (p.made + 1) edge first second t.named)))
  pub heads : u.heads ≡ t.heads
  pub members : u.members ≡ t.members + 6
  pub inserts : InsertsEdge p q v w label edge first second it
