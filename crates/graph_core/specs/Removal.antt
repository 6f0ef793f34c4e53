-- Private: what the steps of taking an edge or a node out leave of the lists.
use Rattle.std.specs.Prelude.{◌≡◌, ℕ, ◌+◌, Bool, true, false, not, [], filter, Some, None}
use Rattle.graph_state.specs.declared.name.ListName.{ListName}
use Rattle.graph_state.specs.declared.name.ListName.TheVariants.{Nodes, Out, In}
use Rattle.graph_state.specs.declared.name.Element.{Element}
use Rattle.graph_state.specs.declared.name.Element.TheVariants.{Node}
use Rattle.graph_state.specs.State.{GraphState}
use Rattle.graph_state.specs.Names.{Has, number, same_element}
use Rattle.graph_state.specs.Edits.{has_end}
use Rattle.graph_lists.specs.Named.{Lists, Named, head_at, hook_at, list_at, unlisted}
use Rattle.graph_lists.specs.Heads.{IsMemberOf}
use Rattle.graph_core.specs.declared.cell.NodeCell.{NodeCell}

-- whether the other one is x
abbrev pub is_it : Element → Element → Bool
is_it x y = same_element y x

-- the elements of which the test is true leave their lists, and are gone, with so many members
pub record Drops (t u : Lists) (p : Element → Bool) (members : ℕ) : Type 0 where
  pub heads : u.named.heads ≡ t.named.heads
  pub lists : (l : ListName) → list_at u.named l ≡ filter (λ x. not (p x)) (list_at t.named l)
  pub gone : (x : Element) → p x ≡ true → hook_at u.named x ≡ None
  pub hooks : (x : Element) → p x ≡ false → hook_at u.named x ≡ hook_at t.named x
  pub shown : u.named.shown ≡ t.named.shown
  pub loose : u.named.loose ≡ filter (λ x. not (p x)) t.named.loose
  pub same : u.heads ≡ t.heads
  pub fewer : u.members + members ≡ t.members

-- the cell has the hooks of the node and of its lists, in which nothing stands
pub record HasNodeParts (n : Named) (v : ℕ) (c : NodeCell) : Type 0 where
  pub hook : hook_at n (Node v) ≡ Some c.hook
  pub there : Has (Node v) (list_at n Nodes)
  pub outs : head_at n (Out v) ≡ Some c.outs
  pub ins : head_at n (In v) ≡ Some c.ins
  pub no_outs : list_at n (Out v) ≡ []
  pub no_ins : list_at n (In v) ≡ []

-- the node leaves the node list, and is gone with its lists
pub record DropsNode (t u : Lists) (v : ℕ) : Type 0 where
  pub mid : Lists
  pub drops : Drops t mid (is_it (Node v)) 2
  pub named : u.named ≡ unlisted (In v) (unlisted (Out v) mid.named)
  pub heads : u.heads + 4 ≡ mid.heads
  pub members : u.members ≡ mid.members

-- the member is that of an end of an edge that has an end at v
abbrev pub IsEndAt : GraphState → Named → ℕ → ℕ → Type 0
IsEndAt s n v m = (x : Element)
    × (IsMemberOf n false x m × (Has (number x) s.edges × (has_end s v (number x) ≡ true)))
