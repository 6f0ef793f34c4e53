-- What is asked of a session: how an item stands, which objects there are, its net with its names.
use Rattle.std.specs.Prelude.{◌≡◌, ℕ, Bool, true, ◌==◌, ◌&&◌, nat_lt, nat_le, if◌then◌else◌, List, slice_get, Some}
use Rattle.std.specs.List.{list_any}
use Rattle.leda_base.specs.declared.ItemName.{ItemName}
use Rattle.leda_base.specs.declared.ItemName.TheVariants as items
use Rattle.graph_defs.specs.declared.net.Net.{Net}
use Rattle.graph_state.specs.State.{shows_node, shows_edge}
use Rattle.hide_restore.specs.Net.{shown_net, node_numbers, edge_numbers}
use Rattle.object_store.specs.Views as objects
use Rattle.object_store.specs.Views.{is_live}
use Rattle.script_text.specs.declared.form.Kinds.{Kinds}
use Rattle.console_state.specs.declared.order.Standing.{Standing}
use Rattle.console_state.specs.declared.order.Standing.TheVariants.{Unknown, Dead, Hidden, Visible}
use Rattle.console_state.specs.State.{State}

-- the number is in the list
abbrev pub is_listed : ℕ → List ℕ → Bool
is_listed number numbers = list_any (λ k. k == number) numbers

-- the number is one of so many that were given
abbrev pub is_given : ℕ → ℕ → Bool
is_given made number = nat_lt 0 number && nat_le number made

-- how an item stands: it is there, and shows or doesn't; or it was there; or it never was
abbrev pub stands : Bool → Bool → Bool → Standing
stands listed shows given =
    if listed then (if shows then Visible else Hidden) else (if given then Dead else Unknown)

-- how an item stands; an item of a container is never hidden
abbrev pub standing : State → ItemName → Standing
standing s (items.Node v) =
    stands (is_listed v s.graph.nodes) (shows_node s.graph v) (is_given s.graph.made_nodes v)
standing s (items.Edge e) =
    stands (is_listed e s.graph.edges) (shows_edge s.graph e) (is_given s.graph.made_edges e)
standing s (items.Cell i) = stands (is_live s.objects i) true (is_given s.objects.made i)

-- an object of these kinds has the name
abbrev pub has_object : State → Kinds → List ℕ → Bool
has_object s kinds name = objects.has_object s.objects kinds name

-- the item is one of a container of these kinds
abbrev pub holds_cell : State → Kinds → ℕ → Bool
holds_cell s kinds i = objects.holds_cell s.objects kinds i

-- the graph is directed
abbrev pub is_directed : State → Bool
is_directed s = s.graph.directed

-- the net that queries are asked of: the visible graph
abbrev pub net_of : State → Net
net_of s = shown_net s.graph

-- the number in the name of each node of the net, in the order of the net
abbrev pub node_names : State → List ℕ
node_names s = node_numbers s.graph

-- the number in the name of each arc of the net
abbrev pub edge_names : State → List ℕ
edge_names s = edge_numbers s.graph

-- the name stands at a place of which P holds
abbrev pub AtPlaceOf : List ℕ → ℕ → (ℕ → Type 0) → Type 0
AtPlaceOf names number P = (place : ℕ) × (slice_get names place ≡ Some number) × P place
