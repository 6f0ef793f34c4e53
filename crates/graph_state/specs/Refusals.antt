-- When an edit or a look is refused, by the items that it names.
use Rattle.std.specs.Prelude.{◌≡◌, ℕ, ◌<◌, ◌⊎◌, Bool, true, false, List, [], ◌∷◌, length}
use Rattle.graph_defs.specs.declared.net.TheConstants.{NODE_LIMIT, ARC_LIMIT}
use Rattle.item_pool.specs.declared.pool.TheConstants.{MOST_SERIALS}
use Rattle.item_pool.specs.Contents.{WhyGone}
use Rattle.item_pool.specs.declared.pool.Gone.{Gone}
use Rattle.leda_base.specs.declared.name.ItemName.{ItemName}
use Rattle.leda_base.specs.declared.name.ItemName.TheVariants as names
use Rattle.graph_state.specs.declared.name.Element.TheVariants.{Node, Edge}
use Rattle.graph_state.specs.declared.refusal.EditRefusal.{EditRefusal}
use Rattle.graph_state.specs.declared.refusal.EditRefusal.TheVariants as edits
use Rattle.graph_state.specs.declared.refusal.LookRefusal.{LookRefusal}
use Rattle.graph_state.specs.declared.refusal.LookRefusal.TheVariants as looks
use Rattle.graph_state.specs.State.{GraphState, shows_node, shows_edge}
use Rattle.graph_state.specs.Names.{IsLive}

-- an item is listed, or dead or unknown by the numbers that were given; a cell of a container is
-- none of a graph's items
abbrev pub IsThere : GraphState → ItemName → Type 0
IsThere s (names.Node v) = IsLive s (Node v)
IsThere s (names.Edge e) = IsLive s (Edge e)
IsThere s (names.Cell c) = ⊥

abbrev pub IsGone : GraphState → ItemName → Gone → Type 0
IsGone s (names.Node v) why = (IsLive s (Node v) → ⊥) × WhyGone s.made_nodes v why
IsGone s (names.Edge e) why = (IsLive s (Edge e) → ⊥) × WhyGone s.made_edges e why
IsGone s (names.Cell c) why = ⊥

-- whether it shows
abbrev pub shows_item : GraphState → ItemName → Bool
shows_item s (names.Node v) = shows_node s v
shows_item s (names.Edge e) = shows_edge s e
shows_item s (names.Cell c) = false

-- every item is listed, and shows
abbrev pub AreThere : GraphState → List ItemName → Type 0
AreThere s [] = Unit {0}
AreThere s (x ∷ xs) = IsThere s x × AreThere s xs

abbrev pub AreVisible : GraphState → List ItemName → Type 0
AreVisible s [] = Unit {0}
AreVisible s (x ∷ xs) = IsThere s x × (shows_item s x ≡ true) × AreVisible s xs

-- x is the leftmost item that is gone
abbrev pub IsFirstGone : GraphState → List ItemName → ItemName → Gone → Type 0
IsFirstGone s [] x why = ⊥
IsFirstGone s (y ∷ ys) x why = ((x ≡ y) × IsGone s y why) ⊎ (IsThere s y × IsFirstGone s ys x why)

-- x is the leftmost item that doesn't show
abbrev pub IsFirstHidden : GraphState → List ItemName → ItemName → Type 0
IsFirstHidden s [] x = ⊥
IsFirstHidden s (y ∷ ys) x = ((x ≡ y) × (shows_item s y ≡ false))
    ⊎ ((shows_item s y ≡ true) × IsFirstHidden s ys x)

-- why a look at the items is refused: what is gone comes before what is hidden
abbrev pub RefusesLook : GraphState → List ItemName → LookRefusal → Type 0
RefusesLook s xs (looks.Gone x why) = IsFirstGone s xs x why
RefusesLook s xs (looks.Hidden x) = AreThere s xs × IsFirstHidden s xs x

-- the item is gone
abbrev pub IsGoneOf : GraphState → ItemName → LookRefusal → Type 0
IsGoneOf s x (looks.Gone y why) = (y ≡ x) × IsGone s x why
IsGoneOf s x (looks.Hidden y) = ⊥

-- a new node, or a new edge, can be made
pub record HasRoom (count most made : ℕ) : Type 0 where
  pub few : count < most
  pub more : made < MOST_SERIALS

abbrev pub NodeRoom : GraphState → Type 0
NodeRoom s = HasRoom (length s.nodes) NODE_LIMIT s.made_nodes

abbrev pub EdgeRoom : GraphState → Type 0
EdgeRoom s = HasRoom (length s.edges) ARC_LIMIT s.made_edges

-- why no node is made
abbrev pub RefusesNode : GraphState → EditRefusal → Type 0
RefusesNode s (edits.Gone x why) = ⊥
RefusesNode s (edits.Hidden x) = ⊥
RefusesNode s edits.FullNodes = length s.nodes ≡ NODE_LIMIT
RefusesNode s edits.FullEdges = ⊥
RefusesNode s edits.Spent = (length s.nodes < NODE_LIMIT) × (s.made_nodes ≡ MOST_SERIALS)
RefusesNode s edits.NoMemory = NodeRoom s

-- why no edge is made beside the items
abbrev pub RefusesEdge : GraphState → List ItemName → EditRefusal → Type 0
RefusesEdge s xs (edits.Gone x why) = RefusesLook s xs (looks.Gone x why)
RefusesEdge s xs (edits.Hidden x) = RefusesLook s xs (looks.Hidden x)
RefusesEdge s xs edits.FullNodes = ⊥
RefusesEdge s xs edits.FullEdges = AreVisible s xs × (length s.edges ≡ ARC_LIMIT)
RefusesEdge s xs edits.Spent = AreVisible s xs × (length s.edges < ARC_LIMIT)
    × (s.made_edges ≡ MOST_SERIALS)
RefusesEdge s xs edits.NoMemory = AreVisible s xs × EdgeRoom s

-- why a list of the items isn't given
abbrev pub RefusesList : GraphState → List ItemName → EditRefusal → Type 0
RefusesList s xs (edits.Gone x why) = RefusesLook s xs (looks.Gone x why)
RefusesList s xs (edits.Hidden x) = RefusesLook s xs (looks.Hidden x)
RefusesList s xs edits.FullNodes = ⊥
RefusesList s xs edits.FullEdges = ⊥
RefusesList s xs edits.Spent = ⊥
RefusesList s xs edits.NoMemory = AreVisible s xs

-- why no node is made, or no edge, but for want of memory
abbrev pub FullNode : GraphState → EditRefusal → Type 0
FullNode s (edits.Gone x why) = ⊥
FullNode s (edits.Hidden x) = ⊥
FullNode s edits.FullNodes = length s.nodes ≡ NODE_LIMIT
FullNode s edits.FullEdges = ⊥
FullNode s edits.Spent = (length s.nodes < NODE_LIMIT) × (s.made_nodes ≡ MOST_SERIALS)
FullNode s edits.NoMemory = ⊥

abbrev pub FullEdge : GraphState → EditRefusal → Type 0
FullEdge s (edits.Gone x why) = ⊥
FullEdge s (edits.Hidden x) = ⊥
FullEdge s edits.FullNodes = ⊥
FullEdge s edits.FullEdges = length s.edges ≡ ARC_LIMIT
FullEdge s edits.Spent = (length s.edges < ARC_LIMIT) × (s.made_edges ≡ MOST_SERIALS)
FullEdge s edits.NoMemory = ⊥
