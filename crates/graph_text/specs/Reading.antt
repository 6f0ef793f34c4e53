-- Reading a text line by line, with the first fault that is met.
use Rattle.std.specs.Prelude.{ℕ, zero, suc, ◌+◌, ◌-◌, Bool, true, false, ◌&&◌, ◌==◌, not, nat_eq, nat_lt, if◌then◌else◌, List, [], ◌∷◌, length, map, codes, bytes_eq, Option, Some, None, Result, Ok, Err}
use Rattle.std.specs.List.{starts_with}
use Rattle.leda_base.specs.Decimal.{natural_of}
use Rattle.leda_base.specs.declared.name.TheConstants.{LABEL_LIMIT}
use Rattle.graph_defs.specs.declared.net.TheConstants.{NODE_LIMIT, ARC_LIMIT}
use Rattle.graph_defs.specs.declared.plain.TheConstants.{TYPE_LIMIT}
use Rattle.graph_defs.specs.declared.plain.PlainEdge.{PlainEdge}
use Rattle.graph_defs.specs.declared.plain.PlainGraph.{PlainGraph}
use Rattle.graph_defs.specs.declared.plain.TextKind.{TextKind}
use Rattle.graph_defs.specs.declared.plain.TextKind.TheVariants as kinds
use Rattle.graph_defs.specs.Plain.{is_void, is_paired}
use Rattle.graph_text.specs.declared.fault.Fault.{Fault}
use Rattle.graph_text.specs.Lines.{Line, Unread, all_of, next_of}
use Rattle.graph_text.specs.Parts.{field, behind, number_in, label_of}

-- what was read goes on to be read, and a fault stays
infixl 10 ◌>>=◌
abbrev pub ◌>>=◌ : {A B : Type 0} → Result A Fault → (A → Result B Fault) → Result B Fault
(Ok x) >>= f = f x
(Err e) >>= f = Err e

-- a fault of this line
abbrev pub fault_at : TextKind → ℕ → Fault
fault_at kind line = record { kind = kind; line = line }

-- what there is, or a fault of the line
abbrev pub or_fault : {A : Type 0} → TextKind → ℕ → Option A → Result A Fault
or_fault why line None = Err (fault_at why line)
or_fault why line (Some x) = Ok x

-- a line that has to be there
abbrev pub wanted : Option Line → Unread → Result (Line × Unread) Fault
wanted None unread = Err (fault_at kinds.Truncated unread.number)
wanted (Some line) unread = Ok (line, unread)

unfoldable pub line_of : Unread → Result (Line × Unread) Fault
line_of unread = do
  found ← next_of unread
  wanted found.0 found.1

-- a line that may not be there
abbrev pub none_left : Option Line → Result Bool Fault
none_left None = Ok true
none_left (Some line) = Err (fault_at kinds.Trailing line.number)

-- that nothing is left but what is skipped
unfoldable pub end_of : Unread → Result Bool Fault
end_of unread = do
  found ← next_of unread
  none_left found.0

-- the first line
abbrev pub header_in : Line → Result Bool Fault
header_in line =
    if bytes_eq line.bytes (codes "LEDA.GRAPH") then Ok true
    else Err (fault_at kinds.Header line.number)

-- the name of a type
abbrev pub type_in : Line → Result (List ℕ) Fault
type_in line =
    if nat_lt TYPE_LIMIT (length line.bytes) then Err (fault_at kinds.Limit line.number)
    else Ok line.bytes

-- whether the graph is directed, if the line says so
abbrev pub direction_in : Line → Result (Option Bool) Fault
direction_in line =
    if not (starts_with nat_eq line.bytes (codes "-")) then Ok None
    else if bytes_eq line.bytes (codes "-1") then Ok (Some true)
    else if bytes_eq line.bytes (codes "-2") then Ok (Some false)
    else Err (fault_at kinds.Kind line.number)

-- a count, if it is one, and at most so large
abbrev pub count_within : ℕ → ℕ → Option ℕ → Result ℕ Fault
count_within most line None = Err (fault_at kinds.Count line)
count_within most line (Some n) =
    if nat_lt most n then Err (fault_at kinds.Limit line) else Ok n

abbrev pub count_in : ℕ → Line → Result ℕ Fault
count_in most line = count_within most line.number (natural_of line.bytes)

-- a label of at most 60,000 bytes, which is empty where there are no labels
abbrev pub label_within : Bool → ℕ → List ℕ → Result (List ℕ) Fault
label_within void line label =
    if nat_lt LABEL_LIMIT (length label) then Err (fault_at kinds.Limit line)
    else if void && not (length label == 0) then Err (fault_at kinds.Label line)
    else Ok label

unfoldable pub label_in : Bool → ℕ → List ℕ → Result (List ℕ) Fault
label_in void line bytes = do
  label ← or_fault kinds.Label line (label_of bytes)
  label_within void line label

-- a node's line
abbrev pub node_in : Bool → Line → Result (List ℕ) Fault
node_in void line = label_in void line.number line.bytes

-- an end of an edge: the place of a node, one less than its number
unfoldable pub end_in : ℕ → ℕ → List ℕ → Result ℕ Fault
end_in nodes line bytes = do
  number ← or_fault kinds.Ends line (number_in 1 nodes bytes)
  Ok (number - 1)

-- a reversal: the place of an edge, one less than its number, or none where the number is 0
abbrev pub place_of : ℕ → Option ℕ
place_of zero = None
place_of (suc k) = Some k

unfoldable pub reversal_in : ℕ → ℕ → List ℕ → Result (Option ℕ) Fault
reversal_in edges line bytes = do
  number ← or_fault kinds.Reversal line (number_in 0 edges bytes)
  Ok (place_of number)

-- how many nodes and edges there are, and whether edges have no labels
pub record Sizes : Type 0 where
  pub nodes : ℕ
  pub edges : ℕ
  pub void : Bool

-- an edge and the number of its line
pub record Placed : Type 0 where
  pub line : ℕ
  pub edge : PlainEdge

-- an edge's line
unfoldable pub edge_in : Sizes → Line → Result Placed Fault
edge_in sizes line = do
  from ← end_in sizes.nodes line.number (field line.bytes)
  to ← end_in sizes.nodes line.number (field (behind line.bytes))
  rev ← reversal_in sizes.edges line.number (field (behind (behind line.bytes)))
  label ← label_in sizes.void line.number (behind (behind (behind line.bytes)))
  Ok (record {
    line = line.number;
    edge = record { from = from; to = to; rev = rev; label = label };
  })

-- so many lines, each read so
unfoldable pub many_of : {A : Type 0} → (Line → Result A Fault) → ℕ → Unread
    → Result (List A × Unread) Fault
many_of read zero unread = Ok ([], unread)
many_of read (suc n) unread = do
  line ← line_of unread
  first ← read line.0
  others ← many_of read n line.1
  Ok (first ∷ others.0, others.1)

-- what comes before the nodes: the types, the direction, and how many nodes there are
pub record Head : Type 0 where
  pub directed : Bool
  pub node_type : List ℕ
  pub edge_type : List ℕ
  pub nodes : ℕ

-- the direction and, behind it, the number of nodes
pub record Way : Type 0 where
  pub directed : Bool
  pub nodes : ℕ

-- the number of nodes behind a line that has the direction, or in the line that doesn't have it
unfoldable pub nodes_behind : Option Bool → Line → Unread → Result (Way × Unread) Fault
nodes_behind None line unread = do
  nodes ← count_in NODE_LIMIT line
  Ok (record { directed = true; nodes = nodes }, unread)
nodes_behind (Some directed) line unread = do
  next ← line_of unread
  nodes ← count_in NODE_LIMIT next.0
  Ok (record { directed = directed; nodes = nodes }, next.1)

unfoldable pub way_of : Unread → Result (Way × Unread) Fault
way_of unread = do
  line ← line_of unread
  directed ← direction_in line.0
  nodes_behind directed line.0 line.1

unfoldable pub head_of : Unread → Result (Head × Unread) Fault
head_of unread = do
  first ← line_of unread
  named ← header_in first.0
  second ← line_of first.1
  node_type ← type_in second.0
  third ← line_of second.1
  edge_type ← type_in third.0
  way ← way_of third.1
  Ok (
    record {
      directed = way.0.directed;
      node_type = node_type;
      edge_type = edge_type;
      nodes = way.0.nodes;
    },
    way.1,
  )

-- the edges: how many, and a line for each
unfoldable pub edges_of : ℕ → Bool → Unread → Result (List Placed × Unread) Fault
edges_of nodes void unread = do
  line ← line_of unread
  edges ← count_in ARC_LIMIT line.0
  many_of (edge_in (record { nodes = nodes; edges = edges; void = void })) edges line.1

-- the edges without their lines
abbrev pub edges_in : List Placed → List PlainEdge
edges_in placed = map (λ p. p.edge) placed

-- the line of the first edge, of those from number i on, whose reversal isn't its own
abbrev pub unpaired_from : List PlainEdge → ℕ → List Placed → Option ℕ
unpaired_from edges i [] = None
unpaired_from edges i (p ∷ later) =
    if is_paired edges i p.edge then unpaired_from edges (i + 1) later else Some p.line

-- that reversals are mutual
abbrev pub all_paired : Option ℕ → Result Bool Fault
all_paired None = Ok true
all_paired (Some line) = Err (fault_at kinds.Reversal line)

unfoldable pub graph_of : Unread → Result PlainGraph Fault
graph_of unread = do
  head ← head_of unread
  nodes ← many_of (node_in (is_void head.0.node_type)) head.0.nodes head.1
  edges ← edges_of head.0.nodes (is_void head.0.edge_type) nodes.1
  ended ← end_of edges.1
  paired ← all_paired (unpaired_from (edges_in edges.0) 0 edges.0)
  Ok (record {
    directed = head.0.directed;
    node_type = head.0.node_type;
    edge_type = head.0.edge_type;
    nodes = nodes.0;
    edges = edges_in edges.0;
  })

-- the graph that a text stands for, or the first fault
unfoldable pub reading_of : List ℕ → Result PlainGraph Fault
reading_of text = graph_of (all_of text)
