-- What a function of the code answers, in the words of the reading.
use Rattle.std.specs.Prelude.{◌≡◌, ℕ, List, [], ◌∷◌, Result, Ok, Err}
use Rattle.graph_defs.specs.declared.plain.PlainEdge.{PlainEdge}
use Rattle.graph_text.specs.declared.fault.Fault.{Fault}
use Rattle.graph_text.specs.declared.fault.TextRefusal.{TextRefusal}
use Rattle.graph_text.specs.declared.fault.TextRefusal.TheVariants.{At, NoMemory}
use Rattle.graph_text.specs.declared.line.Line.{Line as LineRef}
use Rattle.graph_text.specs.Lines.{Line, Unread}
use Rattle.graph_text.specs.declared.head.Head.{Head as HeadRef}
use Rattle.graph_text.specs.declared.head.Way.{Way as WayPair}
use Rattle.graph_text.specs.declared.element.Edges.{Edges}
use Rattle.graph_text.specs.declared.element.Sizes.{Sizes as SizesRef}
use Rattle.graph_text.specs.Reading.{Placed, Head, Way, Sizes}

-- a line in the text
abbrev pub line_seen : LineRef → Line
line_seen line = record { number = line.number; bytes = line.bytes.now }

-- what comes before the nodes, in the text
abbrev pub head_seen : HeadRef → Head
head_seen head = record {
  directed = head.directed;
  node_type = head.node_type.now;
  edge_type = head.edge_type.now;
  nodes = head.nodes;
}

abbrev pub way_seen : WayPair → Way
way_seen way = record { directed = way.directed; nodes = way.nodes }

abbrev pub sizes_seen : SizesRef → Sizes
sizes_seen sizes = record { nodes = sizes.nodes; edges = sizes.edges; void = sizes.void }

-- what is answered, seen so, is what reading gives
abbrev pub Reads : {X Y : Type 0} → (X → Y) → Result X Fault → Result Y Fault → Type 0
Reads view (Ok x) read = read ≡ Ok (view x)
Reads view (Err fault) read = read ≡ Err fault

-- the same, and the lines that are left are those that reading leaves
abbrev pub ReadsOn : {X Y : Type 0} → (X → Y) → Result X Fault → Unread → Result (Y × Unread) Fault
    → Type 0
ReadsOn view (Ok x) left read = read ≡ Ok (view x, left)
ReadsOn view (Err fault) left read = read ≡ Err fault

-- the fault is the one that reading meets; want of memory says nothing
abbrev pub Refuses : {Y : Type 0} → TextRefusal → Result Y Fault → Type 0
Refuses (At why line) read = read ≡ Err (record { kind = why; line = line })
Refuses NoMemory read = Unit {0}

-- what is answered, seen so, is what reading gives, unless memory is wanted
abbrev pub Gives : {X Y : Type 0} → (X → Y) → Result X TextRefusal → Result Y Fault → Type 0
Gives view (Ok x) read = read ≡ Ok (view x)
Gives view (Err refusal) read = Refuses refusal read

abbrev pub GivesOn : {X Y : Type 0} → (X → Y) → Result X TextRefusal → Unread
    → Result (Y × Unread) Fault → Type 0
GivesOn view (Ok x) left read = read ≡ Ok (view x, left)
GivesOn view (Err refusal) left read = Refuses refusal read

-- edges with the numbers of their lines
abbrev pub placed : List PlainEdge → List ℕ → List Placed
placed [] lines = []
placed (edge ∷ edges) [] = []
placed (edge ∷ edges) (line ∷ lines) =
    record { line = line; edge = edge } ∷ placed edges lines

abbrev pub edges_seen : Edges → List Placed
edges_seen edges = placed edges.edges edges.lines
