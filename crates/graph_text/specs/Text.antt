-- Which graph a text stands for, by its lines.
use Rattle.std.specs.Prelude.{◌≡◌, ◌≤◌, ◌+◌, ℕ, Bool, true, not, List, [], ◌∷◌, ◌++◌, length, map, codes, Option, Some, None, Result, Ok, Err, ⊤}
use Rattle.std.specs.List.{filter, list_all, AllByRecursion, AllZip}
use Rattle.leda_base.specs.Decimal.{natural_of}
use Rattle.graph_defs.specs.declared.plain.PlainEdge.{PlainEdge}
use Rattle.graph_defs.specs.declared.plain.PlainGraph.{PlainGraph}
use Rattle.graph_text.specs.declared.line.TheConstants.{LINE_LIMIT}
use Rattle.graph_text.specs.declared.fault.Fault.{Fault}
use Rattle.graph_text.specs.declared.fault.TextRefusal.{TextRefusal}
use Rattle.graph_text.specs.declared.fault.TextRefusal.TheVariants.{At, NoMemory}
use Rattle.leda_base.specs.Bytes.{is_blank}
use Rattle.graph_defs.specs.Plain.{IsPlainGraph}
use Rattle.graph_text.specs.Lines.{lines_of, visible, is_skipped}
use Rattle.graph_text.specs.Reading.{reading_of}
use Rattle.graph_text.specs.Written.{direction_text, label_text, reversal_number}

-- what counts of the lines that aren't skipped
abbrev pub kept : List (List ℕ) → List (List ℕ)
kept lines = filter (λ line. not (is_skipped line)) (map visible lines)

-- no line is longer than a line may be
abbrev pub AreShort : List (List ℕ) → Type 0
AreShort lines = AllByRecursion (λ line. length line ≤ LINE_LIMIT) lines

-- the line of the direction, which may be missing where the graph is directed
abbrev pub AreDirection : Bool → List (List ℕ) → Type 0
AreDirection directed [] = directed ≡ true
AreDirection directed (line ∷ []) = line ≡ direction_text directed
AreDirection directed (line ∷ other ∷ lines) = ⊥

-- blanks, at least one
pub record AreBlanks (bytes : List ℕ) : Type 0 where
  pub some : 1 ≤ length bytes
  pub each : list_all is_blank bytes ≡ true

-- three numbers, each with blanks behind it, and the label
pub record IsEdgeLine (line : List ℕ) (edge : PlainEdge) : Type 0 where
  pub from : List ℕ
  pub first : List ℕ
  pub to : List ℕ
  pub second : List ℕ
  pub rev : List ℕ
  pub third : List ℕ
  pub is : line
      ≡ from ++ (first ++ (to ++ (second ++ (rev ++ (third ++ label_text edge.label)))))
  pub from_is : natural_of from ≡ Some (edge.from + 1)
  pub to_is : natural_of to ≡ Some (edge.to + 1)
  pub rev_is : natural_of rev ≡ Some (reversal_number edge.rev)
  pub first_is : AreBlanks first
  pub second_is : AreBlanks second
  pub third_is : AreBlanks third

-- The lines that count, in order: the name of the format, the types of nodes and edges, the
-- direction, the number of nodes, the label of each, the number of edges, and each edge.
pub record HasLines (lines : List (List ℕ)) (g : PlainGraph) : Type 0 where
  pub direction : List (List ℕ)
  pub nodes : List ℕ
  pub edges : List ℕ
  pub edge_lines : List (List ℕ)
  pub are : lines ≡ codes "LEDA.GRAPH" ∷ g.node_type ∷ g.edge_type
      ∷ (direction ++ (nodes ∷ (map label_text g.nodes ++ (edges ∷ edge_lines))))
  pub direction_is : AreDirection g.directed direction
  pub nodes_is : natural_of nodes ≡ Some (length g.nodes)
  pub edges_is : natural_of edges ≡ Some (length g.edges)
  pub each_edge : AllZip IsEdgeLine edge_lines g.edges

-- the text stands for the graph
pub record GraphText (text : List ℕ) (g : PlainGraph) : Type 0 where
  pub short : AreShort (lines_of text)
  pub lines : HasLines (kept (lines_of text)) g
  pub valid : IsPlainGraph g

-- what is wrong with a text that stands for no graph: the first fault that reading it meets
abbrev pub fault_in : Result PlainGraph Fault → Option Fault
fault_in (Ok g) = None
fault_in (Err fault) = Some fault

abbrev pub fault_of : List ℕ → Option Fault
fault_of text = fault_in (reading_of text)

-- what is answered to a text: a graph that it stands for, or its fault; want of memory says nothing
abbrev pub Answers : List ℕ → Result PlainGraph TextRefusal → Type 0
Answers text (Ok g) = GraphText text g
Answers text (Err (At why line)) = fault_of text ≡ Some (record { kind = why; line = line })
Answers text (Err NoMemory) = ⊤
