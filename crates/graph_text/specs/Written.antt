-- The one text that is written for a graph.
use Rattle.std.specs.Prelude.{ℕ, ◌+◌, Bool, List, [], ◌∷◌, ◌++◌, length, map, codes, Option, Some, None, if◌then◌else◌}
use Rattle.std.specs.List.{flat_map}
use Rattle.std.specs.Fmt.{decimal}
use Rattle.graph_defs.specs.declared.plain.PlainEdge.{PlainEdge}
use Rattle.graph_defs.specs.declared.plain.PlainGraph.{PlainGraph}

abbrev pub direction_text : Bool → List ℕ
direction_text directed = if directed then codes "-1" else codes "-2"

abbrev pub label_text : List ℕ → List ℕ
label_text label = codes "|{" ++ label ++ codes "}|"

-- the number of a reversal, from 1, or 0 for none
abbrev pub reversal_number : Option ℕ → ℕ
reversal_number None = 0
reversal_number (Some place) = place + 1

abbrev pub edge_text : PlainEdge → List ℕ
edge_text edge =
    decimal (edge.from + 1) ++ codes " " ++ decimal (edge.to + 1) ++ codes " "
    ++ decimal (reversal_number edge.rev) ++ codes " " ++ label_text edge.label

-- the lines before the nodes
abbrev pub head_lines : PlainGraph → List (List ℕ)
head_lines g =
    codes "LEDA.GRAPH" ∷ g.node_type ∷ g.edge_type ∷ direction_text g.directed
    ∷ decimal (length g.nodes) ∷ []

-- the lines that are written
abbrev pub written : PlainGraph → List (List ℕ)
written g =
    head_lines g ++ (map label_text g.nodes
    ++ (decimal (length g.edges) ∷ map edge_text g.edges))

-- a line with its end
abbrev pub ended : List ℕ → List ℕ
ended line = line ++ 10 ∷ []

-- lines, each with its end
abbrev pub ended_lines : List (List ℕ) → List ℕ
ended_lines lines = flat_map ended lines

-- the text
abbrev pub text_of : PlainGraph → List ℕ
text_of g = ended_lines (written g)
