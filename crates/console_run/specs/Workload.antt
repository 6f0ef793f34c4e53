-- The lines of the workload that a seed gives, and which of them are its queries.
use Rattle.std.specs.Prelude.{ℕ, zero, suc, ◌+◌, ◌*◌, ◌/◌, ◌%◌, ◌^◌, Bool, true, false, List, [], ◌∷◌, ◌++◌, map, replicate, codes, decimal}
use Rattle.std.specs.List.{range_with_len}

-- the next number of Knuth's linear congruential generator for MMIX
abbrev pub next_number : ℕ → ℕ
next_number x = (x * 6364136223846793005 + 1442695040888963407) % 2 ^ 64

-- the number after so many draws
unfoldable pub number_after : ℕ → ℕ → ℕ
number_after seed zero = seed
number_after seed (suc k) = next_number (number_after seed k)

-- what is drawn at a number: its upper 31 bits, as a number below the bound
abbrev pub drawn : ℕ → ℕ → ℕ
drawn x bound = x / 2 ^ 33 % bound

-- the draw behind the first k draws
abbrev pub draw : ℕ → ℕ → ℕ → ℕ
draw seed k bound = drawn (number_after seed (k + 1)) bound

-- a line, and whether it is a query, of whose reply the first line is written
pub record WorkLine : Type 0 where
  pub text : List ℕ
  pub is_query : Bool

abbrev pub silent : List ℕ → WorkLine
silent text = record { text = text; is_query = false }

abbrev pub query : List ℕ → WorkLine
query text = record { text = text; is_query = true }

-- an edge between two nodes, with a number as its label
abbrev pub edge_text : ℕ → ℕ → ℕ → List ℕ
edge_text source target label =
    codes "edge n" ++ (decimal source ++ (codes " n" ++ (decimal target
    ++ (codes " |{" ++ (decimal label ++ codes "}|")))))

-- the edge with the number i, from 0 on: three draws, in this order
abbrev pub edge_line : ℕ → ℕ → WorkLine
edge_line seed i = silent (edge_text (draw seed (3 * i) 400 + 1) (draw seed (3 * i + 1) 400 + 1)
    (draw seed (3 * i + 2) 1000))

-- the lines behind the edges, one of which hides a node
abbrev pub last_lines : ℕ → List WorkLine
last_lines hidden =
    silent (codes "edge_array c labels")
    ∷ silent (codes "edge_map one 1")
    ∷ silent (codes "hide_node n" ++ decimal hidden)
    ∷ query (codes "reach n1 n2")
    ∷ query (codes "sp n1 c")
    ∷ query (codes "dijkstra n1 c")
    ∷ query (codes "maxflow n1 n2 c")
    ∷ query (codes "matching")
    ∷ silent (codes "restore_all")
    ∷ query (codes "matching") ∷ []

-- the node that is hidden, drawn behind the edges; the first two never are
abbrev pub hidden_node : ℕ → ℕ
hidden_node seed = draw seed 4800 398 + 3

-- 400 nodes, 1,600 edges, and then the last lines
unfoldable pub workload : ℕ → List WorkLine
workload seed = replicate 400 (silent (codes "node"))
    ++ (map (edge_line seed) (range_with_len 0 1600) ++ last_lines (hidden_node seed))
