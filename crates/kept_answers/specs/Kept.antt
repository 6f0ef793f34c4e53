-- Answers that are kept: by the numbers in the names of nodes and edges, so that they say the same
-- whatever becomes of the graph.
use Rattle.std.specs.Prelude.{ℕ, ◌≤◌, List, length, map, slice_index, refl}
use Rattle.std.specs.Coded.{Coded, code_by, coded×, coded_ℕ, coded_list}
use Rattle.graph_defs.specs.declared.net.TheConstants.{ARC_LIMIT}
use Rattle.graph_defs.specs.declared.matching.MatchAnswer.{MatchAnswer}
use Rattle.graph_state.specs.Names.{IsOnce}
use Rattle.reply_text.specs.Text.{IsMatchNamed}

-- an answer to `matching`: the numbers of the chosen edges, those of the nodes, and their labels
pub record Matched : Type 0 where
  pub edges : List ℕ
  pub nodes : List ℕ
  pub labels : List ℕ

abbrev pub matched_code : Coded Matched
matched_code = code_by (List ℕ × (List ℕ × List ℕ))
    (coded× (coded_list coded_ℕ) (coded× (coded_list coded_ℕ) (coded_list coded_ℕ)))
    (λ k. (k.edges, (k.nodes, k.labels)))
    (λ p. record { edges = p.0; nodes = p.1.0; labels = p.1.1 }) (λ _. refl)

-- what stands at places, each of which numbers an entry
abbrev pub entries_at : List ℕ → List ℕ → List ℕ
entries_at entries places = map (λ place. slice_index entries place) places

-- an answer that numbers nodes and edges, by their names
abbrev pub matched : List ℕ → List ℕ → MatchAnswer → Matched
matched names_of_nodes names_of_edges answer = record {
  edges = entries_at names_of_edges answer.edges;
  nodes = names_of_nodes;
  labels = answer.cover;
}

-- each number of the answer has a name, and no two nodes have the same
pub record IsKeepable (nodes edges : List ℕ) (answer : MatchAnswer) : Type 0 where
  pub named : IsMatchNamed nodes edges answer
  pub once : IsOnce nodes
  pub few : length nodes ≤ ARC_LIMIT
