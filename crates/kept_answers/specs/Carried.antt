-- An answer to `maxflow` that is kept, and the verdict on it of the graph as it is now.
use Rattle.std.specs.Prelude.{◌≡◌, ℕ, ◌≤◌, ℤ, List, [], length, map, Option, MatchOption}
use Rattle.std.specs.Option.{option_or}
use Rattle.graph_defs.specs.declared.flow.FlowAnswer.{FlowAnswer}
use Rattle.graph_defs.specs.declared.net.TheConstants.{ARC_LIMIT}
use Rattle.graph_defs.specs.Flow.{FlowHolds, flow_order}
use Rattle.graph_defs.specs.Sum.{at}
use Rattle.graph_state.specs.Names.{IsOnce}
use Rattle.graph_state.specs.State.{GraphState}
use Rattle.hide_restore.specs.Net.{place_of, node_numbers, edge_numbers, shown_net}
use Rattle.leda_base.specs.Name.{IsShortName}
use Rattle.reply_text.specs.declared.reply.Named.{Named}
use Rattle.reply_text.specs.Flows.{carriers}
use Rattle.kept_answers.specs.declared.gone.GoneItem.{GoneItem}
use Rattle.kept_answers.specs.Checked.{places_in, IsVerdictOn}
use Rattle.kept_answers.specs.Kept.{entries_at}
use Rattle.kept_answers.specs.Told.{first_in, gone_node, gone_edge, about_gone}

-- the numbers of the source and the sink, the name of the object that had the capacities, the
-- numbers of the edges, and the answer, which has the flow along each of these edges and the numbers
-- of the nodes of the cut
pub record Carried : Type 0 where
  pub source : ℕ
  pub sink : ℕ
  pub capacities : List ℕ
  pub edges : List ℕ
  pub answer : FlowAnswer

-- an answer that numbers nodes and arcs, by their names
abbrev pub carried : ℕ → ℕ → List ℕ → List ℕ → List ℕ → FlowAnswer → Carried
carried source sink capacities nodes edges answer = record {
  source = source;
  sink = sink;
  capacities = capacities;
  edges = edges;
  answer = record answer { cut = entries_at nodes answer.cut };
}

-- each flow is that of an edge, no two edges have the same name, and that of the object is no longer
-- than a name may be
pub record IsFlowKeepable (capacities edges : List ℕ) (answer : FlowAnswer) : Type 0 where
  pub short : IsShortName capacities
  pub long : length answer.flow ≡ length edges
  pub once : IsOnce edges
  pub few : length edges ≤ ARC_LIMIT

-- the edges along which something flows
abbrev pub carrying : List ℕ → FlowAnswer → List ℕ
carrying edges answer = entries_at edges (carriers answer.flow)

-- the first that is gone, where these nodes and edges are visible: of the source, the sink, the
-- edges along which something flows, and the nodes of the cut
abbrev pub first_gone_of : List ℕ → List ℕ → ℕ → ℕ → List ℕ → List ℕ → Option GoneItem
first_gone_of nodes edges source sink carrying cut =
    option_or (gone_node nodes source)
    (option_or (gone_node nodes sink)
    (option_or (first_in (gone_edge edges) carrying)
    (first_in (gone_node nodes) cut)))

-- the answer as the net numbers the nodes and edges now; an edge that wasn't there has no flow
abbrev pub flow_as_now : GraphState → List ℕ → FlowAnswer → FlowAnswer
flow_as_now g edges answer = record {
  flow = map (at answer.flow) (places_in edges (edge_numbers g));
  value = answer.value;
  cut = places_in (node_numbers g) answer.cut;
}

-- The verdict on an answer by the names of nodes and edges, where these are the capacities of the
-- visible edges: the first that is named and isn't visible is gone; where there is none, it is that
-- of the checker.
abbrev pub IsFlowAnswerChecked : GraphState → List ℤ → ℕ → ℕ → List ℕ → FlowAnswer → Named
    → Type 0
IsFlowAnswerChecked g cap source sink edges answer named =
    MatchOption (first_gone_of (node_numbers g) (edge_numbers g) source sink
    (carrying edges answer) answer.cut)
    (IsVerdictOn g
    (FlowHolds (shown_net g) (place_of source (node_numbers g)) (place_of sink (node_numbers g))
    cap (flow_as_now g edges answer)) flow_order
    named)
    (λ item. named ≡ about_gone item)

-- the same of an answer that is kept
abbrev pub IsFlowChecked : GraphState → List ℤ → Carried → Named → Type 0
IsFlowChecked g cap k named =
    IsFlowAnswerChecked g cap k.source k.sink k.edges k.answer named
