-- Private: the numbers in the node list and in the edge list of a well-formed state differ.
use Rattle.graph_state.specs.State.{GraphState}
use Rattle.graph_state.specs.Names.{IsOnce}
use Rattle.graph_state.specs.Formed.{IsFormed}
use Rattle.graph_state.specs.declared.name.ListName.TheVariants.{Nodes, Edges}
use Rattle.graph_state.specs.declared.name.Element.TheVariants.{Node, Edge}
use Rattle.graph_state.proofs.Has.{once_mapped}

pub nodes_once : (s : GraphState) → IsFormed s → IsOnce s.nodes
nodes_once s formed = once_mapped Node s.nodes (formed.once Nodes)

pub edges_once : (s : GraphState) → IsFormed s → IsOnce s.edges
edges_once s formed = once_mapped Edge s.edges (formed.once Edges)
