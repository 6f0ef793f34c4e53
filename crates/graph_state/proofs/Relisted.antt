-- A state with other ends and other lists of darts is well-formed.
use Rattle.std.proofs.Common.{◌≡◌, ℕ, Bool, List}
use Rattle.std.specs.Ordering.{nat_cmp}
use Rattle.std.specs.FinMap as map
use Rattle.graph_defs.specs.declared.dart.Dart.{Dart}
use Rattle.graph_state.specs.declared.name.ListName.{ListName}
use Rattle.graph_state.specs.declared.name.Element.{Element}
use Rattle.graph_state.specs.declared.name.Element.TheVariants.{Node, Edge, End}
use Rattle.graph_state.specs.State.{GraphState, source, target}
use Rattle.graph_state.specs.Names.{Has, IsOnce, list_of, IsLive, home}
use Rattle.graph_state.specs.Formed.{IsFormed}

module _ (s : GraphState) (directed : Bool) (ends : map.FinMap nat_cmp (ℕ × ℕ)) (outs ins : map.FinMap nat_cmp (List Dart)) where
  abbrev pub relisted : GraphState
  relisted = record s { directed = directed; ends = ends; outs = outs; ins = ins }

  pub live_there : (x : Element) → IsLive s x → IsLive relisted x
  live_there (Node v) i = i
  live_there (Edge e) i = i
  live_there (End d) i = i

  pub live_here : (x : Element) → IsLive relisted x → IsLive s x
  live_here (Node v) i = i
  live_here (Edge e) i = i
  live_here (End d) i = i

  -- every edge of the state has its darts where they belong
  pub record IsRelisted : Type 0 where
    pub homes : (l : ListName) (x : Element) → Has x (list_of relisted l) → IsLive s x × (home relisted x ≡ l)
    pub housed : (x : Element) → IsLive s x → Has x (list_of relisted (home relisted x))
    pub once : (l : ListName) → IsOnce (list_of relisted l)
    pub ends_listed : (e : ℕ) → Has e s.edges → Has (source relisted e) s.nodes × Has (target relisted e) s.nodes
    pub opposite : (e g : ℕ) → Has e s.edges → Has g s.edges → (source s e ≡ target s g) × (target s e ≡ source s g) → (source relisted e ≡ target relisted g) × (target relisted e ≡ source relisted g)

  pub formed_relisted : IsFormed s → IsRelisted → IsFormed relisted
  formed_relisted f is = record {
    homes = λ l x i. let h = is.homes l x i in (live_there x h.0, h.1);
    housed = λ x i. is.housed x (live_here x i);
    once = is.once;
    ends = is.ends_listed;
    reversals = λ e g r. let p = f.reversals e g r in let q = f.reversals g e p.both in record {
      both = p.both;
      apart = p.apart;
      listed = p.listed;
      opposite = is.opposite e g p.listed q.listed p.opposite;
    };
    hidden_nodes = f.hidden_nodes;
    hidden_edges = f.hidden_edges;
    given_nodes = f.given_nodes;
    given_edges = f.given_edges;
    node_labels = f.node_labels;
    edge_labels = f.edge_labels;
    few = f.few;
    made = f.made;
    types = f.types;
  }
