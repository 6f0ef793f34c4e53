-- Private: the net that a session keeps, and its arrays.
use Rattle.std.specs.Prelude.{Option, IfSome}
use Rattle.graph_state.specs.State.{GraphState}
use Rattle.hide_restore.specs.declared.shown.Shown.{Shown}
use Rattle.kept_answers.specs.Shown.{IsShown}
use Rattle.object_store.specs.State.{ObjectState}
use Rattle.object_store.specs.Served.{AllServe}

-- the net that is kept, if one is, is that of the graph, and each array serves the graph
pub record IsSound (g : GraphState) (objects : ObjectState) (kept : Option Shown) : Type 0 where
  pub shown : IfSome kept (IsShown g)
  pub serve : AllServe g objects
