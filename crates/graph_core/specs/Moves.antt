-- Private: what the steps that move an edge leave of the lists.
use Rattle.std.specs.Prelude.{◌≡◌, ℕ}
use Rattle.graph_state.specs.declared.name.ListName.{ListName}
use Rattle.graph_state.specs.declared.name.ListName.TheVariants.{Out}
use Rattle.graph_state.specs.declared.name.Element.TheVariants.{End}
use Rattle.graph_state.specs.State.{front, back}
use Rattle.graph_lists.specs.Named.{Lists, pushed, unlinked, SameRoom}

-- the darts of e leave their lists, and go to the rear of the out list of v and of the row
pub record MovesDarts (t u : Lists) (e v : ℕ) (row : ListName) : Type 0 where
  pub named : u.named ≡ pushed row (End (back e))
      (pushed (Out v) (End (front e))
      (unlinked (End (back e)) (unlinked (End (front e)) t.named)))
  pub room : SameRoom t u
