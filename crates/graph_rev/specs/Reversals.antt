-- When two edges don't become each other's reversal, and what follows an edge round a face.
use Rattle.std.specs.Prelude.{◌≡◌, ℕ, true, false, [], ◌∷◌, Some, None}
use Rattle.leda_base.specs.declared.name.ItemName.TheVariants as names
use Rattle.graph_state.specs.declared.item.EdgeItem.{EdgeItem}
use Rattle.graph_state.specs.State.{GraphState}
use Rattle.graph_state.specs.Refusals.{AreVisible, RefusesLook}
use Rattle.graph_state.specs.Reversals.{AreOpposite, visible_reversal}
use Rattle.graph_core.specs.Looks.{IsCyclicBefore}
use Rattle.graph_rev.specs.declared.face.FaceRefusal.{FaceRefusal}
use Rattle.graph_rev.specs.declared.face.FaceRefusal.TheVariants as face
use Rattle.graph_rev.specs.declared.reversal.RevRefusal.{RevRefusal}
use Rattle.graph_rev.specs.declared.reversal.RevRefusal.TheVariants as rev

-- why e and f don't become each other's reversal
abbrev pub RefusesReversal : GraphState → ℕ → ℕ → RevRefusal → Type 0
RefusesReversal s e f (rev.Look why) = RefusesLook s (names.Edge e ∷ names.Edge f ∷ []) why
RefusesReversal s e f rev.NotOpposite = AreVisible s (names.Edge e ∷ names.Edge f ∷ [])
    × (AreOpposite s e f → ⊥)

-- r stands before the visible reversal of e, in the cyclic order of the out list there
abbrev pub IsFaceSucc : GraphState → ℕ → EdgeItem → Type 0
IsFaceSucc s e r = (f : ℕ) × ((visible_reversal s e ≡ Some f) × IsCyclicBefore s f r)

-- why e has no successor round its face
abbrev pub RefusesFace : GraphState → ℕ → FaceRefusal → Type 0
RefusesFace s e (face.Look why) = RefusesLook s (names.Edge e ∷ []) why
RefusesFace s e face.Undirected = AreVisible s (names.Edge e ∷ []) × (s.directed ≡ false)
RefusesFace s e face.NoReversal = AreVisible s (names.Edge e ∷ [])
    × ((s.directed ≡ true) × (visible_reversal s e ≡ None))
