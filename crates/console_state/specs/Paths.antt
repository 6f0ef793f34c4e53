-- Private: the two searches for shortest paths, as one.
use Rattle.std.specs.Prelude.{ℤ, pos, ◌≤ℤ◌, List, All}
use Rattle.script_text.specs.declared.word.QueryWord.{QueryWord}
use Rattle.script_text.specs.declared.word.QueryWord.TheVariants as queries
use Rattle.sp_search.specs.declared.refusals.SpRefusal.{SpRefusal}
use Rattle.sp_search.specs.Refusals.{sizes, AsksLow, MayRefuse as RefusesBound}
use Rattle.console_state.specs.declared.paths.PathSearch.{PathSearch}
use Rattle.console_state.specs.declared.paths.PathSearch.TheVariants.{Sp, Dijkstra}

-- the word that asks for it
abbrev pub word_of : PathSearch → QueryWord
word_of Sp = queries.Sp
word_of Dijkstra = queries.Dijkstra

-- it takes the costs
abbrev pub IsAllowed : PathSearch → List ℤ → Type 0
IsAllowed Sp cost = sizes cost ≤ℤ pos 4611686018427387903
IsAllowed Dijkstra cost = All (λ c. pos 0 ≤ℤ c) cost × (sizes cost ≤ℤ pos 4611686018427387903)

-- why it doesn't
abbrev pub MayRefuse : PathSearch → List ℤ → SpRefusal → Type 0
MayRefuse Sp cost refusal = RefusesBound cost refusal
MayRefuse Dijkstra cost refusal = AsksLow cost refusal
