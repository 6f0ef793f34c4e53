use Rattle.std.proofs.Common.{◌≡◌, ℕ, true, List, [], ◌∷◌, sym, ap, ◌∙◌}
use Rattle.std.proofs.lemmas.Bool.{true≢false}
use Rattle.graph_defs.specs.declared.net.Net.{Net}
use Rattle.graph_defs.specs.Net.{target}
use Rattle.graph_defs.specs.Set.{is_in}
use Rattle.graph_defs.specs.Walk.{IsClosedSet, IsWalk}
use Rattle.graph_defs.proofs.Sets.{stays_within}
use Rattle.graph_defs.proofs.laws.closed_set_excludes_walks.Goals as goal

-- a walk that begins in a closed set ends there
ends_within : (net : Net) (v w : ℕ) (nodes : List ℕ) → IsClosedSet net v w nodes
    → (from : ℕ) (arcs : List ℕ) → is_in nodes from ≡ true → IsWalk net from w arcs → is_in nodes w ≡ true
ends_within net v w nodes h from [] there e = sym (ap (is_in nodes) e) ∙ there
ends_within net v w nodes h from (arc ∷ arcs) there walk =
    ends_within net v w nodes h (target net arc) arcs
    (stays_within net (is_in nodes) arc (h.closed arc walk.0) (ap (is_in nodes) walk.1 ∙ there)) walk.2

pub returns : goal.returns
returns c = λ net v w nodes arcs h walk. true≢false (sym (ends_within net v w nodes h v arcs h.cut.has walk) ∙ h.cut.lacks)
