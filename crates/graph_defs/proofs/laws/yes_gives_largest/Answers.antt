use Rattle.std.proofs.Common.{◌≡◌, ◌∙◌, ap, ℕ, ◌<◌, true, length, get_or, arith}
use Rattle.std.proofs.lemmas.List.{get_or_default}
use Rattle.graph_defs.specs.Net.{Ends}
use Rattle.graph_defs.specs.Matching.{covers}
use Rattle.graph_defs.proofs.Covers.{covers_bound_matchings}
use Rattle.graph_defs.proofs.laws.yes_gives_largest.Goals as goal

pub returns : goal.returns
returns c = λ net a others valid h m.
    let arc_covered : (k : ℕ) (d : Ends) → k < length net.arcs → covers a.cover (get_or net.arcs k d) ≡ true = λ k d l.
    ap (covers a.cover) (get_or_default net.arcs k d (0, 0) l) ∙ h.1.1.1.0 k l in
    let size = h.1.1.1.1.0 0 in
    let bound = covers_bound_matchings net others a.cover valid m (record { long = (h.0 0).cover; all = arc_covered }) in
    omega arith
