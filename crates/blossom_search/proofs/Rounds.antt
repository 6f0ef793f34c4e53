-- The end of a forest.
use Rattle.std.proofs.Common.{◌≡◌, ℕ, Bool, List, [], length, subst}
use Rattle.std.specs.Prelude.{Option, None, MatchOption}
use Rattle.graph_defs.specs.declared.net.Net.{Net}
use Rattle.graph_defs.specs.Net.{IsValid}
use Rattle.graph_defs.specs.Matching.{IsMatching}
use Rattle.blossom_lift.specs.Passes.{marked}
use Rattle.blossom_search.specs.declared.forest.Forest.{Forest}
use Rattle.blossom_search.specs.declared.found.Found.{Found}
use Rattle.blossom_search.specs.Closed.{AreLabels}
use Rattle.blossom_search.specs.Forest.{IsTight, IsStarted}
use Rattle.blossom_search.proofs.Closings.{closed_cover, closed_size}
use Rattle.blossom_search.proofs.Forests.{closed}

-- what holds where nothing is found
pub not_found : (found : Option Found) (P : Type 0) (Q : Found → Type 0) → found ≡ None → MatchOption found P Q → P
not_found found P Q e h = subst (λ (o : Option Found). MatchOption o P Q) e h

-- the labels of a forest in which no stem waits
pub labels_tight : (net : Net) (edges labels : List ℕ) (f : Forest) (evens odds : List Bool) → IsValid net → IsMatching net edges → IsStarted net edges net.n f → f.waiting.items ≡ [] → evens ≡ f.evens.items → odds ≡ f.odds.items
    → AreLabels (length evens) (marked evens) (marked odds) labels → IsTight net edges labels
labels_tight net edges labels f evens odds valid m h w e o a =
    let c = closed net edges f m h w in
    let even : ℕ → Bool = marked f.evens.items in
    let odd : ℕ → Bool = marked f.odds.items in
    let l : AreLabels net.n even odd labels = subst (λ (k : ℕ). AreLabels k even odd labels) h.forest.even_long
    (subst (λ (xs : List Bool). AreLabels (length f.evens.items) even (marked xs) labels) o
    (subst (λ (xs : List Bool). AreLabels (length xs) (marked xs) (marked odds) labels) e a)) in
    record {
      covers_all = closed_cover net edges even odd labels valid c l;
      size = closed_size net edges even odd labels valid m c l;
    }
