-- Nets in which one blossom after another is contracted, and what comes back through them.
use Rattle.std.proofs.Common.{◌≡◌, ◌≢◌, ℕ, suc, ◌+◌, ◌-◌, ◌<◌, not, List, [], ◌∷◌, ◌++◌, length, get_or, refl, sym, ◌∙◌, ap, subst, arith}
use Rattle.std.specs.List.{filter}
use Rattle.graph_defs.specs.declared.net.Net.{Net}
use Rattle.graph_defs.specs.Net.{IsValid}
use Rattle.graph_defs.specs.Matching.{IsMatching}
use Rattle.graph_defs.proofs.Covers.{covers_bound_matchings}
use Rattle.blossom_lift.specs.Contraction.{inside, is_inner, IsLevel, IsLiftedCover}
use Rattle.blossom_search.specs.declared.found.Outcome.{Outcome}
use Rattle.blossom_search.specs.declared.levels.Shrunk.{Shrunk}
use Rattle.blossom_search.specs.Forest.{IsTight, IsOutcome}
use Rattle.blossom_search.specs.Levels.{IsShrunk, top_net, top_edges, AreLevels}
use Rattle.blossom_search.proofs.Centrals.{central}
use Rattle.blossom_search.proofs.Sizes.{left_and_inner, inner_half, cycle_falls}

-- ---- the last net
pub levels_top : (net : Net) (edges : List ℕ) (shrunk : List Shrunk) → AreLevels net edges shrunk → IsValid (top_net net shrunk) × IsMatching (top_net net shrunk) (top_edges edges shrunk)
levels_top net edges [] h = h
levels_top net edges (s ∷ shrunk) h = levels_top s.level.net s.level.matching.edges shrunk h.3

pub levels_pushed : (net : Net) (edges : List ℕ) (shrunk : List Shrunk) (s : Shrunk) → AreLevels net edges shrunk → IsShrunk (top_net net shrunk) (top_edges edges shrunk) s → AreLevels net edges (shrunk ++ s ∷ [])
levels_pushed net edges [] s h i = (h.0, h.1, i, (i.valid, i.matching))
levels_pushed net edges (t ∷ shrunk) s h i = (h.0, h.1, h.2, levels_pushed t.level.net t.level.matching.edges shrunk s h.3 i)

pub levels_popped : (net : Net) (edges : List ℕ) (shrunk : List Shrunk) (s : Shrunk) → AreLevels net edges (shrunk ++ s ∷ []) → AreLevels net edges shrunk × IsShrunk (top_net net shrunk) (top_edges edges shrunk) s
levels_popped net edges [] s h = ((h.0, h.1), h.2)
levels_popped net edges (t ∷ shrunk) s h = (let i = levels_popped t.level.net t.level.matching.edges shrunk s h.3 in ((h.0, h.1, h.2, i.0), i.1))

pub top_pushed_net : (net : Net) (shrunk : List Shrunk) (s : Shrunk) → top_net net (shrunk ++ s ∷ []) ≡ s.level.net
top_pushed_net net [] s = refl
top_pushed_net net (t ∷ shrunk) s = top_pushed_net t.level.net shrunk s

pub top_pushed_edges : (edges : List ℕ) (shrunk : List Shrunk) (s : Shrunk) → top_edges edges (shrunk ++ s ∷ []) ≡ s.level.matching.edges
top_pushed_edges edges [] s = refl
top_pushed_edges edges (t ∷ shrunk) s = top_pushed_edges t.level.matching.edges shrunk s

pub top_none_net : (net : Net) (shrunk : List Shrunk) → length shrunk ≡ 0 → top_net net shrunk ≡ net
top_none_net net [] e = refl
top_none_net net (s ∷ shrunk) e = absurd (omega arith)

pub top_none_edges : (edges : List ℕ) (shrunk : List Shrunk) → length shrunk ≡ 0 → top_edges edges shrunk ≡ edges
top_none_edges edges [] e = refl
top_none_edges edges (s ∷ shrunk) e = absurd (omega arith)

pub top_last_net : (net : Net) (shrunk : List Shrunk) (k : ℕ) (d : Shrunk) → length shrunk ≡ k + 1 → top_net net shrunk ≡ (get_or shrunk k d).level.net
top_last_net net [] k d e = absurd (omega arith)
top_last_net net (s ∷ []) k d e = (let z : 0 ≡ k = omega arith in ap (λ (j : ℕ). (get_or (s ∷ []) j d).level.net) z)
top_last_net net (s ∷ t ∷ shrunk) k d e =
    let y : suc (k - 1) ≡ k = omega arith in
    top_last_net s.level.net (t ∷ shrunk) (k - 1) d (omega arith) ∙ ap (λ (j : ℕ). (get_or (s ∷ t ∷ shrunk) j d).level.net) y

pub top_last_edges : (edges : List ℕ) (shrunk : List Shrunk) (k : ℕ) (d : Shrunk) → length shrunk ≡ k + 1 → top_edges edges shrunk ≡ (get_or shrunk k d).level.matching.edges
top_last_edges edges [] k d e = absurd (omega arith)
top_last_edges edges (s ∷ []) k d e = (let z : 0 ≡ k = omega arith in ap (λ (j : ℕ). (get_or (s ∷ []) j d).level.matching.edges) z)
top_last_edges edges (s ∷ t ∷ shrunk) k d e =
    let y : suc (k - 1) ≡ k = omega arith in
    top_last_edges s.level.matching.edges (t ∷ shrunk) (k - 1) d (omega arith) ∙ ap (λ (j : ℕ). (get_or (s ∷ t ∷ shrunk) j d).level.matching.edges) y

-- ---- the last net as it is had
pub top_is : (net : Net) (edges : List ℕ) (shrunk seen : List Shrunk) (small : Net) (left : List ℕ) → AreLevels net edges shrunk → seen ≡ shrunk → small ≡ top_net net seen → left ≡ top_edges edges seen
    → IsValid small × IsMatching small left
top_is net edges shrunk seen small left h e n m =
    let t = levels_top net edges shrunk h in
    let k : small ≡ top_net net shrunk = n ∙ ap (top_net net) e in
    let j : left ≡ top_edges edges shrunk = m ∙ ap (top_edges edges) e in (
      subst IsValid (sym k) t.0,
      subst (IsMatching small) (sym j) (subst (λ (x : Net). IsMatching x (top_edges edges shrunk)) (sym k) t.1),
    )

shrunk_at : (small top : Net) (left edges : List ℕ) (s : Shrunk) → small ≡ top → left ≡ edges → IsShrunk small left s → IsShrunk top edges s
shrunk_at small top left edges s k j h = subst (λ (x : Net). IsShrunk x edges s) k (subst (λ (es : List ℕ). IsShrunk small es s) j h)

pub levels_grown : (net : Net) (edges : List ℕ) (shrunk seen more : List Shrunk) (small : Net) (left : List ℕ) (s : Shrunk) → AreLevels net edges shrunk → seen ≡ shrunk → small ≡ top_net net seen → left ≡ top_edges edges seen
    → IsShrunk small left s → more ≡ shrunk ++ s ∷ [] → AreLevels net edges more
levels_grown net edges shrunk seen more small left s h e n m i q =
    subst (AreLevels net edges) (sym q)
    (levels_pushed net edges shrunk s h (shrunk_at small (top_net net shrunk) left (top_edges edges shrunk) s (n ∙ ap (top_net net) e) (m ∙ ap (top_edges edges) e) i))

pub levels_shrunk : (net : Net) (edges : List ℕ) (shrunk less : List Shrunk) (s : Shrunk) → AreLevels net edges shrunk → shrunk ≡ less ++ s ∷ [] → AreLevels net edges less × IsShrunk (top_net net less) (top_edges edges less) s
levels_shrunk net edges shrunk less s h q = levels_popped net edges less s (subst (AreLevels net edges) q h)

pub shrunk_seen : (net : Net) (edges : List ℕ) (less seen : List Shrunk) (large : Net) (matching : List ℕ) (s : Shrunk) → IsShrunk (top_net net less) (top_edges edges less) s → seen ≡ less → large ≡ top_net net seen → matching ≡ top_edges edges seen
    → IsShrunk large matching s
shrunk_seen net edges less seen large matching s h e n m =
    shrunk_at (top_net net less) large (top_edges edges less) matching s (sym (n ∙ ap (top_net net) e)) (sym (m ∙ ap (top_edges edges) e)) h

pub outcome_at : (small top : Net) (left edges : List ℕ) (o : Outcome) → small ≡ top → left ≡ edges → IsOutcome small left o → IsOutcome top edges o
outcome_at small top left edges o k j h = subst (λ (x : Net). IsOutcome x edges o) k (subst (λ (es : List ℕ). IsOutcome small es o) j h)

pub outcome_popped : (net : Net) (edges : List ℕ) (shrunk less : List Shrunk) (s : Shrunk) (o : Outcome) → shrunk ≡ less ++ s ∷ [] → IsOutcome (top_net net shrunk) (top_edges edges shrunk) o
    → IsOutcome s.level.net s.level.matching.edges o
outcome_popped net edges shrunk less s o q h = outcome_at (top_net net shrunk) s.level.net (top_edges edges shrunk) s.level.matching.edges o (ap (top_net net) q ∙ top_pushed_net net less s) (ap (top_edges edges) q ∙ top_pushed_edges edges less s) h

pub outcome_seen : (net : Net) (edges : List ℕ) (less seen : List Shrunk) (large : Net) (matching : List ℕ) (o : Outcome) → seen ≡ less → large ≡ top_net net seen → matching ≡ top_edges edges seen → IsOutcome large matching o
    → IsOutcome (top_net net less) (top_edges edges less) o
outcome_seen net edges less seen large matching o e n m h = outcome_at large (top_net net less) matching (top_edges edges less) o (n ∙ ap (top_net net) e) (m ∙ ap (top_edges edges) e) h

pub outcome_first : (net : Net) (edges : List ℕ) (shrunk : List Shrunk) (o : Outcome) → length shrunk ≡ 0 → IsOutcome (top_net net shrunk) (top_edges edges shrunk) o → IsOutcome net edges o
outcome_first net edges shrunk o z h = outcome_at (top_net net shrunk) net (top_edges edges shrunk) edges o (top_none_net net shrunk z) (top_none_edges edges shrunk z) h

-- ---- one blossom
pub shrunk_falls : (net : Net) (edges : List ℕ) (s : Shrunk) → IsValid net → IsShrunk net edges s → s.level.net.n < net.n
shrunk_falls net edges s valid h =
    let f = cycle_falls net edges s.blossom.nodes s.blossom.edges valid h.cycle in
    let n = h.level_of.contracted.nodes in
    omega arith

pub hub_not_one : (net : Net) (edges : List ℕ) (s : Shrunk) (cover : List ℕ) → IsShrunk net edges s → IsTight s.level.net s.level.matching.edges cover → get_or cover s.level.hub 0 ≢ 1
hub_not_one net edges s cover h t one =
    let n = h.level_of.contracted.nodes in
    let l = h.level_of.last in
    central s.level.net s.level.matching.edges cover h.stem.path h.stem.from s.level.hub h.stem.nodes h.valid h.matching t.covers_all t.size h.stem.stem (omega arith) one

pub level_is : (net : Net) (edges : List ℕ) (s : Shrunk) → IsMatching net edges → IsShrunk net edges s → IsLevel net s.blossom s.level
level_is net edges s m h = record { edges = edges; matching = m; cycle = h.cycle; level_of = h.level_of }

pub tight_lifted : (net : Net) (edges : List ℕ) (s : Shrunk) (cover lifted : List ℕ) → IsValid net → IsMatching net edges → IsShrunk net edges s → IsTight s.level.net s.level.matching.edges cover
    → IsLiftedCover net s.blossom cover lifted → IsTight net edges lifted
tight_lifted net edges s cover lifted valid m h t l =
    let b = covers_bound_matchings net edges lifted valid m l.covers_all in
    let q = left_and_inner (is_inner (inside s.blossom.nodes) net) edges in
    let k = inner_half net edges s.blossom.nodes s.blossom.edges h.cycle in
    let left : length s.level.matching.edges ≡ length (filter (λ arc. not (is_inner (inside s.blossom.nodes) net arc)) edges) = ap length h.level_of.contracted.matching in
    let size = t.size in
    let grown = l.size in
    record { covers_all = l.covers_all; size = omega arith }

pub levels_fall : (net : Net) (edges : List ℕ) (shrunk seen more : List Shrunk) (small : Net) (left : List ℕ) (s : Shrunk) → AreLevels net edges shrunk → seen ≡ shrunk → small ≡ top_net net seen → left ≡ top_edges edges seen
    → IsShrunk small left s → more ≡ shrunk ++ s ∷ [] → (top_net net more).n < (top_net net shrunk).n
levels_fall net edges shrunk seen more small left s h e n m i q =
    let t = top_is net edges shrunk seen small left h e n m in
    let f = shrunk_falls small left s t.0 i in
    let a : (top_net net more).n ≡ s.level.net.n = ap (λ (x : Net). x.n) (ap (top_net net) q ∙ top_pushed_net net shrunk s) in
    let b : small.n ≡ (top_net net shrunk).n = ap (λ (x : Net). x.n) (n ∙ ap (top_net net) e) in
    omega arith
