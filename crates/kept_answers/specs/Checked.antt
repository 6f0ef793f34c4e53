-- The verdict on an answer that is kept, of the graph as it is now.
use Rattle.std.specs.Prelude.{◌≡◌, ℕ, Bool, not, ◌==◌, List, [], ◌∷◌, map, find, Option, MatchOption}
use Rattle.std.specs.List.{list_any}
use Rattle.graph_defs.specs.declared.matching.MatchAnswer.{MatchAnswer}
use Rattle.graph_defs.specs.declared.verdict.Cond.{Cond}
use Rattle.graph_defs.specs.declared.verdict.Cond.TheVariants.{Gone, Missing}
use Rattle.graph_defs.specs.declared.verdict.Verdict.{Verdict}
use Rattle.graph_defs.specs.declared.verdict.Verdict.TheVariants.{No}
use Rattle.graph_defs.specs.Matching.{MatchHolds, match_order}
use Rattle.graph_defs.specs.Verdict.{IsVerdict}
use Rattle.graph_state.specs.State.{GraphState}
use Rattle.hide_restore.specs.Net.{place_of, node_numbers, edge_numbers, shown_net}
use Rattle.reply_text.specs.declared.reply.Answer.TheVariants as answers
use Rattle.reply_text.specs.declared.reply.Named.{Named}
use Rattle.kept_answers.specs.Kept.{Matched, entries_at}

-- the number is in the list
abbrev pub is_listed : ℕ → List ℕ → Bool
is_listed number numbers = list_any (λ k. k == number) numbers

-- the first of some numbers that isn't among others
abbrev pub first_outside : List ℕ → List ℕ → Option ℕ
first_outside numbers among = find (λ k. not (is_listed k among)) numbers

-- the place of each number in a list
abbrev pub places_in : List ℕ → List ℕ → List ℕ
places_in among numbers = map (λ number. place_of number among) numbers

-- a condition is broken by the one node or the one edge that is named
abbrev pub about_node : Cond → ℕ → Named
about_node cond v =
    record { nodes = v ∷ []; edges = []; answer = answers.Verdict (No cond 0) }

abbrev pub about_edge : Cond → ℕ → Named
about_edge cond e =
    record { nodes = []; edges = e ∷ []; answer = answers.Verdict (No cond 0) }

-- the verdict of a checker, whose conditions these are, on the visible graph
pub record IsVerdictOn (g : GraphState) (Holds : Cond → ℕ → Type 0) (conds : List Cond)
    (named : Named) : Type 0 where
  pub nodes : named.nodes ≡ node_numbers g
  pub edges : named.edges ≡ edge_numbers g
  pub verdict : Verdict
  pub answer : named.answer ≡ answers.Verdict verdict
  pub right : IsVerdict Holds conds verdict

-- an answer to `matching` as the net numbers the nodes and edges now
abbrev pub renumbered : GraphState → Matched → MatchAnswer
renumbered g k = record {
  edges = places_in (edge_numbers g) k.edges;
  cover = entries_at k.labels (places_in k.nodes (node_numbers g));
}

-- The verdict on an answer to `matching`: the first chosen edge that isn't visible is gone, or else
-- the first node with a label that isn't, or else a visible node without a label is missing; where
-- there is none of these, it is that of the checker.
abbrev pub IsMatchChecked : GraphState → Matched → Named → Type 0
IsMatchChecked g k named =
    MatchOption (first_outside k.edges (edge_numbers g))
    (MatchOption (first_outside k.nodes (node_numbers g))
    (MatchOption (first_outside (node_numbers g) k.nodes)
    (IsVerdictOn g (MatchHolds (shown_net g) (renumbered g k)) match_order named)
    (λ v. named ≡ about_node Missing v))
    (λ v. named ≡ about_node Gone v))
    (λ e. named ≡ about_edge Gone e)
