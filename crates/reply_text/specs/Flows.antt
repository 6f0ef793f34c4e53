-- The words of an answer on a maximum flow.
use Rattle.std.specs.Prelude.{◌≡◌, ℕ, ◌<◌, ℤ, pos, Bool, not, List, [], ◌∷◌, ◌++◌, map, length, codes, All, if◌then◌else◌}
use Rattle.std.specs.Fmt.{signed_decimal}
use Rattle.std.specs.List.{filter, range_with_len}
use Rattle.std.specs.Ordering.{int_eq}
use Rattle.graph_defs.specs.declared.flow.FlowAnswer.{FlowAnswer}
use Rattle.graph_defs.specs.Sum.{at}
use Rattle.reply_text.specs.Words.{word_at, value_text}

-- something flows along an arc
abbrev pub carries : List ℤ → ℕ → Bool
carries flow arc = not (int_eq (at flow arc) (pos 0))

-- the arcs below k along which something flows
abbrev pub carriers_below : List ℤ → ℕ → List ℕ
carriers_below flow k = filter (carries flow) (range_with_len 0 k)

-- an arc, where something flows along it
abbrev pub itself : List ℤ → ℕ → List ℕ
itself flow arc = if carries flow arc then arc ∷ [] else []

-- all of them
abbrev pub carriers : List ℤ → List ℕ
carriers flow = carriers_below flow (length flow)

-- an edge, and what flows along it behind a colon
abbrev pub carried_word : List ℕ → List ℤ → ℕ → List ℕ
carried_word edges flow arc = word_at (codes "e") edges arc ++ value_text (at flow arc)

-- so for each of several
abbrev pub carried_words : List ℕ → List ℤ → List ℕ → List (List ℕ)
carried_words edges flow arcs = map (carried_word edges flow) arcs

-- the value of a flow
abbrev pub flow_words : FlowAnswer → List (List ℕ)
flow_words answer = codes "maxflow" ∷ signed_decimal answer.value ∷ []

-- each arc has a name, and each node of the cut
pub record IsFlowNamed (nodes edges : List ℕ) (answer : FlowAnswer) : Type 0 where
  pub flow : length answer.flow ≡ length edges
  pub cut : All (λ node. node < length nodes) answer.cut
