-- What a session holds.
use Rattle.std.specs.Prelude.{true, Option, None, refl}
use Rattle.std.specs.Coded.{Coded, code_by, coded×, coded_option}
use Rattle.graph_state.specs.State.{GraphState, empty_graph, state_code}
use Rattle.object_store.specs.State.{ObjectState, no_objects, objects_code}
use Rattle.reply_text.specs.Outcome.{Outcome}
use Rattle.kept_answers.specs.declared.answers.KeptAnswers.{KeptAnswers}
use Rattle.kept_answers.specs.Carried.{Carried}
use Rattle.kept_answers.specs.Codes.{told_code, carried_code}
use Rattle.kept_answers.specs.Kept.{Matched, matched_code}
use Rattle.kept_answers.specs.Told.{Told}

-- the graph, where the node of number k is called `nk`, and the edge of number k `ek`; the objects
-- by their names, where the item of number k is called `ik`; and the last answer of each sort that
-- is kept
pub record State : Type 0 where
  pub graph : GraphState
  pub objects : ObjectState
  pub kept : KeptAnswers

abbrev pub kept_code : Coded KeptAnswers
kept_code = code_by (Option Told × (Option Carried × Option Matched))
    (coded× (coded_option told_code) (coded× (coded_option carried_code) (coded_option matched_code)))
    (λ k. (k.sp, (k.flow, k.matching)))
    (λ p. record { sp = p.0; flow = p.1.0; matching = p.1.1 }) (λ _. refl)

abbrev pub session_code : Coded State
session_code = code_by (GraphState × (ObjectState × KeptAnswers))
    (coded× state_code (coded× objects_code kept_code))
    (λ s. (s.graph, (s.objects, s.kept)))
    (λ p. record { graph = p.0; objects = p.1.0; kept = p.1.1 }) (λ _. refl)

-- how a session begins: with a directed graph of no nodes, no objects, and nothing kept
abbrev pub empty : State
empty = record {
  graph = empty_graph true;
  objects = no_objects;
  kept = record { sp = None; flow = None; matching = None };
}

-- what a change of the graph makes of the session, and what one of the objects does
abbrev pub on_graph : State → Outcome GraphState → Outcome State
on_graph s outcome = (record s { graph = outcome.0 }, outcome.1)

abbrev pub on_objects : State → Outcome ObjectState → Outcome State
on_objects s outcome = (record s { objects = outcome.0 }, outcome.1)
