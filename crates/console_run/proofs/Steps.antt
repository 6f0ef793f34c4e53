-- How a session goes on by a line.
use Rattle.std.proofs.Common.{◌≡◌, ℕ, List, [], ◌∷◌, ◌++◌, refl, ap, sym, ◌∙◌, subst, append-nil}
use Rattle.std.specs.Prelude.{Option}
use Rattle.std.proofs.lemmas.Grind.{flat_map-append}
use Rattle.reply_text.specs.declared.reply.Reply.{Reply}
use Rattle.console_state.specs.State.{State}
use Rattle.leda_edge.specs.Stored.{Stored}
use Rattle.console_run.specs.Session.{LineStep, Session, answer_text, texts}

-- one more line behind a session
pub session-more : (s : State) (f : Stored) (lines : List (List ℕ)) (answers : List (Option Reply))
    (m : State) (g : Stored)
    (line : List ℕ) (answer : Option Reply) (s' : State) (f' : Stored)
    → Session s f lines answers m g → LineStep m g line answer s' f'
    → Session s f (lines ++ line ∷ []) (answers ++ answer ∷ []) s' f'
session-more s f [] answers m g line answer s' f' h step = record {
  answer = answer;
  later = [];
  state = s';
  files = f';
  first = subst (λ t. LineStep t f line answer s' f') h.1.state
      (subst (λ k. LineStep m k line answer s' f') h.1.files step);
  others = (refl, record { state = refl; files = refl });
  all = ap (λ all. all ++ answer ∷ []) h.0;
}
session-more s f (l ∷ ls) answers m g line answer s' f' h step = record {
  answer = h.answer;
  later = h.later ++ answer ∷ [];
  state = h.state;
  files = h.files;
  first = h.first;
  others = session-more h.state h.files ls h.later m g line answer s' f' h.others step;
  all = ap (λ all. all ++ answer ∷ []) h.all;
}

-- the texts of one more answer
pub texts-more : (answers : List (Option Reply)) (answer : Option Reply)
    → texts answers ++ answer_text answer ≡ texts (answers ++ answer ∷ [])
texts-more answers answer =
    sym (flat_map-append answer_text answers (answer ∷ [])
    ∙ ap (λ t. texts answers ++ t) (append-nil (answer_text answer)))
