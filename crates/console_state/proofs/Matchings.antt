-- A right answer to `matching`, and what it numbers has a name.
use Rattle.std.proofs.Common.{◌≡◌, ℕ, ◌<◌, [], List, All, length, sym, ap, subst, ◌∙◌, arith}
use Rattle.graph_defs.specs.declared.matching.MatchAnswer.{MatchAnswer}
use Rattle.graph_defs.specs.Matching.{IsMatchAnswer}
use Rattle.graph_state.specs.Formed.{IsFormed}
use Rattle.hide_restore.proofs.Visible.{nodes_once, nodes_few}
use Rattle.hide_restore.specs.declared.shown.Shown.{Shown}
use Rattle.script_text.specs.declared.word.QueryWord.TheVariants as queries
use Rattle.script_text.specs.declared.word.Word.TheVariants.{Query}
use Rattle.reply_text.specs.declared.reply.Answer.TheVariants as answers
use Rattle.reply_text.specs.declared.reply.Named.{Named}
use Rattle.reply_text.specs.declared.reply.Reply.TheVariants as replies
use Rattle.reply_text.specs.Text.{IsAnswerNamed, IsMatchNamed}
use Rattle.console_state.specs.Keeping.{IsToKeep}
use Rattle.console_state.specs.State.{State}
use Rattle.console_state.specs.Views.{node_names, edge_names}
use Rattle.console_state.specs.Query.{IsAnswer}
use Rattle.console_state.specs.Told.{IsNamedSo}
use Rattle.kept_answers.specs.Shown.{IsShown}
use Rattle.console_state.proofs.Named.{nodes_named, edges_named}

module _ (s : State) (shown : Shown) (is : IsShown s.graph shown) (answer : MatchAnswer) (named : Named)
    (so : IsNamedSo s (answers.Matching answer) named) (right : IsMatchAnswer shown.net answer) where
  pub matches : IsAnswer queries.Matching [] s named
  matches = record {
    nodes = so.nodes;
    edges = so.edges;
    right = rw so.answer (subst (λ net. IsMatchAnswer net answer) is.net right);
  }

  -- each edge is an arc of the net, and each node has a label
  names : IsMatchNamed (node_names s) (edge_names s) answer
  names = record {
    edges = subst (λ (n : ℕ). All (λ edge. edge < n) answer.edges) (sym (edges_named s shown is)) right.matching.among;
    cover = right.cover.long ∙ sym (nodes_named s shown is);
  }

  pub match-named : IsAnswerNamed named.nodes named.edges named.answer
  match-named = rw (so.nodes, so.edges, so.answer) names

  -- it can be kept
  pub keeps : IsFormed s.graph → IsToKeep (record { word = Query queries.Matching; args = [] }) (replies.Query named)
  keeps formed = rw (so.nodes, so.edges, so.answer) (record {
    named = names;
    once = nodes_once s.graph formed;
    few = let few = nodes_few s.graph formed in omega (arith, few);
  })
