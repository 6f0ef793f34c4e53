-- A right answer to `reach`.
use Rattle.std.proofs.Common.{◌≡◌, ℕ, ◌<◌, [], ◌∷◌, List, length, refl, sym, ap, subst, ◌∙◌}
use Rattle.std.specs.Prelude.{Option, Some, None, MatchOption, slice_get}
use Rattle.std.proofs.lemmas.List.{length-map}
use Rattle.std.proofs.lemmas.Option.{slice_get-get_or}
use Rattle.leda_base.specs.declared.ItemName.TheVariants as items
use Rattle.graph_defs.specs.declared.answer.Reach.{Reach}
use Rattle.graph_defs.specs.declared.net.Net.{Net}
use Rattle.graph_defs.specs.Walk.{IsReach}
use Rattle.graph_state.specs.State.{GraphState, shows_node}
use Rattle.graph_state.specs.Refusals.{AreVisible}
use Rattle.graph_state.proofs.Has.{filter_has}
use Rattle.graph_state.specs.Names.{Has}
use Rattle.hide_restore.specs.declared.shown.Shown.{Shown}
use Rattle.hide_restore.specs.Net.{place_of, arc_of, node_numbers, edge_numbers, shown_net}
use Rattle.hide_restore.proofs.Numbers.{place_here}
use Rattle.script_text.specs.declared.argument.Arg.TheVariants as args
use Rattle.script_text.specs.declared.word.QueryWord.TheVariants as queries
use Rattle.reply_text.specs.declared.reply.Answer.TheVariants as answers
use Rattle.reply_text.specs.declared.reply.Named.{Named}
use Rattle.console_state.specs.State.{State}
use Rattle.console_state.specs.Views.{node_names, edge_names}
use Rattle.console_state.specs.Query.{IsAnswer}
use Rattle.kept_answers.specs.Shown.{IsShown}

-- a name's place among names
abbrev pub IsPlaceOf : List ℕ → ℕ → ℕ → Type 0
IsPlaceOf names v place = Has v names × (place ≡ place_of v names)

pub at_place : (names : List ℕ) (v place : ℕ) → IsPlaceOf names v place → slice_get names place ≡ Some v
at_place names v place at =
    let here = place_here v names at.0 in
    subst (λ k. slice_get names k ≡ Some v) (sym at.1)
    (slice_get-get_or names (place_of v names) 0 here.0 ∙ ap Some here.1)

pub place_below : (names : List ℕ) (v place : ℕ) → IsPlaceOf names v place → place < length names
place_below names v place at = subst (λ k. k < length names) (sym at.1) (place_here v names at.0).0

-- the net has the visible nodes, and the visible edges as arcs
pub net_nodes : (g : GraphState) → (shown_net g).n ≡ length (node_numbers g)
unfolding shown_net
net_nodes g = refl

pub net_arcs : (g : GraphState) → length (shown_net g).arcs ≡ length (edge_numbers g)
unfolding shown_net
net_arcs g = length-map (edge_numbers g) (arc_of g)

module _ (s : State) (shown : Shown) (is : IsShown s.graph shown) where
  pub named_place : (v place : ℕ) → IsPlaceOf shown.places v place → slice_get (node_names s) place ≡ Some v
  named_place v place at = at_place (node_names s) v place (subst (λ names. IsPlaceOf names v place) is.places at)

  -- a visible node has a place
  pub listed_place : (v : ℕ) → AreVisible s.graph (items.Node v ∷ []) → Has v shown.places
  listed_place v see = subst (Has v) (sym is.places) (filter_has (shows_node s.graph) v s.graph.nodes see.0 see.1)

  -- a place among the names is a node of the net
  pub node_below : (v place : ℕ) → IsPlaceOf shown.places v place → place < shown.net.n
  node_below v place at =
      subst (λ n. place < n) (sym (ap (λ (net : Net). net.n) is.net ∙ net_nodes s.graph))
      (place_below (node_names s) v place (subst (λ names. IsPlaceOf names v place) is.places at))

  pub reaches : (v w from to : ℕ) (answer : Reach) (named : Named)
      → IsPlaceOf shown.places v from → IsPlaceOf shown.places w to
      → named.nodes ≡ node_names s → named.edges ≡ edge_names s → named.answer ≡ answers.Reach answer
      → IsReach shown.net from to answer
      → IsAnswer queries.Reach (args.Node v ∷ args.Node w ∷ []) s named
  reaches v w from to answer named at_v at_w nodes edges same right = record {
    nodes = nodes;
    edges = edges;
    right = rw same (from, named_place v from at_v, (to, named_place w to at_w, subst (λ net. IsReach net from to answer) is.net right));
  }

-- what holds where nothing is found
pub never : (found : Option ℕ) (N : Type 0) (P : ℕ → Type 0) → MatchOption found N P → found ≡ None → N
never None N P m e = m
never (Some x) N P m e = cc
