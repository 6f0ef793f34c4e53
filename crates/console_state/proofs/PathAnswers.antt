-- Right answers to `sp` and `dijkstra`, and what they are refused by.
use Rattle.std.proofs.Common.{◌≡◌, ℕ, zero, suc, ◌<◌, ℤ, List, [], ◌∷◌, length, get_or, All, refl, sym, ap, subst, ◌∙◌, arith}
use Rattle.std.proofs.lemmas.List.{length-map}
use Rattle.std.specs.Prelude.{Some, None, slice_index}
use Rattle.graph_defs.specs.declared.shortest.SpAnswer.{SpAnswer}
use Rattle.graph_defs.specs.Shortest.{IsInRange, IsSpAnswer}
use Rattle.hide_restore.specs.declared.shown.Shown.{Shown}
use Rattle.graph_state.specs.declared.item.EdgeItem.{EdgeItem}
use Rattle.hide_restore.specs.Net.{numbers_of_edges, shown_net}
use Rattle.kept_answers.specs.Shown.{IsShown}
use Rattle.reply_text.specs.declared.reply.Answer.TheVariants as answers
use Rattle.reply_text.specs.declared.reply.Named.{Named}
use Rattle.reply_text.specs.Text.{IsAnswerNamed}
use Rattle.reply_text.specs.declared.refusal.Refusal.TheVariants.{Negative, Bound}
use Rattle.reply_text.proofs.SpNames.{sp_named}
use Rattle.script_text.specs.declared.argument.Arg.{Arg}
use Rattle.script_text.specs.declared.argument.Arg.TheVariants as args
use Rattle.sp_search.specs.declared.refusals.SpRefusal.TheVariants as refused
use Rattle.sp_search.specs.Refusals.{sizes}
use Rattle.console_state.specs.declared.paths.PathSearch.{PathSearch}
use Rattle.console_state.specs.declared.paths.PathSearch.TheVariants.{Sp, Dijkstra}
use Rattle.console_state.specs.State.{State}
use Rattle.console_state.specs.Views.{node_names, edge_names}
use Rattle.console_state.specs.Costs.{value_in, edge_values, costs, uncovered}
use Rattle.console_state.specs.Paths.{word_of, IsAllowed, MayRefuse}
use Rattle.console_state.specs.Query.{broken, IsRight, IsTold}
use Rattle.console_state.specs.Told.{IsNamedSo}
use Rattle.console_state.proofs.Named.{nodes_named, edges_named}
use Rattle.console_state.proofs.Priced.{none-negative, first-negative, within-bound, beyond-bound}
use Rattle.console_state.proofs.Reaches.{IsPlaceOf, named_place}

-- ---- names and costs of what the net numbers
module _ (s : State) (shown : Shown) (is : IsShown s.graph shown) where
  pub path-named : (a : SpAnswer) (named : Named) → IsNamedSo s (answers.Sp a) named → IsInRange shown.net a
      → IsAnswerNamed named.nodes named.edges named.answer
  path-named a named so range = rw (so.nodes, so.edges, so.answer)
      (sp_named shown.net (node_names s) (edge_names s) a (nodes_named s shown is) (edges_named s shown is) range)

  pub costs-long : (name : List ℕ) (cost : List ℤ) → cost ≡ costs s name → length cost ≡ length shown.net.arcs
  costs-long name cost same =
      ap length same ∙ length-map (edge_names s) (value_in (edge_values s name)) ∙ edges_named s shown is

  -- each arc stands for a visible edge
  pub arc-inside : (arc : ℕ) → arc < length shown.net.arcs → arc < length shown.edges
  arc-inside arc within =
      subst (λ k. arc < k) (sym (edges_named s shown is) ∙ ap length (sym is.edges) ∙ length-map shown.edges (λ e. e.0.serial)) within

  -- the number in the name of an arc
  pub arc-number : (arc : ℕ) → arc < length shown.net.arcs → (e : EdgeItem)
      → (get_or shown.edges arc e).0.serial ≡ slice_index (edge_names s) arc
  arc-number arc within e =
      sym (number_at shown.edges arc e (arc-inside arc within)) ∙ ap (λ ks. slice_index ks arc) is.edges
    where
      number_at : (es : List EdgeItem) (k : ℕ) (e : EdgeItem) → k < length es
          → slice_index (numbers_of_edges es) k ≡ (get_or es k e).0.serial
      number_at [] k e lt = absurd (omega (arith, lt))
      number_at (x ∷ es) zero e lt = refl
      number_at (x ∷ es) (suc k) e lt = number_at es k e (omega (arith, lt))

-- ---- what a search is refused by, and what it is answered
pub path-known : (cost : List ℤ) (search : PathSearch) (arc : ℕ) → MayRefuse search cost (refused.Negative arc) → arc < length cost
path-known cost Sp arc is = absurd is
path-known cost Dijkstra arc is = is.known

module _ (s : State) (name : List ℕ) (cost : List ℤ) (v : ℕ) (same : cost ≡ costs s name) (covered : uncovered s name ≡ None) where
  abbrev said : List Arg
  said = args.Node v ∷ args.Name name ∷ []

  pub path-allowed : (search : PathSearch) → IsAllowed search cost → broken (word_of search) said s ≡ None
  path-allowed Sp within = rw covered (within-bound s name cost same sizes within)
  path-allowed Dijkstra (all, within) = rw (covered, none-negative s name cost same all) (within-bound s name cost same sizes within)

  pub path-beyond : (search : PathSearch) → MayRefuse search cost refused.Bound → broken (word_of search) said s ≡ Some Bound
  path-beyond Sp beyond = rw covered (beyond-bound s name cost same sizes beyond)
  path-beyond Dijkstra (all, beyond) = rw (covered, none-negative s name cost same all) (beyond-bound s name cost same sizes beyond)

  pub path-negative : (search : PathSearch) (arc : ℕ) → MayRefuse search cost (refused.Negative arc)
      → broken (word_of search) said s ≡ Some (Negative (slice_index (edge_names s) arc))
  path-negative Sp arc is = absurd is
  path-negative Dijkstra arc is = rw (covered, first-negative s name cost same arc is) refl

  module _ (shown : Shown) (is : IsShown s.graph shown) (source : ℕ) (at : IsPlaceOf shown.places v source) (a : SpAnswer)
      (right : IsSpAnswer shown.net source cost a) where
    there : IsSpAnswer (shown_net s.graph) source (costs s name) a
    there = subst (λ c. IsSpAnswer (shown_net s.graph) source c a) same (subst (λ net. IsSpAnswer net source cost a) is.net right)

    pub path-right : (search : PathSearch) → IsRight (word_of search) said s (answers.Sp a)
    path-right Sp = (source, named_place s shown is v source at, there)
    path-right Dijkstra = (source, named_place s shown is v source at, there)

    pub path-told : (search : PathSearch) (named : Named) → IsNamedSo s (answers.Sp a) named → IsTold (word_of search) said s named
    path-told Sp named so = record { nodes = so.nodes; edges = so.edges; right = rw so.answer (path-right Sp) }
    path-told Dijkstra named so = record { nodes = so.nodes; edges = so.edges; right = rw so.answer (path-right Dijkstra) }
