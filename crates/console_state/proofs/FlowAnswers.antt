-- Right answers to `maxflow`, and what it is refused by.
use Rattle.std.proofs.Common.{◌≡◌, ◌≢◌, ℕ, ◌<◌, ◌==◌, ℤ, pos, ◌≤ℤ◌, Bool, true, false, cond, List, [], ◌∷◌, length, All, inl, inr, refl, sym, ap, subst, ◌∙◌, arith}
use Rattle.std.specs.Prelude.{◌<ℤ◌, Option, Some, None, slice_get, slice_index, unwrap_or}
use Rattle.flow_net.specs.declared.refusals.FlowRefusal.TheVariants as refused
use Rattle.flow_net.specs.Refusals.{sum_of, AreLow, IsFirstNegative}
use Rattle.graph_defs.specs.declared.flow.FlowAnswer.{FlowAnswer}
use Rattle.graph_defs.specs.declared.net.Net.{Net}
use Rattle.graph_defs.specs.Flow.{IsFlowAnswer}
use Rattle.graph_state.specs.Formed.{IsFormed}
use Rattle.graph_state.specs.State.{shows_edge}
use Rattle.graph_state.proofs.Has.{once_filter}
use Rattle.graph_state.proofs.Removed.{edges_once}
use Rattle.graph_state.proofs.Same.{nat_tells}
use Rattle.hide_restore.proofs.Visible.{edges_few}
use Rattle.hide_restore.specs.declared.shown.Shown.{Shown}
use Rattle.hide_restore.specs.Net.{place_of, shown_net}
use Rattle.kept_answers.specs.Shown.{IsShown}
use Rattle.leda_base.specs.Name.{IsShortName}
use Rattle.reply_text.specs.declared.reply.Answer.TheVariants as answers
use Rattle.reply_text.specs.declared.reply.Named.{Named}
use Rattle.reply_text.specs.declared.reply.Reply.TheVariants as replies
use Rattle.reply_text.specs.declared.refusal.Refusal.TheVariants.{Same, Negative, Bound}
use Rattle.reply_text.specs.Flows.{IsFlowNamed}
use Rattle.reply_text.specs.Text.{IsAnswerNamed}
use Rattle.script_text.specs.declared.argument.Arg.{Arg}
use Rattle.script_text.specs.declared.argument.Arg.TheVariants as args
use Rattle.script_text.specs.declared.word.QueryWord.TheVariants as queries
use Rattle.script_text.specs.declared.word.Word.TheVariants.{Query}
use Rattle.sp_search.specs.Refusals.{IsFirstNegative as IsFirstBelow}
use Rattle.console_state.specs.State.{State}
use Rattle.console_state.specs.Views.{node_names, edge_names}
use Rattle.console_state.specs.Costs.{costs, uncovered}
use Rattle.console_state.specs.Keeping.{IsToKeep}
use Rattle.console_state.specs.Query.{broken, same_ends, IsTold}
use Rattle.console_state.specs.Told.{IsNamedSo}
use Rattle.console_state.proofs.Named.{nodes_named, edges_named}
use Rattle.console_state.proofs.Priced.{none-negative, first-negative, within-bound, beyond-bound}
use Rattle.console_state.proofs.Reaches.{IsPlaceOf, named_place}

-- the names of two nodes are one exactly where their places are
ends_one : (v w : ℕ) → v ≡ w → same_ends v w ≡ Some Same
ends_one v w same = elim (nat_tells v w) [
  | inl y ↦ subst (λ b. cond b (Some Same) None ≡ Some Same) (sym y.0) refl
  | inr n ↦ absurd (n.1 same)
]

ends_two : (v w : ℕ) → (v ≡ w → ⊥) → same_ends v w ≡ None
ends_two v w differ = elim (nat_tells v w) [
  | inl y ↦ absurd (differ y.1)
  | inr n ↦ subst (λ b. cond b (Some Same) None ≡ None) (sym n.0) refl
]

module _ (s : State) (shown : Shown) (is : IsShown s.graph shown) where
  -- ---- names of what an answer numbers
  module _ (source sink : ℕ) (cap : List ℤ) (a : FlowAnswer) (right : IsFlowAnswer shown.net source sink cap a) where
    flow-names : IsFlowNamed (node_names s) (edge_names s) a
    flow-names = record {
      flow = right.flow_of.is.long ∙ sym (edges_named s shown is);
      cut = subst (λ (n : ℕ). All (λ node. node < n) a.cut) (sym (nodes_named s shown is)) right.cut_of.is.nodes.among;
    }

    pub flow-named : (named : Named) → IsNamedSo s (answers.Flow a) named → IsAnswerNamed named.nodes named.edges named.answer
    flow-named named so = rw (so.nodes, so.edges, so.answer) flow-names

    -- it can be kept
    pub flow-keeps : (v w : ℕ) (name : List ℕ) → IsShortName name → IsFormed s.graph → (named : Named) → IsNamedSo s (answers.Flow a) named
        → IsToKeep (record { word = Query queries.Maxflow; args = args.Node v ∷ args.Node w ∷ args.Name name ∷ [] }) (replies.Query named)
    flow-keeps v w name short formed named so = rw (so.nodes, so.edges, so.answer) (record {
      short = short;
      long = flow-names.flow;
      once = once_filter (shows_edge s.graph) s.graph.edges (edges_once s.graph formed);
      few = let few = edges_few s.graph formed in omega (arith, few);
    })

  -- ---- what the search is refused by, and what it is answered
  module _ (v w from to : ℕ) (at_v : IsPlaceOf shown.places v from) (at_w : IsPlaceOf shown.places w to) where
    -- one place has one name, and one name one place
    same_name : from ≡ to → v ≡ w
    same_name same = ap (λ (o : Option ℕ). unwrap_or o 0)
        (sym (subst (λ (k : ℕ). slice_get (node_names s) k ≡ Some v) same (named_place s shown is v from at_v))
        ∙ named_place s shown is w to at_w)

    same_place : v ≡ w → from ≡ to
    same_place same = at_v.1 ∙ ap (λ (u : ℕ). place_of u shown.places) same ∙ sym at_w.1

    module _ (name : List ℕ) (cap : List ℤ) (same : cap ≡ costs s name) (covered : uncovered s name ≡ None) where
      abbrev said : List Arg
      said = args.Node v ∷ args.Node w ∷ args.Name name ∷ []

      pub flow-allowed : from ≢ to → AreLow cap → sum_of cap ≤ℤ pos 4611686018427387903 → broken queries.Maxflow said s ≡ None
      flow-allowed differ all within =
          rw (covered, ends_two v w (λ e. differ (same_place e)), none-negative s name cap same all)
          (within-bound s name cap same sum_of within)

      pub flow-same : from ≡ to → broken queries.Maxflow said s ≡ Some Same
      flow-same one = rw (covered, ends_one v w (same_name one)) refl

      pub flow-negative : (arc : ℕ) → (from ≢ to) × IsFirstNegative cap arc
          → broken queries.Maxflow said s ≡ Some (Negative (slice_index (edge_names s) arc))
      flow-negative arc (differ, first) =
          rw (covered, ends_two v w (λ e. differ (same_place e)), first-negative s name cap same arc (below first)) refl
        where
          below : IsFirstNegative cap arc → IsFirstBelow cap arc
          below f = record { known = f.known; here = f.here; before = f.before }

      pub flow-beyond : (from ≢ to) × AreLow cap × (pos 4611686018427387903 <ℤ sum_of cap)
          → broken queries.Maxflow said s ≡ Some Bound
      flow-beyond (differ, all, beyond) =
          rw (covered, ends_two v w (λ e. differ (same_place e)), none-negative s name cap same all)
          (beyond-bound s name cap same sum_of beyond)

      pub flow-told : (a : FlowAnswer) → IsFlowAnswer shown.net from to cap a → (named : Named) → IsNamedSo s (answers.Flow a) named
          → IsTold queries.Maxflow said s named
      flow-told a right named so = record {
        nodes = so.nodes;
        edges = so.edges;
        right = rw so.answer (
          from,
          named_place s shown is v from at_v,
          (
            to,
            named_place s shown is w to at_w,
            subst (λ c. IsFlowAnswer (shown_net s.graph) from to c a) same (subst (λ net. IsFlowAnswer net from to cap a) is.net right),
          ),
        );
      }
