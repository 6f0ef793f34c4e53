use Rattle.std.proofs.Common.{◌≡◌, ◌<◌, ◌≤◌, List, ℕ, map, length, refl, sym, ap, subst, ◌∙◌, arith}
use Rattle.graph_defs.specs.declared.net.TheConstants.{ARC_LIMIT}
use Rattle.graph_defs.specs.declared.flow.FlowAnswer.{FlowAnswer}
use Rattle.graph_defs.specs.Sum.{at}
use Rattle.hide_restore.specs.Net.{place_of, node_numbers, edge_numbers}
use Rattle.reply_text.specs.declared.reply.Answer.TheVariants.{Verdict}
use Rattle.reply_text.specs.declared.reply.Named.{Named}
use Rattle.reply_text.specs.Flows.{carriers}
use Rattle.reply_text.specs.Text.{IsAnswerNamed}
use Rattle.kept_answers.specs.Carried.{first_gone_of, carrying, IsFlowAnswerChecked}
use Rattle.kept_answers.specs.Checked.{places_in}
use Rattle.kept_answers.specs.Kept.{entries_at}
use Rattle.kept_answers.proofs.Listed.{as_given}
use Rattle.kept_answers.proofs.Flows.{all_here, checked_as, source_there, sink_there, flow_named}
use Rattle.kept_answers.proofs.Shown.{nodes_long, edges_long, nodes_few}
use Rattle.kept_answers.proofs.carried.check.Goals as goal

pub as_now-requires-clause-nodes : goal.as_now-requires-clause-nodes
as_now-requires-clause-nodes c = subst (λ (nodes : List ℕ). length nodes ≤ ARC_LIMIT) (sym c.requires.shown.places)
    (nodes_few c.args.g.now c.args.shown.now c.requires.shown)

pub place_among-source-requires : goal.place_among-source-requires
place_among-source-requires c = subst (λ (nodes : List ℕ). length nodes ≤ ARC_LIMIT) (sym c.requires.shown.places)
    (nodes_few c.args.g.now c.args.shown.now c.requires.shown)

pub place_among-sink-requires : goal.place_among-sink-requires
place_among-sink-requires c = subst (λ (nodes : List ℕ). length nodes ≤ ARC_LIMIT) (sym c.requires.shown.places)
    (nodes_few c.args.g.now c.args.shown.now c.requires.shown)

pub check_flow-requires-clause-s : goal.check_flow-requires-clause-s
check_flow-requires-clause-s c =
    let shown = c.args.shown.now in
    let within = source_there shown.places c.in_ok-visible.visible c.args.source c.args.sink _ _ (sym c.in_default.ensures) in
    let is = c.place_among-source.ensures in
    let long : length shown.places ≡ shown.net.n = ap length c.requires.shown.places ∙ nodes_long c.args.g.now shown c.requires.shown in
    omega (arith, within, is, long)

pub check_flow-requires-clause-t : goal.check_flow-requires-clause-t
check_flow-requires-clause-t c =
    let shown = c.args.shown.now in
    let within = sink_there shown.places c.in_ok-visible.visible c.args.source c.args.sink _ _ (sym c.in_default.ensures) in
    let is = c.place_among-sink.ensures in
    let long : length shown.places ≡ shown.net.n = ap length c.requires.shown.places ∙ nodes_long c.args.g.now shown c.requires.shown in
    omega (arith, within, is, long)

pub returns-clause-right : goal.returns-clause-right
returns-clause-right c =
    let g = c.args.g.now in
    let shown = c.args.shown.now in
    let told = c.args.told.now in
    let source = c.args.source in
    let sink = c.args.sink in
    let edges = c.args.edges.now in
    let visible = c.in_ok-visible.visible in
    let nodes : shown.places ≡ node_numbers g = c.requires.shown.places in
    let seen : visible ≡ edge_numbers g = c.in_ok-visible.ensures in
    let carries : c.as_slice-carrying.result.now ≡ carrying edges told =
    c.as_slice-carrying.ensures ∙ c.in_ok-carrying.ensures ∙ ap (λ flow. entries_at edges (carriers flow)) c.as_slice.ensures in
    let gone = sym (c.in_default.ensures ∙ ap (λ vs. first_gone_of vs visible source sink c.as_slice-carrying.result.now c.as_slice-cut.result.now) nodes
    ∙ ap (λ es. first_gone_of (node_numbers g) es source sink c.as_slice-carrying.result.now c.as_slice-cut.result.now) seen
    ∙ ap (λ es. first_gone_of (node_numbers g) (edge_numbers g) source sink es c.as_slice-cut.result.now) carries
    ∙ ap (first_gone_of (node_numbers g) (edge_numbers g) source sink (carrying edges told)) c.as_slice-cut.ensures) in
    let renumbered : List ℕ → List ℕ → FlowAnswer = λ vs es. record { flow = map (at told.flow) (places_in edges es); value = told.value; cut = places_in vs told.cut } in
    let reply : Named = record { nodes = shown.places; edges = visible; answer = Verdict c.in_ok-verdict.verdict } in
    as_given (IsFlowAnswerChecked g c.args.cap.now source sink edges told) c.about_net.result reply c.about_net.ensures
    (all_here g c.args.cap.now source sink edges told reply gone (record {
      nodes = nodes;
      edges = seen;
      verdict = c.in_ok-verdict.verdict;
      answer = refl;
      right = checked_as g c.args.cap.now source sink edges told shown c.requires.shown c.place_among-source.result c.place_among-sink.result
          c.in_ok-as_now.as_now c.in_ok-verdict.verdict
          (c.place_among-source.ensures ∙ ap (place_of source) nodes)
          (c.place_among-sink.ensures ∙ ap (place_of sink) nodes)
          (c.in_ok-as_now.ensures ∙ ap (renumbered shown.places) seen ∙ ap (λ vs. renumbered vs (edge_numbers g)) nodes)
          c.in_ok-verdict.ensures;
    }))

pub returns-clause-named : goal.returns-clause-named
returns-clause-named c =
    let g = c.args.g.now in
    let shown = c.args.shown.now in
    let visible = c.in_ok-visible.visible in
    as_given (λ named. IsAnswerNamed named.nodes named.edges named.answer) c.about_net.result
    (record { nodes = shown.places; edges = visible; answer = Verdict c.in_ok-verdict.verdict }) c.about_net.ensures
    (flow_named shown.net c.place_among-source.result c.place_among-sink.result c.args.cap.now c.in_ok-as_now.as_now
    shown.places visible
    (ap length c.requires.shown.places ∙ nodes_long g shown c.requires.shown)
    (ap length c.in_ok-visible.ensures ∙ edges_long g shown c.requires.shown)
    c.in_ok-verdict.verdict c.in_ok-verdict.ensures)
