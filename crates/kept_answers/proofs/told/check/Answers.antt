use Rattle.std.proofs.Common.{◌≡◌, ◌<◌, ◌≤◌, List, ℕ, length, refl, sym, ap, subst, ◌∙◌, arith}
use Rattle.graph_defs.specs.declared.net.TheConstants.{ARC_LIMIT}
use Rattle.graph_defs.specs.Shortest.{listed}
use Rattle.hide_restore.specs.Net.{place_of, node_numbers, edge_numbers}
use Rattle.kept_answers.specs.Checked.{first_outside}
use Rattle.kept_answers.specs.Renamed.{sp_by}
use Rattle.kept_answers.specs.Told.{first_gone, IsAnswerChecked}
use Rattle.reply_text.specs.declared.reply.Answer.TheVariants.{Verdict}
use Rattle.reply_text.specs.declared.reply.Named.{Named}
use Rattle.reply_text.specs.Text.{IsAnswerNamed}
use Rattle.kept_answers.proofs.Listed.{as_given}
use Rattle.kept_answers.proofs.Paths.{all_told, checked_as, source_within, verdict_named}
use Rattle.kept_answers.proofs.Shown.{nodes_long, edges_long, nodes_few, edges_few}
use Rattle.kept_answers.proofs.told.check.Goals as goal

pub renamed-requires-clause-nodes : goal.renamed-requires-clause-nodes
renamed-requires-clause-nodes c = subst (λ (nodes : List ℕ). length nodes ≤ ARC_LIMIT) (sym c.requires.shown.places)
    (nodes_few c.args.g.now c.args.shown.now c.requires.shown)

pub renamed-requires-clause-arcs : goal.renamed-requires-clause-arcs
renamed-requires-clause-arcs c = subst (λ (edges : List ℕ). length edges ≤ ARC_LIMIT) (sym c.in_ok-visible.ensures)
    (edges_few c.args.g.now c.args.shown.now c.requires.shown)

pub place_among-source-requires : goal.place_among-source-requires
place_among-source-requires c = subst (λ (nodes : List ℕ). length nodes ≤ ARC_LIMIT) (sym c.requires.shown.places)
    (nodes_few c.args.g.now c.args.shown.now c.requires.shown)

pub check_sp-requires-clause-s : goal.check_sp-requires-clause-s
check_sp-requires-clause-s c =
    let shown = c.args.shown.now in
    let within = source_within shown.places c.in_ok-visible.visible c.args.source c.args.told.now (sym c.in_default.ensures) in
    let is = c.place_among-source.ensures in
    let long : length shown.places ≡ shown.net.n = ap length c.requires.shown.places ∙ nodes_long c.args.g.now shown c.requires.shown in
    omega (arith, within, is, long)

pub returns-clause-right : goal.returns-clause-right
returns-clause-right c =
    let g = c.args.g.now in
    let shown = c.args.shown.now in
    let told = c.args.told.now in
    let source = c.args.source in
    let visible = c.in_ok-visible.visible in
    let nodes : shown.places ≡ node_numbers g = c.requires.shown.places in
    let edges : visible ≡ edge_numbers g = c.in_ok-visible.ensures in
    let gone = sym (c.in_default.ensures ∙ ap (λ vs. first_gone vs visible source told) nodes
    ∙ ap (λ es. first_gone (node_numbers g) es source told) edges) in
    let missing = sym (c.in_ok-node.ensures ∙ ap (λ vs. first_outside vs (listed told)) nodes) ∙ c.in_default-2.is in
    let reply : Named = record { nodes = shown.places; edges = visible; answer = Verdict c.in_ok-verdict.verdict } in
    as_given (IsAnswerChecked g c.args.cost.now source told) c.about_net.result reply c.about_net.ensures
    (all_told g c.args.cost.now source told reply gone missing (record {
      nodes = nodes;
      edges = edges;
      verdict = c.in_ok-verdict.verdict;
      answer = refl;
      right = checked_as g c.args.cost.now source told shown c.requires.shown c.place_among-source.result c.in_ok-as_now.as_now
          c.in_ok-verdict.verdict
          (c.place_among-source.ensures ∙ ap (place_of source) nodes)
          (c.in_ok-as_now.ensures ∙ ap (λ vs. sp_by (λ v. place_of v vs) (λ e. place_of e visible) told) nodes
          ∙ ap (λ es. sp_by (λ v. place_of v (node_numbers g)) (λ e. place_of e es) told) edges)
          c.in_ok-verdict.ensures;
    }))

pub returns-clause-named : goal.returns-clause-named
returns-clause-named c =
    let g = c.args.g.now in
    let shown = c.args.shown.now in
    let visible = c.in_ok-visible.visible in
    let within = source_within shown.places visible c.args.source c.args.told.now (sym c.in_default.ensures) in
    let is = c.place_among-source.ensures in
    as_given (λ named. IsAnswerNamed named.nodes named.edges named.answer) c.about_net.result
    (record { nodes = shown.places; edges = visible; answer = Verdict c.in_ok-verdict.verdict }) c.about_net.ensures
    (verdict_named shown.net c.place_among-source.result c.args.cost.now c.in_ok-as_now.as_now shown.places visible
    (omega (arith, within, is))
    (ap length c.requires.shown.places ∙ nodes_long g shown c.requires.shown)
    (ap length c.in_ok-visible.ensures ∙ edges_long g shown c.requires.shown)
    c.in_ok-verdict.verdict c.in_ok-verdict.ensures)
