use Rattle.std.proofs.Common.{◌≡◌, ◌≤◌, List, ℕ, length, refl, sym, ap, subst, ◌∙◌}
use Rattle.graph_defs.specs.declared.net.TheConstants.{ARC_LIMIT}
use Rattle.hide_restore.specs.Net.{node_numbers, edge_numbers}
use Rattle.reply_text.specs.declared.reply.Answer.TheVariants.{Verdict}
use Rattle.reply_text.specs.declared.reply.Named.{Named}
use Rattle.reply_text.specs.Text.{IsAnswerNamed}
use Rattle.kept_answers.specs.Checked.{first_outside, places_in, IsMatchChecked}
use Rattle.kept_answers.proofs.Listed.{as_given}
use Rattle.kept_answers.specs.Kept.{matched, entries_at}
use Rattle.kept_answers.proofs.Matchings.{all_there, checked_as, verdict_named}
use Rattle.kept_answers.proofs.Shown.{nodes_long, edges_long, edges_few}
use Rattle.kept_answers.proofs.matching.check.Goals as goal

pub places_among-requires-2 : goal.places_among-requires-2
places_among-requires-2 c = subst (λ (edges : List ℕ). length edges ≤ ARC_LIMIT) (sym c.in_ok-visible.ensures)
    (edges_few c.args.g.now c.args.shown.now c.requires.shown)

pub returns-clause-right : goal.returns-clause-right
returns-clause-right c =
    let g = c.args.g.now in
    let k = matched c.args.nodes.now c.args.edges.now c.args.answer.now in
    let visible = c.in_ok-visible.visible in
    let shown : visible ≡ edge_numbers g = c.in_ok-visible.ensures in
    let chosen : c.in_ok-chosen.chosen ≡ k.edges =
    c.in_ok-chosen.ensures ∙ ap (entries_at c.args.edges.now) c.as_slice.ensures in
    let kept : c.in_ok-kept.kept ≡ k.nodes = c.in_ok-kept.ensures ∙ c.in_ok-from_slice.ensures in
    let edges = sym (c.in_default.ensures ∙ ap (λ xs. first_outside xs visible) (c.as_slice-2.ensures ∙ chosen)
    ∙ ap (λ xs. first_outside k.edges xs) shown) in
    let nodes = sym (c.in_default-first_outside.ensures ∙ ap (λ xs. first_outside k.nodes xs) c.requires.shown.places) in
    let missing = sym (c.in_default-first_outside-2.ensures
    ∙ ap (λ xs. first_outside xs c.in_ok-kept.kept) (c.numbers.ensures ∙ c.requires.shown.places)
    ∙ ap (λ xs. first_outside (node_numbers g) xs) kept) in
    let reply : Named = record { nodes = c.args.shown.now.places; edges = visible; answer = Verdict c.in_ok-verdict.verdict } in
    as_given (IsMatchChecked g k) c.about_net.result reply c.about_net.ensures
    (all_there g k reply edges nodes missing (record {
      nodes = c.requires.shown.places;
      edges = shown;
      verdict = c.in_ok-verdict.verdict;
      answer = refl;
      right = checked_as g k c.args.shown.now c.requires.shown c.in_ok-places_among.field-0 c.in_ok-entries_at.field-0
          c.in_ok-verdict.verdict
          (c.in_ok-places_among.ensures ∙ ap (λ xs. places_in xs c.as_slice-3.result.now) shown
          ∙ ap (places_in (edge_numbers g)) (c.as_slice-3.ensures ∙ chosen))
          (c.in_ok-entries_at.ensures ∙ ap (λ xs. entries_at xs c.as_slice-5.result.now) c.as_slice-4.ensures
          ∙ ap (entries_at k.labels) (c.as_slice-5.ensures ∙ c.in_ok-places.ensures
          ∙ ap (λ xs. places_in xs c.numbers-2.result.now) kept
          ∙ ap (places_in k.nodes) (c.numbers-2.ensures ∙ c.requires.shown.places)))
          c.in_ok-verdict.ensures;
    }))

pub returns-clause-named : goal.returns-clause-named
returns-clause-named c =
    let g = c.args.g.now in
    let shown = c.args.shown.now in
    let visible = c.in_ok-visible.visible in
    as_given (λ named. IsAnswerNamed named.nodes named.edges named.answer) c.about_net.result
    (record { nodes = shown.places; edges = visible; answer = Verdict c.in_ok-verdict.verdict }) c.about_net.ensures
    (verdict_named shown.net c.requires.shown.valid _ shown.places visible
    (ap length c.requires.shown.places ∙ nodes_long g shown c.requires.shown)
    (ap length c.in_ok-visible.ensures ∙ edges_long g shown c.requires.shown)
    c.in_ok-verdict.verdict c.in_ok-verdict.ensures)
