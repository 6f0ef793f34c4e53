use Rattle.std.proofs.Common.{List, ℕ, subst}
use Rattle.std.specs.List.{flat_map}
use Rattle.reply_text.specs.Appending.{Appends}
use Rattle.reply_text.specs.Text.{line_text, match_lines}
use Rattle.reply_text.proofs.Lines.{behind, at_end}
use Rattle.reply_text.proofs.text.append_matching.Goals as goal

pub returns : goal.returns
returns c =
    let Written : List ℕ → List ℕ → Type 0 = λ chosen cover.
    Appends (flat_map line_text (match_lines c.args.nodes.now c.args.edges.now (record { edges = chosen; cover = cover })))
    c.args.to.now c.append_line_labelled.new.to c.append_line_labelled.result in
    subst (λ (cover : List ℕ). Written c.args.matching.now.edges cover) c.as_slice.ensures
    (subst (λ (chosen : List ℕ). Written chosen c.as_slice.result.now) c.as_slice-chosen.ensures
    (behind c.args.to.now c.append_counts.new.to c.append_line_labelled.new.to c.append_line_labelled.result
    _ _ c.in_ok-append_counts.ensures.whole c.in_ok-append_counts.ensures.capacity
    (behind c.append_counts.new.to c.append_line_at.new.to c.append_line_labelled.new.to c.append_line_labelled.result
    _ _ c.in_ok-append_line_at.ensures.whole c.in_ok-append_line_at.ensures.capacity
    (at_end c.append_line_at.new.to c.append_line_labelled.new.to c.append_line_labelled.result
    _ c.append_line_labelled.ensures))))
