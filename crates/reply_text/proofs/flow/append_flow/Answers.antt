use Rattle.std.proofs.Common.{List, ℕ, ℤ, subst}
use Rattle.std.specs.List.{flat_map}
use Rattle.reply_text.specs.Appending.{Appends}
use Rattle.reply_text.specs.Text.{line_text, flow_lines}
use Rattle.reply_text.proofs.Lines.{behind, at_end}
use Rattle.reply_text.proofs.flow.append_flow.Goals as goal

pub returns : goal.returns
returns c =
    let a = c.args.answer.now in
    let Written : List ℤ → List ℕ → Type 0 = λ flow cut.
    Appends (flat_map line_text (flow_lines c.args.nodes.now c.args.edges.now (record { flow = flow; value = a.value; cut = cut })))
    c.args.to.now c.append_line_at.new.to c.append_line_at.result in
    subst (λ (cut : List ℕ). Written a.flow cut) c.as_slice-2.ensures
    (subst (λ (flow : List ℤ). Written flow c.as_slice-2.result.now) c.as_slice.ensures
    (behind c.args.to.now c.append_amount.new.to c.append_line_at.new.to c.append_line_at.result
    _ _ c.in_ok-append_amount.ensures.whole c.in_ok-append_amount.ensures.capacity
    (behind c.append_amount.new.to c.append_carried.new.to c.append_line_at.new.to c.append_line_at.result
    _ _ c.in_ok-append_carried.ensures.whole c.in_ok-append_carried.ensures.capacity
    (at_end c.append_carried.new.to c.append_line_at.new.to c.append_line_at.result
    _ c.append_line_at.ensures))))
