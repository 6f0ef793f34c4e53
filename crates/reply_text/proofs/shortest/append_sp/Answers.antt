use Rattle.std.proofs.Common.{List, ℕ, subst}
use Rattle.std.specs.List.{flat_map}
use Rattle.graph_defs.specs.declared.shortest.Finite.{Finite}
use Rattle.graph_defs.specs.declared.shortest.Low.{Low}
use Rattle.graph_defs.specs.declared.shortest.Seed.{Seed}
use Rattle.reply_text.specs.Appending.{Appends}
use Rattle.reply_text.specs.Text.{line_text, sp_lines}
use Rattle.reply_text.proofs.Lines.{behind, lists_behind}
use Rattle.reply_text.proofs.shortest.append_sp.Goals as goal

pub returns : goal.returns
returns c =
    let Written : List Finite → List Seed → List Low → List ℕ → Type 0 = λ finite seeds low unreached.
    Appends (flat_map line_text (sp_lines c.args.nodes.now c.args.edges.now
    (record { finite = finite; seeds = seeds; low = low; unreached = unreached })))
    c.args.to.now c.append_unreached.new.to c.append_unreached.result in
    let a = c.args.answer.now in
    subst (λ (unreached : List ℕ). Written a.finite a.seeds a.low unreached) c.as_slice-unreached.ensures
    (subst (λ (low : List Low). Written a.finite a.seeds low c.as_slice-unreached.result.now) c.as_slice-low.ensures
    (subst (λ (seeds : List Seed). Written a.finite seeds c.as_slice-low.result.now c.as_slice-unreached.result.now) c.as_slice.ensures
    (subst (λ (finite : List Finite). Written finite c.as_slice.result.now c.as_slice-low.result.now c.as_slice-unreached.result.now) c.as_slice-finite.ensures
    (behind c.args.to.now c.append_counts.new.to c.append_unreached.new.to c.append_unreached.result
    _ _ c.in_ok-append_counts.ensures.whole c.in_ok-append_counts.ensures.capacity
    (lists_behind line_text c.append_counts.new.to c.append_finite.new.to c.append_unreached.new.to c.append_unreached.result
    _ _ c.in_ok-append_finite.ensures.whole c.in_ok-append_finite.ensures.capacity
    (lists_behind line_text c.append_finite.new.to c.append_seeds.new.to c.append_unreached.new.to c.append_unreached.result
    _ _ c.in_ok-append_seeds.ensures.whole c.in_ok-append_seeds.ensures.capacity
    (lists_behind line_text c.append_seeds.new.to c.append_lows.new.to c.append_unreached.new.to c.append_unreached.result
    _ _ c.in_ok-append_lows.ensures.whole c.in_ok-append_lows.ensures.capacity
    c.append_unreached.ensures)))))))
