use Rattle.std.proofs.Common.{List, ◌≡◌, ◌+◌, ◌<◌, ℕ, ℤ, w64, to_z, of_z, length, get_or, ap, sym, subst, ◌∙◌, arith}
use Rattle.std.proofs.lemmas.Int.{to_z-of_z}
use Rattle.std.proofs.lemmas.Bool.{MatchBool-at_true, MatchBool-at_false}
use Rattle.std.proofs.lemmas.List.{get_or_default}
use Rattle.graph_defs.specs.declared.grouped.Incidence.{Incidence}
use Rattle.sp_search.specs.declared.settling.Settling.{Settling}
use Rattle.sp_search.specs.declared.labels.Label.{Label}
use Rattle.std.specs.Bool.{MatchBool}
use Rattle.sp_search.specs.Labels.{IsLowered, IsKept}
use Rattle.sp_search.specs.Settling.{along, HaveFallen}
use Rattle.sp_search.proofs.LabelSteps.{fits_back, fallen_fall, fallen_keep}
use Rattle.sp_search.proofs.settling.Settling.spread.Goals as goal
use Rattle.sp_search.proofs.settling.Settling.spread.Goals.{then-branch, else-branch}

pub loop-entry-preserved : goal.loop-entry-preserved
loop-entry-preserved c =
    let row = c.args.row.now in
    let cost = c.args.cost.now in
    let j = c.loop-entry.entry-index in
    let d : ℤ = to_z w64 (of_z w64 c.args.dist) in
    let labels' = c.loop-entry.self.labels in
    let preds' = c.loop-entry.self.preds.items in
    let x : Incidence = get_or row j (record { number = 0; end = 0 }) in
    let r : x ≡ get_or row j x = get_or_default row j (record { number = 0; end = 0 }) x c.loop-entry-test.true in
    let h = c.loop-entry.invariant.1 in
    let passable = c.requires.row j (record { number = 0; end = 0 }) c.loop-entry-test.true in
    let inside = passable.inside in
    let lw : x.end < length labels' = omega (arith, h.long, inside) in
    let lp : x.end < length preds' = omega (arith, h.preds_long, c.requires.preds, inside) in
    let z : to_z w64 (of_z w64 c.weight_along-further.result) ≡ along cost d x = fits_back c.weight_along-further.result (along cost c.args.dist x) passable.low passable.high (c.weight_along-further.ensures ∙ ap (λ (y : ℤ). along cost y x) (to_z-of_z w64 c.args.dist c.ranges.dist)) ∙ ap (λ (y : ℤ). along cost y x) (sym (to_z-of_z w64 c.args.dist c.ranges.dist)) in
    let P : ℤ → Type 0 = λ y. IsLowered labels' c.lower.new.self x.end y in
    let Q : ℤ → Type 0 = λ y. IsKept labels' c.lower.new.self x.end y in
    let is : MatchBool c.in_ok-lower.field-0 (P (to_z w64 (of_z w64 c.weight_along-further.result))) (Q (to_z w64 (of_z w64 c.weight_along-further.result))) = c.in_ok-lower.ensures in
    elim c.if-branch.branch [
      | then-branch w ↦ (
        ap (λ (s : Settling). s.settled.items) w.self-is ∙ c.loop-entry.invariant.0,
        fallen_fall row cost d j x c.args.self.now.labels c.args.self.now.preds.items labels' preds' c.loop-entry-test.true r h
            c.if-branch.self.labels c.if-branch.self.preds.items lw lp
            (let R : List Label → Type 0 = λ l. IsLowered labels' l x.end (along cost d x) in
            subst R (sym (ap (λ (s : Settling). s.labels) w.self-is))
            (subst P z (MatchBool-at_true (P (to_z w64 (of_z w64 c.weight_along-further.result))) (Q (to_z w64 (of_z w64 c.weight_along-further.result))) w.if-branch.true is)))
            (ap (λ (s : Settling). s.preds.items) w.self-is),
      )
      | else-branch w ↦ (
        ap (λ (s : Settling). s.settled.items) w.self-is ∙ c.loop-entry.invariant.0,
        (let R : List ℕ → Type 0 = λ p. HaveFallen row cost d (j + 1) c.args.self.now.labels c.args.self.now.preds.items c.if-branch.self.labels p in
            subst R (sym (ap (λ (s : Settling). s.preds.items) w.self-is))
            (fallen_keep row cost d j x c.args.self.now.labels c.args.self.now.preds.items labels' preds' c.loop-entry-test.true r h
            c.if-branch.self.labels
            (let S : List Label → Type 0 = λ l. IsKept labels' l x.end (along cost d x) in
            subst S (sym (ap (λ (s : Settling). s.labels) w.self-is))
            (subst Q z (MatchBool-at_false (P (to_z w64 (of_z w64 c.weight_along-further.result))) (Q (to_z w64 (of_z w64 c.weight_along-further.result))) w.if-branch.false is))))),
      )
    ]
