use Rattle.std.proofs.Common.{ℕ, ◌+◌, not, Bool, List, length, map, refl, ◌∙◌, ap, subst}
use Rattle.std.specs.List.{filter, range_with_len}
use Rattle.graph_defs.specs.declared.net.Net.{Net}
use Rattle.graph_defs.specs.Net.{Ends}
use Rattle.blossom_lift.specs.declared.level.Level.{Level}
use Rattle.blossom_lift.specs.Contraction.{rank, image_of, is_inner, IsLevelOf}
use Rattle.blossom_lift.specs.Passes.{marked, read_ends, AreMarks}
use Rattle.blossom_lift.proofs.Steps.{ends_imaged, level_made, contracted_valid, contracted_matching, contracted_stem}
use Rattle.blossom_lift.proofs.shrinking.contract.Goals as goal
use Rattle.blossom_lift.proofs.shrinking.contract.Goals.{After-drop-marks-2}

pub image_arcs-requires : goal.image_arcs-requires
image_arcs-requires c = ends_imaged c.args.net.now c.in_ok-marks.marks.items c.as_slice-3.result.now (image_of (marked c.as_slice-3.result.now) (length c.as_slice-3.result.now)) c.in_ok-image.image c.as_slice-5.result.now c.as_slice-4.result.now c.as_slice.result.now
    c.requires.valid (c.in_ok-marks.ensures) c.as_slice-3.ensures.value c.in_ok-image.ensures c.as_slice-5.ensures c.as_slice-4.ensures

made : (c : After-drop-marks-2) → IsLevelOf c.args.net.now c.args.m.now.edges c.args.b.now
    (record { net = record { n = c.count_unmarked-hub.result + 1; arcs = c.in_ok-arcs.arcs }; matching = record { edges = c.in_ok-edges.edges }; image = c.in_ok-image.image; hub = c.count_unmarked-hub.result })
made c =
    let level : Level = record { net = record { n = c.count_unmarked-hub.result + 1; arcs = c.in_ok-arcs.arcs }; matching = record { edges = c.in_ok-edges.edges }; image = c.in_ok-image.image; hub = c.count_unmarked-hub.result } in
    let net : Net = c.args.net.now in
    let marks : List Bool = c.in_ok-marks.marks.items in
    let keeps : List Bool → ℕ → Bool = λ s arc. not (is_inner (marked s) net arc) in
    level_made net c.args.m.now.edges c.args.b.now marks c.count_unmarked-hub.result c.in_ok-image.image c.in_ok-edges.edges c.in_ok-arcs.arcs level
    c.requires.valid c.requires.matching
    (subst (λ (ns : List ℕ). AreMarks ns net.n marks) c.as_slice.ensures c.in_ok-marks.ensures)
    (c.count_unmarked-hub.ensures.value ∙ ap (λ (s : List Bool). rank (marked s) (length s)) c.as_slice-2.ensures.value)
    (c.in_ok-image.ensures ∙ ap (λ (s : List Bool). map (image_of (marked s) (length s)) (range_with_len 0 (length s))) c.as_slice-3.ensures.value)
    (c.in_ok-arcs.ensures ∙ ap (λ (s : List ℕ). map (read_ends s) c.as_slice-4.result.now) c.as_slice-5.ensures ∙ ap (λ (s : List Ends). map (read_ends c.in_ok-image.image) s) c.as_slice-4.ensures)
    (c.in_ok-edges.ensures ∙ ap (λ (s : List Bool). filter (keeps s) c.as_slice-7.result.now) c.as_slice-6.ensures.value ∙ ap (λ (s : List ℕ). filter (keeps marks) s) c.as_slice-7.ensures)
    refl refl refl refl refl

pub returns-clause-level : goal.returns-clause-level
returns-clause-level c = made c

pub returns-clause-valid : goal.returns-clause-valid
returns-clause-valid c =
    let m = made c in
    contracted_valid c.args.net.now (record { n = c.count_unmarked-hub.result + 1; arcs = c.in_ok-arcs.arcs }) c.args.m.now.edges c.in_ok-edges.edges c.args.b.now.nodes c.args.b.now.edges c.requires.valid c.requires.cycle m.contracted

pub returns-clause-matching : goal.returns-clause-matching
returns-clause-matching c =
    let m = made c in
    contracted_matching c.args.net.now (record { n = c.count_unmarked-hub.result + 1; arcs = c.in_ok-arcs.arcs }) c.args.m.now.edges c.in_ok-edges.edges c.args.b.now.nodes c.args.b.now.edges c.requires.valid c.requires.matching c.requires.cycle m.contracted

pub returns-clause-stem : goal.returns-clause-stem
returns-clause-stem c =
    let m = made c in
    contracted_stem c.args.net.now (record { n = c.count_unmarked-hub.result + 1; arcs = c.in_ok-arcs.arcs }) c.args.m.now.edges c.in_ok-edges.edges c.args.b.now.nodes c.args.b.now.edges c.count_unmarked-hub.result
    c.requires.valid c.requires.matching c.requires.cycle m.contracted c.requires.stem m.last
