use borrow.Author.Differences.{ints}
use mir.Syntax.{w64}
use Rattle.std.proofs.Common.{◌≡◌, ◌<◌, ◌≤◌, ◌+ℤ◌, ◌≤ℤ◌, ℕ, ℤ, pos, List, length, replicate, sym, ◌∙◌, ap, subst, arith, rules, to_z, of_z, FitsSigned}
use Rattle.std.proofs.lemmas.List.{length-replicate}
use Rattle.graph_defs.specs.Flow.{IsFlow, outflow, IsFlowOf, IsCutOf}
use Rattle.graph_defs.specs.Grouped.{grouped}
use Rattle.graph_defs.specs.Sum.{at}
use Rattle.flow_net.specs.declared.breadth_first.Found.{Found}
use Rattle.flow_net.specs.Refusals.{sum_of}
use Rattle.flow_net.specs.Residual.{darts, IsResidual}
use Rattle.flow_net.specs.Search.{found_at, IsSearch, IsDone, nodes_visited}
use Rattle.flow_net.proofs.Rounds.{dart_keys, dart_count, zeros, residual_is, zero_flow, sum_bounds, left_falls, cut_is}
use Rattle.flow_net.proofs.Steps.{start_is}
use Rattle.flow_net.proofs.maximum.greatest.Goals as goal

pub by-requires-clause-keys : goal.by-requires-clause-keys
by-requires-clause-keys c = dart_keys c.args.net.now c.as_slice.result.now c.requires.valid (c.as_slice.ensures.value ∙ c.in_ok-pairs.ensures)

pub by-requires-clause-few : goal.by-requires-clause-few
by-requires-clause-few c = dart_count c.args.net.now c.as_slice.result.now c.requires.valid (c.as_slice.ensures.value ∙ c.in_ok-pairs.ensures)

pub loop-flow-init : goal.loop-flow-init
loop-flow-init c =
    let e : c.in_ok-flow.flow.items ≡ replicate (length c.args.cap.now) (pos 0) = c.in_ok-flow.ensures.items_if_clones_equal (λ y same. same) in
    let long : length c.in_ok-flow.flow.items ≡ length c.args.net.now.arcs = ap length e ∙ length-replicate (length c.args.cap.now) (pos 0) ∙ c.requires.caps in
    let none : (i : ℕ) → at c.in_ok-flow.flow.items i ≡ pos 0 = λ i. ap (λ (xs : List ℤ). at xs i) e ∙ zeros (length c.args.cap.now) i in
    let z = zero_flow c.args.net.now c.args.s c.args.t c.args.cap.now c.in_ok-flow.flow.items c.requires.caps c.requires.low long none in
    (z.0, z.1, omega (arith, ints))

pub run-requires-clause-residual : goal.run-requires-clause-residual
run-requires-clause-residual c =
    let rows = c.in_ok-rows.ensures.rows ∙ ap (grouped c.args.net.now.n) (c.as_slice.ensures.value ∙ c.in_ok-pairs.ensures) in
    let P : List ℤ → Type 0 = λ flow. IsResidual c.in_ok-rows.rows c.args.cap.now flow in
    subst P (sym c.as_slice-in-loop-flow.ensures.value)
    (residual_is c.args.net.now c.args.s c.args.t c.args.cap.now c.loop-flow.flow.items c.in_ok-rows.rows c.requires.valid rows c.requires.caps c.loop-flow.invariant.0)

pub run-requires-clause-search : goal.run-requires-clause-search
run-requires-clause-search c =
    let P : ℕ → Type 0 = λ v. IsSearch c.in_ok-rows.rows c.args.cap.now c.as_slice-in-loop-flow.result.now v c.in_ok-search.search.visited.items c.in_ok-search.search.queue.items in
    let is = start_is c.in_ok-rows.rows c.args.cap.now c.as_slice-in-loop-flow.result.now c.args.net.now.n c.args.s (pos 9223372036854775807) c.in_ok-search.search.visited.items
    c.in_ok-search.search.queue.items c.in_ok-rows.ensures.nodes c.requires.s (omega (arith, ints)) c.in_ok-search.ensures.visited c.in_ok-search.ensures.queue in
    subst P (sym is.root) is

pub returns-in_default : goal.returns-in_default
returns-in_default c =
    let net = c.args.net.now in
    let s = c.args.s in
    let cap = c.args.cap.now in
    let flow = c.loop-flow.flow.items in
    let rows = c.in_ok-rows.ensures.rows ∙ ap (grouped c.args.net.now.n) (c.as_slice.ensures.value ∙ c.in_ok-pairs.ensures) in
    let i1 : to_z w64 c.loop-flow.value-bits ≡ outflow net flow s = c.loop-flow.invariant.1 in
    let visited = c.run.new.self.visited.items in
    let queue = c.run.new.self.queue.items in
    let root : (found_at c.in_ok-search.search.queue.items 0).node ≡ s = ap (λ (q : List Found). (found_at q 0).node) c.in_ok-search.ensures.queue in
    let D : ℕ → Type 0 = λ v. IsDone c.in_ok-rows.rows cap c.as_slice-in-loop-flow.result.now v visited queue in
    let E : List ℤ → Type 0 = λ f. IsDone c.in_ok-rows.rows cap f s visited queue in
    let done = subst E c.as_slice-in-loop-flow.ensures.value (subst D root c.in_ok-run.ensures) in
    let M : List Found → Type 0 = λ q. (k : ℕ) → k < length q → (found_at q k).node ≡ c.args.t → ⊥ in
    let missing = subst M c.as_slice-in-loop-flow-2.ensures.value c.in_default.ensures in
    let cut = cut_is net s c.args.t c.in_ok-rows.rows cap flow visited queue c.in_ok-cut.cut c.requires.valid c.requires.s rows c.loop-flow.invariant.0 done missing
    (c.in_ok-cut.ensures ∙ ap nodes_visited c.as_slice-in_default.ensures.value) in
    let C : ℤ → Type 0 = λ x. IsCutOf net s c.args.t cap c.in_ok-cut.cut x in
    let F : List ℤ → Type 0 = λ f. IsFlowOf net s c.args.t cap f (to_z w64 c.loop-flow.value-bits) in
    record {
      flow_of = subst F (sym c.from_vec.ensures) (record { is = c.loop-flow.invariant.0; value_is = sym i1 });
      cut_of = subst C (sym i1) cut;
    }

pub overflow_add-value : goal.overflow_add-value
overflow_add-value c =
    let value = to_z w64 c.loop-flow.value-bits in
    let x = c.augment-value.result in
    let x_fits : FitsSigned w64 x = search rules in
    let e = c.augment-value.ensures.value in
    let some = c.augment-value.ensures.some in
    let i1 : value ≡ outflow c.args.net.now c.loop-flow.flow.items c.args.s = c.loop-flow.invariant.1 in
    let i2 : pos 0 ≤ℤ value = c.loop-flow.invariant.2 in
    let b = sum_bounds c.args.net.now c.args.s c.args.t c.args.cap.now c.augment-value.new.flow.items c.requires.caps c.augment-value.ensures.flow in
    let most : sum_of c.args.cap.now ≤ℤ pos 4611686018427387903 = c.requires.sum in
    omega (arith, ints)

pub loop-flow-smaller : goal.loop-flow-smaller
loop-flow-smaller c = left_falls c.args.net.now c.args.s c.args.t c.args.cap.now c.loop-flow.flow.items c.augment-value.new.flow.items c.augment-value.result c.requires.caps
    c.augment-value.ensures.flow c.augment-value.ensures.some c.augment-value.ensures.value

pub loop-flow-preserved : goal.loop-flow-preserved
loop-flow-preserved c =
    let value = to_z w64 c.loop-flow.value-bits in
    let x = c.augment-value.result in
    let x_fits : FitsSigned w64 x = search rules in
    let e = c.augment-value.ensures.value in
    let some = c.augment-value.ensures.some in
    let i1 : value ≡ outflow c.args.net.now c.loop-flow.flow.items c.args.s = c.loop-flow.invariant.1 in
    let i2 : pos 0 ≤ℤ value = c.loop-flow.invariant.2 in
    let b = sum_bounds c.args.net.now c.args.s c.args.t c.args.cap.now c.augment-value.new.flow.items c.requires.caps c.augment-value.ensures.flow in
    let most : sum_of c.args.cap.now ≤ℤ pos 4611686018427387903 = c.requires.sum in
    (c.augment-value.ensures.flow, omega (arith, ints), omega (arith, ints))
