use Rattle.std.proofs.Common.{◌∙◌, subst, ap}
use Rattle.blossom_search.specs.declared.found.Found.{Found}
use Rattle.blossom_search.specs.declared.levels.Shrunk.{Shrunk}
use Rattle.blossom_search.specs.Forest.{IsStemmed, IsFound}
use Rattle.blossom_search.specs.Levels.{IsShrunk, top_net, top_edges}
use Rattle.blossom_search.proofs.Shrinks.{top_is, levels_grown, levels_fall, outcome_at}
use Rattle.blossom_search.proofs.levels.search.Goals as goal

pub grow-requires-clause-valid : goal.grow-requires-clause-valid
grow-requires-clause-valid c = (top_is c.args.net.now c.args.m.now.edges c.loop-shrunk.shrunk.items c.as_slice.result.now c.top.result.0.now c.top.result.1.now.edges c.loop-shrunk.invariant c.as_slice.ensures.value c.top.ensures.net c.top.ensures.edges).0

pub grow-requires-clause-matching : goal.grow-requires-clause-matching
grow-requires-clause-matching c = (top_is c.args.net.now c.args.m.now.edges c.loop-shrunk.shrunk.items c.as_slice.result.now c.top.result.0.now c.top.result.1.now.edges c.loop-shrunk.invariant c.as_slice.ensures.value c.top.ensures.net c.top.ensures.edges).1

pub contract-requires-clause-valid : goal.contract-requires-clause-valid
contract-requires-clause-valid c = (top_is c.args.net.now c.args.m.now.edges c.loop-shrunk.shrunk.items c.as_slice.result.now c.top.result.0.now c.top.result.1.now.edges c.loop-shrunk.invariant c.as_slice.ensures.value c.top.ensures.net c.top.ensures.edges).0

pub contract-requires-clause-matching : goal.contract-requires-clause-matching
contract-requires-clause-matching c = (top_is c.args.net.now c.args.m.now.edges c.loop-shrunk.shrunk.items c.as_slice.result.now c.top.result.0.now c.top.result.1.now.edges c.loop-shrunk.invariant c.as_slice.ensures.value c.top.ensures.net c.top.ensures.edges).1

pub contract-requires-clause-cycle : goal.contract-requires-clause-cycle
contract-requires-clause-cycle c =
    let h : IsStemmed c.top.result.0.now c.top.result.1.now.edges c.in-Flower.blossom = subst (λ (found : Found). IsFound c.top.result.0.now c.top.result.1.now.edges found) c.in-Flower.is c.in_ok-outcome.ensures in
    h.cycle

pub contract-requires-clause-stem : goal.contract-requires-clause-stem
contract-requires-clause-stem c =
    let h : IsStemmed c.top.result.0.now c.top.result.1.now.edges c.in-Flower.blossom = subst (λ (found : Found). IsFound c.top.result.0.now c.top.result.1.now.edges found) c.in-Flower.is c.in_ok-outcome.ensures in
    h.stem

pub brought_back-requires-clause-outcome : goal.brought_back-requires-clause-outcome
brought_back-requires-clause-outcome c =
    let e = c.as_slice.ensures.value in
    outcome_at c.top.result.0.now (top_net c.args.net.now c.loop-shrunk.shrunk.items) c.top.result.1.now.edges (top_edges c.args.m.now.edges c.loop-shrunk.shrunk.items) c.in-End.outcome
    (c.top.ensures.net ∙ ap (top_net c.args.net.now) e) (c.top.ensures.edges ∙ ap (top_edges c.args.m.now.edges) e)
    (subst (λ (found : Found). IsFound c.top.result.0.now c.top.result.1.now.edges found) c.in-End.is c.in_ok-outcome.ensures)

pub loop-shrunk-preserved : goal.loop-shrunk-preserved
loop-shrunk-preserved c =
    let s : Shrunk = record { blossom = c.in-Flower.blossom; level = c.in_ok-level-in-Flower.level } in
    let h : IsStemmed c.top.result.0.now c.top.result.1.now.edges c.in-Flower.blossom = subst (λ (found : Found). IsFound c.top.result.0.now c.top.result.1.now.edges found) c.in-Flower.is c.in_ok-outcome.ensures in
    let i : IsShrunk c.top.result.0.now c.top.result.1.now.edges s = record {
      cycle = h.cycle;
      level_of = c.in_ok-level-in-Flower.ensures.level;
      valid = c.in_ok-level-in-Flower.ensures.valid;
      matching = c.in_ok-level-in-Flower.ensures.matching;
      stem = c.in_ok-level-in-Flower.ensures.stem;
    } in
    levels_grown c.args.net.now c.args.m.now.edges c.loop-shrunk.shrunk.items c.as_slice.result.now c.push.new.self.items c.top.result.0.now c.top.result.1.now.edges s c.loop-shrunk.invariant c.as_slice.ensures.value c.top.ensures.net c.top.ensures.edges i c.in_ok-push-in-Flower.ensures.items

pub loop-shrunk-smaller : goal.loop-shrunk-smaller
loop-shrunk-smaller c =
    let s : Shrunk = record { blossom = c.in-Flower.blossom; level = c.in_ok-level-in-Flower.level } in
    let h : IsStemmed c.top.result.0.now c.top.result.1.now.edges c.in-Flower.blossom = subst (λ (found : Found). IsFound c.top.result.0.now c.top.result.1.now.edges found) c.in-Flower.is c.in_ok-outcome.ensures in
    let i : IsShrunk c.top.result.0.now c.top.result.1.now.edges s = record {
      cycle = h.cycle;
      level_of = c.in_ok-level-in-Flower.ensures.level;
      valid = c.in_ok-level-in-Flower.ensures.valid;
      matching = c.in_ok-level-in-Flower.ensures.matching;
      stem = c.in_ok-level-in-Flower.ensures.stem;
    } in
    levels_fall c.args.net.now c.args.m.now.edges c.loop-shrunk.shrunk.items c.as_slice.result.now c.push.new.self.items c.top.result.0.now c.top.result.1.now.edges s c.loop-shrunk.invariant c.as_slice.ensures.value c.top.ensures.net c.top.ensures.edges i c.in_ok-push-in-Flower.ensures.items
