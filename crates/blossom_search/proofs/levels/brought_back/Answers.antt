use Rattle.blossom_search.proofs.Shrinks.{top_is, levels_shrunk, shrunk_seen, outcome_popped, outcome_seen}
use Rattle.blossom_search.proofs.levels.brought_back.Goals as goal

pub lifted-requires-clause-valid : goal.lifted-requires-clause-valid
lifted-requires-clause-valid c =
    let h = levels_shrunk c.args.net.now c.args.m.now.edges c.loop-last.shrunk.items c.pop.new.self.items c.in-Some.last c.loop-last.invariant.0 c.in-Some.ensures.items in
    (top_is c.args.net.now c.args.m.now.edges c.pop.new.self.items c.as_slice.result.now c.top.result.0.now c.top.result.1.now.edges h.0 c.as_slice.ensures.value c.top.ensures.net c.top.ensures.edges).0

pub lifted-requires-clause-matching : goal.lifted-requires-clause-matching
lifted-requires-clause-matching c =
    let h = levels_shrunk c.args.net.now c.args.m.now.edges c.loop-last.shrunk.items c.pop.new.self.items c.in-Some.last c.loop-last.invariant.0 c.in-Some.ensures.items in
    (top_is c.args.net.now c.args.m.now.edges c.pop.new.self.items c.as_slice.result.now c.top.result.0.now c.top.result.1.now.edges h.0 c.as_slice.ensures.value c.top.ensures.net c.top.ensures.edges).1

pub lifted-requires-clause-shrunk : goal.lifted-requires-clause-shrunk
lifted-requires-clause-shrunk c =
    let h = levels_shrunk c.args.net.now c.args.m.now.edges c.loop-last.shrunk.items c.pop.new.self.items c.in-Some.last c.loop-last.invariant.0 c.in-Some.ensures.items in
    shrunk_seen c.args.net.now c.args.m.now.edges c.pop.new.self.items c.as_slice.result.now c.top.result.0.now c.top.result.1.now.edges c.in-Some.last h.1 c.as_slice.ensures.value c.top.ensures.net c.top.ensures.edges

pub lifted-requires-clause-outcome : goal.lifted-requires-clause-outcome
lifted-requires-clause-outcome c = outcome_popped c.args.net.now c.args.m.now.edges c.loop-last.shrunk.items c.pop.new.self.items c.in-Some.last c.loop-last.outcome c.in-Some.ensures.items c.loop-last.invariant.1

pub loop-last-preserved : goal.loop-last-preserved
loop-last-preserved c =
    let h = levels_shrunk c.args.net.now c.args.m.now.edges c.loop-last.shrunk.items c.pop.new.self.items c.in-Some.last c.loop-last.invariant.0 c.in-Some.ensures.items in
    (h.0, outcome_seen c.args.net.now c.args.m.now.edges c.pop.new.self.items c.as_slice.result.now c.top.result.0.now c.top.result.1.now.edges c.in_ok-outcome.outcome c.as_slice.ensures.value c.top.ensures.net c.top.ensures.edges c.in_ok-outcome.ensures)
