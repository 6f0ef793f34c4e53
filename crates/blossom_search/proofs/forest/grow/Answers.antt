use Rattle.std.proofs.Common.{◌<◌, length, ◌∙◌}
use Rattle.blossom_search.proofs.Forests.{popped, round_done, round_less}
use Rattle.blossom_search.proofs.Rounds.{not_found, labels_tight}
use Rattle.blossom_search.proofs.forest.grow.Goals as goal

pub spread-requires-clause-stem : goal.spread-requires-clause-stem
spread-requires-clause-stem c = (popped c.args.net.now c.args.m.now.edges c.in-Some.stem c.loop-stem.forest c.next_stem.new.self c.loop-stem.invariant c.next_stem.ensures.evens c.next_stem.ensures.odds c.in-Some.ensures.waiting).0

pub spread-requires-clause-forest : goal.spread-requires-clause-forest
spread-requires-clause-forest c = (popped c.args.net.now c.args.m.now.edges c.in-Some.stem c.loop-stem.forest c.next_stem.new.self c.loop-stem.invariant c.next_stem.ensures.evens c.next_stem.ensures.odds c.in-Some.ensures.waiting).1

pub loop-stem-preserved : goal.loop-stem-preserved
loop-stem-preserved c = round_done c.args.net.now c.args.m.now.edges c.in-Some.stem c.loop-stem.forest c.next_stem.new.self c.spread.new.forest c.loop-stem.invariant c.next_stem.ensures.evens
    (not_found _ _ _ c.in_default-2.is c.in_ok-found.ensures)

pub loop-stem-smaller : goal.loop-stem-smaller
loop-stem-smaller c = round_less c.args.net.now c.args.m.now.edges c.in-Some.stem (λ along. along < length c.args.net.now.arcs) c.loop-stem.forest c.next_stem.new.self c.spread.new.forest c.next_stem.ensures.evens c.in-Some.ensures.waiting
    (not_found _ _ _ c.in_default-2.is c.in_ok-found.ensures)

pub returns : goal.returns
returns c = labels_tight c.args.net.now c.args.m.now.edges c.in_ok-labels.labels c.loop-stem.forest c.as_slice.result.now c.as_slice-2.result.now c.requires.valid c.requires.matching c.loop-stem.invariant c.in_default.ensures.waiting
    (c.as_slice.ensures.value ∙ c.next_stem.ensures.evens) (c.as_slice-2.ensures.value ∙ c.next_stem.ensures.odds) c.in_ok-labels.ensures
