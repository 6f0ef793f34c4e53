-- The parts of the edge go one by one.
use Rattle.std.proofs.Common.{refl}
use Rattle.graph_state.specs.declared.name.Element.TheVariants.{End, Edge}
use Rattle.graph_state.specs.State.{front, back}
use Rattle.graph_core.proofs.Drops.{still_there, drops_parts}
use Rattle.graph_core.proofs.graph.removal.drop_parts.Goals as goal

pub drop_part-requires-2-clause-there : goal.drop_part-requires-2-clause-there
drop_part-requires-2-clause-there c =
    let h = c.requires.3 in
    (c.requires.1, still_there c.args.lists.now c.drop_part.new.lists (Edge c.args.e) (End (front c.args.e)) c.requires.1 c.drop_part.ensures refl h.first_in)

pub drop_part-requires-3-clause-there : goal.drop_part-requires-3-clause-there
drop_part-requires-3-clause-there c =
    let e = c.args.e in
    let h = c.requires.3 in
    let l = c.requires.2 in
    (l, still_there c.drop_part.new.lists c.drop_part-2.new.lists (End (front e)) (End (back e)) l c.drop_part-2.ensures refl (still_there c.args.lists.now c.drop_part.new.lists (Edge e) (End (back e)) l c.drop_part.ensures refl h.second_in))

pub returns : goal.returns
returns c =
    drops_parts c.args.lists.now c.drop_part.new.lists c.drop_part-2.new.lists c.drop_part-3.new.lists c.args.e c.drop_part.ensures c.drop_part-2.ensures c.drop_part-3.ensures
