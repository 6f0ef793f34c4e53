-- The element stands nowhere between the two calls.
use Rattle.graph_core.proofs.Drops.{drops_one}
use Rattle.graph_core.proofs.graph.removal.drop_part.Goals as goal

pub returns : goal.returns
returns c =
    drops_one c.args.lists.now c.unlink.new.self c.drop_element.new.self c.args.x c.unlink.ensures.named c.unlink.ensures.room c.drop_element.ensures.named c.drop_element.ensures.members c.drop_element.ensures.heads
