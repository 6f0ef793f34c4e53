-- Three writes through links tie one node in between two others.
use Rattle.std.proofs.Common.{refl}
use Rattle.item_ring.proofs.Edits.{spliced}
use Rattle.item_ring.proofs.nodes.Nodes.splice.Goals as goal

pub returns : goal.returns
returns c =
    spliced c.args.self.now c.write.new.self c.write-2.new.self c.write-3.new.self c.args.here c.args.member c.args.ring
    c.read-before.result c.read-behind.result c.read-own.result _ _ _ c.requires.apart c.requires.ahead
    c.read-before.ensures.node c.write.ensures refl c.read-behind.ensures.node c.write-2.ensures refl c.read-own.ensures.node c.write-3.ensures refl
