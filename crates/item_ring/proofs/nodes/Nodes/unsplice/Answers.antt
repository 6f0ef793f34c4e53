-- Three writes through links tie the neighbours of a node to each other.
use Rattle.std.proofs.Common.{refl}
use Rattle.item_ring.proofs.Edits.{unspliced}
use Rattle.item_ring.proofs.nodes.Nodes.unsplice.Goals as goal

pub returns : goal.returns
returns c =
    unspliced c.args.self.now c.write.new.self c.write-2.new.self c.write-3.new.self c.args.member
    c.read-node.result c.read-before.result c.read-behind.result c.read-own.result _ _ _ c.read-node.ensures.node
    c.read-before.ensures.node c.write.ensures refl c.read-behind.ensures.node c.write-2.ensures refl c.read-own.ensures.node c.write-3.ensures refl
