-- Private: what the parts of a chain stand for.
use Rattle.item_list.specs.declared.chain.Chain.TheInside.{Inside}
use Rattle.item_list.specs.Items.{Items}
use Rattle.item_list.specs.Kept.{items_of, IsKept}

module _ {X : Type 0} where
  abbrev pub chain_of : Inside X → Items X
  chain_of a = items_of a.rings a.head a.nodes

  abbrev pub IsChain : Inside X → Type 0
  IsChain a = IsKept a.rings a.head a.nodes
