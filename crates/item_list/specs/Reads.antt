-- Private: a list is a chain that is read from its front, or from its rear where it is turned.
use Rattle.std.specs.Prelude.{Bool, true, false, reverse}
use Rattle.item_list.specs.declared.list.List.TheInside.{Inside}
use Rattle.item_list.specs.Items.{Items, items}

module _ {X : Type 0} where
  -- the pairs in the reverse order
  abbrev pub turned : Items X → Items X
  turned l = items (reverse l.pairs) l.made

  -- what a reader sees of a chain, backwards where the flag is true
  abbrev pub read : Bool → Items X → Items X
  read false l = l
  read true l = turned l

  abbrev pub list_of : Inside X → Items X
  list_of a = read a.is_turned a.chain
