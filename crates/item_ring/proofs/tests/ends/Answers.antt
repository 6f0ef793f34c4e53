-- The new ring is empty.
use Rattle.std.proofs.Common.{[], is_some, arith, ap, ◌∙◌}
use Rattle.std.specs.FinMap as map
use Rattle.item_ring.specs.RingLists.{ring}
use Rattle.item_ring.proofs.Apart.{list_new}
use Rattle.item_ring.proofs.Maps.{get_new}
use Rattle.std.specs.FinMap.{len-empty}
use Rattle.std.specs.Ordering.{nat_cmp}
use Rattle.std.proofs.Common.{List, ℕ}
use Rattle.item_ring.proofs.tests.ends.Goals as goal

pub add_head-requires : goal.add_head-requires
add_head-requires c = let none = ap map.len c.new-rings.ensures.rings ∙ len-empty nat_cmp (List ℕ) in omega (arith, none)

pub drop_head-requires-clause-head : goal.drop_head-requires-clause-head
drop_head-requires-clause-head c = ap (λ r. map.contains_key r c.in_ok-g.g) c.in_ok-g.ensures.made.1 ∙ ap is_some (get_new c.new-rings.result.rings c.in_ok-g.g [])

pub drop_head-requires-clause-empty : goal.drop_head-requires-clause-empty
drop_head-requires-clause-empty c = ap (λ r. ring (record c.add_head.new.self { rings = r }) c.in_ok-g.g) c.in_ok-g.ensures.made.1 ∙ list_new c.new-rings.result.rings c.in_ok-g.g []
