-- Each place is vacant.
use Rattle.std.proofs.Common.{refl}
use Rattle.node_maps.proofs.Rows.{vacant_row}
use Rattle.node_maps.proofs.row.ValueRow.with_places.Goals as goal

pub returns : goal.returns
returns c = vacant_row _ c.args.count _ (c.in_ok-vec.ensures.items_if_clones_equal (λ y same. same)) refl
