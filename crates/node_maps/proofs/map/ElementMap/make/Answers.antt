-- Nothing was set.
use Rattle.std.proofs.Common.{w64, ap, ◌∙◌}
use Rattle.std.specs.Prelude.{ℤ, ℕ, List}
use Rattle.std.proofs.lemmas.Int.{to_z-of_z}
use Rattle.node_maps.specs.Contents.{map_contents}
use Rattle.node_maps.specs.PrivateTable.{values_set}
use Rattle.node_maps.proofs.map.ElementMap.make.Goals as goal

pub returns : goal.returns
returns g c =
    ap (λ (z : ℤ). map_contents z (values_set c.new.result.entries)) (to_z-of_z w64 c.args.value c.ranges.value)
    ∙ ap (λ (es : List (ℕ × ℤ)). map_contents c.args.value (values_set es)) c.new.ensures.empty
