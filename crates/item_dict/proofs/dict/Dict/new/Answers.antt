-- There is no key.
use Rattle.std.proofs.Common.{ap}
use Rattle.std.specs.FinMap as map
use Rattle.item_dict.specs.Contents.{contents}
use Rattle.item_dict.specs.Index.{serials_of}
use Rattle.item_dict.proofs.Triples.{triples_empty}
use Rattle.item_dict.proofs.Indexed.{indexed_empty}
use Rattle.item_dict.proofs.dict.Dict.new.Goals as goal

pub invariant_of-result : goal.invariant_of-result
invariant_of-result g c = indexed_empty _ _ (ap (λ p. p.live) c.new.ensures) (ap (λ es. map.from_entries es) c.new-2.ensures.empty)

pub returns : goal.returns
returns g c =
    let blank = ap (λ es. map.from_entries es) c.new-2.ensures.empty in
    λ i. contents (triples_empty c.new.result.live (serials_of c.new-2.result) blank i) (c.new.ensures i).made
