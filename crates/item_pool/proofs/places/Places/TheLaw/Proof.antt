-- A `&` to the owner of places reaches each value. Assumes `Logic`.
use mathlib.Core.List.{[], ◌++◌}
use base.Fml.{Incl-trans}
use contract.BorrowLft.{meet_⊑_left}
use denote.RattleType.{RattleType}
use denote.RawPtr.{RawPtr}
use denote.Param.Laws.{Laws}
use denote.Param.Shared.{copy_shared}
use denote.Struct.Laws.{field_copy}
use denote.Struct.Lending.{of_Lends}
use Rattle.core.specs.contracts.marker.PhantomData as marker
use Rattle.item_pool.specs.contracts.places.Places as P
use Rattle.item_pool.proofs.places.Places.TheLaw.Statement.{statement}
use Rattle.item_pool.proofs.Lending.{places_laws, places_lends}

pub shares : (R : RattleType) (L : Laws R) → statement R L
shares R L =
    let codes = P.the_codes R.Denot R.coded (marker.the_row RawPtr).coded in
    let lives = (P.the_row R).lives in
    of_Lends (P.struct R) codes (P.the_heap R) (P.the_lent R) (λ d _. places_laws R L.shr_laws d.at d.row)
    (copy_shared (marker.the_field RawPtr) (field_copy (marker.the_type RawPtr) tt), tt)
    (λ M 𝓤 𝓛 d _. places_lends 𝓛 lives R L (Incl-trans (meet_⊑_left (R.lives ++ []) _) (meet_⊑_left R.lives [])) d.at d.row)
