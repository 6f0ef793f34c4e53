-- A `&` to the owner of places can be made wherever one to each value can. Assumes `Logic`.
use Prim.Native.Nat.{ℕ, ◌+◌}
use Rattle.std.specs.Prelude.{List, [], ◌∷◌, Option, Some, None}
use Rattle.std.specs.Mem.{type_size}
use seplogic.Ra.Ura.{Ura}
use base.Fml.{Lft, Incl, ftrue, ffalse}
use types.Logic.{Logic}
use denote.RattleType.{RattleType, RowLaws}
use denote.Param.Laws.{Laws}
use denote.RawPtr.{Ptr, block_ptr, null_ptr}
use denote.Sharing.{ShrLaws, said}
use denote.SharingLaws.{beside_shr_laws, nothing_shr_laws, said_shr_laws}
use denote.Shares.{Shares-less}
use denote.Struct.Lending.{Lends, Lends-both, Lends-nothing, Lends-said, Lends-false}
use Rattle.item_pool.specs.Ownership.{place, places, place_lent, row_lent, is_short, places_owned, places_lent}

-- what is lent can be copied, and used at a shorter lifetime
module _ (R : RattleType) (of_value : RowLaws R) where
  place_laws : (b o : ℕ) (p : Option R.Denot) → ShrLaws (place_lent R b o p)
  place_laws b o None = nothing_shr_laws
  place_laws b o (Some x) = of_value x b o

  row_laws : (b o : ℕ) (row : List (Option R.Denot)) → ShrLaws (row_lent R b o row)
  row_laws b o [] = nothing_shr_laws
  row_laws b o (p ∷ row) = beside_shr_laws _ _ (place_laws b o p) (row_laws b (o + type_size R) row)

  pub places_laws : (at : Ptr) (row : List (Option R.Denot)) → ShrLaws (places_lent R at row)
  places_laws null_ptr row = said_shr_laws ffalse tt
  places_laws (block_ptr b o) row = beside_shr_laws _ _ (said_shr_laws (is_short R row) tt) (row_laws b o row)

-- and it comes from a borrow of what is owned
module _ {M : Type 1} {𝓤 : Ura M} (𝓛 : Logic 𝓤) (lives : Lft) (R : RattleType) (L : Laws R) (within : Incl lives R.lives) where
  place_lends : (b o : ℕ) (p : Option R.Denot) → Lends 𝓛 (place R b o p) (place_lent R b o p) lives
  place_lends b o None = Lends-nothing 𝓛 (place R b o None) lives
  place_lends b o (Some x) = λ κ tokens. Shares-less 𝓛 R R.lives lives within (L.shares 𝓛) x κ tokens b o

  row_lends : (b o : ℕ) (row : List (Option R.Denot)) → Lends 𝓛 (places R b o row) (row_lent R b o row) lives
  row_lends b o [] = Lends-nothing 𝓛 ftrue lives
  row_lends b o (p ∷ row) = let next = o + type_size R in
      Lends-both 𝓛 (place R b o p) (places R b next row) (place_lent R b o p) (row_lent R b next row) lives (place_lends b o p) (row_lends b next row)

  pub places_lends : (at : Ptr) (row : List (Option R.Denot)) → Lends 𝓛 (places_owned R at row) (places_lent R at row) lives
  places_lends null_ptr row = Lends-false 𝓛 (said ffalse) lives
  places_lends (block_ptr b o) row =
      Lends-both 𝓛 (is_short R row) (places R b o row) (said (is_short R row)) (row_lent R b o row) lives (Lends-said 𝓛 (is_short R row) tt lives) (row_lends b o row)
