-- A `&` to the owner of places is made where a `&` to each value is. Assumes `Logic`.
use Prim.Native.Nat.{ℕ, ◌+◌}
use Rattle.std.specs.Prelude.{List, [], ◌∷◌, Option, Some, None}
use Rattle.std.specs.Mem.{type_size}
use seplogic.Ra.Ura.{Ura}
use base.Fml.{Lft, Incl, ftrue, ffalse}
use types.Logic.{Logic}
use denote.RattleType.{RattleType, RowLaws}
use denote.Param.Laws.{Laws}
use denote.RawPtr.{Ptr, block_ptr, null_ptr}
use denote.Sharing.{ShrLaws, said}
use denote.SharingLaws.{beside_shr_laws, nothing_shr_laws, said_shr_laws}
use denote.Shares.{Shares-less}
use denote.Struct.Lending.{Lends, Lends-both, Lends-nothing, Lends-said, Lends-false}
use Rattle.item_ring.specs.Memory.{place, places, place_lent, places_lent, fits_a_block, cells_own, cells_lent}

module _ (R : RattleType) (L : RowLaws R) where
  of_place : (b o : ℕ) (c : Option R.Denot) → ShrLaws (place_lent R b o c)
  of_place b o None = nothing_shr_laws
  of_place b o (Some x) = L x b o

  of_places : (b o : ℕ) (cs : List (Option R.Denot)) → ShrLaws (places_lent R b o cs)
  of_places b o [] = nothing_shr_laws
  of_places b o (c ∷ cs) = beside_shr_laws _ _ (of_place b o c) (of_places b (o + type_size R) cs)

  pub of_cells : (p : Ptr) (cs : List (Option R.Denot)) → ShrLaws (cells_lent R p cs)
  of_cells null_ptr cs = said_shr_laws ffalse tt
  of_cells (block_ptr b o) cs = beside_shr_laws _ _ (said_shr_laws (fits_a_block R cs) tt) (of_places b o cs)

module _ {M : Type 1} {𝓤 : Ura M} (𝓛 : Logic 𝓤) (l : Lft) (R : RattleType) (L : Laws R) (inc : Incl l R.lives) where
  lends_place : (b o : ℕ) (c : Option R.Denot) → Lends 𝓛 (place R b o c) (place_lent R b o c) l
  lends_place b o None = Lends-nothing 𝓛 (place R b o None) l
  lends_place b o (Some x) = λ κ ts. Shares-less 𝓛 R R.lives l inc (L.shares 𝓛) x κ ts b o

  lends_places : (b o : ℕ) (cs : List (Option R.Denot)) → Lends 𝓛 (places R b o cs) (places_lent R b o cs) l
  lends_places b o [] = Lends-nothing 𝓛 ftrue l
  lends_places b o (c ∷ cs) =
      let next = o + type_size R in
      Lends-both 𝓛 (place R b o c) (places R b next cs) (place_lent R b o c) (places_lent R b next cs) l (lends_place b o c) (lends_places b next cs)

  pub lends_cells : (p : Ptr) (cs : List (Option R.Denot)) → Lends 𝓛 (cells_own R p cs) (cells_lent R p cs) l
  lends_cells null_ptr cs = Lends-false 𝓛 (said ffalse) l
  lends_cells (block_ptr b o) cs =
      let fit = fits_a_block R cs in
      Lends-both 𝓛 fit (places R b o cs) (said fit) (places_lent R b o cs) l (Lends-said 𝓛 fit tt l) (lends_places b o cs)
