-- Private: what a block of places for values of the row R owns and lends.
use Rattle.std.specs.Prelude.{◌≡◌, ℕ, ◌+◌, ◌*◌, ◌^◌, get_or, List, [], ◌∷◌, length, Option, Some, None}
use Rattle.std.specs.Mem.{type_size}
use base.Fraction.{full_share}
use base.Fml.{Lft, Fml, ftrue, ffalse, fsep, flt, froom}
use mir.Syntax.{Ty, ty_array}
use mir.Raw.{raw}
use denote.RattleType.{RattleType}
use denote.Memory.{lone, part_at, shared_of}
use denote.Sharing.{nothing, said, beside}
use denote.RawPtr.{Ptr, block_ptr, null_ptr}

-- the place at the index holds a value
abbrev pub IsFilled : {X : Type 0} → List (Option X) → ℕ → Type 0
IsFilled {X} slots index = (x : X) × (get_or slots index None ≡ Some x)

module _ (R : RattleType) where
  -- a place that lies o bytes into the block b
  abbrev pub place : ℕ → ℕ → Option R.Denot → Fml
  place b o None = froom (raw (lone R.mir)) b o
  place b o (Some x) = part_at R full_share x b o

  -- places one behind another
  abbrev pub places : ℕ → ℕ → List (Option R.Denot) → Fml
  places b o [] = ftrue
  places b o (c ∷ cs) = fsep (place b o c) (places b (o + type_size R) cs)

  abbrev pub place_lent : ℕ → ℕ → Option R.Denot → Lft → Fml
  place_lent b o None = nothing
  place_lent b o (Some x) = shared_of R x b o

  abbrev pub places_lent : ℕ → ℕ → List (Option R.Denot) → Lft → Fml
  places_lent b o [] = nothing
  places_lent b o (c ∷ cs) = beside (place_lent b o c) (places_lent b (o + type_size R) cs)

  -- all places together take fewer than 2 ^ 63 bytes
  abbrev pub fits_a_block : List (Option R.Denot) → Fml
  fits_a_block cs = flt (length cs * type_size R) (2 ^ 63)

  abbrev pub cells_own : Ptr → List (Option R.Denot) → Fml
  cells_own (block_ptr b o) cs = fsep (fits_a_block cs) (places b o cs)
  cells_own null_ptr cs = ffalse

  abbrev pub cells_lent : Ptr → List (Option R.Denot) → Lft → Fml
  cells_lent (block_ptr b o) cs = beside (said (fits_a_block cs)) (places_lent b o cs)
  cells_lent null_ptr cs = said ffalse

  -- the allocator's token for a block of n places
  abbrev pub deed_owns : (Ty → Ptr → Fml) → Ptr → ℕ → Fml
  deed_owns token p n = token (raw (ty_array (lone R.mir) n)) p
