-- Private: what the owner of a block's places owns and lends, at values of the type R.
use Rattle.std.specs.Prelude.{ℕ, ◌+◌, ◌*◌, ◌^◌, List, [], ◌∷◌, length, Option, Some, None}
use Rattle.std.specs.Mem.{type_size}
use base.Fraction.{full_share}
use base.Fml.{Lft, Fml, ftrue, ffalse, fsep, flt, froom}
use mir.Syntax.{Ty, ty_array}
use mir.Raw.{raw}
use denote.RattleType.{RattleType}
use denote.Memory.{lone, part_at, shared_of}
use denote.Sharing.{nothing, said, beside}
use denote.RawPtr.{Ptr, block_ptr, null_ptr}

module _ (R : RattleType) where
  -- the place o bytes into the block b: a value, or room for one
  abbrev pub place : ℕ → ℕ → Option R.Denot → Fml
  place b o (Some x) = part_at R full_share x b o
  place b o None = froom (raw (lone R.mir)) b o

  -- a row of places, one behind the other
  abbrev pub places : ℕ → ℕ → List (Option R.Denot) → Fml
  places b o [] = ftrue
  places b o (p ∷ row) = fsep (place b o p) (places b (o + type_size R) row)

  -- a shared reference to the owner sees the values
  abbrev pub place_lent : ℕ → ℕ → Option R.Denot → Lft → Fml
  place_lent b o (Some x) = shared_of R x b o
  place_lent b o None = nothing

  abbrev pub row_lent : ℕ → ℕ → List (Option R.Denot) → Lft → Fml
  row_lent b o [] = nothing
  row_lent b o (p ∷ row) = beside (place_lent b o p) (row_lent b (o + type_size R) row)

  -- the row is shorter than 2 ^ 63 bytes
  abbrev pub is_short : List (Option R.Denot) → Fml
  is_short row = flt (length row * type_size R) (2 ^ 63)

  abbrev pub places_owned : Ptr → List (Option R.Denot) → Fml
  places_owned (block_ptr b o) row = fsep (is_short row) (places b o row)
  places_owned null_ptr row = ffalse

  abbrev pub places_lent : Ptr → List (Option R.Denot) → Lft → Fml
  places_lent (block_ptr b o) row = beside (said (is_short row)) (row_lent b o row)
  places_lent null_ptr row = said ffalse

  -- the allocator's token for a block of n places
  abbrev pub deed_owned : (Ty → Ptr → Fml) → Ptr → ℕ → Fml
  deed_owned token p n = token (raw (ty_array (lone R.mir) n)) p
