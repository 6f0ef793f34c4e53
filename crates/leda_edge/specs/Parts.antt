-- What a call on a source or a sink leaves of what was told, and what of a piece was taken.
use Rattle.std.specs.Prelude.{◌≡◌, ℕ, ◌<◌, List, length, take, Option, is_some}
use Rattle.std.specs.Io.KnownBytes.{Appends}

-- what was told is told still, and nothing else is
abbrev pub StaysTold : {T : Type 0} → Option T → Option T → Type 0
StaysTold old new = is_some new ≡ is_some old

-- a prefix of the piece that isn't the whole piece was taken
pub record TookPart (old new : Option (List ℕ)) (piece : List ℕ) : Type 0 where
  pub count : ℕ
  pub short : count < length piece
  pub held : Appends old new (take count piece)
