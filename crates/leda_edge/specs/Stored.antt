-- What is seen of a store of files.
use Rattle.std.specs.Prelude.{ℕ, ◌≤◌, Option}
use Rattle.leda_edge.specs.Files.{FileMap}
use Rattle.leda_edge.specs.Parts.{StaysTold}

-- the files, where they are told, and how many calls have failed
pub record Stored : Type 0 where
  pub files : Option FileMap
  pub faults : ℕ

abbrev pub stored : Option FileMap → ℕ → Stored
stored files faults = record { files = files; faults = faults }

-- what was told is told still, and the count of faults didn't fall
pub record StaysStored (old new : Stored) : Type 0 where
  pub told : StaysTold old.files new.files
  pub later : old.faults ≤ new.faults
