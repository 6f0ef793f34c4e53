-- A reader or a writer of std whose errors are counted.
use Rattle.std.specs.Prelude.{ℕ}

-- the stream, and how many of its calls have failed
pub record Counted (S : Type 0) : Type 0 where
  pub stream : S
  pub faults : ℕ
