-- The names of objects.
use Rattle.std.specs.Prelude.{ℕ, ◌≤◌, List, length}
use Rattle.leda_base.specs.declared.name.TheConstants.{NAME_LIMIT}

-- no longer than the name of an object may be
abbrev pub IsShortName : List ℕ → Type 0
IsShortName name = length name ≤ NAME_LIMIT
