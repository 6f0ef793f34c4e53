-- Private: where the homes of serials are, and which serials are at home.
use Rattle.std.specs.Prelude.{ℕ, ◌≢◌, ◌+◌, ◌%◌, ◌<◌, ◌≤◌, List, length, get_or, slice_set, nat_eq, if◌then◌else◌, Option, Some, None}
use Rattle.std.specs.Int.{IsPowerOfTwo}
use Rattle.item_pool.specs.declared.homes.Home.{Home}

-- there are no homes, or a power of two
abbrev pub AreHomes : List Home → Type 0
AreHomes places = 0 < length places → IsPowerOfTwo (length places)

abbrev pub nobody : Home
nobody = record { serial = 0; slot = 0 }

-- the slot of the serial s, where the home is its own
abbrev pub slot_in : Home → ℕ → Option ℕ
slot_in home s =
    (if nat_eq s 0 then None else (if nat_eq home.serial s then Some home.slot else None))

-- the home of the serial s: the place of its last bits
abbrev pub home_at : List Home → ℕ → Home
home_at places s = get_or places (s % length places) nobody

-- the slot of the serial s, where it is at home
abbrev pub at_home : List Home → ℕ → Option ℕ
at_home places s = slot_in (home_at places s) s

-- the serial s has a home, and nobody is at home there: who lies there, if any, has another home
abbrev pub IsFree : List Home → ℕ → Type 0
IsFree places s =
    let k = (home_at places s).serial in
    (0 < length places) × ((k ≢ 0) → (k % length places) ≢ (s % length places))

-- the homes with the serial s in its own
abbrev pub settled : List Home → ℕ → ℕ → List Home
settled places s slot = slice_set places (s % length places) (record { serial = s; slot = slot })

-- the n serials from s on have homes of their own, at which nobody is
pub record AreFree (places : List Home) (s n : ℕ) : Type 0 where
  pub within : n ≤ length places
  pub free : (k : ℕ) → k < n → IsFree places (s + k)

-- who has a home in the first that is free has one in the other, of which there are no fewer
pub record StayFree (places others : List Home) : Type 0 where
  pub longer : length places ≤ length others
  pub free : (s : ℕ) → IsFree places s → IsFree others s
