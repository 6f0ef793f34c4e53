-- What loading and saving do to files, which are bytes under names; nothing, where they aren't
-- told.
use Rattle.std.specs.Prelude.{◌≡◌, ◌≢◌, ℕ, ◌<◌, List, length, ⊤, Option, None, Some, IsSomeAnd}

-- the bytes of the file of that name, if there is one
abbrev pub FileMap : Type 0
FileMap = List ℕ → Option (List ℕ)

-- these are the file's bytes
abbrev pub HasFile : Option FileMap → List ℕ → List ℕ → Type 0
HasFile None name bytes = ⊤
HasFile (Some files) name bytes = files name ≡ Some bytes

-- no file has the name
abbrev pub LacksFile : Option FileMap → List ℕ → Type 0
LacksFile None name = ⊤
LacksFile (Some files) name = files name ≡ None

-- the file is longer than that
abbrev pub HasLonger : Option FileMap → List ℕ → ℕ → Type 0
HasLonger None name max = ⊤
HasLonger (Some files) name max = IsSomeAnd (files name) (λ bytes. max < length bytes)

-- all files but the named one are as they were
abbrev pub KeepsOthers : FileMap → FileMap → List ℕ → Type 0
KeepsOthers old new name = (other : List ℕ) → other ≢ name → new other ≡ old other

-- the named file is open, with any bytes or gone, and all others are as they were
abbrev pub OpensFile : Option FileMap → Option FileMap → List ℕ → Type 0
OpensFile None new name = ⊤
OpensFile (Some old) None name = ⊥
OpensFile (Some old) (Some new) name = KeepsOthers old new name

-- the named file has these bytes, and all others are as they were
abbrev pub Saves : Option FileMap → Option FileMap → List ℕ → List ℕ → Type 0
Saves None new name bytes = ⊤
Saves (Some old) None name bytes = ⊥
Saves (Some old) (Some new) name bytes = (new name ≡ Some bytes) × KeepsOthers old new name
