-- The tokens of a line.
use Rattle.std.specs.Prelude.{ℕ, ◌+◌, Bool, true, false, if◌then◌else◌, List, [], ◌∷◌, length, Option, Some, None}
use Rattle.std.specs.List.{before_first}
use Rattle.leda_base.specs.Bytes.{is_blank, trimmed}

-- a token: a longest run of bytes that aren't blanks; with the column of its first byte, and all
-- that stands from there on in the line without the blanks at its end
pub record Token : Type 0 where
  pub column : ℕ
  pub bytes : List ℕ
  pub tail : List ℕ

-- The tokens that begin in these bytes, the first of which stands in the column. A token begins at
-- each byte that is no blank, unless the byte before it belongs to a token already, and it reaches
-- up to the next blank.
abbrev pub tokens_after : Bool → ℕ → List ℕ → List Token
tokens_after in_token column [] = []
tokens_after in_token column (b ∷ bs) =
    if is_blank b
    then tokens_after false (column + 1) bs
    else if in_token
    then tokens_after true (column + 1) bs
    else record { column = column; bytes = before_first is_blank (b ∷ bs); tail = b ∷ bs }
    ∷ tokens_after true (column + 1) bs

-- the tokens of bytes that don't end with a blank, the first of which stands in the column
abbrev pub tokens_from : ℕ → List ℕ → List Token
tokens_from = tokens_after false

-- the tokens of a line
abbrev pub tokens_of : List ℕ → List Token
tokens_of line = tokens_from 1 (trimmed line)

-- the tokens of a line that are still to be read, and the column behind the last one that was
pub record Unread : Type 0 where
  pub column : ℕ
  pub tokens : List Token

-- the column behind a token
abbrev pub behind : Token → ℕ
behind token = token.column + length token.bytes

-- the first of these tokens, if there is one
abbrev pub next_of : List Token → Option Token
next_of [] = None
next_of (token ∷ tokens) = Some token
