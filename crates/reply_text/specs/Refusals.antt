-- The words of refusals: the reason, and then what it is about.
use Rattle.std.specs.Prelude.{ℕ, List, [], ◌∷◌, codes, decimal, ⊤}
use Rattle.std.specs.Fmt.{signed_decimal}
use Rattle.leda_base.specs.declared.ItemName.TheVariants as items
use Rattle.leda_base.specs.Name.{IsShortName}
use Rattle.reply_text.specs.declared.refusal.ObjectName.{ObjectName}
use Rattle.reply_text.specs.declared.refusal.ObjectName.TheVariants as objects
use Rattle.reply_text.specs.declared.refusal.Refusal.{Refusal}
use Rattle.reply_text.specs.declared.refusal.Refusal.TheVariants as refusals
use Rattle.graph_defs.specs.Query.{kept_word}
use Rattle.reply_text.specs.Words.{item_word, kind_word}

-- an object by its name, by an item of another container, or by the sort of what isn't kept
abbrev pub object_word : ObjectName → List ℕ
object_word (objects.Name name) = name
object_word (objects.Cell number) = item_word (items.Cell number)
object_word (objects.Kept kept) = kept_word kept

-- the word that says why
abbrev pub reason : Refusal → List ℕ
reason refusals.LongLine = codes "line"
reason (refusals.Syntax column) = codes "syntax"
reason (refusals.Number column) = codes "number"
reason (refusals.Object name) = codes "object"
reason (refusals.Unknown x) = codes "unknown"
reason (refusals.Dead x) = codes "dead"
reason (refusals.Hidden x) = codes "hidden"
reason (refusals.NotHidden x) = codes "not_hidden"
reason refusals.Undirected = codes "undirected"
reason (refusals.Taken name) = codes "taken"
reason (refusals.Covered x) = codes "covered"
reason (refusals.Label x) = codes "label"
reason refusals.Opposite = codes "opposite"
reason (refusals.Reversal edge) = codes "reversal"
reason (refusals.Larger priority) = codes "larger"
reason refusals.Same = codes "same"
reason (refusals.Negative edge) = codes "negative"
reason (refusals.Crossed edge) = codes "crossed"
reason (refusals.Unbalanced sum) = codes "unbalanced"
reason (refusals.Mixed node) = codes "mixed"
reason refusals.FullNodes = codes "full"
reason refusals.FullEdges = codes "full"
reason refusals.FullItems = codes "full"
reason refusals.FullObjects = codes "full"
reason refusals.Spent = codes "spent"
reason refusals.Size = codes "size"
reason refusals.Bound = codes "bound"
reason refusals.Absent = codes "absent"
reason refusals.Big = codes "big"
reason (refusals.File fault line) = codes "file"
reason refusals.Store = codes "store"
reason refusals.Memory = codes "memory"

-- what the refusal is about
abbrev pub subject : Refusal → List (List ℕ)
subject (refusals.Syntax column) = decimal column ∷ []
subject (refusals.Number column) = decimal column ∷ []
subject (refusals.Object name) = object_word name ∷ []
subject (refusals.Unknown x) = item_word x ∷ []
subject (refusals.Dead x) = item_word x ∷ []
subject (refusals.Hidden x) = item_word x ∷ []
subject (refusals.NotHidden x) = item_word x ∷ []
subject (refusals.Taken name) = name ∷ []
subject (refusals.Covered x) = item_word x ∷ []
subject (refusals.Label x) = item_word x ∷ []
subject (refusals.Reversal edge) = item_word (items.Edge edge) ∷ []
subject (refusals.Larger priority) = signed_decimal priority ∷ []
subject (refusals.Negative edge) = item_word (items.Edge edge) ∷ []
subject (refusals.Crossed edge) = item_word (items.Edge edge) ∷ []
subject (refusals.Unbalanced sum) = signed_decimal sum ∷ []
subject (refusals.Mixed node) = item_word (items.Node node) ∷ []
subject refusals.FullNodes = codes "nodes" ∷ []
subject refusals.FullEdges = codes "edges" ∷ []
subject refusals.FullItems = codes "items" ∷ []
subject refusals.FullObjects = codes "objects" ∷ []
subject (refusals.File fault line) = kind_word fault ∷ decimal line ∷ []
subject _ = []

abbrev pub refusal_words : Refusal → List (List ℕ)
refusal_words refusal = reason refusal ∷ subject refusal

-- an object is named by at most 32 bytes, as every name of a script is
abbrev pub IsObjectNamed : ObjectName → Type 0
IsObjectNamed (objects.Name name) = IsShortName name
IsObjectNamed (objects.Cell number) = ⊤
IsObjectNamed (objects.Kept kept) = ⊤

-- what a refusal names has a name of at most 32 bytes
abbrev pub IsRefusalNamed : Refusal → Type 0
IsRefusalNamed (refusals.Object name) = IsObjectNamed name
IsRefusalNamed (refusals.Taken name) = IsShortName name
IsRefusalNamed _ = ⊤
