-- The words of items, of containers' items, and of what is done.
use Rattle.std.specs.Prelude.{ℕ, ℤ, List, [], ◌∷◌, ◌++◌, map, slice_index, codes, decimal}
use Rattle.std.specs.Fmt.{signed_decimal}
use Rattle.std.specs.List.{flat_map, range_with_len}
use Rattle.leda_base.specs.declared.ItemName.{ItemName}
use Rattle.leda_base.specs.declared.ItemName.TheVariants as items
use Rattle.graph_defs.specs.declared.answer.Reach.{Reach}
use Rattle.graph_defs.specs.declared.answer.Reach.TheVariants.{Walk, Closed}
use Rattle.graph_defs.specs.declared.plain.TextKind.{TextKind}
use Rattle.graph_defs.specs.declared.plain.TextKind.TheVariants as kinds
use Rattle.reply_text.specs.declared.reply.CellShow.{CellShow}
use Rattle.reply_text.specs.declared.reply.ReplyLine.{ReplyLine}
use Rattle.reply_text.specs.declared.reply.ReplyLine.TheVariants.{Empty, Nil, Num, Two, Name, Names, Cells, Label}

-- the letter of an item's sort, and then its number
abbrev pub numbered : List ℕ → ℕ → List ℕ
numbered letter number = letter ++ decimal number

-- `n7`, `e3`, `i5`
abbrev pub item_word : ItemName → List ℕ
item_word (items.Node number) = numbered (codes "n") number
item_word (items.Edge number) = numbered (codes "e") number
item_word (items.Cell number) = numbered (codes "i") number

-- the name of the item at a place: the number that stands there
abbrev pub word_at : List ℕ → List ℕ → ℕ → List ℕ
word_at letter numbers place = numbered letter (slice_index numbers place)

-- so for each of several places
abbrev pub words_at : List ℕ → List ℕ → List ℕ → List (List ℕ)
words_at letter numbers places = map (word_at letter numbers) places

-- the name of the item at a place, and its label behind a colon
abbrev pub labelled_word : List ℕ → List ℕ → List ℕ → ℕ → List ℕ
labelled_word letter numbers labels place =
    word_at letter numbers place ++ codes ":" ++ decimal (slice_index labels place)

-- so for the places below n
abbrev pub labelled_words : List ℕ → List ℕ → List ℕ → ℕ → List (List ℕ)
labelled_words letter numbers labels n =
    map (labelled_word letter numbers labels) (range_with_len 0 n)

-- a value behind a colon
abbrev pub value_text : ℤ → List ℕ
value_text value = codes ":" ++ signed_decimal value

-- `i1:7`, `i1:7:2`: the item, and what it holds
abbrev pub cell_word : CellShow → List ℕ
cell_word cell = numbered (codes "i") cell.number ++ flat_map value_text cell.values

-- a label with what stands round it; it is one word, whatever it holds
abbrev pub label_word : List ℕ → List ℕ
label_word label = codes "|{" ++ label ++ codes "}|"

-- the words of a command that was done
abbrev pub line_words : ReplyLine → List (List ℕ)
line_words Empty = []
line_words Nil = codes "nil" ∷ []
line_words (Num number) = signed_decimal number ∷ []
line_words (Two nodes edges) = decimal nodes ∷ decimal edges ∷ []
line_words (Name x) = item_word x ∷ []
line_words (Names xs) = map item_word xs
line_words (Cells cells) = map cell_word cells
line_words (Label label) = label_word label ∷ []

-- a walk by its edges, or a closed set by its nodes
abbrev pub reach_words : List ℕ → List ℕ → Reach → List (List ℕ)
reach_words nodes edges (Walk arcs) = codes "walk" ∷ words_at (codes "e") edges arcs
reach_words nodes edges (Closed set) = codes "closed" ∷ words_at (codes "n") nodes set

-- what is wrong with the text of a graph
abbrev pub kind_word : TextKind → List ℕ
kind_word kinds.Header = codes "header"
kind_word kinds.Kind = codes "kind"
kind_word kinds.Count = codes "count"
kind_word kinds.Label = codes "label"
kind_word kinds.Ends = codes "ends"
kind_word kinds.Reversal = codes "reversal"
kind_word kinds.Truncated = codes "truncated"
kind_word kinds.Trailing = codes "trailing"
kind_word kinds.Limit = codes "limit"
