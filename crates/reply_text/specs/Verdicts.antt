-- The words of what a checker says.
use Rattle.std.specs.Prelude.{◌≡◌, ℕ, ◌+◌, ◌<◌, List, [], ◌∷◌, ◌++◌, map, length, codes, decimal, ⊤}
use Rattle.graph_defs.specs.declared.verdict.Cond.{Cond}
use Rattle.graph_defs.specs.declared.verdict.Cond.TheVariants as conds
use Rattle.graph_defs.specs.declared.verdict.Verdict.{Verdict}
use Rattle.graph_defs.specs.declared.verdict.Verdict.TheVariants.{Yes, No}
use Rattle.reply_text.specs.declared.verdict.PlaceOf.{PlaceOf}
use Rattle.reply_text.specs.declared.verdict.PlaceOf.TheVariants.{Nothing, Item, Node, Arc, Seed}
use Rattle.reply_text.specs.Words.{numbered, words_at}

-- the word of a condition
abbrev pub cond_word : Cond → List ℕ
cond_word conds.Gone = codes "gone"
cond_word conds.Missing = codes "missing"
cond_word conds.Range = codes "range"
cond_word conds.Once = codes "once"
cond_word conds.Source = codes "source"
cond_word conds.TightNode = codes "tight"
cond_word conds.Seed = codes "seed"
cond_word conds.Low = codes "low"
cond_word conds.Shorter = codes "shorter"
cond_word conds.Leaves = codes "leaves"
cond_word conds.Bounds = codes "bounds"
cond_word conds.Balance = codes "balance"
cond_word conds.Cut = codes "cut"
cond_word conds.Value = codes "value"
cond_word conds.Reduced = codes "reduced"
cond_word conds.Cost = codes "cost"
cond_word conds.SetSum = codes "set"
cond_word conds.SelfLoop = codes "loop"
cond_word conds.Shared = codes "shared"
cond_word conds.Label = codes "label"
cond_word conds.Size = codes "size"
cond_word conds.Pot = codes "pot"
cond_word conds.Dominates = codes "dominates"
cond_word conds.TightArc = codes "tight"
cond_word conds.Free = codes "free"
cond_word conds.Weight = codes "weight"
cond_word conds.Hall = codes "hall"
cond_word conds.Darts = codes "darts"
cond_word conds.Genus = codes "genus"
cond_word conds.Subdivision = codes "subdivision"

-- what stands at the place of a condition
abbrev pub place_of : Cond → PlaceOf
place_of conds.Gone = Item
place_of conds.Missing = Node
place_of conds.Range = Nothing
place_of conds.Once = Node
place_of conds.Source = Node
place_of conds.TightNode = Node
place_of conds.Seed = Seed
place_of conds.Low = Node
place_of conds.Shorter = Arc
place_of conds.Leaves = Arc
place_of conds.Bounds = Arc
place_of conds.Balance = Node
place_of conds.Cut = Nothing
place_of conds.Value = Nothing
place_of conds.Reduced = Arc
place_of conds.Cost = Nothing
place_of conds.SetSum = Nothing
place_of conds.SelfLoop = Arc
place_of conds.Shared = Node
place_of conds.Label = Arc
place_of conds.Size = Nothing
place_of conds.Pot = Node
place_of conds.Dominates = Arc
place_of conds.TightArc = Arc
place_of conds.Free = Node
place_of conds.Weight = Nothing
place_of conds.Hall = Nothing
place_of conds.Darts = Arc
place_of conds.Genus = Nothing
place_of conds.Subdivision = Nothing

-- the words of a place: the node's or the edge's name, or the seed's number from 1; an item that is
-- gone has the one name there is
abbrev pub place_words : List ℕ → List ℕ → PlaceOf → ℕ → List (List ℕ)
place_words nodes edges Nothing place = []
place_words nodes edges Item place =
    map (numbered (codes "n")) nodes ++ map (numbered (codes "e")) edges
place_words nodes edges Node place = words_at (codes "n") nodes (place ∷ [])
place_words nodes edges Arc place = words_at (codes "e") edges (place ∷ [])
place_words nodes edges Seed place = decimal (place + 1) ∷ []

-- `yes`, or the first condition that is broken, and where
abbrev pub verdict_words : List ℕ → List ℕ → Verdict → List (List ℕ)
verdict_words nodes edges Yes = codes "yes" ∷ []
verdict_words nodes edges (No broken place) =
    codes "no" ∷ cond_word broken ∷ place_words nodes edges (place_of broken) place

-- what stands at the place has a name
abbrev pub IsPlaceNamed : List ℕ → List ℕ → PlaceOf → ℕ → Type 0
IsPlaceNamed nodes edges Nothing place = ⊤
IsPlaceNamed nodes edges Item place = length nodes + length edges ≡ 1
IsPlaceNamed nodes edges Node place = place < length nodes
IsPlaceNamed nodes edges Arc place = place < length edges
IsPlaceNamed nodes edges Seed place = ⊤

abbrev pub IsVerdictNamed : List ℕ → List ℕ → Verdict → Type 0
IsVerdictNamed nodes edges Yes = ⊤
IsVerdictNamed nodes edges (No broken place) = IsPlaceNamed nodes edges (place_of broken) place
