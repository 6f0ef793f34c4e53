-- What a question names besides nodes, arcs and numbers.
use Rattle.std.specs.Prelude.{ℕ, List, codes}
use Rattle.graph_defs.specs.declared.query.Kept.{Kept}
use Rattle.graph_defs.specs.declared.query.Kept.TheVariants as sorts

-- the word of a sort of kept answers
abbrev pub kept_word : Kept → List ℕ
kept_word sorts.Sp = codes "sp"
kept_word sorts.Maxflow = codes "maxflow"
kept_word sorts.Mincost = codes "mincost"
kept_word sorts.Mcf = codes "mcf"
kept_word sorts.Matching = codes "matching"
kept_word sorts.Assign = codes "assign"
kept_word sorts.Planar = codes "planar"
