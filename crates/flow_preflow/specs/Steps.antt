-- How many relabels a search may take.
use Rattle.std.specs.Prelude.{ℕ, ◌-◌, ◌*◌}
use Rattle.graph_defs.specs.declared.net.Net.{Net}

-- the most relabels of a search by pushes, in which a label stays below twice the number of nodes
abbrev pub most_steps : Net → ℕ
most_steps net = (2 * net.n - 1) * net.n
