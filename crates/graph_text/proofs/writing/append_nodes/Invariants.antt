use Rattle.std.proofs.Common.{◌≡◌, ◌++◌, map, take}
use Rattle.graph_text.specs.Written.{label_text, ended_lines}
use Rattle.graph_text.proofs.writing.append_nodes.Given as goal

abbrev pub invariant-loop-label : goal.invariant-loop-label
invariant-loop-label l =
    l.to.items ≡ l.initial.to.items ++ ended_lines (map label_text (take l.label-index l.nodes))
