use Rattle.std.proofs.Common.{inl}
use Rattle.graph_core.proofs.graph.Graph.new.Goals as goal

pub begin-requires-clause-types : goal.begin-requires-clause-types
begin-requires-clause-types c = (inl c.new.ensures, inl c.new-2.ensures)
