use Rattle.std.proofs.Common.{Ok, Err, true}
use Rattle.std.proofs.lemmas.Result.{err_from_is_err_and}
use Rattle.graph_text.specs.Gives.{head_seen}
use Rattle.graph_text.proofs.Pairs.{graph-parts}
use Rattle.graph_text.proofs.reading.read_graph.Goals as goal

pub returns-in_err-check_pairs : goal.returns-in_err-check_pairs
returns-in_err-check_pairs c =
    let r = c.from_residual-in_err-check_pairs in
    let p = err_from_is_err_and r.result r.ensures.1 in
    let head = c.in_ok-head.head in
    let edges = c.in_ok-edges.edges in
    rw (p.1, p.2) (graph-parts c.args.lines.now (head_seen head) c.read_head.new.lines
    c.in_ok-nodes.nodes c.read_nodes.new.lines edges.edges edges.lines c.read_edges.new.lines
    c.is_void.result c.is_void-2.result (Err c.in_err-check_pairs.field-0.0)
    c.in_ok-edges.ensures.lengths c.is_void.ensures c.is_void-2.ensures c.in_ok-head.ensures.read
    c.in_ok-nodes.ensures c.in_ok-edges.ensures.read c.in_ok-end.ensures
    (rw (c.as_slice.ensures, c.as_slice-2.ensures) at c.in_err-check_pairs.ensures))

pub returns : goal.returns
returns c =
    let head = c.in_ok-head.head in
    let edges = c.in_ok-edges.edges in
    rw (c.in_ok-from_slice.ensures, c.in_ok-from_slice-2.ensures) (graph-parts c.args.lines.now
    (head_seen head) c.read_head.new.lines c.in_ok-nodes.nodes c.read_nodes.new.lines
    edges.edges edges.lines c.read_edges.new.lines c.is_void.result c.is_void-2.result (Ok true)
    c.in_ok-edges.ensures.lengths c.is_void.ensures c.is_void-2.ensures c.in_ok-head.ensures.read
    c.in_ok-nodes.ensures c.in_ok-edges.ensures.read c.in_ok-end.ensures
    (rw (c.as_slice.ensures, c.as_slice-2.ensures) at c.in_ok-check_pairs.ensures))
