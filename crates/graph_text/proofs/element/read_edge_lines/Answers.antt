use Rattle.std.proofs.Common.{◌≡◌, ◌++◌, ◌∷◌, [], length-append, arith}
use Rattle.std.proofs.lemmas.Result.{err_from_is_err_and}
use Rattle.graph_text.specs.Gives.{line_seen, sizes_seen, placed}
use Rattle.graph_text.specs.Reading.{edge_in, many_of}
use Rattle.graph_text.proofs.Loops.{goes_on, no_line, no_item_refused, is_done}
use Rattle.graph_text.proofs.Pairs.{placed-push}
use Rattle.graph_text.proofs.element.read_edge_lines.Goals as goal

pub returns-in_err-line-clause-read : goal.returns-in_err-line-clause-read
returns-in_err-line-clause-read c =
    let sizes = sizes_seen c.args.sizes in
    let r = c.from_residual-in_err-line in
    let p = err_from_is_err_and r.result r.ensures.1 in
    rw (p.1, p.2) (no_line (edge_in sizes) (placed c.loop.edges c.loop.numbers) c.args.sizes.edges
    c.loop.counter c.loop.lines c.in_err-line.field-0.0
    (many_of (edge_in sizes) c.args.sizes.edges c.args.lines.now)
    c.loop-test.true c.in_err-line.ensures c.loop.invariant.read)

pub returns-in_err-edge-clause-read : goal.returns-in_err-edge-clause-read
returns-in_err-edge-clause-read c =
    let sizes = sizes_seen c.args.sizes in
    let r = c.from_residual-in_err-edge in
    let p = err_from_is_err_and r.result r.ensures.1 in
    rw (p.1, p.2) (no_item_refused c.in_err-edge.field-0.0 (edge_in sizes)
    (placed c.loop.edges c.loop.numbers) c.args.sizes.edges c.loop.counter
    c.loop.lines (line_seen c.in_ok-line.line) c.want_line.new.self
    (many_of (edge_in sizes) c.args.sizes.edges c.args.lines.now)
    c.loop-test.true c.in_ok-line.ensures c.in_err-edge.ensures c.loop.invariant.read)

pub loop-preserved : goal.loop-preserved
loop-preserved c =
    let sizes = sizes_seen c.args.sizes in
    let edge = c.in_ok-edge.field-0 in
    let number = c.in_ok-line.line.number in
    let edges : c.push.new.self ≡ c.loop.edges ++ edge ∷ [] = c.in_ok-push.ensures.ok in
    let numbers : c.push-in-loop.new.self ≡ c.loop.numbers ++ number ∷ [] =
    c.in_ok-push-2.ensures.ok in
    record {
      read = rw (
        edges,
        numbers,
        placed-push c.loop.edges c.loop.numbers edge number c.loop.invariant.lengths,
      )
          (goes_on (edge_in sizes) (placed c.loop.edges c.loop.numbers) c.args.sizes.edges
          c.loop.counter c.loop.lines (line_seen c.in_ok-line.line) c.want_line.new.self
          (record { line = number; edge = edge })
          (many_of (edge_in sizes) c.args.sizes.edges c.args.lines.now)
          c.loop-test.true c.in_ok-line.ensures c.in_ok-edge.ensures c.loop.invariant.read);
      lengths = rw (edges, numbers) (omega (
        arith,
        length-append c.loop.edges (edge ∷ []),
        length-append c.loop.numbers (number ∷ []),
        c.loop.invariant.lengths,
      ));
    }

pub returns-clause-read : goal.returns-clause-read
returns-clause-read c =
    let sizes = sizes_seen c.args.sizes in
    is_done (edge_in sizes) (placed c.loop.edges c.loop.numbers) c.args.sizes.edges c.loop.counter
    c.loop.lines (many_of (edge_in sizes) c.args.sizes.edges c.args.lines.now) c.loop-test.false
    c.loop.invariant.read
