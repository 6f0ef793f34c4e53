use Rattle.std.proofs.Common.{◌≡◌, ◌++◌, ◌∷◌, [], ℕ, List, ap, ◌∙◌}
use Rattle.std.proofs.lemmas.Result.{err_from_is_err_and}
use Rattle.graph_text.specs.Gives.{line_seen}
use Rattle.graph_text.specs.Reading.{node_in, many_of}
use Rattle.graph_text.proofs.Loops.{goes_on, no_line, no_item, is_done}
use Rattle.graph_text.proofs.element.read_nodes.Goals as goal

pub returns-in_err-line : goal.returns-in_err-line
returns-in_err-line c =
    let r = c.from_residual-in_err-line in
    let p = err_from_is_err_and r.result r.ensures.1 in
    rw (p.1, p.2) (no_line (node_in c.args.void) c.loop.nodes c.args.count c.loop.counter
    c.loop.lines c.in_err-line.field-0.0
    (many_of (node_in c.args.void) c.args.count c.args.lines.now)
    c.loop-test.true c.in_err-line.ensures c.loop.invariant)

pub returns-in_err-label : goal.returns-in_err-label
returns-in_err-label c =
    let r = c.from_residual-in_err-label in
    let p = err_from_is_err_and r.result r.ensures.1 in
    rw (p.1, p.2) (no_item (node_in c.args.void) c.loop.nodes c.args.count c.loop.counter
    c.loop.lines (line_seen c.in_ok-line.line) c.want_line.new.self c.in_err-label.field-0.0
    (many_of (node_in c.args.void) c.args.count c.args.lines.now)
    c.loop-test.true c.in_ok-line.ensures c.in_err-label.ensures c.loop.invariant)

pub loop-preserved : goal.loop-preserved
loop-preserved c =
    let label = c.in_ok-label.field-0.now in
    let push : c.push.new.self ≡ c.loop.nodes ++ label ∷ [] =
    c.in_ok-push.ensures.ok
    ∙ ap (λ (x : List ℕ). c.loop.nodes ++ x ∷ []) c.in_ok-own.ensures.ok in
    rw push (goes_on (node_in c.args.void) c.loop.nodes c.args.count c.loop.counter
    c.loop.lines (line_seen c.in_ok-line.line) c.want_line.new.self label
    (many_of (node_in c.args.void) c.args.count c.args.lines.now)
    c.loop-test.true c.in_ok-line.ensures c.in_ok-label.ensures c.loop.invariant)

pub returns : goal.returns
returns c =
    is_done (node_in c.args.void) c.loop.nodes c.args.count c.loop.counter c.loop.lines
    (many_of (node_in c.args.void) c.args.count c.args.lines.now) c.loop-test.false
    c.loop.invariant
