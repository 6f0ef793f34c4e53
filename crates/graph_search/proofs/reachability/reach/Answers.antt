use Rattle.std.proofs.Common.{◌∙◌, ap}
use Rattle.graph_search.specs.Tree.{found_at, nodes_visited, HasReached, HasMissed}
use Rattle.graph_search.proofs.Steps.{start_is, closed_is, missed_by, rows_of_net, lead_within, reached_by}
use Rattle.graph_search.proofs.reachability.reach.Goals as goal

pub run-requires-clause-within : goal.run-requires-clause-within
run-requires-clause-within c = lead_within c.args.net.now c.in_ok-leaving.leaving c.requires.valid (rows_of_net c.args.net.now c.as_slice.result.now c.in_ok-leaving.leaving c.as_slice.ensures c.in_ok-leaving.ensures.rows)

pub run-requires-clause-search : goal.run-requires-clause-search
run-requires-clause-search c = start_is c.in_ok-leaving.leaving c.args.net.now.n c.args.s c.in_ok-search.search.visited.items c.in_ok-search.search.queue.items c.in_ok-leaving.ensures.nodes c.requires.s c.in_ok-search.ensures.visited c.in_ok-search.ensures.queue

pub returns-then-branch : goal.returns-then-branch
returns-then-branch c =
    let rows = rows_of_net c.args.net.now c.as_slice.result.now c.in_ok-leaving.leaving c.as_slice.ensures c.in_ok-leaving.ensures.rows in
    reached_by c.args.net.now c.in_ok-leaving.leaving c.args.s c.args.t c.in_ok-search.search.queue.items c.in_ok-run.field-0 c.run.new.self.queue.items c.as_slice-queue.result.now c.in_ok-walk_to.field-0
    (HasMissed c.in_ok-leaving.leaving (found_at c.in_ok-search.search.queue.items 0).node c.args.t c.run.new.self.visited.items)
    rows c.in_ok-search.ensures.queue c.if-branch.true c.in_ok-run.ensures c.as_slice-queue.ensures.value c.in_ok-walk_to.ensures

pub returns : goal.returns
returns c =
    let rows = rows_of_net c.args.net.now c.as_slice.result.now c.in_ok-leaving.leaving c.as_slice.ensures c.in_ok-leaving.ensures.rows in
    closed_is c.args.net.now c.in_ok-leaving.leaving c.args.s c.args.t c.run.new.self.visited.items c.in_ok-visited_nodes.field-0 c.requires.valid rows c.requires.s
    (missed_by c.in_ok-leaving.leaving c.args.s c.args.t c.in_ok-search.search.queue.items c.in_ok-run.field-0 c.run.new.self.visited.items
    (HasReached c.in_ok-leaving.leaving (found_at c.in_ok-search.search.queue.items 0).node c.args.t c.run.new.self.queue.items)
    c.in_ok-search.ensures.queue c.if-branch.false c.in_ok-run.ensures)
    (c.in_ok-visited_nodes.ensures ∙ ap nodes_visited c.as_slice-else-branch.ensures.value)
