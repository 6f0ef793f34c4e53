use Rattle.std.proofs.Common.{◌≡◌, ◌+◌, ◌<◌, true, false, ◌∷◌, [], ◌++◌, length, get_or, set, ap, ◌∙◌, arith}
use Rattle.std.proofs.lemmas.List.{get_or_default}
use Rattle.graph_defs.specs.declared.grouped.Incidence.{Incidence}
use Rattle.graph_search.specs.declared.breadth_first.Found.{Found}
use Rattle.graph_search.specs.declared.breadth_first.Search.{Search}
use Rattle.graph_search.specs.Tree.{found_at, is_visited}
use Rattle.graph_search.proofs.Steps.{end_below, read_visited, link_of, search_visit, search_by, spreading_by, spreading_skip, spreading_visit}
use Rattle.graph_search.proofs.breadth_first.Search.spread.Goals as goal
use Rattle.graph_search.proofs.breadth_first.Search.spread.Goals.{then-not-index+in_ok-visit+else-node-t, else-not-index}

pub returns-then-node-t-clause-search : goal.returns-then-node-t-clause-search
returns-then-node-t-clause-search c =
    let row = c.args.row.now in
    let j = c.loop-entry.entry-index in
    let x : Incidence = get_or row j (record { number = 0; end = 0 }) in
    let r : x ≡ get_or row j x = get_or_default row j (record { number = 0; end = 0 }) x c.loop-entry-test.true in
    let f : Found = record { node = x.end; arc = x.number; predecessor = c.args.head } in
    let visited = c.loop-entry.self.visited.items in
    let queue = c.loop-entry.self.queue.items in
    let below = end_below c.args.rows.now (found_at c.args.self.now.queue.items c.args.head).node j row x c.requires.within c.requires.row c.loop-entry-test.true r in
    let inside : x.end < length visited = omega (arith, c.loop-entry.invariant.is.long) in
    let new = read_visited visited x.end c.index.result.now false inside c.index.ensures c.if-not-index.true in
    search_by c.args.rows.now (set visited f.node true) c.visit.new.self.visited.items (queue ++ f ∷ []) c.visit.new.self.queue.items
    c.in_ok-visit.ensures.visited c.in_ok-visit.ensures.queue
    (search_visit c.args.rows.now visited queue f c.loop-entry.invariant.is below new
    (link_of c.args.rows.now row j c.args.head x c.args.self.now.visited.items c.args.self.now.queue.items visited queue c.requires.row c.loop-entry-test.true r c.requires.head c.loop-entry.invariant.grows))

pub loop-entry-preserved : goal.loop-entry-preserved
loop-entry-preserved c =
    let row = c.args.row.now in
    let j = c.loop-entry.entry-index in
    let x : Incidence = get_or row j (record { number = 0; end = 0 }) in
    let r : x ≡ get_or row j x = get_or_default row j (record { number = 0; end = 0 }) x c.loop-entry-test.true in
    let f : Found = record { node = x.end; arc = x.number; predecessor = c.args.head } in
    let visited = c.loop-entry.self.visited.items in
    let queue = c.loop-entry.self.queue.items in
    let below = end_below c.args.rows.now (found_at c.args.self.now.queue.items c.args.head).node j row x c.requires.within c.requires.row c.loop-entry-test.true r in
    let inside : x.end < length visited = omega (arith, c.loop-entry.invariant.is.long) in
    elim c.if-not-index.branch [
      | then-not-index+in_ok-visit+else-node-t w ↦
          spreading_by c.args.rows.now c.args.t row (j + 1) c.args.self.now.visited.items c.args.self.now.queue.items
          (set visited f.node true) c.if-not-index.self.visited.items (queue ++ f ∷ []) c.if-not-index.self.queue.items
          (ap (λ (s : Search). s.visited.items) w.self-is ∙ w.in_ok-visit.ensures.visited) (ap (λ (s : Search). s.queue.items) w.self-is ∙ w.in_ok-visit.ensures.queue)
          (spreading_visit c.args.rows.now c.args.t row j c.args.head x c.args.self.now.visited.items c.args.self.now.queue.items visited queue
          c.requires.within c.requires.row c.loop-entry-test.true r c.requires.head c.loop-entry.invariant
          (read_visited visited x.end c.index.result.now false inside c.index.ensures w.if-not-index.true) w.if-node-t.false)
      | else-not-index w ↦
          spreading_by c.args.rows.now c.args.t row (j + 1) c.args.self.now.visited.items c.args.self.now.queue.items
          visited c.if-not-index.self.visited.items queue c.if-not-index.self.queue.items
          (ap (λ (s : Search). s.visited.items) w.self-is) (ap (λ (s : Search). s.queue.items) w.self-is)
          (spreading_skip c.args.rows.now c.args.t row j x c.args.self.now.visited.items c.args.self.now.queue.items visited queue
          c.loop-entry-test.true r c.loop-entry.invariant
          (read_visited visited x.end c.index.result.now true inside c.index.ensures w.if-not-index.false))
    ]
