use borrow.Author.Differences.{ints}
use Rattle.std.proofs.Common.{◌≡◌, ◌+◌, ◌<◌, ℕ, ℤ, pos, ◌≤ℤ◌, true, false, List, ◌∷◌, [], ◌++◌, length, get_or, set, ap, sym, subst, ◌∙◌, arith, rules, to_z, of_z, FitsSigned}
use mir.Syntax.{w64}
use Rattle.std.specs.List.{Contains}
use Rattle.std.proofs.lemmas.List.{get_or_default, get_or_read}
use Rattle.graph_defs.specs.declared.grouped.Incidence.{Incidence}
use Rattle.flow_net.specs.declared.breadth_first.Found.{Found}
use Rattle.flow_net.specs.declared.breadth_first.Search.{Search}
use Rattle.flow_net.specs.Residual.{row_at}
use Rattle.flow_net.specs.Search.{found_at, is_visited}
use Rattle.flow_net.proofs.Steps.{IsStep, end_below, read_visited, room_least, no_room, room_some, spreading_by, spreading_skip, spreading_visit}
use Rattle.flow_net.proofs.breadth_first.Search.spread.Goals as goal
use Rattle.flow_net.proofs.breadth_first.Search.spread.Goals.{then-room-gt0+then-not-index+in_ok-visit, then-room-gt0+else-not-index, else-room-gt0}

pub loop-entry-preserved : goal.loop-entry-preserved
loop-entry-preserved c =
    let rows = c.args.rows.now in
    let cap = c.args.cap.now in
    let flow = c.args.flow.now in
    let s = (found_at c.args.self.now.queue.items 0).node in
    let row = c.args.row.now in
    let j = c.loop-entry.entry-index in
    let visited0 = c.args.self.now.visited.items in
    let queue0 = c.args.self.now.queue.items in
    let x : Incidence = get_or row j (record { number = 0; end = 0 }) in
    let r : x ≡ get_or row j x = get_or_default row j (record { number = 0; end = 0 }) x c.loop-entry-test.true in
    let visited = c.loop-entry.self.visited.items in
    let queue = c.loop-entry.self.queue.items in
    let ends = end_below rows cap flow (found_at queue0 c.args.head).node j row x c.requires.residual c.requires.row c.loop-entry-test.true r in
    let below : x.end < length rows = ends.0 in
    let inside : x.end < length visited = omega (arith, c.loop-entry.invariant.is.long) in
    let room = c.room_of-room.result in
    let front = c.room_of-room.ensures.front in
    let back = c.room_of-room.ensures.back in
    let Q : List Incidence → Type 0 = λ xs. Contains xs x in
    let by = subst Q c.requires.row (j, c.loop-entry-test.true, sym r) in
    let head_is : c.index.result.now ≡ found_at queue0 c.args.head = get_or_read queue0 c.args.head c.index.result.now c.requires.head c.index.ensures (record { node = 0; dart = 0; predecessor = 0; room = pos 0 }) in
    let most = c.index.result.now.room in
    let room_fits : FitsSigned w64 room = search rules in
    let most_fits : FitsSigned w64 most = search rules in
    let some : pos 1 ≤ℤ (found_at queue0 c.args.head).room = room_some rows cap flow s visited0 queue0 c.args.head c.requires.search c.requires.head in
    let M : Found → Type 0 = λ g. pos 1 ≤ℤ g.room in
    let most_some : pos 1 ≤ℤ most = subst M (sym head_is) some in
    elim c.if-room-gt0.branch [
      | then-room-gt0+then-not-index+in_ok-visit w ↦ (
          let raw = w.smaller.result in
          let raw_fits : FitsSigned w64 raw = search rules in
          let least : ℤ = to_z w64 (of_z w64 raw) in
          let first : raw ≤ℤ to_z w64 (of_z w64 most) = w.smaller.ensures.first in
          let second : raw ≤ℤ to_z w64 (of_z w64 room) = w.smaller.ensures.second in
          let more = w.if-room-gt0.true in
          let first_is : least ≤ℤ most = omega (arith, ints) in
          let second_is : least ≤ℤ room = omega (arith, ints) in
          let f : Found = record { node = x.end; dart = x.number; predecessor = c.args.head; room = least } in
          let R : Found → Type 0 = λ g. least ≤ℤ g.room in
          let st : IsStep rows cap flow queue0 c.args.head x least = record {
            head_is = c.requires.head;
            by = by;
            below = below;
            room_is = room_least cap flow x.number room least front back second_is;
            least = subst R head_is first_is;
            some = (let one : pos 1 ≤ℤ raw = w.smaller.ensures.some (omega (arith, ints)) (omega (arith, ints)) in omega (arith, ints));
          } in
          spreading_by rows cap flow s row (j + 1) visited0 queue0
          (set visited f.node true) c.if-room-gt0.self.visited.items (queue ++ f ∷ []) c.if-room-gt0.self.queue.items
          (ap (λ (s : Search). s.visited.items) w.self-is ∙ w.in_ok-visit.ensures.visited) (ap (λ (s : Search). s.queue.items) w.self-is ∙ w.in_ok-visit.ensures.queue)
          (spreading_visit rows cap flow s row j c.args.head x least visited0 queue0 visited queue
          st c.loop-entry-test.true r c.loop-entry.invariant
          (read_visited visited x.end w.index-then-room-gt0.result.now false inside w.index-then-room-gt0.ensures w.if-not-index.true)))
      | then-room-gt0+else-not-index w ↦
          spreading_by rows cap flow s row (j + 1) visited0 queue0
          visited c.if-room-gt0.self.visited.items queue c.if-room-gt0.self.queue.items
          (ap (λ (s : Search). s.visited.items) w.self-is) (ap (λ (s : Search). s.queue.items) w.self-is)
          (spreading_skip rows cap flow s row j x visited0 queue0 visited queue
          c.loop-entry-test.true r c.loop-entry.invariant
          (λ has. read_visited visited x.end w.index-then-room-gt0.result.now true inside w.index-then-room-gt0.ensures w.if-not-index.false))
      | else-room-gt0 w ↦
          spreading_by rows cap flow s row (j + 1) visited0 queue0
          visited c.if-room-gt0.self.visited.items queue c.if-room-gt0.self.queue.items
          (ap (λ (s : Search). s.visited.items) w.self-is) (ap (λ (s : Search). s.queue.items) w.self-is)
          (spreading_skip rows cap flow s row j x visited0 queue0 visited queue
          c.loop-entry-test.true r c.loop-entry.invariant
          (λ has. absurd (no_room cap flow x.number room front back (let none = w.if-room-gt0.false in omega (arith, ints)) has)))
    ]
