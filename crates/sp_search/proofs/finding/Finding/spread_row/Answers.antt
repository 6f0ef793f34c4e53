use Rattle.std.proofs.Common.{◌≡◌, ◌<◌, false, length, get_or, sym, ap, subst, arith}
use Rattle.std.specs.Bool.{MatchBool}
use Rattle.std.proofs.lemmas.Bool.{both_ways}
use Rattle.std.proofs.lemmas.List.{get_or_default}
use Rattle.graph_defs.specs.declared.grouped.Incidence.{Incidence}
use Rattle.sp_search.specs.declared.finding.Finding.{Finding}
use Rattle.sp_search.specs.Finding.{IsAdded, IsKnown, found_by}
use Rattle.sp_search.proofs.Findings.{spread_same, spread_find}
use Rattle.sp_search.proofs.finding.Finding.spread_row.Goals as goal
use Rattle.sp_search.proofs.finding.Finding.spread_row.Goals.{then-opened-entry+in_ok-find, else-opened-entry}

pub loop-entry-preserved : goal.loop-entry-preserved
loop-entry-preserved c =
    let row = c.args.row.now in
    let j = c.loop-entry.entry-index in
    let x : Incidence = get_or row j (record { number = 0; end = 0 }) in
    let r : x ≡ get_or row j x = get_or_default row j (record { number = 0; end = 0 }) x c.loop-entry-test.true in
    let queue = c.loop-entry.self.queue.items in
    let marks = c.loop-entry.self.marks.items in
    let h = c.loop-entry.invariant in
    let passable = c.requires.row j (record { number = 0; end = 0 }) c.loop-entry-test.true in
    let inside = passable.inside in
    let lx : x.end < length marks = omega (arith, h.long, inside) in
    elim c.if-opened-entry.branch [
      | then-opened-entry+in_ok-find w ↦
          (let P : Finding → Type 0 = λ s. MatchBool w.in_ok-find.field-0 (IsAdded queue marks s.queue.items s.marks.items (found_by c.args.head x)) (IsKnown queue marks s.queue.items s.marks.items (found_by c.args.head x)) in
          spread_find row c.args.opened.now c.args.head j x c.args.self.now.queue.items c.args.self.now.marks.items queue marks c.loop-entry-test.true r h
          w.in_ok-find.field-0 c.if-opened-entry.self.queue.items c.if-opened-entry.self.marks.items lx w.if-opened-entry.true (subst P (sym w.self-is) w.in_ok-find.ensures))
      | else-opened-entry w ↦
          spread_same row c.args.opened.now c.args.head j x c.args.self.now.queue.items c.args.self.now.marks.items queue marks c.loop-entry-test.true r h
          c.if-opened-entry.self.queue.items c.if-opened-entry.self.marks.items (ap (λ (s : Finding). s.queue.items) w.self-is) (ap (λ (s : Finding). s.marks.items) w.self-is)
          (λ o. absurd (both_ways (get_or c.args.opened.now x.number false) w.if-opened-entry.false o))
    ]
