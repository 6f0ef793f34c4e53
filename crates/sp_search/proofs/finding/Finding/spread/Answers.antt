use Rattle.std.proofs.Common.{◌≡◌, ◌<◌, ◌≤◌, length, ap, arith, rules}
use Rattle.std.proofs.lemmas.List.{get_or_read}
use Rattle.graph_defs.specs.declared.shortest.Why.TheVariants.{Seed}
use Rattle.sp_search.specs.declared.finding.Found.{Found}
use Rattle.sp_search.specs.Finding.{found_at}
use Rattle.sp_search.proofs.Findings.{place_below, row_openable, way_more, way_closed}
use Rattle.sp_search.proofs.Steps.{row_of_net}
use Rattle.sp_search.proofs.finding.Finding.spread.Goals as goal

pub row-row-requires : goal.row-row-requires
row-row-requires c =
    let queue = c.loop-head.self.queue.items in
    let f : Found = c.index.result.now in
    let hh : c.loop-head.head < length queue = search rules in
    let q : f ≡ found_at queue c.loop-head.head = get_or_read queue c.loop-head.head f hh c.index.ensures (record { node = 0; why = Seed 0; before = 0 }) in
    let b = place_below c.args.net.now c.args.opened.now queue c.loop-head.self.marks.items c.loop-head.invariant.is c.loop-head.head hh in
    let e = ap (λ (x : Found). x.node) q in
    omega (arith, c.in_ok-rows.ensures.nodes)

pub spread_row-requires : goal.spread_row-requires
spread_row-requires c =
    let net = c.args.net.now in
    let queue = c.loop-head.self.queue.items in
    let f : Found = c.index.result.now in
    let hh : c.loop-head.head < length queue = search rules in
    let q : f ≡ found_at queue c.loop-head.head = get_or_read queue c.loop-head.head f hh c.index.ensures (record { node = 0; why = Seed 0; before = 0 }) in
    let row = row_of_net net c.as_slice.result.now c.in_ok-rows.rows c.row-row.result.now f.node (found_at queue c.loop-head.head).node c.as_slice.ensures c.in_ok-rows.ensures.rows c.row-row.ensures
    (ap (λ (x : Found). x.node) q) in
    record { row = row_openable net c.args.opened.now queue c.loop-head.self.marks.items c.row-row.result.now c.loop-head.head c.requires.wide c.loop-head.invariant.is hh row c.requires.opened }

pub loop-head-preserved : goal.loop-head-preserved
loop-head-preserved c =
    let net = c.args.net.now in
    let queue = c.loop-head.self.queue.items in
    let f : Found = c.index.result.now in
    let hh : c.loop-head.head < length queue = search rules in
    let q : f ≡ found_at queue c.loop-head.head = get_or_read queue c.loop-head.head f hh c.index.ensures (record { node = 0; why = Seed 0; before = 0 }) in
    let row = row_of_net net c.as_slice.result.now c.in_ok-rows.rows c.row-row.result.now f.node (found_at queue c.loop-head.head).node c.as_slice.ensures c.in_ok-rows.ensures.rows c.row-row.ensures
    (ap (λ (x : Found). x.node) q) in
    way_more net c.args.opened.now c.args.self.now.queue.items c.args.self.now.marks.items c.loop-head.head queue c.loop-head.self.marks.items c.requires.wide c.loop-head.invariant
    c.row-row.result.now hh row c.spread_row.new.self.queue.items c.spread_row.new.self.marks.items c.in_ok-spread_row.ensures

pub returns-clause-closed : goal.returns-clause-closed
returns-clause-closed c =
    let h : length c.loop-head.self.queue.items ≤ c.loop-head.head = search rules in
    way_closed c.args.net.now c.args.opened.now c.args.self.now.queue.items c.args.self.now.marks.items c.loop-head.head c.loop-head.self.queue.items c.loop-head.self.marks.items c.requires.wide c.loop-head.invariant h
