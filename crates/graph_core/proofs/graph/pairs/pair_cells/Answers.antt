-- Two edges that have lost their reversals get each other.
use Rattle.std.proofs.Common.{Some}
use Rattle.std.specs.FinMap as map
use Rattle.graph_state.specs.Edits.{unpaired_at}
use Rattle.graph_core.proofs.Pairs.{puts_reversal, rewires_has, rewires_live, rewires_on, can_still}
use Rattle.graph_core.proofs.graph.pairs.pair_cells.Goals as goal

pub unpair-requires-2 : goal.unpair-requires-2
unpair-requires-2 c = can_still c.args.edges.now c.unpair.new.edges c.args.e c.args.f c.unpair.ensures c.requires.second

pub put_reversal-requires : goal.put_reversal-requires
put_reversal-requires c =
    (can_still c.unpair.new.edges c.unpair-2.new.edges c.args.f c.args.e c.unpair-2.ensures (can_still c.args.edges.now c.unpair.new.edges c.args.e c.args.e c.unpair.ensures c.requires.first)).live

pub put_reversal-requires-2 : goal.put_reversal-requires-2
put_reversal-requires-2 c =
    let first = can_still c.unpair.new.edges c.unpair-2.new.edges c.args.f c.args.e c.unpair-2.ensures (can_still c.args.edges.now c.unpair.new.edges c.args.e c.args.e c.unpair.ensures c.requires.first) in
    let second = can_still c.unpair.new.edges c.unpair-2.new.edges c.args.f c.args.f c.unpair-2.ensures (can_still c.args.edges.now c.unpair.new.edges c.args.e c.args.f c.unpair.ensures c.requires.second) in
    let puts = puts_reversal c.unpair-2.new.edges c.put_reversal.new.edges c.args.e (Some c.args.f) first.live.0 first.live.1.0 (c.put_reversal.ensures.live first.live.0 first.live.1.0) c.put_reversal.ensures.made in
    rewires_live c.unpair-2.new.edges c.put_reversal.new.edges (map.insert second.reversals c.args.e c.args.f) (puts second.reversals second.has) c.args.f second.live

pub returns : goal.returns
returns c r has =
    let p = c.args.edges.now in
    let q = c.unpair.new.edges in
    let u = c.unpair-2.new.edges in
    let v = c.put_reversal.new.edges in
    let z = c.put_reversal-2.new.edges in
    let e = c.args.e in
    let f = c.args.f in
    let first = can_still q u f e c.unpair-2.ensures (can_still p q e e c.unpair.ensures c.requires.first) in
    let second = can_still q u f f c.unpair-2.ensures (can_still p q e f c.unpair.ensures c.requires.second) in
    let puts = puts_reversal u v e (Some f) first.live.0 first.live.1.0 (c.put_reversal.ensures.live first.live.0 first.live.1.0) c.put_reversal.ensures.made in
    let live = rewires_live u v (map.insert second.reversals e f) (puts second.reversals second.has) f second.live in
    let more = puts_reversal v z f (Some e) live.0 live.1.0 (c.put_reversal-2.ensures.live live.0 live.1.0) c.put_reversal-2.ensures.made in
    let one = unpaired_at e (map.get r e) r in
    let two = unpaired_at f (map.get one f) one in
    let three = map.insert two e f in
    let a = c.unpair.ensures r has in
    let b = c.unpair-2.ensures one (rewires_has p q one a) in
    let d = puts two (rewires_has q u two b) in
    rewires_on p v z three (map.insert three f e) (rewires_on p u v two three (rewires_on p q u one two a b) d) (more three (rewires_has u v three d))
