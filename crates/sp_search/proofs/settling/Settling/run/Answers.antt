use Rattle.std.proofs.Common.{◌≡◌, ◌-◌, pos, w64, to_z, of_z, List, length, ap, sym, ◌∙◌}
use Rattle.graph_defs.specs.declared.shortest.Finite.{Finite}
use Rattle.sp_search.specs.declared.labels.Least.{Least}
use Rattle.sp_search.specs.Settling.{last}
use Rattle.sp_search.proofs.Steps.{labels_small, start_is, row_of_net, none_spread, spread_is, passable_at, settled_next, settled_by, least_back, last_settled}
use Rattle.sp_search.proofs.settling.Settling.run.Goals as goal

pub spread-requires-clause-row : goal.spread-requires-clause-row
spread-requires-clause-row c =
    let f = c.args.self.now.settled.items in
    let is = start_is c.args.net.now c.args.s c.args.cost.now c.requires.costed c.requires.s f c.args.self.now.labels c.args.self.now.preds.items c.requires.settled c.requires.labels c.requires.preds in
    let row = row_of_net c.args.net.now c.as_slice.result.now c.in_ok-rows.rows c.row.result.now c.args.s (last f).node c.as_slice.ensures c.in_ok-rows.ensures.rows c.row.ensures
    (sym (ap (λ (x : List Finite). (last x).node) c.requires.settled)) in
    passable_at c.args.net.now c.args.s c.args.cost.now c.requires.costed f c.args.self.now.labels c.args.self.now.preds.items is c.row.result.now row (pos 0)
    (sym (ap (λ (x : List Finite). (last x).dist) c.requires.settled))

pub loop-least-init : goal.loop-least-init
loop-least-init c =
    let f = c.args.self.now.settled.items in
    let is = start_is c.args.net.now c.args.s c.args.cost.now c.requires.costed c.requires.s f c.args.self.now.labels c.args.self.now.preds.items c.requires.settled c.requires.labels c.requires.preds in
    let row = row_of_net c.args.net.now c.as_slice.result.now c.in_ok-rows.rows c.row.result.now c.args.s (last f).node c.as_slice.ensures c.in_ok-rows.ensures.rows c.row.ensures
    (sym (ap (λ (x : List Finite). (last x).node) c.requires.settled)) in
    spread_is c.args.net.now c.args.s c.args.cost.now c.requires.costed f c.args.self.now.labels c.args.self.now.preds.items is
    (none_spread c.args.net.now c.args.cost.now f c.args.self.now.labels (length f - 1) (ap (λ (x : List Finite). length x - 1) c.requires.settled))
    c.row.result.now row (pos 0) (sym (ap (λ (x : List Finite). (last x).dist) c.requires.settled))
    c.spread.new.self.settled.items c.spread.new.self.labels c.spread.new.self.preds.items c.spread.ensures.settled c.in_ok-spread.ensures.fallen

pub spread-requires-in-Some-clause-row : goal.spread-requires-in-Some-clause-row
spread-requires-in-Some-clause-row c =
    let net = c.args.net.now in
    let cost = c.args.cost.now in
    let g = c.loop-least.self in
    let h = c.settle.new.self in
    let least : Least = record { node = c.in-Some.least.node; dist = c.in-Some.least.dist } in
    let is = settled_next net c.args.s cost c.requires.costed g.settled.items g.labels g.preds.items c.loop-least.invariant.0 c.loop-least.invariant.1 least c.in-Some.ensures.1
    h.settled.items h.labels h.preds.items c.in_ok-settle.ensures.settled (c.settle.ensures.labels ∙ c.in-Some.ensures.0) c.settle.ensures.preds in
    let e : last h.settled.items ≡ settled_by least g.preds.items = last_settled g.settled.items h.settled.items (settled_by least g.preds.items) c.in_ok-settle.ensures.settled in
    let row = row_of_net net c.as_slice.result.now c.in_ok-rows.rows c.row-in-Some.result.now least.node (last h.settled.items).node c.as_slice.ensures c.in_ok-rows.ensures.rows c.row-in-Some.ensures
    (sym (ap (λ (x : Finite). x.node) e)) in
    passable_at net c.args.s cost c.requires.costed h.settled.items h.labels h.preds.items is.0 c.row-in-Some.result.now row (to_z w64 (of_z w64 c.in-Some.least.dist))
    (least_back net c.args.s cost c.requires.costed g.settled.items g.labels g.preds.items c.loop-least.invariant.0 least c.in-Some.ensures.1 ∙ sym (ap (λ (x : Finite). x.dist) e))

pub loop-least-preserved : goal.loop-least-preserved
loop-least-preserved c =
    let net = c.args.net.now in
    let cost = c.args.cost.now in
    let g = c.loop-least.self in
    let h = c.settle.new.self in
    let least : Least = record { node = c.in-Some.least.node; dist = c.in-Some.least.dist } in
    let is = settled_next net c.args.s cost c.requires.costed g.settled.items g.labels g.preds.items c.loop-least.invariant.0 c.loop-least.invariant.1 least c.in-Some.ensures.1
    h.settled.items h.labels h.preds.items c.in_ok-settle.ensures.settled (c.settle.ensures.labels ∙ c.in-Some.ensures.0) c.settle.ensures.preds in
    let e : last h.settled.items ≡ settled_by least g.preds.items = last_settled g.settled.items h.settled.items (settled_by least g.preds.items) c.in_ok-settle.ensures.settled in
    let row = row_of_net net c.as_slice.result.now c.in_ok-rows.rows c.row-in-Some.result.now least.node (last h.settled.items).node c.as_slice.ensures c.in_ok-rows.ensures.rows c.row-in-Some.ensures
    (sym (ap (λ (x : Finite). x.node) e)) in
    spread_is net c.args.s cost c.requires.costed h.settled.items h.labels h.preds.items is.0 is.1 c.row-in-Some.result.now row (to_z w64 (of_z w64 c.in-Some.least.dist))
    (least_back net c.args.s cost c.requires.costed g.settled.items g.labels g.preds.items c.loop-least.invariant.0 least c.in-Some.ensures.1 ∙ sym (ap (λ (x : Finite). x.dist) e))
    c.spread-in-Some.new.self.settled.items c.spread-in-Some.new.self.labels c.spread-in-Some.new.self.preds.items c.spread-in-Some.ensures.settled c.in_ok-spread-2.ensures.fallen

pub take_least-requires-clause-small : goal.take_least-requires-clause-small
take_least-requires-clause-small c =
    labels_small c.args.net.now c.args.s c.args.cost.now c.requires.costed c.loop-least.self.settled.items c.loop-least.self.labels c.loop-least.self.preds.items c.loop-least.invariant.0
