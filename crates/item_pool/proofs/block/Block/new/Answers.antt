-- A block of empty places is filled with free cells.
use Rattle.std.proofs.Common.{◌≡◌, ◌<◌, get_or, set, length, replicate, map, Some, None, sym, ap, ◌∙◌, arith, add-one}
use Rattle.item_pool.specs.Chained.{blank, chained}
use Rattle.item_pool.specs.Filled.{somes}
use Rattle.item_pool.proofs.Blocks.{filled_to, filled_none, length-filled, filled_here, filled_more, filled_all, somes-map, length-chained}
use Rattle.item_pool.proofs.block.Block.new.Goals as goal

pub loop-index-init : goal.loop-index-init
loop-index-init g c =
    let cells = chained {X = g.row.T.Denot} c.args.len c.args.base c.args.free c.args.next in
    record { at = c.in_ok-start.ensures.0; row = c.in_ok-start.ensures.1 ∙ sym (filled_none cells ∙ ap (λ n. replicate n None) (length-chained _ c.args.len c.args.base c.args.free c.args.next)) }

pub fill-requires : goal.fill-requires
fill-requires g c =
    let cells = chained {X = g.row.T.Denot} c.args.len c.args.base c.args.free c.args.next in let k = c.loop-index.index in
    let long : length c.loop-index.places.row ≡ c.args.len = ap length c.loop-index.invariant.row ∙ length-filled k cells ∙ length-chained _ c.args.len c.args.base c.args.free c.args.next in
    (sym c.loop-index.invariant.at, omega (arith, long), ap (λ r. get_or r k None) c.loop-index.invariant.row ∙ filled_here k cells)

pub loop-index-preserved : goal.loop-index-preserved
loop-index-preserved g c =
    let cells = chained {X = g.row.T.Denot} c.args.len c.args.base c.args.free c.args.next in let k = c.loop-index.index in
    let lt : k < length cells = omega (arith, length-chained g.row.T.Denot c.args.len c.args.base c.args.free c.args.next) in
    record {
      at = c.fill.ensures.0 ∙ c.loop-index.invariant.at;
      row = c.fill.ensures.1 ∙ ap (λ r. set r k (Some c.free_cell-cell.result)) c.loop-index.invariant.row ∙ filled_more k cells c.free_cell-cell.result blank c.free_cell-cell.ensures lt ∙ ap (λ n. filled_to n cells) (sym (add-one k));
    }

pub invariant_of-result : goal.invariant_of-result
invariant_of-result g c =
    let cells = chained {X = g.row.T.Denot} c.args.len c.args.base c.args.free c.args.next in
    let long = length-chained g.row.T.Denot c.args.len c.args.base c.args.free c.args.next in
    let all : c.loop-index.index ≡ length cells = omega (arith, long) in
    let row = c.loop-index.invariant.row ∙ ap (λ n. filled_to n cells) all ∙ filled_all cells in
    let same : somes c.loop-index.places.row ≡ cells = ap somes row ∙ somes-map cells in
    record {
      at = c.loop-index.invariant.at;
      deed = (c.in_ok-start.ensures.2, c.in_ok-start.ensures.3, c.in_ok-start.ensures.4);
      full = row ∙ ap (λ l. map Some l) (sym same);
      long = ap length same ∙ long;
    }

pub returns : goal.returns
returns g c =
    let cells = chained {X = g.row.T.Denot} c.args.len c.args.base c.args.free c.args.next in
    let all : c.loop-index.index ≡ length cells = omega (arith, length-chained g.row.T.Denot c.args.len c.args.base c.args.free c.args.next) in
    ap somes (c.loop-index.invariant.row ∙ ap (λ n. filled_to n cells) all ∙ filled_all cells) ∙ somes-map cells
