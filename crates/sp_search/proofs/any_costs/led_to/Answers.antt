use Rattle.std.proofs.Common.{◌≡◌, ◌∙◌, ℕ, List, get_or, refl, ap}
use Rattle.graph_defs.specs.Net.{source}
use Rattle.sp_search.specs.Lows.{begin_of}
use Rattle.sp_search.proofs.Wholes.{led_behind, led_there, led_walk}
use Rattle.sp_search.proofs.any_costs.led_to.Goals as goal

pub walk_to-requires-clause-behind : goal.walk_to-requires-clause-behind
walk_to-requires-clause-behind c =
    led_behind c.args.net.now c.args.s c.args.reach.now.queue.items c.args.reach.now.marks.items (begin_of c.args.net.now c.args.cycle) c.requires.reach c.as_slice-2.result.now c.as_slice-2.ensures.value

pub walk_to-requires-clause-there : goal.walk_to-requires-clause-there
walk_to-requires-clause-there c =
    let net = c.args.net.now in
    let e : c.source_of-node.result ≡ begin_of net c.args.cycle = c.source_of-node.ensures.is ∙ ap (λ (xs : List ℕ). source net (get_or xs 0 0)) c.as_slice.ensures in
    led_there net c.args.s c.args.reach.now.queue.items c.args.reach.now.marks.items (begin_of net c.args.cycle) c.requires.reach c.as_slice-2.result.now c.as_slice-2.ensures.value c.source_of-node.result e

pub returns : goal.returns
returns c =
    let net = c.args.net.now in
    let e : c.source_of-node.result ≡ begin_of net c.args.cycle = c.source_of-node.ensures.is ∙ ap (λ (xs : List ℕ). source net (get_or xs 0 0)) c.as_slice.ensures in
    record {
      start_is = refl;
      walk = led_walk net c.args.s c.args.reach.now.queue.items c.args.reach.now.marks.items (begin_of net c.args.cycle) c.requires.reach c.as_slice-2.result.now c.as_slice-2.ensures.value
          c.source_of-node.result c.in_ok-walk.walk e c.in_ok-walk.ensures;
      cycle_is = refl;
    }
