-- Both cells lose the reversal, where there is one.
use Rattle.std.proofs.Common.{None, sym, ◌∙◌}
use Rattle.std.specs.FinMap as map
use Rattle.graph_core.proofs.Showing.{no_some}
use Rattle.graph_core.proofs.Pairs.{puts_reversal, rewires_live, unpairs_none, unpairs_some}
use Rattle.graph_core.proofs.graph.pairs.unpair.Goals as goal

pub put_reversal-requires-in-Some : goal.put_reversal-requires-in-Some
put_reversal-requires-in-Some c =
    let r = c.requires in
    let cell = r.live.0 in
    let at = r.live.1.0 in
    let puts = puts_reversal c.args.edges.now c.put_reversal.new.edges c.args.e None cell at (c.put_reversal.ensures.live cell at) c.put_reversal.ensures.made in
    rewires_live c.args.edges.now c.put_reversal.new.edges (map.remove r.reversals c.args.e) (puts r.reversals r.has) c.in-Some.f (r.partners c.args.e c.in-Some.f (r.has c.args.e cell at ∙ sym (c.put_reversal.ensures.before cell at) ∙ c.in-Some.is))

pub returns-in-Some : goal.returns-in-Some
returns-in-Some c r has =
    let q = c.requires in
    let cell = q.live.0 in
    let at = q.live.1.0 in
    let puts = puts_reversal c.args.edges.now c.put_reversal.new.edges c.args.e None cell at (c.put_reversal.ensures.live cell at) c.put_reversal.ensures.made in
    let live = rewires_live c.args.edges.now c.put_reversal.new.edges (map.remove q.reversals c.args.e) (puts q.reversals q.has) c.in-Some.f (q.partners c.args.e c.in-Some.f (q.has c.args.e cell at ∙ sym (c.put_reversal.ensures.before cell at) ∙ c.in-Some.is)) in
    unpairs_some c.args.edges.now c.put_reversal.new.edges c.put_reversal-in-Some.new.edges c.args.e c.in-Some.f puts
    (puts_reversal c.put_reversal.new.edges c.put_reversal-in-Some.new.edges c.in-Some.f None live.0 live.1.0 (c.put_reversal-in-Some.ensures.live live.0 live.1.0) c.put_reversal-in-Some.ensures.made) r has
    (has c.args.e cell at ∙ sym (c.put_reversal.ensures.before cell at) ∙ c.in-Some.is)

pub returns-in_default : goal.returns-in_default
returns-in_default c r has =
    let cell = c.requires.live.0 in
    let at = c.requires.live.1.0 in
    unpairs_none c.args.edges.now c.put_reversal.new.edges c.args.e
    (puts_reversal c.args.edges.now c.put_reversal.new.edges c.args.e None cell at (c.put_reversal.ensures.live cell at) c.put_reversal.ensures.made) r has
    (has c.args.e cell at ∙ sym (c.put_reversal.ensures.before cell at) ∙ no_some c.put_reversal.result c.in_default.not-Some)
