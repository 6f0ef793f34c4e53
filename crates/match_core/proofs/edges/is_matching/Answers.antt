use Rattle.std.proofs.Common.{◌≢◌, ℕ, ◌≤◌, sym, rules}
use Rattle.std.proofs.lemmas.Bool.{true≢false}
use Rattle.graph_defs.specs.Count.{times}
use Rattle.graph_defs.specs.Matching.{degree}
use Rattle.graph_defs.specs.Net.{source, target}
use Rattle.match_core.proofs.Steps.{found_some, found_none, none_found, loops_by_arc, is_matching}
use Rattle.match_core.proofs.edges.is_matching.Goals as goal

pub returns-then-is_some : goal.returns-then-is_some
returns-then-is_some c = (
  λ t. absurd (true≢false (sym t)),
  λ m. absurd (found_some (λ (arc : ℕ). 1 ≤ times arc c.args.edges.now → source c.args.net.now arc ≢ target c.args.net.now arc) c.first_loop.result (search rules)
      c.first_loop.ensures (loops_by_arc c.args.net.now c.args.edges.now m.loops)),
)

pub returns : goal.returns
returns c = (
  λ t. is_matching c.args.net.now c.args.edges.now (search rules)
      (found_none (λ (arc : ℕ). 1 ≤ times arc c.args.edges.now → source c.args.net.now arc ≢ target c.args.net.now arc) c.first_loop.result (search rules) c.first_loop.ensures)
      (found_none (λ (node : ℕ). degree c.args.net.now node c.args.edges.now ≤ 1) c.in_ok-first_shared.field-0 (search rules) c.in_ok-first_shared.ensures),
  λ m. none_found (λ (node : ℕ). degree c.args.net.now node c.args.edges.now ≤ 1) c.in_ok-first_shared.field-0 c.is_none.result c.is_none.ensures c.in_ok-first_shared.ensures m.apart,
)
