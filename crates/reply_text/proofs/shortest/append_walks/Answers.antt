use Rattle.std.proofs.Common.{List, ℕ, ◌++◌}
use Rattle.std.specs.Prelude.{codes}
use Rattle.reply_text.specs.Shortest.{walk_words}
use Rattle.reply_text.proofs.Lines.{lists_behind}
use Rattle.reply_text.proofs.shortest.append_walks.Goals as goal

pub returns : goal.returns
returns c =
    lists_behind (λ (word : List ℕ). codes " " ++ word) c.args.to.now c.append_walk.new.to c.append_walk-2.new.to c.append_walk-2.result
    (walk_words c.args.edges.now c.args.walk.now) (walk_words c.args.edges.now c.args.cycle.now)
    c.in_ok-append_walk.ensures.whole c.in_ok-append_walk.ensures.capacity c.append_walk-2.ensures
