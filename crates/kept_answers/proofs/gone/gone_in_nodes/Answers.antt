use Rattle.std.proofs.Common.{rules, tests}
use Rattle.kept_answers.specs.Told.{gone_node}
use Rattle.kept_answers.proofs.Firsts.{first_from_find_map}
use Rattle.kept_answers.proofs.gone.gone_in_nodes.Goals as goal

pub returns : goal.returns
returns c =
    first_from_find_map _ (gone_node c.args.nodes.now) _ _ c.args.numbers.now c.find_map.result c.find_map.ensures.runs c.iter.ensures.runs (cc)
    (λ x r q k. search (rules, tests))
