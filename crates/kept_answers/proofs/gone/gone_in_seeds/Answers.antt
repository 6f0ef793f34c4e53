use Rattle.std.proofs.Common.{rules, tests}
use Rattle.kept_answers.specs.Told.{gone_of_seed}
use Rattle.kept_answers.proofs.Firsts.{first_from_find_map}
use Rattle.kept_answers.proofs.gone.gone_in_seeds.Goals as goal

pub returns : goal.returns
returns c =
    first_from_find_map _ (gone_of_seed c.args.nodes.now c.args.edges.now) _ _ c.args.lines.now c.find_map.result c.find_map.ensures.runs c.iter.ensures.runs (cc)
    (λ x r q k. search (rules, tests))
